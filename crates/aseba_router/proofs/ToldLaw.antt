-- What a port is told is its sessions' shares, whatever comes back.
use Rattle.std.proofs.Common.{◌≡◌, ◌∙◌, ℕ, ◌+◌, ◌==◌, Bool, true, false, ◌&&◌, ◌||◌, if◌then◌else◌, List, [], ◌∷◌, ◌++◌, length, map, Option, None, Some, refl, sym, ap, subst, append-nil, eqb-true, zero-add}
use Rattle.std.proofs.lemmas.List.{append_assoc}
use Rattle.std.proofs.lemmas.Grind.{flat_map-append}
use Rattle.std.specs.List.{flat_map, AllByRecursion}
use Rattle.aseba_router.specs.declared.session.Session.{Session}
use Rattle.aseba_router.specs.Hub.{Act, joins, says, leaves, Put, frame, same, in_after, heard_if, inside, since, owed}
use Rattle.aseba_router.specs.Port.{Port, unused, session_after, marked, full_after, ends, Given, Steps, Retries}
use Rattle.aseba_router.specs.Told.{Deed, items, refused, joined, share, told, Fits, Follows, nothing, stepped, retried}
use Rattle.aseba_router.proofs.Snoc.{since_from-more, items-more, refused_from-more, joined-more, either, here}
use Rattle.aseba_router.proofs.Shares.{same-self, same-is, closing, inside-more, share-same, share-grows, shares-same, still-out, not-come, none-refused, none-joined, none-since, join-unheard}
use Rattle.aseba_router.proofs.Standing.{one, is_in, first_back, IsAt, Stands, stands-nothing, gain, given-gains, none-back, gain-grows, asked, none-asked, NoJoin, all-stay, none-joins, if_in, next-session, next-none, is_join, next-mark, next-full}

-- what an item adds to the shares of the last session
last-grows : (echo : Bool) (p : ℕ) (before : List Deed) (x : Act) (back : Bool) (last : Option Session) → IsAt p last → NoJoin p x
    → flat_map (share echo (before ++ record { item = x; back = back } ∷ [])) (one last) ≡ flat_map (share echo before) (one last) ++ gain (asked echo p (is_in last (items before)) (first_back last before) x) back
last-grows echo p before x back None at elsewhere = ap (λ a. gain a back) (sym (none-asked echo p x None))
last-grows echo p before x back (Some s) at elsewhere = pick (inside s (items before)) refl
  where
    pick : (b : Bool) → inside s (items before) ≡ b →
        share echo (before ++ record { item = x; back = back } ∷ []) s ++ [] ≡ (share echo before s ++ []) ++ gain (asked echo p (if_in b s) (refused s before) x) back
    pick true e = append-nil _ ∙ share-grows echo before (record { item = x; back = back }) s e ∙ ap (λ l. share echo before s ++ l) (sym (gain-grows echo p s x back (refused s before) at))
        ∙ ap (λ l. l ++ gain (asked echo p (Some s) (refused s before) x) back) (sym (append-nil (share echo before s)))
    pick false e = append-nil _ ∙ share-same echo before (record { item = x; back = back }) s e (all-stay p (s ∷ []) x (at, tt) elsewhere).0 ∙ sym (append-nil _)
        ∙ ap (λ l. (share echo before s) ++ l) refl ∙ sym (append-nil _) ∙ ap (λ a. (share echo before s ++ []) ++ gain a back) (sym (none-asked echo p x (refused s before)))

marks : (echo : Bool) (p : ℕ) (before : List Deed) (x : Act) (back : Bool) (last : Option Session) → (asked echo p (is_in last (items before)) (first_back last before) x ≡ None → back ≡ false)
    → marked (length before) back (first_back last before) ≡ first_back last (before ++ record { item = x; back = back } ∷ [])
marks echo p before x back None none = ap (λ b. marked (length before) b None) (none (none-asked echo p x None))
marks echo p before x back (Some s) none =
    next-mark (length before) (refused s before) (inside s (items before)) back
    (λ e. none (ap (λ b. asked echo p (if_in b s) (refused s before) x) e ∙ none-asked echo p x (refused s before)))
    ∙ ap (λ n. either (refused s before) (here (inside s (items before) && back) n)) (sym (zero-add (length before)))
    ∙ sym (refused_from-more s false 0 before (record { item = x; back = back }))

sessions-next : (p : ℕ) (before : List Deed) (x : Act) (back : Bool) (last : Option Session) → IsAt p last → NoJoin p x → session_after p x (is_in last (items before)) ≡ is_in last (items (before ++ record { item = x; back = back } ∷ []))
sessions-next p before x back None at elsewhere = next-none p x elsewhere
sessions-next p before x back (Some s) at elsewhere =
    next-session p s (inside s (items before)) x at elsewhere ∙ ap (λ b. if_in b s) (sym (inside-more s before (record { item = x; back = back })))

join-asks : (echo : Bool) (p : ℕ) (session : Option Session) (full : Option ℕ) (x : Act) → is_join x ≡ true → asked echo p session full x ≡ None
join-asks echo p session full (joins t) e = refl
join-asks echo p session full (says t f) e = absurd cc
join-asks echo p session full (leaves t) e = absurd cc

-- an item by which no session of the port joins
stands-on : (echo : Bool) (p : ℕ) (before : List Deed) (x : Act) (back : Bool) (old new : Port) (list list' : List Put) → NoJoin p x → Stands echo p before old list → Steps echo p (length before) x back old list new list'
    → Stands echo p (before ++ record { item = x; back = back } ∷ []) new list'
stands-on echo p before x back old new list list' elsewhere st step =
    let d : Deed = record { item = x; back = back } in
    let given : Given (asked echo p (is_in st.last (items before)) (first_back st.last before) x) back list old.waiting list' new.waiting =
    subst (λ a. Given a back list old.waiting list' new.waiting)
    (ap (λ s. asked echo p s old.full x) st.session ∙ ap (λ r. asked echo p (is_in st.last (items before)) r x) st.full) step.given in
    let none : asked echo p (is_in st.last (items before)) (first_back st.last before) x ≡ None → back ≡ false = none-back _ back list list' old.waiting new.waiting given in
    let sessions : joined p (items (before ++ d ∷ [])) ≡ st.past ++ one st.last =
    ap (joined p) (items-more before d) ∙ joined-more p (items before) x ∙ ap (λ l. joined p (items before) ++ l) (none-joins p x elsewhere) ∙ append-nil _ ∙ st.sessions in
    let stay = all-stay p st.past x st.past_at elsewhere in
    let as_shares : told echo p before ≡ flat_map (share echo before) st.past ++ flat_map (share echo before) (one st.last) =
    ap (flat_map (share echo before)) st.sessions ∙ flat_map-append (share echo before) st.past (one st.last) in
    let as_shares_then : told echo p (before ++ d ∷ []) ≡ flat_map (share echo before) st.past ++ flat_map (share echo (before ++ d ∷ [])) (one st.last) =
    ap (flat_map (share echo (before ++ d ∷ []))) sessions ∙ flat_map-append (share echo (before ++ d ∷ [])) st.past (one st.last)
    ∙ ap (λ l. l ++ flat_map (share echo (before ++ d ∷ [])) (one st.last)) (shares-same echo before d st.past st.gone stay) in
    let gains = gain (asked echo p (is_in st.last (items before)) (first_back st.last before) x) back in
    record {
      past = st.past;
      last = st.last;
      sessions = sessions;
      gone = still-out before d st.past st.gone stay;
      first = st.first;
      last_at = st.last_at;
      past_at = st.past_at;
      session = step.session ∙ ap (session_after p x) st.session ∙ sessions-next p before x back st.last st.last_at elsewhere;
      full =
          step.full ∙ ap (full_after p (length before) x back) st.full
          ∙ next-full p (length before) x (first_back st.last before) back elsewhere (λ e. none (join-asks echo p _ _ x e))
          ∙ marks echo p before x back st.last none;
      shares =
          given-gains _ back list list' old.waiting new.waiting given
          ∙ ap (λ l. l ++ gains) (st.shares ∙ as_shares)
          ∙ append_assoc (flat_map (share echo before) st.past) (flat_map (share echo before) (one st.last)) gains
          ∙ ap (λ l. flat_map (share echo before) st.past ++ l) (sym (last-grows echo p before x back st.last st.last_at elsewhere))
          ∙ sym as_shares_then;
    }

-- a session that joins is none of the sessions before it
apart : (t : Session) (sessions : List Session) → AllByRecursion (λ s. same t s ≡ false) sessions → AllByRecursion (λ s. in_after s false (joins t) ≡ false) sessions
apart t [] all = tt
apart t (s ∷ later) all = (turned s t all.0, apart t later all.1)
  where
    turned : (s t : Session) → same t s ≡ false → same s t ≡ false
    turned s t e = pick (same s t) refl
      where
        pick : (c : Bool) → same s t ≡ c → c ≡ false
        pick false h = refl
        pick true h = let is : same t s ≡ true = ap (same t) (same-is s t h) ∙ same-self t in absurd cc

all-of : (P : Session → Type 0) (xs ys zs : List Session) → zs ≡ xs ++ ys → AllByRecursion P zs → AllByRecursion P (xs ++ ys)
all-of P xs ys zs e all = subst (AllByRecursion P) e all

all-end : (P : Session → Type 0) (xs : List Session) (last : Option Session) → AllByRecursion P xs → AllByRecursion P (one last) → AllByRecursion P (xs ++ one last)
all-end P [] last all there = there
all-end P (x ∷ xs) last all there = (all.0, all-end P xs last all.1 there)

last-left : (p : ℕ) (before : List Act) (t : Session) (last : Option Session) → IsAt p last → t.port ≡ p → ((s : Session) → s.port ≡ t.port → inside s before ≡ false) → AllByRecursion (λ s. inside s before ≡ false) (one last)
last-left p before t None at at_p left = tt
last-left p before t (Some s) at at_p left = (left s (at ∙ sym at_p), tt)

last-at : (p : ℕ) (last : Option Session) → IsAt p last → AllByRecursion (λ s. s.port ≡ p) (one last)
last-at p None at = tt
last-at p (Some s) at = (at, tt)

-- an item by which a session of the port joins
stands-joined : (echo : Bool) (p : ℕ) (before : List Deed) (t : Session) (back : Bool) (old new : Port) (list list' : List Put) → (t.port == p) ≡ true → Fits (items before) (joins t) → Stands echo p before old list
    → Steps echo p (length before) (joins t) back old list new list' → Stands echo p (before ++ record { item = joins t; back = back } ∷ []) new list'
stands-joined echo p before t back old new list list' here_p fits st step =
    let d : Deed = record { item = joins t; back = back } in
    let at_p : t.port ≡ p = eqb-true t.port p here_p in
    let past : List Session = st.past ++ one st.last in
    let all_out : AllByRecursion (λ s. inside s (items before) ≡ false) past = all-end (λ s. inside s (items before) ≡ false) st.past st.last st.gone (last-left p (items before) t st.last st.last_at at_p fits.1) in
    let stay : AllByRecursion (λ s. in_after s false (joins t) ≡ false) past = apart t past (subst (AllByRecursion (λ s. same t s ≡ false)) st.sessions (none-joined t p (items before) fits.0)) in
    let sessions : joined p (items (before ++ d ∷ [])) ≡ past ++ t ∷ [] =
    ap (joined p) (items-more before d) ∙ joined-more p (items before) (joins t)
    ∙ ap (λ (b : Bool). joined p (items before) ++ (if b then t ∷ [] else [])) here_p ∙ ap (λ l. l ++ t ∷ []) st.sessions in
    let is_in_now : inside t (items (before ++ d ∷ [])) ≡ true =
    inside-more t before d ∙ ap (λ b. b || same t t) (not-come t (items before) fits.0) ∙ same-self t in
    let none_refused : refused t (before ++ d ∷ []) ≡ None =
    refused_from-more t false 0 before d
    ∙ ap (λ r. either r (here (inside t (items before) && back) (0 + length before))) (none-refused t 0 before fits.0)
    ∙ ap (λ b. here (b && back) (0 + length before)) (not-come t (items before) fits.0) in
    let nothing_since : since echo t (items (before ++ d ∷ [])) ≡ [] =
    ap (since echo t) (items-more before d) ∙ since_from-more echo t false (items before) (joins t)
    ∙ ap (λ l. l ++ heard_if (inside t (items before)) echo t (joins t)) (none-since echo t (items before) fits.0)
    ∙ join-unheard (inside t (items before)) echo t t in
    let nothing_yet : share echo (before ++ d ∷ []) t ≡ [] =
    ap (λ r. map frame (owed echo t r (items (before ++ d ∷ []))) ++ closing (inside t (items (before ++ d ∷ []))) t) none_refused
    ∙ ap (λ b. map frame (since echo t (items (before ++ d ∷ []))) ++ closing b t) is_in_now
    ∙ ap (λ l. map frame l ++ []) nothing_since in
    record {
      past = past;
      last = Some t;
      sessions = sessions;
      gone = still-out before d past all_out stay;
      first = λ e. absurd cc;
      last_at = at_p;
      past_at = all-end (λ s. s.port ≡ p) st.past st.last st.past_at (last-at p st.last st.last_at);
      session = step.session ∙ ap (λ (b : Bool). if b then Some t else old.session) here_p ∙ ap (λ b. if_in b t) (sym is_in_now);
      full = step.full ∙ ap (λ (b : Bool). if b then None else old.full) here_p ∙ sym none_refused;
      shares =
          ap (λ l. l ++ ends new.waiting) step.given.1 ∙ ap (λ w. list ++ ends w) step.given.2 ∙ st.shares
          ∙ ap (flat_map (share echo before)) st.sessions
          ∙ sym (shares-same echo before d past all_out stay)
          ∙ sym (append-nil _) ∙ ap (λ l. flat_map (share echo (before ++ d ∷ [])) past ++ l) (sym (ap (λ l. l ++ []) nothing_yet))
          ∙ sym (flat_map-append (share echo (before ++ d ∷ [])) past (t ∷ []))
          ∙ ap (flat_map (share echo (before ++ d ∷ []))) (sym sessions);
    }

-- any item
stands-step : (echo : Bool) (p : ℕ) (before : List Deed) (x : Act) (back : Bool) (old new : Port) (list list' : List Put) → Fits (items before) x → Stands echo p before old list → Steps echo p (length before) x back old list new list'
    → Stands echo p (before ++ record { item = x; back = back } ∷ []) new list'
stands-step echo p before (joins t) back old new list list' fits st step = pick (t.port == p) refl
  where
    pick : (c : Bool) → (t.port == p) ≡ c → Stands echo p (before ++ record { item = joins t; back = back } ∷ []) new list'
    pick true here_p = stands-joined echo p before t back old new list list' here_p fits st step
    pick false elsewhere = stands-on echo p before (joins t) back old new list list' elsewhere st step
stands-step echo p before (says t f) back old new list list' fits st step = stands-on echo p before (says t f) back old new list list' tt st step
stands-step echo p before (leaves t) back old new list list' fits st step = stands-on echo p before (leaves t) back old new list list' tt st step

-- a try of the Ends that wait
stands-retried : (echo : Bool) (p : ℕ) (deeds : List Deed) (back : Bool) (old new : Port) (list list' : List Put) → Stands echo p deeds old list → Retries back old list new list' → Stands echo p deeds new list'
stands-retried echo p deeds back old new list list' st again = record {
  past = st.past;
  last = st.last;
  sessions = st.sessions;
  gone = st.gone;
  first = st.first;
  last_at = st.last_at;
  past_at = st.past_at;
  session = again.session ∙ st.session;
  full = again.full ∙ st.full;
  shares = again.given ∙ st.shares;
}

pub follows-stands : (echo : Bool) (p : ℕ) (deeds : List Deed) (port : Port) (list : List Put) → Follows echo p deeds port list → Stands echo p deeds port list
follows-stands echo p deeds port list (nothing no_deeds no_row no_list) =
    subst (λ (ds : List Deed). Stands echo p ds port list) (sym no_deeds)
    (subst (λ (r : Port). Stands echo p [] r list) (sym no_row) (subst (Stands echo p [] unused) (sym no_list) (stands-nothing echo p)))
follows-stands echo p deeds port list (stepped before item back old list_before earlier fits deeds_are step) =
    subst (λ (ds : List Deed). Stands echo p ds port list) (sym deeds_are)
    (stands-step echo p before item back old port list_before list fits (follows-stands echo p before old list_before earlier) step)
follows-stands echo p deeds port list (retried back old list_before earlier again) =
    stands-retried echo p deeds back old port list_before list (follows-stands echo p deeds old list_before earlier) again

-- the list, and then the Ends that wait, are the shares of the port's sessions
pub told-law : (echo : Bool) (p : ℕ) (deeds : List Deed) (port : Port) (list : List Put) → Follows echo p deeds port list → list ++ ends port.waiting ≡ told echo p deeds
told-law echo p deeds port list follows = (follows-stands echo p deeds port list follows).shares
