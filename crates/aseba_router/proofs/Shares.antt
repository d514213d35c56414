-- What one item more changes in a port's shares.
use Rattle.std.proofs.Common.{◌≡◌, ◌∙◌, ℕ, ◌+◌, ◌==◌, Bool, true, false, ◌&&◌, ◌||◌, if◌then◌else◌, List, [], ◌∷◌, ◌++◌, map, Option, None, Some, refl, sym, ap, append-nil, eqb-true, eq-eqb}
use Rattle.std.proofs.lemmas.List.{append_assoc, map-append}
use Rattle.std.specs.List.{flat_map, AllByRecursion}
use Rattle.aseba_router.specs.declared.session.Session.{Session}
use Rattle.aseba_router.specs.Hub.{Act, joins, says, leaves, Put, frame, end, same, in_after, heard_if, inside_from, inside, since_from, owed}
use Rattle.aseba_router.specs.Told.{Deed, items, refused_from, refused, joined, share, came}
use Rattle.aseba_router.proofs.Snoc.{inside_from-more, items-more, gained, owed-more}

-- both of two tests
both-first : (a b : Bool) → (a && b) ≡ true → a ≡ true
both-first true b h = refl
both-first false b h = absurd cc

both-second : (a b : Bool) → (a && b) ≡ true → b ≡ true
both-second true b h = h
both-second false b h = absurd cc

-- a session is itself, and no other one
pub same-self : (s : Session) → same s s ≡ true
same-self s = ap (λ b. b && (s.nth == s.nth)) (eq-eqb s.port s.port refl) ∙ eq-eqb s.nth s.nth refl

pub same-is : (s t : Session) → same s t ≡ true → s ≡ t
same-is s t h =
    let port : s.port ≡ t.port = eqb-true s.port t.port (both-first (s.port == t.port) (s.nth == t.nth) h) in
    let nth : s.nth ≡ t.nth = eqb-true s.nth t.nth (both-second (s.port == t.port) (s.nth == t.nth) h) in
    let of : ℕ → ℕ → Session = λ p n. record { port = p; nth = n } in
    ap (λ p. of p s.nth) port ∙ ap (of t.port) nth

pub same-other : (s t : Session) → (s.port == t.port) ≡ false → same s t ≡ false
same-other s t h = ap (λ b. b && (s.nth == t.nth)) h

-- the End of a session that isn't in
abbrev pub closing : Bool → Session → List Put
closing b s = if b then [] else end s ∷ []

pub inside-more : (s : Session) (before : List Deed) (d : Deed) → inside s (items (before ++ d ∷ [])) ≡ in_after s (inside s (items before)) d.item
inside-more s before d = ap (inside s) (items-more before d) ∙ inside_from-more s false (items before) d.item

-- a session that isn't in and doesn't join has the same share
pub share-same : (echo : Bool) (before : List Deed) (d : Deed) (s : Session) → inside s (items before) ≡ false → in_after s false d.item ≡ false → share echo (before ++ d ∷ []) s ≡ share echo before s
share-same echo before d s out stays =
    let now : inside s (items (before ++ d ∷ [])) ≡ false = inside-more s before d ∙ ap (λ b. in_after s b d.item) out ∙ stays in
    let nothing : gained echo s (refused s before) (inside s (items before)) d ≡ [] = ap (λ b. gained echo s (refused s before) b d) out ∙ none (refused s before) in
    let same_owed : owed echo s (refused s (before ++ d ∷ [])) (items (before ++ d ∷ [])) ≡ owed echo s (refused s before) (items before) = owed-more echo s before d ∙ ap (λ l. owed echo s (refused s before) (items before) ++ l) nothing ∙ append-nil _ in
    ap (λ l. map frame l ++ closing (inside s (items (before ++ d ∷ []))) s) same_owed
    ∙ ap (λ b. map frame (owed echo s (refused s before) (items before)) ++ closing b s) (now ∙ sym out)
  where
    none : (r : Option ℕ) → gained echo s r false d ≡ []
    none None = refl
    none (Some first) = refl

-- what the share of a session that is in grows by
abbrev pub grown : Bool → Session → Option ℕ → Deed → List Put
grown echo s r d = map frame (gained echo s r true d) ++ closing (in_after s true d.item) s

pub share-grows : (echo : Bool) (before : List Deed) (d : Deed) (s : Session) → inside s (items before) ≡ true → share echo (before ++ d ∷ []) s ≡ share echo before s ++ grown echo s (refused s before) d
share-grows echo before d s is_in =
    let now : inside s (items (before ++ d ∷ [])) ≡ in_after s true d.item = inside-more s before d ∙ ap (λ b. in_after s b d.item) is_in in
    let so_far = owed echo s (refused s before) (items before) in
    let owed_now : owed echo s (refused s (before ++ d ∷ [])) (items (before ++ d ∷ [])) ≡ so_far ++ gained echo s (refused s before) true d =
    owed-more echo s before d ∙ ap (λ b. so_far ++ gained echo s (refused s before) b d) is_in in
    ap (λ l. map frame l ++ closing (inside s (items (before ++ d ∷ []))) s) owed_now
    ∙ ap (λ b. map frame (so_far ++ gained echo s (refused s before) true d) ++ closing b s) now
    ∙ ap (λ l. l ++ closing (in_after s true d.item) s) (map-append frame so_far (gained echo s (refused s before) true d))
    ∙ append_assoc (map frame so_far) (map frame (gained echo s (refused s before) true d)) (closing (in_after s true d.item) s)
    ∙ ap (λ l. l ++ grown echo s (refused s before) d) (sym (append-nil (map frame so_far)) ∙ ap (λ b. map frame so_far ++ closing b s) (sym is_in))

-- sessions that are out and don't join have the same shares
pub shares-same : (echo : Bool) (before : List Deed) (d : Deed) (sessions : List Session) → AllByRecursion (λ s. inside s (items before) ≡ false) sessions → AllByRecursion (λ s. in_after s false d.item ≡ false) sessions
    → flat_map (share echo (before ++ d ∷ [])) sessions ≡ flat_map (share echo before) sessions
shares-same echo before d [] out stay = refl
shares-same echo before d (s ∷ later) out stay =
    ap (λ l. l ++ flat_map (share echo (before ++ d ∷ [])) later) (share-same echo before d s out.0 stay.0)
    ∙ ap (λ l. share echo before s ++ l) (shares-same echo before d later out.1 stay.1)

pub still-out : (before : List Deed) (d : Deed) (sessions : List Session) → AllByRecursion (λ s. inside s (items before) ≡ false) sessions → AllByRecursion (λ s. in_after s false d.item ≡ false) sessions
    → AllByRecursion (λ s. inside s (items (before ++ d ∷ [])) ≡ false) sessions
still-out before d [] out stay = tt
still-out before d (s ∷ later) out stay = (inside-more s before d ∙ ap (λ b. in_after s b d.item) out.0 ∙ stay.0, still-out before d later out.1 stay.1)

-- a session that hasn't come is out, is owed nothing, and nothing was refused for it
pub not-come : (s : Session) (before : List Act) → came s before ≡ false → inside s before ≡ false
not-come s [] h = refl
not-come s (joins t ∷ before) h = pick (same s t) h (not-come s before)
  where
    pick : (c : Bool) → (c || came s before) ≡ false → (came s before ≡ false → inside s before ≡ false) → inside_from s c before ≡ false
    pick true e rest = absurd cc
    pick false e rest = rest e
not-come s (says t f ∷ before) h = not-come s before h
not-come s (leaves t ∷ before) h = not-come s before h

-- an item by which a session doesn't come
pub comes-not : (s : Session) (x : Act) (later : List Act) → came s (x ∷ later) ≡ false → (in_after s false x ≡ false) × (came s later ≡ false)
comes-not s (joins t) later h = pick (same s t) h
  where
    pick : (c : Bool) → (c || came s later) ≡ false → (c ≡ false) × (came s later ≡ false)
    pick true e = absurd cc
    pick false e = (refl, e)
comes-not s (says t f) later h = (refl, h)
comes-not s (leaves t) later h = (refl, h)

pub none-refused : (s : Session) (place : ℕ) (before : List Deed) → came s (items before) ≡ false → refused_from s false place before ≡ None
none-refused s place [] h = refl
none-refused s place (d ∷ before) h =
    let never = comes-not s d.item (items before) h in
    ap (λ b. refused_from s b (place + 1) before) never.0 ∙ none-refused s (place + 1) before never.1

-- a session that hasn't come is none of a port's
pub none-joined : (s : Session) (p : ℕ) (before : List Act) → came s before ≡ false → AllByRecursion (λ t. same s t ≡ false) (joined p before)
none-joined s p [] h = tt
none-joined s p (joins t ∷ before) h = pick (t.port == p) (apart (same s t) h) (none-joined s p before (comes-not s (joins t) before h).1)
  where
    apart : (c : Bool) → (c || came s before) ≡ false → c ≡ false
    apart true e = absurd cc
    apart false e = refl

    pick : (c : Bool) → same s t ≡ false → AllByRecursion (λ t. same s t ≡ false) (joined p before) → AllByRecursion (λ t. same s t ≡ false) (if c then t ∷ joined p before else joined p before)
    pick true one rest = (one, rest)
    pick false one rest = rest
none-joined s p (says t f ∷ before) h = none-joined s p before h
none-joined s p (leaves t ∷ before) h = none-joined s p before h

pub none-since : (echo : Bool) (s : Session) (before : List Act) → came s before ≡ false → since_from echo s false before ≡ []
none-since echo s [] h = refl
none-since echo s (x ∷ before) h =
    let never = comes-not s x before h in
    ap (λ b. since_from echo s b before) never.0 ∙ none-since echo s before never.1

-- nobody hears a join
pub join-unheard : (b echo : Bool) (s t : Session) → heard_if b echo s (joins t) ≡ []
join-unheard true echo s t = refl
join-unheard false echo s t = refl
