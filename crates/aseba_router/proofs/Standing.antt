-- What stands in a port's row and list, of all that happened.
use Rattle.std.proofs.Common.{◌≡◌, ◌∙◌, ℕ, ◌==◌, Bool, true, false, ◌&&◌, ◌||◌, not, if◌then◌else◌, List, [], ◌∷◌, ◌++◌, map, Option, None, Some, refl, sym, ap, append-nil, eq-eqb}
use Rattle.std.specs.List.{AllByRecursion}
use Rattle.aseba_message.specs.Message.{Message}
use Rattle.aseba_router.specs.declared.session.Session.{Session}
use Rattle.aseba_router.specs.Hub.{Act, joins, says, leaves, Put, frame, end, same, in_after, inside}
use Rattle.aseba_router.specs.Port.{Port, unused, session_after, asks, marked, full_after, ends, kept, Given}
use Rattle.aseba_router.specs.Told.{Deed, items, refused, joined, told}
use Rattle.aseba_router.proofs.Snoc.{gained, either, here}
use Rattle.aseba_router.proofs.Shares.{same-is, closing, grown}

-- the last session of a port, where it has had one
abbrev pub one : Option Session → List Session
one None = []
one (Some s) = s ∷ []

abbrev pub is_in : Option Session → List Act → Option Session
is_in None before = None
is_in (Some s) before = if inside s before then Some s else None

abbrev pub first_back : Option Session → List Deed → Option ℕ
first_back None before = None
first_back (Some s) before = refused s before

abbrev pub IsAt : ℕ → Option Session → Type 0
IsAt p None = Unit {0}
IsAt p (Some s) = s.port ≡ p

-- All of a port's sessions but the last one have left. The row knows of the last one what came of it, and the list is the shares.
pub record Stands (echo : Bool) (p : ℕ) (deeds : List Deed) (port : Port) (list : List Put) : Type 0 where
  pub past : List Session
  pub last : Option Session
  pub sessions : joined p (items deeds) ≡ past ++ one last
  pub gone : AllByRecursion (λ s. inside s (items deeds) ≡ false) past
  pub first : last ≡ None → past ≡ []
  pub last_at : IsAt p last
  pub past_at : AllByRecursion (λ s. s.port ≡ p) past
  pub session : port.session ≡ is_in last (items deeds)
  pub full : port.full ≡ first_back last deeds
  pub shares : list ++ ends port.waiting ≡ told echo p deeds

pub stands-nothing : (echo : Bool) (p : ℕ) → Stands echo p [] unused []
stands-nothing echo p = record { past = []; last = None; sessions = refl; gone = tt; first = λ e. refl; last_at = tt; past_at = tt; session = refl; full = refl; shares = refl }

-- what a list gains by an entry, with what waits behind it
abbrev pub gain : Option Put → Bool → List Put
gain None back = []
gain (Some put) false = put ∷ []
gain (Some put) true = kept put

pub given-gains : (asked : Option Put) (back : Bool) (list list' : List Put) (waiting waiting' : List Session) → Given asked back list waiting list' waiting' → list' ++ ends waiting' ≡ (list ++ ends waiting) ++ gain asked back
given-gains None back list list' waiting waiting' g = ap (λ l. l ++ ends waiting') g.1 ∙ ap (λ w. list ++ ends w) g.2 ∙ sym (append-nil _)
given-gains (Some put) false list list' waiting waiting' g = ap (λ w. list' ++ ends w) g.1 ∙ append-nil list' ∙ g.0
given-gains (Some put) true list list' waiting waiting' g = g.0

-- nothing comes back where nothing is pushed
pub none-back : (asked : Option Put) (back : Bool) (list list' : List Put) (waiting waiting' : List Session) → Given asked back list waiting list' waiting' → asked ≡ None → back ≡ false
none-back None back list list' waiting waiting' g e = g.0
none-back (Some put) back list list' waiting waiting' g e = absurd cc

-- what is asked for where this session is in, or none
abbrev pub asked : Bool → ℕ → Option Session → Option ℕ → Act → Option Put
asked echo p session full x = asks echo p (record { session = session; waiting = []; full = full }) x

-- what is pushed for a session that is in is what its share grows by
heard-grows : (c back : Bool) (echo : Bool) (s t : Session) (f : Message) → (echo || not (same s t)) ≡ c
    → gain (if c then Some (frame f) else None) back ≡ grown echo s None (record { item = says t f; back = back })
heard-grows true false echo s t f e = ap (λ (b : Bool). map frame (if b then f ∷ [] else []) ++ []) (sym e)
heard-grows true true echo s t f e = refl
heard-grows false false echo s t f e = ap (λ (b : Bool). map frame (if b then f ∷ [] else []) ++ []) (sym e)
heard-grows false true echo s t f e = refl

end-grows : (c here back : Bool) (s t : Session) → same s t ≡ c → (same s t ≡ true → here ≡ true) → (same s t ≡ true → s ≡ t)
    → gain (if here && c then Some (end t) else None) back ≡ closing (not c) s
end-grows true true true s t e at is = ap (λ u. end u ∷ []) (sym (is e))
end-grows true true false s t e at is = ap (λ u. end u ∷ []) (sym (is e))
end-grows true false back s t e at is = let wrong : false ≡ true = at e in absurd cc
end-grows false true back s t e at is = refl
end-grows false false back s t e at is = refl

nothing-heard : (echo : Bool) (s t : Session) (r : Option ℕ) (back : Bool) → gained echo s r true (record { item = leaves t; back = back }) ≡ []
nothing-heard echo s t None true = refl
nothing-heard echo s t None false = refl
nothing-heard echo s t (Some first) back = refl

pub gain-grows : (echo : Bool) (p : ℕ) (s : Session) (x : Act) (back : Bool) (full : Option ℕ) → s.port ≡ p → gain (asked echo p (Some s) full x) back ≡ grown echo s full (record { item = x; back = back })
gain-grows echo p s (joins t) true None at = refl
gain-grows echo p s (joins t) false None at = refl
gain-grows echo p s (joins t) back (Some first) at = refl
gain-grows echo p s (says t f) back None at = heard-grows (echo || not (same s t)) back echo s t f refl
gain-grows echo p s (says t f) back (Some first) at = refl
gain-grows echo p s (leaves t) back full at =
    let at_p : same s t ≡ true → (t.port == p) ≡ true = λ e. eq-eqb t.port p (ap (λ (u : Session). u.port) (sym (same-is s t e)) ∙ at) in
    end-grows (same s t) (t.port == p) back s t refl at_p (same-is s t)
    ∙ ap (λ l. map frame l ++ closing (not (same s t)) s) (sym (nothing-heard echo s t full back))

-- where none is in, nothing is asked for
pub none-asked : (echo : Bool) (p : ℕ) (x : Act) (full : Option ℕ) → asked echo p None full x ≡ None
none-asked echo p (joins t) full = refl
none-asked echo p (says t f) full = refl
none-asked echo p (leaves t) full = pick (t.port == p)
  where
    pick : (c : Bool) → (if c && false then Some (end t) else None) ≡ None
    pick true = refl
    pick false = refl

-- no session of port p joins by an item
abbrev pub NoJoin : ℕ → Act → Type 0
NoJoin p (joins t) = (t.port == p) ≡ false
NoJoin p (says t f) = Unit {0}
NoJoin p (leaves t) = Unit {0}

other-port : (p : ℕ) (s t : Session) → s.port ≡ p → (t.port == p) ≡ false → same s t ≡ false
other-port p s t at other = pick (same s t) refl
  where
    pick : (c : Bool) → same s t ≡ c → c ≡ false
    pick false e = refl
    pick true e = let at_p : (t.port == p) ≡ true = eq-eqb t.port p (ap (λ (u : Session). u.port) (sym (same-is s t e)) ∙ at) in absurd cc

stays-out : (p : ℕ) (s : Session) (x : Act) → s.port ≡ p → NoJoin p x → in_after s false x ≡ false
stays-out p s (joins t) at elsewhere = other-port p s t at elsewhere
stays-out p s (says t f) at elsewhere = refl
stays-out p s (leaves t) at elsewhere = refl

pub all-stay : (p : ℕ) (sessions : List Session) (x : Act) → AllByRecursion (λ s. s.port ≡ p) sessions → NoJoin p x → AllByRecursion (λ s. in_after s false x ≡ false) sessions
all-stay p [] x at elsewhere = tt
all-stay p (s ∷ later) x at elsewhere = (stays-out p s x at.0 elsewhere, all-stay p later x at.1 elsewhere)

pub none-joins : (p : ℕ) (x : Act) → NoJoin p x → joined p (x ∷ []) ≡ []
none-joins p (joins t) elsewhere = ap (λ (b : Bool). if b then t ∷ [] else []) elsewhere
none-joins p (says t f) elsewhere = refl
none-joins p (leaves t) elsewhere = refl

-- the row's session behind an item by which no session of the port joins
abbrev pub if_in : Bool → Session → Option Session
if_in b s = if b then Some s else None

pub next-session : (p : ℕ) (s : Session) (b : Bool) (x : Act) → s.port ≡ p → NoJoin p x → session_after p x (if_in b s) ≡ if_in (in_after s b x) s
next-session p s true (joins t) at elsewhere = ap (λ (c : Bool). if c then Some t else Some s) elsewhere
next-session p s false (joins t) at elsewhere = ap (λ (c : Bool). if c then Some t else None) elsewhere ∙ ap (λ (c : Bool). if_in c s) (sym (other-port p s t at elsewhere))
next-session p s b (says t f) at elsewhere = refl
next-session p s true (leaves t) at elsewhere = pick (same s t) (t.port == p) (λ e. eq-eqb t.port p (ap (λ (u : Session). u.port) (sym (same-is s t e)) ∙ at)) refl
  where
    pick : (c here : Bool) → (same s t ≡ true → here ≡ true) → same s t ≡ c → (if here && c then None else Some s) ≡ if_in (not c) s
    pick true true at_p e = refl
    pick true false at_p e = let wrong : false ≡ true = at_p e in absurd cc
    pick false true at_p e = refl
    pick false false at_p e = refl
next-session p s false (leaves t) at elsewhere = pick (t.port == p)
  where
    pick : (here : Bool) → (if here && false then None else None) ≡ if_in false s
    pick true = refl
    pick false = refl

abbrev pub no_session : Option Session
no_session = None

pub next-none : (p : ℕ) (x : Act) → NoJoin p x → session_after p x None ≡ None
next-none p (joins t) elsewhere = ap (λ (c : Bool). if c then Some t else None) elsewhere
next-none p (says t f) elsewhere = refl
next-none p (leaves t) elsewhere = pick (t.port == p)
  where
    pick : (here : Bool) → (if here && false then no_session else no_session) ≡ no_session
    pick true = refl
    pick false = refl

-- the row's mark behind an item by which no session of the port joins
abbrev pub is_join : Act → Bool
is_join (joins t) = true
is_join (says t f) = false
is_join (leaves t) = false

pub next-mark : (place : ℕ) (r : Option ℕ) (b back : Bool) → (b ≡ false → back ≡ false) → marked place back r ≡ either r (here (b && back) place)
next-mark place (Some first) b true in_it = refl
next-mark place (Some first) b false in_it = refl
next-mark place None true true in_it = refl
next-mark place None true false in_it = refl
next-mark place None false true in_it = let wrong : true ≡ false = in_it refl in absurd cc
next-mark place None false false in_it = refl

pub next-full : (p place : ℕ) (x : Act) (r : Option ℕ) (back : Bool) → NoJoin p x → (is_join x ≡ true → back ≡ false) → full_after p place x back r ≡ marked place back r
next-full p place (joins t) r back elsewhere join =
    ap (λ (c : Bool). if c then None else r) elsewhere ∙ ap (λ (c : Bool). marked place c r) (sym (join refl))
next-full p place (says t f) r back elsewhere join = refl
next-full p place (leaves t) r back elsewhere join = refl
