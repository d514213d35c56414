-- The numbers of events: no two names have one, and each handler of a source without a fault has one.
use Rattle.std.proofs.Common.{inl, inr, ◌≡◌, refl, sym, ◌∙◌, subst, ℕ, suc, ◌+◌, ◌-◌, ◌≤◌, ◌<◌, Bool, true, false, not, ◌&&◌, ◌||◌, List, [], ◌∷◌, ◌++◌, arith, Some, None, is_some, length, nat_lt}
use Rattle.std.specs.Prelude.{cond, bytes_eq, find, option_map, ◌⊎◌}
use Rattle.std.specs.List.{list_any, position_or_len}
use Rattle.std.specs.Option.{option_or}
use Rattle.std.proofs.lemmas.Bool.{ltb-true, lt-ltb}
use Rattle.std.proofs.lemmas.Slice.Eq.{bytes_eq-Decides}
use Rattle.aseba_tree.specs.Code.{Name, Handler, Sized, Local, Project}
use Rattle.aseba_tree.specs.Line.{named}
use Rattle.aseba_tree.specs.State.{Program}
use Rattle.aseba_tree.specs.Faults.{fault_if, unknown, World, global_event, is_event, part_name_faults, stmts_faults, parts_faults}
use Rattle.aseba_tree.specs.Events.{event_number}
use Rattle.aseba_tree.proofs.SizeLaws.{nil_left, nil_right, no_fault, not_false}

-- the numbers of global and of local events don't meet
abbrev pub AreFew : Project → Type 0
AreFew project = length project.events + length project.node.locals ≤ 0xFFFE

-- Places of names

same-place : {X : Type 0} (nm : X → Name) (xs : List X) (a b : Name) → position_or_len (λ x. bytes_eq (nm x) a) xs < length xs → position_or_len (λ x. bytes_eq (nm x) a) xs ≡ position_or_len (λ x. bytes_eq (nm x) b) xs → a ≡ b
same-place nm [] a b h e = absurd (omega (arith, h))
same-place {X} nm (x ∷ xs) a b h e = pick (bytes_eq (nm x) a) (bytes_eq (nm x) b) refl refl (same-place nm xs a b) h e
  where
    pa : ℕ
    pa = position_or_len (λ (x : X). bytes_eq (nm x) a) xs

    pb : ℕ
    pb = position_or_len (λ (x : X). bytes_eq (nm x) b) xs

    pick : (s t : Bool) → bytes_eq (nm x) a ≡ s → bytes_eq (nm x) b ≡ t → (pa < length xs → pa ≡ pb → a ≡ b) → cond (not s) (1 + pa) 0 < suc (length xs) → cond (not s) (1 + pa) 0 ≡ cond (not t) (1 + pb) 0 → a ≡ b
    pick true true es et deeper h e = sym ((bytes_eq-Decides (nm x) a).0 es) ∙ (bytes_eq-Decides (nm x) b).0 et
    pick true false es et deeper h e = absurd (omega (arith, e))
    pick false true es et deeper h e = absurd (omega (arith, e))
    pick false false es et deeper h e = deeper (omega (arith, h)) (omega (arith, e))

-- a place among so many
pub record IsPlace (k n : ℕ) (i : ℕ) : Type 0 where
  pub same : k ≡ i
  pub less : k < n

some-place : (k n i : ℕ) → cond (nat_lt k n) (Some k) None ≡ Some i → IsPlace k n i
some-place k n i e = pick (nat_lt k n) refl e
  where
    pick : (b : Bool) → nat_lt k n ≡ b → cond b (Some k) None ≡ Some i → IsPlace k n i
    pick true t e = record { same = (let s : k ≡ i = cc in s); less = ltb-true k n t }
    pick false t e = cc

-- Numbers of events

abbrev global_place : Project → Name → ℕ
global_place project name = position_or_len (λ event. bytes_eq event.name name) project.events

abbrev local_place : Project → Name → ℕ
local_place project name = position_or_len (λ event. bytes_eq event.name name) project.node.locals

-- the number is a global event's place, or counts back from 0xFFFE to a local one's
abbrev pub Numbered : Project → Name → ℕ → Type 0
Numbered project name k = IsPlace (global_place project name) (length project.events) k ⊎ ((local_place project name < length project.node.locals) × (k ≡ 0xFFFE - local_place project name))

pub numbered-as : (project : Project) (name : Name) (k : ℕ) → event_number project (named name) ≡ Some k → Numbered project name k
numbered-as project name k e =
    by (nat_lt (global_place project name) (length project.events)) refl (nat_lt (local_place project name) (length project.node.locals)) refl e
  where
    by : (g : Bool) → nat_lt (global_place project name) (length project.events) ≡ g → (l : Bool) → nat_lt (local_place project name) (length project.node.locals) ≡ l
        → option_or (cond g (Some (global_place project name)) None) (option_map (λ i. 0xFFFE - i) (cond l (Some (local_place project name)) None)) ≡ Some k → Numbered project name k
    by true eg l el e = inl (record { same = (let s : global_place project name ≡ k = cc in s); less = ltb-true (global_place project name) (length project.events) eg })
    by false eg true el e = inr (ltb-true (local_place project name) (length project.node.locals) el, (let s : 0xFFFE - local_place project name ≡ k = cc in sym s))
    by false eg false el e = cc

pub one-number : (project : Project) (a b : Name) (k : ℕ) → AreFew project → Numbered project a k → Numbered project b k → a ≡ b
one-number project a b k few (inl x) (inl y) = same-place (λ (event : Sized). event.name) project.events a b x.less (x.same ∙ sym y.same)
one-number project a b k few (inl x) (inr y) = absurd (let s = x.same in let l = x.less in omega (arith, s, l, y.0, y.1, few))
one-number project a b k few (inr x) (inl y) = absurd (let s = y.same in let l = y.less in omega (arith, s, l, x.0, x.1, few))
one-number project a b k few (inr x) (inr y) = same-place (λ (local : Local). local.name) project.node.locals a b x.0 (omega (arith, x.0, x.1, y.0, y.1, few))

-- Handlers

cc_of : false ≡ true → ⊥
cc_of e = cc

-- each handler's event has a number
abbrev pub KnownParts : Program → List Handler → Type 0
KnownParts program [] = Unit {0}
KnownParts program (h ∷ hs) = (h.is_sub ≡ false → is_some (event_number program.project (named h.name)) ≡ true) × KnownParts program hs

-- Each handler of a source without a fault handles an event of its project.

pub any-place : {X : Type 0} (p : X → Bool) (xs : List X) → list_any p xs ≡ true → nat_lt (position_or_len p xs) (length xs) ≡ true
any-place p [] e = cc
any-place p (x ∷ xs) e = pick (p x) (any-place p xs) e
  where
    pick : (b : Bool) → (list_any p xs ≡ true → nat_lt (position_or_len p xs) (length xs) ≡ true) → (b || list_any p xs) ≡ true → nat_lt (cond (not b) (1 + position_or_len p xs) 0) (suc (length xs)) ≡ true
    pick true deeper e = lt-ltb 0 (suc (length xs)) (omega arith)
    pick false deeper e = let less = ltb-true (position_or_len p xs) (length xs) (deeper e) in lt-ltb (1 + position_or_len p xs) (suc (length xs)) (omega (arith, less))

pub find-any : {X : Type 0} (p : X → Bool) (xs : List X) → is_some (find p xs) ≡ list_any p xs
find-any p [] = refl
find-any p (x ∷ xs) = pick (p x) (find-any p xs)
  where
    pick : (b : Bool) → is_some (find p xs) ≡ list_any p xs → is_some (cond b (Some x) (find p xs)) ≡ (b || list_any p xs)
    pick true e = refl
    pick false e = e

event-known : (project : Project) (name : Name) → is_event project name ≡ true → is_some (event_number project (named name)) ≡ true
event-known project name e = by (nat_lt (global_place project name) (length project.events)) refl
  where
    by : (g : Bool) → nat_lt (global_place project name) (length project.events) ≡ g
        → is_some (option_or (cond g (Some (global_place project name)) None) (option_map (λ i. 0xFFFE - i) (cond (nat_lt (local_place project name) (length project.node.locals)) (Some (local_place project name)) None))) ≡ true
    by true eg = refl
    by false eg = local (is_some (global_event project name)) refl e
      where
        local : (b : Bool) → is_some (global_event project name) ≡ b → (b || list_any (λ local. bytes_eq local.name name) project.node.locals) ≡ true
            → is_some (option_map (λ i. 0xFFFE - i) (cond (nat_lt (local_place project name) (length project.node.locals)) (Some (local_place project name)) None)) ≡ true
        local true eb e = absurd (cc_of (sym eg ∙ any-place (λ event. bytes_eq event.name name) project.events (sym (find-any (λ (event : Sized). bytes_eq event.name name) project.events) ∙ eb)))
        local false eb e = rw (any-place (λ (local : Local). bytes_eq local.name name) project.node.locals e) refl

pub parts-known : (program : Program) (world : World) → world.project ≡ program.project → (before hs : List Handler) → parts_faults world before hs ≡ [] → KnownParts program hs
parts-known program world same before [] e = tt
parts-known program world same before (h ∷ hs) e =
    let front = nil_left (part_name_faults world.project before h ++ stmts_faults world h.body) _ e in
    let own = nil_left (fault_if (not h.is_sub && not (is_event world.project h.name)) h.place unknown) _ (nil_left (part_name_faults world.project before h) _ front) in
    let no = no_fault (not h.is_sub && not (is_event world.project h.name)) h.place unknown own in (
      λ is_handler. subst (λ p. is_some (event_number p (named h.name)) ≡ true) same (event-known world.project h.name (handled h.is_sub (is_event world.project h.name) is_handler no)),
      parts-known program world same (before ++ h ∷ []) hs (nil_right (part_name_faults world.project before h ++ stmts_faults world h.body) _ e),
    )
  where
    handled : (s k : Bool) → s ≡ false → (not s && not k) ≡ false → k ≡ true
    handled true k p q = cc
    handled false k p q = not_false k q
