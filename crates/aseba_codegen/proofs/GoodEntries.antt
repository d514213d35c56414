-- What a good entry of a script says: the numbers of its event, and that each action of a script is good.
use Rattle.std.proofs.Common.{◌≡◌, ℕ, zero, suc, ◌-◌, ◌<◌, ◌≤◌, ◌≢◌, ◌==◌, Bool, true, false, if◌then◌else◌, nat_lt, is_some, List, [], ◌∷◌, length, Option, Some, None, refl, sym, arith, true≢false, ltb-true, All}
use Rattle.std.specs.List.{list_all, position_or_len}
use Rattle.std.specs.Option.{option_or}
use Rattle.std.specs.Prelude.{map, filter, option_map, position, bytes_eq}
use Rattle.aseba_tree.specs.Code.{Project, Sized}
use Rattle.aseba_tree.specs.Line.{Event, named, numbered}
use Rattle.aseba_tree.specs.Events.{event_number}
use Rattle.aseba_tree.specs.GoodScript.{is_good_event, is_good_action, is_good_script}
use Rattle.aseba_tree.specs.Script.{Entry, Script, actions_at}
use Rattle.aseba_codegen.proofs.Values.{and-left, and-right}

-- an event has a number, and it isn't that of the init code
abbrev pub HasNumber : Project → Event → Type 0
HasNumber project event = (number : ℕ) × (event_number project event ≡ Some number) × (number ≢ 65535)

number-of-local : (o : Option ℕ) → is_some (option_map (λ i. 0xFFFE - i) o) ≡ true → (number : ℕ) × (option_map (λ i. 0xFFFE - i) o ≡ Some number) × (number ≢ 65535)
number-of-local None h = absurd (true≢false (sym h))
number-of-local (Some i) h = (0xFFFE - i, refl, omega arith)

number-of-name : (n long : ℕ) (o : Option ℕ) → long ≤ 4096 → is_some (option_or (if nat_lt n long then Some n else None) (option_map (λ i. 0xFFFE - i) o)) ≡ true
    → (number : ℕ) × (option_or (if nat_lt n long then Some n else None) (option_map (λ i. 0xFFFE - i) o) ≡ Some number) × (number ≢ 65535)
number-of-name n long o few h = by_test (nat_lt n long) refl h
  where
    by_test : (b : Bool) → nat_lt n long ≡ b → is_some (option_or (if b then Some n else None) (option_map (λ i. 0xFFFE - i) o)) ≡ true
        → (number : ℕ) × (option_or (if b then Some n else None) (option_map (λ i. 0xFFFE - i) o) ≡ Some number) × (number ≢ 65535)
    by_test true e g = let below : n < long = ltb-true n long e in (n, refl, omega arith)
    by_test false e g = number-of-local o g

pub good-number : (project : Project) (event : Event) → length project.events ≤ 4096 → is_good_event project event ≡ true → HasNumber project event
good-number project (named name) few h =
    number-of-name (position_or_len (λ event. bytes_eq event.name name) project.events) (length project.events) (position (λ event. bytes_eq event.name name) project.node.locals) few h
good-number project (numbered n) few h = let low : n < 0x8000 = ltb-true n 0x8000 (and-left _ _ h) in (n, refl, omega arith)

all-of : {A : Type 0} (test : A → Bool) (x : A) (xs : List A) → test x ≡ true → All (λ y. test y ≡ true) xs → All (λ y. test y ≡ true) (x ∷ xs)
all-of test x xs here rest zero d below = here
all-of test x xs here rest (suc k) d below = rest k d (omega arith)

all-from : {A : Type 0} (test : A → Bool) (xs : List A) → list_all test xs ≡ true → All (λ x. test x ≡ true) xs
all-from test [] h = λ k d below. absurd (omega arith)
all-from test (x ∷ xs) h = all-of test x xs (and-left _ _ h) (all-from test xs (and-right _ _ h))

good-among : (project : Project) (variables : List Sized) (script : Script) (n : ℕ) → is_good_script project variables script ≡ true → list_all (is_good_action project variables) (actions_at script n) ≡ true
good-among project variables [] n h = refl
good-among project variables (entry ∷ script) n h = by_test (entry.time == n) (and-left _ _ h) (good-among project variables script n (and-right _ _ h))
  where
    by_test : (b : Bool) → is_good_action project variables entry.action ≡ true → list_all (is_good_action project variables) (actions_at script n) ≡ true
        → list_all (is_good_action project variables) (map (λ (e : Entry). e.action) (if b then entry ∷ filter (λ (e : Entry). e.time == n) script else filter (λ (e : Entry). e.time == n) script)) ≡ true
    by_test true good rest = rw (good, rest) refl
    by_test false good rest = rest

pub good-actions : (project : Project) (variables : List Sized) (script : Script) → is_good_script project variables script ≡ true → (n : ℕ) → All (λ action. is_good_action project variables action ≡ true) (actions_at script n)
good-actions project variables script h n = all-from (is_good_action project variables) (actions_at script n) (good-among project variables script n h)
