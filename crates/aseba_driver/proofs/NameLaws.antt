-- Events that are found by their names.
use Rattle.std.proofs.Common.{◌≡◌, ℕ, ◌+◌, ◌-◌, nat_lt, Bool, not, List, [], ◌∷◌, map, Option, Some, None, refl, sym, ap, ◌∙◌, cond}
use Rattle.std.specs.Prelude.{position, bytes_eq, option_map}
use Rattle.std.specs.Option.{option_or}
use Rattle.std.specs.List.{prefix_len}
use Rattle.std.proofs.lemmas.List.{length-map}
use Rattle.aseba_tree.specs.Code as tree
use Rattle.aseba_tree.specs.Code.{Name}
use Rattle.aseba_tree.specs.Line.{named}
use Rattle.aseba_tree.specs.Events.{event_number}
use Rattle.aseba_tree.specs.View.{sized_view, local_view, project_view}
use Rattle.aseba_tree.specs.declared.description.Sized.{Sized}
use Rattle.aseba_tree.specs.declared.description.Local.{Local}
use Rattle.aseba_tree.specs.declared.project.Project.{Project}
use Rattle.aseba_driver.specs.Reading.{place_of_event, place_of_local}

-- the first place in a mapped list
prefix_viewed : {X Y : Type 0} (q : Y → Bool) (f : X → Y) (xs : List X) → prefix_len q (map f xs) ≡ prefix_len (λ x. q (f x)) xs
prefix_viewed q f [] = refl
prefix_viewed q f (x ∷ xs) = ap (λ n. cond (q (f x)) (1 + n) 0) (prefix_viewed q f xs)

abbrev place_at : ℕ → ℕ → Option ℕ
place_at i len = cond (nat_lt i len) (Some i) None

position_viewed : {X Y : Type 0} (p : Y → Bool) (f : X → Y) (xs : List X) → position p (map f xs) ≡ position (λ x. p (f x)) xs
position_viewed p f xs = λ i. place_at (prefix_viewed (λ y. not (p y)) f xs i) (length-map xs f i)

events_viewed : (name : Name) (events : List Sized) → position (λ (e : tree.Sized). bytes_eq e.name name) (map sized_view events) ≡ place_of_event name events
events_viewed name events = position_viewed (λ (e : tree.Sized). bytes_eq e.name name) sized_view events

locals_viewed : (name : Name) (locals : List Local) → position (λ (l : tree.Local). bytes_eq l.name name) (map local_view locals) ≡ place_of_local name locals
locals_viewed name locals = position_viewed (λ (l : tree.Local). bytes_eq l.name name) local_view locals

number_is : (p : Project) (name : Name) → event_number (project_view p) (named name) ≡ option_or (place_of_event name p.events) (option_map (λ i. 0xFFFE - i) (place_of_local name p.node.locals))
number_is p name = λ i. option_or (events_viewed name p.events i) (option_map (λ i. 0xFFFE - i) (locals_viewed name p.node.locals i))

pub global_number : (p : Project) (name : Name) (i : ℕ) → Some i ≡ place_of_event name p.events → Some i ≡ event_number (project_view p) (named name)
global_number p name i e = ap (λ o. option_or o (option_map (λ i. 0xFFFE - i) (place_of_local name p.node.locals))) e ∙ sym (number_is p name)

pub local_number : (p : Project) (name : Name) (i : ℕ) → None ≡ place_of_event name p.events → Some i ≡ place_of_local name p.node.locals → Some (0xFFFE - i) ≡ event_number (project_view p) (named name)
local_number p name i e f = (λ j. option_or (e j) (option_map (λ i. 0xFFFE - i) (f j))) ∙ sym (number_is p name)

pub no_number : (p : Project) (name : Name) → None ≡ place_of_event name p.events → None ≡ place_of_local name p.node.locals → None ≡ event_number (project_view p) (named name)
no_number p name e f = (λ j. option_or (e j) (option_map (λ i. 0xFFFE - i) (f j))) ∙ sym (number_is p name)
