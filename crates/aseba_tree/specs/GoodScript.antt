-- The entries that a script may have, where a node has these variables.
use Rattle.std.specs.Prelude.{ℕ, ◌+◌, nat_lt, nat_le, is_some, Bool, false, not, ◌&&◌, ℤ, List, length, Option, Some, None}
use Rattle.std.specs.List.{list_all}
use Rattle.aseba_tree.specs.Code.{Name, Sized, Project}
use Rattle.aseba_tree.specs.Line.{Event, named, numbered}
use Rattle.aseba_tree.specs.Value.{is_cell}
use Rattle.aseba_tree.specs.Events.{event_number, is_event_number}
use Rattle.aseba_tree.specs.Layout.{address_of}
use Rattle.aseba_tree.specs.Script.{Action, arrives, sets, Entry, Script}

-- an event by name is one of the project, global or local; one by number is below 0x8000 and none of the project
abbrev pub is_good_event : Project → Event → Bool
is_good_event project (named name) = is_some (event_number project (named name))
is_good_event project (numbered n) = nat_lt n 0x8000 && not (is_event_number project n)

-- so many cells from one on are inside a variable, which has an address and a size
abbrev pub is_inside : Option (ℕ × ℕ) → (first count : ℕ) → Bool
is_inside None first count = false
is_inside (Some place) first count = nat_le (first + count) place.1

-- A good event comes from a source below 65536, and its arguments are cells; cells are written inside one of the variables.
abbrev pub is_good_action : Project → List Sized → Action → Bool
is_good_action project variables (arrives event source args) = is_good_event project event && nat_lt source 65536 && list_all is_cell args
is_good_action project variables (sets name first values) = is_inside (address_of variables name) first (length values) && list_all is_cell values

-- the action of every entry is good; neither the times nor the number of arguments have a bound
abbrev pub is_good_script : Project → List Sized → Script → Bool
is_good_script project variables script = list_all (λ entry. is_good_action project variables entry.action) script
