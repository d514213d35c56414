-- The numbers of a project's events: that of a global one is its place, and that of a local one 0xFFFE minus its place.
use Rattle.std.specs.Prelude.{ℕ, ◌-◌, nat_lt, nat_le, Bool, ◌&&◌, ◌||◌, List, length, position, bytes_eq, slice_get, Option, Some, option_map, unwrap_or}
use Rattle.std.specs.Option.{option_or}
use Rattle.aseba_tree.specs.Code.{Project}
use Rattle.aseba_tree.specs.Line.{Event, named, numbered}

-- a number that an event of the project has
abbrev pub is_event_number : Project → ℕ → Bool
is_event_number project n = nat_lt n (length project.events) || nat_le n 0xFFFE && nat_lt (0xFFFE - n) (length project.node.locals)

-- the number of an event: of a name that both have, the global one's; none where the project has no event of the name
abbrev pub event_number : Project → Event → Option ℕ
event_number project (numbered n) = Some n
event_number project (named name) =
    option_or (position (λ event. bytes_eq event.name name) project.events)
    (option_map (λ i. 0xFFFE - i) (position (λ event. bytes_eq event.name name) project.node.locals))

-- the event that is sent under a number: by its name where the project has a global event of that number
abbrev pub event_of : Project → ℕ → Event
event_of project n = unwrap_or (option_map (λ event. named event.name) (slice_get project.events n)) (numbered n)
