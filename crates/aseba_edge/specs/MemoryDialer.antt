-- What a dialer in memory was asked for and gave, and what it has left to give.
use Rattle.std.specs.Prelude.{◌≡◌, ℕ, List, [], ◌∷◌, ◌++◌, drop, map, filter, reverse, is_some, IsSomeAnd, Option, None, Some, Result, Ok, Err}
use Rattle.aseba_edge.specs.declared.dialer.DialFault.{DialFault}
use Rattle.aseba_edge.specs.declared.dialer.DialFault.TheVariants.{Refused, Mem}
use Rattle.aseba_edge.specs.declared.memory_dialer.Dial.{Dial}
use Rattle.aseba_edge.specs.declared.memory_dialer.MemoryDialer.{MemoryDialer}
use Rattle.aseba_edge.specs.declared.memory_in.MemoryIn.{MemoryIn}
use Rattle.aseba_edge.specs.declared.memory_link.MemoryLink.{MemoryLink}
use Rattle.aseba_edge.specs.declared.memory_link.MemoryPolledLink.{MemoryPolledLink}
use Rattle.aseba_edge.specs.declared.memory_out.MemoryOut.{MemoryOut}
use Rattle.aseba_edge.specs.declared.memory_poll.MemoryPoll.{MemoryPoll}
use Rattle.aseba_edge.specs.Dialer.{Dialed}

-- the addresses of all dials, and the marks of those that gave a link
abbrev pub dialed_by : List Dial → Dialed
dialed_by dials = record { asked = map (λ dial. dial.address) dials; gave = filter is_some (map (λ dial. dial.mark) dials) }

-- the links that a dialer has left, in the order in which it gives them: it keeps the next one last
abbrev pub links_left : MemoryDialer → List MemoryLink
links_left dialer = reverse dialer.links.items

-- the same of the links that are polled
abbrev pub polled_left : MemoryDialer → List MemoryPolledLink
polled_left dialer = reverse dialer.polled.items

-- A dial gives both ends of the link that is due, and is refused where none is. Want of memory may come at any time.
abbrev pub GivesDue : Option MemoryLink → Result (MemoryIn × MemoryOut) DialFault → Type 0
GivesDue link (Ok ends) = IsSomeAnd link (λ link. (link.input ≡ ends.0) × (link.output ≡ ends.1))
GivesDue link (Err Refused) = link ≡ None
GivesDue link (Err Mem) = Unit {0}

-- the same of a link that is polled
abbrev pub GivesDuePolled : Option MemoryPolledLink → Result (MemoryPoll × MemoryOut) DialFault → Type 0
GivesDuePolled link (Ok ends) = IsSomeAnd link (λ link. (link.input ≡ ends.0) × (link.output ≡ ends.1))
GivesDuePolled link (Err Refused) = link ≡ None
GivesDuePolled link (Err Mem) = Unit {0}

-- the links that are left behind an answer: all but the first where one was given, and all where none was
abbrev pub left_behind : {Link Ends : Type 0} → Result Ends DialFault → List Link → List Link
left_behind (Ok ends) links = drop 1 links
left_behind (Err fault) links = links

-- the dials that are left behind an answer: one more, with the mark of the link if one was given; want of memory leaves no trace
abbrev pub dials_after : {Ends : Type 0} → List ℕ → (Ends → ℕ) → Result Ends DialFault → List Dial → List Dial
dials_after address mark (Ok ends) dials = dials ++ record { address = address; mark = Some (mark ends) } ∷ []
dials_after address mark (Err Refused) dials = dials ++ record { address = address; mark = None } ∷ []
dials_after address mark (Err Mem) dials = dials
