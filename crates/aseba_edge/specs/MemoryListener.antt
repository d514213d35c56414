-- What a listener in memory was opened at, the links that it has left, gave and got back.
use Rattle.std.specs.Prelude.{List, map, reverse, Some}
use Rattle.aseba_edge.specs.declared.memory_in.MemoryIn.{MemoryIn}
use Rattle.aseba_edge.specs.declared.memory_link.MemoryLink.{MemoryLink}
use Rattle.aseba_edge.specs.declared.memory_listener.MemoryListener.{MemoryListener}
use Rattle.aseba_edge.specs.declared.memory_out.MemoryOut.{MemoryOut}
use Rattle.aseba_edge.specs.Listener.{Linked, Listened}

-- a link in memory as it stands
abbrev pub linked : MemoryIn → MemoryOut → Linked
linked input output = record { mark = Some input.mark; input = Some input.tape; taken = Some output.sink.bytes.items }

-- the links that a listener has left, in the order in which it gives them: it keeps the next one last
abbrev pub links_left : MemoryListener → List MemoryLink
links_left listener = reverse listener.links.items

-- a listener in memory as it stands
abbrev pub listened_by : MemoryListener → Listened
listened_by listener =
    record {
      opened = listener.ports.items;
      left = map (λ link. linked link.input link.output) (links_left listener);
      gave = map (λ mark. Some mark) listener.gave.items;
      back = map (λ ends. linked ends.input ends.output) listener.back.items;
      has_ended = listener.has_ended;
    }
