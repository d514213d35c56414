-- What a sink in memory takes.
use Rattle.std.specs.Prelude.{ℕ, ◌-◌, List, length, nat_le, if◌then◌else◌, Result, Ok, Err, vec_len}
use Rattle.aseba_edge.specs.declared.memory_sink.MemorySink.{MemorySink}
use Rattle.aseba_edge.specs.declared.sink.PutFault.{PutFault}
use Rattle.aseba_edge.specs.Plan.{is_named, next_call}

-- how many bytes the next put may take: none where it is to fail, and otherwise as many as there is room for
abbrev pub room_now : MemorySink → ℕ
room_now sink = if is_named sink.plan.failing (next_call sink.plan.calls) then 0 else sink.room - vec_len sink.bytes

-- the answer to a put: Ok where there is room for the piece, and otherwise a fault that took what there is room for
abbrev pub put_answer : MemorySink → List ℕ → Result (Unit {0}) PutFault
put_answer sink piece = if nat_le (length piece) (room_now sink) then Ok tt else Err record { taken = room_now sink }
