-- So many queues are empty.
use Rattle.std.proofs.Common.{◌≡◌, map, replicate}
use Rattle.aseba_router.specs.Memory.{empty, queue_of}
use Rattle.aseba_router.proofs.memory_ports.MemoryPorts.new.Given as goal

abbrev pub invariant-loop : goal.invariant-loop
invariant-loop l = map queue_of l.queues.items ≡ replicate l.counter (empty l.queue)
