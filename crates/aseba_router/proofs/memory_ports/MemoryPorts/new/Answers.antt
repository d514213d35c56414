use Rattle.std.proofs.Common.{◌≡◌, ◌∙◌, List, replicate, ap, arith}
use Rattle.aseba_router.specs.Memory.{empty, queue_at}
use Rattle.aseba_router.specs.Queue.{Queue}
use Rattle.aseba_router.proofs.Made.{queues-more}
use Rattle.aseba_router.proofs.Rooms.{empty-first}
use Rattle.aseba_router.proofs.memory_ports.MemoryPorts.new.Goals as goal

pub loop-preserved : goal.loop-preserved
loop-preserved c = queues-more c.loop.queues.items c.push.new.self.items c.loop.counter c.args.queue c.in_ok-new.field-0 c.in_ok-push.ensures.items c.in_ok-new.ensures c.loop.invariant

pub returns-clause-made : goal.returns-clause-made
returns-clause-made c =
    let all : c.loop.counter ≡ c.args.ports = omega arith in
    c.loop.invariant ∙ ap (λ n. replicate n (empty c.args.queue)) all

pub returns-clause-empty : goal.returns-clause-empty
returns-clause-empty c = λ p. ap (λ (l : List Queue). (queue_at l p).list) c.loop.invariant ∙ empty-first c.loop.counter c.args.queue p
