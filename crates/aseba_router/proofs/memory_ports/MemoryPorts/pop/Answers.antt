use Rattle.std.proofs.Common.{◌≡◌, ◌<◌, length, arith}
use Rattle.aseba_router.proofs.Queues.{popped-at}
use Rattle.aseba_router.proofs.Rooms.{room-popped}
use Rattle.aseba_router.proofs.memory_ports.MemoryPorts.pop.Goals as goal

pub returns-clause-popped : goal.returns-clause-popped
returns-clause-popped c =
    let same : c.from-index.result ≡ c.args.port = omega arith in
    let within : c.args.port < length c.self.inside.queues.items = omega arith in
    popped-at c.pop.result c.self.inside.queues.items c.args.self.now c.from-index.result c.args.port c.index_mut.result.now c.pop.new.self c.self.view_is same within c.index_mut.ensures.value c.pop.ensures.list c.pop.ensures.some c.pop.ensures.rest

pub returns-clause-room : goal.returns-clause-room
returns-clause-room c =
    let same : c.from-index.result ≡ c.args.port = omega arith in
    let within : c.args.port < length c.self.inside.queues.items = omega arith in
    room-popped c.args.port c.pop.result c.args.self.now _
    (popped-at c.pop.result c.self.inside.queues.items c.args.self.now c.from-index.result c.args.port c.index_mut.result.now c.pop.new.self c.self.view_is same within c.index_mut.ensures.value c.pop.ensures.list c.pop.ensures.some c.pop.ensures.rest)
