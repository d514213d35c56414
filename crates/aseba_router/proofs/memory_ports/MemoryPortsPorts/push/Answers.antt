use Rattle.std.proofs.Common.{◌≡◌, ◌<◌, length, is_err, ap, arith}
use Rattle.std.proofs.lemmas.List.{length-map}
use Rattle.aseba_router.specs.Memory.{queue_of}
use Rattle.aseba_router.specs.Shown.{put}
use Rattle.aseba_router.proofs.Queues.{pushed-at, others-at}
use Rattle.aseba_router.proofs.memory_ports.MemoryPortsPorts.push.Goals as goal

pub returns-clause-pushed : goal.returns-clause-pushed
returns-clause-pushed c =
    let same : c.from.result ≡ c.args.port = omega arith in
    let within : c.args.port < length c.self.inside.queues.items = omega (arith, c.requires.there, ap length c.self.view_is, length-map c.self.inside.queues.items queue_of) in
    pushed-at (is_err c.push.result) (put c.args.entry) c.self.inside.queues.items c.args.self.now c.from.result c.args.port c.index_mut.result.now c.push.new.self c.self.view_is same within c.index_mut.ensures.value c.push.ensures.pushed

pub returns-clause-others : goal.returns-clause-others
returns-clause-others c =
    let same : c.from.result ≡ c.args.port = omega arith in
    others-at c.self.inside.queues.items c.args.self.now c.from.result c.args.port c.push.new.self c.self.view_is same
