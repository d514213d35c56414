use Rattle.aseba_expand.specs.Scope.{program_of}
use Rattle.aseba_expand.proofs.ListedLaws.{next-fits, parts-made}
use Rattle.aseba_expand.proofs.expansion.parts.Goals as goal

pub part-requires-clause-room : goal.part-requires-clause-room
part-requires-clause-room c =
    (next-fits (program_of c.args.scope.now) c.args.handlers.now c.loop-handler.handler-index c.handler-item.result c.loop-handler-test.true c.handler-item.is c.loop-handler.invariant.room).0

pub loop-handler-preserved : goal.loop-handler-preserved
loop-handler-preserved c =
    let program = program_of c.args.scope.now in
    let handlers = c.args.handlers.now in
    record {
      made = parts-made program handlers c.loop-handler.handler-index c.handler-item.result c.loop-handler.built c.add.new.self c.in_ok-part.field-0 _ c.loop-handler-test.true c.handler-item.is c.in_ok-add.ensures.ok c.in_ok-part.ensures c.loop-handler.invariant.made;
      room = (next-fits program handlers c.loop-handler.handler-index c.handler-item.result c.loop-handler-test.true c.handler-item.is c.loop-handler.invariant.room).1;
    }
