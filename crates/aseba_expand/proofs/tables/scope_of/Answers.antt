use Rattle.std.proofs.Common.{arith}
use Rattle.aseba_expand.proofs.Names.{cells-short, scope-knows, scope-program}
use Rattle.aseba_expand.proofs.tables.scope_of.Goals as goal

pub filled-requires-clause-globals : goal.filled-requires-clause-globals
filled-requires-clause-globals c = let few = c.requires.inside.events.few in omega (arith, few)

pub filled-requires-clause-locals : goal.filled-requires-clause-locals
filled-requires-clause-locals c = let few = c.requires.inside.node.locals.few in omega (arith, few)

pub filled-requires-clause-cells : goal.filled-requires-clause-cells
filled-requires-clause-cells c = cells-short c.args.project.now c.args.checked.now c.requires

pub returns-clause-names : goal.returns-clause-names
returns-clause-names c = scope-knows c.filled.result c.args.project.now c.args.checked.now c.requires c.filled.ensures

pub returns-clause-program : goal.returns-clause-program
returns-clause-program c = scope-program c.filled.result c.args.project.now c.args.checked.now c.filled.ensures
