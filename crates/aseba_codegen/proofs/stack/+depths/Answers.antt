use Rattle.std.proofs.Common.{arith}
use Rattle.aseba_codegen.proofs.DepthLaws.{if-depth, edge-depth, loop-depth}
use Rattle.aseba_codegen.proofs.stack.+depths.Goals as goal

pub form_depth-returns-in-If : goal.form_depth-returns-in-If
form_depth-returns-in-If t c =
    if-depth c.args.most c.args.depths.now c.args.form.now c.in-If.test c.get-in-If.result.now c.in-If.body c.in-If.other c.test_depth.result c.list_depth.result c.list_depth-in-If.result c.max-in-If.result
    c.in-If.is c.get-in-If.ensures c.test_depth.ensures c.list_depth.ensures c.list_depth-in-If.ensures (omega (arith, c.max.ensures, c.max-in-If.ensures))

pub form_depth-returns-in-When : goal.form_depth-returns-in-When
form_depth-returns-in-When t c =
    edge-depth c.args.most c.args.depths.now c.args.form.now c.in-When.test c.get-in-When.result.now c.in-When.body c.test_depth-in-When.result c.list_depth-in-When.result c.max-in-When.result
    c.in-When.is c.get-in-When.ensures c.test_depth-in-When.ensures c.list_depth-in-When.ensures (omega (arith, c.max-in-When.ensures))

pub form_depth-returns-in-While : goal.form_depth-returns-in-While
form_depth-returns-in-While t c =
    loop-depth c.args.most c.args.depths.now c.args.form.now c.in-While.test c.get-in-While.result.now c.in-While.body c.test_depth-in-While.result c.list_depth-in-While.result c.max-in-While.result
    c.in-While.is c.get-in-While.ensures c.test_depth-in-While.ensures c.list_depth-in-While.ensures (omega (arith, c.max-in-While.ensures))
