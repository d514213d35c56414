use Rattle.std.proofs.Common.{◌∙◌}
use Rattle.aseba_driver.proofs.LineTexts.{on_err}
use Rattle.aseba_driver.proofs.RunTold.{one_more_variable, variable_cut_short}
use Rattle.aseba_driver.proofs.driving.put_variables.Goals as goal

pub returns-in_err-put_variable-clause-part : goal.returns-in_err-put_variable-clause-part
returns-in_err-put_variable-clause-part g c =
    let so_far = c.loop-variable.invariant.0 in
    on_err c.from_residual.result _
    (variable_cut_short _ (g.S.Sink.taken c.loop-variable.out) _ so_far.0 _ c.args.cells.now _ c.loop-variable.variable-index c.variable-item.result c.loop-variable-test.true c.variable-item.is so_far.1 so_far.2
    c.in_err-put_variable.ensures.part)

pub loop-variable-preserved : goal.loop-variable-preserved
loop-variable-preserved g c =
    let so_far = c.loop-variable.invariant.0 in (
      one_more_variable _ (g.S.Sink.taken c.loop-variable.out) _ so_far.0 _ c.args.cells.now _ c.loop-variable.variable-index c.variable-item.result c.loop-variable-test.true c.variable-item.is so_far.1 so_far.2
          c.in_ok-put_variable.ensures.whole,
      c.in_ok-put_variable.ensures.count.cause ∙ c.loop-variable.invariant.1,
    )
