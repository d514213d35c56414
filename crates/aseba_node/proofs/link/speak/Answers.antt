use Rattle.std.proofs.Common.{◌∙◌}
use Rattle.aseba_node.proofs.Results.{on_err}
use Rattle.aseba_node.proofs.Speaking.{speaking_goes_on, speaking_cut}
use Rattle.aseba_node.proofs.link.speak.Goals as goal

pub returns-in_err-put_frame-clause-part : goal.returns-in_err-put_frame-clause-part
returns-in_err-put_frame-clause-part g c =
    on_err c.from_residual.result _
    (speaking_cut c.loop-frame.invariant.spoke c.in-Some.ensures.rest c.in-Some.frame c.in-Some.ensures.frame c.in_err-put_frame.ensures.part)

pub loop-frame-preserved : goal.loop-frame-preserved
loop-frame-preserved g c =
    let put = c.in_ok-put_frame.ensures in
    record {
      spoke = speaking_goes_on c.loop-frame.invariant.spoke c.in-Some.ensures.rest c.in-Some.frame c.in-Some.ensures.frame put.whole;
      faults = put.count.cause ∙ c.loop-frame.invariant.faults;
      mark = put.mark ∙ c.loop-frame.invariant.mark;
    }
