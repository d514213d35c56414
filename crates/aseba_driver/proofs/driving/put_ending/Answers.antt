use Rattle.std.proofs.Common.{refl}
use Rattle.std.proofs.lemmas.Result.{on_err_weaker}
use Rattle.aseba_edge.proofs.Puts.{cut_in_second}
use Rattle.aseba_driver.proofs.driving.put_ending.Goals as goal

pub returns-clause-part : goal.returns-clause-part
returns-clause-part g c =
    on_err_weaker c.put_end.result (cut_in_second _ (g.S.Sink.taken c.put_variables.new.out) _ _ _ _ refl c.in_ok-put_variables.ensures.whole) c.put_end.ensures.part
