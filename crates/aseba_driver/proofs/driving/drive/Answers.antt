use Rattle.std.proofs.lemmas.Result.{on_ok_weaker, on_err_weaker}
use Rattle.aseba_edge.proofs.Puts.{cut_in_first, cut_in_second, both_taken}
use Rattle.aseba_driver.proofs.LineTexts.{on_err}
use Rattle.aseba_driver.proofs.RunTold.{run_parts, run_begins}
use Rattle.aseba_driver.proofs.driving.drive.Goals as goal

pub returns-in_err-end-clause-part : goal.returns-in_err-end-clause-part
returns-in_err-end-clause-part g c =
    on_err c.from_residual.result _
    (cut_in_first _ (g.S.Sink.taken c.run_script.new.out) (g.S.Sink.taken c.run_script.new.out) _ _ _ (run_begins c.args.legend.now c.args.script.now c.args.ticks c.args.machine.now) c.in_err-end.ensures.part)

pub returns-clause-whole : goal.returns-clause-whole
returns-clause-whole g c =
    on_ok_weaker c.put_ending.result
    (both_taken _ (g.S.Sink.taken c.run_script.new.out) _ _ _ _ (run_parts c.args.legend.now c.args.script.now c.args.ticks c.args.machine.now c.run_script.new.machine c.in_ok-end.end c.in_ok-end.ensures.end) c.in_ok-end.ensures.whole)
    (rw (c.own_places.ensures, c.cells.ensures.value) at c.put_ending.ensures.whole)

pub returns-clause-part : goal.returns-clause-part
returns-clause-part g c =
    on_err_weaker c.put_ending.result
    (cut_in_second _ (g.S.Sink.taken c.run_script.new.out) _ _ _ _ (run_parts c.args.legend.now c.args.script.now c.args.ticks c.args.machine.now c.run_script.new.machine c.in_ok-end.end c.in_ok-end.ensures.end) c.in_ok-end.ensures.whole)
    (rw (c.own_places.ensures, c.cells.ensures.value) at c.put_ending.ensures.part)
