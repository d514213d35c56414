use Rattle.std.proofs.Common.{refl}
use Rattle.std.proofs.lemmas.Result.{on_ok_weaker, on_err_weaker}
use Rattle.aseba_tools.proofs.Writing.{on_err}
use Rattle.aseba_edge.proofs.Puts.{cut_in_first, cut_in_second, both_taken}
use Rattle.aseba_tools.proofs.running.simulate.Goals as goal

pub returns-in_err-put_code-clause-part : goal.returns-in_err-put_code-clause-part
returns-in_err-put_code-clause-part g c =
    on_err c.from_residual-in_err-put_code.result _
    (cut_in_first _ (g.S.Sink.taken c.put_code.new.out) (g.S.Sink.taken c.put_code.new.out) _ _ _ refl (rw c.as_slice-words.ensures at c.in_err-put_code.ensures.part))

pub returns-clause-whole : goal.returns-clause-whole
returns-clause-whole g c =
    on_ok_weaker c.drive.result
    (both_taken _ (g.S.Sink.taken c.put_code.new.out) _ _ _ _ refl (rw c.as_slice-words.ensures at c.in_ok-put_code.ensures.whole))
    (rw (c.in_ok-machine.ensures, c.as_slice-words.ensures, c.as_slice-places.ensures, c.as_slice-lines.ensures) at c.drive.ensures.whole)

pub returns-clause-part : goal.returns-clause-part
returns-clause-part g c =
    on_err_weaker c.drive.result
    (cut_in_second _ (g.S.Sink.taken c.put_code.new.out) _ _ _ _ refl (rw c.as_slice-words.ensures at c.in_ok-put_code.ensures.whole))
    (rw (c.in_ok-machine.ensures, c.as_slice-words.ensures, c.as_slice-places.ensures, c.as_slice-lines.ensures) at c.drive.ensures.part)
