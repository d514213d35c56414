use Rattle.std.proofs.Common.{refl}
use Rattle.aseba_edge.proofs.Puts.{cut_in_first, cut_in_second, both_taken}
use Rattle.aseba_driver.proofs.LineTexts.{on_err}
use Rattle.aseba_driver.proofs.EntriesDone.{act_there, entry_end}
use Rattle.aseba_driver.proofs.driving.do_entry.Goals as goal

pub returns-in_err-now-clause-part : goal.returns-in_err-now-clause-part
returns-in_err-now-clause-part g c =
    on_err c.from_residual.result _ (cut_in_first _ (g.S.Sink.taken c.advance.new.out) (g.S.Sink.taken c.advance.new.out) _ _ _ refl c.in_err-now.ensures.part)

pub returns-in_err-act-clause-part : goal.returns-in_err-act-clause-part
returns-in_err-act-clause-part g c =
    on_err c.from_residual-in_err-act.result _
    (cut_in_second _ (g.S.Sink.taken c.advance.new.out) _ _ _ _
    (act_there c.args.legend.now c.args.moment c.args.machine.now c.args.entry.now c.in_ok-now.now c.advance.new.machine c.in_ok-now.ensures.end) c.in_ok-now.ensures.whole c.in_err-act.ensures.part)

pub returns-clause-end : goal.returns-clause-end
returns-clause-end g c = entry_end c.args.legend.now c.args.moment c.args.machine.now c.args.entry.now c.in_ok-now.now c.advance.new.machine _ c.in_ok-now.ensures.end c.act.ensures.machine

pub returns-clause-whole : goal.returns-clause-whole
returns-clause-whole g c =
    both_taken _ (g.S.Sink.taken c.advance.new.out) _ _ _ _
    (act_there c.args.legend.now c.args.moment c.args.machine.now c.args.entry.now c.in_ok-now.now c.advance.new.machine c.in_ok-now.ensures.end) c.in_ok-now.ensures.whole c.in_ok-act.ensures.whole
