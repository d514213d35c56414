use Rattle.std.proofs.Common.{◌∙◌, sym, refl}
use Rattle.aseba_driver.proofs.LineTexts.{on_err}
use Rattle.aseba_driver.proofs.TicksTold.{ticks_begin, one_more, cut_short, all_done, all_counted}
use Rattle.aseba_driver.proofs.ticking.advance.Goals as goal

pub loop-tick-init : goal.loop-tick-init
loop-tick-init g c = (ticks_begin _ _ _ _ _ c.requires.effects, refl)

pub returns-then-not-is_running-clause-end : goal.returns-then-not-is_running-clause-end
returns-then-not-is_running-clause-end g c =
    (all_counted _ _ _ _ _ _ c.loop-tick.now c.loop-tick.machine (g.S.Sink.taken c.loop-tick.out) c.loop-tick-test.true (sym c.is_running.ensures ∙ c.if-not-is_running.true) c.loop-tick.invariant.0).0

pub returns-then-not-is_running-clause-whole : goal.returns-then-not-is_running-clause-whole
returns-then-not-is_running-clause-whole g c =
    (all_counted _ _ _ _ _ _ c.loop-tick.now c.loop-tick.machine (g.S.Sink.taken c.loop-tick.out) c.loop-tick-test.true (sym c.is_running.ensures ∙ c.if-not-is_running.true) c.loop-tick.invariant.0).1

pub returns-in_err-now-clause-part : goal.returns-in_err-now-clause-part
returns-in_err-now-clause-part g c =
    on_err c.from_residual.result _
    (cut_short _ _ _ _ _ _ c.loop-tick.now c.loop-tick.machine (g.S.Sink.taken c.loop-tick.out) _ c.loop-tick-test.true c.loop-tick.invariant.0 c.in_err-now.ensures.part)

pub loop-tick-preserved : goal.loop-tick-preserved
loop-tick-preserved g c = (
  one_more _ _ _ _ _ _ c.loop-tick.now c.loop-tick.machine (g.S.Sink.taken c.loop-tick.out) c.in_ok-now.now _ _ c.loop-tick-test.true c.loop-tick.invariant.0 c.in_ok-now.ensures.next c.in_ok-now.ensures.whole,
  c.in_ok-now.ensures.count.cause ∙ c.loop-tick.invariant.1,
)

pub returns-clause-end : goal.returns-clause-end
returns-clause-end g c = (all_done _ _ _ _ _ _ c.loop-tick.now c.loop-tick.machine (g.S.Sink.taken c.loop-tick.out) c.loop-tick-test.false c.loop-tick.invariant.0).0

pub returns-clause-whole : goal.returns-clause-whole
returns-clause-whole g c = (all_done _ _ _ _ _ _ c.loop-tick.now c.loop-tick.machine (g.S.Sink.taken c.loop-tick.out) c.loop-tick-test.false c.loop-tick.invariant.0).1
