use Rattle.std.proofs.Common.{◌≡◌, ◌∙◌, ◌<◌, refl, [], drop, map, arith}
use Rattle.std.proofs.lemmas.Result.{on_ok_weaker, on_err_weaker, IfOk-weaker}
use Rattle.aseba_tree.specs.View.{placed_view, project_view}
use Rattle.aseba_driver.specs.Driven.{IsKnown}
use Rattle.aseba_driver.proofs.LineTexts.{on_err}
use Rattle.aseba_driver.proofs.RunTold.{drop_item}
use Rattle.aseba_driver.proofs.EntriesDone.{entries_begin, one_entry, entry_cut_short, entry_in_time, due_known, due_early, due_sorted, nothing_left, cut_of_due, in_due, rest_whole, rest_part, rest_end}
use Rattle.aseba_driver.proofs.driving.run_script.Goals as goal

pub do_entry-requires : goal.do_entry-requires
do_entry-requires g c =
    let early : c.entry-item.result.time < c.from-until.result =
    due_early c.args.script.now c.due-entries.result.now c.from-until.result c.loop-entry.entry-index c.entry-item.result c.due-entries.ensures c.loop-entry-test.true c.entry-item.is in
    record {
      known = due_known (IsKnown (project_view c.args.legend.now.project.now) (map placed_view c.args.legend.now.places.now)) c.args.script.now c.due-entries.result.now c.from-until.result c.loop-entry.entry-index
          c.entry-item.result c.due-entries.ensures c.requires.known c.loop-entry-test.true c.entry-item.is;
      order = entry_in_time _ _ _ _ _ c.entry-item.result _ _ _ _ _ (drop_item c.due-entries.result.now c.loop-entry.entry-index c.entry-item.result c.loop-entry-test.true c.entry-item.is) early c.loop-entry.invariant.0;
      effects = c.loop-entry.invariant.0.few;
      few = omega arith;
    }

pub loop-entry-init : goal.loop-entry-init
loop-entry-init g c = (
  entries_begin c.args.legend.now c.due-entries.result.now c.from-until.result c.args.machine.now (g.S.Sink.taken c.args.out.now)
      (due_sorted c.args.script.now c.due-entries.result.now c.from-until.result c.due-entries.ensures c.requires.order),
  refl,
)

pub loop-entry-preserved : goal.loop-entry-preserved
loop-entry-preserved g c =
    let early : c.entry-item.result.time < c.from-until.result =
    due_early c.args.script.now c.due-entries.result.now c.from-until.result c.loop-entry.entry-index c.entry-item.result c.due-entries.ensures c.loop-entry-test.true c.entry-item.is in (
      one_entry _ _ _ _ _ c.entry-item.result _ _ _ _ _ (drop_item c.due-entries.result.now c.loop-entry.entry-index c.entry-item.result c.loop-entry-test.true c.entry-item.is) early c.in_ok-moment.moment
          c.do_entry.new.machine (g.S.Sink.taken c.do_entry.new.out) c.loop-entry.invariant.0 c.in_ok-moment.ensures.end c.in_ok-moment.ensures.few c.in_ok-moment.ensures.whole,
      c.in_ok-moment.ensures.count.cause ∙ c.loop-entry.invariant.1,
    )

pub returns-in_err-moment-clause-part : goal.returns-in_err-moment-clause-part
returns-in_err-moment-clause-part g c =
    let early : c.entry-item.result.time < c.from-until.result =
    due_early c.args.script.now c.due-entries.result.now c.from-until.result c.loop-entry.entry-index c.entry-item.result c.due-entries.ensures c.loop-entry-test.true c.entry-item.is in
    rw (← c.from-until.ensures)
    (on_err c.from_residual.result _
    (cut_of_due c.args.legend.now c.args.script.now c.due-entries.result.now c.from-until.result c.args.machine.now (g.S.Sink.taken c.args.out.now) c.due-entries.ensures (g.S.Sink.taken c.do_entry.new.out) c.requires.order
    (entry_cut_short _ _ _ _ _ c.entry-item.result _ _ _ _ _ (drop_item c.due-entries.result.now c.loop-entry.entry-index c.entry-item.result c.loop-entry-test.true c.entry-item.is) early (g.S.Sink.taken c.do_entry.new.out)
    c.loop-entry.invariant.0 c.in_err-moment.ensures.part)))

pub returns-clause-end : goal.returns-clause-end
returns-clause-end g c =
    let none : drop c.loop-entry.entry-index c.due-entries.result.now ≡ [] = nothing_left c.due-entries.result.now c.loop-entry.entry-index c.loop-entry-test.false in
    let in_script = in_due c.args.legend.now c.args.script.now c.due-entries.result.now c.from-until.result c.args.machine.now (g.S.Sink.taken c.args.out.now) c.due-entries.ensures _ _ _ _ c.loop-entry.invariant.0 in
    rw (← c.from-until.ensures)
    (IfOk-weaker c.advance.result _ _
    (λ end. rest_end c.args.legend.now c.args.script.now c.from-until.result c.args.machine.now _ _ _ _ _ none c.requires.order in_script end c.advance.new.machine) c.advance.ensures.end)

pub returns-clause-whole : goal.returns-clause-whole
returns-clause-whole g c =
    let none : drop c.loop-entry.entry-index c.due-entries.result.now ≡ [] = nothing_left c.due-entries.result.now c.loop-entry.entry-index c.loop-entry-test.false in
    let in_script = in_due c.args.legend.now c.args.script.now c.due-entries.result.now c.from-until.result c.args.machine.now (g.S.Sink.taken c.args.out.now) c.due-entries.ensures _ _ _ _ c.loop-entry.invariant.0 in
    rw (← c.from-until.ensures)
    (on_ok_weaker c.advance.result
    (rest_whole c.args.legend.now c.args.script.now c.from-until.result c.args.machine.now _ _ _ _ _ none c.requires.order in_script (g.S.Sink.taken c.advance.new.out)) c.advance.ensures.whole)

pub returns-clause-part : goal.returns-clause-part
returns-clause-part g c =
    let none : drop c.loop-entry.entry-index c.due-entries.result.now ≡ [] = nothing_left c.due-entries.result.now c.loop-entry.entry-index c.loop-entry-test.false in
    let in_script = in_due c.args.legend.now c.args.script.now c.due-entries.result.now c.from-until.result c.args.machine.now (g.S.Sink.taken c.args.out.now) c.due-entries.ensures _ _ _ _ c.loop-entry.invariant.0 in
    rw (← c.from-until.ensures)
    (on_err_weaker c.advance.result
    (rest_part c.args.legend.now c.args.script.now c.from-until.result c.args.machine.now _ _ _ _ _ none c.requires.order in_script (g.S.Sink.taken c.advance.new.out)) c.advance.ensures.part)
