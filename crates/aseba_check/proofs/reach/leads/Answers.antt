use Rattle.std.proofs.Common.{◌∙◌, ◌<◌, ap, sym, subst, Option, map}
use Rattle.std.specs.Prelude.{is_some}
use Rattle.aseba_check.specs.Looked.{looked, with_value}
use Rattle.aseba_check.specs.Cycles.{call_view, Marks, led_to, Reached, Closed}
use Rattle.aseba_check.proofs.LeadLaws.{first-reached, all-spreads, all-grow, all-closed, less-left, marked-is-led}
use Rattle.aseba_check.proofs.reach.leads.Goals as goal

pub loop-marks-init : goal.loop-marks-init
loop-marks-init c =
    let calls = map call_view c.args.calls.now in
    let from = c.args.from.now in
    let first = c.in_ok-set.ensures ∙ ap (λ (m : Marks). with_value m from tt) c.new-marks.ensures in
    c.in_ok-follow.ensures from (subst (λ (m : Marks). Reached calls from m) (sym first) (first-reached calls from))

pub loop-marks-preserved : goal.loop-marks-preserved
loop-marks-preserved c =
    let calls = map call_view c.args.calls.now in
    let from = c.args.from.now in
    subst (λ (m : Marks). Reached calls from m) (sym c.in_ok-pass_all.ensures.marks) (all-spreads calls (looked c.loop-marks.marks) from c.loop-marks.invariant)

pub loop-marks-smaller : goal.loop-marks-smaller
loop-marks-smaller c =
    let calls = map call_view c.args.calls.now in
    let old = looked c.loop-marks.marks in
    less-left old (looked c.pass_all.new.marks) calls
    (subst (λ (m : Marks). led_to old calls < led_to m calls) (sym c.in_ok-pass_all.ensures.marks) (all-grow calls old (sym c.in_ok-pass_all.ensures.more ∙ c.if-not-branch.false)))

pub returns-then-not-branch : goal.returns-then-not-branch
returns-then-not-branch c =
    let calls = map call_view c.args.calls.now in
    let from = c.args.from.now in
    let to = c.args.to.now in
    let old = looked c.loop-marks.marks in
    let new = looked c.pass_all.new.marks in
    let reached = subst (λ (m : Marks). Reached calls from m) (sym c.in_ok-pass_all.ensures.marks) (all-spreads calls old from c.loop-marks.invariant) in
    let closed = subst (λ (m : Marks). Closed m calls) (sym c.in_ok-pass_all.ensures.marks) (all-closed calls old (sym c.in_ok-pass_all.ensures.more ∙ c.if-not-branch.true)) in
    c.is_some.ensures ∙ (ap (λ (o : Option (Unit {0})). is_some o) c.find.ensures ∙ marked-is-led calls from new reached closed to)
