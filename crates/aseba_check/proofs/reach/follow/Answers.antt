use Rattle.std.proofs.Common.{◌∙◌, refl, ap, sym, subst, get_or, length, map}
use Rattle.std.proofs.lemmas.Option.{slice_get_read}
use Rattle.aseba_check.specs.Looked.{looked}
use Rattle.aseba_check.specs.Cycles.{call_view, Marks, Reached, Spreads}
use Rattle.aseba_check.proofs.LeadLaws.{is-in-at, passed-spreads}
use Rattle.aseba_check.proofs.reach.follow.Goals as goal
use Rattle.aseba_check.proofs.reach.follow.Goals.{in-Some+in_ok-pass, in_default}

pub loop-place-preserved : goal.loop-place-preserved
loop-place-preserved c =
    let calls = c.args.calls.now in
    let place = get_or c.args.order.now c.loop-place.place-index 0 in
    elim c.match-get.branch [
      | in-Some+in_ok-pass w ↦ let x = w.in-Some.call.now in
          let found = is-in-at calls place x (slice_get_read calls (length calls) place x refl w.in-Some.ensures.lookup.3.0 w.in-Some.ensures.lookup.1) in
          let marks = ap (λ t. looked t) w.marks-is ∙ w.in_ok-pass.ensures.marks in
          λ from r. subst (λ (m : Marks). Reached (map call_view calls) from m) (sym marks) (passed-spreads (map call_view calls) (looked c.loop-place.marks) (call_view x) found from (c.loop-place.invariant from r))
      | in_default w ↦ subst (λ (m : Marks). Spreads (map call_view calls) (looked c.args.marks.now) m) (ap (λ t. looked t) (sym w.marks-is)) c.loop-place.invariant
    ]
