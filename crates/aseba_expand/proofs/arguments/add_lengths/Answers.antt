use Rattle.std.proofs.Common.{refl, List, sym, ◌∙◌, ap, ◌+◌, ◌≤◌, [], ◌++◌, length, drop, map, append-nil}
use Rattle.std.specs.Prelude.{ℤ}
use Rattle.std.proofs.lemmas.Bool.{ltb-true}
use Rattle.std.proofs.lemmas.List.{drop_all}
use Rattle.aseba_tree.specs.declared.description.Param.{Param}
use Rattle.aseba_expand.specs.Arguments.{listed_lengths}
use Rattle.aseba_expand.proofs.Lists.{next_item}
use Rattle.aseba_expand.proofs.Openings.{lengths-listed, lengths-told, lengths-ended}
use Rattle.aseba_expand.proofs.arguments.add_lengths.Goals.{in-Some+in_ok-add_length, in_default}
use Rattle.aseba_expand.proofs.arguments.add_lengths.Goals as goal

pub loop-place-preserved : goal.loop-place-preserved
loop-place-preserved c =
    let i = c.loop-place.place in
    let params = c.args.params.now in
    let lengths = c.args.lengths.now in
    let before = c.loop-place.values in
    let seen = c.loop-place.seen in
    let all = c.args.values.now ++ listed_lengths [] (map (λ (p : Param). p.size) params) lengths in
    elim c.match-get.branch [
      | in-Some+in_ok-add_length w ↦
          let param = c.index-params-place.result in
          let n = w.in-Some.length.now in
          let here = next_item params i param c.loop-place-test.true c.index-params-place.is in
          let these = next_item lengths i n (ltb-true i (length lengths) (sym w.in-Some.ensures.lookup.0)) w.in-Some.ensures.lookup.1 in
          lengths-told c.match-get.values before all c.match-get.seen seen (drop i params) (drop (i + 1) params) (drop i lengths) (drop (i + 1) lengths) param n here these
          (w.values-is ∙ w.in_ok-add_length.ensures.values) (w.seen-is ∙ w.in_ok-add_length.ensures.seen) c.loop-place.invariant
      | in_default w ↦
          let past : length lengths ≤ i = w.in_default.ensures.lookup.3 in
          rw (w.values-is, w.seen-is) (lengths-ended before all seen (drop i params) (drop (i + 1) params) lengths i past c.loop-place.invariant)
    ]

pub returns : goal.returns
returns c =
    let i = c.loop-place.place in
    let params = c.args.params.now in
    let lengths = c.args.lengths.now in
    let sizes : List Param → List ℤ = map (λ (p : Param). p.size) in
    let made = c.loop-place.values in
    let seen = c.loop-place.seen in
    let past : length params ≤ i = c.loop-place-test.false in
    sym (append-nil made) ∙ ap (λ l. made ++ l) (sym (ap (λ ps. listed_lengths seen (sizes ps) (drop i lengths)) (drop_all i params past))) ∙ c.loop-place.invariant
    ∙ ap (λ l. c.args.values.now ++ l) (lengths-listed [] [] (sizes params) lengths (λ size. refl))
