use Rattle.std.proofs.Common.{◌≡◌, ◌∙◌, ◌+◌, ap, sym, suc, ℕ, List, ◌∷◌, drop, map, drop-cons, add-one}
use Rattle.aseba_tree.specs.declared.source.Handler.{Handler}
use Rattle.aseba_tree.specs.View.{handler_view}
use Rattle.aseba_check.specs.declared.counting.taken.Taken.{Taken}
use Rattle.aseba_check.specs.Looked.{looked}
use Rattle.aseba_check.specs.Statements.{Known, known_of}
use Rattle.aseba_check.specs.CountedStatements.{behind}
use Rattle.aseba_check.specs.CountedParts.{Depths, part_taken, parts_taken}
use Rattle.aseba_check.proofs.counting.parts.parts_taken.Goals as goal

taken-step : (known : Known) (subs : Depths) (jump : ℕ) (a b x : Taken) (h : Handler) (here rest : List Handler) → here ≡ h ∷ rest → b ≡ behind a (part_taken known subs jump (handler_view h)) → parts_taken known subs jump a (map handler_view here) ≡ x
    → parts_taken known subs jump b (map handler_view rest) ≡ x
taken-step known subs jump a b x h here rest split next all =
    ap (λ (t : Taken). parts_taken known subs jump t (map handler_view rest)) next ∙ (sym (ap (λ (l : List Handler). parts_taken known subs jump a (map handler_view l)) split) ∙ all)

pub loop-part-preserved : goal.loop-part-preserved
loop-part-preserved c =
    let i = c.loop-part.part-index in
    let parts = c.args.parts.now in
    let h = c.part-item.result in
    let here : drop i parts ≡ h ∷ drop (i + 1) parts = rw add-one (drop-cons parts i h c.loop-part-test.true ∙ ap (λ (x : Handler). x ∷ drop (suc i) parts) (sym c.part-item.is)) in
    taken-step (known_of c.args.world.now) (looked c.args.subs.now) c.args.jump c.loop-part.taken c.behind-taken.result _ h (drop i parts) (drop (i + 1) parts) here
    (c.behind-taken.ensures ∙ ap (behind c.loop-part.taken) c.part_taken.ensures) c.loop-part.invariant
