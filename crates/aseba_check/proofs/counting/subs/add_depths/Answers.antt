use Rattle.std.proofs.Common.{◌≡◌, ◌∙◌, ◌+◌, ap, sym, suc, ℕ, List, ◌∷◌, drop, map, drop-cons, add-one}
use Rattle.aseba_tree.specs.declared.source.Handler.{Handler}
use Rattle.aseba_tree.specs.View.{handler_view}
use Rattle.aseba_check.specs.Looked.{looked}
use Rattle.aseba_check.specs.Statements.{Known, known_of}
use Rattle.aseba_check.specs.CountedParts.{Depths, with_depth, next_depths}
use Rattle.aseba_check.proofs.counting.subs.add_depths.Goals as goal

depths-step : (known : Known) (jump : ℕ) (old a b x : Depths) (h : Handler) (here rest : List Handler) → here ≡ h ∷ rest → b ≡ with_depth known jump old a (handler_view h) → next_depths known jump old a (map handler_view here) ≡ x
    → next_depths known jump old b (map handler_view rest) ≡ x
depths-step known jump old a b x h here rest split next all =
    ap (λ (d : Depths). next_depths known jump old d (map handler_view rest)) next ∙ (sym (ap (λ (l : List Handler). next_depths known jump old a (map handler_view l)) split) ∙ all)

pub loop-part-preserved : goal.loop-part-preserved
loop-part-preserved c =
    let i = c.loop-part.part-index in
    let parts = c.args.parts.now in
    let h = c.part-item.result in
    let here : drop i parts ≡ h ∷ drop (i + 1) parts = rw add-one (drop-cons parts i h c.loop-part-test.true ∙ ap (λ (x : Handler). x ∷ drop (suc i) parts) (sym c.part-item.is)) in
    depths-step (known_of c.args.world.now) c.args.jump (looked c.args.depths.now) (looked c.loop-part.next) (looked c.add_depth.new.next) _ h (drop i parts) (drop (i + 1) parts) here c.in_ok-add_depth.ensures c.loop-part.invariant
