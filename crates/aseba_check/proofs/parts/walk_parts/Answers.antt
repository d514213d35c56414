use Rattle.std.proofs.Common.{◌≡◌, ◌∙◌, ◌+◌, ap, sym, subst, suc, List, ◌∷◌, drop, map, Option, drop-cons, add-one}
use Rattle.aseba_tree.specs.declared.source.Handler.{Handler}
use Rattle.aseba_tree.specs.View.{handler_view}
use Rattle.aseba_check.specs.declared.fault.Fault.{Fault}
use Rattle.aseba_tree.specs.Each.{EachPartOf}
use Rattle.aseba_check.specs.Fits.{Fits}
use Rattle.aseba_check.specs.Looked.{looked}
use Rattle.aseba_check.specs.Statements.{Known, known_of}
use Rattle.aseba_check.specs.Parts.{Seen, with_sub, with_event, part_told, parts_told}
use Rattle.aseba_check.proofs.parts.walk_parts.Goals as goal

told-step : (known : Known) (s t e f : Seen) (a b x : Option Fault) (h : Handler) (here rest : List Handler) → here ≡ h ∷ rest → t ≡ with_sub s (handler_view h) → f ≡ with_event e (handler_view h)
    → b ≡ part_told known s e a (handler_view h) → parts_told known s e a (map handler_view here) ≡ x → parts_told known t f b (map handler_view rest) ≡ x
told-step known s t e f a b x h here rest split ts fe ba all =
    ap (λ (k : Seen). parts_told known k f b (map handler_view rest)) ts ∙ (ap (λ (k : Seen). parts_told known (with_sub s (handler_view h)) k b (map handler_view rest)) fe
    ∙ (ap (λ (o : Option Fault). parts_told known (with_sub s (handler_view h)) (with_event e (handler_view h)) o (map handler_view rest)) ba
    ∙ (sym (ap (λ (l : List Handler). parts_told known s e a (map handler_view l)) split) ∙ all)))

pub loop-part-preserved : goal.loop-part-preserved
loop-part-preserved c =
    let i = c.loop-part.part-index in
    let parts = c.args.parts.now in
    let h = c.part-item.result in
    let here : drop i parts ≡ h ∷ drop (i + 1) parts = rw add-one (drop-cons parts i h c.loop-part-test.true ∙ ap (λ (x : Handler). x ∷ drop (suc i) parts) (sym c.part-item.is)) in
    record {
      told = told-step (known_of c.args.world.now) (looked c.loop-part.subs) (looked c.add_seen.new.subs) (looked c.loop-part.events) (looked c.add_seen.new.events) c.loop-part.fault c.in_ok-fault.fault _ h (drop i parts)
          (drop (i + 1) parts) here c.in_ok-add_seen.ensures.subs c.in_ok-add_seen.ensures.events c.in_ok-fault.ensures.told c.loop-part.invariant.told;
      fits = λ k. c.loop-part.invariant.fits (subst (λ (l : List Handler). EachPartOf Fits (map handler_view l)) (sym here) (c.in_ok-fault.ensures.fits, k));
    }
