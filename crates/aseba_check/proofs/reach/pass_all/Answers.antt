use Rattle.std.proofs.Common.{◌≡◌, ◌∙◌, ◌+◌, ap, sym, suc, Bool, List, ◌∷◌, drop, map, drop-cons, add-one}
use Rattle.std.specs.Prelude.{◌||◌}
use Rattle.aseba_check.specs.declared.sub_calls.SubCall.{SubCall}
use Rattle.aseba_check.specs.Looked.{looked}
use Rattle.aseba_check.specs.Cycles.{call_view, Marks, leads_on, passed, all_passed, any_leads_on}
use Rattle.aseba_check.proofs.reach.pass_all.Goals as goal

more-step : (old new : Marks) (more here b : Bool) (x : SubCall) (xs rest : List SubCall) → xs ≡ x ∷ rest → new ≡ passed old (call_view x) → here ≡ leads_on old (call_view x)
    → any_leads_on more old (map call_view xs) ≡ b → any_leads_on (more || here) new (map call_view rest) ≡ b
more-step old new more here b x xs rest e f g all =
    ap (λ (h : Bool). any_leads_on (more || h) new (map call_view rest)) g ∙ (ap (λ (m : Marks). any_leads_on (more || leads_on old (call_view x)) m (map call_view rest)) f
    ∙ (sym (ap (λ (l : List SubCall). any_leads_on more old (map call_view l)) e) ∙ all))

marks-step : (old new m : Marks) (x : SubCall) (xs rest : List SubCall) → xs ≡ x ∷ rest → new ≡ passed old (call_view x) → all_passed old (map call_view xs) ≡ m → all_passed new (map call_view rest) ≡ m
marks-step old new m x xs rest e f all = ap (λ (k : Marks). all_passed k (map call_view rest)) f ∙ (sym (ap (λ (l : List SubCall). all_passed old (map call_view l)) e) ∙ all)

pub loop-call-preserved : goal.loop-call-preserved
loop-call-preserved c =
    let i = c.loop-call.call-index in
    let calls = c.args.calls.now in
    let x = c.call-item.result in
    let here : drop i calls ≡ x ∷ drop (i + 1) calls = rw add-one (drop-cons calls i x c.loop-call-test.true ∙ ap (λ (y : SubCall). y ∷ drop (suc i) calls) (sym c.call-item.is)) in
    record {
      more = more-step (looked c.loop-call.marks) (looked c.pass.new.marks) c.loop-call.more c.in_ok-more.field-0 _ x (drop i calls) (drop (i + 1) calls) here c.in_ok-more.ensures.marks c.in_ok-more.ensures.more c.loop-call.invariant.more;
      marks = marks-step (looked c.loop-call.marks) (looked c.pass.new.marks) _ x (drop i calls) (drop (i + 1) calls) here c.in_ok-more.ensures.marks c.loop-call.invariant.marks;
    }
