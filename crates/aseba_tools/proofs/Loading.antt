-- A node's machine takes any program that fits its code.
use Rattle.std.proofs.Common.{◌≡◌, true, Err, false, ℕ, ◌+◌, ◌≤◌, List, length, refl, arith, nat_le, ap, ◌∙◌}
use Rattle.std.proofs.lemmas.Bool.Decides.{nat_tests}
use Rattle.aseba_tree.specs.Code.{Project}
use Rattle.aseba_vm.specs.declared.refusals.OutOfCode.{OutOfCode}
use Rattle.aseba_vm.specs.declared.shape.Shape.{Shape}
use Rattle.aseba_vm.specs.State.{State}
use Rattle.aseba_vm.specs.Loaded.{made, loaded, reset_state}
use Rattle.aseba_target.specs.Node.{shape_of, started}

pub made-shape : (shape : Shape) (id : ℕ) → (made shape id).shape ≡ shape
unfolding made
made-shape shape id = refl

pub started-is : (project : Project) (words : List ℕ) → started project words ≡ reset_state false (loaded 0 words (made (shape_of project) project.id)).1
unfolding started
started-is project words = refl

takes_words : (shape : Shape) (id : ℕ) (words : List ℕ) (s : State) → s ≡ made shape id → length words ≤ shape.code → nat_le (0 + length words) s.shape.code ≡ true
takes_words shape id words s e h =
    let size : s.shape.code ≡ shape.code = ap (λ (t : State). t.shape.code) e ∙ ap (λ (t : Shape). t.code) (made-shape shape id) in
    rw size (grind (arith, nat_tests))

pub never_refused : (shape : Shape) (id : ℕ) (words : List ℕ) (s : State) (refusal : OutOfCode) → s ≡ made shape id → length words ≤ shape.code → Err refusal ≡ (loaded 0 words s).0 → ⊥
unfolding loaded
never_refused shape id words s refusal e h refused =
    let fits = takes_words shape id words s e h in
    let r = rw fits at refused in
    cc
