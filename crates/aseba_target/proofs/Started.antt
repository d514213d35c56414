-- The machine with the words in its empty code is one that was reset over code that begins with them.
use Rattle.std.proofs.Common.{◌≡◌, refl, ap, ◌∙◌, ℕ, zero, suc, ◌+◌, ◌≤◌, List, [], ◌∷◌, ◌++◌, length, take, drop, replicate, false, Option, None, ℤ, nat_le, true, le-leb, length-append, arith}
use Rattle.std.proofs.lemmas.List.{length-replicate, length-drop}
use Rattle.aseba_tree.specs.Code.{Project}
use Rattle.aseba_vm.specs.State.{State}
use Rattle.aseba_vm.specs.Loaded.{made, loaded, reset_state, fresh_cells}
use Rattle.aseba_target.specs.Node.{shape_of, started, IsStarted}

first-part : {A : Type 0} (xs ys : List A) → take (length xs) (xs ++ ys) ≡ xs
first-part [] ys = refl
first-part (x ∷ xs) ys = ap (λ rest. x ∷ rest) (first-part xs ys)

-- the machine before its reset
abbrev with_words : Project → List ℕ → State
with_words project words = record {
  shape = shape_of project;
  id = project.id;
  code = words ++ drop (0 + length words) (replicate project.node.code 0);
  cells = fresh_cells (shape_of project) project.id;
  stack = [];
  pc = 0;
  active = false;
  paused = false;
  held = replicate project.node.cells None;
}

started-is : (project : Project) (words : List ℕ) → length words ≤ project.node.code → started project words ≡ reset_state false (with_words project words)
unfolding started made loaded
started-is project words fits =
    let inside : nat_le (0 + length words) project.node.code ≡ true = le-leb _ _ (omega arith) in
    rw inside refl

pub started_begun : (project : Project) (words : List ℕ) → length words ≤ project.node.code → IsStarted project words (started project words)
started_begun project words fits =
    let zeros : List ℕ = replicate project.node.code 0 in
    record {
      before = with_words project words;
      shape = refl;
      id = refl;
      begins = first-part words (drop (0 + length words) zeros);
      long = omega (arith, length-append words (drop (0 + length words) zeros), length-drop (0 + length words) zeros, length-replicate {A = ℕ} project.node.code 0);
      held = length-replicate {A = Option ℤ} project.node.cells None;
      reset = started-is project words fits;
    }
