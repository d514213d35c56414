-- A core that was made of a source has its variables where the source has them.
use Rattle.std.proofs.Common.{◌≡◌, ℕ, suc, ◌+◌, ◌≤◌, List, [], ◌∷◌, ◌++◌, length, drop, refl, sym, ap, ◌∙◌, arith, All}
use Rattle.std.proofs.lemmas.List.{take_at}
use Rattle.std.proofs.lemmas.List.Sums.{sum_by-cons}
use Rattle.std.specs.Prelude.{IsTrue, sum_by}
use Rattle.aseba_tree.specs.Code.{Sized}
use Rattle.aseba_tree.specs.State.{Program, node_variables, declared}
use Rattle.aseba_tree.specs.Script.{Script}
use Rattle.aseba_tree.specs.GoodScript.{is_good_script}
use Rattle.aseba_tree.specs.Layout.{Placed, placed_from, variables, cells_of_variables, HasPlaces}
use Rattle.aseba_tree.specs.Core.{Core}
use Rattle.aseba_tree.specs.CoreStep.{CoreProgram}
use Rattle.aseba_vm.specs.State.{State}
use Rattle.aseba_target.specs.Node.{layout_of, IsStarted}
use Rattle.aseba_codegen.specs.Agrees.{HasRoom, IsLaidOut}
use Rattle.aseba_codegen.specs.CodeRuns.{IsRun}
use Rattle.aseba_codegen.specs.Words.{code_words}

placed-append : (start : ℕ) (xs ys : List Sized) → placed_from start (xs ++ ys) ≡ placed_from start xs ++ placed_from (start + sum_by (λ v. v.size) xs) ys
placed-append start [] ys = let none : start ≡ start + 0 = omega arith in ap (λ n. placed_from n ys) none
placed-append start (x ∷ xs) ys =
    let sums : sum_by (λ v. v.size) (x ∷ xs) ≡ x.size + sum_by (λ v. v.size) xs = sum_by-cons (λ (v : Sized). v.size) x xs in
    let same : start + x.size + sum_by (λ v. v.size) xs ≡ start + sum_by (λ v. v.size) (x ∷ xs) = omega (arith, sums) in
    ap (λ rest. record { name = x.name; start = start; size = x.size } ∷ rest) (placed-append (start + x.size) xs ys)
    ∙ ap (λ n. record { name = x.name; start = start; size = x.size } ∷ (placed_from (start + x.size) xs ++ placed_from n ys)) same

placed-many : (start : ℕ) (xs : List Sized) → length (placed_from start xs) ≡ length xs
placed-many start [] = refl
placed-many start (x ∷ xs) = ap suc (placed-many (start + x.size) xs)

-- the variables of the node and those behind them are one row of places
one-row : (node own : List Sized) → placed_from 0 (node ++ own) ≡ placed_from 0 node ++ placed_from (sum_by (λ v. v.size) node) own
one-row node own =
    let none : 0 + sum_by (λ v. v.size) node ≡ sum_by (λ v. v.size) node = omega arith in
    placed-append 0 node own ∙ ap (λ n. placed_from 0 node ++ placed_from n own) none

behind : {A : Type 0} (xs ys : List A) → drop (length xs) (xs ++ ys) ≡ ys
behind [] ys = refl
behind (x ∷ xs) ys = behind xs ys

-- a core with a source's project and variables
abbrev pub core_of : Program → Core → CoreProgram
core_of program core = record { project = program.project; variables = variables program; core = core }

pub source-places : (program : Program) → All (λ v. 1 ≤ v.size) program.project.node.variables
    → HasPlaces program.project (variables program) (cells_of_variables program) ((layout_of program).node ++ (layout_of program).own)
source-places program sizes =
    let node : List Sized = node_variables program.project in
    record {
      sizes = sizes;
      first = take_at node (declared program) (length node) refl;
      inside = omega arith;
      laid = sym (one-row node (declared program));
    }

pub source-laid : (program : Program) (core : Core) → core.cells ≡ cells_of_variables program → IsLaidOut (core_of program core) (layout_of program)
source-laid program core cells =
    let node : List Sized = node_variables program.project in
    let first : List Placed = placed_from 0 node in
    let rest : List Placed = placed_from (sum_by (λ v. v.size) node) (declared program) in
    record {
      cells = sym cells;
      together = sym cells;
      own = sym (ap (drop (length node)) (one-row node (declared program)) ∙ ap (λ n. drop n (first ++ rest)) (sym (placed-many 0 node)) ∙ behind first rest);
    }

-- A machine that was reset over the words of a core, which has the source's cells, runs by them with the source's good scripts.
pub source-run : (program : Program) (core : Core) (m : State) (script : Script) → HasRoom program.project core → core.cells ≡ cells_of_variables program
    → IsStarted program.project (code_words program.project core) m → IsTrue (is_good_script program.project (variables program) script) → IsRun (core_of program core) (layout_of program) m script
source-run program core m script room cells started good =
    let places : HasPlaces program.project (variables program) (cells_of_variables program) ((layout_of program).node ++ (layout_of program).own) = source-places program (room.node).sizes in
    record {
      room = room;
      laid = source-laid program core cells;
      places = record { sizes = places.sizes; first = places.first; inside = (let same = cells in omega arith); laid = places.laid };
      started = started;
      good = good;
    }
