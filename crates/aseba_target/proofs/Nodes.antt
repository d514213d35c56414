-- Named variables lie inside the cells.
use Rattle.std.proofs.Common.{ℕ, ◌+◌, ◌<◌, ◌≤◌, Bool, true, false, List, [], ◌∷◌, map, Option, None, Some, IfSome, arith, cond, codes, All, option_map, unwrap_or}
use Rattle.std.specs.Str.{bytes_eq}
use Rattle.std.proofs.lemmas.List.Sums.{sum_by-cons}
use Rattle.std.proofs.lemmas.List.Elements.{All-head, All-tail}
use Rattle.aseba_tree.specs.Inside.{InsideProject, InsideSized, named_cells}
use Rattle.aseba_tree.specs.Layout.{Placed, placed_from, placed_named}
use Rattle.aseba_tree.specs.View.{project_view, sized_view}
use Rattle.aseba_tree.specs.declared.description.Sized.{Sized}
use Rattle.aseba_tree.specs.declared.project.Project.{Project}
use Rattle.aseba_vm.specs.State.{NamesInside}
use Rattle.aseba_target.specs.Node.{shape_of}

-- a variable that is found lies inside
abbrev IsIn : ℕ → Placed → Type 0
IsIn most v = (v.start + v.size ≤ most) × (1 ≤ v.size)

found_inside : (start most : ℕ) (vs : List Sized) (name : List ℕ) → All (InsideSized 1 4096) vs → start + named_cells vs ≤ most → IfSome (placed_named (placed_from start (map sized_view vs)) name) (IsIn most)
found_inside start most [] name all h = tt
found_inside start most (v ∷ vs) name all h =
    let cells = sum_by-cons (λ (s : Sized). s.size) v vs in
    let first = All-head (InsideSized 1 4096) v vs all in
    by (bytes_eq v.name name) (omega (arith, h, cells)) first.size.0
    (found_inside (start + v.size) most vs name (All-tail (InsideSized 1 4096) v vs all) (omega (arith, h, cells)))
  where
    by : (t : Bool) → start + v.size ≤ most → 1 ≤ v.size → IfSome (placed_named (placed_from (start + v.size) (map sized_view vs)) name) (IsIn most)
        → IfSome (cond t (Some (record { name = v.name; start = start; size = v.size })) (placed_named (placed_from (start + v.size) (map sized_view vs)) name)) (IsIn most)
    by true a b others = (a, b)
    by false a b others = others

start_inside : (o : Option Placed) (most : ℕ) → IfSome o (IsIn most) → IfSome (option_map (λ v. v.start) o) (λ address. address < most)
start_inside None most h = tt
start_inside (Some v) most h = omega (arith, h.0, h.1)

args_inside : (o : Option Placed) (most : ℕ) → IfSome o (IsIn most) → 0 < unwrap_or (option_map (λ v. v.size) o) 0 → unwrap_or (option_map (λ v. v.start) o) 0 + unwrap_or (option_map (λ v. v.size) o) 0 ≤ most
args_inside None most h some = absurd (omega arith)
args_inside (Some v) most h some = h.0

pub names_inside : (p : Project) → InsideProject p → NamesInside (shape_of (project_view p))
names_inside p inside =
    let vs = p.node.variables in
    let of : (name : List ℕ) → IfSome (placed_named (placed_from 0 (map sized_view vs)) name) (IsIn p.node.cells) =
    λ name. found_inside 0 p.node.cells vs name inside.node.variables.each.each (omega (arith, inside.node.variables.room)) in
    record {
      id = start_inside (placed_named (placed_from 0 (map sized_view vs)) (codes "_id")) p.node.cells (of (codes "_id"));
      source = start_inside (placed_named (placed_from 0 (map sized_view vs)) (codes "event.source")) p.node.cells (of (codes "event.source"));
      args = args_inside (placed_named (placed_from 0 (map sized_view vs)) (codes "event.args")) p.node.cells (of (codes "event.args"));
    }
