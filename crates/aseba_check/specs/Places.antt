-- Where variables lie, one behind the other, as it is added up.
use Rattle.std.specs.Prelude.{◌≡◌, ℕ, ◌+◌, ◌-◌, ◌^◌, ◌≤◌, min, List, [], ◌∷◌, Option, unwrap_or}
use Rattle.aseba_tree.specs.declared.description.Sized.{Sized}
use Rattle.aseba_tree.specs.declared.decl.Decl.{Decl}
use Rattle.aseba_tree.specs.Layout as tree
use Rattle.aseba_tree.specs.declared.placed.Placed.{Placed}

-- Variables one behind the other, from an address on up to an end: each begins where the one before it ends, and has a cell.
abbrev pub AreInOrder : ℕ → List tree.Placed → ℕ → Type 0
AreInOrder start [] end = start ≡ end
AreInOrder start (p ∷ ps) end = (p.start ≡ start) × (1 ≤ p.size) × AreInOrder (start + p.size) ps end

-- Numbers of cells, up to one that no source reaches

abbrev pub sum_up : ℕ → ℕ → ℕ
sum_up a b = min (a + b) (2 ^ 64 - 1)

abbrev pub node_cells : ℕ → List Sized → ℕ
node_cells before [] = before
node_cells before (v ∷ vs) = node_cells (sum_up before v.size) vs

abbrev pub declared_cells : ℕ → List (Option ℕ) → ℕ
declared_cells before [] = before
declared_cells before (s ∷ ss) = declared_cells (sum_up before (unwrap_or s 0)) ss

-- Places, up to an address that no node has

abbrev pub address : ℕ → ℕ
address n = min n 65535

abbrev pub placed_at : ℕ → ℕ → List ℕ → Placed
placed_at start size name = record { name = name; start = address start; size = address size }

abbrev pub placed_variables : ℕ → List Sized → List Placed
placed_variables start [] = []
placed_variables start (v ∷ vs) = placed_at start v.size v.name ∷ placed_variables (sum_up start v.size) vs

abbrev pub placed_decls : ℕ → List Decl → List (Option ℕ) → List Placed
placed_decls start (d ∷ ds) (s ∷ ss) = placed_at start (unwrap_or s 0) d.name ∷ placed_decls (sum_up start (unwrap_or s 0)) ds ss
placed_decls start _ _ = []
