-- Where the variables of a program lie: those of the node first, in the order of its description, then those of the source, in the order of their declarations.
use Rattle.std.specs.Prelude.{◌≡◌, ℕ, ◌+◌, ℤ, ◌≤◌, if◌then◌else◌, List, [], ◌∷◌, ◌++◌, map, take, drop, length, find, sum_by, All, bytes_eq, Option, Some, None}
use Rattle.aseba_tree.specs.Code.{Name, Sized, Project}
use Rattle.aseba_tree.specs.State.{Program, node_variables, declared}

-- the variables in the order of their cells
abbrev pub variables : Program → List Sized
variables program = node_variables program.project ++ declared program

-- the number of all their cells
abbrev pub cells_of_variables : Program → ℕ
cells_of_variables program = sum_by (λ v. v.size) (variables program)

-- the address and the size of the first variable of a name among these, where the first of them has that address
abbrev pub address_from : ℕ → List Sized → Name → Option (ℕ × ℕ)
address_from base [] name = None
address_from base (v ∷ vs) name = if bytes_eq v.name name then Some (base, v.size) else address_from (base + v.size) vs name

abbrev pub address_of : List Sized → Name → Option (ℕ × ℕ)
address_of variables name = address_from 0 variables name

-- a variable with its first cell's address and its size
pub record Placed : Type 0 where
  pub name : Name
  pub start : ℕ
  pub size : ℕ

-- variables one behind the other from an address on
abbrev pub placed_from : ℕ → List Sized → List Placed
placed_from start [] = []
placed_from start (v ∷ vs) = record { name = v.name; start = start; size = v.size } ∷ placed_from (start + v.size) vs

-- the variables of a program with their places
abbrev pub layout : Program → List Placed
layout program = placed_from 0 (variables program)

-- the first of these variables of a name
abbrev pub placed_named : List Placed → Name → Option Placed
placed_named variables name = find (λ v. bytes_eq v.name name) variables

-- What a write from outside asks of a node's variables, where its code has so many cells of variables and these are their places: the node's
-- own come first and have at least one cell each, and all lie inside.
pub record HasPlaces (project : Project) (variables : List Sized) (cells : ℕ) (places : List Placed) : Type 0 where
  pub sizes : All (λ v. 1 ≤ v.size) (node_variables project)
  pub first : take (length (node_variables project)) variables ≡ node_variables project
  pub inside : sum_by (λ v. v.size) variables ≤ cells
  pub laid : places ≡ placed_from 0 variables

-- what placed variables hold in a memory
abbrev pub cells_at : List ℤ → List Placed → List (Name × List ℤ)
cells_at memory places = map (λ v. (v.name, take v.size (drop v.start memory))) places
