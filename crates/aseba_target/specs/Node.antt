-- What a project's node is to those who run it: where variables lie, the shape of its machine, and the machine at the beginning.
use Rattle.std.specs.Prelude.{◌≡◌, ℕ, ◌≤◌, false, List, length, take, sum_by, option_map, unwrap_or, codes}
use Rattle.aseba_tree.specs.Code.{Name, Project}
use Rattle.aseba_tree.specs.State.{Program, node_variables, declared}
use Rattle.aseba_tree.specs.Layout.{Placed, placed_from, placed_named, cells_of_variables}
use Rattle.aseba_vm.specs.declared.shape.Shape.{Shape}
use Rattle.aseba_vm.specs.State.{State}
use Rattle.aseba_vm.specs.Loaded.{made, loaded, reset_state}

-- The variables of the node and the program's own, each with its place, and the number of all their cells. Temporaries lie behind them.
pub record Layout : Type 0 where
  pub node : List Placed
  pub own : List Placed
  pub cells : ℕ

abbrev pub layout_of : Program → Layout
layout_of program =
    let node = node_variables program.project in
    record { node = placed_from 0 node; own = placed_from (sum_by (λ v. v.size) node) (declared program); cells = cells_of_variables program }

-- the shape of a node's machine
abbrev pub shape_of : Project → Shape
shape_of project =
    let place = λ (name : Name). placed_named (placed_from 0 project.node.variables) name in
    record {
      code = project.node.code;
      cells = project.node.cells;
      stack = project.node.stack;
      id = option_map (λ v. v.start) (place (codes "_id"));
      source = option_map (λ v. v.start) (place (codes "event.source"));
      args_at = unwrap_or (option_map (λ v. v.start) (place (codes "event.args"))) 0;
      args_len = unwrap_or (option_map (λ v. v.size) (place (codes "event.args"))) 0;
    }

-- the node's machine with the words in its empty code, reset and not paused
unfoldable pub started : Project → List ℕ → State
started project words = reset_state false (loaded 0 words (made (shape_of project) project.id)).1

-- A machine of the node that was reset, and isn't paused: its code begins with these words, whatever else it holds.
pub record IsStarted (project : Project) (words : List ℕ) (m : State) : Type 0 where
  pub before : State
  pub shape : before.shape ≡ shape_of project
  pub id : before.id ≡ project.id
  pub begins : take (length words) before.code ≡ words
  pub long : length before.code ≡ project.node.code
  pub held : length before.held ≡ project.node.cells
  pub reset : m ≡ reset_state false before

-- the node's machine with the words in its empty code is such a one, where they have room
abbrev pub FreshMachineIsStarted : Type 0
FreshMachineIsStarted = (project : Project) (words : List ℕ) → length words ≤ project.node.code → IsStarted project words (started project words)
