-- What a node is.
use Rattle.std.specs.Prelude.{◌≡◌, ℕ, Bool, false, List, []}
use Rattle.aseba_message.specs.Message.{Message}
use Rattle.aseba_tree.specs.declared.description.Description.{Description}
use Rattle.aseba_tree.specs.declared.project.Project.{Project}
use Rattle.aseba_tree.specs.Inside.{InsideDescription}
use Rattle.aseba_tree.specs.View.{project_view}
use Rattle.aseba_target.specs.Node.{shape_of}
use Rattle.aseba_vm.specs.State.{State as Machine}
use Rattle.aseba_vm.specs.Loaded.{made}

-- A machine with its description, its id and the breakpoints in its code; the frames that it has said and that weren't taken yet, the oldest first; and whether memory has ever been too short for a call.
pub record NodeState : Type 0 where
  pub description : Description
  pub id : ℕ
  pub machine : Machine
  pub breaks : List ℕ
  pub waiting : List Message
  pub failed : Bool

-- A node's description keeps to the limits, and its machine has as many cells as that says.
pub record IsDescribed (description : Description) (machine : Machine) : Type 0 where
  pub inside : InsideDescription description
  pub cells : machine.shape.cells ≡ description.cells

-- a project's node without code, idle and not paused
abbrev pub new_node : Project → NodeState
new_node project = record {
  description = project.node;
  id = project.id;
  machine = made (shape_of (project_view project)) project.id;
  breaks = [];
  waiting = [];
  failed = false;
}
