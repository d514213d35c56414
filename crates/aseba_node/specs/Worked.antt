-- A message for a node, worked by hand.
use Rattle.std.specs.Prelude.{◌≡◌, ℕ, false, List, [], ◌∷◌, Some}
use Rattle.aseba_message.specs.Message.{Message}
use Rattle.aseba_tree.specs.declared.description.Description.{Description}
use Rattle.aseba_vm.specs.Loaded.{made}
use Rattle.aseba_node.specs.NodeState.{NodeState}
use Rattle.aseba_node.specs.Delivered.{delivered}

-- a node of the id 1 without code, whose machine has cells for its id, an event's source and its arguments
abbrev pub small_node : NodeState
small_node = record {
  description = record { name = []; code = 16; stack = 4; cells = 4; variables = []; locals = []; natives = [] };
  id = 1;
  machine = made (record { code = 16; cells = 4; stack = 4; id = Some 0; source = Some 1; args_at = 2; args_len = 2 }) 1;
  breaks = [];
  waiting = [];
  failed = false;
}

-- the message that lets the node of an id run
abbrev pub run_of : ℕ → Message
run_of node = record { source = 0; kind = 0xA003; payload = node ∷ 0 ∷ [] }

-- The node says where it stands, with its own id; a message for another one is nothing to it.
pub record NodeAddressed : Type 0 where
  pub own : (delivered (run_of 1) small_node).waiting ≡ record { source = 1; kind = 0x900A; payload = 0 ∷ 0 ∷ 0 ∷ 0 ∷ [] } ∷ []
  pub other : delivered (run_of 2) small_node ≡ small_node
