-- What a status says of a call of `node`: why it came, and what its link gave and took.
use Rattle.std.specs.Prelude.{ℕ, ◌⊎◌, List, Option}
use Rattle.aseba_tree.specs.declared.project.Project.{Project}
use Rattle.aseba_node.specs.NodeState.{NodeState, new_node}
use Rattle.aseba_node.specs.Session.{Ends, DidAll, MetBadFrame, DidSome, WrotePart}
use Rattle.aseba_tools.specs.Dialing.{Dialing, NotDialed, IsRefused, GavePolled}
use Rattle.aseba_tools.specs.ProjectWord.{IsProject, NoProject}
use Rattle.aseba_tools.specs.declared.project.Allowed.TheVariants.{KnownNatives}
use Rattle.aseba_tools.specs.declared.status.Status.{Status}
use Rattle.aseba_tools.specs.declared.status.Status.TheVariants.{Done, ReadFault, WriteFault, Memory, BadFrame, DialFault}

-- How a node's session of so many turns on a link ended, by the status: all was done, which leaves some node behind, or why it ended early.
abbrev pub SessionEnded : NodeState → (turns : ℕ) → (before after : Ends) → Status → Type 0
SessionEnded n turns before after Done = (behind : NodeState) × DidAll n turns before after behind
SessionEnded n turns before after (BadFrame place) = MetBadFrame n turns before after place
SessionEnded n turns before after ReadFault = DidSome n turns before after
SessionEnded n turns before after WriteFault = WrotePart n turns before after
SessionEnded n turns before after Memory = WrotePart n turns before after
SessionEnded n turns before after _ = ⊥

-- the dialer gave a link for an address, and the node had its session on it
abbrev pub HadSession : NodeState → (address : List ℕ) → (turns : ℕ) → Dialing → Status → Type 0
HadSession n address turns d status = GavePolled address d (λ before after. SessionEnded n turns before after status)

-- What came of a node: no connection was made, or it had its session; where memory didn't suffice the dialer may have given nothing.
abbrev pub NodeRan : NodeState → (address : List ℕ) → (turns : ℕ) → Dialing → Status → Type 0
NodeRan n address turns d DialFault = IsRefused address d
NodeRan n address turns d Memory = NotDialed d ⊎ HadSession n address turns d Memory
NodeRan n address turns d status = HadSession n address turns d status

-- the word gives a project, and something holds of it
pub record OfProject (word : List ℕ) (held : Option (Option (List ℕ))) (P : Project → Type 0) : Type 0 where
  pub project : Project
  pub is_project : IsProject KnownNatives word held project
  pub holds : P project

-- The word gives no project, and the dialer wasn't asked; or this came of the project's new node.
abbrev pub Joined : (word address : List ℕ) → Option (Option (List ℕ)) → (turns : ℕ) → Dialing → Status → Type 0
Joined word address held turns d status = (NoProject KnownNatives word held status × NotDialed d) ⊎ OfProject word held (λ project. NodeRan (new_node project) address turns d status)
