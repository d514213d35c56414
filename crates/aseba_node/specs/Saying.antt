-- How a node says something: by frames with its id.
use Rattle.std.specs.Prelude.{ℕ, List, [], ◌∷◌, ◌++◌, map}
use Rattle.aseba_message.specs.Message.{Message}
use Rattle.aseba_payload.specs.declared.payload.Payload.{Payload}
use Rattle.aseba_payload.specs.Rows.{kind_of, bytes_of}
use Rattle.aseba_node.specs.NodeState.{NodeState}

-- the message by which the node of an id says a payload
abbrev pub spoken : ℕ → Payload → Message
spoken id p = record { source = id; kind = kind_of p; payload = bytes_of p }

-- a payload is said
abbrev pub say : Payload → NodeState → NodeState
say p n = record n { waiting = n.waiting ++ spoken n.id p ∷ [] }

-- payloads are said in order
abbrev pub say_all : List Payload → NodeState → NodeState
say_all ps n = record n { waiting = n.waiting ++ map (spoken n.id) ps }

-- the id of a node, and what it has said that wasn't taken yet
pub record Spoken : Type 0 where
  pub id : ℕ
  pub waiting : List Message

-- payloads are said behind that
abbrev pub also_said : List Payload → Spoken → Spoken
also_said ps s = record s { waiting = s.waiting ++ map (spoken s.id) ps }
