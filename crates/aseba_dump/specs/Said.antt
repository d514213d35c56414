-- What each message says in a line: its name and its fields.
use Rattle.std.specs.Prelude.{ℕ, List, [], ◌∷◌, ◌++◌, codes, decimal, flat_map}
use Rattle.aseba_tree.specs.Line.{Event, named, numbered}
use Rattle.aseba_tree.specs.Events.{event_of}
use Rattle.aseba_tree.specs.View.{project_view}
use Rattle.aseba_tree.specs.declared.project.Project.{Project}
use Rattle.aseba_payload.specs.declared.payload.Payload.{Payload}
use Rattle.aseba_payload.specs.declared.payload.Payload.TheVariants.{User, Describe, Variable, LocalEvent, NativeOf, Variables, BoundsAt, DivisionAt, KilledAt, ErrorAt, State, BreakSet, Present, GetDescription, SetBytecode, Reset, Run, Pause, Step, Stop, GetState, SetBreak, ClearBreak, ClearBreaks, GetVariables, SetVariables, GetNodeDescription, ListNodes}
use Rattle.aseba_dump.specs.Field.{Field, number, signed, text, params, cells, code, field_text}

-- an event by its name; `event` and its number where the project has none of that number
abbrev pub event_name : Event → List ℕ
event_name (named name) = name
event_name (numbered n) = codes "event " ++ decimal n

pub record Said : Type 0 where
  pub name : List ℕ
  pub fields : List Field

abbrev pub says : List ℕ → List Field → Said
says name fields = record { name = name; fields = fields }

-- the table: a row for each message
abbrev pub said : Project → Payload → Said
said project (User kind ws) = says (event_name (event_of (project_view project) kind)) (cells ws ∷ [])
said project (Describe name version size stack many variables locals natives) = says (codes "description") (text name ∷ number version ∷ number size ∷ number stack ∷ number many ∷ number variables ∷ number locals ∷ number natives ∷ [])
said project (Variable size name) = says (codes "variable") (number size ∷ text name ∷ [])
said project (LocalEvent name about) = says (codes "local") (text name ∷ text about ∷ [])
said project (NativeOf name about ps) = says (codes "native") (text name ∷ text about ∷ params ps ∷ [])
said project (Variables start ws) = says (codes "variables") (number start ∷ cells ws ∷ [])
said project (BoundsAt pc size index) = says (codes "bounds") (number pc ∷ number size ∷ signed index ∷ [])
said project (DivisionAt pc) = says (codes "division") (number pc ∷ [])
said project (KilledAt pc) = says (codes "killed") (number pc ∷ [])
said project (ErrorAt pc about) = says (codes "error") (number pc ∷ text about ∷ [])
said project (State pc flags) = says (codes "state") (number pc ∷ number flags ∷ [])
said project (BreakSet pc result) = says (codes "breakpoint") (number pc ∷ number result ∷ [])
said project (Present version) = says (codes "present") (number version ∷ [])
said project (GetDescription version) = says (codes "get-description") (number version ∷ [])
said project (SetBytecode node start ws) = says (codes "set-bytecode") (number node ∷ number start ∷ code ws ∷ [])
said project (Reset node) = says (codes "reset") (number node ∷ [])
said project (Run node) = says (codes "run") (number node ∷ [])
said project (Pause node) = says (codes "pause") (number node ∷ [])
said project (Step node) = says (codes "step") (number node ∷ [])
said project (Stop node) = says (codes "stop") (number node ∷ [])
said project (GetState node) = says (codes "get-state") (number node ∷ [])
said project (SetBreak node pc) = says (codes "set-breakpoint") (number node ∷ number pc ∷ [])
said project (ClearBreak node pc) = says (codes "clear-breakpoint") (number node ∷ number pc ∷ [])
said project (ClearBreaks node) = says (codes "clear-breakpoints") (number node ∷ [])
said project (GetVariables node start length) = says (codes "get-variables") (number node ∷ number start ∷ number length ∷ [])
said project (SetVariables node start ws) = says (codes "set-variables") (number node ∷ number start ∷ cells ws ∷ [])
said project (GetNodeDescription node version) = says (codes "get-node-description") (number node ∷ number version ∷ [])
said project (ListNodes version) = says (codes "list-nodes") (number version ∷ [])

abbrev pub said_text : Said → List ℕ
said_text s = s.name ++ flat_map field_text s.fields
