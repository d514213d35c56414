-- A message of each kind, worked out by hand from the table of messages, and messages that say nothing: the definition computes the same.
use Rattle.std.specs.Prelude.{◌≡◌, refl, ℕ, pos, negsuc, List, [], ◌∷◌, Option, Some, None}
use Rattle.aseba_payload.specs.declared.payload.Payload.{Payload}
use Rattle.aseba_payload.specs.declared.payload.Payload.TheVariants.{User, Describe, Variable, LocalEvent, NativeOf, Variables, BoundsAt, DivisionAt, KilledAt, ErrorAt, State, BreakSet, Present, GetDescription, SetBytecode, Reset, Run, Pause, Step, Stop, GetState, SetBreak, ClearBreak, ClearBreaks, GetVariables, SetVariables, GetNodeDescription, ListNodes}
use Rattle.aseba_payload.specs.Reading.{param_at, list_of_params_at, params_at}
use Rattle.aseba_payload.specs.Meaning.{payload_of}

-- a message of node 7
abbrev says : ℕ → List ℕ → Option Payload
says kind bytes = payload_of (record { source = 7; kind = kind; payload = bytes })

event : says 5 (3 ∷ 0 ∷ 255 ∷ 255 ∷ []) ≡ Some (User 5 (3 ∷ 65535 ∷ []))
event = refl

last-event : says 0x7fff [] ≡ Some (User 0x7fff [])
last-event = refl

describe : says 0x9000 (1 ∷ 65 ∷ 5 ∷ 0 ∷ 0 ∷ 8 ∷ 64 ∷ 0 ∷ 0 ∷ 4 ∷ 1 ∷ 0 ∷ 2 ∷ 0 ∷ 3 ∷ 0 ∷ []) ≡ Some (Describe (65 ∷ []) 5 2048 64 1024 1 2 3)
describe = refl

variable : says 0x9001 (3 ∷ 0 ∷ 2 ∷ 65 ∷ 66 ∷ []) ≡ Some (Variable 3 (65 ∷ 66 ∷ []))
variable = refl

local-event : says 0x9002 (1 ∷ 65 ∷ 2 ∷ 66 ∷ 67 ∷ []) ≡ Some (LocalEvent (65 ∷ []) (66 ∷ 67 ∷ []))
local-event = refl

native : says 0x9003 (1 ∷ 65 ∷ 0 ∷ 2 ∷ 0 ∷ 255 ∷ 255 ∷ 1 ∷ 66 ∷ 2 ∷ 1 ∷ 0 ∷ []) ≡ Some (NativeOf (65 ∷ []) [] (record { size = negsuc 0; name = 66 ∷ [] } ∷ record { size = pos 258; name = [] } ∷ []))
unfolding param_at list_of_params_at params_at
native = refl

variables : says 0x9005 (1 ∷ 2 ∷ 3 ∷ 0 ∷ 4 ∷ 0 ∷ []) ≡ Some (Variables 513 (3 ∷ 4 ∷ []))
variables = refl

bounds : says 0x9006 (1 ∷ 2 ∷ 3 ∷ 0 ∷ 255 ∷ 255 ∷ []) ≡ Some (BoundsAt 513 3 65535)
bounds = refl

division : says 0x9007 (1 ∷ 2 ∷ []) ≡ Some (DivisionAt 513)
division = refl

killed : says 0x9008 (1 ∷ 2 ∷ []) ≡ Some (KilledAt 513)
killed = refl

error : says 0x9009 (1 ∷ 2 ∷ 1 ∷ 65 ∷ []) ≡ Some (ErrorAt 513 (65 ∷ []))
error = refl

state : says 0x900A (1 ∷ 2 ∷ 3 ∷ 0 ∷ []) ≡ Some (State 513 3)
state = refl

breakpoint : says 0x900B (1 ∷ 2 ∷ 1 ∷ 0 ∷ []) ≡ Some (BreakSet 513 1)
breakpoint = refl

present : says 0x900C (5 ∷ 0 ∷ []) ≡ Some (Present 5)
present = refl

get-description : says 0xA000 (5 ∷ 0 ∷ []) ≡ Some (GetDescription 5)
get-description = refl

set-bytecode : says 0xA001 (1 ∷ 0 ∷ 2 ∷ 0 ∷ 3 ∷ 0 ∷ 255 ∷ 255 ∷ []) ≡ Some (SetBytecode 1 2 (3 ∷ 65535 ∷ []))
set-bytecode = refl

reset : says 0xA002 (1 ∷ 2 ∷ []) ≡ Some (Reset 513)
reset = refl

run : says 0xA003 (1 ∷ 2 ∷ []) ≡ Some (Run 513)
run = refl

pause : says 0xA004 (1 ∷ 2 ∷ []) ≡ Some (Pause 513)
pause = refl

step : says 0xA005 (1 ∷ 2 ∷ []) ≡ Some (Step 513)
step = refl

stop : says 0xA006 (1 ∷ 2 ∷ []) ≡ Some (Stop 513)
stop = refl

get-state : says 0xA007 (1 ∷ 2 ∷ []) ≡ Some (GetState 513)
get-state = refl

set-breakpoint : says 0xA008 (1 ∷ 0 ∷ 3 ∷ 4 ∷ []) ≡ Some (SetBreak 1 1027)
set-breakpoint = refl

clear-breakpoint : says 0xA009 (1 ∷ 0 ∷ 3 ∷ 4 ∷ []) ≡ Some (ClearBreak 1 1027)
clear-breakpoint = refl

clear-breakpoints : says 0xA00A (1 ∷ 2 ∷ []) ≡ Some (ClearBreaks 513)
clear-breakpoints = refl

get-variables : says 0xA00B (1 ∷ 0 ∷ 3 ∷ 4 ∷ 5 ∷ 6 ∷ []) ≡ Some (GetVariables 1 1027 1541)
get-variables = refl

set-variables : says 0xA00C (1 ∷ 0 ∷ 3 ∷ 4 ∷ 5 ∷ 6 ∷ []) ≡ Some (SetVariables 1 1027 (1541 ∷ []))
set-variables = refl

get-node-description : says 0xA010 (1 ∷ 0 ∷ 5 ∷ 0 ∷ []) ≡ Some (GetNodeDescription 1 5)
get-node-description = refl

list-nodes : says 0xA011 (5 ∷ 0 ∷ []) ≡ Some (ListNodes 5)
list-nodes = refl

half-word : says 5 (3 ∷ []) ≡ None
half-word = refl

no-row : says 0x8000 [] ≡ None
no-row = refl

no-row-between : says 0x9004 (1 ∷ 2 ∷ []) ≡ None
no-row-between = refl

no-row-behind : says 0xA012 (1 ∷ 0 ∷ []) ≡ None
no-row-behind = refl

short : says 0xA002 (1 ∷ []) ≡ None
short = refl

long : says 0xA002 (1 ∷ 2 ∷ 0 ∷ []) ≡ None
long = refl

short-text : says 0x9001 (3 ∷ 0 ∷ 2 ∷ 65 ∷ []) ≡ None
short-text = refl

short-params : says 0x9003 (0 ∷ 0 ∷ 1 ∷ 0 ∷ 2 ∷ 0 ∷ []) ≡ None
unfolding param_at list_of_params_at params_at
short-params = refl
