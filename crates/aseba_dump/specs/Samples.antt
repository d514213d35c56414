-- A line for each message, worked by hand.
use Rattle.std.specs.Prelude.{◌≡◌, ℕ, true, false, List, [], ◌∷◌, codes}
use Rattle.aseba_tree.specs.declared.description.Sized.{Sized}
use Rattle.aseba_tree.specs.declared.project.Project.{Project}
use Rattle.aseba_dump.specs.DumpText.{dump_line}

abbrev event : List ℕ → Sized
event name = record { name = name; size = 0 }

-- a project whose events are `ping`, `pong` and `pair`
abbrev pub network : Project
network = record {
  node = record { name = []; code = 0; stack = 0; cells = 0; variables = []; locals = []; natives = [] };
  id = 0;
  events = event (codes "ping") ∷ event (codes "pong") ∷ event (codes "pair") ∷ [];
  consts = [];
}

-- the line of a message of node 7 that came at time 0; that of one of node 1 at time 12 as it stands
abbrev pub told : ℕ → List ℕ → List ℕ
told kind bytes = dump_line network false 0 (record { source = 7; kind = kind; payload = bytes })

abbrev pub told_raw : ℕ → List ℕ → List ℕ
told_raw kind bytes = dump_line network true 12 (record { source = 1; kind = kind; payload = bytes })

pub record EventLines : Type 0 where
  pub named : told 1 (3 ∷ 0 ∷ 255 ∷ 255 ∷ []) ≡ codes "0 7 pong 3 -1\n"
  pub without_words : told 2 [] ≡ codes "0 7 pair\n"
  pub numbered : told 5 [] ≡ codes "0 7 event 5\n"
  pub odd : told 5 (255 ∷ []) ≡ codes "0 7 raw 0005 ff\n"
  pub unknown : told 0xA012 [] ≡ codes "0 7 raw a012 -\n"
  pub raw : told_raw 1 (3 ∷ 0 ∷ 255 ∷ 255 ∷ []) ≡ codes "12 1 raw 0001 0300ffff\n"

pub record DescriptionLines : Type 0 where
  pub description : told 0x9000 (1 ∷ 65 ∷ 5 ∷ 0 ∷ 0 ∷ 8 ∷ 64 ∷ 0 ∷ 0 ∷ 4 ∷ 1 ∷ 0 ∷ 2 ∷ 0 ∷ 3 ∷ 0 ∷ []) ≡ codes "0 7 description \"A\" 5 2048 64 1024 1 2 3\n"
  pub variable : told 0x9001 (3 ∷ 0 ∷ 2 ∷ 65 ∷ 66 ∷ []) ≡ codes "0 7 variable 3 \"AB\"\n"
  pub local : told 0x9002 (4 ∷ 34 ∷ 92 ∷ 7 ∷ 200 ∷ 2 ∷ 32 ∷ 126 ∷ []) ≡ codes "0 7 local \"\\22\\5c\\07\\c8\" \" ~\"\n"
  pub native : told 0x9003 (1 ∷ 65 ∷ 0 ∷ 2 ∷ 0 ∷ 255 ∷ 255 ∷ 1 ∷ 66 ∷ 2 ∷ 1 ∷ 0 ∷ []) ≡ codes "0 7 native \"A\" \"\" -1 \"B\" 258 \"\"\n"

pub record NodeLines : Type 0 where
  pub variables : told 0x9005 (1 ∷ 2 ∷ 3 ∷ 0 ∷ 255 ∷ 255 ∷ []) ≡ codes "0 7 variables 513 3 -1\n"
  pub bounds : told 0x9006 (1 ∷ 2 ∷ 3 ∷ 0 ∷ 255 ∷ 255 ∷ []) ≡ codes "0 7 bounds 513 3 -1\n"
  pub division : told 0x9007 (1 ∷ 2 ∷ []) ≡ codes "0 7 division 513\n"
  pub killed : told 0x9008 (1 ∷ 2 ∷ []) ≡ codes "0 7 killed 513\n"
  pub error : told 0x9009 (1 ∷ 2 ∷ 1 ∷ 65 ∷ []) ≡ codes "0 7 error 513 \"A\"\n"
  pub state : told 0x900A (1 ∷ 2 ∷ 3 ∷ 0 ∷ []) ≡ codes "0 7 state 513 3\n"
  pub breakpoint : told 0x900B (1 ∷ 2 ∷ 1 ∷ 0 ∷ []) ≡ codes "0 7 breakpoint 513 1\n"
  pub present : told 0x900C (5 ∷ 0 ∷ []) ≡ codes "0 7 present 5\n"

pub record RequestLines : Type 0 where
  pub get_description : told 0xA000 (5 ∷ 0 ∷ []) ≡ codes "0 7 get-description 5\n"
  pub set_bytecode : told 0xA001 (1 ∷ 0 ∷ 2 ∷ 0 ∷ 3 ∷ 0 ∷ 255 ∷ 255 ∷ []) ≡ codes "0 7 set-bytecode 1 2 0003 ffff\n"
  pub reset : told 0xA002 (1 ∷ 2 ∷ []) ≡ codes "0 7 reset 513\n"
  pub run : told 0xA003 (1 ∷ 0 ∷ []) ≡ codes "0 7 run 1\n"
  pub pause : told 0xA004 (1 ∷ 0 ∷ []) ≡ codes "0 7 pause 1\n"
  pub step : told 0xA005 (1 ∷ 0 ∷ []) ≡ codes "0 7 step 1\n"
  pub stop : told 0xA006 (1 ∷ 0 ∷ []) ≡ codes "0 7 stop 1\n"
  pub get_state : told 0xA007 (1 ∷ 0 ∷ []) ≡ codes "0 7 get-state 1\n"
  pub set_breakpoint : told 0xA008 (1 ∷ 0 ∷ 2 ∷ 0 ∷ []) ≡ codes "0 7 set-breakpoint 1 2\n"
  pub clear_breakpoint : told 0xA009 (1 ∷ 0 ∷ 2 ∷ 0 ∷ []) ≡ codes "0 7 clear-breakpoint 1 2\n"
  pub clear_breakpoints : told 0xA00A (1 ∷ 0 ∷ []) ≡ codes "0 7 clear-breakpoints 1\n"
  pub get_variables : told 0xA00B (1 ∷ 0 ∷ 2 ∷ 0 ∷ 3 ∷ 0 ∷ []) ≡ codes "0 7 get-variables 1 2 3\n"
  pub set_variables : told 0xA00C (1 ∷ 0 ∷ 2 ∷ 0 ∷ 255 ∷ 255 ∷ []) ≡ codes "0 7 set-variables 1 2 -1\n"
  pub get_node_description : told 0xA010 (1 ∷ 0 ∷ 5 ∷ 0 ∷ []) ≡ codes "0 7 get-node-description 1 5\n"
  pub list_nodes : told 0xA011 (5 ∷ 0 ∷ []) ≡ codes "0 7 list-nodes 5\n"
