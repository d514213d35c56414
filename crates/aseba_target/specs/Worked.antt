-- Small programs as words, and the lines that they come to on a small node. In place of a source's line they show the machine's counter.
use Rattle.std.specs.Prelude.{◌≡◌, ℕ, List, [], ◌∷◌, ℤ, pos, codes}
use Rattle.aseba_tree.specs.Code.{Name, Sized, Project}
use Rattle.aseba_tree.specs.Line.{named, began, killed, sent, told, var, end}
use Rattle.aseba_tree.specs.Script.{Entry, arrives}
use Rattle.aseba_tree.specs.Layout.{placed_from}
use Rattle.aseba_target.specs.Node.{Layout, started}
use Rattle.aseba_target.specs.MachineRun.{machine_lines}

abbrev sized : Name → ℕ → Sized
sized name size = record { name = name; size = size }

abbrev pub small_variables : List Sized
small_variables = sized (codes "_id") 1 ∷ sized (codes "event.source") 1 ∷ sized (codes "event.args") 32 ∷ []

-- a node with few words and cells, and the events `ping`, `pong` and `pair`
abbrev pub small_project : Project
small_project = record {
  node = record { name = codes "sim"; code = 20; stack = 4; cells = 36; variables = small_variables; locals = []; natives = [] };
  id = 1;
  events = sized (codes "ping") 0 ∷ sized (codes "pong") 0 ∷ sized (codes "pair") 2 ∷ [];
  consts = [];
}

-- one variable of one cell behind those of the node
abbrev pub one_variable : Name → Layout
one_variable name = record { node = placed_from 0 small_variables; own = placed_from 34 (sized name 1 ∷ []); cells = 35 }

abbrev pub event_at : ℕ → Name → List ℤ → Entry
event_at time name args = record { time = time; action = arrives (named name) 0 args }

-- `for i in 1:2 do end` leaves 3 in its variable, after nine effects
abbrev pub ForLoop : Type 0
ForLoop =
    machine_lines small_project (one_variable (codes "i")) (started small_project (0x0003 ∷ 0xffff ∷ 0x0003 ∷ 0x1001 ∷ 0x4022 ∷ 0x3022 ∷ 0x1002 ∷ 0xa00f ∷ 0x0007 ∷ 0x3022 ∷ 0x1001 ∷ 0x8002 ∷ 0x4022 ∷ 0x9ff8 ∷ 0x0000 ∷ [])) [] 30
    ≡ var (codes "i") (pos 3 ∷ []) ∷ end 30 9 ∷ []

-- a subroutine that stores 5
abbrev pub SubCall : Type 0
SubCall =
    machine_lines small_project (one_variable (codes "x")) (started small_project (0x0003 ∷ 0xffff ∷ 0x0003 ∷ 0xd005 ∷ 0x0000 ∷ 0x1005 ∷ 0x4022 ∷ 0xe000 ∷ [])) [] 10
    ≡ var (codes "x") (pos 5 ∷ []) ∷ end 10 4 ∷ []

-- a `when` on the event's first argument, which is 0, 1, 1, 0 and 1: its body runs twice
abbrev pub WhenEdge : Type 0
WhenEdge =
    machine_lines small_project (one_variable (codes "n")) (started small_project (0x0005 ∷ 0xffff ∷ 0x0005 ∷ 0x0002 ∷ 0x0006 ∷ 0x0000 ∷ 0x1000 ∷ 0x5002 ∷ 0x0020 ∷ 0x1001 ∷ 0xa10a ∷ 0x0006 ∷ 0x3022 ∷ 0x1001 ∷ 0x8002 ∷ 0x4022 ∷ 0x0000 ∷ []))
    (event_at 10 (codes "pair") (pos 0 ∷ []) ∷ event_at 30 (codes "pair") (pos 1 ∷ []) ∷ event_at 50 (codes "pair") (pos 1 ∷ []) ∷ event_at 70 (codes "pair") (pos 0 ∷ []) ∷ event_at 90 (codes "pair") (pos 1 ∷ []) ∷ [])
    110
    ≡ told 10 1 (began (named (codes "pair"))) ∷ told 30 3 (began (named (codes "pair"))) ∷ told 50 6 (began (named (codes "pair"))) ∷ told 70 8 (began (named (codes "pair"))) ∷ told 90 10 (began (named (codes "pair")))
    ∷ var (codes "n") (pos 2 ∷ []) ∷ end 110 13 ∷ []

-- an event that kills its own handler inside an expression, at the word 10
abbrev pub KillInExpression : Type 0
KillInExpression =
    machine_lines small_project (one_variable (codes "x")) (started small_project (0x0005 ∷ 0xffff ∷ 0x0005 ∷ 0x0000 ∷ 0x0008 ∷ 0x1001 ∷ 0x4022 ∷ 0x0000 ∷ 0x3022 ∷ 0x1001 ∷ 0x8002 ∷ 0x4022 ∷ 0xb001 ∷ 0x0000 ∷ 0x0000 ∷ 0x0000 ∷ []))
    (event_at 10 (codes "ping") [] ∷ event_at 12 (codes "ping") [] ∷ [])
    20
    ≡ told 10 2 (began (named (codes "ping"))) ∷ told 12 2 (killed 10) ∷ told 12 2 (began (named (codes "ping"))) ∷ told 16 4 (sent (named (codes "pong")) [])
    ∷ var (codes "x") (pos 2 ∷ []) ∷ end 20 5 ∷ []
