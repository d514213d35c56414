-- Small cores, written by hand: their words, the line of each word, and the lines that machine and core tell.
use Rattle.std.specs.Prelude.{◌≡◌, ℕ, ◌+◌, ℤ, pos, negsuc, List, [], ◌∷◌, ◌++◌, map, sum_by, Some, None, codes}
use Rattle.aseba_words.specs.declared.operators.Binary.TheVariants.{Add, Equal, Below}
use Rattle.aseba_tree.specs.Code.{Name, Sized, Param, Native, Project}
use Rattle.aseba_tree.specs.CoreExpr.{CoreExpr, fixed, cell, infix_of, into}
use Rattle.aseba_tree.specs.Core.{CoreStmt, core_stmt, store, branch, on_edge, loop, enter, use_native, go_back, CoreStmts, no_core, core_stmts, CorePart, Core}
use Rattle.aseba_tree.specs.CoreShape.{IsCore}
use Rattle.aseba_tree.specs.CoreStep.{CoreProgram}
use Rattle.aseba_tree.specs.CoreRun.{core_lines}
use Rattle.aseba_tree.specs.Layout.{placed_from}
use Rattle.aseba_tree.specs.Line.{Line, named, began, division, told, var, end, line_by}
use Rattle.aseba_tree.specs.Script.{Entry, Script, arrives}
use Rattle.aseba_target.specs.Node.{Layout, started}
use Rattle.aseba_target.specs.MachineRun.{machine_lines, machine_beats}
use Rattle.aseba_target.specs.Worked.{small_variables}
use Rattle.aseba_codegen.specs.Agrees.{line_at}
use Rattle.aseba_codegen.specs.Words.{core_code, code_words, code_lines}

-- Projects and cores

abbrev sized : Name → ℕ → Sized
sized name size = record { name = name; size = size }

-- a native without parameters, which fills a number
abbrev filling : Name → Native
filling name = record { name = name; text = []; params = [] }

abbrev vector : Name → Param
vector name = record { size = negsuc 0; name = name }

-- a node of that many words, with the events `ping` and `pong` of one argument, and a native that divides, whose number is 6
abbrev pub worked_project : ℕ → Project
worked_project words = record {
  node =
      record {
        name = codes "sim";
        code = words;
        stack = 8;
        cells = 40;
        variables = small_variables;
        locals = [];
        natives = filling (codes "n0") ∷ filling (codes "n1") ∷ filling (codes "n2") ∷ filling (codes "n3") ∷ filling (codes "n4") ∷ filling (codes "n5") ∷ record { name = codes "div"; text = []; params = vector (codes "d") ∷ vector (codes "a") ∷ vector (codes "b") ∷ [] } ∷ [];
      };
  id = 1;
  events = sized (codes "ping") 1 ∷ sized (codes "pong") 1 ∷ [];
  consts = [];
}

abbrev block : List CoreStmt → CoreStmts
block [] = no_core
block (s ∷ ss) = core_stmts s (block ss)

abbrev number : ℕ → CoreExpr
number n = fixed (pos n)

-- the program's first variable lies behind the node's
abbrev x : CoreExpr
x = cell 34

abbrev stored : (line address : ℕ) → CoreExpr → CoreStmt
stored line address e = core_stmt line (store (into address) e)

abbrev core_of : CoreStmts → List CorePart → (cells size depth : ℕ) → Core
core_of init parts cells size depth = record { init = init; parts = parts; cells = cells; room = 0; size = size; depth = depth }

abbrev pub program_of : (words : ℕ) → List Sized → Core → CoreProgram
program_of words own core = record { project = worked_project words; variables = small_variables ++ own; core = core }

abbrev pub layout_with : List Sized → Layout
layout_with own = record { node = placed_from 0 small_variables; own = placed_from 34 own; cells = 34 + sum_by (λ v. v.size) own }

-- What is worked of a core: that it is well formed, its words with their lines, what a machine tells in so many ticks, and that the core tells the same with
-- lines in the place of addresses.
pub record Worked (words : ℕ) (own : List Sized) (core : Core) (code lines : List ℕ) (script : Script) (n : ℕ) (tells : List Line) : Type 0 where
  pub well_formed : IsCore (worked_project words) core
  pub has_words : code_words (worked_project words) core ≡ code
  pub has_lines : code_lines (worked_project words) core ≡ lines
  pub runs : machine_lines (worked_project words) (layout_with own) (started (worked_project words) code) script n ≡ tells
  pub means :
      core_lines (program_of words own core) script (machine_beats (worked_project words) (layout_with own) (started (worked_project words) code) script n)
      ≡ map (line_by (line_at (core_code (worked_project words) core))) tells

abbrev only_x : List Sized
only_x = sized (codes "x") 1 ∷ []

abbrev event_at : (time : ℕ) → Name → ℕ → Entry
event_at time name argument = record { time = time; action = arrives (named name) 0 (pos argument ∷ []) }

-- Rows

-- an `if` with an else, which is left by a jump, and one without
--     var x
--     if x < 1 then
--         x = 5
--     else
--         x = 7
--     end
--     if x then
--         x = 9
--     end
abbrev pub branches : Core
branches =
    core_of
    (block
    (core_stmt 2 (branch (infix_of Below x (number 1)) (block (stored 3 34 (number 5) ∷ [])) (block (stored 5 34 (number 7) ∷ [])))
    ∷ core_stmt 7 (branch x (block (stored 8 34 (number 9) ∷ [])) no_core) ∷ []))
    [] 35 19 2

abbrev pub BranchesWorked : Type 0
BranchesWorked =
    Worked 64 only_x branches
    (0x0003 ∷ 0xffff ∷ 0x0003 ∷ 0x3022 ∷ 0x1001 ∷ 0xa00e ∷ 0x0005 ∷ 0x1005 ∷ 0x4022 ∷ 0x9003 ∷ 0x1007 ∷ 0x4022 ∷ 0x3022 ∷ 0x1000 ∷ 0xa00b ∷ 0x0004 ∷ 0x1009 ∷ 0x4022 ∷ 0x0000 ∷ [])
    (0 ∷ 0 ∷ 0 ∷ 2 ∷ 2 ∷ 2 ∷ 2 ∷ 3 ∷ 3 ∷ 2 ∷ 5 ∷ 5 ∷ 7 ∷ 7 ∷ 7 ∷ 7 ∷ 8 ∷ 8 ∷ 1 ∷ [])
    [] 20 (var (codes "x") (pos 9 ∷ []) ∷ end 20 6 ∷ [])

-- a `while` in another
--     var x; var y
--     while x < 2 do
--         while y < 1 do
--             y = y + 1
--         end
--         x = x + 1
--     end
abbrev pub loops : Core
loops =
    core_of
    (block
    (core_stmt 2
    (loop (infix_of Below x (number 2))
    (block
    (core_stmt 3 (loop (infix_of Below (cell 35) (number 1)) (block (stored 4 35 (infix_of Add (cell 35) (number 1)) ∷ []))) ∷ stored 6 34 (infix_of Add x (number 1)) ∷ [])))
    ∷ []))
    [] 36 22 2

abbrev pub LoopsWorked : Type 0
LoopsWorked =
    Worked 64 (sized (codes "x") 1 ∷ sized (codes "y") 1 ∷ []) loops
    (0x0003 ∷ 0xffff ∷ 0x0003 ∷ 0x3022 ∷ 0x1002 ∷ 0xa00e ∷ 0x0010 ∷ 0x3023 ∷ 0x1001 ∷ 0xa00e ∷ 0x0007 ∷ 0x3023 ∷ 0x1001 ∷ 0x8002 ∷ 0x4023 ∷ 0x9ff8 ∷ 0x3022 ∷ 0x1001 ∷ 0x8002 ∷ 0x4022 ∷ 0x9fef ∷ 0x0000 ∷ [])
    (0 ∷ 0 ∷ 0 ∷ 2 ∷ 2 ∷ 2 ∷ 2 ∷ 3 ∷ 3 ∷ 3 ∷ 3 ∷ 4 ∷ 4 ∷ 4 ∷ 4 ∷ 3 ∷ 6 ∷ 6 ∷ 6 ∷ 6 ∷ 2 ∷ 1 ∷ [])
    [] 60 (var (codes "x") (pos 2 ∷ []) ∷ var (codes "y") (pos 1 ∷ []) ∷ end 60 13 ∷ [])

-- two handlers that call a subroutine with a `when`, which calls one that may return in its middle
--     var x
--
--     onevent ping
--         callsub s
--
--     onevent pong
--         callsub s
--
--     sub s
--         when event.args[0] == 1 do
--             x = x + 1
--         end
--         callsub t
--
--     sub t
--         if x == 1 then
--             return
--         end
--         x = x + 8
abbrev pub calls : Core
calls =
    core_of no_core
    (record { line = 3; event = Some 0; body = block (core_stmt 4 (enter 2) ∷ []) }
    ∷ record { line = 6; event = Some 1; body = block (core_stmt 7 (enter 2) ∷ []) }
    ∷ record {
      line = 9;
      event = None;
      body = block (core_stmt 10 (on_edge (infix_of Equal (cell 2) (number 1)) (block (stored 11 34 (infix_of Add x (number 1)) ∷ []))) ∷ core_stmt 13 (enter 3) ∷ []);
    }
    ∷ record {
      line = 15;
      event = None;
      body = block (core_stmt 16 (branch (infix_of Equal x (number 1)) (block (core_stmt 17 go_back ∷ [])) no_core) ∷ stored 19 34 (infix_of Add x (number 8)) ∷ []);
    } ∷ [])
    35 32 4

-- The argument is 1, 1, 0 and 1: the `when` does its body twice, although another handler calls it each time.
abbrev pub CallsWorked : Type 0
CallsWorked =
    Worked 64 only_x calls
    (0x0007 ∷ 0xffff ∷ 0x0007 ∷ 0x0000 ∷ 0x0008 ∷ 0x0001 ∷ 0x000a ∷ 0x0000 ∷ 0xd00c ∷ 0x0000 ∷ 0xd00c ∷ 0x0000 ∷ 0x3002 ∷ 0x1001 ∷ 0xa10a ∷ 0x0006 ∷ 0x3022 ∷ 0x1001 ∷ 0x8002 ∷ 0x4022 ∷ 0xd016 ∷ 0xe000 ∷ 0x3022 ∷ 0x1001
    ∷ 0xa00a ∷ 0x0003 ∷ 0xe000 ∷ 0x3022 ∷ 0x1008 ∷ 0x8002 ∷ 0x4022 ∷ 0xe000 ∷ [])
    (0 ∷ 0 ∷ 0 ∷ 0 ∷ 0 ∷ 0 ∷ 0 ∷ 1 ∷ 4 ∷ 3 ∷ 7 ∷ 6 ∷ 10 ∷ 10 ∷ 10 ∷ 10 ∷ 11 ∷ 11 ∷ 11 ∷ 11 ∷ 13 ∷ 9 ∷ 16 ∷ 16 ∷ 16 ∷ 16 ∷ 17 ∷ 19 ∷ 19 ∷ 19 ∷ 19 ∷ 15 ∷ [])
    (event_at 2 (codes "ping") 1 ∷ event_at 22 (codes "pong") 1 ∷ event_at 42 (codes "ping") 0 ∷ event_at 62 (codes "pong") 1 ∷ []) 84
    (told 2 1 (began (named (codes "ping"))) ∷ told 22 9 (began (named (codes "pong"))) ∷ told 42 16 (began (named (codes "ping"))) ∷ told 62 23 (began (named (codes "pong")))
    ∷ var (codes "x") (pos 10 ∷ []) ∷ end 84 32 ∷ [])

-- A division of vectors that stops at its second element, and keeps the first. No statement stores the zeros, which stand there anyway.
--     var d[2]; var a[2]; var b[2]
--     a[0] = 6
--     b[0] = 3
--     call div(d, a, b)
abbrev pub dividing : Core
dividing = core_of (block (stored 2 36 (number 6) ∷ stored 3 38 (number 3) ∷ core_stmt 4 (use_native 6 (34 ∷ 36 ∷ 38 ∷ 2 ∷ [])) ∷ [])) [] 40 16 4

abbrev pub DividingWorked : Type 0
DividingWorked =
    Worked 64 (sized (codes "d") 2 ∷ sized (codes "a") 2 ∷ sized (codes "b") 2 ∷ []) dividing
    (0x0003 ∷ 0xffff ∷ 0x0003 ∷ 0x1006 ∷ 0x4024 ∷ 0x1003 ∷ 0x4026 ∷ 0x2000 ∷ 0x0022 ∷ 0x2000 ∷ 0x0024 ∷ 0x2000 ∷ 0x0026 ∷ 0x1002 ∷ 0xc006 ∷ 0x0000 ∷ [])
    (0 ∷ 0 ∷ 0 ∷ 2 ∷ 2 ∷ 3 ∷ 3 ∷ 4 ∷ 4 ∷ 4 ∷ 4 ∷ 4 ∷ 4 ∷ 4 ∷ 4 ∷ 1 ∷ [])
    [] 20 (told 8 3 (division 14) ∷ var (codes "d") (pos 2 ∷ pos 0 ∷ []) ∷ var (codes "a") (pos 6 ∷ pos 0 ∷ []) ∷ var (codes "b") (pos 3 ∷ pos 0 ∷ []) ∷ end 20 3 ∷ [])

-- a node of 4096 words, on which jumps ahead and back are branches that always go by their displacement
--     var x
--     while x < 1 do
--         if x == 0 then
--             x = 1
--         else
--             x = 5
--         end
--     end
abbrev pub far : Core
far =
    core_of
    (block
    (core_stmt 2
    (loop (infix_of Below x (number 1)) (block (core_stmt 3 (branch (infix_of Equal x (number 0)) (block (stored 4 34 (number 1) ∷ [])) (block (stored 6 34 (number 5) ∷ []))) ∷ [])))
    ∷ []))
    [] 35 24 2

abbrev pub FarWorked : Type 0
FarWorked =
    Worked 4096 only_x far
    (0x0003 ∷ 0xffff ∷ 0x0003 ∷ 0x3022 ∷ 0x1001 ∷ 0xa00e ∷ 0x0012 ∷ 0x3022 ∷ 0x1000 ∷ 0xa00a ∷ 0x0008 ∷ 0x1001 ∷ 0x4022 ∷ 0x1000 ∷ 0x1000 ∷ 0xa00b ∷ 0x0004 ∷ 0x1005 ∷ 0x4022 ∷ 0x1000 ∷ 0x1000 ∷ 0xa00b ∷ 0xffee ∷ 0x0000 ∷ [])
    (0 ∷ 0 ∷ 0 ∷ 2 ∷ 2 ∷ 2 ∷ 2 ∷ 3 ∷ 3 ∷ 3 ∷ 3 ∷ 4 ∷ 4 ∷ 3 ∷ 3 ∷ 3 ∷ 3 ∷ 6 ∷ 6 ∷ 2 ∷ 2 ∷ 2 ∷ 2 ∷ 1 ∷ [])
    [] 40 (var (codes "x") (pos 1 ∷ []) ∷ end 40 7 ∷ [])
