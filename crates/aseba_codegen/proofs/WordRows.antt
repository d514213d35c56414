-- The words of small cores, computed from the definition.
use Rattle.std.specs.Prelude.{◌≡◌, refl, ℕ, List, [], ◌∷◌, ℤ, pos, negsuc, Some, None}
use Rattle.aseba_words.specs.declared.operators.Binary.TheVariants.{Add, AtMost, Equal}
use Rattle.aseba_tree.specs.Code.{Project}
use Rattle.aseba_tree.specs.CoreExpr.{CoreExpr, fixed, cell, indirect, infix_of, into}
use Rattle.aseba_tree.specs.Core.{CoreStmt, core_stmt, store, branch, on_edge, loop, send, enter, CoreStmts, no_core, core_stmts, CorePart, Core}
use Rattle.aseba_target.specs.Worked.{small_project}
use Rattle.aseba_codegen.specs.Words.{code_words, code_lines}

abbrev block : List CoreStmt → CoreStmts
block [] = no_core
block (s ∷ ss) = core_stmts s (block ss)

abbrev core_of : List CoreStmt → List CorePart → Core
core_of init parts = record { init = block init; parts = parts; cells = 35; room = 0; size = 0; depth = 0 }

abbrev set : ℕ → ℕ → CoreExpr → CoreStmt
set line address e = core_stmt line (store (into address) e)

abbrev plus : CoreExpr → ℤ → CoreExpr
plus e v = infix_of Add e (fixed v)

abbrev handler : ℕ → ℕ → List CoreStmt → CorePart
handler line event body = record { line = line; event = Some event; body = block body }

abbrev sub : ℕ → List CoreStmt → CorePart
sub line body = record { line = line; event = None; body = block body }

-- `var x = 1 // x = x + 1`
first_run : code_words small_project (core_of (set 1 34 (fixed (pos 1)) ∷ set 2 34 (plus (cell 34) (pos 1)) ∷ []) [])
    ≡ 0x0003 ∷ 0xffff ∷ 0x0003 ∷ 0x1001 ∷ 0x4022 ∷ 0x3022 ∷ 0x1001 ∷ 0x8002 ∷ 0x4022 ∷ 0x0000 ∷ []
first_run = refl

-- `emit ping` alone
emit_only : code_words small_project (core_of (core_stmt 1 (send 0 0 0) ∷ []) [])
    ≡ 0x0003 ∷ 0xffff ∷ 0x0003 ∷ 0xb000 ∷ 0x0000 ∷ 0x0000 ∷ 0x0000 ∷ []
emit_only = refl

-- `for i in 1:2 do // end`
for_loop : code_words small_project (core_of (set 2 34 (fixed (pos 1)) ∷ core_stmt 2 (loop (infix_of AtMost (cell 34) (fixed (pos 2))) (block (set 2 34 (plus (cell 34) (pos 1)) ∷ []))) ∷ []) [])
    ≡ 0x0003 ∷ 0xffff ∷ 0x0003 ∷ 0x1001 ∷ 0x4022 ∷ 0x3022 ∷ 0x1002 ∷ 0xa00f ∷ 0x0007 ∷ 0x3022 ∷ 0x1001 ∷ 0x8002 ∷ 0x4022 ∷ 0x9ff8 ∷ 0x0000 ∷ []
for_loop = refl

-- `callsub s // sub s // x = 5`
sub_call : code_words small_project (core_of (core_stmt 2 (enter 0) ∷ []) (sub 3 (set 4 34 (fixed (pos 5)) ∷ []) ∷ []))
    ≡ 0x0003 ∷ 0xffff ∷ 0x0003 ∷ 0xd005 ∷ 0x0000 ∷ 0x1005 ∷ 0x4022 ∷ 0xe000 ∷ []
sub_call = refl

-- `onevent pair // when event.args[0] == 1 do // n += 1 // end`
when_edge : code_words small_project (core_of [] (handler 2 2 (core_stmt 3 (on_edge (infix_of Equal (indirect 2 32 (fixed (pos 0))) (fixed (pos 1))) (block (set 4 34 (plus (cell 34) (pos 1)) ∷ []))) ∷ []) ∷ []))
    ≡ 0x0005 ∷ 0xffff ∷ 0x0005 ∷ 0x0002 ∷ 0x0006 ∷ 0x0000 ∷ 0x1000 ∷ 0x5002 ∷ 0x0020 ∷ 0x1001 ∷ 0xa10a ∷ 0x0006 ∷ 0x3022 ∷ 0x1001 ∷ 0x8002 ∷ 0x4022 ∷ 0x0000 ∷ []
when_edge = refl

-- `var x = 1 // onevent ping // x = x + 1 // emit pong`, with the lines
abbrev kill_in_expression : Core
kill_in_expression = core_of (set 1 34 (fixed (pos 1)) ∷ []) (handler 2 0 (set 3 34 (plus (cell 34) (pos 1)) ∷ core_stmt 4 (send 1 0 0) ∷ []) ∷ [])

kill_words : code_words small_project kill_in_expression
    ≡ 0x0005 ∷ 0xffff ∷ 0x0005 ∷ 0x0000 ∷ 0x0008 ∷ 0x1001 ∷ 0x4022 ∷ 0x0000 ∷ 0x3022 ∷ 0x1001 ∷ 0x8002 ∷ 0x4022 ∷ 0xb001 ∷ 0x0000 ∷ 0x0000 ∷ 0x0000 ∷ []
kill_words = refl

kill_lines : code_lines small_project kill_in_expression ≡ 0 ∷ 0 ∷ 0 ∷ 0 ∷ 0 ∷ 1 ∷ 1 ∷ 1 ∷ 3 ∷ 3 ∷ 3 ∷ 3 ∷ 4 ∷ 4 ∷ 4 ∷ 2 ∷ []
kill_lines = refl

-- an `if` with an else, and numbers of two words: the jump over the else leads behind it
two_ways : code_words small_project (core_of (core_stmt 1 (branch (cell 34) (block (set 2 34 (fixed (negsuc 2048)) ∷ [])) (block (set 4 34 (fixed (negsuc 0)) ∷ []))) ∷ []) [])
    ≡ 0x0003 ∷ 0xffff ∷ 0x0003 ∷ 0x3022 ∷ 0x1000 ∷ 0xa00b ∷ 0x0006 ∷ 0x2000 ∷ 0xf7ff ∷ 0x4022 ∷ 0x9003 ∷ 0x1fff ∷ 0x4022 ∷ 0x0000 ∷ []
two_ways = refl

-- the same project with 4,000 words
abbrev large_project : Project
large_project = record small_project { node = record small_project.node { code = 4000 } }

-- subroutines stand before the init code, handlers behind it, and a jump is four words
large_parts : code_words large_project (core_of (core_stmt 1 (enter 1) ∷ []) (handler 2 0 [] ∷ sub 3 (core_stmt 4 (loop (cell 34) no_core) ∷ []) ∷ []))
    ≡ 0x0005 ∷ 0xffff ∷ 0x000e ∷ 0x0000 ∷ 0x0010 ∷ 0x3022 ∷ 0x1000 ∷ 0xa00b ∷ 0x0006 ∷ 0x1000 ∷ 0x1000 ∷ 0xa00b ∷ 0xfffa ∷ 0xe000 ∷ 0xd005 ∷ 0x0000 ∷ 0x0000 ∷ []
large_parts = refl
