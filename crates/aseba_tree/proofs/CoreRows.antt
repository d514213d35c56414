-- The cores of some worked sources, written by hand: the same moves make of a core what they make of its source.
use Rattle.std.specs.Prelude.{◌≡◌, refl, ℕ, ◌==◌, ◌&&◌, ℤ, pos, Bool, true, bytes_eq, List, [], ◌∷◌, ◌++◌, map, take, replicate, Some, None, codes}
use Rattle.std.specs.Bool.{beq}
use Rattle.std.specs.Fmt.{digits}
use Rattle.std.specs.Option.{option_eq}
use Rattle.std.specs.Ordering.{int_eq}
use lib.Pointwise.{pointwise}
use Rattle.std.specs.Int.{int_wrap}
use Rattle.aseba_words.specs.declared.operators.Binary.TheVariants.{Add, Equal, AtMost}
use Rattle.aseba_tree.specs.Code.{Name, no_stmts, exprs, no_exprs, callsub, call, for_do, when_do, change, two, all, index}
use Rattle.aseba_tree.specs.Line.{named, report_text}
use Rattle.aseba_tree.specs.Script.{arrives, sets}
use Rattle.aseba_tree.specs.State.{Program, loaded, declared}
use Rattle.aseba_tree.specs.Step.{step, next_line}
use Rattle.aseba_tree.specs.CoreExpr.{fixed, cell, indirect, infix_of, into}
use Rattle.aseba_tree.specs.Core.{CoreStmt, core_stmt, store, on_edge, loop, enter, use_native, CoreStmts, no_core, core_stmts, Core}
use Rattle.aseba_tree.specs.CoreStep.{CoreProgram, core_step, core_loaded, core_next_line}
use Rattle.aseba_tree.specs.Moves.{Move, steps, acts, Course, CoreCourse, moved, core_moved}
use Rattle.aseba_tree.proofs.Written.{num, name, list, st, decl, onevent, project, program, x, ping, ex, spot, block}
use Rattle.aseba_tree.proofs.Written as written

joined : {A : Type 0} → List (Name × List A) → List A
joined [] = []
joined (v ∷ vs) = v.1 ++ joined vs

-- a core's course shows what its source's shows between two effects: the cells of variables, the bits, the held values, the flags and the next
-- line; and both told the same
looks_same : Core → Course → CoreCourse → Bool
looks_same core c d =
    pointwise int_eq (take core.cells d.state.cells) (joined c.state.cells) && pointwise beq d.state.bits c.state.bits
    && pointwise (option_eq int_eq) (take core.cells d.state.held) (joined c.state.held) && beq d.state.active c.state.active
    && beq d.state.paused c.state.paused && core_next_line d.state == next_line c.state
    && pointwise bytes_eq (map report_text d.reports) (map report_text c.reports)

same_from : Program → CoreProgram → Course → CoreCourse → List Move → Bool
same_from p q c d [] = looks_same q.core c d
same_from p q c d (move ∷ moves) = looks_same q.core c d && same_from p q (moved p c move) (core_moved q d move) moves

core_program : Program → Core → CoreProgram
core_program p core = record { project = p.project; variables = p.project.node.variables ++ declared p; core = core }

-- after each of the moves in turn the core shows what its source shows
IsSameAlong : Program → Core → List Move → Type 0
IsSameAlong p core moves =
    same_from p (core_program p core) (record { state = loaded p; reports = [] }) (record { state = core_loaded (core_program p core); reports = [] }) moves ≡ true

abbrev core_block : List CoreStmt → CoreStmts
core_block [] = no_core
core_block (s ∷ ss) = core_stmts s (core_block ss)

abbrev do_store : ℕ → ℕ → Rattle.aseba_tree.specs.CoreExpr.CoreExpr → CoreStmt
do_store line address e = core_stmt line (store (into address) e)

abbrev some_steps : ℕ → List Move
some_steps n = replicate n steps

abbrev ping_comes : Move
ping_comes = acts (arrives (named ping) 0 [])

abbrev a : Name
a = codes "a"

-- var a[2] = [1,2] / onevent ping / a = [a[1], a[0]]
abbrev half_vector : Program
half_vector = program (decl 1 a (Some (num 2)) (Some (list (num 1) (num 2))) ∷ []) []
    (onevent 2 ping (written.store 3 a (list (ex (index a (num 1))) (ex (index a (num 0)))) ∷ []) ∷ [])

abbrev half_vector_core : Core
half_vector_core = record {
  init = core_block (do_store 1 36 (fixed (pos 1)) ∷ do_store 1 37 (fixed (pos 2)) ∷ do_store 1 34 (cell 36) ∷ do_store 1 35 (cell 37) ∷ []);
  parts = record {
    line = 2;
    event = Some 0;
    body = core_block (do_store 3 36 (indirect 34 2 (fixed (pos 1))) ∷ do_store 3 37 (indirect 34 2 (fixed (pos 0))) ∷ do_store 3 34 (cell 36) ∷ do_store 3 35 (cell 37) ∷ []);
  } ∷ [];
  cells = 36;
  room = 2;
  size = 0;
  depth = 0;
}

half-vector : IsSameAlong half_vector half_vector_core
    (some_steps 3 ++ ping_comes ∷ steps ∷ acts (sets a 0 (pos 7 ∷ [])) ∷ ping_comes ∷ steps ∷ steps ∷ acts (sets a 1 (pos 5 ∷ [])) ∷ steps ∷ [])
unfolding int_wrap digits IsSameAlong looks_same same_from core_program joined loaded core_loaded step core_step
half-vector = refl

abbrev pair : Name
pair = codes "pair"

abbrev pair_comes : ℤ → Move
pair_comes v = acts (arrives (named pair) 0 (v ∷ []))

abbrev n : Name
n = codes "n"

-- var n / onevent pair / when event.args[0] == 1 do / n += 1 / end
abbrev when_edge : Program
when_edge = program (decl 1 n None None ∷ []) []
    (onevent 2 pair
    (st 3 (when_do (ex (two Equal (ex (index (codes "event.args") (num 0))) (num 1)))
    (block (st 4 (change (record { place = spot; name = n; part = all }) Add (num 1)) ∷ []))) ∷ []) ∷ [])

abbrev when_edge_core : Core
when_edge_core = record {
  init = no_core;
  parts = record {
    line = 2;
    event = Some 2;
    body = core_block
        (core_stmt 3 (on_edge (infix_of Equal (indirect 2 32 (fixed (pos 0))) (fixed (pos 1)))
        (core_block (do_store 4 34 (infix_of Add (cell 34) (fixed (pos 1))) ∷ []))) ∷ []);
  } ∷ [];
  cells = 35;
  room = 0;
  size = 0;
  depth = 0;
}

when-edge : IsSameAlong when_edge when_edge_core
    (steps ∷ pair_comes (pos 0) ∷ steps ∷ steps ∷ pair_comes (pos 1) ∷ some_steps 3 ++ pair_comes (pos 1) ∷ steps ∷ steps ∷ pair_comes (pos 0) ∷ steps ∷ steps
    ∷ pair_comes (pos 1) ∷ some_steps 4)
unfolding int_wrap digits IsSameAlong looks_same same_from core_program joined loaded core_loaded step core_step
when-edge = refl

-- var i / for i in 1:2 do / end
for-loop : IsSameAlong
    (program (decl 1 (codes "i") None None ∷ []) (st 2 (for_do (record { name = codes "i"; first = num 1; last = num 2; step = None }) no_stmts) ∷ []) [])
    (record {
      init = core_block
          (do_store 2 34 (fixed (pos 1))
          ∷ core_stmt 2 (loop (infix_of AtMost (cell 34) (fixed (pos 2))) (core_block (do_store 2 34 (infix_of Add (cell 34) (fixed (pos 1))) ∷ []))) ∷ []);
      parts = [];
      cells = 35;
      room = 0;
      size = 0;
      depth = 0;
    })
    (some_steps 10)
unfolding int_wrap digits IsSameAlong looks_same same_from core_program joined loaded core_loaded step core_step
for-loop = refl

-- var x / callsub s / sub s / x = 5
sub-call : IsSameAlong
    (program (decl 1 x None None ∷ []) (st 2 (callsub (codes "s")) ∷ [])
    (record { line = 3; place = spot; is_sub = true; name = codes "s"; body = block (written.store 4 x (num 5) ∷ []) } ∷ []))
    (record {
      init = core_block (core_stmt 2 (enter 0) ∷ []);
      parts = record { line = 3; event = None; body = core_block (do_store 4 34 (fixed (pos 5)) ∷ []) } ∷ [];
      cells = 35;
      room = 0;
      size = 0;
      depth = 0;
    })
    (some_steps 5)
unfolding int_wrap digits IsSameAlong looks_same same_from core_program joined loaded core_loaded step core_step
sub-call = refl

abbrev b : Name
b = codes "b"

-- var a[2] = [6,6] / var b[2] = [2,0] / call math.div(a, a, b)
native-division : IsSameAlong
    (program (decl 1 a (Some (num 2)) (Some (list (num 6) (num 6))) ∷ decl 2 b (Some (num 2)) (Some (list (num 2) (num 0))) ∷ [])
    (st 3 (call (codes "math.div") (exprs (name a) (exprs (name a) (exprs (name b) no_exprs)))) ∷ []) [])
    (record {
      init = core_block
          (do_store 1 38 (fixed (pos 6)) ∷ do_store 1 39 (fixed (pos 6)) ∷ do_store 1 34 (cell 38) ∷ do_store 1 35 (cell 39)
          ∷ do_store 2 38 (fixed (pos 2)) ∷ do_store 2 39 (fixed (pos 0)) ∷ do_store 2 36 (cell 38) ∷ do_store 2 37 (cell 39)
          ∷ core_stmt 3 (use_native 6 (34 ∷ 34 ∷ 36 ∷ 2 ∷ [])) ∷ []);
      parts = [];
      cells = 38;
      room = 2;
      size = 0;
      depth = 0;
    })
    (some_steps 6)
unfolding int_wrap digits IsSameAlong looks_same same_from core_program joined loaded core_loaded step core_step
native-division = refl
