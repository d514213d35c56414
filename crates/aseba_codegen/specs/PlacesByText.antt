-- The places of `when`s go by the text also where the code has another order: a program on a node of 4096 words, whose subroutine stands before its init code.
--     var x
--     when x == 0 do
--         x = 1
--     end
--     onevent ping
--     callsub s
--     sub s
--     when x == 5 do
--     end
use Rattle.std.specs.Prelude.{◌≡◌, ℕ, true, false, List, [], ◌∷◌, pos, codes, slice_set, Some, None}
use Rattle.aseba_words.specs.declared.operators.Binary.TheVariants.{Equal}
use Rattle.aseba_tree.specs.Code.{Name, Sized, Project}
use Rattle.aseba_tree.specs.CoreExpr.{CoreExpr, fixed, cell, infix_of, into}
use Rattle.aseba_tree.specs.Core.{CoreStmt, core_stmt, store, on_edge, enter, CoreStmts, no_core, core_stmts, Core}
use Rattle.aseba_vm.specs.Instructions.{bits_at, remembering}
use Rattle.aseba_codegen.specs.Places.{edge_places, word_at, HasBits}
use Rattle.aseba_codegen.specs.Words.{core_code, code_words}

abbrev sized : Name → ℕ → Sized
sized name size = record { name = name; size = size }

abbrev pub wide_project : Project
wide_project = record {
  node =
      record {
        name = codes "sim";
        code = 4096;
        stack = 64;
        cells = 1024;
        variables = sized (codes "_id") 1 ∷ sized (codes "event.source") 1 ∷ sized (codes "event.args") 32 ∷ [];
        locals = [];
        natives = [];
      };
  id = 1;
  events = sized (codes "ping") 0 ∷ [];
  consts = [];
}

abbrev only : CoreStmt → CoreStmts
only s = core_stmts s no_core

-- whether x, which lies behind the node's variables, is a number
abbrev x_equals : ℕ → CoreExpr
x_equals n = infix_of Equal (cell 34) (fixed (pos n))

abbrev pub two_whens : Core
two_whens = record {
  init = only (core_stmt 2 (on_edge (x_equals 0) (only (core_stmt 3 (store (into 34) (fixed (pos 1)))))));
  parts =
      record { line = 5; event = Some 0; body = only (core_stmt 6 (enter 1)) }
      ∷ record { line = 7; event = None; body = only (core_stmt 8 (on_edge (x_equals 5) no_core)) }
      ∷ [];
  cells = 35;
  room = 0;
  size = 19;
  depth = 3;
}

-- the `when` of the init code stands behind that of the subroutine
abbrev pub PlacesByText : Type 0
PlacesByText = edge_places wide_project two_whens ≡ 12 ∷ 7 ∷ []

-- the code behind its first effect: the first `when` has seen its condition hold
abbrev pub behind_first : List ℕ
behind_first = slice_set (code_words wide_project two_whens) 12 (remembering true (word_at (core_code wide_project two_whens) 12))

-- the bits by these places are those of the two `when`s in the order of the text
abbrev pub BitsByText : Type 0
BitsByText = bits_at behind_first (edge_places wide_project two_whens) ≡ true ∷ false ∷ []

abbrev pub HasBitsByText : Type 0
HasBitsByText = HasBits (core_code wide_project two_whens) behind_first (edge_places wide_project two_whens) (true ∷ false ∷ [])
