-- Small sources and their element forms, worked by hand.
use Rattle.std.specs.Prelude.{◌≡◌, ℕ, [], ◌∷◌, ℤ, pos, negsuc, Option, Some, None, codes}
use Rattle.aseba_words.specs.declared.operators.Binary.TheVariants.{Add, AtLeast, AtMost}
use Rattle.aseba_tree.specs.Code.{Name, Place, Expr, expr, Form, number, whole, index, range, items, two, exprs, no_exprs, at, span, StmtForm, assign, change, stmt, for_do, emit, call, stmts, no_stmts, Decl, Sized, Param, Project, Source}
use Rattle.aseba_tree.specs.CoreExpr.{CoreExpr, fixed, cell, indirect, infix_of, into, into_index}
use Rattle.aseba_tree.specs.Core.{CoreStmt, core_stmt, CoreForm, store, loop, send, use_native, CoreStmts, no_core, core_stmts}
use Rattle.aseba_tree.specs.State.{Program}
use Rattle.aseba_expand.specs.Plain.{plain_form, plain_core}

abbrev sized : Name → ℕ → Sized
sized name size = record { name = name; size = size }

abbrev small_project : Project
small_project = record {
  node = record { name = codes "sim"; code = 2048; stack = 32; cells = 1024; variables = sized (codes "_id") 1 ∷ sized (codes "event.source") 1 ∷ sized (codes "event.args") 32 ∷ []; locals = []; natives = [] };
  id = 1;
  events = sized (codes "ping") 0 ∷ sized (codes "pong") 0 ∷ sized (codes "pair") 2 ∷ [];
  consts = [];
}

abbrev template : Param
template = record { size = negsuc 0; name = codes "cells" }

abbrev here : Place
here = record { line = 1; column = 1 }

abbrev num : ℤ → Expr
num v = expr here here (number v)

abbrev variable : Name → Option Expr → Option Expr → Decl
variable name size value = record { line = 1; place = here; name = name; size = size; equals = here; value = value }

-- `var a[2] = [1,2]`
abbrev vector_source : Source
vector_source = record { vars = variable (codes "a") (Some (num (pos 2))) (Some (expr here here (items (exprs (num (pos 1)) (exprs (num (pos 2)) no_exprs))))) ∷ []; init = no_stmts; parts = [] }

abbrev in_line : CoreStmt → CoreStmts → CoreStmts
in_line s ss = core_stmts s ss

abbrev pub VectorCore : Type 0
VectorCore = plain_core (record { project = small_project; source = vector_source }) ≡ record {
  init = in_line (core_stmt 1 (store (into 36) (fixed (pos 1)))) (in_line (core_stmt 1 (store (into 37) (fixed (pos 2))))
      (in_line (core_stmt 1 (store (into 34) (cell 36))) (in_line (core_stmt 1 (store (into 35) (cell 37))) no_core)));
  parts = [];
  cells = 36;
  room = 2;
  size = 12;
  depth = 1;
}

-- `var i` and `for i in 1:2 do end`
abbrev for_source : Source
for_source = record { vars = variable (codes "i") None None ∷ []; init = stmts (stmt 2 here (for_do (record { name = codes "i"; first = num (pos 1); last = num (pos 2); step = None }) no_stmts)) no_stmts; parts = [] }

abbrev pub ForCore : Type 0
ForCore = plain_core (record { project = small_project; source = for_source }) ≡ record {
  init = in_line (core_stmt 2 (store (into 34) (fixed (pos 1))))
      (in_line (core_stmt 2 (loop (infix_of AtMost (cell 34) (fixed (pos 2))) (in_line (core_stmt 2 (store (into 34) (infix_of Add (cell 34) (fixed (pos 1))))) no_core))) no_core);
  parts = [];
  cells = 35;
  room = 0;
  size = 15;
  depth = 2;
}

-- Statements between `var a[4]`, `var b[2]` and `var i`, whose cells begin at 34, 38 and 40; the temporaries begin at 41. A native takes four arguments of one template.

abbrev mixing_project : Project
mixing_project = record small_project {
  node = record small_project.node { natives = record { name = codes "mix"; text = []; params = template ∷ template ∷ template ∷ template ∷ [] } ∷ [] };
}

abbrev mixing : Program
mixing = record {
  project = mixing_project;
  source = record {
    vars = variable (codes "a") (Some (num (pos 4))) None ∷ variable (codes "b") (Some (num (pos 2))) None ∷ variable (codes "i") None None ∷ [];
    init = no_stmts;
    parts = [];
  };
}

abbrev expression : Form → Expr
expression form = expr here here form

abbrev name_of : Name → Expr
name_of name = expression (whole name)

abbrev listed : Expr → Expr → Expr
listed e f = expression (items (exprs e (exprs f no_exprs)))

abbrev cells_from : ℤ → ℤ → Expr
cells_from c d = expression (range (codes "a") (num c) (num d))

abbrev sum : Expr → Expr → Expr
sum l r = expression (two Add l r)

abbrev form_of : StmtForm → CoreStmts
form_of form = plain_form mixing 5 form no_core

abbrev kept_in : ℕ → CoreExpr → CoreStmts → CoreStmts
kept_in address e ss = core_stmts (core_stmt 5 (store (into address) e)) ss

abbrev last_of : CoreForm → CoreStmts
last_of form = core_stmts (core_stmt 5 form) no_core

-- `a[0:1] = a[2:3]+b`
abbrev pub RangeForm : Type 0
RangeForm =
    form_of (assign (record { place = here; name = codes "a"; part = span (num (pos 0)) (num (pos 1)) }) (sum (cells_from (pos 2) (pos 3)) (name_of (codes "b"))))
    ≡ kept_in 41 (infix_of Add (cell 36) (cell 38)) (kept_in 42 (infix_of Add (cell 37) (cell 39)) (kept_in 34 (cell 41) (kept_in 35 (cell 42) no_core)))

-- `a[i] += i`
abbrev pub IndexForm : Type 0
IndexForm =
    form_of (change (record { place = here; name = codes "a"; part = at (name_of (codes "i")) }) Add (name_of (codes "i")))
    ≡ last_of (store (into_index 34 4 (cell 40)) (infix_of Add (indirect 34 4 (cell 40)) (cell 40)))

-- `emit pair b`
abbrev pub OwnEmitForm : Type 0
OwnEmitForm = form_of (emit (codes "pair") (Some (name_of (codes "b")))) ≡ last_of (send 2 38 2)

-- `emit pair [1,i]`
abbrev pub ListEmitForm : Type 0
ListEmitForm = form_of (emit (codes "pair") (Some (listed (num (pos 1)) (name_of (codes "i"))))) ≡ kept_in 41 (fixed (pos 1)) (kept_in 42 (cell 40) (last_of (send 2 41 2)))

-- `call mix(a[1:2], b, [3,b[i]], a[2:3]+b)`
abbrev pub CallForm : Type 0
CallForm =
    form_of (call (codes "mix") (exprs (cells_from (pos 1) (pos 2)) (exprs (name_of (codes "b"))
    (exprs (listed (num (pos 3)) (expression (index (codes "b") (name_of (codes "i"))))) (exprs (sum (cells_from (pos 2) (pos 3)) (name_of (codes "b"))) no_exprs)))))
    ≡ kept_in 41 (fixed (pos 3)) (kept_in 42 (indirect 38 2 (cell 40)) (kept_in 43 (infix_of Add (cell 36) (cell 38)) (kept_in 44 (infix_of Add (cell 37) (cell 39))
    (last_of (use_native 0 (35 ∷ 38 ∷ 41 ∷ 43 ∷ 2 ∷ []))))))

-- `for i in 2:1 step -1 do end`
abbrev pub DownForm : Type 0
DownForm =
    form_of (for_do (record { name = codes "i"; first = num (pos 2); last = num (pos 1); step = Some (num (negsuc 0)) }) no_stmts)
    ≡ kept_in 40 (fixed (pos 2)) (last_of (loop (infix_of AtLeast (cell 40) (fixed (pos 1))) (kept_in 40 (infix_of Add (cell 40) (fixed (negsuc 0))) no_core)))
