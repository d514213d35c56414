-- The code's trees as the data of the definitions.
use Rattle.std.specs.Prelude.{List, [], ◌∷◌, map, option_map}
use Rattle.aseba_tree.specs.Code as tree
use Rattle.aseba_tree.specs.Layout as layout
use Rattle.aseba_tree.specs.CoreExpr as core_expr
use Rattle.aseba_tree.specs.Core as core_tree
use Rattle.aseba_tree.specs.declared.placed.Placed.{Placed}
use Rattle.aseba_tree.specs.declared.pos.Pos.{Pos}
use Rattle.aseba_tree.specs.declared.expr.Expr.{Expr}
use Rattle.aseba_tree.specs.declared.expr.Form.{Form}
use Rattle.aseba_tree.specs.declared.expr.Form.TheOpen.{Form-F, Expr-F}
use Rattle.aseba_tree.specs.declared.expr.Form.TheFolds.{fold-Form}
use Rattle.aseba_tree.specs.declared.stmt.Target.{Target}
use Rattle.aseba_tree.specs.declared.stmt.Part.{Part}
use Rattle.aseba_tree.specs.declared.stmt.Part.TheVariants.{All, At, Span}
use Rattle.aseba_tree.specs.declared.stmt.ForHead.{ForHead}
use Rattle.aseba_tree.specs.declared.stmt.Stmt.{Stmt}
use Rattle.aseba_tree.specs.declared.stmt.StmtForm.{StmtForm}
use Rattle.aseba_tree.specs.declared.stmt.StmtForm.TheOpen.{StmtForm-F, Stmt-F}
use Rattle.aseba_tree.specs.declared.stmt.StmtForm.TheFolds.{fold-StmtForm}
use Rattle.aseba_tree.specs.declared.decl.Decl.{Decl}
use Rattle.aseba_tree.specs.declared.source.Handler.{Handler}
use Rattle.aseba_tree.specs.declared.source.Source.{Source}
use Rattle.aseba_tree.specs.declared.description.Sized.{Sized}
use Rattle.aseba_tree.specs.declared.description.Local.{Local}
use Rattle.aseba_tree.specs.declared.description.Param.{Param}
use Rattle.aseba_tree.specs.declared.description.Native.{Native}
use Rattle.aseba_tree.specs.declared.description.Description.{Description}
use Rattle.aseba_tree.specs.declared.project.Const.{Const}
use Rattle.aseba_tree.specs.declared.project.Project.{Project}
use Rattle.aseba_tree.specs.declared.core_tree.CoreExpr.{CoreExpr}
use Rattle.aseba_tree.specs.declared.core_tree.CoreExpr.TheOpen.{CoreExpr-F}
use Rattle.aseba_tree.specs.declared.core_tree.CoreExpr.TheFolds.{fold-CoreExpr}
use Rattle.aseba_tree.specs.declared.core_tree.CoreTarget.{CoreTarget}
use Rattle.aseba_tree.specs.declared.core_tree.CoreTarget.TheVariants.{Cell, Indirect}
use Rattle.aseba_tree.specs.declared.core_tree.CoreStmt.{CoreStmt}
use Rattle.aseba_tree.specs.declared.core_tree.CoreForm.{CoreForm}
use Rattle.aseba_tree.specs.declared.core_tree.CoreForm.TheOpen.{CoreForm-F, CoreStmt-F}
use Rattle.aseba_tree.specs.declared.core_tree.CoreForm.TheFolds.{fold-CoreForm}
use Rattle.aseba_tree.specs.declared.core_tree.CorePart.{CorePart}
use Rattle.aseba_tree.specs.declared.core_tree.Core.{Core}

abbrev pub place_view : Pos → tree.Place
place_view p = record { line = p.line; column = p.col }

-- Expressions. A step makes one node, where each node inside is made.
abbrev pub exprs_of : List tree.Expr → tree.Exprs
exprs_of [] = tree.no_exprs
exprs_of (e ∷ es) = tree.exprs e (exprs_of es)

abbrev pub form_step : Form-F tree.Form tree.Expr → tree.Form
form_step (Form-F.Number v) = tree.number v
form_step (Form-F.Whole name) = tree.whole name
form_step (Form-F.Index name e) = tree.index name e
form_step (Form-F.Range name c d) = tree.range name c d
form_step (Form-F.Items es) = tree.items (exprs_of es)
form_step (Form-F.One op e) = tree.one op e
form_step (Form-F.Two op l r) = tree.two op l r

abbrev pub expr_step : Expr-F tree.Form tree.Expr → tree.Expr
expr_step e = tree.expr (place_view e.first) (place_view e.at) e.form

abbrev pub form_view : Form → tree.Form
form_view = fold-Form tree.Form tree.Expr form_step expr_step

abbrev pub expr_view : Expr → tree.Expr
expr_view e = tree.expr (place_view e.first) (place_view e.at) (form_view e.form)

abbrev pub exprs_view : List Expr → tree.Exprs
exprs_view es = exprs_of (map expr_view es)

-- Statements
abbrev pub part_view : Part → tree.Part
part_view All = tree.all
part_view (At e) = tree.at (expr_view e)
part_view (Span c d) = tree.span (expr_view c) (expr_view d)

abbrev pub target_view : Target → tree.Target
target_view t = record { place = place_view t.at; name = t.name; part = part_view t.part }

abbrev pub head_view : ForHead → tree.ForHead
head_view h = record { name = h.name; first = expr_view h.first; last = expr_view h.last; step = option_map expr_view h.step }

abbrev pub stmts_of : List tree.Stmt → tree.Stmts
stmts_of [] = tree.no_stmts
stmts_of (s ∷ ss) = tree.stmts s (stmts_of ss)

abbrev pub stmt_form_step : StmtForm-F tree.StmtForm tree.Stmt → tree.StmtForm
stmt_form_step (StmtForm-F.Set t e) = tree.assign (target_view t) (expr_view e)
stmt_form_step (StmtForm-F.Change t op e) = tree.change (target_view t) op (expr_view e)
stmt_form_step (StmtForm-F.Step t op) = tree.bump (target_view t) op
stmt_form_step (StmtForm-F.If c body other) = tree.if_then (expr_view c) (stmts_of body) (stmts_of other)
stmt_form_step (StmtForm-F.When c body) = tree.when_do (expr_view c) (stmts_of body)
stmt_form_step (StmtForm-F.While c body) = tree.while_do (expr_view c) (stmts_of body)
stmt_form_step (StmtForm-F.For head body) = tree.for_do (head_view head) (stmts_of body)
stmt_form_step (StmtForm-F.Emit name e) = tree.emit name (option_map expr_view e)
stmt_form_step (StmtForm-F.CallSub name) = tree.callsub name
stmt_form_step (StmtForm-F.Call name es) = tree.call name (exprs_view es)
stmt_form_step StmtForm-F.Return = tree.return

abbrev pub stmt_step : Stmt-F tree.StmtForm tree.Stmt → tree.Stmt
stmt_step s = tree.stmt s.line (place_view s.at) s.form

abbrev pub stmt_form_view : StmtForm → tree.StmtForm
stmt_form_view = fold-StmtForm tree.StmtForm tree.Stmt stmt_form_step stmt_step

abbrev pub stmt_view : Stmt → tree.Stmt
stmt_view s = tree.stmt s.line (place_view s.at) (stmt_form_view s.form)

abbrev pub stmts_view : List Stmt → tree.Stmts
stmts_view ss = stmts_of (map stmt_view ss)

-- Sources
abbrev pub decl_view : Decl → tree.Decl
decl_view d = record {
  line = d.line;
  place = place_view d.at;
  name = d.name;
  size = option_map expr_view d.size;
  equals = place_view d.equals;
  value = option_map expr_view d.value;
}

abbrev pub handler_view : Handler → tree.Handler
handler_view h = record { line = h.line; place = place_view h.at; is_sub = h.is_sub; name = h.name; body = stmts_view h.body }

abbrev pub source_view : Source → tree.Source
source_view s = record { vars = map decl_view s.vars; init = stmts_view s.init; parts = map handler_view s.parts }

-- Projects
abbrev pub sized_view : Sized → tree.Sized
sized_view v = record { name = v.name; size = v.size }

abbrev pub local_view : Local → tree.Local
local_view l = record { name = l.name; text = l.text }

abbrev pub param_view : Param → tree.Param
param_view p = record { size = p.size; name = p.name }

abbrev pub native_view : Native → tree.Native
native_view n = record { name = n.name; text = n.text; params = map param_view n.params }

abbrev pub description_view : Description → tree.Description
description_view d = record {
  name = d.name;
  code = d.code;
  stack = d.stack;
  cells = d.cells;
  variables = map sized_view d.variables;
  locals = map local_view d.locals;
  natives = map native_view d.natives;
}

abbrev pub const_view : Const → tree.Const
const_view c = record { name = c.name; value = c.value }

abbrev pub project_view : Project → tree.Project
project_view p = record { node = description_view p.node; id = p.id; events = map sized_view p.events; consts = map const_view p.consts }

-- Variables with their places
abbrev pub placed_view : Placed → layout.Placed
placed_view p = record { name = p.name; start = p.start; size = p.size }

-- Cores
abbrev pub core_expr_step : CoreExpr-F core_expr.CoreExpr → core_expr.CoreExpr
core_expr_step (CoreExpr-F.Number v) = core_expr.fixed v
core_expr_step (CoreExpr-F.Cell a) = core_expr.cell a
core_expr_step (CoreExpr-F.Indirect base size e) = core_expr.indirect base size e
core_expr_step (CoreExpr-F.One op e) = core_expr.prefix op e
core_expr_step (CoreExpr-F.Two op l r) = core_expr.infix_of op l r

abbrev pub core_expr_view : CoreExpr → core_expr.CoreExpr
core_expr_view = fold-CoreExpr core_expr.CoreExpr core_expr_step

abbrev pub core_target_view : CoreTarget → core_expr.CoreTarget
core_target_view (Cell a) = core_expr.into a
core_target_view (Indirect base size e) = core_expr.into_index base size (core_expr_view e)

abbrev pub core_stmts_of : List core_tree.CoreStmt → core_tree.CoreStmts
core_stmts_of [] = core_tree.no_core
core_stmts_of (s ∷ ss) = core_tree.core_stmts s (core_stmts_of ss)

abbrev pub core_form_step : CoreForm-F core_tree.CoreForm core_tree.CoreStmt → core_tree.CoreForm
core_form_step (CoreForm-F.Store target e) = core_tree.store (core_target_view target) (core_expr_view e)
core_form_step (CoreForm-F.If c body other) = core_tree.branch (core_expr_view c) (core_stmts_of body) (core_stmts_of other)
core_form_step (CoreForm-F.When c body) = core_tree.on_edge (core_expr_view c) (core_stmts_of body)
core_form_step (CoreForm-F.While c body) = core_tree.loop (core_expr_view c) (core_stmts_of body)
core_form_step (CoreForm-F.Emit event address length) = core_tree.send event address length
core_form_step (CoreForm-F.CallSub which) = core_tree.enter which
core_form_step (CoreForm-F.Call id values) = core_tree.use_native id values
core_form_step CoreForm-F.Return = core_tree.go_back

abbrev pub core_stmt_step : CoreStmt-F core_tree.CoreForm core_tree.CoreStmt → core_tree.CoreStmt
core_stmt_step s = core_tree.core_stmt s.line s.form

abbrev pub core_form_view : CoreForm → core_tree.CoreForm
core_form_view = fold-CoreForm core_tree.CoreForm core_tree.CoreStmt core_form_step core_stmt_step

abbrev pub core_stmt_view : CoreStmt → core_tree.CoreStmt
core_stmt_view s = core_tree.core_stmt s.line (core_form_view s.form)

abbrev pub core_stmts_view : List CoreStmt → core_tree.CoreStmts
core_stmts_view ss = core_stmts_of (map core_stmt_view ss)

abbrev pub core_part_view : CorePart → core_tree.CorePart
core_part_view p = record { line = p.line; event = p.event; body = core_stmts_view p.body }

abbrev pub core_view : Core → core_tree.Core
core_view c = record {
  init = core_stmts_view c.init;
  parts = map core_part_view c.parts;
  cells = c.cells;
  room = c.room;
  size = c.size;
  depth = c.depth;
}
