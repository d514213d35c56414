-- The numbers of a core: those in its expressions are cells, and what an index reaches has one cell at least.
use Rattle.std.specs.Prelude.{ℕ, nat_lt, Bool, true, ◌&&◌}
use Rattle.std.specs.List.{list_all}
use Rattle.aseba_tree.specs.Value.{is_cell}
use Rattle.aseba_tree.specs.CoreExpr.{CoreExpr, fixed, cell, indirect, prefix, infix_of, CoreTarget, into, into_index}
use Rattle.aseba_tree.specs.Core.{CoreStmt, core_stmt, CoreForm, store, branch, on_edge, loop, CoreStmts, no_core, core_stmts, Core}

-- An expression's numbers are cells, and what it indexes has one at least.
abbrev pub has_cells : CoreExpr → Bool
has_cells (fixed v) = is_cell v
has_cells (cell address) = true
has_cells (indirect base size i) = nat_lt 0 size && has_cells i
has_cells (prefix op e) = has_cells e
has_cells (infix_of op l r) = has_cells l && has_cells r

abbrev pub target_has_cells : CoreTarget → Bool
target_has_cells (into address) = true
target_has_cells (into_index base size i) = nat_lt 0 size && has_cells i

-- so it is with all expressions in statements
abbrev mutual
  pub stmt_has_cells : CoreStmt → Bool
  stmt_has_cells (core_stmt line form) = form_has_cells form

  pub form_has_cells : CoreForm → Bool
  form_has_cells (store target e) = target_has_cells target && has_cells e
  form_has_cells (branch c body other) = has_cells c && list_has_cells body && list_has_cells other
  form_has_cells (on_edge c body) = has_cells c && list_has_cells body
  form_has_cells (loop c body) = has_cells c && list_has_cells body
  form_has_cells _ = true

  pub list_has_cells : CoreStmts → Bool
  list_has_cells no_core = true
  list_has_cells (core_stmts s ss) = stmt_has_cells s && list_has_cells ss

abbrev pub core_has_cells : Core → Bool
core_has_cells core = list_has_cells core.init && list_all (λ part. list_has_cells part.body) core.parts
