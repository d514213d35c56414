-- The lines of a core's stores into temporaries, which are done with the effect behind them.
use Rattle.std.specs.Prelude.{ℕ, nat_eq, nat_le, Bool, true, ◌&&◌, if◌then◌else◌}
use Rattle.std.specs.List.{list_all}
use Rattle.aseba_tree.specs.CoreExpr.{CoreTarget, into, into_index}
use Rattle.aseba_tree.specs.Core.{CoreStmt, core_stmt, CoreForm, store, branch, on_edge, loop, CoreStmts, no_core, core_stmts, Core}

-- the line of the first statement, or another where there is none
abbrev pub first_line : ℕ → CoreStmts → ℕ
first_line other no_core = other
first_line other (core_stmts (core_stmt line form) ss) = line

-- what stands in front of these statements has the line of the first one, if it is a store into a temporary
abbrev pub is_kept_on : (cells line : ℕ) → CoreForm → CoreStmts → Bool
is_kept_on cells line (store (into address) e) rest = if nat_le cells address then nat_eq line (first_line line rest) else true
is_kept_on cells line _ rest = true

-- a store into a temporary has the line of the statement behind it
abbrev mutual
  pub stmt_is_lined : (cells : ℕ) → CoreStmt → CoreStmts → Bool
  stmt_is_lined cells (core_stmt line form) rest = is_kept_on cells line form rest && form_is_lined cells form

  pub form_is_lined : (cells : ℕ) → CoreForm → Bool
  form_is_lined cells (branch c body other) = list_is_lined cells body && list_is_lined cells other
  form_is_lined cells (on_edge c body) = list_is_lined cells body
  form_is_lined cells (loop c body) = list_is_lined cells body
  form_is_lined cells _ = true

  pub list_is_lined : (cells : ℕ) → CoreStmts → Bool
  list_is_lined cells no_core = true
  list_is_lined cells (core_stmts s ss) = stmt_is_lined cells s ss && list_is_lined cells ss

abbrev pub core_is_lined : Core → Bool
core_is_lined core = list_is_lined core.cells core.init && list_all (λ part. list_is_lined core.cells part.body) core.parts
