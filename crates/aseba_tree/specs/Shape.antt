-- What holds of each source that fewer than 4294967295 tokens spell, none of them nested too deep, and what the check of a source asks for.
use Rattle.std.specs.Prelude.{ℕ, suc, ◌+◌, ◌<◌, nat_le, max, Bool, true, false, not, ◌&&◌, IsTrue, List, [], ◌∷◌, ◌++◌, option_to_list, length, sum_by, flat_map}
use Rattle.std.specs.List.{list_all}
use Rattle.aseba_words.specs.declared.operators.Binary.{Binary}
use Rattle.aseba_words.specs.declared.operators.Binary.TheVariants.{Add, Sub}
use Rattle.aseba_tree.specs.Code.{Expr, expr, Form, number, whole, index, range, items, one, two, Exprs, no_exprs, exprs, Part, all, at, span, Stmt, stmt, StmtForm, assign, change, bump, if_then, when_do, while_do, for_do, emit, callsub, call, return, Stmts, no_stmts, stmts, Decl, Source}
use Rattle.aseba_tree.specs.Limits.{deepest}
use Rattle.aseba_tree.specs.Sizes.{is_of_one_cell}

-- the number of expressions in an expression, itself included
abbrev mutual
  pub expr_count : Expr → ℕ
  expr_count (expr first place form) = suc (form_count form)

  pub form_count : Form → ℕ
  form_count (number v) = 0
  form_count (whole name) = 0
  form_count (index name e) = expr_count e
  form_count (range name c d) = expr_count c + expr_count d
  form_count (items es) = list_count es
  form_count (one op e) = expr_count e
  form_count (two op l r) = expr_count l + expr_count r

  pub list_count : Exprs → ℕ
  list_count no_exprs = 0
  list_count (exprs e es) = expr_count e + list_count es

abbrev pub is_some_exprs : Exprs → Bool
is_some_exprs no_exprs = false
is_some_exprs (exprs e es) = true

-- no list in an expression is empty
abbrev mutual
  pub is_filled : Expr → Bool
  is_filled (expr first place form) = is_filled_form form

  pub is_filled_form : Form → Bool
  is_filled_form (number v) = true
  is_filled_form (whole name) = true
  is_filled_form (index name e) = is_filled e
  is_filled_form (range name c d) = is_filled c && is_filled d
  is_filled_form (items es) = is_some_exprs es && are_filled es
  is_filled_form (one op e) = is_filled e
  is_filled_form (two op l r) = is_filled l && is_filled r

  pub are_filled : Exprs → Bool
  are_filled no_exprs = true
  are_filled (exprs e es) = is_filled e && are_filled es

-- the most lists and prefix operators in which an expression of an expression stands
abbrev mutual
  pub list_depth : Expr → ℕ
  list_depth (expr first place form) = form_list_depth form

  pub form_list_depth : Form → ℕ
  form_list_depth (number v) = 0
  form_list_depth (whole name) = 0
  form_list_depth (index name e) = list_depth e
  form_list_depth (range name c d) = max (list_depth c) (list_depth d)
  form_list_depth (items es) = suc (exprs_list_depth es)
  form_list_depth (one op e) = suc (list_depth e)
  form_list_depth (two op l r) = max (list_depth l) (list_depth r)

  pub exprs_list_depth : Exprs → ℕ
  exprs_list_depth no_exprs = 0
  exprs_list_depth (exprs e es) = max (list_depth e) (exprs_list_depth es)

abbrev pub to_list : Exprs → List Expr
to_list no_exprs = []
to_list (exprs e es) = e ∷ to_list es

abbrev pub part_exprs : Part → List Expr
part_exprs all = []
part_exprs (at e) = e ∷ []
part_exprs (span c d) = c ∷ d ∷ []

-- the expressions that stand in a statement and in those inside it
abbrev mutual
  pub stmt_exprs : Stmt → List Expr
  stmt_exprs (stmt line place form) = form_exprs form

  pub form_exprs : StmtForm → List Expr
  form_exprs (assign target e) = part_exprs target.part ++ e ∷ []
  form_exprs (change target op e) = part_exprs target.part ++ e ∷ []
  form_exprs (bump target op) = part_exprs target.part
  form_exprs (if_then c body other) = c ∷ (stmts_exprs body ++ stmts_exprs other)
  form_exprs (when_do c body) = c ∷ stmts_exprs body
  form_exprs (while_do c body) = c ∷ stmts_exprs body
  form_exprs (for_do head body) = head.first ∷ head.last ∷ (option_to_list head.step ++ stmts_exprs body)
  form_exprs (emit name argument) = option_to_list argument
  form_exprs (callsub name) = []
  form_exprs (call name es) = to_list es
  form_exprs return = []

  pub stmts_exprs : Stmts → List Expr
  stmts_exprs no_stmts = []
  stmts_exprs (stmts s ss) = stmt_exprs s ++ stmts_exprs ss

abbrev pub decl_exprs : Decl → List Expr
decl_exprs d = option_to_list d.size ++ option_to_list d.value

-- the expressions that stand in a source
abbrev pub source_exprs : Source → List Expr
source_exprs source = flat_map decl_exprs source.vars ++ stmts_exprs source.init ++ flat_map (λ h. stmts_exprs h.body) source.parts

-- the number of statements, those inside others included
abbrev mutual
  pub stmt_count : Stmt → ℕ
  stmt_count (stmt line place form) = suc (inner_count form)

  pub inner_count : StmtForm → ℕ
  inner_count (if_then c body other) = stmts_count body + stmts_count other
  inner_count (when_do c body) = stmts_count body
  inner_count (while_do c body) = stmts_count body
  inner_count (for_do head body) = stmts_count body
  inner_count _ = 0

  pub stmts_count : Stmts → ℕ
  stmts_count no_stmts = 0
  stmts_count (stmts s ss) = stmt_count s + stmts_count ss

-- the number of declarations, parts, statements and expressions together
abbrev pub source_count : Source → ℕ
source_count source =
    length source.vars + length source.parts + (stmts_count source.init + sum_by (λ h. stmts_count h.body) source.parts) + sum_by expr_count (source_exprs source)

abbrev pub is_step : Binary → Bool
is_step Add = true
is_step Sub = true
is_step _ = false

-- `L op= e` works cell by cell, and a step adds or subtracts
abbrev mutual
  pub has_operators : Stmt → Bool
  has_operators (stmt line place form) = has_form_operators form

  pub has_form_operators : StmtForm → Bool
  has_form_operators (change target op e) = not (is_of_one_cell op)
  has_form_operators (bump target op) = is_step op
  has_form_operators (if_then c body other) = have_operators body && have_operators other
  has_form_operators (when_do c body) = have_operators body
  has_form_operators (while_do c body) = have_operators body
  has_form_operators (for_do head body) = have_operators body
  has_form_operators _ = true

  pub have_operators : Stmts → Bool
  have_operators no_stmts = true
  have_operators (stmts s ss) = has_operators s && have_operators ss

-- A source that tokens can spell, as far as its check needs it.
pub record IsTree (source : Source) : Type 0 where
  pub is_small : source_count source < 4294967295
  pub is_filled : IsTrue (list_all is_filled (source_exprs source))
  pub is_shallow : IsTrue (list_all (λ e. nat_le (list_depth e) deepest) (source_exprs source))
  pub has_operators : IsTrue (have_operators source.init && list_all (λ h. have_operators h.body) source.parts)
