-- The numbers that are written in a source.
use Rattle.std.specs.Prelude.{Bool, true, ◌&&◌, IsTrue}
use Rattle.std.specs.List.{list_all}
use Rattle.aseba_tree.specs.Code.{Expr, expr, Form, number, whole, index, range, items, one, two, Exprs, no_exprs, exprs, Source}
use Rattle.aseba_tree.specs.Value.{is_cell}
use Rattle.aseba_tree.specs.Shape.{source_exprs}

-- each number in an expression is a cell
abbrev mutual
  pub has_cell_numbers : Expr → Bool
  has_cell_numbers (expr first place form) = form_has_cell_numbers form

  pub form_has_cell_numbers : Form → Bool
  form_has_cell_numbers (number v) = is_cell v
  form_has_cell_numbers (whole name) = true
  form_has_cell_numbers (index name e) = has_cell_numbers e
  form_has_cell_numbers (range name c d) = has_cell_numbers c && has_cell_numbers d
  form_has_cell_numbers (items es) = have_cell_numbers es
  form_has_cell_numbers (one op e) = has_cell_numbers e
  form_has_cell_numbers (two op l r) = has_cell_numbers l && has_cell_numbers r

  pub have_cell_numbers : Exprs → Bool
  have_cell_numbers no_exprs = true
  have_cell_numbers (exprs e es) = has_cell_numbers e && have_cell_numbers es

-- so it is with each number of a source
abbrev pub HasCellNumbers : Source → Type 0
HasCellNumbers source = IsTrue (list_all has_cell_numbers (source_exprs source))
