-- Each number in a tree is one that a cell holds. So it is in each tree of the code.
use Rattle.std.specs.Prelude.{FitsSigned}
use Rattle.std.specs.Int.{w16}
use Rattle.aseba_tree.specs.Code.{Expr, expr, Form, number, whole, index, range, items, one, two, Exprs, no_exprs, exprs}

abbrev mutual
  pub Fits : Expr → Type 0
  Fits (expr first place form) = FitsForm form

  pub FitsForm : Form → Type 0
  FitsForm (number v) = FitsSigned w16 v
  FitsForm (whole name) = Unit {0}
  FitsForm (index name e) = Fits e
  FitsForm (range name c d) = Fits c × Fits d
  FitsForm (items es) = FitsList es
  FitsForm (one op e) = Fits e
  FitsForm (two op l r) = Fits l × Fits r

  pub FitsList : Exprs → Type 0
  FitsList no_exprs = Unit {0}
  FitsList (exprs e es) = Fits e × FitsList es
