-- A source in element form as the definitions see it: each store is of one cell, and names are addresses.
use Rattle.std.specs.Prelude.{ℕ, List, Option}
use Rattle.aseba_tree.specs.CoreExpr.{CoreExpr, CoreTarget}

-- A statement with its source line. `send` has an event's number, an address and a length; `enter` a subroutine's place among the parts;
-- `use_native` a native's number, the addresses of its arguments and then the lengths of its templates.
mutual
  pub data CoreStmt : Type 0 where
    core_stmt : ℕ → CoreForm → CoreStmt

  pub data CoreForm : Type 0 where
    store : CoreTarget → CoreExpr → CoreForm
    branch : CoreExpr → CoreStmts → CoreStmts → CoreForm
    on_edge : CoreExpr → CoreStmts → CoreForm
    loop : CoreExpr → CoreStmts → CoreForm
    send : (event address length : ℕ) → CoreForm
    enter : ℕ → CoreForm
    use_native : ℕ → List ℕ → CoreForm
    go_back : CoreForm

  pub data CoreStmts : Type 0 where
    no_core : CoreStmts
    core_stmts : CoreStmt → CoreStmts → CoreStmts

-- a handler of the event of a number, or a subroutine, with the line of its opening word
pub record CorePart : Type 0 where
  pub line : ℕ
  pub event : Option ℕ
  pub body : CoreStmts

-- The cells of variables have addresses below `cells`, and `room` temporaries stand above them. The words and the stack cells of the source go along.
pub record Core : Type 0 where
  pub init : CoreStmts
  pub parts : List CorePart
  pub cells : ℕ
  pub room : ℕ
  pub size : ℕ
  pub depth : ℕ
