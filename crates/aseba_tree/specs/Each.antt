-- What is so of each expression that stands in a source.
use Rattle.std.specs.Prelude.{List, [], ◌∷◌, Option, Some, None}
use Rattle.aseba_tree.specs.Code.{Expr, Exprs, no_exprs, exprs, Part, all, at, span, ForHead, Stmt, stmt, StmtForm, assign, change, bump, if_then, when_do, while_do, for_do, emit, callsub, call, return, Stmts, no_stmts, stmts, Decl, Handler}

-- It is so of each expression in a list, of one that may be absent, of those in a target and of those of a `for`.
abbrev pub EachItem : (Expr → Type 0) → Exprs → Type 0
EachItem P no_exprs = Unit {0}
EachItem P (exprs e es) = P e × EachItem P es

abbrev pub EachOption : (Expr → Type 0) → Option Expr → Type 0
EachOption P None = Unit {0}
EachOption P (Some e) = P e

abbrev pub EachPart : (Expr → Type 0) → Part → Type 0
EachPart P all = Unit {0}
EachPart P (at e) = P e
EachPart P (span c d) = P c × P d

abbrev pub EachHead : (Expr → Type 0) → ForHead → Type 0
EachHead P head = P head.first × P head.last × EachOption P head.step

-- It is so of each expression that stands in a statement and in those inside it.
abbrev mutual
  pub EachStmt : (Expr → Type 0) → Stmt → Type 0
  EachStmt P (stmt line place form) = EachForm P form

  pub EachForm : (Expr → Type 0) → StmtForm → Type 0
  EachForm P (assign target e) = EachPart P target.part × P e
  EachForm P (change target op e) = EachPart P target.part × P e
  EachForm P (bump target op) = EachPart P target.part
  EachForm P (if_then c body other) = P c × EachStmts P body × EachStmts P other
  EachForm P (when_do c body) = P c × EachStmts P body
  EachForm P (while_do c body) = P c × EachStmts P body
  EachForm P (for_do head body) = EachHead P head × EachStmts P body
  EachForm P (emit name value) = EachOption P value
  EachForm P (callsub name) = Unit {0}
  EachForm P (call name es) = EachItem P es
  EachForm P return = Unit {0}

  pub EachStmts : (Expr → Type 0) → Stmts → Type 0
  EachStmts P no_stmts = Unit {0}
  EachStmts P (stmts s ss) = EachStmt P s × EachStmts P ss

-- It is so of each expression in declarations, and in the statements of handlers and subroutines.
abbrev pub EachDecl : (Expr → Type 0) → List Decl → Type 0
EachDecl P [] = Unit {0}
EachDecl P (d ∷ ds) = EachOption P d.size × EachOption P d.value × EachDecl P ds

abbrev pub EachPartOf : (Expr → Type 0) → List Handler → Type 0
EachPartOf P [] = Unit {0}
EachPartOf P (h ∷ hs) = EachStmts P h.body × EachPartOf P hs
