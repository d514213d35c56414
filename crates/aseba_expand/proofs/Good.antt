-- What the statements of a sound source are like, beside what their steps ask: an event and an argument have few cells, and each argument of a native has one.
use Rattle.std.proofs.Common.{◌≡◌, ◌≤◌, List, [], ◌∷◌, Option, Some, None, length, map}
use Rattle.std.specs.Prelude.{slice_get}
use Rattle.aseba_tree.specs.Code.{Name, Expr, Exprs, no_exprs, exprs, Stmt, stmt, StmtForm, assign, change, bump, if_then, when_do, while_do, for_do, emit, callsub, call, return, Stmts, no_stmts, stmts, Handler, Native}
use Rattle.aseba_tree.specs.State.{Program, init_code}
use Rattle.aseba_tree.specs.Step.{target_expr, native_place}
use Rattle.aseba_tree.specs.Elements.{elements_of, changed_elements, bumped_elements}
use Rattle.aseba_tree.specs.Numbers.{param_sizes}
use Rattle.aseba_expand.proofs.Ready.{Grounded, ReadyPart, ReadyTest, ReadyHead, IsEvent, ReadyArgument, ReadyCall, ReadyStmt, ReadyForm, ReadyStmts, ReadyParts, Ready}

abbrev pub GoodArgument : Program → Option Expr → Type 0
GoodArgument program None = Unit {0}
GoodArgument program (Some e) = ReadyArgument program (Some e) × (length (elements_of program e) ≤ 256)

-- each argument has a cell
abbrev pub AreSome : Program → Exprs → Type 0
AreSome program no_exprs = Unit {0}
AreSome program (exprs e es) = (1 ≤ length (elements_of program e)) × AreSome program es

-- a native is there, and its arguments fit it
pub record GoodCall (program : Program) (name : Name) (es : Exprs) : Type 0 where
  pub ready : ReadyCall program name es
  pub native : Native
  pub found : slice_get program.project.node.natives (native_place program.project name) ≡ Some native
  pub sizes : param_sizes program.project name ≡ map (λ p. p.size) native.params
  pub some : AreSome program es

abbrev mutual
  pub GoodStmt : Program → Stmt → Type 0
  GoodStmt program (stmt line place form) = GoodForm program form

  pub GoodForm : Program → StmtForm → Type 0
  GoodForm program (assign target e) = ReadyPart program target.name target.part (elements_of program e) × Grounded program e
  GoodForm program (change target op e) = ReadyPart program target.name target.part (changed_elements program target op e) × Grounded program (target_expr target) × Grounded program e
  GoodForm program (bump target op) = ReadyPart program target.name target.part (bumped_elements program target op) × Grounded program (target_expr target)
  GoodForm program (if_then c body other) = ReadyTest program c × GoodStmts program body × GoodStmts program other
  GoodForm program (when_do c body) = ReadyTest program c × GoodStmts program body
  GoodForm program (while_do c body) = ReadyTest program c × GoodStmts program body
  GoodForm program (for_do head body) = ReadyHead program head × GoodStmts program body
  GoodForm program (emit name argument) = IsEvent program name × GoodArgument program argument
  GoodForm program (callsub name) = Unit {0}
  GoodForm program (call name es) = GoodCall program name es
  GoodForm program return = Unit {0}

  pub GoodStmts : Program → Stmts → Type 0
  GoodStmts program no_stmts = Unit {0}
  GoodStmts program (stmts s ss) = GoodStmt program s × GoodStmts program ss

-- so are the statements of each part
abbrev pub GoodParts : Program → List Handler → Type 0
GoodParts program [] = Unit {0}
GoodParts program (h ∷ hs) = GoodStmts program h.body × GoodParts program hs

-- and those of the whole source
pub record GoodSource (program : Program) : Type 0 where
  pub init : GoodStmts program (init_code program.source)
  pub parts : GoodParts program program.source.parts

-- what their steps ask

argument-ready : (program : Program) (argument : Option Expr) → GoodArgument program argument → ReadyArgument program argument
argument-ready program None g = tt
argument-ready program (Some e) g = g.0

mutual
  stmt-ready : (program : Program) (s : Stmt) → GoodStmt program s → ReadyStmt program s
  stmt-ready program (stmt line place form) g = form-ready program form g

  form-ready : (program : Program) (form : StmtForm) → GoodForm program form → ReadyForm program form
  form-ready program (assign target e) g = g
  form-ready program (change target op e) g = g
  form-ready program (bump target op) g = g
  form-ready program (if_then c body other) g = (g.0, stmts-ready program body g.1, stmts-ready program other g.2)
  form-ready program (when_do c body) g = (g.0, stmts-ready program body g.1)
  form-ready program (while_do c body) g = (g.0, stmts-ready program body g.1)
  form-ready program (for_do head body) g = (g.0, stmts-ready program body g.1)
  form-ready program (emit name argument) g = (g.0, argument-ready program argument g.1)
  form-ready program (callsub name) g = tt
  form-ready program (call name es) g = g.ready
  form-ready program return g = tt

  stmts-ready : (program : Program) (ss : Stmts) → GoodStmts program ss → ReadyStmts program ss
  stmts-ready program no_stmts g = tt
  stmts-ready program (stmts s ss) g = (stmt-ready program s g.0, stmts-ready program ss g.1)

parts-ready : (program : Program) (hs : List Handler) → GoodParts program hs → ReadyParts program hs
parts-ready program [] g = tt
parts-ready program (h ∷ hs) g = (stmts-ready program h.body g.0, parts-ready program hs g.1)

pub source-ready : (program : Program) → GoodSource program → Ready program
source-ready program g = record { init = stmts-ready program (init_code program.source) g.init; parts = parts-ready program program.source.parts g.parts }
