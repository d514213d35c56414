-- What the steps of a source ask of its statements, its work and its parts, which a source without a fault gives.
use Rattle.std.specs.Ordering.{int_eq}
use Rattle.std.specs.Prelude.{◌≡◌, ℕ, ◌<◌, ◌≤◌, ℤ, pos, negsuc, if◌then◌else◌, List, [], ◌∷◌, Option, Some, None, length}
use Rattle.aseba_tree.specs.Code.{Name, Expr, expr, Form, number, whole, index, range, items, one, two, Exprs, no_exprs, exprs, Part, all, at, span, ForHead, Stmt, stmt, StmtForm, assign, change, bump, if_then, when_do, while_do, for_do, emit, callsub, call, return, Stmts, no_stmts, stmts, Handler}
use Rattle.aseba_tree.specs.CoreExpr.{CoreExpr}
use Rattle.aseba_tree.specs.Elements.{variable_place, elements_of, changed_elements, bumped_elements}
use Rattle.aseba_tree.specs.Events.{event_of}
use Rattle.aseba_tree.specs.Line.{named}
use Rattle.aseba_tree.specs.NativeName.{native_named}
use Rattle.aseba_tree.specs.Numbers.{fresh_elements, fresh_of_list, lengths, source_room}
use Rattle.aseba_tree.specs.State.{Program, init_code, Task, perform, put, leave, turn, try, next, back, finish}
use Rattle.aseba_tree.specs.Step.{target_expr, native_place, native_sizes}
use Rattle.aseba_tree.specs.Value.{from_to}
use Rattle.aseba_expand.specs.Plain.{bound, sent_number}

-- Expressions

-- there is an element
abbrev pub IsFilled : List CoreExpr → Type 0
IsFilled [] = ⊥
IsFilled (e ∷ es) = Unit {0}

-- there is one element and no more
abbrev pub IsAlone : List CoreExpr → Type 0
IsAlone (e ∷ []) = Unit {0}
IsAlone _ = ⊥

-- there is a variable
abbrev pub IsThere : Option (ℕ × ℕ) → Type 0
IsThere None = ⊥
IsThere (Some v) = Unit {0}

-- there is a variable of so many cells
abbrev pub IsSized : Option (ℕ × ℕ) → ℕ → Type 0
IsSized None n = ⊥
IsSized (Some v) n = v.1 ≡ n

-- there is a variable in which a place lies
abbrev pub Reaches : Option (ℕ × ℕ) → ℕ → Type 0
Reaches None n = ⊥
Reaches (Some v) n = n < v.1

-- what is indexed is a variable, an index has an element, and a range lies in its variable
abbrev mutual
  pub Grounded : Program → Expr → Type 0
  Grounded program (expr first place form) = GroundedForm program form

  pub GroundedForm : Program → Form → Type 0
  GroundedForm program (number v) = Unit {0}
  GroundedForm program (whole name) = Unit {0}
  GroundedForm program (index name e) = IsThere (variable_place program name) × IsFilled (elements_of program e) × Grounded program e
  GroundedForm program (range name c d) = Reaches (variable_place program name) (bound program d) × (bound program c ≤ bound program d)
  GroundedForm program (items es) = GroundedList program es
  GroundedForm program (one op e) = Grounded program e
  GroundedForm program (two op l r) = Grounded program l × Grounded program r

  pub GroundedList : Program → Exprs → Type 0
  GroundedList program no_exprs = Unit {0}
  GroundedList program (exprs e es) = Grounded program e × GroundedList program es

-- Statements

-- one element, or more that have room among the temporaries
abbrev pub HasRoom : Program → List CoreExpr → Type 0
HasRoom program [] = ⊥
HasRoom program (e ∷ []) = Unit {0}
HasRoom program (e ∷ f ∷ es) = length (e ∷ f ∷ es) ≤ source_room program

-- the elements can be stored in the cells that a part of a variable names
abbrev pub ReadyPart : Program → Name → Part → List CoreExpr → Type 0
ReadyPart program name all es = IsSized (variable_place program name) (length es) × HasRoom program es
ReadyPart program name (at i) es = IsThere (variable_place program name) × Grounded program i × IsAlone (elements_of program i) × IsAlone es
ReadyPart program name (span c d) es = Reaches (variable_place program name) (bound program d) × (length (from_to (bound program c) (bound program d)) ≡ length es) × HasRoom program es

abbrev pub ReadyTest : Program → Expr → Type 0
ReadyTest program c = Grounded program c × IsAlone (elements_of program c)

abbrev pub ReadyHead : Program → ForHead → Type 0
ReadyHead program head = IsSized (variable_place program head.name) 1

-- what is sent under the number of a name has that name
abbrev pub IsEvent : Program → Name → Type 0
IsEvent program name = event_of program.project (sent_number program name) ≡ named name

abbrev pub ReadyArgument : Program → Option Expr → Type 0
ReadyArgument program None = Unit {0}
ReadyArgument program (Some e) = Grounded program e × (length (fresh_elements program e) ≤ source_room program)

-- the length of the first argument of a template, where the parameters have these sizes and the arguments so many cells
abbrev pub first_length : List ℤ → List ℕ → ℤ → ℕ
first_length (p ∷ ps) (n ∷ ns) template = if int_eq p template then n else first_length ps ns template
first_length _ _ template = 0

-- the cells that a parameter asks for
abbrev pub asked : List ℤ → List ℕ → ℤ → ℕ
asked ps ns (pos n) = n
asked ps ns (negsuc n) = first_length ps ns (negsuc n)

-- each argument has the cells that its parameter asks for, and there are as many arguments as parameters
abbrev pub Fit : List ℤ → List ℕ → List ℤ → List ℕ → Type 0
Fit ps ns [] [] = Unit {0}
Fit ps ns (q ∷ qs) (m ∷ ms) = (asked ps ns q ≡ m) × Fit ps ns qs ms
Fit ps ns _ _ = ⊥

-- there is a native of the name, and its arguments have the cells that it asks for
pub record ReadyCall (program : Program) (name : Name) (es : Exprs) : Type 0 where
  pub name_of : native_named program.project (native_place program.project name) ≡ name
  pub fits : Fit (native_sizes program.project name) (lengths program es) (native_sizes program.project name) (lengths program es)
  pub grounded : GroundedList program es
  pub room : length (fresh_of_list program es) ≤ source_room program

abbrev mutual
  pub ReadyStmt : Program → Stmt → Type 0
  ReadyStmt program (stmt line place form) = ReadyForm program form

  pub ReadyForm : Program → StmtForm → Type 0
  ReadyForm program (assign target e) = ReadyPart program target.name target.part (elements_of program e) × Grounded program e
  ReadyForm program (change target op e) = ReadyPart program target.name target.part (changed_elements program target op e) × Grounded program (target_expr target) × Grounded program e
  ReadyForm program (bump target op) = ReadyPart program target.name target.part (bumped_elements program target op) × Grounded program (target_expr target)
  ReadyForm program (if_then c body other) = ReadyTest program c × ReadyStmts program body × ReadyStmts program other
  ReadyForm program (when_do c body) = ReadyTest program c × ReadyStmts program body
  ReadyForm program (while_do c body) = ReadyTest program c × ReadyStmts program body
  ReadyForm program (for_do head body) = ReadyHead program head × ReadyStmts program body
  ReadyForm program (emit name argument) = IsEvent program name × ReadyArgument program argument
  ReadyForm program (callsub name) = Unit {0}
  ReadyForm program (call name es) = ReadyCall program name es
  ReadyForm program return = Unit {0}

  pub ReadyStmts : Program → Stmts → Type 0
  ReadyStmts program no_stmts = Unit {0}
  ReadyStmts program (stmts s ss) = ReadyStmt program s × ReadyStmts program ss

-- Work

abbrev pub ReadyTurn : Program → Task → Type 0
ReadyTurn program (perform before (stmt line place (while_do c body))) = ReadyForm program (while_do c body)
ReadyTurn program (try line before head body) = ReadyHead program head × ReadyStmts program body
ReadyTurn program _ = ⊥

-- a task that stores nothing that was computed
abbrev pub ReadyTask : Program → Task → Type 0
ReadyTask program (perform before s) = ReadyStmt program s
ReadyTask program (put line name place v) = ⊥
ReadyTask program (leave line) = Unit {0}
ReadyTask program (turn t) = ReadyTurn program t
ReadyTask program (try line before head body) = ReadyHead program head × ReadyStmts program body
ReadyTask program (next line before head body) = ReadyHead program head × ReadyStmts program body
ReadyTask program (back line) = Unit {0}
ReadyTask program (finish line) = Unit {0}

abbrev pub ReadyTasks : Program → List Task → Type 0
ReadyTasks program [] = Unit {0}
ReadyTasks program (t ∷ ts) = ReadyTask program t × ReadyTasks program ts

-- Sources

abbrev pub ReadyParts : Program → List Handler → Type 0
ReadyParts program [] = Unit {0}
ReadyParts program (h ∷ hs) = ReadyStmts program h.body × ReadyParts program hs

-- A source is ready where its init code and all its parts are.
pub record Ready (program : Program) : Type 0 where
  pub init : ReadyStmts program (init_code program.source)
  pub parts : ReadyParts program program.source.parts
