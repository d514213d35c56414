-- Sources and projects as the definitions see them: trees with their places, names as lists of bytes, numbers without a bound.
use Rattle.std.specs.Prelude.{ℕ, ℤ, Bool, List, Option}
use Rattle.aseba_words.specs.declared.operators.Unary.{Unary}
use Rattle.aseba_words.specs.declared.operators.Binary.{Binary}

-- a name of the language
abbrev pub Name : Type 0
Name = List ℕ

-- a byte of a text, by its line and column, both from 1
pub record Place : Type 0 where
  pub line : ℕ
  pub column : ℕ

-- An expression, with the place of its first token and its own: the operator's, else that of its name, number or bracket.
mutual
  pub data Expr : Type 0 where
    expr : Place → Place → Form → Expr

  pub data Form : Type 0 where
    number : ℤ → Form
    whole : Name → Form
    index : Name → Expr → Form
    range : Name → Expr → Expr → Form
    items : Exprs → Form
    one : Unary → Expr → Form
    two : Binary → Expr → Expr → Form

  pub data Exprs : Type 0 where
    no_exprs : Exprs
    exprs : Expr → Exprs → Exprs

-- the cells of a variable that a target names: all, one, or those from one to another
pub data Part : Type 0 where
  all : Part
  at : Expr → Part
  span : Expr → Expr → Part

-- what is assigned to, with its name's place
pub record Target : Type 0 where
  pub place : Place
  pub name : Name
  pub part : Part

-- the variable, the bounds and the step of a `for`
pub record ForHead : Type 0 where
  pub name : Name
  pub first : Expr
  pub last : Expr
  pub step : Option Expr

-- A statement, with the line of its first token and its place: that of its sign, of its name, or of its first token.
-- `assign` is `L = e`, `change` is `L op= e`, `bump` is `L++` and `L--`. An `elseif` is an `if` in the list behind the `else`.
mutual
  pub data Stmt : Type 0 where
    stmt : ℕ → Place → StmtForm → Stmt

  pub data StmtForm : Type 0 where
    assign : Target → Expr → StmtForm
    change : Target → Binary → Expr → StmtForm
    bump : Target → Binary → StmtForm
    if_then : Expr → Stmts → Stmts → StmtForm
    when_do : Expr → Stmts → StmtForm
    while_do : Expr → Stmts → StmtForm
    for_do : ForHead → Stmts → StmtForm
    emit : Name → Option Expr → StmtForm
    callsub : Name → StmtForm
    call : Name → Exprs → StmtForm
    return : StmtForm

  pub data Stmts : Type 0 where
    no_stmts : Stmts
    stmts : Stmt → Stmts → Stmts

-- A `var`, with its line, its name's place and that of its `=`, or the name's again where there is none.
pub record Decl : Type 0 where
  pub line : ℕ
  pub place : Place
  pub name : Name
  pub size : Option Expr
  pub equals : Place
  pub value : Option Expr

-- an `onevent` or a `sub`, with the line of that word and its name's place
pub record Handler : Type 0 where
  pub line : ℕ
  pub place : Place
  pub is_sub : Bool
  pub name : Name
  pub body : Stmts

pub record Source : Type 0 where
  pub vars : List Decl
  pub init : Stmts
  pub parts : List Handler

-- a name with a number of cells
pub record Sized : Type 0 where
  pub name : Name
  pub size : ℕ

-- a name with a text about it
pub record Local : Type 0 where
  pub name : Name
  pub text : List ℕ

-- A parameter of a native: its number of cells, or a template's number below 0; arguments of one template have one length.
pub record Param : Type 0 where
  pub size : ℤ
  pub name : Name

pub record Native : Type 0 where
  pub name : Name
  pub text : List ℕ
  pub params : List Param

-- a node: its numbers of code words, stack cells and cells, its variables, local events and natives
pub record Description : Type 0 where
  pub name : Name
  pub code : ℕ
  pub stack : ℕ
  pub cells : ℕ
  pub variables : List Sized
  pub locals : List Local
  pub natives : List Native

pub record Const : Type 0 where
  pub name : Name
  pub value : ℤ

-- a node with its id, the global events and the constants
pub record Project : Type 0 where
  pub node : Description
  pub id : ℕ
  pub events : List Sized
  pub consts : List Const
