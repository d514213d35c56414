-- Which tokens spell which tree: one case for each row of the grammar.
use Rattle.std.specs.Prelude.{◌≡◌, ℕ, suc, nat_lt, Bool, true, false, ℤ, List, [], ◌∷◌, ◌++◌, bytes_eq, find, Option, Some, None}
use Rattle.aseba_words.specs.declared.operators.Unary.{Unary}
use Rattle.aseba_words.specs.declared.operators.Unary.TheVariants.{Minus, Abs, BitNot, Not}
use Rattle.aseba_words.specs.declared.operators.Binary.{Binary}
use Rattle.aseba_words.specs.declared.operators.Binary.TheVariants.{Shl, Shr, Add, Sub, Mul, Div, Rem, BitOr, BitXor, BitAnd, Equal, Differ, Above, AtLeast, Below, AtMost, Or, And}
use Rattle.aseba_tree.specs.declared.token.Token.{Token}
use Rattle.aseba_tree.specs.declared.token.TokenKind.{TokenKind}
use Rattle.aseba_tree.specs.declared.token.Key.{Key}
use Rattle.aseba_tree.specs.declared.token.Sign.{Sign}
use Rattle.aseba_tree.specs.Code.{Name, Place, Expr, expr, number, items, one, two, Exprs, no_exprs, exprs, all, at, span, Target, stmt, assign, change, bump, if_then, when_do, while_do, for_do, emit, callsub, call, return, Stmts, no_stmts, stmts, Decl, Handler, Source, Sized, Project}
use Rattle.aseba_tree.specs.Step.{target_expr}

abbrev pub place : Token → Place
place t = record { line = t.at.line; column = t.at.col }

abbrev pub IsName : Name → Token → Type 0
IsName name t = t.kind ≡ TokenKind.Name name

abbrev pub IsKey : Key → Token → Type 0
IsKey key t = t.kind ≡ TokenKind.Key key

abbrev pub IsSign : Sign → Token → Type 0
IsSign sign t = t.kind ≡ TokenKind.Sign sign

-- the operator of two operands that a token is
abbrev pub operator : TokenKind → Option Binary
operator (TokenKind.Sign Sign.Star) = Some Mul
operator (TokenKind.Sign Sign.Slash) = Some Div
operator (TokenKind.Sign Sign.Percent) = Some Rem
operator (TokenKind.Sign Sign.Plus) = Some Add
operator (TokenKind.Sign Sign.Minus) = Some Sub
operator (TokenKind.Sign Sign.ShiftLeft) = Some Shl
operator (TokenKind.Sign Sign.ShiftRight) = Some Shr
operator (TokenKind.Sign Sign.Ampersand) = Some BitAnd
operator (TokenKind.Sign Sign.Caret) = Some BitXor
operator (TokenKind.Sign Sign.Bar) = Some BitOr
operator (TokenKind.Sign Sign.EqualEqual) = Some Equal
operator (TokenKind.Sign Sign.NotEqual) = Some Differ
operator (TokenKind.Sign Sign.Less) = Some Below
operator (TokenKind.Sign Sign.LessEqual) = Some AtMost
operator (TokenKind.Sign Sign.Greater) = Some Above
operator (TokenKind.Sign Sign.GreaterEqual) = Some AtLeast
operator (TokenKind.Key Key.And) = Some And
operator (TokenKind.Key Key.Or) = Some Or
operator _ = None

-- the operator of one operand that a token is
abbrev pub prefix_operator : TokenKind → Option Unary
prefix_operator (TokenKind.Sign Sign.Minus) = Some Minus
prefix_operator (TokenKind.Sign Sign.Tilde) = Some BitNot
prefix_operator (TokenKind.Key Key.Abs) = Some Abs
prefix_operator (TokenKind.Key Key.Not) = Some Not
prefix_operator _ = None

-- the operator with which a sign changes its target by an expression
abbrev pub changing : TokenKind → Option Binary
changing (TokenKind.Sign Sign.PlusAssign) = Some Add
changing (TokenKind.Sign Sign.MinusAssign) = Some Sub
changing (TokenKind.Sign Sign.StarAssign) = Some Mul
changing (TokenKind.Sign Sign.SlashAssign) = Some Div
changing (TokenKind.Sign Sign.PercentAssign) = Some Rem
changing (TokenKind.Sign Sign.ShiftLeftAssign) = Some Shl
changing (TokenKind.Sign Sign.ShiftRightAssign) = Some Shr
changing (TokenKind.Sign Sign.AmpersandAssign) = Some BitAnd
changing (TokenKind.Sign Sign.BarAssign) = Some BitOr
changing (TokenKind.Sign Sign.CaretAssign) = Some BitXor
changing _ = None

-- the operator with which a sign changes its target by 1
abbrev pub stepping : TokenKind → Option Binary
stepping (TokenKind.Sign Sign.PlusPlus) = Some Add
stepping (TokenKind.Sign Sign.MinusMinus) = Some Sub
stepping _ = None

-- The levels of operators, the tightest first. A leaf is of level 0, and any expression of level 11.
abbrev pub level_of : Binary → ℕ
level_of Mul = 2
level_of Div = 2
level_of Rem = 2
level_of Add = 3
level_of Sub = 3
level_of Shl = 4
level_of Shr = 4
level_of BitAnd = 5
level_of BitXor = 6
level_of BitOr = 7
level_of Equal = 8
level_of Differ = 8
level_of Below = 8
level_of AtMost = 8
level_of Above = 8
level_of AtLeast = 8
level_of And = 10
level_of Or = 11

abbrev pub prefix_level : Unary → ℕ
prefix_level Minus = 1
prefix_level BitNot = 1
prefix_level Abs = 1
prefix_level Not = 9

abbrev pub any_level : ℕ
any_level = 11

-- the place of an expression's first token
abbrev pub first_of : Expr → Place
first_of (expr first own form) = first

-- the expression with another first token, as parentheses give it
abbrev pub begun_at : Place → Expr → Expr
begun_at place (expr first own form) = expr place own form

-- An expression of a level; one or more expressions with a comma between each two; a variable's name with the cells that are meant.
mutual
  pub data SpellsExpr : ℕ → List Token → Expr → Type 0 where
    a_number : {level : ℕ} {tokens : List Token} {e : Expr} (t : Token) (v : ℤ) → t.kind ≡ TokenKind.Number v → tokens ≡ t ∷ [] → level ≡ 0 → e ≡ expr (place t) (place t) (number v)
        → SpellsExpr level tokens e
    a_target : {level : ℕ} {tokens : List Token} {e : Expr} (target : Target) → level ≡ 0 → e ≡ target_expr target → SpellsTarget tokens target → SpellsExpr level tokens e
    a_list : {level : ℕ} {tokens : List Token} {e : Expr} (opening closing : Token) (inner : List Token) (es : Exprs) → IsSign Sign.OpenBracket opening → IsSign Sign.CloseBracket closing
        → tokens ≡ opening ∷ (inner ++ closing ∷ []) → level ≡ 0 → e ≡ expr (place opening) (place opening) (items es) → SpellsList inner es → SpellsExpr level tokens e
    in_parentheses : {level : ℕ} {tokens : List Token} {e : Expr} (opening closing : Token) (inner : List Token) (i : Expr) → IsSign Sign.OpenParen opening → IsSign Sign.CloseParen closing
        → tokens ≡ opening ∷ (inner ++ closing ∷ []) → level ≡ 0 → e ≡ begun_at (place opening) i → SpellsExpr any_level inner i → SpellsExpr level tokens e
    a_prefix : {level : ℕ} {tokens : List Token} {e : Expr} (t : Token) (op : Unary) (operand : List Token) (i : Expr) → prefix_operator t.kind ≡ Some op → tokens ≡ t ∷ operand → level ≡ prefix_level op
        → e ≡ expr (place t) (place t) (one op i) → SpellsExpr level operand i → SpellsExpr level tokens e
    an_operation : {level : ℕ} {tokens : List Token} {e : Expr} (left right : List Token) (t : Token) (op : Binary) (tighter : ℕ) (l r : Expr) → operator t.kind ≡ Some op → tokens ≡ left ++ t ∷ right
        → level ≡ level_of op → level ≡ suc tighter → e ≡ expr (first_of l) (place t) (two op l r) → SpellsExpr level left l → SpellsExpr tighter right r → SpellsExpr level tokens e
    a_tighter : {level : ℕ} {tokens : List Token} {e : Expr} (tighter : ℕ) → level ≡ suc tighter → SpellsExpr tighter tokens e → SpellsExpr level tokens e

  pub data SpellsList : List Token → Exprs → Type 0 where
    the_last : {tokens : List Token} {es : Exprs} (e : Expr) → es ≡ exprs e no_exprs → SpellsExpr any_level tokens e → SpellsList tokens es
    one_before : {tokens : List Token} {es : Exprs} (first rest : List Token) (comma : Token) (e : Expr) (others : Exprs) → IsSign Sign.Comma comma → tokens ≡ first ++ comma ∷ rest → es ≡ exprs e others
        → SpellsExpr any_level first e → SpellsList rest others → SpellsList tokens es

  pub data SpellsTarget : List Token → Target → Type 0 where
    all_cells : {tokens : List Token} {target : Target} (t : Token) (name : Name) → IsName name t → tokens ≡ t ∷ [] → target ≡ record { place = place t; name = name; part = all } → SpellsTarget tokens target
    one_cell : {tokens : List Token} {target : Target} (t opening closing : Token) (name : Name) (inner : List Token) (i : Expr) → IsName name t → IsSign Sign.OpenBracket opening → IsSign Sign.CloseBracket closing
        → tokens ≡ t ∷ opening ∷ (inner ++ closing ∷ []) → target ≡ record { place = place t; name = name; part = at i } → SpellsExpr any_level inner i → SpellsTarget tokens target
    some_cells : {tokens : List Token} {target : Target} (t opening colon closing : Token) (name : Name) (low high : List Token) (c d : Expr) → IsName name t → IsSign Sign.OpenBracket opening → IsSign Sign.Colon colon
        → IsSign Sign.CloseBracket closing → tokens ≡ t ∷ opening ∷ (low ++ colon ∷ (high ++ closing ∷ [])) → target ≡ record { place = place t; name = name; part = span c d }
        → SpellsExpr any_level low c → SpellsExpr any_level high d → SpellsTarget tokens target

-- whether an `emit` of that name has an expression: the project gives the event a size above 0
abbrev pub has_cells : Option Sized → Bool
has_cells None = false
has_cells (Some event) = nat_lt 0 event.size

abbrev pub takes_argument : Project → Name → Bool
takes_argument project name = has_cells (find (λ event. bytes_eq event.name name) project.events)

-- a step behind the bounds of a `for`, or none
pub data SpellsStep : List Token → Option Expr → Type 0 where
  no_step : {tokens : List Token} {step : Option Expr} → tokens ≡ [] → step ≡ None → SpellsStep tokens step
  a_step : {tokens : List Token} {step : Option Expr} (word : Token) (inner : List Token) (e : Expr) → IsKey Key.Step word → tokens ≡ word ∷ inner → step ≡ Some e → SpellsExpr any_level inner e → SpellsStep tokens step

-- the expression of an `emit`, where the event has cells
pub data SpellsArgument (project : Project) (name : Name) : List Token → Option Expr → Type 0 where
  no_argument : {tokens : List Token} {argument : Option Expr} → takes_argument project name ≡ false → tokens ≡ [] → argument ≡ None → SpellsArgument project name tokens argument
  an_argument : {tokens : List Token} {argument : Option Expr} (e : Expr) → takes_argument project name ≡ true → argument ≡ Some e → SpellsExpr any_level tokens e → SpellsArgument project name tokens argument

-- the expressions between the parentheses of a `call`
pub data SpellsArguments : List Token → Exprs → Type 0 where
  no_arguments : {tokens : List Token} {es : Exprs} → tokens ≡ [] → es ≡ no_exprs → SpellsArguments tokens es
  some_arguments : {tokens : List Token} {es : Exprs} → SpellsList tokens es → SpellsArguments tokens es

-- Statements, each row one of them in front of the rest; and what stands between the first branch of an `if` and its `end`.
mutual
  pub data SpellsStmts (project : Project) : List Token → Stmts → Type 0 where
    nothing : {tokens : List Token} {ss : Stmts} → tokens ≡ [] → ss ≡ no_stmts → SpellsStmts project tokens ss
    an_assignment : {tokens : List Token} {ss : Stmts} (left right rest : List Token) (sign : Token) (target : Target) (e : Expr) (others : Stmts) → IsSign Sign.Assign sign → tokens ≡ left ++ sign ∷ (right ++ rest)
        → ss ≡ stmts (stmt target.place.line (place sign) (assign target e)) others → SpellsTarget left target → SpellsExpr any_level right e → SpellsStmts project rest others → SpellsStmts project tokens ss
    a_change : {tokens : List Token} {ss : Stmts} (left right rest : List Token) (sign : Token) (op : Binary) (target : Target) (e : Expr) (others : Stmts) → changing sign.kind ≡ Some op → tokens ≡ left ++ sign ∷ (right ++ rest)
        → ss ≡ stmts (stmt target.place.line (place sign) (change target op e)) others → SpellsTarget left target → SpellsExpr any_level right e → SpellsStmts project rest others → SpellsStmts project tokens ss
    a_bump : {tokens : List Token} {ss : Stmts} (left rest : List Token) (sign : Token) (op : Binary) (target : Target) (others : Stmts) → stepping sign.kind ≡ Some op → tokens ≡ left ++ sign ∷ rest
        → ss ≡ stmts (stmt target.place.line (place sign) (bump target op)) others → SpellsTarget left target → SpellsStmts project rest others → SpellsStmts project tokens ss
    an_if : {tokens : List Token} {ss : Stmts} (word then last : Token) (test inner behind rest : List Token) (c : Expr) (body other others : Stmts) → IsKey Key.If word → IsKey Key.Then then → IsKey Key.End last
        → tokens ≡ word ∷ (test ++ then ∷ (inner ++ (behind ++ last ∷ rest))) → ss ≡ stmts (stmt word.at.line (place word) (if_then c body other)) others
        → SpellsExpr any_level test c → SpellsStmts project inner body → SpellsOther project behind other → SpellsStmts project rest others → SpellsStmts project tokens ss
    a_when : {tokens : List Token} {ss : Stmts} (word do_word last : Token) (test inner rest : List Token) (c : Expr) (body others : Stmts) → IsKey Key.When word → IsKey Key.Do do_word → IsKey Key.End last
        → tokens ≡ word ∷ (test ++ do_word ∷ (inner ++ last ∷ rest)) → ss ≡ stmts (stmt word.at.line (place word) (when_do c body)) others
        → SpellsExpr any_level test c → SpellsStmts project inner body → SpellsStmts project rest others → SpellsStmts project tokens ss
    a_while : {tokens : List Token} {ss : Stmts} (word do_word last : Token) (test inner rest : List Token) (c : Expr) (body others : Stmts) → IsKey Key.While word → IsKey Key.Do do_word → IsKey Key.End last
        → tokens ≡ word ∷ (test ++ do_word ∷ (inner ++ last ∷ rest)) → ss ≡ stmts (stmt word.at.line (place word) (while_do c body)) others
        → SpellsExpr any_level test c → SpellsStmts project inner body → SpellsStmts project rest others → SpellsStmts project tokens ss
    a_for : {tokens : List Token} {ss : Stmts} (word variable in_word colon do_word last : Token) (low high by inner rest : List Token) (name : Name) (a b : Expr) (step : Option Expr) (body others : Stmts)
        → IsKey Key.For word → IsName name variable → IsKey Key.In in_word → IsSign Sign.Colon colon → IsKey Key.Do do_word → IsKey Key.End last
        → tokens ≡ word ∷ variable ∷ in_word ∷ (low ++ colon ∷ (high ++ (by ++ do_word ∷ (inner ++ last ∷ rest))))
        → ss ≡ stmts (stmt word.at.line (place variable) (for_do (record { name = name; first = a; last = b; step = step }) body)) others
        → SpellsExpr any_level low a → SpellsExpr any_level high b → SpellsStep by step → SpellsStmts project inner body → SpellsStmts project rest others → SpellsStmts project tokens ss
    an_emit : {tokens : List Token} {ss : Stmts} (word event : Token) (given rest : List Token) (name : Name) (argument : Option Expr) (others : Stmts) → IsKey Key.Emit word → IsName name event
        → tokens ≡ word ∷ event ∷ (given ++ rest) → ss ≡ stmts (stmt word.at.line (place event) (emit name argument)) others
        → SpellsArgument project name given argument → SpellsStmts project rest others → SpellsStmts project tokens ss
    a_callsub : {tokens : List Token} {ss : Stmts} (word called : Token) (rest : List Token) (name : Name) (others : Stmts) → IsKey Key.CallSub word → IsName name called
        → tokens ≡ word ∷ called ∷ rest → ss ≡ stmts (stmt word.at.line (place called) (callsub name)) others → SpellsStmts project rest others → SpellsStmts project tokens ss
    a_call : {tokens : List Token} {ss : Stmts} (word called opening closing : Token) (given rest : List Token) (name : Name) (es : Exprs) (others : Stmts) → IsKey Key.Call word → IsName name called
        → IsSign Sign.OpenParen opening → IsSign Sign.CloseParen closing → tokens ≡ word ∷ called ∷ opening ∷ (given ++ closing ∷ rest) → ss ≡ stmts (stmt word.at.line (place called) (call name es)) others
        → SpellsArguments given es → SpellsStmts project rest others → SpellsStmts project tokens ss
    a_return : {tokens : List Token} {ss : Stmts} (word : Token) (rest : List Token) (others : Stmts) → IsKey Key.Return word → tokens ≡ word ∷ rest → ss ≡ stmts (stmt word.at.line (place word) return) others
        → SpellsStmts project rest others → SpellsStmts project tokens ss

  pub data SpellsOther (project : Project) : List Token → Stmts → Type 0 where
    no_other : {tokens : List Token} {other : Stmts} → tokens ≡ [] → other ≡ no_stmts → SpellsOther project tokens other
    an_else : {tokens : List Token} {other : Stmts} (word : Token) (inner : List Token) → IsKey Key.Else word → tokens ≡ word ∷ inner → SpellsStmts project inner other → SpellsOther project tokens other
    an_elseif : {tokens : List Token} {other : Stmts} (word then : Token) (test inner behind : List Token) (c : Expr) (body more : Stmts) → IsKey Key.ElseIf word → IsKey Key.Then then
        → tokens ≡ word ∷ (test ++ then ∷ (inner ++ behind)) → other ≡ stmts (stmt word.at.line (place word) (if_then c body more)) no_stmts
        → SpellsExpr any_level test c → SpellsStmts project inner body → SpellsOther project behind more → SpellsOther project tokens other

-- the size in a declaration, or none; and its value behind a `=`, with the place of that sign, which is the name's where there is none
pub data SpellsSize : List Token → Option Expr → Type 0 where
  no_size : {tokens : List Token} {size : Option Expr} → tokens ≡ [] → size ≡ None → SpellsSize tokens size
  a_size : {tokens : List Token} {size : Option Expr} (opening closing : Token) (inner : List Token) (e : Expr) → IsSign Sign.OpenBracket opening → IsSign Sign.CloseBracket closing
      → tokens ≡ opening ∷ (inner ++ closing ∷ []) → size ≡ Some e → SpellsExpr any_level inner e → SpellsSize tokens size

pub data SpellsValue (named : Place) : List Token → Place → Option Expr → Type 0 where
  no_value : {tokens : List Token} {equals : Place} {value : Option Expr} → tokens ≡ [] → equals ≡ named → value ≡ None → SpellsValue named tokens equals value
  a_value : {tokens : List Token} {equals : Place} {value : Option Expr} (sign : Token) (inner : List Token) (e : Expr) → IsSign Sign.Assign sign → tokens ≡ sign ∷ inner → equals ≡ place sign → value ≡ Some e
      → SpellsExpr any_level inner e → SpellsValue named tokens equals value

-- declarations, each row one of them in front of the rest
pub data SpellsDecls : List Token → List Decl → Type 0 where
  no_decls : {tokens : List Token} {ds : List Decl} → tokens ≡ [] → ds ≡ [] → SpellsDecls tokens ds
  a_decl : {tokens : List Token} {ds : List Decl} (word variable : Token) (sized given rest : List Token) (name : Name) (size value : Option Expr) (equals : Place) (others : List Decl)
      → IsKey Key.Var word → IsName name variable → tokens ≡ word ∷ variable ∷ (sized ++ (given ++ rest))
      → ds ≡ record { line = word.at.line; place = place variable; name = name; size = size; equals = equals; value = value } ∷ others
      → SpellsSize sized size → SpellsValue (place variable) given equals value → SpellsDecls rest others → SpellsDecls tokens ds

-- handlers and subroutines, each row one of them in front of the rest
pub data SpellsParts (project : Project) : List Token → List Handler → Type 0 where
  no_parts : {tokens : List Token} {hs : List Handler} → tokens ≡ [] → hs ≡ [] → SpellsParts project tokens hs
  a_handler : {tokens : List Token} {hs : List Handler} (word event : Token) (inner rest : List Token) (name : Name) (body : Stmts) (others : List Handler) → IsKey Key.OnEvent word → IsName name event
      → tokens ≡ word ∷ event ∷ (inner ++ rest) → hs ≡ record { line = word.at.line; place = place event; is_sub = false; name = name; body = body } ∷ others
      → SpellsStmts project inner body → SpellsParts project rest others → SpellsParts project tokens hs
  a_sub : {tokens : List Token} {hs : List Handler} (word named : Token) (inner rest : List Token) (name : Name) (body : Stmts) (others : List Handler) → IsKey Key.Sub word → IsName name named
      → tokens ≡ word ∷ named ∷ (inner ++ rest) → hs ≡ record { line = word.at.line; place = place named; is_sub = true; name = name; body = body } ∷ others
      → SpellsStmts project inner body → SpellsParts project rest others → SpellsParts project tokens hs

-- The tokens spell the source: its declarations, then its init code, then its parts.
pub record Spells (project : Project) (source : Source) (tokens : List Token) : Type 0 where
  pub decl_tokens : List Token
  pub init_tokens : List Token
  pub part_tokens : List Token
  pub in_order : tokens ≡ decl_tokens ++ (init_tokens ++ part_tokens)
  pub decls : SpellsDecls decl_tokens source.vars
  pub init : SpellsStmts project init_tokens source.init
  pub parts : SpellsParts project part_tokens source.parts

-- some program begins with these tokens
abbrev pub Begins : Project → List Token → Type 0
Begins project tokens = (more : List Token) × (source : Source) × Spells project source (tokens ++ more)
