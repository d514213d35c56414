-- What a parser that looks one token ahead reads: a value and the tokens behind it, or where it stops. The parser's own functions cite it;
-- what it has to do with the trees that tokens spell is shown in proofs/.
use Rattle.std.specs.Prelude.{ℕ, zero, suc, ◌-◌, Bool, true, false, List, [], ◌∷◌, length, nat_eq, Option, Some, None}
use Rattle.aseba_tree.specs.declared.token.Token.{Token}
use Rattle.aseba_tree.specs.declared.token.TokenKind.{TokenKind}
use Rattle.aseba_tree.specs.declared.token.Key.{Key}
use Rattle.aseba_tree.specs.declared.token.Sign.{Sign}
use Rattle.aseba_words.specs.declared.operators.Unary.{Unary}
use Rattle.aseba_words.specs.declared.operators.Binary.{Binary}
use Rattle.aseba_tree.specs.Code.{Name, Place, Expr, expr, number, items, one, two, Exprs, Part, all, at, span, Target, Stmt, stmt, assign, change, bump, if_then, when_do, while_do, for_do, emit, callsub, call, return, Stmts, no_stmts, ForHead, Decl, Handler, Source, Project}
use Rattle.aseba_tree.specs.View.{exprs_of, stmts_of}
use Rattle.aseba_tree.specs.Step.{target_expr}
use Rattle.aseba_tree.specs.Spells.{place, operator, prefix_operator, changing, stepping, level_of, prefix_level, any_level, first_of, begun_at, takes_argument}
use denote.Enum.Bare.{sameb}
use Rattle.aseba_tree.specs.contracts.Key as key_type
use Rattle.aseba_tree.specs.contracts.Sign as sign_type

-- A value with the tokens behind it; or the tokens from the first on that fits nothing; or those from the one on that opens a level too many.
pub data Read (A : Type 0) : Type 0 where
  taken : A → List Token → Read A
  wrong : List Token → Read A
  deep : List Token → Read A

-- what is read behind a value
abbrev pub next : {A B : Type 0} → Read A → (A → List Token → Read B) → Read B
next (taken a rest) f = f a rest
next (wrong rest) f = wrong rest
next (deep rest) f = deep rest

-- one token
abbrev pub is_sign : Sign → TokenKind → Bool
is_sign sign (TokenKind.Sign found) = sameb sign_type.the_type found sign
is_sign sign _ = false

abbrev pub is_key : Key → TokenKind → Bool
is_key key (TokenKind.Key found) = sameb key_type.the_type found key
is_key key _ = false

abbrev pub expected : (TokenKind → Bool) → List Token → Read Token
expected fits [] = wrong []
expected fits (t ∷ rest) = elim (fits t.kind) [ true ↦ taken t rest | false ↦ wrong (t ∷ rest) ]

pub record Named : Type 0 where
  pub token : Token
  pub name : Name

abbrev pub named : List Token → Read Named
named [] = wrong []
named (t ∷ rest) = named_by t rest t.kind
  where
    named_by : Token → List Token → TokenKind → Read Named
    named_by t rest (TokenKind.Name name) = taken (record { token = t; name = name }) rest
    named_by t rest _ = wrong (t ∷ rest)

-- As many things as begin one behind the other. No more of them are read than `most`.
abbrev pub many : {A : Type 0} → (TokenKind → Bool) → (List Token → Read A) → ℕ → List Token → Read (List A)
many begins read zero tokens = taken [] tokens
many begins read (suc most) [] = taken [] []
many begins read (suc most) (t ∷ rest) =
    elim (begins t.kind) [ true ↦ next (read (t ∷ rest)) (λ a after. next (many begins read most after) (λ others behind. taken (a ∷ others) behind)) | false ↦ taken [] (t ∷ rest) ]

-- each of them has a token at least
abbrev pub all_of : {A : Type 0} → (TokenKind → Bool) → (List Token → Read A) → List Token → Read (List A)
all_of begins read tokens = many begins read (length tokens) tokens

-- The reader of expressions of a level inside what a token opens; none where no more may be opened.
abbrev pub Inside : Type 0
Inside = Option (ℕ → List Token → Read Expr)

-- what is read inside the thing that the first token opens
abbrev pub opened : {A B : Type 0} → Option A → List Token → (A → Read B) → Read B
opened None tokens f = deep tokens
opened (Some inside) tokens f = f inside

-- an expression with another behind a comma, and so on
abbrev pub list_read : (ℕ → List Token → Read Expr) → List Token → Read Exprs
list_read read tokens = next (read any_level tokens) (λ e after. next (all_of (is_sign Sign.Comma) (λ more. next (expected (is_sign Sign.Comma) more) (λ comma rest. read any_level rest)) after)
    (λ others behind. taken (exprs_of (e ∷ others)) behind))

-- what stands behind a variable's name: nothing, an index or a range
abbrev pub index_end : (ℕ → List Token → Read Expr) → Expr → List Token → Read Part
index_end read e [] = wrong []
index_end read e (t ∷ rest) = elim (is_sign Sign.Colon t.kind) [
  | true ↦ next (read any_level rest) (λ d after. next (expected (is_sign Sign.CloseBracket) after) (λ closing behind. taken (span e d) behind))
  | false ↦ next (expected (is_sign Sign.CloseBracket) (t ∷ rest)) (λ closing behind. taken (at e) behind)
]

abbrev pub part_read : Inside → List Token → Read Part
part_read inside [] = taken all []
part_read inside (t ∷ rest) = elim (is_sign Sign.OpenBracket t.kind) [
  | true ↦ opened inside (t ∷ rest) (λ read. next (read any_level rest) (λ e after. index_end read e after))
  | false ↦ taken all (t ∷ rest)
]

abbrev pub target_read : Inside → List Token → Read Target
target_read inside tokens = next (named tokens) (λ n rest. next (part_read inside rest) (λ part behind. taken (record { place = place n.token; name = n.name; part = part }) behind))

abbrev pub leaf_by : Inside → Token → List Token → TokenKind → Read Expr
leaf_by inside t rest (TokenKind.Number v) = taken (expr (place t) (place t) (number v)) rest
leaf_by inside t rest (TokenKind.Name name) = next (target_read inside (t ∷ rest)) (λ target behind. taken (target_expr target) behind)
leaf_by inside t rest (TokenKind.Key key) = wrong (t ∷ rest)
leaf_by inside t rest (TokenKind.Sign sign) = elim (sameb sign_type.the_type sign Sign.OpenParen) [
  | true ↦ opened inside (t ∷ rest) (λ read. next (read any_level rest) (λ e after. next (expected (is_sign Sign.CloseParen) after) (λ closing behind. taken (begun_at (place t) e) behind)))
  | false ↦ elim (sameb sign_type.the_type sign Sign.OpenBracket) [
    | true ↦ opened inside (t ∷ rest) (λ read. next (list_read read rest) (λ es after. next (expected (is_sign Sign.CloseBracket) after) (λ closing behind. taken (expr (place t) (place t) (items es)) behind)))
    | false ↦ wrong (t ∷ rest)
  ]
]

abbrev pub leaf : Inside → List Token → Read Expr
leaf inside [] = wrong []
leaf inside (t ∷ rest) = leaf_by inside t rest t.kind

-- An operator of a level, with its token and its right side. A token may be both, as `-`: which one it is tells its place.
pub record Operation : Type 0 where
  pub token : Token
  pub op : Binary
  pub right : Expr

abbrev pub at_level : {A : Type 0} → (A → ℕ) → ℕ → Option A → Option A
at_level of level None = None
at_level of level (Some op) = elim (nat_eq (of op) level) [ true ↦ Some op | false ↦ None ]

abbrev pub infix_at : ℕ → TokenKind → Option Binary
infix_at level kind = at_level level_of level (operator kind)

abbrev pub prefix_at : ℕ → TokenKind → Option Unary
prefix_at level kind = at_level prefix_level level (prefix_operator kind)

abbrev pub is_there : {A : Type 0} → Option A → Bool
is_there None = false
is_there (Some a) = true

abbrev pub goes_on : ℕ → TokenKind → Bool
goes_on level kind = is_there (infix_at level kind)

abbrev pub operation_by : (List Token → Read Expr) → Token → List Token → Option Binary → Read Operation
operation_by tighter t rest None = wrong (t ∷ rest)
operation_by tighter t rest (Some op) = next (tighter rest) (λ r behind. taken (record { token = t; op = op; right = r }) behind)

abbrev pub operation : ℕ → (List Token → Read Expr) → List Token → Read Operation
operation level tighter [] = wrong []
operation level tighter (t ∷ rest) = operation_by tighter t rest (infix_at level t.kind)

-- the operations of a level, grouped to the left
abbrev pub grouped : Expr → List Operation → Expr
grouped l [] = l
grouped l (o ∷ others) = grouped (expr (first_of l) (place o.token) (two o.op l o.right)) others

-- operations behind their first operand
abbrev pub operations : ℕ → (List Token → Read Expr) → Expr → List Token → Read Expr
operations level tighter l tokens = next (all_of (goes_on level) (operation level tighter) tokens) (λ others behind. taken (grouped l others) behind)

-- an expression without a prefix operator of its level in front
abbrev pub unprefixed : ℕ → (List Token → Read Expr) → List Token → Read Expr
unprefixed level tighter tokens = next (tighter tokens) (λ l after. operations level tighter l after)

abbrev pub prefixed_by : Inside → ℕ → (List Token → Read Expr) → Token → List Token → Option Unary → Read Expr
prefixed_by inside level tighter t rest None = unprefixed level tighter (t ∷ rest)
prefixed_by inside level tighter t rest (Some op) = opened inside (t ∷ rest) (λ read. next (read level rest) (λ e behind. taken (expr (place t) (place t) (one op e)) behind))

abbrev pub prefixed : Inside → ℕ → (List Token → Read Expr) → List Token → Read Expr
prefixed inside level tighter [] = unprefixed level tighter []
prefixed inside level tighter (t ∷ rest) = prefixed_by inside level tighter t rest (prefix_at level t.kind)

abbrev pub level_read : Inside → ℕ → List Token → Read Expr
level_read inside zero tokens = leaf inside tokens
level_read inside (suc tighter) tokens = prefixed inside (suc tighter) (level_read inside tighter) tokens

-- the operations of so many levels above `above` behind an expression of that level, one level after the other
abbrev pub rises : Inside → ℕ → ℕ → Expr → List Token → Read Expr
rises inside above zero l tokens = taken l tokens
rises inside above (suc more) l tokens = next (operations (suc above) (level_read inside above) l tokens) (λ e behind. rises inside (suc above) more e behind)

-- the same up to a level
abbrev pub raised : Inside → ℕ → ℕ → Expr → List Token → Read Expr
raised inside above level l tokens = rises inside above (level - above) l tokens

-- an operator of one operand, of that level, with its operand
abbrev pub operand_read : Inside → ℕ → Unary → List Token → Read Expr
operand_read inside level op [] = wrong []
operand_read inside level op (t ∷ rest) = opened inside (t ∷ rest) (λ read. next (read level rest) (λ e behind. taken (expr (place t) (place t) (one op e)) behind))

-- the reader of what the next level holds, where so many more may be opened
abbrev pub inside_of : ℕ → Inside
inside_of zero = None
inside_of (suc depth) = Some (level_read (inside_of depth))

-- an expression of a level, where so many more may be opened
abbrev pub expr_read : ℕ → ℕ → List Token → Read Expr
expr_read depth level tokens = level_read (inside_of depth) level tokens

-- Statements. What the tokens inside a block are read by; none where no more may be opened.
pub record Block : Type 0 where
  pub expr : List Token → Read Expr
  pub stmts : List Token → Read Stmts
  pub other : List Token → Read Stmts

-- the statement behind its target
abbrev pub set_by : ℕ → Target → Token → List Token → Option Binary → Option Binary → Bool → Read Stmt
set_by depth target t rest (Some op) by assigns = taken (stmt target.place.line (place t) (bump target op)) rest
set_by depth target t rest None (Some op) assigns = next (expr_read depth any_level rest) (λ e behind. taken (stmt target.place.line (place t) (change target op e)) behind)
set_by depth target t rest None None true = next (expr_read depth any_level rest) (λ e behind. taken (stmt target.place.line (place t) (assign target e)) behind)
set_by depth target t rest None None false = wrong (t ∷ rest)

abbrev pub set_end : ℕ → Target → List Token → Read Stmt
set_end depth target [] = wrong []
set_end depth target (t ∷ rest) = set_by depth target t rest (stepping t.kind) (changing t.kind) (is_sign Sign.Assign t.kind)

abbrev pub set_read : ℕ → List Token → Read Stmt
set_read depth tokens = next (target_read (inside_of depth) tokens) (λ target after. set_end depth target after)

-- a test, the word behind it and the statements of its branch
pub record Tested : Type 0 where
  pub test : Expr
  pub body : Stmts

abbrev pub tested_read : Block → Key → List Token → Read Tested
tested_read block word tokens =
    next (block.expr tokens) (λ c after. next (expected (is_key word) after) (λ do_word inner. next (block.stmts inner) (λ body behind. taken (record { test = c; body = body }) behind)))

abbrev pub if_read : Option Block → Token → List Token → Read Stmt
if_read inside t rest = opened inside (t ∷ rest) (λ block. next (tested_read block Key.Then rest) (λ branch after. next (block.other after) (λ other last.
    next (expected (is_key Key.End) last) (λ end behind. taken (stmt t.at.line (place t) (if_then branch.test branch.body other)) behind))))

abbrev pub when_read : Option Block → Token → List Token → Read Stmt
when_read inside t rest = opened inside (t ∷ rest) (λ block. next (tested_read block Key.Do rest) (λ branch last.
    next (expected (is_key Key.End) last) (λ end behind. taken (stmt t.at.line (place t) (when_do branch.test branch.body)) behind)))

abbrev pub while_read : Option Block → Token → List Token → Read Stmt
while_read inside t rest = opened inside (t ∷ rest) (λ block. next (tested_read block Key.Do rest) (λ branch last.
    next (expected (is_key Key.End) last) (λ end behind. taken (stmt t.at.line (place t) (while_do branch.test branch.body)) behind)))

abbrev pub step_read : Block → List Token → Read (Option Expr)
step_read block [] = taken None []
step_read block (t ∷ rest) = elim (is_key Key.Step t.kind) [ true ↦ next (block.expr rest) (λ e behind. taken (Some e) behind) | false ↦ taken None (t ∷ rest) ]

-- the variable of a `for` with its bounds and its step
pub record Counted : Type 0 where
  pub variable : Token
  pub head : ForHead

abbrev pub head_read : Block → List Token → Read Counted
head_read block tokens = next (named tokens) (λ n after_name. next (expected (is_key Key.In) after_name) (λ in_word first. next (block.expr first) (λ a after_first.
    next (expected (is_sign Sign.Colon) after_first) (λ colon last. next (block.expr last) (λ b after_last. next (step_read block after_last) (λ step behind.
    taken (record { variable = n.token; head = record { name = n.name; first = a; last = b; step = step } }) behind))))))

abbrev pub for_read : Option Block → Token → List Token → Read Stmt
for_read inside t rest = opened inside (t ∷ rest) (λ block. next (head_read block rest) (λ counted after. next (expected (is_key Key.Do) after) (λ do_word inner.
    next (block.stmts inner) (λ body last. next (expected (is_key Key.End) last) (λ end behind. taken (stmt t.at.line (place counted.variable) (for_do counted.head body)) behind)))))

abbrev pub argument_read : ℕ → Bool → List Token → Read (Option Expr)
argument_read depth false tokens = taken None tokens
argument_read depth true tokens = next (expr_read depth any_level tokens) (λ e behind. taken (Some e) behind)

abbrev pub emit_read : Project → ℕ → Token → List Token → Read Stmt
emit_read project depth t rest = next (named rest) (λ n after. next (argument_read depth (takes_argument project n.name) after) (λ argument behind.
    taken (stmt t.at.line (place n.token) (emit n.name argument)) behind))

abbrev pub callsub_read : Token → List Token → Read Stmt
callsub_read t rest = next (named rest) (λ n behind. taken (stmt t.at.line (place n.token) (callsub n.name)) behind)

-- the arguments of a call up to its closing parenthesis
abbrev pub arguments_read : (ℕ → List Token → Read Expr) → List Token → Read Exprs
arguments_read read [] = wrong []
arguments_read read (t ∷ rest) = elim (is_sign Sign.CloseParen t.kind) [
  | true ↦ taken (exprs_of []) rest
  | false ↦ next (list_read read (t ∷ rest)) (λ es after. next (expected (is_sign Sign.CloseParen) after) (λ closing behind. taken es behind))
]

-- the arguments of a call with their parentheses
abbrev pub enclosed_read : Inside → List Token → Read Exprs
enclosed_read inside [] = wrong []
enclosed_read inside (t ∷ rest) = elim (is_sign Sign.OpenParen t.kind) [ true ↦ opened inside (t ∷ rest) (λ read. arguments_read read rest) | false ↦ wrong (t ∷ rest) ]

abbrev pub call_read : Inside → Token → List Token → Read Stmt
call_read inside t rest = next (named rest) (λ n after. next (enclosed_read inside after) (λ es behind. taken (stmt t.at.line (place n.token) (call n.name es)) behind))

-- whether a token begins a statement
abbrev pub begins_stmt : TokenKind → Bool
begins_stmt (TokenKind.Name name) = true
begins_stmt (TokenKind.Key Key.If) = true
begins_stmt (TokenKind.Key Key.When) = true
begins_stmt (TokenKind.Key Key.While) = true
begins_stmt (TokenKind.Key Key.For) = true
begins_stmt (TokenKind.Key Key.Emit) = true
begins_stmt (TokenKind.Key Key.CallSub) = true
begins_stmt (TokenKind.Key Key.Call) = true
begins_stmt (TokenKind.Key Key.Return) = true
begins_stmt _ = false

abbrev pub stmt_by : Project → ℕ → Option Block → Token → List Token → TokenKind → Read Stmt
stmt_by project depth inside t rest (TokenKind.Name name) = set_read depth (t ∷ rest)
stmt_by project depth inside t rest (TokenKind.Key Key.If) = if_read inside t rest
stmt_by project depth inside t rest (TokenKind.Key Key.When) = when_read inside t rest
stmt_by project depth inside t rest (TokenKind.Key Key.While) = while_read inside t rest
stmt_by project depth inside t rest (TokenKind.Key Key.For) = for_read inside t rest
stmt_by project depth inside t rest (TokenKind.Key Key.Emit) = emit_read project depth t rest
stmt_by project depth inside t rest (TokenKind.Key Key.CallSub) = callsub_read t rest
stmt_by project depth inside t rest (TokenKind.Key Key.Call) = call_read (inside_of depth) t rest
stmt_by project depth inside t rest (TokenKind.Key Key.Return) = taken (stmt t.at.line (place t) return) rest
stmt_by project depth inside t rest _ = wrong (t ∷ rest)

abbrev pub stmt_read : Project → ℕ → Option Block → List Token → Read Stmt
stmt_read project depth inside [] = wrong []
stmt_read project depth inside (t ∷ rest) = stmt_by project depth inside t rest t.kind

abbrev pub stmts_read : Project → ℕ → Option Block → List Token → Read Stmts
stmts_read project depth inside tokens = next (all_of begins_stmt (stmt_read project depth inside) tokens) (λ ss behind. taken (stmts_of ss) behind)

-- what stands between the first branch of an `if` and its `end`
abbrev pub elseif_read : Option Block → Token → List Token → Read Stmts
elseif_read inside t rest = opened inside (t ∷ rest) (λ block. next (tested_read block Key.Then rest) (λ branch after. next (block.other after) (λ more behind.
    taken (stmts_of (stmt t.at.line (place t) (if_then branch.test branch.body more) ∷ [])) behind)))

abbrev pub other_by : Project → ℕ → Option Block → Token → List Token → Bool → Bool → Read Stmts
other_by project depth inside t rest true by = stmts_read project depth inside rest
other_by project depth inside t rest false true = elseif_read inside t rest
other_by project depth inside t rest false false = taken no_stmts (t ∷ rest)

abbrev pub other_read : Project → ℕ → Option Block → List Token → Read Stmts
other_read project depth inside [] = taken no_stmts []
other_read project depth inside (t ∷ rest) = other_by project depth inside t rest (is_key Key.Else t.kind) (is_key Key.ElseIf t.kind)

-- the reader of what a block holds, where so many more levels may be opened
abbrev pub block_of : Project → ℕ → Option Block
block_of project zero = None
block_of project (suc depth) = Some (record {
  expr = expr_read depth any_level;
  stmts = stmts_read project depth (block_of project depth);
  other = other_read project depth (block_of project depth);
})

-- Declarations
abbrev pub size_read : ℕ → List Token → Read (Option Expr)
size_read depth [] = taken None []
size_read depth (t ∷ rest) = elim (is_sign Sign.OpenBracket t.kind) [
  | true ↦ opened (inside_of depth) (t ∷ rest) (λ read. next (read any_level rest) (λ e after. next (expected (is_sign Sign.CloseBracket) after) (λ closing behind. taken (Some e) behind)))
  | false ↦ taken None (t ∷ rest)
]

-- the value of a declaration with the place of its sign, or with its name's where there is none
pub record Given : Type 0 where
  pub equals : Place
  pub value : Option Expr

abbrev pub value_read : ℕ → Place → List Token → Read Given
value_read depth named_at [] = taken (record { equals = named_at; value = None }) []
value_read depth named_at (t ∷ rest) = elim (is_sign Sign.Assign t.kind) [
  | true ↦ next (expr_read depth any_level rest) (λ e behind. taken (record { equals = place t; value = Some e }) behind)
  | false ↦ taken (record { equals = named_at; value = None }) (t ∷ rest)
]

abbrev pub decl_read : ℕ → List Token → Read Decl
decl_read depth tokens = next (expected (is_key Key.Var) tokens) (λ word after_word. next (named after_word) (λ n after_name. next (size_read depth after_name) (λ size after.
    next (value_read depth (place n.token) after) (λ given behind.
    taken (record { line = word.at.line; place = place n.token; name = n.name; size = size; equals = given.equals; value = given.value }) behind))))

-- Handlers and subroutines
abbrev pub begins_part : TokenKind → Bool
begins_part (TokenKind.Key Key.OnEvent) = true
begins_part (TokenKind.Key Key.Sub) = true
begins_part _ = false

abbrev pub part_of : Project → ℕ → List Token → Read Handler
part_of project depth [] = wrong []
part_of project depth (t ∷ rest) = next (named rest) (λ n after. next (stmts_read project depth (block_of project depth) after) (λ body behind.
    taken (record { line = t.at.line; place = place n.token; is_sub = is_key Key.Sub t.kind; name = n.name; body = body }) behind))

-- nothing more
abbrev pub the_end : Source → List Token → Read Source
the_end source [] = taken source []
the_end source (t ∷ rest) = wrong (t ∷ rest)

-- a whole program, where so many levels may be opened
abbrev pub program_read : Project → ℕ → List Token → Read Source
program_read project depth tokens = next (all_of (is_key Key.Var) (decl_read depth) tokens) (λ ds after_vars. next (stmts_read project depth (block_of project depth) after_vars) (λ init after_init.
    next (all_of begins_part (part_of project depth) after_init) (λ hs behind. the_end (record { vars = ds; init = init; parts = hs }) behind)))
