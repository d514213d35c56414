-- Tokens and the trees that they spell, by hand.
use Rattle.std.specs.Prelude.{◌≡◌, refl, ℕ, pos, List, [], ◌∷◌, map, codes, Some, None}
use Rattle.aseba_words.specs.declared.operators.Unary.{Unary}
use Rattle.aseba_words.specs.declared.operators.Unary.TheVariants.{Minus, Abs, BitNot, Not}
use Rattle.aseba_words.specs.declared.operators.Binary.{Binary}
use Rattle.aseba_words.specs.declared.operators.Binary.TheVariants.{Shl, Shr, Add, Sub, Mul, Div, Rem, BitOr, BitXor, BitAnd, Equal, Differ, Above, AtLeast, Below, AtMost, Or, And}
use Rattle.aseba_tree.specs.declared.token.Token.{Token}
use Rattle.aseba_tree.specs.declared.token.TokenKind.{TokenKind}
use Rattle.aseba_tree.specs.declared.token.Key.{Key}
use Rattle.aseba_tree.specs.declared.token.Sign.{Sign}
use Rattle.aseba_tree.specs.Code.{Name, Place, Expr, expr, number, whole, index, one, two, all, at, Stmts, no_stmts, stmts, stmt, assign, if_then, emit, return, Source, Project}
use Rattle.aseba_tree.specs.Spells.{operator, prefix_operator, changing, stepping, SpellsExpr, a_number, a_target, in_parentheses, a_prefix, an_operation, a_tighter, all_cells, one_cell, no_argument, SpellsStmts, nothing, an_assignment, an_if, an_emit, a_return, an_else, an_elseif, no_decls, no_parts, Spells}
use Rattle.aseba_tree.specs.Nest.{stmts_nests, nests}

abbrev token : ℕ → ℕ → TokenKind → Token
token line col kind = record { at = record { line = line; col = col }; kind = kind }

abbrev name : ℕ → ℕ → Name → Token
name line col bytes = token line col (TokenKind.Name bytes)

abbrev sign : ℕ → ℕ → Sign → Token
sign line col s = token line col (TokenKind.Sign s)

abbrev key : ℕ → ℕ → Key → Token
key line col k = token line col (TokenKind.Key k)

abbrev p : ℕ → ℕ → Place
p line column = record { line = line; column = column }

abbrev project : Project
project = record {
  node = record { name = codes "sim"; code = 2048; stack = 64; cells = 1024; variables = []; locals = []; natives = [] };
  id = 1;
  events = record { name = codes "ping"; size = 0 } ∷ record { name = codes "pair"; size = 2 } ∷ [];
  consts = [];
}

-- `a = -b[1] + (c)`: the prefix binds its index tighter than the sum, and the parentheses are in no tree but for the place of the first token
sum_tokens : List Token
sum_tokens =
    name 1 1 (codes "a") ∷ sign 1 3 Sign.Assign ∷ sign 1 5 Sign.Minus ∷ name 1 6 (codes "b") ∷ sign 1 7 Sign.OpenBracket ∷ token 1 8 (TokenKind.Number (pos 1)) ∷ sign 1 9 Sign.CloseBracket
    ∷ sign 1 11 Sign.Plus ∷ sign 1 13 Sign.OpenParen ∷ name 1 14 (codes "c") ∷ sign 1 15 Sign.CloseParen ∷ []

abbrev indexed : Expr
indexed = expr (p 1 6) (p 1 6) (index (codes "b") (expr (p 1 8) (p 1 8) (number (pos 1))))

sum_tree : Source
sum_tree = record {
  vars = [];
  init = stmts (stmt 1 (p 1 3) (assign (record { place = p 1 1; name = codes "a"; part = all })
      (expr (p 1 5) (p 1 11) (two Binary.Add (expr (p 1 5) (p 1 5) (one Unary.Minus indexed)) (expr (p 1 13) (p 1 14) (whole (codes "c"))))))) no_stmts;
  parts = [];
}

one_is_spelled : SpellsExpr 11 (token 1 8 (TokenKind.Number (pos 1)) ∷ []) (expr (p 1 8) (p 1 8) (number (pos 1)))
one_is_spelled = a_tighter 10 refl (a_tighter 9 refl (a_tighter 8 refl (a_tighter 7 refl (a_tighter 6 refl (a_tighter 5 refl (a_tighter 4 refl (a_tighter 3 refl (a_tighter 2 refl (a_tighter 1 refl (a_tighter 0 refl
    (a_number (token 1 8 (TokenKind.Number (pos 1))) (pos 1) refl refl refl refl)))))))))))

c_is_spelled : SpellsExpr 11 (name 1 14 (codes "c") ∷ []) (expr (p 1 14) (p 1 14) (whole (codes "c")))
c_is_spelled = a_tighter 10 refl (a_tighter 9 refl (a_tighter 8 refl (a_tighter 7 refl (a_tighter 6 refl (a_tighter 5 refl (a_tighter 4 refl (a_tighter 3 refl (a_tighter 2 refl (a_tighter 1 refl (a_tighter 0 refl
    (a_target (record { place = p 1 14; name = codes "c"; part = all }) refl refl (all_cells (name 1 14 (codes "c")) (codes "c") refl refl refl))))))))))))

sum_is_spelled : Spells project sum_tree sum_tokens
unfolding sum_tokens sum_tree
sum_is_spelled = record {
  decl_tokens = [];
  init_tokens = sum_tokens;
  part_tokens = [];
  in_order = refl;
  decls = no_decls refl refl;
  init = an_assignment (name 1 1 (codes "a") ∷ []) _ [] (sign 1 3 Sign.Assign) (record { place = p 1 1; name = codes "a"; part = all }) _ no_stmts refl refl refl
      (all_cells (name 1 1 (codes "a")) (codes "a") refl refl refl)
      (a_tighter 10 refl (a_tighter 9 refl (a_tighter 8 refl (a_tighter 7 refl (a_tighter 6 refl (a_tighter 5 refl (a_tighter 4 refl (a_tighter 3 refl
      (an_operation (sign 1 5 Sign.Minus ∷ name 1 6 (codes "b") ∷ sign 1 7 Sign.OpenBracket ∷ token 1 8 (TokenKind.Number (pos 1)) ∷ sign 1 9 Sign.CloseBracket ∷ [])
      (sign 1 13 Sign.OpenParen ∷ name 1 14 (codes "c") ∷ sign 1 15 Sign.CloseParen ∷ []) (sign 1 11 Sign.Plus) Binary.Add 2 (expr (p 1 5) (p 1 5) (one Unary.Minus indexed)) (expr (p 1 13) (p 1 14) (whole (codes "c")))
      refl refl refl refl refl
      (a_tighter 2 refl (a_tighter 1 refl (a_prefix (sign 1 5 Sign.Minus) Unary.Minus _ indexed refl refl refl refl
      (a_tighter 0 refl (a_target (record { place = p 1 6; name = codes "b"; part = at (expr (p 1 8) (p 1 8) (number (pos 1))) }) refl refl
      (one_cell (name 1 6 (codes "b")) (sign 1 7 Sign.OpenBracket) (sign 1 9 Sign.CloseBracket) (codes "b") (token 1 8 (TokenKind.Number (pos 1)) ∷ []) (expr (p 1 8) (p 1 8) (number (pos 1))) refl refl refl refl refl
      one_is_spelled))))))
      (a_tighter 1 refl (a_tighter 0 refl (in_parentheses (sign 1 13 Sign.OpenParen) (sign 1 15 Sign.CloseParen) (name 1 14 (codes "c") ∷ []) (expr (p 1 14) (p 1 14) (whole (codes "c"))) refl refl refl refl refl
      c_is_spelled))))))))))))
      (nothing refl refl);
  parts = no_parts refl refl;
}

-- the operand of the prefix is one level deep, its index two
sum_nests : nests sum_is_spelled ≡ 0 ∷ 0 ∷ 1 ∷ 1 ∷ 2 ∷ 2 ∷ 2 ∷ 0 ∷ 1 ∷ 1 ∷ 1 ∷ []
unfolding sum_is_spelled one_is_spelled c_is_spelled
sum_nests = refl

-- each sign and word is its operator, and no other one
operators : map operator (TokenKind.Sign Sign.Star ∷ TokenKind.Sign Sign.Slash ∷ TokenKind.Sign Sign.Percent ∷ TokenKind.Sign Sign.Plus ∷ TokenKind.Sign Sign.Minus ∷ TokenKind.Sign Sign.ShiftLeft ∷ TokenKind.Sign Sign.ShiftRight
    ∷ TokenKind.Sign Sign.Ampersand ∷ TokenKind.Sign Sign.Caret ∷ TokenKind.Sign Sign.Bar ∷ TokenKind.Sign Sign.EqualEqual ∷ TokenKind.Sign Sign.NotEqual ∷ TokenKind.Sign Sign.Less ∷ TokenKind.Sign Sign.LessEqual
    ∷ TokenKind.Sign Sign.Greater ∷ TokenKind.Sign Sign.GreaterEqual ∷ TokenKind.Key Key.And ∷ TokenKind.Key Key.Or ∷ TokenKind.Key Key.Not ∷ TokenKind.Sign Sign.Assign ∷ [])
    ≡ Some Mul ∷ Some Div ∷ Some Rem ∷ Some Add ∷ Some Sub ∷ Some Shl ∷ Some Shr ∷ Some BitAnd ∷ Some BitXor ∷ Some BitOr ∷ Some Equal ∷ Some Differ ∷ Some Below ∷ Some AtMost ∷ Some Above ∷ Some AtLeast ∷ Some And ∷ Some Or ∷ None ∷ None ∷ []
operators = refl

prefix_operators : map prefix_operator (TokenKind.Sign Sign.Minus ∷ TokenKind.Sign Sign.Tilde ∷ TokenKind.Key Key.Abs ∷ TokenKind.Key Key.Not ∷ TokenKind.Sign Sign.Plus ∷ [])
    ≡ Some Minus ∷ Some BitNot ∷ Some Abs ∷ Some Not ∷ None ∷ []
prefix_operators = refl

changing_signs : map changing (TokenKind.Sign Sign.PlusAssign ∷ TokenKind.Sign Sign.MinusAssign ∷ TokenKind.Sign Sign.StarAssign ∷ TokenKind.Sign Sign.SlashAssign ∷ TokenKind.Sign Sign.PercentAssign ∷ TokenKind.Sign Sign.ShiftLeftAssign
    ∷ TokenKind.Sign Sign.ShiftRightAssign ∷ TokenKind.Sign Sign.AmpersandAssign ∷ TokenKind.Sign Sign.BarAssign ∷ TokenKind.Sign Sign.CaretAssign ∷ TokenKind.Sign Sign.Assign ∷ [])
    ≡ Some Add ∷ Some Sub ∷ Some Mul ∷ Some Div ∷ Some Rem ∷ Some Shl ∷ Some Shr ∷ Some BitAnd ∷ Some BitOr ∷ Some BitXor ∷ None ∷ []
changing_signs = refl

stepping_signs : map stepping (TokenKind.Sign Sign.PlusPlus ∷ TokenKind.Sign Sign.MinusMinus ∷ TokenKind.Sign Sign.Plus ∷ []) ≡ Some Add ∷ Some Sub ∷ None ∷ []
stepping_signs = refl

-- `if c then`, `elseif c then return`, `else emit ping end`: the second test is an `if` in the else of the first, with its own line
if_tokens : List Token
if_tokens =
    key 1 1 Key.If ∷ name 1 14 (codes "c") ∷ key 1 16 Key.Then ∷ key 2 1 Key.ElseIf ∷ name 1 14 (codes "c") ∷ key 2 10 Key.Then ∷ key 3 1 Key.Return ∷ key 4 1 Key.Else ∷ key 5 1 Key.Emit ∷ name 5 6 (codes "ping") ∷ key 6 1 Key.End ∷ []

abbrev c_tree : Expr
c_tree = expr (p 1 14) (p 1 14) (whole (codes "c"))

abbrev if_tree : Stmts
if_tree = stmts (stmt 1 (p 1 1) (if_then c_tree no_stmts (stmts (stmt 2 (p 2 1) (if_then c_tree (stmts (stmt 3 (p 3 1) return) no_stmts) (stmts (stmt 5 (p 5 6) (emit (codes "ping") None)) no_stmts))) no_stmts))) no_stmts

if_is_spelled : SpellsStmts project if_tokens if_tree
unfolding if_tokens
if_is_spelled =
    an_if (key 1 1 Key.If) (key 1 16 Key.Then) (key 6 1 Key.End) (name 1 14 (codes "c") ∷ []) []
    (key 2 1 Key.ElseIf ∷ name 1 14 (codes "c") ∷ key 2 10 Key.Then ∷ key 3 1 Key.Return ∷ key 4 1 Key.Else ∷ key 5 1 Key.Emit ∷ name 5 6 (codes "ping") ∷ []) [] c_tree no_stmts _ no_stmts refl refl refl refl refl
    c_is_spelled (nothing refl refl)
    (an_elseif (key 2 1 Key.ElseIf) (key 2 10 Key.Then) (name 1 14 (codes "c") ∷ []) (key 3 1 Key.Return ∷ []) (key 4 1 Key.Else ∷ key 5 1 Key.Emit ∷ name 5 6 (codes "ping") ∷ []) c_tree _ _ refl refl refl refl
    c_is_spelled
    (a_return (key 3 1 Key.Return) [] no_stmts refl refl refl (nothing refl refl))
    (an_else (key 4 1 Key.Else) (key 5 1 Key.Emit ∷ name 5 6 (codes "ping") ∷ []) refl refl
    (an_emit (key 5 1 Key.Emit) (name 5 6 (codes "ping")) [] [] (codes "ping") None no_stmts refl refl refl refl (no_argument refl refl refl) (nothing refl refl))))
    (nothing refl refl)

-- the tokens from the `elseif` on are two levels deep, up to the `end`
if_nests : stmts_nests if_is_spelled ≡ 1 ∷ 1 ∷ 1 ∷ 2 ∷ 2 ∷ 2 ∷ 2 ∷ 2 ∷ 2 ∷ 2 ∷ 1 ∷ []
unfolding if_is_spelled c_is_spelled
if_nests = refl
