-- What the calls of the parser answer, against what a parser reads.
use Rattle.std.specs.Prelude.{◌≡◌, ◌<◌, ◌≤◌, IfSome, ℕ, Bool, true, false, List, [], ◌∷◌, Option, Some, None, option_map, length, Result, Ok, Err}
use Rattle.std.specs.Borrow.{Bor}
use Rattle.aseba_tree.specs.declared.token.Token.{Token}
use Rattle.aseba_tree.specs.declared.token.TokenKind.{TokenKind}
use Rattle.aseba_tree.specs.Code.{Project}
use Rattle.aseba_parser.specs.declared.fault.Fault.{Fault}
use Rattle.aseba_parser.specs.declared.fault.Fault.TheVariants as fault
use Rattle.aseba_parser.specs.declared.tokens.Named.{Named}
use Rattle.aseba_parser.specs.declared.tokens.Opening.{Opening}
use Rattle.aseba_parser.specs.declared.operators.InfixToken.{InfixToken}
use Rattle.aseba_parser.specs.declared.operators.PrefixToken.{PrefixToken}
use Rattle.aseba_parser.specs.declared.block.Tested.{Tested}
use Rattle.aseba_parser.specs.declared.counted.Counted.{Counted}
use Rattle.aseba_parser.specs.declared.decl.Given.{Given}
use Rattle.aseba_tree.specs.View.{place_view, expr_view, stmts_view, head_view}
use Rattle.aseba_parser.specs.Reading as reading
use Rattle.aseba_parser.specs.Reading.{Read, taken, wrong, deep, Block, level_read, inside_of, block_of, expr_read, stmts_read, other_read, infix_at, goes_on}
use Rattle.aseba_tree.specs.Spells.{any_level, operator, prefix_operator, level_of, prefix_level}

-- the reading stops with that fault; want of memory tells nothing of it
abbrev pub Stops : {A : Type 0} → Read A → Fault → Type 0
Stops read (fault.Syntax rest) = read ≡ wrong rest.now
Stops read (fault.TooDeep rest) = read ≡ deep rest.now
Stops read fault.Mem = Unit {0}

-- the call answers what is read, each value by its view, with the tokens behind it
abbrev pub Answers : {T A : Type 0} → (T → A) → Read A → Result (T × Bor (List Token)) Fault → Type 0
Answers view read (Ok found) = read ≡ taken (view found.0) found.1.now
Answers view read (Err fault) = Stops read fault

-- whether the first token is of that kind
abbrev pub begins_with : (TokenKind → Bool) → List Token → Bool
begins_with fits [] = false
begins_with fits (t ∷ rest) = fits t.kind

-- the tokens behind the first, where that is of that kind
abbrev pub IsBehind : (TokenKind → Bool) → List Token → Option (Bor (List Token)) → Type 0
IsBehind fits tokens (Some rest) = (t : Token) × (tokens ≡ t ∷ rest.now) × (fits t.kind ≡ true)
IsBehind fits tokens None = begins_with fits tokens ≡ false

abbrev pub named_view : Named → reading.Named
named_view n = record { token = n.token.now; name = n.name.now }

-- how many levels may be opened inside an expression, or that none may
abbrev pub OpensExprs : ℕ → List Token → Result ℕ Fault → Type 0
OpensExprs depth tokens (Ok inside) = inside_of depth ≡ Some (level_read (inside_of inside))
OpensExprs depth tokens (Err (fault.Syntax rest)) = ⊥
OpensExprs depth tokens (Err (fault.TooDeep rest)) = (inside_of depth ≡ None) × (rest.now ≡ tokens)
OpensExprs depth tokens (Err fault.Mem) = ⊥

-- what the tokens inside a block are read by, where so many more levels may be opened
abbrev pub block_at : Project → ℕ → Block
block_at project inside = record {
  expr = expr_read inside any_level;
  stmts = stmts_read project inside (block_of project inside);
  other = other_read project inside (block_of project inside);
}

-- the same of a block
abbrev pub OpensBlocks : Project → ℕ → List Token → Result ℕ Fault → Type 0
OpensBlocks project depth tokens (Ok inside) = block_of project depth ≡ Some (block_at project inside)
OpensBlocks project depth tokens (Err (fault.Syntax rest)) = ⊥
OpensBlocks project depth tokens (Err (fault.TooDeep rest)) = (block_of project depth ≡ None) × (rest.now ≡ tokens)
OpensBlocks project depth tokens (Err fault.Mem) = ⊥

-- a reading that has its first token apart
abbrev pub fronted : {A : Type 0} → (Token → List Token → Read A) → List Token → Read A
fronted read [] = wrong []
fronted read (t ∷ rest) = read t rest

-- the first token with those behind it
abbrev pub IsFirst : List Token → Result (Bor Token × Bor (List Token)) Fault → Type 0
IsFirst tokens (Ok found) = tokens ≡ found.0.now ∷ found.1.now
IsFirst tokens (Err (fault.Syntax rest)) = (tokens ≡ []) × (rest.now ≡ [])
IsFirst tokens (Err (fault.TooDeep rest)) = ⊥
IsFirst tokens (Err fault.Mem) = ⊥

-- the word that opens a block, where one more may be opened; else that none may, or that there is no word
abbrev pub Enters : Project → ℕ → List Token → Result Opening Fault → Type 0
Enters project depth tokens (Ok opening) = (tokens ≡ opening.word.now ∷ opening.rest.now) × (block_of project depth ≡ Some (block_at project opening.inside))
Enters project depth tokens (Err (fault.Syntax rest)) = (tokens ≡ []) × (rest.now ≡ [])
Enters project depth tokens (Err (fault.TooDeep rest)) = (block_of project depth ≡ None) × (rest.now ≡ tokens) × (length tokens ≡ 0 → ⊥)
Enters project depth tokens (Err fault.Mem) = ⊥

abbrev pub tested_view : Tested → reading.Tested
tested_view tested = record { test = expr_view tested.test; body = stmts_view tested.body }

abbrev pub counted_view : Counted → reading.Counted
counted_view counted = record { variable = counted.variable.now; head = head_view counted.head }

abbrev pub given_view : Given → reading.Given
given_view given = record { equals = place_view given.equals; value = option_map expr_view given.value }

-- the operator of a level at the front, with its token and what is behind it
abbrev pub IsInfix : ℕ → List Token → Option InfixToken → Type 0
IsInfix level tokens (Some found) = (tokens ≡ found.token.now ∷ found.rest.now) × (infix_at level found.token.now.kind ≡ Some found.op)
IsInfix level tokens None = begins_with (goes_on level) tokens ≡ false

-- the level of the operator of one operand at the front
abbrev pub prefix_in_front : List Token → Option ℕ
prefix_in_front [] = None
prefix_in_front (t ∷ rest) = option_map prefix_level (prefix_operator t.kind)

-- the operator of one operand at the front, of that level or a tighter one; or that one at the front is looser
abbrev pub IsPrefix : ℕ → List Token → Option PrefixToken → Type 0
IsPrefix level tokens (Some found) =
    (tokens ≡ found.token.now ∷ found.rest.now) × (prefix_operator found.token.now.kind ≡ Some found.op) × (prefix_level found.op ≡ found.level) × (found.level ≤ level)
IsPrefix level tokens None = IfSome (prefix_in_front tokens) (λ own. level < own)

-- the level of the operator of two operands at the front
abbrev pub infix_in_front : List Token → Option ℕ
infix_in_front [] = None
infix_in_front (t ∷ rest) = option_map level_of (operator t.kind)

-- that level, if it is above the one and not above the other; or that it isn't
abbrev pub IsInfixLevel : ℕ → ℕ → List Token → Option ℕ → Type 0
IsInfixLevel above level tokens (Some own) = (infix_in_front tokens ≡ Some own) × (above < own) × (own ≤ level)
IsInfixLevel above level tokens None = IfSome (infix_in_front tokens) (λ own. above < own → level < own)
