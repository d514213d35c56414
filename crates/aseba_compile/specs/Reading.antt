-- What the reading of a text tells: its one tree, or what is wrong with it.
use Rattle.std.specs.Prelude.{◌≡◌, ℕ, List}
use Rattle.aseba_tree.specs.declared.pos.Pos.{Pos}
use Rattle.aseba_tree.specs.declared.token.Token.{Token}
use Rattle.aseba_tree.specs.Code.{Source, Project}
use Rattle.aseba_tree.specs.Tokens.{Tokens, behind, first_place}
use Rattle.aseba_tree.specs.Spells.{Spells}
use Rattle.aseba_lexer.specs.Lexed as lexer
use Rattle.aseba_lexer.specs.declared.error.LexError.{LexError}
use Rattle.aseba_lexer.specs.declared.error.LexError.TheVariants as lex
use Rattle.aseba_parser.specs.Parsed as parser
use Rattle.aseba_parser.specs.declared.error.SyntaxError.{SyntaxError}
use Rattle.aseba_parser.specs.declared.error.SyntaxError.TheVariants as syntax
use Rattle.aseba_compile.specs.declared.refusal.Refusal.{Refusal}
use Rattle.aseba_compile.specs.declared.refusal.Refusal.TheVariants.{Lex, Syntax, Mem}

-- the text is cut into tokens that spell the tree
pub record Reads (project : Project) (text : List ℕ) (source : Source) : Type 0 where
  pub tokens : List Token
  pub lexed : Tokens text tokens
  pub spelled : Spells project source tokens

-- the text spells this tree and no other, and no token of it is nested too deep
pub record IsOnlyTree (project : Project) (text : List ℕ) (source : Source) : Type 0 where
  pub reads : Reads project text source
  pub well : parser.IsNestedWell project reads.tokens
  pub only : (other : Source) → Reads project text other → other ≡ source

-- the error tells where the text is no tokens; want of memory doesn't stand here
abbrev pub IsLexFault : List ℕ → LexError → Type 0
IsLexFault text lex.Mem = ⊥
IsLexFault text error = lexer.TellsFault text error

-- the error tells where tokens leave the grammar or are nested too deep; want of memory doesn't stand here
abbrev pub IsSyntaxFault : Project → List Token → Pos → SyntaxError → Type 0
IsSyntaxFault project tokens end syntax.Mem = ⊥
IsSyntaxFault project tokens end error = parser.TellsFault project tokens end error

-- the text's tokens have a fault
pub record HasSyntaxFault (project : Project) (text : List ℕ) (error : SyntaxError) : Type 0 where
  pub tokens : List Token
  pub lexed : Tokens text tokens
  pub fault : IsSyntaxFault project tokens (behind first_place text) error

-- why a text has no tree
abbrev pub IsTextRefused : Project → List ℕ → Refusal → Type 0
IsTextRefused project text (Lex error) = IsLexFault text error
IsTextRefused project text (Syntax error) = HasSyntaxFault project text error
IsTextRefused project text Mem = Unit {0}
IsTextRefused project text refusal = ⊥

-- what a refusal tells of an error
abbrev pub lex_refusal : LexError → Refusal
lex_refusal lex.Mem = Mem
lex_refusal error = Lex error

abbrev pub syntax_refusal : SyntaxError → Refusal
syntax_refusal syntax.Mem = Mem
syntax_refusal error = Syntax error
