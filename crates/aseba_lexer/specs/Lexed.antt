-- A text has one list of tokens, or one first place where nothing begins.
use Rattle.std.specs.Prelude.{◌≡◌, ◌⊎◌, ℕ, List}
use Rattle.aseba_tree.specs.declared.pos.Pos.{Pos}
use Rattle.aseba_tree.specs.declared.token.Token.{Token}
use Rattle.aseba_tree.specs.Tokens.{Tokens, LexFault, LexFaultAt, bad_byte, bad_number, open_comment}
use Rattle.aseba_lexer.specs.declared.error.LexError.{LexError}
use Rattle.aseba_lexer.specs.declared.error.LexError.TheVariants as Error

-- the error tells of the text's fault; want of memory tells nothing of it
abbrev pub TellsFault : List ℕ → LexError → Type 0
TellsFault text (Error.BadByte at) = LexFaultAt text bad_byte at
TellsFault text (Error.BadNumber at) = LexFaultAt text bad_number at
TellsFault text (Error.OpenComment at) = LexFaultAt text open_comment at
TellsFault text Error.Mem = Unit {0}

pub record IsDecided (text : List ℕ) : Type 0 where
  pub some : ((tokens : List Token) × Tokens text tokens) ⊎ ((fault : LexFault) × (at : Pos) × LexFaultAt text fault at)
  pub one_list : (tokens others : List Token) → Tokens text tokens → Tokens text others → tokens ≡ others
  pub one_fault : (fault other : LexFault) (at place : Pos) → LexFaultAt text fault at → LexFaultAt text other place → (fault ≡ other) × (at ≡ place)
  pub never_both : (tokens : List Token) (fault : LexFault) (at : Pos) → Tokens text tokens → LexFaultAt text fault at → ⊥
