-- What a parse tells of the tokens: their one tree, or where they leave the grammar or are nested too deep.
use Rattle.std.specs.Prelude.{◌≡◌, ◌⊎◌, List, [], ◌∷◌}
use Rattle.aseba_tree.specs.declared.pos.Pos.{Pos}
use Rattle.aseba_tree.specs.declared.token.Token.{Token}
use Rattle.aseba_tree.specs.Code.{Source, Project}
use Rattle.aseba_tree.specs.Spells.{Spells}
use Rattle.aseba_tree.specs.Nest.{TooDeepAt, SyntaxAt}
use Rattle.aseba_parser.specs.declared.error.SyntaxError.{SyntaxError}
use Rattle.aseba_parser.specs.declared.error.SyntaxError.TheVariants as Error
use Rattle.aseba_parser.specs.declared.fault.Fault.{Fault}
use Rattle.aseba_parser.specs.declared.fault.Fault.TheVariants as fault

-- no token is nested too deep, up to the place where the tokens leave the grammar
abbrev pub IsNestedWell : Project → List Token → Type 0
IsNestedWell project tokens = (at : Pos) → TooDeepAt project tokens at → ⊥

-- the tree that the tokens spell
pub record IsTreeOf (project : Project) (tokens : List Token) (source : Source) : Type 0 where
  pub spelled : Spells project source tokens
  pub well : IsNestedWell project tokens

-- the error tells where the tokens leave the grammar, or where they are nested too deep before that; want of memory tells nothing of them
abbrev pub TellsFault : Project → List Token → Pos → SyntaxError → Type 0
TellsFault project tokens end (Error.Syntax at) = SyntaxAt project tokens end at × IsNestedWell project tokens
TellsFault project tokens end (Error.TooDeep at) = TooDeepAt project tokens at
TellsFault project tokens end Error.Mem = Unit {0}

-- Tokens have one tree, or one fault at one place.
pub record IsDecided (project : Project) (tokens : List Token) (end : Pos) : Type 0 where
  pub some : ((source : Source) × IsTreeOf project tokens source) ⊎ ((at : Pos) × SyntaxAt project tokens end at × IsNestedWell project tokens) ⊎ ((at : Pos) × TooDeepAt project tokens at)
  pub one_tree : (source other : Source) → Spells project source tokens → Spells project other tokens → source ≡ other
  pub one_syntax : (at other : Pos) → SyntaxAt project tokens end at → SyntaxAt project tokens end other → at ≡ other
  pub one_depth : (at other : Pos) → TooDeepAt project tokens at → TooDeepAt project tokens other → at ≡ other
  pub never_both : (source : Source) (at : Pos) → Spells project source tokens → SyntaxAt project tokens end at → ⊥

-- the place of the first token that is left, or the text's end
abbrev pub place_of : Pos → List Token → Pos
place_of end [] = end
place_of end (t ∷ rest) = t.at

-- the error that tells of a fault
abbrev pub error_of : Pos → Fault → SyntaxError
error_of end (fault.Syntax rest) = Error.Syntax (place_of end rest.now)
error_of end (fault.TooDeep rest) = Error.TooDeep (place_of end rest.now)
error_of end fault.Mem = Error.Mem
