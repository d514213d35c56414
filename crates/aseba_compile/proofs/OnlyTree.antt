-- A text spells one tree.
use Rattle.std.proofs.Common.{◌≡◌, sym, ◌∙◌, subst, ℕ, List, Result, Ok, Err}
use Rattle.std.specs.Prelude.{IfErr, IsErrAnd}
use Rattle.aseba_compile.specs.declared.refusal.Refusal.{Refusal}
use Rattle.aseba_tree.specs.declared.pos.Pos.{Pos}
use Rattle.aseba_tree.specs.declared.token.Token.{Token}
use Rattle.aseba_tree.specs.Code.{Source, Project}
use Rattle.aseba_tree.specs.Tokens.{Tokens, behind, first_place}
use Rattle.aseba_tree.specs.Spells.{Spells}
use Rattle.aseba_lexer.specs.Lexed as lexer
use Rattle.aseba_parser.specs.Parsed as parser
use Rattle.aseba_parser.specs.declared.error.SyntaxError.{SyntaxError}
use Rattle.aseba_parser.specs.declared.error.SyntaxError.TheVariants as syntax
use Rattle.aseba_compile.specs.Reading.{Reads, IsOnlyTree, IsTextRefused, syntax_refusal}

pub only_tree : (project : Project) (text : List ℕ) (tokens slice : List Token) (end : Pos) (source : Source) → slice ≡ tokens → Tokens text tokens → lexer.IsDecided text
    → parser.IsTreeOf project slice source → parser.IsDecided project slice end → IsOnlyTree project text source
only_tree project text tokens slice end source e lexed cut tree decided = record {
  reads = record { tokens = tokens; lexed = lexed; spelled = subst (λ (ts : List Token). Spells project source ts) e tree.spelled };
  well = subst (λ (ts : List Token). parser.IsNestedWell project ts) e tree.well;
  only = λ (other : Source) (r : Reads project text other).
      let same : r.tokens ≡ slice = cut.one_list r.tokens tokens r.lexed lexed ∙ sym e in
      decided.one_tree other source (subst (λ (ts : List Token). Spells project other ts) same r.spelled) tree.spelled;
}

-- an error tells a refusal
pub syntax-refused : (project : Project) (text : List ℕ) (tokens slice : List Token) (end : Pos) (error : SyntaxError) → slice ≡ tokens → Tokens text tokens → end ≡ behind first_place text
    → parser.TellsFault project slice end error → IsTextRefused project text (syntax_refusal error)
syntax-refused project text tokens slice end error e lexed f told =
    pick error (subst (λ (p : Pos). parser.TellsFault project tokens p error) f (subst (λ (ts : List Token). parser.TellsFault project ts end error) e told))
  where
    pick : (error : SyntaxError) → parser.TellsFault project tokens (behind first_place text) error → IsTextRefused project text (syntax_refusal error)
    pick (syntax.Syntax at) h = record { tokens = tokens; lexed = lexed; fault = h }
    pick (syntax.TooDeep at) h = record { tokens = tokens; lexed = lexed; fault = h }
    pick syntax.Mem h = tt

-- what holds of a refusal holds of the answer that has it
pub of_refusal : {T : Type 0} (r : Result T Refusal) (P : Refusal → Type 0) (refusal : Refusal) → IsErrAnd r (λ e. e ≡ refusal) → P refusal → IfErr r P
of_refusal (Ok x) P refusal e h = tt
of_refusal (Err y) P refusal e h = subst P (sym e) h
