use Rattle.std.proofs.Common.{◌≡◌, ℤ, pos, Option, Some, sym, ap, rules}
use Rattle.std.specs.Option.{option_map}
use Rattle.aseba_words.specs.Cell.{wrapped}
use Rattle.aseba_tree.specs.Tokens.{number_value}
use Rattle.aseba_tree.specs.declared.token.TokenKind.{TokenKind}
use Rattle.aseba_lexer.proofs.NumberValue.{number-known, number-unknown}
use Rattle.aseba_lexer.proofs.words.number_kind.Goals as goal

pub returns-in-Some : goal.returns-in-Some
returns-in-Some c =
    let known : number_value c.args.word.now ≡ Some (wrapped (pos c.in-Some.value)) = number-known c.args.word.now c.in-Some.value (sym c.in-Some.ensures) in
    rw known (search rules)

pub returns-in-None : goal.returns-in-None
returns-in-None c = sym (ap (λ (o : Option ℤ). option_map TokenKind.Number o) (number-unknown c.args.word.now (sym c.in-None.ensures)))
