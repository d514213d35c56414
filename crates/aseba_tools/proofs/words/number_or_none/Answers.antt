use Rattle.std.proofs.Common.{◌∙◌, ap}
use Rattle.std.specs.Prelude.{option_and_then}
use Rattle.std.specs.Str.Parse.{ExplainsUnsignedError, HasUnsignedDigitsIfOk, ParsesUnsigned}
use Rattle.clap.specs.Words.{found_of, one_text}
use Rattle.clap.proofs.WalkLemmas.{one_text-rows}
use Rattle.aseba_tools.specs.Words.{number_in}
use Rattle.aseba_tools.proofs.WordsFound.{read_number}
use Rattle.aseba_tools.proofs.words.number_or_none.Goals as goal

pub returns : goal.returns
returns c =
    read_number _ (λ bs r. ParsesUnsigned 32 10 bs r × ExplainsUnsignedError 10 bs r × HasUnsignedDigitsIfOk bs r) (λ u x g. g.0)
    (one_text (found_of c.args.matches.now) c.args.name.now) c.get_one.result c.get_one.ensures.none c.get_one.ensures.value
    ∙ ap (option_and_then number_in) (one_text-rows (found_of c.args.matches.now) c.args.name.now)
