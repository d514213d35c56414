use Rattle.aseba_tree.proofs.SpellLaws.{nests_are_all}
use Rattle.aseba_tree.proofs.spell_laws.each_token_has_nest.Goals as goal

pub returns : goal.returns
returns c = λ project source tokens d. nests_are_all d
