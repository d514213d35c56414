use Rattle.std.proofs.Common.{sym, subst, rules}
use Rattle.aseba_words.specs.Cell.{IsWrapOf}
use Rattle.aseba_words.proofs.Wrapping.{wrapped-is}
use Rattle.aseba_words.proofs.arithmetic.wrap.Goals as goal

pub returns-clause-multiple : goal.returns-clause-multiple
returns-clause-multiple c = subst (IsWrapOf c.args.value) (sym (search rules)) (wrapped-is c.args.value)
