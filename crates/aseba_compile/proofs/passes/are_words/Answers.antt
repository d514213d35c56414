use Rattle.std.proofs.Common.{ℕ, ◌<◌, arith}
use Rattle.std.proofs.lemmas.List.Elements.{All-from_get_or}
use Rattle.aseba_compile.proofs.passes.are_words.Goals as goal

pub returns : goal.returns
returns c = All-from_get_or (λ (word : ℕ). word < 65536) c.args.words.now 0 (λ i below. let h = c.type_inv.words i in omega (arith, h))
