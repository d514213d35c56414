-- What was done and what is left to do are all.
use Rattle.std.proofs.Common.{◌≡◌, map, ◌++◌, drop}
use Rattle.aseba_codegen.proofs.image.words_of.Given as goal

abbrev pub invariant-loop-coded : goal.invariant-loop-coded
invariant-loop-coded l = l.words ++ map (λ coded. coded.word) (drop l.coded-index l.code) ≡ map (λ coded. coded.word) l.code
