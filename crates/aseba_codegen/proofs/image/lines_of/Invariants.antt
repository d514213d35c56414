-- What was done and what is left to do are all.
use Rattle.std.proofs.Common.{◌≡◌, map, ◌++◌, drop}
use Rattle.aseba_codegen.proofs.image.lines_of.Given as goal

abbrev pub invariant-loop-coded : goal.invariant-loop-coded
invariant-loop-coded l = l.lines ++ map (λ coded. coded.line) (drop l.coded-index l.code) ≡ map (λ coded. coded.line) l.code
