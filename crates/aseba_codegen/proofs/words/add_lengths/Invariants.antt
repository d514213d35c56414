-- What was added and what is left to add are all.
use Rattle.std.proofs.Common.{◌≡◌, pos, flat_map, ◌++◌, drop}
use Rattle.aseba_codegen.specs.Words.{number_code}
use Rattle.aseba_codegen.proofs.words.add_lengths.Given as goal

abbrev pub invariant-loop-length : goal.invariant-loop-length
invariant-loop-length l =
    l.words ++ flat_map (λ n. number_code (pos n)) (drop l.length-index l.lengths) ≡ l.initial.words ++ flat_map (λ n. number_code (pos n)) l.lengths
