use Rattle.std.proofs.Common.{◌≡◌, ◌++◌, take}
use Rattle.aseba_dump.specs.Field.{signed_words}
use Rattle.aseba_dump.proofs.fields.push_signed_words.Given as goal

abbrev pub invariant-loop-word : goal.invariant-loop-word
invariant-loop-word l = l.out ≡ l.initial.out ++ signed_words (take l.word-index l.words)
