use Rattle.std.proofs.Common.{◌≡◌, ◌++◌, length}
use Rattle.aseba_payload.specs.Reading.{words_of}
use Rattle.aseba_dump.specs.Field.{signed_words}
use Rattle.aseba_record.proofs.spelling.push_words.Given as goal

-- what was added, and the words that remain, are all of them
abbrev pub invariant-loop-rest : goal.invariant-loop-rest
invariant-loop-rest l = l.out ++ signed_words (words_of l.rest) ≡ l.fn.out ++ signed_words (words_of l.bytes)

abbrev pub decreases-loop-rest : goal.decreases-loop-rest
decreases-loop-rest l = length l.rest
