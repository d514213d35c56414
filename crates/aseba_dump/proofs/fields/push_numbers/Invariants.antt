use Rattle.std.proofs.Common.{◌≡◌, ◌++◌, take}
use Rattle.std.specs.List.{flat_map}
use Rattle.aseba_words.specs.Spelled.{blank_number}
use Rattle.aseba_dump.proofs.fields.push_numbers.Given as goal

abbrev pub invariant-loop-number : goal.invariant-loop-number
invariant-loop-number l = l.out ≡ l.initial.out ++ flat_map blank_number (take l.number-index l.numbers)
