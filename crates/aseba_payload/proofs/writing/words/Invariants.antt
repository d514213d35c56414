use Rattle.std.proofs.Common.{◌≡◌, ◌++◌, take}
use Rattle.std.specs.List.{flat_map}
use Rattle.aseba_payload.specs.Layout.{word_bytes}
use Rattle.aseba_payload.proofs.writing.words.Given as goal

abbrev pub invariant-loop-one : goal.invariant-loop-one
invariant-loop-one l = l.out.items ≡ l.fn.out.items ++ flat_map word_bytes (take l.one-index l.one-items)
