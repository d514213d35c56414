use Rattle.std.proofs.Common.{◌≡◌, ◌++◌, take}
use Rattle.std.specs.List.{flat_map}
use Rattle.aseba_describe.specs.Spelling.{sized_line}
use Rattle.aseba_describe.proofs.spelling.put_all_sized.Given as goal

abbrev pub invariant-loop-item : goal.invariant-loop-item
invariant-loop-item l = l.out ≡ l.initial.out ++ flat_map (sized_line l.word) (take l.item-index l.items)
