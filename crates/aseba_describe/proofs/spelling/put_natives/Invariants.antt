use Rattle.std.proofs.Common.{◌≡◌, ◌++◌, take}
use Rattle.std.specs.List.{flat_map}
use Rattle.aseba_describe.specs.Spelling.{native_line}
use Rattle.aseba_describe.proofs.spelling.put_natives.Given as goal

abbrev pub invariant-loop-native : goal.invariant-loop-native
invariant-loop-native l = l.out ≡ l.initial.out ++ flat_map native_line (take l.native-index l.natives)
