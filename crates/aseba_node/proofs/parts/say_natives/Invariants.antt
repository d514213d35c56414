use Rattle.std.proofs.Common.{◌≡◌, map, take}
use Rattle.aseba_node.specs.Saying.{also_said}
use Rattle.aseba_node.specs.Told.{native_of}
use Rattle.aseba_node.proofs.parts.say_natives.Given as goal

-- those up to here were said
abbrev pub invariant-loop-native : goal.invariant-loop-native
invariant-loop-native l = l.outbox ≡ also_said (map native_of (take l.native-index l.natives)) l.fn.outbox
