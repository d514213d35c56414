use Rattle.std.proofs.Common.{arith}
use Rattle.aseba_tree.specs.Inside.{InsideNative}
use Rattle.aseba_node.proofs.Sayable.{inside_at, say_native}
use Rattle.aseba_node.proofs.parts.say_natives.Goals as goal

pub say-requires : goal.say-requires
say-requires c =
    let native = c.native-item.result in
    say_native native c.in_ok-name.field-0
    (inside_at InsideNative c.args.natives.now c.loop-native.native-index native c.requires (omega arith) c.native-item.is) c.in_ok-name.ensures
