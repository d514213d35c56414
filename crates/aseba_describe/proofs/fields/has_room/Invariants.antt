use Rattle.std.proofs.Common.{◌≡◌, ◌+◌, take, sum_by}
use Rattle.aseba_tree.specs.Inside.{param_message_len}
use Rattle.aseba_describe.proofs.fields.has_room.Given as goal

abbrev pub invariant-loop-param : goal.invariant-loop-param
invariant-loop-param l = l.left + sum_by param_message_len (take l.param-index l.params) ≡ l.room
