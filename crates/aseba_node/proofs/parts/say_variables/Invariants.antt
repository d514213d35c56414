use Rattle.std.proofs.Common.{◌≡◌, map, take}
use Rattle.aseba_node.specs.Saying.{also_said}
use Rattle.aseba_node.specs.Told.{variable_of}
use Rattle.aseba_node.proofs.parts.say_variables.Given as goal

-- those up to here were said
abbrev pub invariant-loop-variable : goal.invariant-loop-variable
invariant-loop-variable l = l.outbox ≡ also_said (map variable_of (take l.variable-index l.variables)) l.fn.outbox
