use Rattle.std.proofs.Common.{◌≡◌, ◌-◌}
use Rattle.aseba_node.specs.Delivered.{ran}
use Rattle.aseba_node.proofs.node.Node.do_ticks.Given as goal

-- the ticks that are left, from here, are all ticks from the start
abbrev pub invariant-loop : goal.invariant-loop
invariant-loop l = ran (l.ticks - l.counter) l.self ≡ ran l.ticks l.fn.self
