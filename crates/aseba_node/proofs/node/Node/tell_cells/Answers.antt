use Rattle.std.proofs.Common.{◌+◌, ◌-◌, drop, length-take, arith}
use Rattle.aseba_node.proofs.node.Node.tell_cells.Goals as goal

pub say_cells-requires : goal.say_cells-requires
say_cells-requires c =
    omega (
      arith,
      c.if-first-count.false,
      c.cells.ensures.size,
      c.from-first.ensures,
      c.self.invariant.cells,
      c.self.invariant.inside.cells.1,
      length-take (c.from-first.result + c.from-count.result - c.from-first.result) (drop c.from-first.result c.cells-2.result.now),
    )
