-- So many rounds were counted.
use Rattle.std.proofs.Common.{◌≡◌, ◌+◌, ◌≤◌, length, map}
use Rattle.aseba_codegen.specs.OwnDepth.{depths_after}
use Rattle.aseba_tree.specs.View.{core_part_view}
use Rattle.aseba_codegen.proofs.stack.sub_depths.Given as goal

abbrev pub invariant-loop : goal.invariant-loop
invariant-loop l = record {
  rounds : l.depths ≡ depths_after l.most (map core_part_view l.parts) l.counter;
  end : l.end ≡ length l.parts;
}
