use Rattle.std.proofs.Common.{◌≡◌, length}
use Rattle.aseba_vm.specs.Lists.{address_of}
use Rattle.aseba_vm.proofs.lists.address_of.Given as goal

-- what is left to be looked through gives what the whole table gives
abbrev pub invariant-loop-table : goal.invariant-loop-table
invariant-loop-table l = address_of l.event l.table ≡ address_of l.event l.initial.table

abbrev pub decreases-loop-table : goal.decreases-loop-table
decreases-loop-table l = length l.table
