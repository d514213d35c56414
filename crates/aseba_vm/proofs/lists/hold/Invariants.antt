use Rattle.std.proofs.Common.{◌≡◌, take, map, Some}
use Rattle.aseba_vm.specs.Lists.{overwritten}
use Rattle.aseba_vm.proofs.lists.hold.Given as goal

-- the values so far are held
abbrev pub invariant-loop-place : goal.invariant-loop-place
invariant-loop-place l = l.held ≡ overwritten l.start (map Some (take l.place l.values)) l.initial.held
