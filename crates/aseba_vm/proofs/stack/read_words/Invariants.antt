use Rattle.std.proofs.Common.{◌≡◌, map, take}
use Rattle.std.specs.Int.{cast_unsigned, w16}
use Rattle.aseba_vm.proofs.stack.read_words.Given as goal

-- the values so far are read
abbrev pub invariant-loop-place : goal.invariant-loop-place
invariant-loop-place l = take l.place l.places ≡ map (cast_unsigned w16) (take l.place l.values)
