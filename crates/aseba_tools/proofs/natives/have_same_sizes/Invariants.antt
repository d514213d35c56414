use Rattle.std.proofs.Common.{◌≡◌, take}
use Rattle.aseba_tools.proofs.Alike.{sizes_of}
use Rattle.aseba_tools.proofs.natives.have_same_sizes.Given as goal

-- the sizes so far are the same
abbrev pub invariant-loop-i : goal.invariant-loop-i
invariant-loop-i l = take l.i (sizes_of l.a) ≡ take l.i (sizes_of l.b)
