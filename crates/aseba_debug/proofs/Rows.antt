-- The commands that were worked by hand, computed.
use Rattle.std.specs.Prelude.{refl}
use Rattle.aseba_vm.specs.Loaded.{made}
use Rattle.aseba_debug.specs.Worked.{SixteenBreakpoints}

pub sixteen_breakpoints : SixteenBreakpoints
unfolding made
sixteen_breakpoints = record { sixteen = refl; another = refl; again = refl }
