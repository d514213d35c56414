use Rattle.std.proofs.Common.{subst, sym}
use Rattle.aseba_debug.specs.Breaks.{AreBreaks}
use Rattle.aseba_debug.proofs.BreakLaws.{breaks_without}
use Rattle.aseba_debug.proofs.debug.Debug.clear.Goals as goal

pub invariant_of-self : goal.invariant_of-self
invariant_of-self c = subst AreBreaks (sym c.take_away.ensures) (breaks_without c.args.pc c.self.inside.breaks.items c.self.invariant)
