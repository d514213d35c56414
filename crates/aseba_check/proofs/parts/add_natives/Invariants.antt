use Rattle.std.proofs.Common.{◌≡◌, drop}
use Rattle.aseba_check.specs.Looked.{looked}
use Rattle.aseba_check.specs.Parts.{with_natives}
use Rattle.aseba_check.proofs.parts.add_natives.Given as goal

abbrev pub invariant-loop-place : goal.invariant-loop-place
invariant-loop-place l = with_natives (looked l.places) l.place (drop l.place l.natives) ≡ with_natives (looked l.fn.places) 0 l.natives
