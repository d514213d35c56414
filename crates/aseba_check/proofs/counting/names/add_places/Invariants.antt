use Rattle.std.proofs.Common.{◌≡◌, drop}
use Rattle.aseba_check.specs.Looked.{looked}
use Rattle.aseba_check.specs.CountedPlaces.{with_places, SizesFit}
use Rattle.aseba_check.proofs.counting.names.add_places.Given as goal

abbrev pub invariant-loop-placed : goal.invariant-loop-placed
invariant-loop-placed l = record {
  names : with_places (looked l.names) (drop l.placed-index l.places) ≡ with_places (looked l.fn.names) l.places;
  fits : SizesFit (drop l.placed-index l.places) → SizesFit l.places;
}
