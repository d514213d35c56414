use Rattle.std.proofs.Common.{◌≡◌, drop}
use Rattle.aseba_check.specs.Looked.{looked}
use Rattle.aseba_expand.specs.Tables.{with_places}
use Rattle.aseba_expand.proofs.tables.add_places.Given as goal

abbrev pub invariant-loop-placed : goal.invariant-loop-placed
invariant-loop-placed l = with_places (looked l.known) (drop l.placed-index l.places) ≡ with_places (looked l.fn.known) l.places
