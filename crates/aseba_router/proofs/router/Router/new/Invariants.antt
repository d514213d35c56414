-- So many ports are unused.
use Rattle.std.proofs.Common.{◌≡◌, length, replicate}
use Rattle.aseba_router.specs.Port.{unused}
use Rattle.aseba_router.specs.Rows.{ports_of}
use Rattle.aseba_router.proofs.router.Router.new.Given as goal

abbrev pub invariant-loop : goal.invariant-loop
invariant-loop l = record {
  made : ports_of l.places.items ≡ replicate l.counter unused;
  count : length l.places.items ≡ l.counter;
}
