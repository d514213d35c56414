use Rattle.std.proofs.Common.{◌≡◌, map, length}
use Rattle.aseba_text.specs.Names as names
use Rattle.aseba_record.proofs.head.stands_in.Given as goal

abbrev pub invariant-loop-rest : goal.invariant-loop-rest
invariant-loop-rest l = names.stands_in l.name (map (λ e. e.name) l.rest) ≡ names.stands_in l.name (map (λ e. e.name) l.events)

abbrev pub decreases-loop-rest : goal.decreases-loop-rest
decreases-loop-rest l = length l.rest
