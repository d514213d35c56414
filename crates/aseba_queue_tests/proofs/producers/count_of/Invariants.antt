use Rattle.std.proofs.Common.{◌≡◌, ◌^◌, ◌≤◌, take, vec_len}
use Rattle.std.specs.List.{sum_by}
use Rattle.aseba_queue_tests.proofs.producers.count_of.Given as goal

abbrev pub invariant-loop-list : goal.invariant-loop-list
invariant-loop-list l = (l.count ≤ 2 ^ 32) × (l.count ≡ sum_by (λ list. vec_len list) (take l.list-index l.lists))
