use Rattle.std.proofs.Common.{◌≡◌, true, drop, map}
use Rattle.std.specs.List.{list_all}
use Rattle.aseba_tree.specs.Value.{is_cell}
use Rattle.aseba_tree.specs.View.{const_view}
use Rattle.aseba_expand.proofs.numbers.read_consts.Given as goal

abbrev pub invariant-loop-constant : goal.invariant-loop-constant
invariant-loop-constant l = list_all (λ c. is_cell c.value) (map const_view (drop l.constant-index l.consts)) ≡ true → list_all (λ c. is_cell c.value) (map const_view l.consts) ≡ true
