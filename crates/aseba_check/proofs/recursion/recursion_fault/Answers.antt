use Rattle.std.proofs.Common.{◌∙◌, ap, sym, List, take, drop, map}
use Rattle.aseba_tree.specs.View.{handler_view}
use Rattle.aseba_tree.specs.Faults as tree
use Rattle.aseba_check.specs.declared.sub_calls.SubCall.{SubCall}
use Rattle.aseba_check.specs.Looked.{looked}
use Rattle.aseba_check.specs.Cycles.{call_view, rank_by}
use Rattle.aseba_check.proofs.Answering.{ok-tells}
use Rattle.aseba_check.proofs.CycleLaws.{parted, cycles-tell}
use Rattle.aseba_check.proofs.recursion.recursion_fault.Goals as goal

pub returns : goal.returns
returns c =
    let calls = c.as_slice-calls.result.now in
    let front = c.descending-front.result in
    let all = sym c.in_ok-calls.ensures ∙ ap (λ (l : List SubCall). map call_view l) (sym c.as_slice-calls.ensures) ∙ parted front calls in
    let told = cycles-tell (rank_by (looked c.in_ok-order.order.ranks)) (map call_view (take front calls)) (map call_view (drop front calls)) (tree.sub_calls (map handler_view c.args.parts.now)) c.descending-front.ensures.ranked all in
    ok-tells c.closing_fault.result _ _ c.closing_fault.ensures told.told
