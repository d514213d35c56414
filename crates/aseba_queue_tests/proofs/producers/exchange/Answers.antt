use Rattle.std.proofs.Common.{◌≡◌, ◌∙◌, ap, List, Vec, Global, length, vec_len, arith}
use Rattle.std.specs.List.{sum_by}
use Rattle.aseba_queue_tests.specs.declared.item.Sent.{Sent}
use Rattle.aseba_queue_tests.proofs.Joining.{exchanged}
use Rattle.aseba_queue_tests.proofs.producers.exchange.Goals as goal

pub returns : goal.returns
returns g c =
    let came = c.in_ok-owner.came in
    let kept : vec_len came ≡ vec_len c.in_ok-came.came = c.in_ok-owner.ensures.len in
    let made : vec_len c.in_ok-came.came ≡ c.in_ok-count.count = c.in_ok-came.ensures.len in
    let all : c.in_ok-count.count ≡ sum_by (λ list. vec_len list) c.args.lists.items = c.in_ok-count.ensures.1 ∙ ap (λ (lists : List (Vec Sent Global)). sum_by (λ list. vec_len list) lists) c.as_slice.ensures.value in
    let long : length came.items ≡ vec_len came = omega (arith, came.ok.0) in
    let count = long ∙ kept ∙ made ∙ all in
    exchanged c.args.lists.items c.in_ok-owner.done.items _ came.items c.settle.ensures.0 _ c.settle.ensures.1 c.in_ok-owner.ensures.came (c.in_ok-owner.ensures.done.1 ∙ c.in_ok-producers.ensures.ready.1) count
