use Rattle.std.proofs.Common.{sym, ◌∙◌, ap, map, ◌++◌, append-nil}
use Rattle.aseba_tree.specs.View.{core_expr_view}
use Rattle.aseba_expand.proofs.Lists.{none-paired, one-ended}
use Rattle.aseba_expand.proofs.elements.paired.Goals as goal

pub returns : goal.returns
returns c =
    let made = map core_expr_view c.loop-left.built in
    sym (append-nil made) ∙ ap (λ es. made ++ es) (sym (none-paired c.args.op core_expr_view c.loop-left.left-iterator.a.rest.items c.loop-left.left-iterator.b.rest.items (one-ended c.loop-left.left-iterator.a.rest.ok.0 c.loop-left.left-iterator.b.rest.ok.0 c.in-None.ensures.steps))) ∙ c.loop-left.invariant
