use Rattle.std.proofs.Common.{◌≡◌, max, min, map, length, sym, ap, ◌∙◌}
use Rattle.std.proofs.lemmas.List.{length-map}
use Rattle.aseba_codegen.specs.OwnDepth.{depth_by, depths_after, deepest_handler}
use Rattle.aseba_tree.specs.View.{core_part_view, core_view}
use Rattle.aseba_codegen.proofs.DepthLaws.{counted-capped}
use Rattle.aseba_codegen.proofs.stack.own_depth.Goals as goal

pub returns : goal.returns
returns c =
    let core = core_view c.args.core.now in
    let same : c.as_slice-2.result.now ≡ depths_after c.args.most core.parts (length core.parts) =
    c.as_slice-2.ensures ∙ c.in_ok-depths.ensures ∙ ap (λ parts. depths_after c.args.most (map core_part_view parts) (length parts)) c.as_slice.ensures
    ∙ ap (depths_after c.args.most core.parts) (sym (length-map c.args.core.now.parts core_part_view)) in
    c.deepest.ensures ∙ ap (λ depths. min c.args.most (max (depth_by depths core.init) (deepest_handler depths core.parts))) same ∙ counted-capped core c.args.most
