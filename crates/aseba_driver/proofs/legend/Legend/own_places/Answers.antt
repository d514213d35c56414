use Rattle.std.proofs.Common.{◌∙◌, sym, ap, length, drop, map}
use Rattle.std.proofs.lemmas.List.{drop-map, take_rest}
use Rattle.aseba_tree.specs.View.{placed_view}
use Rattle.aseba_driver.proofs.legend.Legend.own_places.Goals as goal

pub returns : goal.returns
returns c =
    ap (map placed_view) (take_rest c.args.self.now.places.now (length c.as_slice.result.now))
    ∙ ap (λ vs. map placed_view (drop (length vs) c.args.self.now.places.now)) c.as_slice.ensures
    ∙ sym (drop-map placed_view (length c.args.self.now.project.now.node.variables) c.args.self.now.places.now)
