use Rattle.aseba_tree.specs.View.{place_view}
use Rattle.aseba_expand.specs.Scope.{program_of}
use Rattle.aseba_expand.proofs.FormViews.{whole-view}
use Rattle.aseba_expand.proofs.Owned.{own-whole}
use Rattle.aseba_expand.proofs.arguments.own_cells.Goals as goal

pub returns-in-Whole : goal.returns-in-Whole
returns-in-Whole c =
    rw (c.in-Whole.is, whole-view c.in-Whole.name) (own-whole (program_of c.args.scope.now) (place_view c.args.argument.now.first) (place_view c.args.argument.now.at) c.in-Whole.name c.place.result c.place.ensures.place)
