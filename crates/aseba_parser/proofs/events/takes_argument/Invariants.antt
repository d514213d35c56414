use Rattle.std.proofs.Common.{◌≡◌, drop, map}
use Rattle.std.specs.Prelude.{find, bytes_eq}
use Rattle.aseba_tree.specs.View.{sized_view, project_view}
use Rattle.aseba_tree.specs.Spells as spells
use Rattle.aseba_parser.proofs.events.takes_argument.Given as goal

abbrev pub invariant-loop-event : goal.invariant-loop-event
invariant-loop-event l = spells.has_cells (find (λ event. bytes_eq event.name l.name) (map sized_view (drop l.event-index l.project.events))) ≡ spells.takes_argument (project_view l.project) l.name
