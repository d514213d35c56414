use Rattle.std.proofs.Common.{◌≡◌, ◌∙◌, ap, map, Result, Ok, Err}
use Rattle.std.specs.Prelude.{IfOk}
use Rattle.aseba_words.specs.declared.mem.Mem.{Mem}
use Rattle.aseba_tree.specs.View.{handler_view}
use Rattle.aseba_check.specs.declared.world.World.{World}
use Rattle.aseba_check.specs.Declarations.{Names}
use Rattle.aseba_check.specs.Statements.{Known, known_of}
use Rattle.aseba_check.specs.Walk.{known_in}
use Rattle.aseba_check.specs.CountedPlaces.{with_places}
use Rattle.aseba_check.proofs.counting.names.placed_world.Goals as goal

world-is : (r : Result World Mem) (x y : Known) → IfOk r (λ w. known_of w ≡ x) → x ≡ y → IfOk r (λ w. known_of w ≡ y)
world-is (Ok w) x y h e = h ∙ e
world-is (Err m) x y h e = tt

pub returns-clause-known : goal.returns-clause-known
returns-clause-known c =
    let names = c.in_ok-add_places.ensures.names ∙ ap (λ (n : Names). with_places n c.args.places.now) c.in_ok-names.ensures.names in
    world-is c.world_of.result _ _ c.world_of.ensures (ap (λ (n : Names). known_in c.args.project.now (map handler_view c.args.parts.now) n) names)
