use Rattle.std.proofs.Common.{◌∙◌, ap, arith, subst, List}
use Rattle.aseba_tree.specs.View.{source_view}
use Rattle.aseba_tree.proofs.SoundProofs.{sound_is_faultless}
use Rattle.aseba_tree.specs.declared.placed.Placed.{Placed}
use Rattle.aseba_check.specs.declared.counting.taken.Taken.{Taken}
use Rattle.aseba_check.specs.Refused.{program_in}
use Rattle.aseba_check.specs.CountedPlaces.{NumbersFit}
use Rattle.aseba_check.specs.CountedParts.{placed_taken}
use Rattle.aseba_check.proofs.NumbersResult.{counted-source, room-small}
use Rattle.aseba_check.proofs.counting.numbers.Goals as goal

pub returns : goal.returns
returns c =
    let project = c.args.project.now in
    let checked = c.args.checked.now in
    let source = source_view checked.source in
    let fits = subst (λ (l : List Placed). NumbersFit project l) c.as_slice.ensures c.in_ok-taken.ensures.fits in
    let faultless = ((sound_is_faultless (program_in project checked.source)).0 c.requires.sound).0 in
    let taken = c.in_ok-taken.ensures.told ∙ (ap (λ (l : List Placed). placed_taken project source l) c.as_slice.ensures ∙ counted-source project source c.requires.inside c.requires.is_tree faultless checked.places fits c.requires.places) in
    let room = ap (λ (t : Taken). t.room) taken in
    let small = room-small project source c.requires.inside c.requires.is_tree faultless checked.places fits c.requires.places in
    record {
      size = ap (λ (t : Taken). t.words) taken;
      depth = ap (λ (t : Taken). t.depth) taken;
      room = room;
      small = omega (arith, room, small);
    }
