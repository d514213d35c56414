use Rattle.std.proofs.Common.{◌∙◌, ap, sym, subst, ℕ, Option, map, arith}
use Rattle.std.specs.Prelude.{option_map}
use Rattle.aseba_tree.specs.View.{source_view, placed_view}
use Rattle.aseba_tree.specs.Layout as layout
use Rattle.aseba_check.specs.declared.far.Far.{Far}
use Rattle.aseba_check.specs.Places.{AreInOrder}
use Rattle.aseba_check.specs.Refused.{program_in, far_view}
use Rattle.aseba_check.proofs.Refusals.{full, need-is, layout-is, in-order}
use Rattle.aseba_check.proofs.checking.laid_out.Goals as goal

pub returns-then-have-need-clause-refused : goal.returns-then-have-need-clause-refused
returns-then-have-need-clause-refused c =
    let project = c.args.project.now in
    let source = c.args.source in
    let need = need-is project (source_view source) c.requires.inside c.requires.is_tree c.requires.fits c.requires.faultless c.cells_of-need.result c.as_slice-variables.result.now c.args.sizes.now c.cells_of-need.ensures c.as_slice-variables.ensures c.requires.sizes in
    full (program_in project source) c.cells_of-need.result c.from-have.result c.requires.faultless need c.from-have.ensures c.if-have-need.true

pub far_subroutine-requires-clause-room : goal.far_subroutine-requires-clause-room
far_subroutine-requires-clause-room c =
    let need = need-is c.args.project.now (source_view c.args.source) c.requires.inside c.requires.is_tree c.requires.fits c.requires.faultless c.cells_of-need.result c.as_slice-variables.result.now c.args.sizes.now c.cells_of-need.ensures c.as_slice-variables.ensures c.requires.sizes in
    let have = c.from-have.ensures in
    let few = c.if-have-need.false in
    omega arith

pub far_subroutine-requires-clause-places : goal.far_subroutine-requires-clause-places
far_subroutine-requires-clause-places c =
    let need = need-is c.args.project.now (source_view c.args.source) c.requires.inside c.requires.is_tree c.requires.fits c.requires.faultless c.cells_of-need.result c.as_slice-variables.result.now c.args.sizes.now c.cells_of-need.ensures c.as_slice-variables.ensures c.requires.sizes in
    let have = c.from-have.ensures in
    let few = c.if-have-need.false in
    ap (λ ps. map placed_view ps) c.as_slice-2.ensures
    ∙ layout-is c.args.project.now c.args.source c.requires.inside c.requires.is_tree c.requires.fits c.requires.faultless c.in_ok-places.places c.as_slice-variables.result.now c.as_slice.result.now c.args.sizes.now c.in_ok-places.ensures
    c.as_slice-variables.ensures c.as_slice.ensures c.requires.sizes (omega arith)

pub returns-in-None-clause-checked : goal.returns-in-None-clause-checked
returns-in-None-clause-checked c =
    let project = c.args.project.now in
    let source = c.args.source in
    let need = need-is project (source_view source) c.requires.inside c.requires.is_tree c.requires.fits c.requires.faultless c.cells_of-need.result c.as_slice-variables.result.now c.args.sizes.now c.cells_of-need.ensures c.as_slice-variables.ensures c.requires.sizes in
    let have = c.from-have.ensures in
    let few = c.if-have-need.false in
    let places = layout-is project source c.requires.inside c.requires.is_tree c.requires.fits c.requires.faultless c.in_ok-places.places c.as_slice-variables.result.now c.as_slice.result.now c.args.sizes.now c.in_ok-places.ensures
    c.as_slice-variables.ensures c.as_slice.ensures c.requires.sizes (omega arith) in
    let lie = in-order project (source_view source) c.requires.inside c.requires.is_tree c.requires.fits c.requires.faultless in
    record {
      inside = c.requires.inside;
      is_tree = c.requires.is_tree;
      sound = c.in_ok-far.ensures ∙ ap (λ (o : Option Far). option_map far_view o) c.in-None.is;
      places = places;
      in_order = subst (λ ps. AreInOrder 0 ps c.cells_of-need.result) (sym places) (subst (λ (n : ℕ). AreInOrder 0 (layout.layout (program_in project source)) n) (sym need) lie);
      cells = need;
    }
