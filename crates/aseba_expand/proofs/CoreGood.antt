-- The element form of a sound source can be turned into code for its node, and is no heavier than the source.
use Rattle.std.proofs.Common.{◌≡◌, refl, subst, Bool, true, ◌+◌, ◌≤◌, IsTrue, List, [], ◌∷◌, arith, map}
use Rattle.std.specs.List.{list_all}
use Rattle.aseba_tree.specs.Code.{Handler}
use Rattle.aseba_tree.specs.State.{Program, init_code}
use Rattle.aseba_tree.specs.Core.{no_core}
use Rattle.aseba_tree.specs.CoreShape.{is_good_list, IsCore}
use Rattle.aseba_tree.specs.CoreNumbers.{core_weight}
use Rattle.aseba_tree.specs.Faults.{decls_faults, parts_faults, recursion_faults, sub_calls, first_scope, world_of}
use Rattle.aseba_tree.specs.Script.{Script}
use Rattle.aseba_tree.specs.GoodScript.{is_good_script}
use Rattle.aseba_tree.specs.Lines.{SourceCallsKnown}
use Rattle.aseba_tree.specs.Layout.{variables, cells_of_variables}
use Rattle.aseba_tree.specs.Numbers.{source_room, source_weight}
use Rattle.aseba_tree.specs.Shape.{IsTree}
use Rattle.aseba_tree.specs.Soundness.{Sound}
use Rattle.aseba_tree.proofs.SizeLaws.{EachKnown, nil_left, nil_right}
use Rattle.aseba_tree.proofs.SoundProofs.{sound_is_faultless, sound_variables}
use Rattle.aseba_tree.proofs.ConstantLaws.{known, sound_is_laid_out}
use Rattle.aseba_expand.specs.Literals.{HasCellNumbers}
use Rattle.aseba_expand.specs.Plain.{plain_part, plain_core}
use Rattle.aseba_expand.specs.Expands.{IsProject, RunsSame, IsExpansion}
use Rattle.aseba_expand.proofs.Good.{GoodParts}
use Rattle.aseba_expand.proofs.EventNumbers.{parts-known}
use Rattle.aseba_expand.proofs.SoundGood.{node-cells, sound-good}
use Rattle.aseba_expand.proofs.Words.{same-words}
use Rattle.aseba_expand.proofs.Depths.{same-depth}
use Rattle.aseba_expand.proofs.Weights.{no-heavier}
use Rattle.aseba_expand.proofs.Shaped.{list-good}
use Rattle.aseba_expand.proofs.Found.{PartsFind, init-code-finds, parts-find}
use Rattle.aseba_expand.proofs.Celled.{is-celled}
use Rattle.aseba_expand.proofs.Lined.{is-lined}
use Rattle.aseba_expand.proofs.Handled.{handles-events}
use Rattle.aseba_expand.proofs.Cycles.{ends}
use Rattle.aseba_expand.proofs.Near.{is-near}

parts-shaped : (program : Program) (hs : List Handler) → GoodParts program hs → PartsFind program hs → list_all (λ part. is_good_list program.project (plain_core program) [] part.body) (map (plain_part program) hs) ≡ true
parts-shaped program [] g f = refl
parts-shaped program (h ∷ hs) g f = rw (list-good program h.body [] no_core g.0 f.0 (λ st. refl)) (parts-shaped program hs g.1 f.1)

pub plain-is-core : (program : Program) → IsProject program.project → IsTree program.source → HasCellNumbers program.source → Sound program → cells_of_variables program + source_room program ≤ program.project.node.cells
    → IsCore program.project (plain_core program)
plain-is-core program project tree numbers sound room =
    let facts = (sound_is_faultless program).0 sound in
    let none = facts.0 in
    let source = program.source in
    let world = world_of program in
    let before_calls = nil_left _ (recursion_faults [] (sub_calls source.parts)) none in
    let recursion = nil_right _ (recursion_faults [] (sub_calls source.parts)) none in
    let parts = nil_right _ (parts_faults world [] source.parts) before_calls in
    let init = nil_right (decls_faults (first_scope program.project) source.vars) _ (nil_left _ (parts_faults world [] source.parts) before_calls) in
    let node = node-cells program.project.node.variables project.sizes in
    let sizes : EachKnown (map known (variables program)) = subst EachKnown (sound_is_laid_out program tree node sound) (sound_variables program tree node sound).1 in
    let good = sound-good program project tree sound in
    let known_parts = parts-known program world refl [] source.parts parts in
    let found = parts-find program [] source.parts parts in
    let words = same-words program good known_parts in
    let depth = same-depth program good known_parts in
    record {
      has_size = omega (arith, words);
      has_depth = omega (arith, depth);
      has_room = room;
      is_good = rw (list-good program (init_code source) [] no_core good.init (init-code-finds program init) (λ st. refl)) (parts-shaped program source.parts good.parts found);
      numbers = is-celled program project.consts sizes numbers good;
      lined = is-lined program good;
      handles_events = handles-events program world source.parts project.few known_parts parts;
      ends = ends program recursion found;
      is_near = λ large. is-near program good.parts known_parts (facts.2 large);
    }

pub plain-weighs : (program : Program) → IsProject program.project → IsTree program.source → Sound program → core_weight (plain_core program) ≤ source_weight program
plain-weighs program project tree sound = no-heavier program (sound-good program project tree sound)

-- What is left of an expansion is that it runs as the source does.
pub with-runs : (program : Program) → IsProject program.project → IsTree program.source → HasCellNumbers program.source → Sound program → cells_of_variables program + source_room program ≤ program.project.node.cells
    → ((script : Script) (beats : List Bool) → IsTrue (is_good_script program.project (variables program) script) → SourceCallsKnown program script beats → RunsSame program (plain_core program) script beats)
    → IsExpansion program (plain_core program)
with-runs program project tree numbers sound room runs = record {
  runs = runs;
  cells = refl;
  room = omega arith;
  size = refl;
  depth = refl;
  weight = plain-weighs program project tree sound;
  shape = plain-is-core program project tree numbers sound room;
}
