-- The plain form of a sound source is an expansion of it.
use Rattle.std.proofs.Common.{refl, []}
use Rattle.aseba_tree.specs.Faults.{decls_faults, parts_faults, recursion_faults, sub_calls, first_scope, world_of}
use Rattle.aseba_tree.specs.Shape.{IsTree}
use Rattle.aseba_tree.specs.Soundness.{Sound}
use Rattle.aseba_tree.specs.State.{Program}
use Rattle.aseba_tree.proofs.SizeLaws.{nil_left, nil_right}
use Rattle.aseba_tree.proofs.SoundProofs.{sound_is_faultless}
use Rattle.aseba_expand.specs.Expands.{IsProject, PlainExpands}
use Rattle.aseba_expand.proofs.CoreGood.{with-runs}
use Rattle.aseba_expand.proofs.EventNumbers.{parts-known}
use Rattle.aseba_expand.proofs.Good.{source-ready}
use Rattle.aseba_expand.proofs.PlainTied.{runs-same, IsSettled}
use Rattle.aseba_expand.proofs.Shown.{declared-new}
use Rattle.aseba_expand.proofs.SoundGood.{sound-good}

-- a sound source is all that its steps ask for
settled-source : (program : Program) → IsProject program.project → IsTree program.source → Sound program → IsSettled program
settled-source program project tree sound =
    let none = ((sound_is_faultless program).0 sound).0 in
    let source = program.source in
    let world = world_of program in
    let before_calls = nil_left _ (recursion_faults [] (sub_calls source.parts)) none in
    let parts = nil_right _ (parts_faults world [] source.parts) before_calls in
    let decls = nil_left (decls_faults (first_scope program.project) source.vars) _ (nil_left _ (parts_faults world [] source.parts) before_calls) in
    record {
      ready = source-ready program (sound-good program project tree sound);
      few = project.few;
      known_parts = parts-known program world refl [] source.parts parts;
      new = declared-new program decls;
    }

pub plain-expands : PlainExpands
plain-expands program project tree numbers sound room = with-runs program project tree numbers sound room (runs-same program (settled-source program project tree sound))
