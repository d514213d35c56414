-- The beats of a machine's run are as many as its ticks, and the true ones are its effects.
use Rattle.std.proofs.Common.{◌∙◌, zero-add, count_by}
use Rattle.std.proofs.lemmas.List.{length-replicate}
use Rattle.std.specs.Prelude.{false}
use Rattle.aseba_tree.specs.Run.{begin, ticks}
use Rattle.aseba_tree.proofs.RunLaws.{beats-many, beats-counted}
use Rattle.aseba_target.specs.MachineRun.{machine_system, machine_beats}
use Rattle.aseba_target.specs.Beats.{BeatsAreTicks, TrueBeatsAreEffects}

pub beats_are_ticks : BeatsAreTicks
beats_are_ticks project layout m script n = beats-many (machine_system project layout) script (ticks n) (begin m) ∙ length-replicate n false

pub true_beats_are_effects : TrueBeatsAreEffects
true_beats_are_effects project layout m script n =
    beats-counted (machine_system project layout) script (ticks n) (begin m) ∙ zero-add (count_by (λ beat. beat) (machine_beats project layout m script n))
