-- What the beats of a machine's run say.
use Rattle.std.specs.Prelude.{◌≡◌, ℕ, length, count_by}
use Rattle.aseba_tree.specs.Code.{Project}
use Rattle.aseba_tree.specs.Script.{Script}
use Rattle.aseba_vm.specs.State.{State}
use Rattle.aseba_target.specs.Node.{Layout}
use Rattle.aseba_target.specs.MachineRun.{machine_run, machine_beats}

-- there is one for each tick
abbrev pub BeatsAreTicks : Type 0
BeatsAreTicks = (project : Project) (layout : Layout) (m : State) (script : Script) (n : ℕ) → length (machine_beats project layout m script n) ≡ n

-- the true ones are the effects that the run counts
abbrev pub TrueBeatsAreEffects : Type 0
TrueBeatsAreEffects =
    (project : Project) (layout : Layout) (m : State) (script : Script) (n : ℕ)
    → (machine_run project layout m script n).effects ≡ count_by (λ beat. beat) (machine_beats project layout m script n)
