-- What was written for the text of a source, and why its work ended with a status, where a relation says which text is to be written.
use Rattle.std.specs.Prelude.{◌≡◌, ℕ, ◌⊎◌, List, Option}
use Rattle.aseba_edge.specs.Sink.{Took, TookFirst}
use Rattle.aseba_tree.specs.Code.{Project, Source}
use Rattle.aseba_tree.specs.Soundness.{Sound}
use Rattle.aseba_tree.specs.State.{Program}
use Rattle.aseba_compile.specs.declared.refusal.Refusal.{Refusal}
use Rattle.aseba_compile.specs.declared.refusal.Refusal.TheVariants.{Mem}
use Rattle.aseba_compile.specs.Answered.{IsRefused}
use Rattle.aseba_compile.specs.Reading.{IsOnlyTree}
use Rattle.aseba_tools.specs.declared.status.Status.{Status}
use Rattle.aseba_tools.specs.declared.status.Status.TheVariants.{Done, Refused, WriteFault, Memory}

-- something holds of the one tree that a source's text spells, which is sound
pub record OfSoundTree (project : Project) (text : List ℕ) (P : Program → Type 0) : Type 0 where
  pub source : Source
  pub only : IsOnlyTree project text source
  pub sound : Sound (record { project = project; source = source })
  pub holds : P (record { project = project; source = source })

-- all of a text that is to be written was
pub record Wrote (IsWhole : List ℕ → Type 0) (before after : Option (List ℕ)) : Type 0 where
  pub whole : List ℕ
  pub is_whole : IsWhole whole
  pub took : Took before whole after

-- the first bytes of one were, and no others
pub record WroteFirst (IsWhole : List ℕ → Type 0) (before after : Option (List ℕ)) : Type 0 where
  pub whole : List ℕ
  pub is_whole : IsWhole whole
  pub took : TookFirst before whole after

-- why the text is refused; want of memory is no such reason, since it has a status of its own
abbrev pub IsReason : Project → List ℕ → Refusal → Type 0
IsReason project text Mem = ⊥
IsReason project text refusal = IsRefused project text refusal

-- why the text has no program
abbrev pub NoProgram : Project → List ℕ → Status → Type 0
NoProgram project text (Refused refusal) = IsReason project text refusal
NoProgram project text Memory = Unit {0}
NoProgram project text _ = ⊥

-- How the work on the text of a source ended, by the status. Where memory didn't suffice it may not have been compiled.
abbrev pub Worked : Project → List ℕ → (IsWhole : List ℕ → Type 0) → (before after : Option (List ℕ)) → Status → Type 0
Worked project text IsWhole before after Done = Wrote IsWhole before after
Worked project text IsWhole before after (Refused refusal) = IsReason project text refusal × (after ≡ before)
Worked project text IsWhole before after WriteFault = WroteFirst IsWhole before after
Worked project text IsWhole before after Memory = (after ≡ before) ⊎ WroteFirst IsWhole before after
Worked project text IsWhole before after _ = ⊥
