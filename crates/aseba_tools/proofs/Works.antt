-- How the work on the text of a source ends.
use Rattle.std.proofs.Common.{◌≡◌, ℕ, List, map, Option, None, Some, Result, Ok, Err, OnOk, OnErr, false, refl, subst, inl, inr}
use Rattle.std.specs.Str.Lines.{lines}
use Rattle.aseba_edge.specs.Sink.{Took, TookFirst}
use Rattle.aseba_tree.specs.Code.{Project}
use Rattle.aseba_tree.specs.Layout.{Placed}
use Rattle.aseba_tree.specs.View.{placed_view}
use Rattle.aseba_compile.specs.Answered.{IsCompiled}
use Rattle.aseba_compile.specs.declared.program.Program.{Program as Code}
use Rattle.aseba_driver.specs.Grammar.{IsBadLine}
use Rattle.aseba_driver.specs.Unwritten.{is_write_fault}
use Rattle.aseba_driver.specs.declared.putting.Unwritten.{Unwritten}
use Rattle.aseba_driver.specs.declared.putting.Unwritten.TheVariants.{WriteFault, Mem}
use Rattle.aseba_tools.specs.Meant.{HasBadLine, IsMeantOf}
use Rattle.aseba_tools.specs.Outcome as outcome
use Rattle.aseba_tools.specs.ScriptRead.{NoEntries}
use Rattle.aseba_tools.specs.Simulated.{Ran}
use Rattle.aseba_tools.specs.Unwritten.{ended_by}
use Rattle.aseba_tools.specs.Written.{NoProgram, OfSoundTree, Worked}
use Rattle.aseba_tools.specs.declared.status.Status.{Status}
use Rattle.aseba_tools.specs.declared.status.Status.TheVariants as status

-- a text that is to be written was put, or some first bytes of it
pub worked : {T : Type 0} (project : Project) (text : List ℕ) (IsWhole : List ℕ → Type 0) (before after : Option (List ℕ)) (r : Result T Unwritten) (whole : List ℕ)
    → IsWhole whole → OnOk r (Took before whole after) → OnErr r (TookFirst before whole after) → Worked project text IsWhole before after (ended_by r)
worked project text IsWhole before after (Ok x) whole is_whole all part = record { whole = whole; is_whole = is_whole; took = all }
worked project text IsWhole before after (Err WriteFault) whole is_whole all part = record { whole = whole; is_whole = is_whole; took = part }
worked project text IsWhole before after (Err Mem) whole is_whole all part = inr (record { whole = whole; is_whole = is_whole; took = part })

-- a text that has no program leaves nothing written
pub not_worked : (project : Project) (text : List ℕ) (IsWhole : List ℕ → Type 0) (before : Option (List ℕ)) (s : Status) → NoProgram project text s → Worked project text IsWhole before before s
not_worked project text IsWhole before (status.Refused refusal) none = (none, refl)
not_worked project text IsWhole before status.Memory none = inl refl
not_worked project text IsWhole before _ none = absurd none

-- no read failed in it, and a write only where the text wasn't written

pub ended-read : {T : Type 0} (r : Result T Unwritten) → outcome.is_read_fault (ended_by r) ≡ false
ended-read (Ok x) = refl
ended-read (Err WriteFault) = refl
ended-read (Err Mem) = refl

pub ended-write : {T : Type 0} (r : Result T Unwritten) → outcome.is_write_fault (ended_by r) ≡ is_write_fault r
ended-write (Ok x) = refl
ended-write (Err WriteFault) = refl
ended-write (Err Mem) = refl

pub refused-read : (project : Project) (text : List ℕ) (s : Status) → NoProgram project text s → outcome.is_read_fault s ≡ false
refused-read project text status.ReadFault none = absurd none
refused-read project text _ none = refl

pub refused-write : (project : Project) (text : List ℕ) (s : Status) → NoProgram project text s → outcome.is_write_fault s ≡ false
refused-write project text status.WriteFault none = absurd none
refused-write project text _ none = refl

-- Runs with a script

-- a source that isn't compiled
pub not_run : (project : Project) (text : List ℕ) (script : Option (List ℕ)) (ticks : ℕ) (before : Option (List ℕ)) (s : Status) → NoProgram project text s → Ran project text script ticks before before s
not_run project text script ticks before (status.BadScript line) none = absurd none
not_run project text script ticks before (status.Refused refusal) none = (none, refl)
not_run project text script ticks before status.Memory none = inl refl
not_run project text script ticks before _ none = absurd none

-- a text that is to be written was put, or some first bytes of it
pub run_ended : {T : Type 0} (project : Project) (text : List ℕ) (script : Option (List ℕ)) (ticks : ℕ) (before after : Option (List ℕ)) (r : Result T Unwritten) (whole : List ℕ)
    → IsMeantOf project text script ticks whole → OnOk r (Took before whole after) → OnErr r (TookFirst before whole after) → Ran project text script ticks before after (ended_by r)
run_ended project text script ticks before after (Ok x) whole is_whole all part = record { whole = whole; is_whole = is_whole; took = all }
run_ended project text script ticks before after (Err WriteFault) whole is_whole all part = record { whole = whole; is_whole = is_whole; took = part }
run_ended project text script ticks before after (Err Mem) whole is_whole all part = inr (record { whole = whole; is_whole = is_whole; took = part })

-- a script's text that has a bad line
bad_script : (project : Project) (text : List ℕ) (program : Code) (script : Option (List ℕ)) (line : ℕ) → IsCompiled project text program → NoEntries project (map placed_view program.places) script (status.BadScript line)
    → OfSoundTree project text (λ source. HasBadLine source script line)
bad_script project text program None line c none = absurd none
bad_script project text program (Some rows) line c bad = record {
  source = c.source;
  only = c.only;
  sound = c.holds.sound;
  holds = record { words = program.image.words; places = program.image.lines; code = c.holds.code.code; bad = subst (λ places. IsBadLine project places (lines rows) line) c.holds.places bad };
}

pub no_script : (project : Project) (text : List ℕ) (program : Code) (script : Option (List ℕ)) (ticks : ℕ) (before : Option (List ℕ)) (s : Status) → IsCompiled project text program
    → NoEntries project (map placed_view program.places) script s → Ran project text script ticks before before s
no_script project text program script ticks before (status.BadScript line) c none = (bad_script project text program script line c none, refl)
no_script project text program script ticks before status.Memory c none = inl refl
no_script project text program None ticks before _ c none = absurd none
no_script project text program (Some rows) ticks before _ c none = absurd none

pub unread-script : (project : Project) (places : List Placed) (script : Option (List ℕ)) (s : Status) → NoEntries project places script s → outcome.is_read_fault s ≡ false
unread-script project places None s none = absurd none
unread-script project places (Some rows) status.ReadFault none = absurd none
unread-script project places (Some rows) _ none = refl

pub unwritten-script : (project : Project) (places : List Placed) (script : Option (List ℕ)) (s : Status) → NoEntries project places script s → outcome.is_write_fault s ≡ false
unwritten-script project places None s none = absurd none
unwritten-script project places (Some rows) status.WriteFault none = absurd none
unwritten-script project places (Some rows) _ none = refl
