-- How a call of a tool came out: whether a read or a write failed, and what came of its message.
use Rattle.std.specs.Prelude.{◌≡◌, ℕ, Bool, true, false, ◌||◌, MatchBool, List, Option, Result, Ok, Err}
use Rattle.aseba_edge.specs.Counts.{Counts}
use Rattle.aseba_edge.specs.Sink.{Took, TookFirst}
use Rattle.aseba_tools.specs.declared.status.Status.{Status}
use Rattle.aseba_tools.specs.declared.status.Status.TheVariants.{ReadFault, WriteFault, DialFault}

-- the status says that a read failed, or that a write did
abbrev pub is_read_fault : Status → Bool
is_read_fault ReadFault = true
is_read_fault _ = false

abbrev pub is_write_fault : Status → Bool
is_write_fault WriteFault = true
is_write_fault _ = false

-- the status says that no connection was made
abbrev pub is_dial_fault : Status → Bool
is_dial_fault DialFault = true
is_dial_fault _ = false

-- there is a status in place of a value, and it says that a read failed
abbrev pub is_failed_read : {T : Type 0} → Result T Status → Bool
is_failed_read (Ok _) = false
is_failed_read (Err status) = is_read_fault status

-- what came of a message: the sink took all of it, or where a put failed its first bytes
pub record MessagePut (before : Option (List ℕ)) (message : List ℕ) (after : Option (List ℕ)) (faults_before faults_after : ℕ) : Type 0 where
  pub failed : Bool
  pub count : Counts failed faults_before faults_after
  pub took : MatchBool failed (TookFirst before message after) (Took before message after)

-- A fault is one of an object that was handed in or of a link that was opened in the call, and each of the two counts says whether it was its own. The link's is 0
-- when it is opened, and where none was.
pub record CountsBoth (failed : Bool) (before after : ℕ) (link : ℕ) : Type 0 where
  pub own : Bool
  pub of_link : Bool
  pub either : failed ≡ (own || of_link)
  pub count : Counts own before after
  pub link_count : Counts of_link 0 link
