-- How a call that writes a text ended.
use Rattle.std.specs.Prelude.{Result, Ok, Err}
use Rattle.aseba_driver.specs.declared.putting.Unwritten.{Unwritten}
use Rattle.aseba_driver.specs.declared.putting.Unwritten.TheVariants.{WriteFault, Mem}
use Rattle.aseba_tools.specs.declared.status.Status.{Status}
use Rattle.aseba_tools.specs.declared.status.Status.TheVariants as status

-- the status of a call whose text wasn't written whole
abbrev pub status_of : Unwritten → Status
status_of WriteFault = status.WriteFault
status_of Mem = status.Memory

-- the status of a call that wrote a text, whole or not
abbrev pub ended_by : {T : Type 0} → Result T Unwritten → Status
ended_by (Ok _) = status.Done
ended_by (Err unwritten) = status_of unwritten
