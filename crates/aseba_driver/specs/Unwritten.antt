-- How a text that wasn't written whole ended.
use Rattle.std.specs.Prelude.{Bool, true, false, Result, Ok, Err}
use Rattle.aseba_driver.specs.declared.putting.Unwritten.{Unwritten}
use Rattle.aseba_driver.specs.declared.putting.Unwritten.TheVariants.{WriteFault, Mem}

-- the sink failed
abbrev pub is_write_fault : {T : Type 0} → Result T Unwritten → Bool
is_write_fault (Ok _) = false
is_write_fault (Err WriteFault) = true
is_write_fault (Err Mem) = false
