-- What the check of a tree tells where it refuses it.
use Rattle.aseba_tree.specs.State.{Program}
use Rattle.aseba_check.specs.Refused.{TellsRefusal}
use Rattle.aseba_check.specs.declared.error.CheckError.{CheckError}
use Rattle.aseba_check.specs.declared.error.CheckError.TheVariants as check
use Rattle.aseba_compile.specs.declared.refusal.Refusal.{Refusal}
use Rattle.aseba_compile.specs.declared.refusal.Refusal.TheVariants.{Check, Mem}

-- the error tells why the tree isn't sound; want of memory doesn't stand here
abbrev pub IsCheckFault : Program → CheckError → Type 0
IsCheckFault program check.Mem = ⊥
IsCheckFault program error = TellsRefusal program error

-- what a refusal tells of an error
abbrev pub check_refusal : CheckError → Refusal
check_refusal check.Mem = Mem
check_refusal error = Check error
