-- Why a tree has no code.
use Rattle.aseba_tree.specs.State.{Program}
use Rattle.aseba_tree.specs.Soundness.{Sound}
use Rattle.aseba_compile.specs.declared.refusal.Refusal.{Refusal}
use Rattle.aseba_compile.specs.declared.refusal.Refusal.TheVariants.{Check, Expand, Gen, Mem}
use Rattle.aseba_compile.specs.Checking.{IsCheckFault}
use Rattle.aseba_compile.specs.Coding.{IsExpandFault, IsCodeFault}

-- Why a tree has no code: it isn't sound; or it is, and needs more cells, words or stack cells than the node has.
abbrev pub IsTreeRefused : Program → Refusal → Type 0
IsTreeRefused program (Check error) = IsCheckFault program error
IsTreeRefused program (Expand error) = Sound program × IsExpandFault program error
IsTreeRefused program (Gen error) = Sound program × IsCodeFault program error
IsTreeRefused program Mem = Unit {0}
IsTreeRefused program refusal = ⊥
