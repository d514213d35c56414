-- What the passes behind the check tell where they refuse a sound source.
use Rattle.std.specs.Prelude.{◌≡◌, ◌*◌, ◌+◌, ◌<◌, ◌≤◌}
use Rattle.aseba_tree.specs.State.{Program}
use Rattle.aseba_tree.specs.Layout.{cells_of_variables}
use Rattle.aseba_tree.specs.Numbers.{source_words, source_depth, source_room}
use Rattle.aseba_expand.specs.declared.error.ExpandError.{ExpandError}
use Rattle.aseba_expand.specs.declared.error.ExpandError.TheVariants as expand
use Rattle.aseba_codegen.specs.declared.error.GenError.{GenError}
use Rattle.aseba_codegen.specs.declared.error.GenError.TheVariants as gen
use Rattle.aseba_compile.specs.declared.refusal.Refusal.{Refusal}
use Rattle.aseba_compile.specs.declared.refusal.Refusal.TheVariants.{Expand, Gen, Mem}

-- The plain code isn't far too long for the node: only of such a source are core and words made.
abbrev pub IsNear : Program → Type 0
IsNear program = source_words program ≤ 8 * program.project.node.code

-- the variables and temporaries take more cells than the node has; want of memory doesn't stand here
abbrev pub IsExpandFault : Program → ExpandError → Type 0
IsExpandFault program (expand.VariablesFull need have) =
    (need ≡ cells_of_variables program + source_room program) × (have ≡ program.project.node.cells) × (have < need) × IsNear program
IsExpandFault program expand.Mem = ⊥

-- The code takes more words than the node has, which is all that is told of code that is far too long; or more stack cells. Want of memory doesn't stand here.
abbrev pub IsCodeFault : Program → GenError → Type 0
IsCodeFault program (gen.CodeFull need have) = (need ≡ source_words program) × (have ≡ program.project.node.code) × (have < need)
IsCodeFault program (gen.StackFull need have) =
    (need ≡ source_depth program) × (have ≡ program.project.node.stack) × (have < need) × IsNear program
IsCodeFault program gen.Mem = ⊥

-- what a refusal tells of an error
abbrev pub expand_refusal : ExpandError → Refusal
expand_refusal expand.Mem = Mem
expand_refusal error = Expand error

abbrev pub code_refusal : GenError → Refusal
code_refusal gen.Mem = Mem
code_refusal error = Gen error
