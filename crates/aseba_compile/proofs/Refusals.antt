-- What the passes behind the check answer of a sound source.
use Rattle.std.proofs.Common.{◌≡◌, refl, sym, ◌∙◌, ap, subst, ◌*◌, ◌<◌, ◌≤◌, arith}
use Rattle.aseba_tree.specs.Core.{Core}
use Rattle.aseba_tree.specs.Soundness.{Sound}
use Rattle.aseba_tree.specs.State.{Program}
use Rattle.aseba_expand.specs.Expands.{IsExpansion}
use Rattle.aseba_expand.specs.Expanded as expanded
use Rattle.aseba_expand.specs.declared.error.ExpandError.{ExpandError}
use Rattle.aseba_expand.specs.declared.error.ExpandError.TheVariants as expand
use Rattle.aseba_codegen.specs.Agrees.{IsNode}
use Rattle.aseba_codegen.specs.Generated as generated
use Rattle.aseba_codegen.specs.declared.error.GenError.{GenError}
use Rattle.aseba_codegen.specs.declared.error.GenError.TheVariants as gen
use Rattle.aseba_codegen.specs.declared.image.Image.{Image}
use Rattle.aseba_compile.specs.Answered.{IsCodeFor}
use Rattle.aseba_compile.specs.Coding.{IsNear, IsExpandFault, IsCodeFault, expand_refusal, code_refusal}
use Rattle.aseba_compile.specs.Refused.{IsTreeRefused}
use Rattle.aseba_compile.proofs.Codes.{compiled}

pub expand-refused : (program : Program) (error : ExpandError) → Sound program → IsNear program → expanded.TellsNeed program error → IsTreeRefused program (expand_refusal error)
expand-refused program (expand.VariablesFull need have) sound near told = (sound, (told.0, told.1, told.2, near))
expand-refused program expand.Mem sound near told = tt

pub code-refused : (program : Program) (core : Core) (error : GenError) → Sound program → IsNear program → IsExpansion program core → generated.TellsNeed program.project core error
    → IsTreeRefused program (code_refusal error)
code-refused program core (gen.CodeFull need have) sound near expansion told = (sound, (told.0 ∙ expansion.size, told.1, told.3))
code-refused program core (gen.StackFull need have) sound near expansion told = (sound, (told.1 ∙ expansion.depth, told.2, told.4, near))
code-refused program core gen.Mem sound near expansion told = tt

pub code-for : (program : Program) (core : Core) (image : Image) → IsNode program.project → IsNear program → IsExpansion program core → generated.IsImage program.project core image → IsCodeFor program image
code-for program core image node near expansion is = record { near = near; cells = is.temp_start ∙ expansion.cells; code = compiled program core image node expansion is }
