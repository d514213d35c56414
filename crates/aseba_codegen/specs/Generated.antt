-- What the generator answers.
use Rattle.std.specs.Prelude.{◌≡◌, ◌<◌, ◌≤◌}
use Rattle.aseba_tree.specs.Code.{Project}
use Rattle.aseba_tree.specs.Core.{Core}
use Rattle.aseba_tree.specs.CoreNumbers.{core_words, core_depth}
use Rattle.aseba_codegen.specs.declared.error.GenError.{GenError}
use Rattle.aseba_codegen.specs.declared.error.GenError.TheVariants.{CodeFull, StackFull, Mem}
use Rattle.aseba_codegen.specs.declared.image.Image.{Image}
use Rattle.aseba_codegen.specs.Words.{code_words, code_lines}

-- the plain code of a core, with the first cell behind its variables; its own words and stack cells fit
pub record IsImage (project : Project) (core : Core) (image : Image) : Type 0 where
  pub words : image.words ≡ code_words project core
  pub lines : image.lines ≡ code_lines project core
  pub temp_start : image.temp_start ≡ core.cells
  pub words_fit : core_words project core ≤ project.node.code
  pub depth_fits : core_depth core ≤ project.node.stack

-- A core's own words are more than its node has, and so is what it needs by its numbers; or its stack cells, which are told only where the words fit.
abbrev pub TellsNeed : Project → Core → GenError → Type 0
TellsNeed project core (CodeFull need have) = (need ≡ core.size) × (have ≡ project.node.code) × (have < core_words project core) × (have < need)
TellsNeed project core (StackFull need have) =
    (core_words project core ≤ project.node.code) × (need ≡ core.depth) × (have ≡ project.node.stack) × (have < core_depth core) × (have < need)
TellsNeed project core Mem = Unit {0}
