-- What the compiler answers: a program that runs as the text means, or why there is none.
use Rattle.std.specs.Prelude.{◌≡◌, ℕ, ◌<◌, All, List, map}
use Rattle.aseba_tree.specs.Code.{Project, Source}
use Rattle.aseba_tree.specs.Layout.{layout, cells_of_variables}
use Rattle.aseba_tree.specs.Soundness.{Sound}
use Rattle.aseba_tree.specs.State as tree
use Rattle.aseba_tree.specs.View.{placed_view}
use Rattle.aseba_codegen.specs.declared.image.Image.{Image}
use Rattle.aseba_compile.specs.declared.program.Program.{Program}
use Rattle.aseba_compile.specs.declared.refusal.Refusal.{Refusal}
use Rattle.aseba_compile.specs.declared.refusal.Refusal.TheVariants.{Lex, Syntax, Mem}
use Rattle.aseba_compile.specs.Coding.{IsNear}
use Rattle.aseba_compile.specs.Compiled.{Compiled}
use Rattle.aseba_compile.specs.Reading.{IsOnlyTree, IsTextRefused}
use Rattle.aseba_compile.specs.Refused.{IsTreeRefused}

-- code of a source that isn't far too long for the node, with the first cell behind its variables
pub record IsCodeFor (source : tree.Program) (image : Image) : Type 0 where
  pub near : IsNear source
  pub cells : image.temp_start ≡ cells_of_variables source
  pub code : Compiled source image.words image.lines

-- A program of a sound source: its words have 16 bits and are code of the source, and its variables lie in the layout.
pub record IsProgram (source : tree.Program) (program : Program) : Type 0 where
  pub sound : Sound source
  pub words : All (λ word. word < 65536) program.image.words
  pub places : map placed_view program.places ≡ layout source
  pub code : IsCodeFor source program.image

-- something holds of the one tree that a text spells
pub record OfOnlyTree (project : Project) (text : List ℕ) (P : tree.Program → Type 0) : Type 0 where
  pub source : Source
  pub only : IsOnlyTree project text source
  pub holds : P (record { project = project; source = source })

-- the program of a text
abbrev pub IsCompiled : Project → List ℕ → Program → Type 0
IsCompiled project text program = OfOnlyTree project text (λ source. IsProgram source program)

-- Why a text isn't compiled: it spells no tree, or its one tree has no code. Want of memory stands in no error of a pass.
abbrev pub IsRefused : Project → List ℕ → Refusal → Type 0
IsRefused project text (Lex error) = IsTextRefused project text (Lex error)
IsRefused project text (Syntax error) = IsTextRefused project text (Syntax error)
IsRefused project text Mem = Unit {0}
IsRefused project text refusal = OfOnlyTree project text (λ source. IsTreeRefused source refusal)
