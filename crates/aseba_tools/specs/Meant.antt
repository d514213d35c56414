-- What `sim` is to write for the text of a source and that of a script.
use Rattle.std.specs.Prelude.{◌≡◌, ℕ, ◌<◌, ◌≤◌, Bool, All, List, [], ◌++◌, length, map, slice_index, Option, Some, None}
use Rattle.std.specs.Str.Lines.{lines}
use Rattle.aseba_tree.specs.Code.{Project}
use Rattle.aseba_tree.specs.Layout.{layout}
use Rattle.aseba_tree.specs.Line.{Line, line_by, lines_text}
use Rattle.aseba_tree.specs.Run.{Paced}
use Rattle.aseba_tree.specs.Lines.{source_lines, source_moments}
use Rattle.aseba_tree.specs.Numbers.{source_weight}
use Rattle.aseba_tree.specs.Script.{Script}
use Rattle.aseba_tree.specs.State.{Program}
use Rattle.aseba_target.specs.Node.{layout_of, started}
use Rattle.aseba_target.specs.MachineRun.{machine_lines, machine_beats}
use Rattle.aseba_compile.specs.Compiled.{Compiled}
use Rattle.aseba_driver.specs.Driven.{script_of}
use Rattle.aseba_driver.specs.Grammar.{IsBadLine, ScriptText}
use Rattle.aseba_driver.specs.declared.entry.Entry.{Entry}
use Rattle.aseba_tools.specs.CodeLine.{code_line}
use Rattle.aseba_tools.specs.Written.{OfSoundTree}

-- Scripts

-- a text spells a script for the variables of a program, where they lie
pub record IsSpelled (program : Program) (text : List ℕ) (script : Script) : Type 0 where
  pub entries : List Entry
  pub spelled : ScriptText program.project (layout program) text entries
  pub script_is : script ≡ script_of (layout program) entries

-- the script of a text, and the empty one where there is no text
abbrev pub IsScript : Program → Option (List ℕ) → Script → Type 0
IsScript program None script = script ≡ []
IsScript program (Some text) script = IsSpelled program text script

-- There are words that are code of the program, and the text of the script has this bad line, which is the first.
pub record IsBadScript (program : Program) (text : List ℕ) (line : ℕ) : Type 0 where
  pub words : List ℕ
  pub places : List ℕ
  pub code : Compiled program words places
  pub bad : IsBadLine program.project (layout program) (lines text) line

abbrev pub HasBadLine : Program → Option (List ℕ) → ℕ → Type 0
HasBadLine program None line = ⊥
HasBadLine program (Some text) line = IsBadScript program text line

-- Runs

-- the ticks that are effects of some words in the node's empty code, with a script
abbrev pub effects_of : Program → List ℕ → Script → ℕ → List Bool
effects_of program words script ticks = machine_beats program.project (layout_of program) (started program.project words) script ticks

-- What is told is what the source means, where a step is done at each of these ticks, which keep the source's pace.
pub record TellsMeaning (program : Program) (script : Script) (beats : List Bool) (told : List Line) : Type 0 where
  pub lines : told ≡ source_lines program script beats
  pub paced : Paced (source_weight program) (source_moments program script beats)

-- The text of a run with a script: the line of some words that fit the node, and then what the machine alone, without the source, tells of them, with a line of
-- the source for each place of the code. What is told is what the source means. With these lines the words are code of the source, whatever arrives and however
-- long they run.
pub record IsMeant (program : Program) (script : Script) (ticks : ℕ) (text : List ℕ) : Type 0 where
  pub words : List ℕ
  pub are_words : All (λ word. word < 65536) words
  pub fits : length words ≤ program.project.node.code
  pub lines : List ℕ
  pub told : List Line
  pub tells : told ≡ map (line_by (slice_index lines)) (machine_lines program.project (layout_of program) (started program.project words) script ticks)
  pub text_is : text ≡ code_line words ++ lines_text told
  pub means : TellsMeaning program script (effects_of program words script ticks) told
  pub code : Compiled program words lines

-- the text of a run with the script of a text
pub record IsMeantWith (program : Program) (script_text : Option (List ℕ)) (ticks : ℕ) (text : List ℕ) : Type 0 where
  pub script : Script
  pub is_script : IsScript program script_text script
  pub meant : IsMeant program script ticks text

-- the text of a run of the one tree that a source's text spells
abbrev pub IsMeantOf : Project → List ℕ → (script_text : Option (List ℕ)) → (ticks : ℕ) → (written : List ℕ) → Type 0
IsMeantOf project text script_text ticks written = OfSoundTree project text (λ program. IsMeantWith program script_text ticks written)
