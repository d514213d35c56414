-- What a status says of a call of `compile`: why it came, and what was written.
use Rattle.std.specs.Prelude.{◌≡◌, ℕ, ◌<◌, All, List, Option}
use Rattle.aseba_tree.specs.Code as tree
use Rattle.aseba_tree.specs.State.{Program}
use Rattle.aseba_compile.specs.Compiled.{Compiled}
use Rattle.aseba_tools.specs.CodeLine.{code_line}
use Rattle.aseba_tools.specs.Given.{Held, IfGiven}
use Rattle.aseba_tools.specs.Written.{OfSoundTree, Worked}
use Rattle.aseba_tools.specs.declared.project.Allowed.TheVariants.{AnyNatives}
use Rattle.aseba_tools.specs.declared.status.Status.{Status}

-- A text is the line of some words of 16 bits that are code of a source, with some lines of it.
pub record IsCodeLine (program : Program) (text : List ℕ) : Type 0 where
  pub words : List ℕ
  pub are_words : All (λ word. word < 65536) words
  pub lines : List ℕ
  pub code : Compiled program words lines
  pub text_is : text ≡ code_line words

-- the words of the one tree that a source's text spells are to be written
abbrev pub IsCodeOf : tree.Project → List ℕ → (written : List ℕ) → Type 0
IsCodeOf project text written = OfSoundTree project text (λ program. IsCodeLine program written)

-- The project and the source weren't given, and nothing was written; or the source was worked on.
abbrev pub CodeWritten : (word source : List ℕ) → Held → (before after : Option (List ℕ)) → Status → Type 0
CodeWritten word source files before after status =
    IfGiven AnyNatives word source files before after status (λ project text. Worked project text (IsCodeOf project text) before after status)
