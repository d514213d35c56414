-- What a status says of a call of `sim`: why it came, and what was written.
use Rattle.std.specs.Prelude.{◌≡◌, ℕ, ◌⊎◌, List, Option, Some, None}
use Rattle.aseba_tree.specs.Code.{Project}
use Rattle.aseba_tools.specs.FileText.{IsFileText, NotRead, most_text}
use Rattle.aseba_tools.specs.Given.{Held, IfGiven}
use Rattle.aseba_tools.specs.Meant.{HasBadLine, IsMeantOf}
use Rattle.aseba_tools.specs.Written.{OfSoundTree, Worked}
use Rattle.aseba_tools.specs.declared.project.Allowed.TheVariants.{KnownNatives}
use Rattle.aseba_tools.specs.declared.status.Status.{Status}
use Rattle.aseba_tools.specs.declared.status.Status.TheVariants.{BadScript}

-- How the text of a source was run, where this is the script's text, if there is one. A bad line of it is told of a source that is compiled, and nothing is
-- written.
abbrev pub Ran : Project → List ℕ → (script : Option (List ℕ)) → (ticks : ℕ) → (before after : Option (List ℕ)) → Status → Type 0
Ran project text script ticks before after (BadScript line) = OfSoundTree project text (λ program. HasBadLine program script line) × (after ≡ before)
Ran project text script ticks before after status = Worked project text (IsMeantOf project text script ticks) before after status

-- something holds of the text of a file
pub record OfText (held : Option (Option (List ℕ))) (P : List ℕ → Type 0) : Type 0 where
  pub text : List ℕ
  pub read : IsFileText most_text held text
  pub holds : P text

-- The script's file wasn't read, and nothing was written; or this holds of its text. Where no script is named, it holds of none.
abbrev pub WithScript : Option (List ℕ) → Held → (before after : Option (List ℕ)) → Status → (Option (List ℕ) → Type 0) → Type 0
WithScript None files before after status P = P None
WithScript (Some name) files before after status P = (NotRead most_text name (files name) status × (after ≡ before)) ⊎ OfText (files name) (λ text. P (Some text))

-- The project and the source weren't given, and nothing was written; or the source was run with the script.
abbrev pub Simulated : (word source : List ℕ) → (script : Option (List ℕ)) → Held → (ticks : ℕ) → (before after : Option (List ℕ)) → Status → Type 0
Simulated word source script files ticks before after status =
    IfGiven KnownNatives word source files before after status (λ project text.
    WithScript script files before after status (λ script_text. Ran project text script_text ticks before after status))
