-- Which project a word names, or why it names none.
use Rattle.std.specs.Prelude.{◌≡◌, ◌≢◌, ℕ, ◌+◌, ◌<◌, ◌⊎◌, ℤ, Bool, MatchBool, nat_eq, List, length, map, take, codes, Option}
use Rattle.std.specs.Str.Lines.{lines}
use Rattle.std.specs.Cmp.Lexicographic.{pointwise}
use Rattle.aseba_tree.specs.declared.description.Native.{Native}
use Rattle.aseba_tree.specs.declared.project.Project.{Project}
use Rattle.aseba_describe.specs.Grammar.{ProjectText, IsBadLine}
use Rattle.aseba_describe.specs.Defaults.{default_project}
use Rattle.aseba_describe.specs.NativeLines.{IsNativeLine}
use Rattle.aseba_tools.specs.FileText.{IsFileText, NotRead, most_text}
use Rattle.aseba_tools.specs.declared.project.Allowed.{Allowed}
use Rattle.aseba_tools.specs.declared.project.Allowed.TheVariants.{KnownNatives}
use Rattle.aseba_tools.specs.declared.status.Status.{Status}
use Rattle.aseba_tools.specs.declared.status.Status.TheVariants.{BadProject, Memory}

-- the word `default` stands for the default project, any other for a file
abbrev pub is_default : List ℕ → Bool
is_default word = pointwise nat_eq word (codes "default")

-- what a native is called by: its name and the sizes of its parameters
pub record Heading : Type 0 where
  pub name : List ℕ
  pub sizes : List ℤ

abbrev pub heading : Native → Heading
heading n = record { name = n.name; sizes = map (λ p. p.size) n.params }

abbrev pub headings : List Native → List Heading
headings natives = map heading natives

-- natives are the first of the known ones, in order
abbrev pub AreFirst : List Native → List Native → Type 0
AreFirst natives known = headings natives ≡ take (length natives) (headings known)

-- so many natives are, and the next one isn't
pub record IsFirstOther (natives known : List Native) (k : ℕ) : Type 0 where
  pub inside : k < length natives
  pub before : take k (headings natives) ≡ take k (headings known)
  pub differs : take (k + 1) (headings natives) ≢ take (k + 1) (headings known)

-- the natives that every machine has
abbrev pub known_natives : List Native
known_natives = default_project.node.natives

-- A text spells a project. Where a machine is made for it, its natives are the machine's.
pub record IsTextProject (allowed : Allowed) (text : List ℕ) (p : Project) : Type 0 where
  pub spelled : ProjectText text p
  pub natives : allowed ≡ KnownNatives → AreFirst p.node.natives known_natives

-- the line of the first native that a machine doesn't have, in the text of a project
pub record IsOtherNative (text : List ℕ) (line : ℕ) : Type 0 where
  pub project : Project
  pub spelled : ProjectText text project
  pub others : ℕ
  pub first : IsFirstOther project.node.natives known_natives others
  pub line_is : IsNativeLine (lines text) others line

-- the line that is to blame where no such project is spelled: a bad one of the text, and else that of a native, where the natives matter
abbrev pub IsToBlame : Allowed → List ℕ → ℕ → Type 0
IsToBlame allowed text line = IsBadLine (lines text) line ⊎ ((allowed ≡ KnownNatives) × IsOtherNative text line)

pub record IsFileProject (allowed : Allowed) (held : Option (Option (List ℕ))) (p : Project) : Type 0 where
  pub text : List ℕ
  pub read : IsFileText most_text held text
  pub of_text : IsTextProject allowed text p

-- the project of a word, where the files hold this under it
abbrev pub IsProject : Allowed → List ℕ → Option (Option (List ℕ)) → Project → Type 0
IsProject allowed word held p = MatchBool (is_default word) (p ≡ default_project) (IsFileProject allowed held p)

-- a file's text has this line to blame
pub record IsBlamed (allowed : Allowed) (held : Option (Option (List ℕ))) (line : ℕ) : Type 0 where
  pub text : List ℕ
  pub read : IsFileText most_text held text
  pub blame : IsToBlame allowed text line

-- why a text spells no such project
abbrev pub NoTextProject : Allowed → List ℕ → Status → Type 0
NoTextProject allowed text (BadProject line) = IsToBlame allowed text line
NoTextProject allowed text Memory = Unit {0}
NoTextProject allowed text _ = ⊥

-- why a file gives no project
abbrev pub NoFileProject : Allowed → List ℕ → Option (Option (List ℕ)) → Status → Type 0
NoFileProject allowed word held (BadProject line) = IsBlamed allowed held line
NoFileProject allowed word held status = NotRead most_text word held status

-- The status of a word that gives no project; for the default one only memory may not suffice.
abbrev pub NoProject : Allowed → List ℕ → Option (Option (List ℕ)) → Status → Type 0
NoProject allowed word held status = MatchBool (is_default word) (status ≡ Memory) (NoFileProject allowed word held status)
