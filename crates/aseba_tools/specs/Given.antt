-- A project and the text of a source, as two words name them, or why there is none of both.
use Rattle.std.specs.Prelude.{◌≡◌, ℕ, ◌⊎◌, List, Option}
use Rattle.aseba_tree.specs.Code as tree
use Rattle.aseba_tree.specs.View.{project_view}
use Rattle.aseba_tree.specs.declared.project.Project.{Project}
use Rattle.aseba_tools.specs.FileText.{IsFileText, NotRead, most_text}
use Rattle.aseba_tools.specs.ProjectWord.{IsProject, NoProject}
use Rattle.aseba_tools.specs.declared.project.Allowed.{Allowed}
use Rattle.aseba_tools.specs.declared.status.Status.{Status}

-- what the files hold under each name
abbrev pub Held : Type 0
Held = List ℕ → Option (Option (List ℕ))

-- the project of a word, and the text of a source's file
pub record AreGiven (allowed : Allowed) (word source : List ℕ) (files : Held) (project : Project) (text : List ℕ) : Type 0 where
  pub is_project : IsProject allowed word (files word) project
  pub is_text : IsFileText most_text (files source) text

-- the word gives a project, and the source's file was not read
pub record NoSource (allowed : Allowed) (word source : List ℕ) (files : Held) (status : Status) : Type 0 where
  pub project : Project
  pub is_project : IsProject allowed word (files word) project
  pub unread : NotRead most_text source (files source) status

-- Why the two weren't given: the project is looked at first.
abbrev pub NotGiven : Allowed → (word source : List ℕ) → Held → Status → Type 0
NotGiven allowed word source files status = NoProject allowed word (files word) status ⊎ NoSource allowed word source files status

-- something holds of the project and the text that are given
pub record OfGiven (allowed : Allowed) (word source : List ℕ) (files : Held) (P : tree.Project → List ℕ → Type 0) : Type 0 where
  pub project : Project
  pub text : List ℕ
  pub given : AreGiven allowed word source files project text
  pub holds : P (project_view project) text

-- The two weren't given, and nothing was written; or this holds of them.
abbrev pub IfGiven : Allowed → (word source : List ℕ) → Held → (before after : Option (List ℕ)) → Status → (tree.Project → List ℕ → Type 0) → Type 0
IfGiven allowed word source files before after status P = (NotGiven allowed word source files status × (after ≡ before)) ⊎ OfGiven allowed word source files P
