-- Which text spells which project, and what the first bad line of any other text is.
use Rattle.std.specs.Prelude.{◌≡◌, ℕ, ◌+◌, ◌-◌, ◌<◌, ◌≤◌, ◌⊎◌, ◌==◌, Bool, true, not, List, [], ◌∷◌, ◌++◌, length, take, filter, map}
use Rattle.std.specs.Str.Lines.{lines}
use Rattle.aseba_tree.specs.declared.project.Project.{Project}
use Rattle.aseba_describe.specs.declared.fault.ProjectError.{ProjectError}
use Rattle.aseba_describe.specs.declared.fault.ProjectError.TheVariants as error
use Rattle.aseba_text.specs.Lines.{spoken}
use Rattle.aseba_describe.specs.Spelling.{entry_text, entries}
use Rattle.aseba_describe.specs.Plain.{IsPlain}

-- Lines spell a project: those that say something are a line for each thing that the project says, in order, and the project keeps the rules.
pub record ProjectLines (rows : List (List ℕ)) (p : Project) : Type 0 where
  pub said : spoken rows ≡ map entry_text (entries p)
  pub plain : IsPlain p

-- The lines of a text end with a line feed, or a carriage return and a line feed; the last line may have no end.
abbrev pub ProjectText : List ℕ → Project → Type 0
ProjectText text p = ProjectLines (lines text) p

-- lines with which a project may begin
abbrev pub BeginsProject : List (List ℕ) → Type 0
BeginsProject rows = (more : List (List ℕ)) × (p : Project) × ProjectLines (rows ++ more) p

-- The first bad line, counted from 1. A project may begin with the lines before it. With it too, none may; or it is the line behind the last, and
-- these lines are no whole project.
pub record IsBadLine (rows : List (List ℕ)) (n : ℕ) : Type 0 where
  pub least : 1 ≤ n
  pub most : n ≤ length rows + 1
  pub before : BeginsProject (take (n - 1) rows)
  pub breaks : n ≤ length rows → BeginsProject (take n rows) → ⊥
  pub lacks : length rows < n → (p : Project) → ProjectLines rows p → ⊥

-- the error tells of the text's first bad line; want of memory tells nothing of it
abbrev pub TellsLine : List ℕ → ProjectError → Type 0
TellsLine text (error.Line n) = IsBadLine (lines text) n
TellsLine text error.Mem = Unit {0}

-- A text spells one project, or it has one first bad line.
pub record IsDecided (text : List ℕ) : Type 0 where
  pub some : ((p : Project) × ProjectText text p) ⊎ ((n : ℕ) × IsBadLine (lines text) n)
  pub one_project : (p q : Project) → ProjectText text p → ProjectText text q → p ≡ q
  pub one_line : (m n : ℕ) → IsBadLine (lines text) m → IsBadLine (lines text) n → m ≡ n
  pub never_both : (p : Project) (n : ℕ) → ProjectText text p → IsBadLine (lines text) n → ⊥
