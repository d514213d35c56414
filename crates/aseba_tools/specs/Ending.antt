-- Which calls can only end well: with all done, or for want of memory.
use Rattle.std.specs.Prelude.{◌≡◌, ℕ, ◌+◌, ◌≤◌, ◌⊎◌, Bool, true, false, List, Option, None, Some, IfSome, IsSomeAnd}
use Rattle.aseba_edge.specs.Counts.{Rose}
use Rattle.aseba_message.specs.Cut.{IsGoodStream}
use Rattle.aseba_node.specs.Session.{bytes_of}
use Rattle.aseba_tree.specs.Code as tree
use Rattle.aseba_tree.specs.Layout.{cells_of_variables}
use Rattle.aseba_tree.specs.Numbers.{source_words, source_depth, source_room}
use Rattle.aseba_tree.specs.State.{Program}
use Rattle.aseba_tree.specs.View.{project_view}
use Rattle.aseba_tree.specs.declared.project.Project.{Project}
use Rattle.aseba_tools.specs.Command.{Command}
use Rattle.aseba_tools.specs.Command.Command.{sim, compile, node, dump}
use Rattle.aseba_tools.specs.Dialing.{PolledEnd}
use Rattle.aseba_tools.specs.FileText.{IsFileText, NotRead, most_text, most_dumped}
use Rattle.aseba_tools.specs.Given.{Held, AreGiven, NotGiven}
use Rattle.aseba_tools.specs.Meant.{HasBadLine}
use Rattle.aseba_tools.specs.ProjectWord.{NoProject}
use Rattle.aseba_tools.specs.Written.{OfSoundTree}
use Rattle.aseba_tools.specs.declared.project.Allowed.{Allowed}
use Rattle.aseba_tools.specs.declared.project.Allowed.TheVariants.{AnyNatives, KnownNatives}
use Rattle.aseba_tools.specs.declared.status.Status.{Status}
use Rattle.aseba_tools.specs.declared.status.Status.TheVariants.{Done, Memory, Absent, BadProject, BadScript, TooBig}

-- all was done, or memory didn't suffice
abbrev pub EndsWell : Status → Type 0
EndsWell status = (status ≡ Done) ⊎ (status ≡ Memory)

-- a count of faults didn't rise
abbrev pub Stayed : (before after : ℕ) → Type 0
Stayed before after = Rose before after → ⊥

-- the status blames a file: there is none of its name, it is too long, or a line of it is bad
abbrev pub blames_file : Status → Bool
blames_file (Absent file) = true
blames_file (TooBig file) = true
blames_file (BadProject line) = true
blames_file (BadScript line) = true
blames_file _ = false

-- of what may come of files, no status blames one
abbrev pub NoneBlamed : (Comes : Status → Type 0) → Type 0
NoneBlamed Comes = (status : Status) → Comes status → blames_file status ≡ false

-- the variables, temporaries, words and values on the stack of a source are no more than the node has
pub record IsInside (program : Program) : Type 0 where
  pub cells : cells_of_variables program + source_room program ≤ program.project.node.cells
  pub words : source_words program ≤ program.project.node.code
  pub depth : source_depth program ≤ program.project.node.stack

-- a script's file isn't to blame, and no line of its text is bad for the source; where there is none, nothing is asked
abbrev pub IsRightScript : Option (List ℕ) → Held → tree.Project → (text : List ℕ) → Type 0
IsRightScript None files project text = Unit {0}
IsRightScript (Some name) files project text =
    NoneBlamed (NotRead most_text name (files name))
    × ((script : List ℕ) (line : ℕ) → IsFileText most_text (files name) script → OfSoundTree project text (λ program. HasBadLine program (Some script) line) → ⊥)

-- The files of project and source aren't to blame; the source that they give is sound and inside the node's numbers, and something more holds of it.
pub record AreRight (allowed : Allowed) (word source : List ℕ) (files : Held) (More : tree.Project → List ℕ → Type 0) : Type 0 where
  pub none_blamed : NoneBlamed (NotGiven allowed word source files)
  pub sound : (project : Project) (text : List ℕ) → AreGiven allowed word source files project text → OfSoundTree (project_view project) text IsInside
  pub more : (project : Project) (text : List ℕ) → AreGiven allowed word source files project text → More (project_view project) text

-- what a link gave has no bad length
abbrev pub HasGoodInput : Option PolledEnd → Type 0
HasGoodInput polled = IfSome polled (λ end. IsSomeAnd end.contents (λ input. IsGoodStream (bytes_of input.given)))

-- What a command asks for is right: its files, and what its link gave, if it had one.
abbrev pub IsRight : Command → Held → (polled : Option PolledEnd) → Type 0
IsRight (sim project source ticks script) files polled = AreRight KnownNatives project source files (IsRightScript script files)
IsRight (compile project source) files polled = AreRight AnyNatives project source files (λ given text. Unit {0})
IsRight (node project target turns) files polled = NoneBlamed (NoProject KnownNatives project (files project)) × HasGoodInput polled
IsRight (dump target project raw) files polled =
    NoneBlamed (NotRead most_dumped target (files target)) × ((bytes : List ℕ) → IsFileText most_dumped (files target) bytes → IsGoodStream bytes)
IsRight _ files polled = ⊥
