-- Which text spells which script, and what the first bad line of any other text is.
use Rattle.std.specs.Prelude.{◌≡◌, ℕ, ◌-◌, ◌≤◌, nat_le, Bool, true, ◌&&◌, List, [], ◌∷◌, length, take, map, Some}
use Rattle.std.specs.Str.Lines.{lines}
use Rattle.aseba_text.specs.Lines.{spoken}
use Rattle.aseba_tree.specs.Code.{Project}
use Rattle.aseba_tree.specs.Layout.{Placed}
use Rattle.aseba_driver.specs.Reading.{entry_of}
use Rattle.aseba_driver.specs.declared.entry.Entry.{Entry}
use Rattle.aseba_driver.specs.declared.fault.ScriptError.{ScriptError}
use Rattle.aseba_driver.specs.declared.fault.ScriptError.TheVariants as error

-- from a time on, times never fall
abbrev pub never_fall : ℕ → List ℕ → Bool
never_fall time [] = true
never_fall time (next ∷ times) = nat_le time next && never_fall next times

-- the times of entries never fall
abbrev pub AreInOrder : List Entry → Type 0
AreInOrder script = never_fall 0 (map (λ entry. entry.time) script) ≡ true

-- Lines spell a script: each that says something says the entry at its place, and their times never fall.
pub record ScriptLines (project : Project) (places : List Placed) (rows : List (List ℕ)) (script : List Entry) : Type 0 where
  pub said : map (entry_of project places) (spoken rows) ≡ map Some script
  pub times : AreInOrder script

abbrev pub ScriptText : Project → List Placed → List ℕ → List Entry → Type 0
ScriptText project places text script = ScriptLines project places (lines text) script

-- The first bad line, counted from 1: the lines before it spell a script, and with it they spell none.
pub record IsBadLine (project : Project) (places : List Placed) (rows : List (List ℕ)) (n : ℕ) : Type 0 where
  pub least : 1 ≤ n
  pub most : n ≤ length rows
  pub before : (script : List Entry) × ScriptLines project places (take (n - 1) rows) script
  pub breaks : (script : List Entry) → ScriptLines project places (take n rows) script → ⊥

-- the error tells of the text's first bad line; want of memory tells nothing of it
abbrev pub TellsLine : Project → List Placed → List ℕ → ScriptError → Type 0
TellsLine project places text (error.Line n) = IsBadLine project places (lines text) n
TellsLine project places text error.Mem = Unit {0}
