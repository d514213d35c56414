-- How the lines of a script are spelled: the time, and behind a blank an event or the values that are set.
use Rattle.std.specs.Prelude.{◌≡◌, ◌↔◌, ◌⊎◌, ℕ, ◌+◌, ◌<◌, ◌≤◌, ℤ, true, All, List, ◌++◌, length, codes, decimal, Some}
use Rattle.aseba_text.specs.Fields.{has_no_blank}
use Rattle.aseba_text.specs.Numbers.{IsCell}
use Rattle.aseba_words.specs.declared.limits.TheConstants.{MOST_EVENT_CELLS}
use Rattle.aseba_tree.specs.Code.{Name, Project}
use Rattle.aseba_tree.specs.Line.{blank_number, blank_cells, named}
use Rattle.aseba_tree.specs.Events.{event_number}
use Rattle.aseba_tree.specs.Layout.{Placed, placed_named}
use Rattle.aseba_driver.specs.declared.entry.Act.{Act}
use Rattle.aseba_driver.specs.declared.entry.Act.TheVariants.{Event, Set}
use Rattle.aseba_driver.specs.declared.entry.Entry.{Entry}
use Rattle.aseba_driver.specs.declared.fields.TheConstants.{MOST_TIME}
use Rattle.aseba_driver.specs.Reading.{entry_of}

-- An event of the project, with its arguments behind its name. Its source may stand between them, and where it doesn't it is 0.
pub record SaysEvent (project : Project) (name : Name) (event source : ℕ) (args : List ℤ) (text : List ℕ) : Type 0 where
  pub number : event_number project (named name) ≡ Some event
  pub near : source ≤ 65535
  pub few : length args ≤ MOST_EVENT_CELLS
  pub cells : All IsCell args
  pub spelled : ((source ≡ 0) × (text ≡ codes "event " ++ name ++ blank_cells args)) ⊎ (text ≡ codes "event " ++ name ++ codes " from" ++ blank_number source ++ blank_cells args)

-- Some values for the cells of a variable from one on, all inside it.
pub record SaysSet (places : List Placed) (name : Name) (start : ℕ) (values : List ℤ) (text : List ℕ) : Type 0 where
  pub place : Placed
  pub is_place : placed_named places name ≡ Some place
  pub first : ℕ
  pub start_is : start ≡ place.start + first
  pub near : first ≤ 65535
  pub some : 0 < length values
  pub inside : first + length values ≤ place.size
  pub cells : All IsCell values
  pub spelled : text ≡ codes "set " ++ name ++ blank_number first ++ blank_cells values

abbrev pub SaysAct : Project → List Placed → Name → Act → List ℕ → Type 0
SaysAct project places name (Event event source args) text = SaysEvent project name event source args text
SaysAct project places name (Set start values) text = SaysSet places name start values text

-- A line says an entry, whose name is one field.
pub record SaysEntry (project : Project) (places : List Placed) (line : List ℕ) (e : Entry) : Type 0 where
  pub early : e.time ≤ MOST_TIME
  pub field : has_no_blank e.name ≡ true
  pub behind : List ℕ
  pub says : SaysAct project places e.name e.act behind
  pub line_is : line ≡ decimal e.time ++ codes " " ++ behind

-- what is read of a line is what it says
abbrev pub LinesAreSpelled : Type 0
LinesAreSpelled = (project : Project) (places : List Placed) (line : List ℕ) (e : Entry) → (entry_of project places line ≡ Some e) ↔ SaysEntry project places line e
