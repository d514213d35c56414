-- What drives a machine, and what it writes: the lines of the machine's run, with the source's lines in the place of places of the code.
use Rattle.std.specs.Prelude.{◌≡◌, ℕ, ℤ, ◌-◌, ◌≤◌, nat_lt, true, false, List, [], ◌∷◌, ◌++◌, if◌then◌else◌, map, take, drop, length, slice_index, Option, None, Some, MatchOption}
use Rattle.aseba_tree.specs.Code.{Name, Sized, Project}
use Rattle.aseba_tree.specs.GoodScript.{is_good_script}
use Rattle.aseba_tree.specs.Layout.{placed_from, placed_named, cells_at}
use Rattle.aseba_tree.specs.Layout as tree
use Rattle.aseba_tree.specs.Line.{Line, named, line_by, lines_text, told, var, end}
use Rattle.aseba_tree.specs.Script.{Action, arrives, sets, Script}
use Rattle.aseba_tree.specs.Script as script
use Rattle.aseba_tree.specs.Events.{event_number}
use Rattle.aseba_tree.specs.Run.{System, Run, begin, ticks, acting, action_reports, ticking, tick_lines, all_ticking, lines_from}
use Rattle.aseba_tree.specs.View.{placed_view, project_view}
use Rattle.aseba_vm.specs.State.{State}
use Rattle.aseba_target.specs.Node.{Layout}
use Rattle.aseba_target.specs.MachineRun.{machine_system, machine_lines}
use Rattle.aseba_driver.specs.declared.entry.Act.{Act}
use Rattle.aseba_driver.specs.declared.entry.Act.TheVariants.{Event, Set}
use Rattle.aseba_driver.specs.declared.entry.Entry.{Entry}
use Rattle.aseba_driver.specs.declared.legend.Legend.{Legend}
use Rattle.aseba_driver.specs.declared.moment.Moment.{Moment}

-- Entries

-- the first cell of a variable that an address names
abbrev pub first_cell : Option tree.Placed → ℕ → ℕ
first_cell None address = address
first_cell (Some v) address = address - v.start

abbrev pub action_of : List tree.Placed → Name → Act → Action
action_of places name (Event event source args) = arrives (named name) source args
action_of places name (Set start values) = sets name (first_cell (placed_named places name) start) values

-- an entry as the definitions have it, and a script
abbrev pub entry_view : List tree.Placed → Entry → script.Entry
entry_view places e = record { time = e.time; action = action_of places e.name e.act }

abbrev pub script_of : List tree.Placed → List Entry → Script
script_of places entries = map (entry_view places) entries

-- the event has the number of its name; the cells lie behind the beginning of the variable of the name
abbrev pub IsNamed : Project → List tree.Placed → Name → Act → Type 0
IsNamed project places name (Event event source args) = event_number project (named name) ≡ Some event
IsNamed project places name (Set start values) = MatchOption (placed_named places name) ⊥ (λ v. v.start ≤ start)

abbrev pub IsKnown : Project → List tree.Placed → Entry → Type 0
IsKnown project places e = IsNamed project places e.name e.act

-- where the places are those of variables that lie one behind the other, the script is one of those that there are
abbrev pub IsGood : Project → List tree.Placed → List Entry → Type 0
IsGood project places entries = (variables : List Sized) → places ≡ placed_from 0 variables → is_good_script project variables (script_of places entries) ≡ true

-- Legends

-- where the variables lie
abbrev pub layout_by : Legend → Layout
layout_by legend =
    let places = map placed_view legend.places.now in
    let many = length legend.project.now.node.variables in
    record { node = take many places; own = drop many places; cells = legend.cells }

-- the machine as a system, and the text of lines of its run
abbrev pub system_by : Legend → System State
system_by legend = machine_system (project_view legend.project.now) (layout_by legend)

abbrev pub told_by : Legend → List Line → List ℕ
told_by legend lines = lines_text (map (line_by (slice_index legend.lines.now)) lines)

-- Runs

-- a run at a moment, with a machine
abbrev pub at_moment : Moment → State → Run State
at_moment moment machine = record { ticks = moment.ticks; effects = moment.effects; state = machine }

-- a run is at this moment, with this machine
pub record IsAt (run : Run State) (moment : Moment) (machine : State) : Type 0 where
  pub ticks : run.ticks ≡ moment.ticks
  pub effects : run.effects ≡ moment.effects
  pub machine_is : run.state ≡ machine

-- the run behind a tick without an entry, and what it tells
abbrev pub after_tick : Legend → Moment → State → Run State
after_tick legend moment machine = ticking (system_by legend) [] (at_moment moment machine) false

abbrev pub tick_text : Legend → Moment → State → List ℕ
tick_text legend moment machine = told_by legend (tick_lines (system_by legend) [] (at_moment moment machine) false)

-- the run behind the ticks up to so many, without an entry, and what they tell
abbrev pub after_ticks : Legend → (until : ℕ) → Moment → State → Run State
after_ticks legend until moment machine = all_ticking (system_by legend) [] (at_moment moment machine) (ticks (until - moment.ticks))

abbrev pub ticks_text : Legend → (until : ℕ) → Moment → State → List ℕ
ticks_text legend until moment machine = told_by legend (lines_from (system_by legend) [] (at_moment moment machine) (ticks (until - moment.ticks)))

-- the machine behind an entry, and what the entry tells at a moment
abbrev pub after_act : Legend → State → Entry → State
after_act legend machine e = acting (system_by legend) machine (entry_view (map placed_view legend.places.now) e).action

abbrev pub act_text : Legend → Moment → State → Entry → List ℕ
act_text legend moment machine e =
    told_by legend (map (told moment.ticks moment.effects) (action_reports (system_by legend) machine (entry_view (map placed_view legend.places.now) e).action))

-- the run behind the ticks up to an entry and the entry itself, and what they tell
abbrev pub after_entry : Legend → Moment → State → Entry → Run State
after_entry legend moment machine e = let run = after_ticks legend e.time moment machine in record run { state = after_act legend run.state e }

abbrev pub entry_text : Legend → Moment → State → Entry → List ℕ
entry_text legend moment machine e =
    let run = after_ticks legend e.time moment machine in
    ticks_text legend e.time moment machine ++ act_text legend (record { ticks = run.ticks; effects = run.effects }) run.state e

-- the entries in front of the first one whose time isn't below a number
abbrev pub due_by : ℕ → List Entry → List Entry
due_by n [] = []
due_by n (e ∷ es) = if nat_lt e.time n then e ∷ due_by n es else []

-- the run behind so many ticks with a script, what they tell, and with what the run leaves
abbrev pub after_script : Legend → List Entry → ℕ → State → Run State
after_script legend entries n machine = all_ticking (system_by legend) (script_of (map placed_view legend.places.now) entries) (begin machine) (ticks n)

abbrev pub script_text : Legend → List Entry → ℕ → State → List ℕ
script_text legend entries n machine = told_by legend (lines_from (system_by legend) (script_of (map placed_view legend.places.now) entries) (begin machine) (ticks n))

abbrev pub run_text : Legend → List Entry → ℕ → State → List ℕ
run_text legend entries n machine =
    told_by legend (machine_lines (project_view legend.project.now) (layout_by legend) machine (script_of (map placed_view legend.places.now) entries) n)

-- the lines of variables that a memory holds, and the last one
abbrev pub var_lines : List ℤ → List tree.Placed → List Line
var_lines cells places = map (λ v. var v.0 v.1) (cells_at cells places)

abbrev pub end_line : Moment → List Line
end_line moment = end moment.ticks moment.effects ∷ []

abbrev pub ending_text : List tree.Placed → List ℤ → Moment → List ℕ
ending_text own cells moment = lines_text (var_lines cells own) ++ lines_text (end_line moment)
