-- What comes from outside: events, and values for cells.
use Rattle.std.specs.Prelude.{ℕ, suc, ℤ, pos, true, false, ◌&&◌, if◌then◌else◌, List, [], ◌∷◌, ◌++◌, map, bytes_eq, Option, Some, None, codes}
use Rattle.std.specs.List.{list_any}
use Rattle.aseba_words.specs.Cell.{wrapped}
use Rattle.aseba_tree.specs.Code.{Name, Handler, Project}
use Rattle.aseba_tree.specs.Line.{Event, named, numbered}
use Rattle.aseba_tree.specs.Run.{Met, unheard, refused, kills, begins}
use Rattle.aseba_tree.specs.Value.{Named, Cells, put_cell}
use Rattle.aseba_tree.specs.State.{Program, finish, tasks, part_named, State}
use Rattle.aseba_tree.specs.Step.{ended, next_line}

-- the variables with values put in place from a cell on; those past the variable's end are cut off
abbrev pub put_cells : {A : Type 0} → Named A → Name → ℕ → List A → Named A
put_cells cells name first [] = cells
put_cells cells name first (v ∷ vs) = put_cells (put_cell cells name first v) name (suc first) vs

-- A write from outside: at once where no handler is active, else each cell is held, in place of what was held for it.
abbrev pub write : State → Name → (first : ℕ) → (values : List ℤ) → State
write s name first values =
    if s.active then record s { held = put_cells s.held name first (map Some values) } else record s { cells = put_cells s.cells name first values }

-- values in a variable of the node, where it has the variable
abbrev pub in_node : Project → Name → List ℤ → Cells → Cells
in_node project name values cells = if list_any (λ v. bytes_eq v.name name) project.node.variables then put_cells cells name 0 values else cells

-- the state in which a handler begins, with its event's source and arguments
abbrev pub begun : Program → State → ℕ × Handler → (source : ℕ) → (args : List ℤ) → State
begun program s found source args = record s {
  cells = in_node program.project (codes "event.args") args (in_node program.project (codes "event.source") (wrapped (pos source) ∷ []) s.cells);
  active = true;
  work = tasks found.0 (found.1).body ++ finish (found.1).line ∷ [];
}

-- the handler of an event, with the number of `when`s before it
abbrev pub handler_of : Program → Event → Option (ℕ × Handler)
handler_of program (named name) = part_named program.source false name
handler_of program (numbered n) = None

-- An event comes to its handler: a paused handler stays as it is; one that runs is killed before the effect that was next.
abbrev pub arrived : Program → State → (source : ℕ) → (args : List ℤ) → Option (ℕ × Handler) → Met State
arrived program s source args None = record { state = s; meeting = unheard }
arrived program s source args (Some handler) =
    if s.paused && s.active then record { state = s; meeting = refused }
    else (if s.active then record { state = begun program (ended s) handler source args; meeting = kills (next_line s) }
    else record { state = begun program s handler source args; meeting = begins })

abbrev pub arrive : Program → State → Event → (source : ℕ) → (args : List ℤ) → Met State
arrive program s event source args = arrived program s source args (handler_of program event)
