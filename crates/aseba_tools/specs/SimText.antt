-- What `sim` writes of a program.
use Rattle.std.specs.Prelude.{ℕ, ◌++◌, List, drop, map, take, length, slice_index}
use Rattle.aseba_tree.specs.Line.{line_by, lines_text}
use Rattle.aseba_tree.specs.View.{placed_view, project_view}
use Rattle.aseba_tree.specs.declared.project.Project.{Project}
use Rattle.aseba_target.specs.Node.{Layout, started}
use Rattle.aseba_target.specs.MachineRun.{machine_lines}
use Rattle.aseba_compile.specs.declared.program.Program.{Program}
use Rattle.aseba_driver.specs.Driven.{script_of}
use Rattle.aseba_driver.specs.declared.entry.Entry.{Entry}
use Rattle.aseba_tools.specs.CodeLine.{code_line}

-- where the variables of a program lie on the node of a project
abbrev pub layout_with : Project → Program → Layout
layout_with project program =
    let places = map placed_view program.places in
    let many = length project.node.variables in
    record { node = take many places; own = drop many places; cells = program.image.temp_start }

-- the line of the words, and then the lines of the machine's run of them with a script
abbrev pub sim_text : Project → Program → List Entry → ℕ → List ℕ
sim_text project program entries n =
    code_line program.image.words
    ++ lines_text (map (line_by (slice_index program.image.lines)) (machine_lines (project_view project) (layout_with project program) (started (project_view project) program.image.words) (script_of (map placed_view program.places) entries) n))
