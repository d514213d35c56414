-- How a project is written down: a line for each thing that it says, in this order.
use Rattle.std.specs.Prelude.{ℕ, List, [], ◌∷◌, ◌++◌, map, codes, decimal, flat_map}
use Rattle.std.specs.Fmt.{signed_decimal}
use Rattle.aseba_tree.specs.declared.description.Sized.{Sized}
use Rattle.aseba_tree.specs.declared.description.Local.{Local}
use Rattle.aseba_tree.specs.declared.description.Param.{Param}
use Rattle.aseba_tree.specs.declared.description.Native.{Native}
use Rattle.aseba_tree.specs.declared.project.Const.{Const}
use Rattle.aseba_tree.specs.declared.project.Project.{Project}
use Rattle.aseba_describe.specs.declared.entry.Entry.{Entry}
use Rattle.aseba_describe.specs.declared.entry.Entry.TheVariants as entry

-- a parameter of a native
abbrev pub param_text : Param → List ℕ
param_text p = codes " " ++ signed_decimal p.size ++ codes " " ++ p.name

-- the lines of what a project may have none or more of, with their ends
abbrev pub sized_line : List ℕ → Sized → List ℕ
sized_line word s = word ++ s.name ++ codes " " ++ decimal s.size ++ codes "\n"

abbrev pub local_line : Local → List ℕ
local_line l = codes "local " ++ l.name ++ codes " " ++ l.text ++ codes "\n"

abbrev pub native_line : Native → List ℕ
native_line n = codes "native " ++ n.name ++ flat_map param_text n.params ++ codes " ; " ++ n.text ++ codes "\n"

abbrev pub const_line : Const → List ℕ
const_line c = codes "const " ++ c.name ++ codes " " ++ signed_decimal c.value ++ codes "\n"

-- the text of a line, without the end of the line
abbrev pub entry_text : Entry → List ℕ
entry_text (entry.Node name) = codes "node " ++ name
entry_text (entry.Code n) = codes "code " ++ decimal n
entry_text (entry.Vars n) = codes "vars " ++ decimal n
entry_text (entry.Stack n) = codes "stack " ++ decimal n
entry_text (entry.Id n) = codes "id " ++ decimal n
entry_text (entry.Variable v) = codes "variable " ++ v.name ++ codes " " ++ decimal v.size
entry_text (entry.Local l) = codes "local " ++ l.name ++ codes " " ++ l.text
entry_text (entry.Native n) = codes "native " ++ n.name ++ flat_map param_text n.params ++ codes " ; " ++ n.text
entry_text (entry.Event e) = codes "event " ++ e.name ++ codes " " ++ decimal e.size
entry_text (entry.Const c) = codes "const " ++ c.name ++ codes " " ++ signed_decimal c.value

-- what a project says, line by line
abbrev pub node_entries : Project → List Entry
node_entries p =
    entry.Node p.node.name ∷ entry.Code p.node.code ∷ entry.Vars p.node.cells ∷ entry.Stack p.node.stack ∷ entry.Id p.id ∷ []

abbrev pub entries : Project → List Entry
entries p =
    node_entries p
    ++ map (λ v. entry.Variable v) p.node.variables
    ++ map (λ l. entry.Local l) p.node.locals
    ++ map (λ n. entry.Native n) p.node.natives
    ++ map (λ e. entry.Event e) p.events
    ++ map (λ c. entry.Const c) p.consts

abbrev pub entry_line : Entry → List ℕ
entry_line e = entry_text e ++ codes "\n"

abbrev pub project_text : Project → List ℕ
project_text p = flat_map entry_line (entries p)
