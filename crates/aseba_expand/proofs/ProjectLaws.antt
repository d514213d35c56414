-- A project within its limits, whose constants are cells, promises what the law of the plain form asks for.
use Rattle.std.proofs.Common.{◌≡◌, refl, sym, subst, ℕ, ◌+◌, ◌≤◌, ◌<◌, true, List, [], ◌∷◌, map, arith}
use Rattle.std.specs.Prelude.{IfOk, Result}
use Rattle.std.specs.List.{list_all, AllByRecursion}
use Rattle.std.proofs.lemmas.List.{length-map}
use Rattle.std.proofs.lemmas.List.Elements.{All-from_recursion, recursion_from_All}
use Rattle.aseba_words.specs.declared.mem.Mem.{Mem}
use Rattle.aseba_tree.specs.declared.core_tree.Core.{Core as CodeCore}
use Rattle.aseba_tree.specs.declared.description.Sized.{Sized}
use Rattle.aseba_tree.specs.declared.project.Project.{Project}
use Rattle.aseba_tree.specs.Code as tree
use Rattle.aseba_tree.specs.Core.{Core}
use Rattle.aseba_tree.specs.Inside.{InsideSized, InsideProject}
use Rattle.aseba_tree.specs.Layout.{cells_of_variables}
use Rattle.aseba_tree.specs.Numbers.{source_room}
use Rattle.aseba_tree.specs.Value.{is_cell}
use Rattle.aseba_tree.specs.State.{Program}
use Rattle.aseba_tree.specs.View.{const_view, core_view, local_view, project_view, sized_view, source_view}
use Rattle.aseba_tree.proofs.SoundProofs.{sound_is_faultless}
use Rattle.aseba_check.specs.declared.checked.Checked.{Checked}
use Rattle.aseba_check.specs.declared.counting.total.Numbers.{Numbers}
use Rattle.aseba_check.specs.Accepted.{IsChecked}
use Rattle.aseba_check.specs.CountedNumbers.{AreNumbers}
use Rattle.aseba_check.specs.Refused.{program_in}
use Rattle.aseba_expand.specs.declared.error.ExpandError.TheVariants.{VariablesFull}
use Rattle.aseba_expand.specs.Expanded.{TellsNeed}
use Rattle.aseba_expand.specs.Expands.{IsExpansion, IsProject}
use Rattle.aseba_expand.specs.Literals.{HasCellNumbers}
use Rattle.aseba_expand.specs.Plain.{plain_core}
use Rattle.aseba_expand.proofs.PlainLaw.{plain-expands}

with-cells : (vs : List Sized) → AllByRecursion (InsideSized 1 4096) vs → AllByRecursion (λ (v : tree.Sized). 1 ≤ v.size) (map sized_view vs)
with-cells [] h = tt
with-cells (v ∷ vs) h = (h.0.size.0, with-cells vs h.1)

of-few-cells : (vs : List Sized) → AllByRecursion (InsideSized 0 256) vs → AllByRecursion (λ (v : tree.Sized). v.size ≤ 256) (map sized_view vs)
of-few-cells [] h = tt
of-few-cells (v ∷ vs) h = (h.0.size.1, of-few-cells vs h.1)

is-project : (project : Project) → InsideProject project → list_all (λ c. is_cell c.value) (map const_view project.consts) ≡ true → IsProject (project_view project)
is-project project inside consts =
    let vars = project.node.variables in
    let events = project.events in
    let locals = project.node.locals in
    record {
      sizes = All-from_recursion (λ (v : tree.Sized). 1 ≤ v.size) (map sized_view vars) (with-cells vars (recursion_from_All (InsideSized 1 4096) vars inside.node.variables.each.each));
      few = (let e = length-map events sized_view in let l = length-map locals local_view in let f = inside.events.few in let g = inside.node.locals.few in omega (arith, e, l, f, g));
      events = All-from_recursion (λ (v : tree.Sized). v.size ≤ 256) (map sized_view events) (of-few-cells events (recursion_from_All (InsideSized 0 256) events inside.events.each));
      consts = consts;
    }

-- the variables of what a check gave are few
pub few-cells : (project : Project) (checked : Checked) → IsChecked project checked → checked.cells ≤ 4096
few-cells project checked is =
    let fit = ((sound_is_faultless (program_in project checked.source)).0 is.sound).1 in
    let most = is.inside.node.cells.1 in
    let same = is.cells in
    omega (arith, fit, most, same)

-- the plain form of what a check gave, where its node has the temporaries
pub expanded : (project : Project) (checked : Checked) → IsChecked project checked → HasCellNumbers (source_view checked.source) → list_all (λ c. is_cell c.value) (map const_view project.consts) ≡ true
    → cells_of_variables (program_in project checked.source) + source_room (program_in project checked.source) ≤ project.node.cells
    → (core : Core) → core ≡ plain_core (program_in project checked.source) → IsExpansion (program_in project checked.source) core
expanded project checked is numbers consts room core plain =
    let program = program_in project checked.source in
    subst (IsExpansion program) (sym plain) (plain-expands program (is-project project is.inside consts) is.is_tree numbers is.sound room)

-- What the variables and the temporaries need, as it is counted

same-need : (project : Project) (checked : Checked) (numbers : Numbers) → IsChecked project checked → AreNumbers (program_in project checked.source) numbers
    → checked.cells + numbers.room ≡ cells_of_variables (program_in project checked.source) + source_room (program_in project checked.source)
same-need project checked numbers is are = λ i. is.cells i + are.room i

pub need-is-small : (project : Project) (checked : Checked) (numbers : Numbers) → IsChecked project checked → AreNumbers (program_in project checked.source) numbers → checked.cells + numbers.room ≤ 18446744073709551615
need-is-small project checked numbers is are = let few = few-cells project checked is in let small = are.small in omega (arith, few, small)

pub told-need : (project : Project) (checked : Checked) (numbers : Numbers) → IsChecked project checked → AreNumbers (program_in project checked.source) numbers → project.node.cells < checked.cells + numbers.room
    → TellsNeed (program_in project checked.source) (VariablesFull (checked.cells + numbers.room) project.node.cells)
told-need project checked numbers is are full = (same-need project checked numbers is are, refl, full)

pub has-room : (project : Project) (checked : Checked) (numbers : Numbers) → IsChecked project checked → AreNumbers (program_in project checked.source) numbers → checked.cells + numbers.room ≤ project.node.cells
    → cells_of_variables (program_in project checked.source) + source_room (program_in project checked.source) ≤ project.node.cells
has-room project checked numbers is are fits = subst (λ n. n ≤ project.node.cells) (same-need project checked numbers is are) fits

pub room-fits : (project : Project) (checked : Checked) (numbers : Numbers) → IsChecked project checked → AreNumbers (program_in project checked.source) numbers → checked.cells + numbers.room ≤ project.node.cells
    → cells_of_variables (program_in project checked.source) + source_room (program_in project checked.source) ≤ 65535
room-fits project checked numbers is are fits = let room = has-room project checked numbers is are fits in let most = is.inside.node.cells.1 in omega (arith, room, most)

-- so it is in a scope of that program
pub scope-numbers : (program other : Program) (numbers : Numbers) → other ≡ program → AreNumbers program numbers → AreNumbers other numbers
scope-numbers program other numbers e are = subst (λ p. AreNumbers p numbers) (sym e) are

pub scope-room : (program other : Program) → other ≡ program → cells_of_variables program + source_room program ≤ 65535 → cells_of_variables other + source_room other ≤ 65535
scope-room program other e fits = subst (λ p. cells_of_variables p + source_room p ≤ 65535) (sym e) fits

pub scope-core : (program other : Program) → other ≡ program → (result : Result CodeCore Mem) → IfOk result (λ core. core_view core ≡ plain_core other) → IfOk result (λ core. core_view core ≡ plain_core program)
scope-core program other e result made = subst (λ p. IfOk result (λ core. core_view core ≡ plain_core p)) e made

-- a sum that is read in another width
pub of-both : (a b k m n : ℕ) → m ≡ a → n ≡ b → m + k ≤ n → a + k ≤ b
of-both a b k m n e f h = omega (arith, e, f, h)
