-- From the fault that is told of a source to why it is refused, and from a source without a fault to its layout.
use Rattle.std.proofs.Common.{◌≡◌, refl, sym, ◌∙◌, ap, ℕ, ◌+◌, ◌≤◌, ◌<◌, Bool, true, false, if◌then◌else◌, List, [], ◌∷◌, ◌++◌, map, Option, Some, None, arith}
use Rattle.std.proofs.lemmas.List.Elements.{recursion_from_All}
use Rattle.std.proofs.lemmas.List.Sums.{sum_by-append}
use Rattle.std.proofs.lemmas.Bool.{lt-ltb}
use Rattle.std.specs.Prelude.{nat_lt, sum_by, flat_map}
use Rattle.std.specs.List.{AllByRecursion}
use Rattle.aseba_tree.specs.declared.description.Sized as code_sized
use Rattle.aseba_tree.specs.declared.decl.Decl as code_decl
use Rattle.aseba_tree.specs.declared.source.Source as code_source
use Rattle.aseba_tree.specs.declared.project.Project as code_project
use Rattle.aseba_tree.specs.Code.{Sized, Source}
use Rattle.aseba_tree.specs.Inside.{InsideSized, InsideProject, named_cells}
use Rattle.aseba_tree.specs.Shape.{decl_exprs, stmts_exprs, source_exprs, IsTree}
use Rattle.aseba_tree.specs.State.{Program}
use Rattle.aseba_tree.specs.View.{sized_view, source_view, project_view, placed_view}
use Rattle.aseba_tree.specs.Layout as layout
use Rattle.aseba_tree.specs.Soundness.{Refusal, broken, variables_full, refusal_by, refusal}
use Rattle.aseba_tree.specs.Faults as tree
use Rattle.aseba_tree.proofs.SizeLaws.{EachKnown, nil_left}
use Rattle.aseba_tree.proofs.SoundProofs.{all_left}
use Rattle.aseba_tree.specs.declared.placed.Placed.{Placed}
use Rattle.aseba_check.specs.declared.fault.Fault.{Fault}
use Rattle.aseba_check.specs.Told as told
use Rattle.aseba_check.specs.Told.{fault_view}
use Rattle.aseba_check.specs.Places.{AreInOrder, node_cells, declared_cells, placed_variables, placed_decls}
use Rattle.aseba_check.specs.Walk.{first_names, source_sizes, rules_told, SourceFits}
use Rattle.aseba_check.proofs.ExprTies.{Tells, join, limit}
use Rattle.aseba_check.proofs.WalkTies.{total, under-append}
use Rattle.aseba_check.proofs.WorldTies.{first-describes, rules-tell}
use Rattle.aseba_check.proofs.LayoutTies.{SizesAre, EachHasOne, sizes-are, all-cells, all-placed, all-in-order}

abbrev pub program_of : code_project.Project → Source → Program
program_of project source = record { project = project_view project; source = source }

-- The first fault

-- with the first fault of the cycles, the fault that is told is the first of all
pub all-tell : (project : code_project.Project) (source : Source) → InsideProject project → IsTree source → SourceFits project source → (cycles : Option Fault) → Tells cycles (tree.recursion_faults [] (tree.sub_calls source.parts))
    → Tells (told.least (rules_told project source) cycles) (tree.faults (program_of project source))
all-tell project source i t f cycles c = join (rules-tell project source i t f) c

pub refused-by : (program : Program) (fault : Fault) → Tells (Some fault) (tree.faults program) → refusal program ≡ Some (broken (fault_view fault))
refused-by program fault t = ap (refusal_by program) (sym t.told)

no-first : (fs : List tree.Fault) → None ≡ tree.first_fault fs → fs ≡ []
no-first [] e = refl
no-first (f ∷ fs) e = cc

pub faultless : (program : Program) → Tells None (tree.faults program) → tree.faults program ≡ []
faultless program t = no-first (tree.faults program) t.told

chosen : (b : Bool) (x y : Option Refusal) → b ≡ true → (if b then x else y) ≡ x
chosen true x y e = refl
chosen false x y e = cc

-- a program without a fault, whose variables have no room
pub full : (program : Program) (need have : ℕ) → tree.faults program ≡ [] → need ≡ layout.cells_of_variables program → have ≡ program.project.node.cells → have < need → refusal program ≡ Some (variables_full need have)
full program need have none n h lt =
    let more : program.project.node.cells < layout.cells_of_variables program = omega arith in
    ap (λ fs. refusal_by program (tree.first_fault fs)) none
    ∙ (chosen (nat_lt program.project.node.cells (layout.cells_of_variables program)) _ _ (lt-ltb program.project.node.cells (layout.cells_of_variables program) more)
    ∙ (ap (λ c. Some (variables_full c program.project.node.cells)) (sym n) ∙ ap (λ c. Some (variables_full need c)) (sym h)))

-- The layout

each-known : (vs : List code_sized.Sized) → AllByRecursion (InsideSized 1 4096) vs → EachKnown (map (λ v. record { name = v.name; size = Some v.size }) (map sized_view vs))
each-known [] h = tt
each-known (v ∷ vs) h = (h.0.size.0, each-known vs h.1)

pub sizes-of : (project : code_project.Project) (source : Source) → InsideProject project → IsTree source → SourceFits project source → tree.faults (program_of project source) ≡ []
    → SizesAre (project_view project).consts (source_sizes project source) source.vars
sizes-of project source i t f none =
    let program = program_of project source in
    let world = tree.world_of program in
    let scope = tree.first_scope (project_view project) in
    let vars = nil_left (tree.decls_faults scope source.vars) _ (nil_left _ (tree.parts_faults world [] source.parts) (nil_left _ (tree.recursion_faults [] (tree.sub_calls source.parts)) none)) in
    let k = t.is_small in
    let small : total (source_exprs source) ≤ limit = omega arith in
    let u = under-append (flat_map decl_exprs source.vars ++ stmts_exprs source.init) (flat_map (λ h. stmts_exprs h.body) source.parts) small in
    let v = under-append (flat_map decl_exprs source.vars) (stmts_exprs source.init) u.0 in
    let filled = all_left (flat_map decl_exprs source.vars) _ (all_left (flat_map decl_exprs source.vars ++ stmts_exprs source.init) _ t.is_filled) in
    sizes-are (first_names project) scope (first-describes project f.consts i) (each-known project.node.variables (recursion_from_All (InsideSized 1 4096) project.node.variables i.node.variables.each.each)) source.vars f.vars v.0 filled vars

each-has-one : (vs : List code_sized.Sized) → AllByRecursion (InsideSized 1 4096) vs → EachHasOne (map sized_view vs)
each-has-one [] h = tt
each-has-one (v ∷ vs) h = (h.0.size.0, each-has-one vs h.1)

view-sum : (vs : List code_sized.Sized) → sum_by (λ (v : Sized). v.size) (map sized_view vs) ≡ named_cells vs
view-sum [] = refl
view-sum (v ∷ vs) =
    sum_by-append (λ (w : Sized). w.size) (sized_view v ∷ []) (map sized_view vs) ∙ (ap (λ n. (0 + v.size) + n) (view-sum vs) ∙ sym (sum_by-append (λ (w : code_sized.Sized). w.size) (v ∷ []) vs))

node-room : (project : code_project.Project) → InsideProject project → sum_by (λ v. v.size) (map sized_view project.node.variables) ≤ 4096
node-room project i =
    let room = i.node.variables.room in
    let cells = i.node.cells.1 in
    let same = view-sum project.node.variables in
    omega arith

-- the number of cells that is added up is that of the layout
pub cells-are : (project : code_project.Project) (source : Source) → InsideProject project → IsTree source → SourceFits project source → tree.faults (program_of project source) ≡ []
    → declared_cells (node_cells 0 project.node.variables) (source_sizes project source) ≡ layout.cells_of_variables (program_of project source)
cells-are project source i t f none =
    let k = t.is_small in
    all-cells (project_view project).consts project.node.variables source.vars (source_sizes project source) (sizes-of project source i t f none) (node-room project i) (omega arith)

-- and the places are those of the layout, where the node has that many cells
pub places-are : (project : code_project.Project) (source : code_source.Source) → InsideProject project → IsTree (source_view source) → SourceFits project (source_view source) → tree.faults (program_of project (source_view source)) ≡ []
    → layout.cells_of_variables (program_of project (source_view source)) ≤ project.node.cells
    → map placed_view (placed_variables 0 project.node.variables ++ placed_decls (node_cells 0 project.node.variables) source.vars (source_sizes project (source_view source))) ≡ layout.layout (program_of project (source_view source))
places-are project source i t f none room =
    let cells = i.node.cells.1 in
    all-placed (project_view project).consts project.node.variables source.vars (source_sizes project (source_view source)) (sizes-of project (source_view source) i t f none) (omega arith)

-- one behind the other
pub in-order : (project : code_project.Project) (source : Source) → InsideProject project → IsTree source → SourceFits project source → tree.faults (program_of project source) ≡ []
    → AreInOrder 0 (layout.layout (program_of project source)) (layout.cells_of_variables (program_of project source))
in-order project source i t f none =
    all-in-order (project_view project).consts project.node.variables source.vars (source_sizes project source) (sizes-of project source i t f none)
    (each-has-one project.node.variables (recursion_from_All (InsideSized 1 4096) project.node.variables i.node.variables.each.each))

-- the same of what the code adds up and lists
pub need-is : (project : code_project.Project) (source : Source) → InsideProject project → IsTree source → SourceFits project source → tree.faults (program_of project source) ≡ []
    → (need : ℕ) (vs : List code_sized.Sized) (sizes : List (Option ℕ)) → need ≡ declared_cells (node_cells 0 vs) sizes → vs ≡ project.node.variables → sizes ≡ source_sizes project source → need ≡ layout.cells_of_variables (program_of project source)
need-is project source i t f none need vs sizes e v s =
    e ∙ (ap (λ (ws : List code_sized.Sized). declared_cells (node_cells 0 ws) sizes) v ∙ (ap (λ (os : List (Option ℕ)). declared_cells (node_cells 0 project.node.variables) os) s ∙ cells-are project source i t f none))

pub layout-is : (project : code_project.Project) (source : code_source.Source) → InsideProject project → IsTree (source_view source) → SourceFits project (source_view source) → tree.faults (program_of project (source_view source)) ≡ []
    → (ps : List Placed) (vs : List code_sized.Sized) (ds : List code_decl.Decl) (sizes : List (Option ℕ)) → ps ≡ placed_variables 0 vs ++ placed_decls (node_cells 0 vs) ds sizes
    → vs ≡ project.node.variables → ds ≡ source.vars → sizes ≡ source_sizes project (source_view source) → layout.cells_of_variables (program_of project (source_view source)) ≤ project.node.cells
    → map placed_view ps ≡ layout.layout (program_of project (source_view source))
layout-is project source i t f none ps vs ds sizes e v d s room =
    ap (λ (qs : List Placed). map placed_view qs)
    (e ∙ (ap (λ (ws : List code_sized.Sized). placed_variables 0 ws ++ placed_decls (node_cells 0 ws) ds sizes) v
    ∙ (ap (λ (es : List code_decl.Decl). placed_variables 0 project.node.variables ++ placed_decls (node_cells 0 project.node.variables) es sizes) d
    ∙ ap (λ (os : List (Option ℕ)). placed_variables 0 project.node.variables ++ placed_decls (node_cells 0 project.node.variables) source.vars os) s)))
    ∙ places-are project source i t f none room
