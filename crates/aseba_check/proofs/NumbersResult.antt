-- The numbers of a source that a check gave.
use Rattle.std.proofs.Common.{◌≡◌, refl, ◌∙◌, subst, ℕ, suc, ◌+◌, ◌*◌, ◌-◌, ◌≤◌, max, Bool, true, false, cond, if◌then◌else◌, List, [], ◌∷◌, ◌++◌, length, map, arith}
use Rattle.std.specs.Prelude.{not, option_to_list, filter, flat_map, sum_by}
use Rattle.std.specs.List.{AllByRecursion}
use Rattle.std.proofs.lemmas.List.Elements.{recursion_from_All}
use Rattle.std.proofs.lemmas.List.Sums.{sum_by-cons, sum_by-append}
use Rattle.aseba_tree.specs.declared.project.Project as code_project
use Rattle.aseba_tree.specs.Code.{Name, Expr, Decl, Handler, Source}
use Rattle.aseba_tree.specs.State.{Program}
use Rattle.aseba_tree.specs.Sizes.{Scope}
use Rattle.aseba_tree.specs.Inside.{InsideSized, InsideProject}
use Rattle.aseba_tree.specs.View.{project_view, placed_view}
use Rattle.aseba_tree.specs.Layout.{layout}
use Rattle.aseba_tree.specs.Faults.{World, stmts_faults, parts_faults, decls_faults, recursion_faults, sub_calls, first_scope, world_of, faults}
use Rattle.aseba_tree.specs.Shape.{is_filled, expr_count, decl_exprs, stmts_exprs, source_exprs, stmts_count, IsTree}
use Rattle.aseba_tree.specs.Numbers.{greatest, jump_words, stmts_depth, stmts_room, part_words, source_words, source_depth, source_room, depth_of_sub}
use Rattle.aseba_tree.proofs.SizeLaws.{nil_left, nil_right}
use Rattle.aseba_tree.proofs.ElementLaws.{laid_scope}
use Rattle.aseba_tree.specs.declared.placed.Placed.{Placed}
use Rattle.aseba_check.specs.Statements.{Known as Meanings}
use Rattle.aseba_check.specs.CountedPlaces.{known_at, NumbersFit}
use Rattle.aseba_check.specs.CountedParts as whole
use Rattle.aseba_check.proofs.ExprTies.{limit}
use Rattle.aseba_check.proofs.WalkTies.{total}
use Rattle.aseba_check.proofs.NumbersHeld.{held, greatest-cons}
use Rattle.aseba_check.proofs.NumbersStatements.{Ready, laid_world}
use Rattle.aseba_check.proofs.NumbersLimits.{IsFine, fine-left, fine-right, is_shallow, under-stmts, under-value}
use Rattle.aseba_check.proofs.NumbersValues.{ValuesHaveNone, values-have-none}
use Rattle.aseba_check.proofs.NumbersLaid.{laid, positive, ready}
use Rattle.aseba_check.proofs.NumbersTotal.{PartsHaveNone, parts-have-none, parts_exprs, IsFit, depths-are, depths-low, values_words, values_depth, values_room, init-words, init-depth, init-room, entries, handlers_depth, all_room, deeper, source-is}

total-append : (es fs : List Expr) → total (es ++ fs) ≡ total es + total fs
total-append es fs = sum_by-append expr_count es fs

-- statements and expressions of parts
abbrev pub parts_count : List Handler → ℕ
parts_count hs = sum_by (λ h. stmts_count h.body) hs + total (parts_exprs hs)

pub all-fit : (program : Program) (called : List Name) (most : ℕ) (hs : List Handler) → IsFine (parts_exprs hs) → PartsHaveNone (laid_world program called) hs → parts_count hs ≤ most → AllByRecursion (IsFit program called most) hs
all-fit program called most [] f none few = tt
all-fit program called most (h ∷ hs) f none few =
    let count = sum_by-cons (λ (g : Handler). stmts_count g.body) h hs in
    let all = total-append (stmts_exprs h.body) (parts_exprs hs) in (
      record { fine = fine-left (stmts_exprs h.body) (parts_exprs hs) f; none = none.0; few = omega (arith, few, count, all) },
      all-fit program called most hs (fine-right (stmts_exprs h.body) (parts_exprs hs) f) none.1 (omega (arith, few, count, all)),
    )

entries-few : (hs : List Handler) → entries hs ≤ 2 * length hs
entries-few [] = omega arith
entries-few (h ∷ hs) = chosen h.is_sub (entries-few hs)
  where
    chosen : (b : Bool) → entries hs ≤ 2 * length hs → 2 * length (cond (not b) (h ∷ filter (λ g. not g.is_sub) hs) (filter (λ g. not g.is_sub) hs)) ≤ 2 * suc (length hs)
    chosen true k = omega arith
    chosen false k = omega arith

-- what parts take at most
pub record PartsUnder (program : Program) (depths : Name → ℕ) (B : ℕ) (hs : List Handler) : Type 0 where
  pub words : sum_by (part_words program) hs ≤ 67108864 * parts_count hs + length hs
  pub depth : handlers_depth program depths hs ≤ B
  pub room : all_room program hs ≤ 67108864 * parts_count hs

module _ (program : Program) (known : Meanings) (ready-now : Ready program known) (called : List Name) (depths : Name → ℕ) (B most : ℕ) (low : (name : Name) → suc (depths name) ≤ B) (wide : 2 * most ≤ B) where
  pub parts-under : (hs : List Handler) → AllByRecursion (IsFit program called most) hs → PartsUnder program depths B hs
  parts-under [] f = record { words = omega arith; depth = omega arith; room = omega arith }
  parts-under (h ∷ hs) f =
      let own = under-stmts program known ready-now called depths B low h.body f.0.fine f.0.none in
      let rest = parts-under hs f.1 in
      let count = sum_by-cons (λ (g : Handler). stmts_count g.body) h hs in
      let all = total-append (stmts_exprs h.body) (parts_exprs hs) in
      let sum = sum_by-cons (part_words program) h hs in
      let deep = deeper program known ready-now called depths h hs h.is_sub refl in
      let rooms = greatest-cons (stmts_room program h.body) (map (λ (g : Handler). stmts_room program g.body) hs) in
      let few = f.0.few in
      let ow = own.words in
      let od = own.depth (omega (arith, few, wide)) in
      let or = own.room in
      let rw-hs = rest.words in
      let rd = rest.depth in
      let rr = rest.room in
      record {
        words = omega (arith, count, all, sum, ow, rw-hs);
        depth = chosen h.is_sub (stmts_depth program depths h.body) (handlers_depth program depths hs) (handlers_depth program depths (h ∷ hs)) deep od rd;
        room = omega (arith, count, all, rooms, or, rr);
      }
    where
      chosen : (b : Bool) (x y z : ℕ) → z ≡ max (if b then 0 else x) y → x ≤ B → y ≤ B → z ≤ B
      chosen true x y z e p q = omega (arith, e, p, q)
      chosen false x y z e p q = omega (arith, e, p, q)

  pub values-under : (ds : List Decl) → IsFine (flat_map decl_exprs ds) → ValuesHaveNone (laid_scope program) ds
      → (values_words program ds ≤ 67108864 * total (flat_map decl_exprs ds)) × (values_depth program ds ≤ total (flat_map decl_exprs ds)) × (values_room program ds ≤ 67108864 * total (flat_map decl_exprs ds))
  values-under [] f none = (omega arith, omega arith, omega arith)
  values-under (d ∷ ds) f none =
      let own = under-value program known ready-now d.value (fine-right (option_to_list d.size) (option_to_list d.value) (fine-left (decl_exprs d) (flat_map decl_exprs ds) f)) none.0 in
      let rest = values-under ds (fine-right (decl_exprs d) (flat_map decl_exprs ds) f) none.1 in
      let all = total-append (decl_exprs d) (flat_map decl_exprs ds) in
      let parts = total-append (option_to_list d.size) (option_to_list d.value) in
      let ow = own.0 in
      let od = own.1 in
      let or = own.2 in
      let rw-ds = rest.0 in
      let rd = rest.1 in
      let rr = rest.2 in
      (omega (arith, all, parts, ow, rw-ds), omega (arith, all, parts, od, rd), omega (arith, all, parts, or, rr))

-- A source without a fault

abbrev pub program_at : code_project.Project → Source → Program
program_at project source = record { project = project_view project; source = source }

-- all that is known of a source without a fault in its project
pub record IsWhole (program : Program) (called : List Name) : Type 0 where
  pub vars : IsFine (flat_map decl_exprs program.source.vars)
  pub values : ValuesHaveNone (laid_scope program) program.source.vars
  pub fine : IsFine (stmts_exprs program.source.init)
  pub none : stmts_faults (laid_world program called) program.source.init ≡ []
  pub parts : AllByRecursion (IsFit program called limit) program.source.parts
  pub few : total (flat_map decl_exprs program.source.vars) + (stmts_count program.source.init + total (stmts_exprs program.source.init)) + parts_count program.source.parts + length program.source.parts ≤ limit

-- the subroutines that statements may call
abbrev pub called_in : Program → List Name
called_in program = (world_of program).subs

pub is-whole : (project : code_project.Project) (source : Source) → InsideProject project → IsTree source → faults (program_at project source) ≡ [] → IsWhole (program_at project source) (called_in (program_at project source))
is-whole project source i t none =
    let program = program_at project source in
    let world = world_of program in
    let scope = first_scope program.project in
    let called = called_in program in
    let to-parts = nil_left _ (recursion_faults [] (sub_calls source.parts)) none in
    let to-init = nil_left (decls_faults scope source.vars ++ stmts_faults world source.init) (parts_faults world [] source.parts) to-parts in
    let vars = nil_left (decls_faults scope source.vars) (stmts_faults world source.init) to-init in
    let init = nil_right (decls_faults scope source.vars) (stmts_faults world source.init) to-init in
    let parts = parts-have-none world [] source.parts (nil_right (decls_faults scope source.vars ++ stmts_faults world source.init) (parts_faults world [] source.parts) to-parts) in
    let lay = laid program t (positive project.node.variables (recursion_from_All (InsideSized 1 4096) project.node.variables i.node.variables.each.each)) vars in
    let same : world ≡ laid_world program called = λ j. record { scope = lay.scope j; project = program.project; subs = called } in
    let fine : IsFine (source_exprs source) = (t.is_filled, t.is_shallow) in
    let decls = flat_map decl_exprs source.vars in
    let front = fine-left (decls ++ stmts_exprs source.init) (parts_exprs source.parts) fine in
    let first = total-append (decls ++ stmts_exprs source.init) (parts_exprs source.parts) in
    let second = total-append decls (stmts_exprs source.init) in
    let small = t.is_small in
    record {
      vars = fine-left decls (stmts_exprs source.init) front;
      values = subst (λ (s : Scope). ValuesHaveNone s source.vars) lay.scope (values-have-none scope source.vars vars);
      fine = fine-right decls (stmts_exprs source.init) front;
      none = subst (λ (w : World). stmts_faults w source.init ≡ []) same init;
      parts = all-fit program called limit source.parts (fine-right (decls ++ stmts_exprs source.init) (parts_exprs source.parts) fine) (subst (λ (w : World). PartsHaveNone w source.parts) same parts) (omega (arith, small, first, second));
      few = omega (arith, small, first, second);
    }

-- the most stack cells that any call takes
abbrev pub deepest : ℕ
deepest = 12884901888

held-within : (n : ℕ) → n ≤ 18446744073709551615 → held n ≡ n
held-within n h = omega arith

-- no number of a source reaches the greatest one, nor does that of the temporaries with all cells of a node
pub within : (program : Program) (known : Meanings) → Ready program known → (called : List Name) → IsWhole program called
    → (source_words program ≤ 18446744073709551615) × (source_depth program ≤ 18446744073709551615) × (source_room program + 4096 ≤ 18446744073709551615)
within program known ready-now called w =
    let source = program.source in
    let depths = depth_of_sub program in
    let few = w.few in
    let low : (name : Name) → suc (depths name) ≤ deepest = λ name. let l = depths-low program known ready-now called limit w.parts (length source.parts) name in omega (arith, l, few) in
    let vars = values-under program known ready-now called depths deepest limit low (omega arith) source.vars w.vars w.values in
    let init = under-stmts program known ready-now called depths deepest low source.init w.fine w.none in
    let parts = parts-under program known ready-now called depths deepest limit low (omega arith) source.parts w.parts in
    let words = init-words program source.vars source.init in
    let depth = init-depth program depths source.vars source.init in
    let room = init-room program source.vars source.init in
    let table = entries-few source.parts in
    let vw = vars.0 in
    let vd = vars.1 in
    let vr = vars.2 in
    let iw = init.words in
    let id = init.depth (omega (arith, few)) in
    let ir = init.room in
    let pw = parts.words in
    let pd = parts.depth in
    let pr = parts.room in
    (omega (arith, few, words, table, vw, iw, pw), omega (arith, few, depth, vd, id, pd), omega (arith, few, room, vr, ir, pr))

-- the numbers as they are counted are those of the definitions
pub counted-source : (project : code_project.Project) (source : Source) → InsideProject project → IsTree source → faults (program_at project source) ≡ [] → (ps : List Placed) → NumbersFit project ps → map placed_view ps ≡ layout (program_at project source)
    → whole.placed_taken project source ps
    ≡ record { words = source_words (program_at project source); depth = source_depth (program_at project source); room = source_room (program_at project source) }
counted-source project source i t none ps fit e =
    let program = program_at project source in
    let known = known_at project source.parts ps in
    let called = called_in program in
    let w = is-whole project source i t none in
    let scope = first_scope program.project in
    let vars = nil_left (decls_faults scope source.vars) _ (nil_left _ (parts_faults (world_of program) [] source.parts) (nil_left _ (recursion_faults [] (sub_calls source.parts)) none)) in
    let r = ready project source i t vars ps fit e in
    let b = within program known r called w in
    source-is program known r called (whole.depths_after known (jump_words program.project) source.parts (length source.parts)) (depths-are program known r called limit w.parts (length source.parts)) limit w.parts w.vars w.values w.fine w.none
    ∙ (λ j. record { words = held-within (source_words program) b.0 j; depth = held-within (source_depth program) b.1 j; room = held-within (source_room program) (let r = b.2 in omega arith) j })

-- the temporaries and all cells that a node may have are a number of 64 bits together
pub room-small : (project : code_project.Project) (source : Source) → InsideProject project → IsTree source → faults (program_at project source) ≡ [] → (ps : List Placed) → NumbersFit project ps → map placed_view ps ≡ layout (program_at project source)
    → source_room (program_at project source) + 4096 ≤ 18446744073709551615
room-small project source i t none ps fit e =
    let w = is-whole project source i t none in
    let vars = nil_left (decls_faults (first_scope (project_view project)) source.vars) _ (nil_left _ (parts_faults (world_of (program_at project source)) [] source.parts) (nil_left _ (recursion_faults [] (sub_calls source.parts)) none)) in
    (within (program_at project source) (known_at project source.parts ps) (ready project source i t vars ps fit e) (called_in (program_at project source)) w).2
