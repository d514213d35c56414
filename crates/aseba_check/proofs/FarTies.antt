-- The first subroutine that begins too far behind is the one of the definitions.
use Rattle.std.proofs.Common.{◌≡◌, refl, sym, ◌∙◌, ap, subst, ℕ, suc, ◌+◌, ◌*◌, ◌-◌, ◌^◌, ◌≤◌, Bool, true, false, cond, if◌then◌else◌, List, [], ◌∷◌, ◌++◌, length, map, Option, Some, None, arith}
use Rattle.std.proofs.lemmas.Bool.{ltb-false, le-ltb}
use Rattle.std.proofs.lemmas.List.Elements.{recursion_from_All}
use Rattle.std.proofs.lemmas.List.Sums.{sum_by-append, sum_by-cons}
use Rattle.std.specs.Prelude.{nat_lt, not, ◌&&◌, find, filter, flat_map, sum_by, option_map}
use Rattle.aseba_tree.specs.declared.project.Project as code_project
use Rattle.aseba_tree.specs.Code.{Name, Handler, Source}
use Rattle.aseba_tree.specs.State.{Program}
use Rattle.aseba_tree.specs.Faults as tree
use Rattle.aseba_tree.specs.Inside.{InsideSized, InsideProject}
use Rattle.aseba_tree.specs.Layout.{layout, cells_of_variables}
use Rattle.aseba_tree.specs.Numbers.{is_large, jump_words, part_words, table_words, Start, starts_from}
use Rattle.aseba_tree.specs.Shape.{decl_exprs, expr_count, stmts_exprs, stmts_count, IsTree}
use Rattle.aseba_tree.specs.Sizes.{Scope}
use Rattle.aseba_tree.specs.View.{project_view, placed_view}
use Rattle.aseba_tree.specs.Limits.{farthest}
use Rattle.aseba_tree.specs.Soundness.{Refusal, variables_full, subroutine_far, far_subroutine, refusal_by, refusal}
use Rattle.aseba_tree.proofs.SizeLaws.{nil_left, nil_right}
use Rattle.aseba_tree.specs.declared.placed.Placed.{Placed}
use Rattle.aseba_check.specs.Looked.{nothing}
use Rattle.aseba_check.specs.Places.{sum_up}
use Rattle.aseba_check.specs.Refused.{far_view}
use Rattle.aseba_check.specs.Statements.{Known}
use Rattle.aseba_check.specs.Told.{pos_of}
use Rattle.aseba_check.specs.CountedParts as counted
use Rattle.aseba_check.specs.CountedPlaces.{known_at, NumbersFit}
use Rattle.aseba_check.specs.Starts as walk
use Rattle.aseba_check.proofs.NumbersLaid.{positive, laid, ready}
use Rattle.aseba_check.proofs.NumbersLimits.{IsFine, fine-left, fine-right, under-stmts}
use Rattle.aseba_check.proofs.NumbersStatements.{Ready, laid_world, stmts-are}
use Rattle.aseba_check.proofs.Refusals.{program_of}
use Rattle.aseba_check.proofs.WalkTies.{total}

-- The event table

abbrev handlers_of : List Handler → List Handler
handlers_of hs = filter (λ h. not h.is_sub) hs

table-step : (b : Bool) (n : ℕ) (h : Handler) (hs : List Handler) → n + 2 * suc (length hs) ≤ 2 ^ 64 - 1 → ((m : ℕ) → m + 2 * length hs ≤ 2 ^ 64 - 1 → walk.table_told m hs ≡ m + 2 * length (handlers_of hs))
    → walk.table_told (if b then n else sum_up n 2) hs ≡ n + 2 * length (cond (not b) (h ∷ handlers_of hs) (handlers_of hs))
table-step true n h hs k more = more n (omega arith)
table-step false n h hs k more = let here : sum_up n 2 ≡ n + 2 = omega arith in ap (λ (m : ℕ). walk.table_told m hs) here ∙ (more (n + 2) (omega arith) ∙ omega arith)

table-is : (n : ℕ) (hs : List Handler) → n + 2 * length hs ≤ 2 ^ 64 - 1 → walk.table_told n hs ≡ n + 2 * length (handlers_of hs)
table-is n [] k = omega arith
table-is n (h ∷ hs) k = table-step h.is_sub n h hs k (λ m j. table-is m hs j)

-- Subroutines

abbrev subs_of : List Handler → List Handler
subs_of hs = filter (λ h. h.is_sub) hs

abbrev refusal_at : Start → Refusal
refusal_at s = subroutine_far (s.sub).place s.address

abbrev is_far_start : Start → Bool
is_far_start s = nat_lt farthest s.address

-- the words of a part are counted, and they are few
pub record Counted (program : Program) (known : Known) (h : Handler) : Type 0 where
  pub is : counted.part_words known (jump_words program.project) h ≡ part_words program h
  pub few : part_words program h ≤ 2 ^ 63

abbrev pub EachCounted : Program → Known → List Handler → Type 0
EachCounted program known [] = Unit {0}
EachCounted program known (h ∷ hs) = Counted program known h × EachCounted program known hs

abbrev told_far : Program → Known → ℕ → List Handler → Option Refusal
told_far program known start hs = option_map far_view (walk.first_far known (jump_words program.project) start hs)

abbrev true_far : Program → ℕ → List Handler → Option Refusal
true_far program start hs = option_map refusal_at (find is_far_start (starts_from program start (subs_of hs)))

far-step : (program : Program) (known : Known) (start : ℕ) (h : Handler) (hs : List Handler) (b far : Bool) → nat_lt farthest start ≡ far → Counted program known h → ((s : ℕ) → told_far program known s hs ≡ true_far program s hs)
    → option_map far_view (if b && far then Some (record { at = pos_of h.place; start = start }) else walk.first_far known (jump_words program.project) (if b then sum_up start (counted.part_words known (jump_words program.project) h) else start) hs)
    ≡ option_map refusal_at (find is_far_start (starts_from program start (cond b (h ∷ subs_of hs) (subs_of hs))))
far-step program known start h hs true true e c more =
    ap (λ (f : Bool). option_map refusal_at (cond f (Some (record { sub = h; address = start })) (find is_far_start (starts_from program (start + part_words program h) (subs_of hs))))) (sym e)
far-step program known start h hs true false e c more =
    let near = ltb-false farthest start e in
    let few = c.few in
    let words = c.is in
    let here : sum_up start (counted.part_words known (jump_words program.project) h) ≡ start + part_words program h = omega arith in
    ap (λ (m : ℕ). told_far program known m hs) here
    ∙ (more (start + part_words program h)
    ∙ ap (λ (f : Bool). option_map refusal_at (cond f (Some (record { sub = h; address = start })) (find is_far_start (starts_from program (start + part_words program h) (subs_of hs))))) (sym e))
far-step program known start h hs false far e c more = more start

far-is : (program : Program) (known : Known) (start : ℕ) (hs : List Handler) → EachCounted program known hs → told_far program known start hs ≡ true_far program start hs
far-is program known start [] c = refl
far-is program known start (h ∷ hs) c = far-step program known start h hs h.is_sub (nat_lt farthest start) refl c.0 (λ s. far-is program known s hs c.1)

-- The words of parts

part-counted : (program : Program) (known : Known) → Ready program known → (called : List Name) (h : Handler) → IsFine (stmts_exprs h.body) → tree.stmts_faults (laid_world program called) h.body ≡ []
    → stmts_count h.body + total (stmts_exprs h.body) ≤ 4294967295 → Counted program known h
part-counted program known ready called h f none small =
    let taken = stmts-are program known ready called nothing (λ name. 0) (λ name. refl) 0 0 0 h.body f.0 none in
    let under = under-stmts program known ready called (λ name. 0) 1 (λ name. omega arith) h.body f none in
    let few = under.words in
    record { is = ap (λ t. sum_up t.words 1) taken ∙ omega arith; few = omega arith }

parts-counted : (program : Program) (known : Known) → Ready program known → (called : List Name) (before hs : List Handler) → IsFine (flat_map (λ h. stmts_exprs h.body) hs)
    → tree.parts_faults (laid_world program called) before hs ≡ [] → sum_by (λ h. stmts_count h.body) hs + total (flat_map (λ h. stmts_exprs h.body) hs) ≤ 4294967295 → EachCounted program known hs
parts-counted program known ready called before [] f none small = tt
parts-counted program known ready called before (h ∷ hs) f none small =
    let name = tree.part_name_faults program.project before h in
    let own = nil_left (name ++ tree.stmts_faults (laid_world program called) h.body) _ none in
    let statements = sum_by-cons (λ g. stmts_count g.body) h hs in
    let expressions = sum_by-append expr_count (stmts_exprs h.body) (flat_map (λ g. stmts_exprs g.body) hs) in (
      part-counted program known ready called h (fine-left (stmts_exprs h.body) _ f) (nil_right name _ own) (omega arith),
      parts-counted program known ready called (before ++ h ∷ []) hs (fine-right (stmts_exprs h.body) _ f) (nil_right (name ++ tree.stmts_faults (laid_world program called) h.body) _ none) (omega arith),
    )

-- Why a program without a fault is refused

without : (full large : Bool) (x : Refusal) (y : Option Refusal) → full ≡ false → large ≡ true → (if full then Some x else (if large then y else None)) ≡ y
without true large x y e f = cc
without false true x y e f = refl
without false false x y e f = cc

pub far-told : (program : Program) (known : Known) → tree.faults program ≡ [] → cells_of_variables program ≤ program.project.node.cells → is_large program.project ≡ true → length program.source.parts ≤ 4294967295
    → EachCounted program known program.source.parts
    → refusal program ≡ told_far program known (walk.table_told 3 program.source.parts) program.source.parts
far-told program known none room large parts c =
    let full = le-ltb program.project.node.cells (cells_of_variables program) room in
    ap (λ fs. refusal_by program (tree.first_fault fs)) none
    ∙ (without (nat_lt program.project.node.cells (cells_of_variables program)) (is_large program.project) (variables_full (cells_of_variables program) program.project.node.cells) (option_map refusal_at (far_subroutine program)) full large
    ∙ (sym (far-is program known (table_words program) program.source.parts c) ∙ ap (λ (m : ℕ). told_far program known m program.source.parts) (sym (table-is 3 program.source.parts (omega arith)))))

-- The same of a project and a source, by the places of its variables.
pub far-refused : (project : code_project.Project) (source : Source) → InsideProject project → IsTree source → tree.faults (program_of project source) ≡ [] → cells_of_variables (program_of project source) ≤ project.node.cells
    → is_large (project_view project) ≡ true → (ps : List Placed) → NumbersFit project ps → map placed_view ps ≡ layout (program_of project source)
    → refusal (program_of project source) ≡ option_map far_view (walk.first_far (known_at project source.parts ps) (jump_words (project_view project)) (walk.table_told 3 source.parts) source.parts)
far-refused project source i t none room large ps fit places =
    let program = program_of project source in
    let scope = tree.first_scope (project_view project) in
    let rest = nil_left _ (tree.recursion_faults [] (tree.sub_calls source.parts)) none in
    let parts = nil_right _ (tree.parts_faults (tree.world_of program) [] source.parts) rest in
    let vars = nil_left (tree.decls_faults scope source.vars) _ (nil_left _ (tree.parts_faults (tree.world_of program) [] source.parts) rest) in
    let node = positive project.node.variables (recursion_from_All (InsideSized 1 4096) project.node.variables i.node.variables.each.each) in
    let is = laid program t node vars in
    let called = (tree.world_of program).subs in
    let laid-parts = subst (λ (s : Scope). tree.parts_faults (record { scope = s; project = program.project; subs = called }) [] source.parts ≡ []) is.scope parts in
    let before = flat_map decl_exprs source.vars ++ stmts_exprs source.init in
    let inside = flat_map (λ h. stmts_exprs h.body) source.parts in
    let known = known_at project source.parts ps in
    let small = t.is_small in
    let all = sum_by-append expr_count before inside in
    let c = parts-counted program known (ready project source i t vars ps fit places) called [] source.parts (fine-right before inside (t.is_filled, t.is_shallow)) laid-parts (omega (arith, small, all)) in
    far-told program known none room large (omega (arith, small)) c
