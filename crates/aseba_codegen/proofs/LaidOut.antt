-- The code of each core that its node has room for is laid out, and the work of the init code and of each handler stands where it begins.
use Rattle.std.proofs.Common.{◌≡◌, ℕ, zero, suc, ◌+◌, ◌≤◌, ◌≢◌, inl, inr, not, max, Bool, true, false, if◌then◌else◌, List, [], ◌∷◌, ◌++◌, length, map, slice_get, Some, is_some, refl, sym, ap, ◌∙◌, subst, arith, true≢false}
use Rattle.std.proofs.lemmas.Bool.{ltb-false}
use Rattle.std.proofs.lemmas.Option.{slice_get_within, same_Some}
use Rattle.std.specs.List.{list_all, fold}
use Rattle.std.specs.Prelude.{filter, slice_index, option_map, unwrap_or}
use Rattle.aseba_tree.specs.Code.{Project}
use Rattle.aseba_tree.specs.Core.{no_core, CorePart, Core}
use Rattle.aseba_tree.specs.CoreCells.{list_has_cells}
use Rattle.aseba_tree.specs.CoreLines.{list_is_lined}
use Rattle.aseba_tree.specs.CoreNumbers.{is_handler, core_handlers, core_words, core_list_depth, core_sub_depth, core_body, core_list_weight, core_weight}
use Rattle.aseba_tree.specs.CoreShape.{is_good_list, IsCore}
use Rattle.aseba_tree.specs.CoreStep.{finish_core, CoreProgram, core_tasks, whens_before, core_handler_of}
use Rattle.aseba_tree.specs.Numbers.{greatest}
use Rattle.aseba_vm.specs.Words.{end_word, sub_return_word}
use Rattle.aseba_codegen.specs.declared.coded.Coded.{Coded}
use Rattle.aseba_codegen.specs.Agrees.{IsNode, HasRoom}
use Rattle.aseba_codegen.specs.Places.{edge_places}
use Rattle.aseba_codegen.specs.Words.{site_of, on_line, list_code, body_code, init_start, part_starts, core_code}
use Rattle.aseba_codegen.proofs.Reach.{Holds, Lined, Stands, stands-split, stands-lined}
use Rattle.aseba_codegen.proofs.Values.{and-left, and-right}
use Rattle.aseba_codegen.proofs.Lengths.{code-long}
use Rattle.aseba_codegen.proofs.GoodLists.{weight-least}
use Rattle.aseba_codegen.proofs.Depth.{deep}
use Rattle.aseba_codegen.proofs.PartOrder.{stands-init, stands-part, sub-near}
use Rattle.aseba_codegen.proofs.Edges.{edge_places-apart, marked-init, marked-part}
use Rattle.aseba_codegen.proofs.EventTable.{found}
use Rattle.aseba_codegen.proofs.Outside.{Handled}
use Rattle.aseba_codegen.proofs.Placed.{Marked, Plan, LaidSub, Laid, Does}
use Rattle.aseba_codegen.proofs.PlacedLaws.{marked-split, ListFits, does-list}

-- a node has room for a core whose numbers of words and of stack cells it has
pub has-room : (project : Project) (core : Core) → IsNode project → IsCore project core → core.size ≤ project.node.code → core.depth ≤ project.node.stack → HasRoom project core
has-room project core node shape size depth = record {
  node = node;
  shape = shape;
  words = (let least = shape.has_size in omega arith);
  deep = (let least = shape.has_depth in omega arith);
}

-- the code of a program's core, with what its subroutines take
abbrev pub plan_of : CoreProgram → Plan
plan_of program = record {
  program = program;
  code = core_code program.project program.core;
  weight = core_weight program.core;
  starts = part_starts program.project program.core;
  places = edge_places program.project program.core;
  subs = core_sub_depth program.core (length program.core.parts);
}

-- Lists

all-at : {A : Type 0} (test : A → Bool) (xs : List A) (i : ℕ) (x : A) → list_all test xs ≡ true → slice_get xs i ≡ Some x → test x ≡ true
all-at test [] i x h got = cc
all-at test (y ∷ xs) zero x h got = ap test (sym (same_Some y x got)) ∙ and-left _ _ h
all-at test (y ∷ xs) (suc i) x h got = all-at test xs i x (and-right _ _ h) got

above-first : (most : ℕ) (ns : List ℕ) → most ≤ fold max most ns
above-first most [] = omega arith
above-first most (n ∷ ns) = let rest : max most n ≤ fold max (max most n) ns = above-first (max most n) ns in omega arith

greatest-at : {A : Type 0} (f : A → ℕ) (xs : List A) (most i : ℕ) (x : A) → slice_get xs i ≡ Some x → f x ≤ fold max most (map f xs)
greatest-at f [] most i x got = cc
greatest-at f (y ∷ xs) most zero x got =
    let same : f y ≡ f x = ap f (same_Some y x got) in
    let rest : max most (f y) ≤ fold max (max most (f y)) (map f xs) = above-first (max most (f y)) (map f xs) in
    omega arith
greatest-at f (y ∷ xs) most (suc i) x got = greatest-at f xs (max most (f y)) i x got

-- what passes a test is among those that do
greatest-of : {A : Type 0} (f : A → ℕ) (test : A → Bool) (xs : List A) (most i : ℕ) (x : A) → slice_get xs i ≡ Some x → test x ≡ true → f x ≤ fold max most (map f (filter test xs))
greatest-of f test [] most i x got passes = cc
greatest-of f test (y ∷ xs) most zero x got passes =
    let same : y ≡ x = same_Some y x got in by_test (test y) (ap test same ∙ passes) (ap f same)
  where
    by_test : (b : Bool) → b ≡ true → f y ≡ f x → f x ≤ fold max most (map f (if b then y ∷ filter test xs else filter test xs))
    by_test true e same = let rest : max most (f y) ≤ fold max (max most (f y)) (map f (filter test xs)) = above-first (max most (f y)) (map f (filter test xs)) in omega arith
    by_test false e same = absurd (true≢false (sym e))
greatest-of f test (y ∷ xs) most (suc i) x got passes =
    by_test (test y) (greatest-of f test xs (max most (f y)) i x got passes) (greatest-of f test xs most i x got passes)
  where
    by_test : (b : Bool) → f x ≤ fold max (max most (f y)) (map f (filter test xs)) → f x ≤ fold max most (map f (filter test xs)) → f x ≤ fold max most (map f (if b then y ∷ filter test xs else filter test xs))
    by_test true on over = on
    by_test false on over = over

module _ (program : CoreProgram) where
  abbrev project : Project
  project = program.project

  abbrev core : Core
  core = program.core

  abbrev plan : Plan
  plan = plan_of program

  abbrev addresses : List ℕ
  addresses = part_starts program.project program.core

  -- the code of a part, by its kind
  part-stands : (which : ℕ) (part : CorePart) (b : Bool) → slice_get core.parts which ≡ Some part → is_handler part ≡ b
      → Stands plan.code (slice_index addresses which) (body_code (site_of project addresses (not b)) part.line part.body)
  part-stands which part b got kind =
      subst (λ b. Stands plan.code (slice_index addresses which) (body_code (site_of project addresses (not b)) part.line part.body)) kind (stands-part project core which part got)

  part-marked : (which : ℕ) (part : CorePart) (b : Bool) → slice_get core.parts which ≡ Some part → is_handler part ≡ b
      → Marked plan.places (slice_index addresses which) (whens_before core which) (body_code (site_of project addresses (not b)) part.line part.body)
  part-marked which part b got kind =
      subst (λ b. Marked plan.places (slice_index addresses which) (whens_before core which) (body_code (site_of project addresses (not b)) part.line part.body)) kind (marked-part project core which part got)

  heavy : 3 ≤ core_weight core
  heavy = let least : 3 ≤ core_list_weight core.cells core.init 0 = weight-least core.cells core.init 0 in omega arith

  part-light : (which : ℕ) (part : CorePart) → slice_get core.parts which ≡ Some part → core_list_weight core.cells part.body 0 ≤ core_weight core
  part-light which part got =
      let among : core_list_weight core.cells part.body 0 ≤ greatest (map (λ part. core_list_weight core.cells part.body 0) core.parts) = greatest-at (λ part. core_list_weight core.cells part.body 0) core.parts 0 which part got in
      omega arith

  part-good : IsCore project core → (which : ℕ) (part : CorePart) → slice_get core.parts which ≡ Some part → is_good_list project core [] part.body ≡ true
  part-good shape which part got =
      all-at (λ part. is_good_list project core [] part.body) core.parts which part
      (and-right (is_good_list project core [] core.init) (list_all (λ part. is_good_list project core [] part.body) core.parts) shape.is_good) got

  part-numbers : IsCore project core → (which : ℕ) (part : CorePart) → slice_get core.parts which ≡ Some part → list_has_cells part.body ≡ true
  part-numbers shape which part got =
      all-at (λ part. list_has_cells part.body) core.parts which part (and-right (list_has_cells core.init) (list_all (λ part. list_has_cells part.body) core.parts) shape.numbers) got

  part-lined : IsCore project core → (which : ℕ) (part : CorePart) → slice_get core.parts which ≡ Some part → list_is_lined core.cells part.body ≡ true
  part-lined shape which part got =
      all-at (λ part. list_is_lined core.cells part.body) core.parts which part (and-right (list_is_lined core.cells core.init) (list_all (λ part. list_is_lined core.cells part.body) core.parts) shape.lined) got

  laid-sub : HasRoom project core → (which : ℕ) (part : CorePart) → slice_get core.parts which ≡ Some part → is_handler part ≡ false → LaidSub plan which part
  laid-sub h which part got kind =
      let words : List Coded = list_code (site_of project addresses true) part.body in
      let at : ℕ = slice_index addresses which in
      let split = stands-split plan.code at words (on_line part.line (sub_return_word ∷ [])) (part-stands which part false got kind) in
      let marks = marked-split plan.places at (whens_before core which) words (on_line part.line (sub_return_word ∷ [])) (part-marked which part false got kind) in
      let body : core_body core which ≡ part.body = ap (λ o. unwrap_or (option_map (λ (part : CorePart). part.body) o) no_core) got in
      record {
        near = sub-near project core h.shape h.words which part got kind;
        stands = split.0;
        marked = marks.0;
        last = stands-lined plan.code part.line (at + length words) (sub_return_word ∷ []) split.1;
        good = part-good h.shape which part got;
        numbers = part-numbers h.shape which part got;
        lined = part-lined h.shape which part got;
        light = part-light which part got;
        deep = subst (λ ss. core_list_depth plan.subs ss ≤ plan.subs which) body (deep core (h.shape).ends which (slice_get_within core.parts which part got));
      }

  pub laid : HasRoom project core → Laid plan
  laid h =
      let node : IsNode project = h.node in
      let many : length plan.code ≤ project.node.code = let words = h.words in omega (arith, code-long project core) in
      record {
        few_events = node.events;
        few_natives = node.natives;
        heavy = heavy;
        short = let most = node.code in omega arith;
        near = λ small. let most : project.node.code ≤ 2048 = ltb-false 2048 project.node.code small in omega arith;
        apart = edge_places-apart project core;
        subs_at = laid-sub h;
      }

  -- the work of the init code stands where it begins
  pub init-placed : HasRoom project core → Does plan (core_tasks 0 core.init ++ finish_core 1 ∷ []) (init_start project core) [] 0 []
  init-placed h =
      let words : List Coded = list_code (site_of project addresses false) core.init in
      let at : ℕ = init_start project core in
      let shape : IsCore project core = h.shape in
      let split = stands-split plan.code at words (on_line 1 (end_word ∷ [])) (stands-init project core) in
      let marks = marked-split plan.places at 0 words (on_line 1 (end_word ∷ [])) (marked-init project core) in
      let room : core_list_depth plan.subs core.init ≤ project.node.stack = let enough = h.deep in omega arith in
      let fits : ListFits plan core.init 0 at [] 0 [] = record {
        good = and-left (is_good_list project core [] core.init) (list_all (λ part. is_good_list project core [] part.body) core.parts) shape.is_good;
        numbers = and-left (list_has_cells core.init) (list_all (λ part. list_has_cells part.body) core.parts) shape.numbers;
        lined = and-left (list_is_lined core.cells core.init) (list_all (λ part. list_is_lined core.cells part.body) core.parts) shape.lined;
        room = omega arith;
        light = omega arith;
        stands = split.0;
        marked = marks.0;
        ends = λ last. refl;
      } in
      let last : Lined plan.code 1 (at + length words) (end_word ∷ []) = stands-lined plan.code 1 (at + length words) (end_word ∷ []) split.1 in
      let least : 0 + 3 ≤ core_weight core = let l : 3 ≤ core_weight core = heavy in omega arith in
      does-list plan core.init (finish_core 1 ∷ []) 0 at [] 0 [] fits (last, least, refl, refl)

  -- so does that of a handler
  pub handler-placed : HasRoom project core → (which : ℕ) (part : CorePart) → slice_get core.parts which ≡ Some part → is_handler part ≡ true
      → Does plan (core_tasks (whens_before core which) part.body ++ finish_core part.line ∷ []) (slice_index addresses which) [] 0 []
  handler-placed h which part got kind =
      let words : List Coded = list_code (site_of project addresses false) part.body in
      let at : ℕ = slice_index addresses which in
      let shape : IsCore project core = h.shape in
      let split = stands-split plan.code at words (on_line part.line (end_word ∷ [])) (part-stands which part true got kind) in
      let marks = marked-split plan.places at (whens_before core which) words (on_line part.line (end_word ∷ [])) (part-marked which part true got kind) in
      let among : core_list_depth plan.subs part.body ≤ greatest (map (λ part. core_list_depth plan.subs part.body) (core_handlers core)) = greatest-of (λ part. core_list_depth plan.subs part.body) is_handler core.parts 0 which part got kind in
      let room : core_list_depth plan.subs part.body ≤ project.node.stack = let enough = h.deep in omega arith in
      let fits : ListFits plan part.body (whens_before core which) at [] 0 [] = record {
        good = part-good shape which part got;
        numbers = part-numbers shape which part got;
        lined = part-lined shape which part got;
        room = omega arith;
        light = part-light which part got;
        stands = split.0;
        marked = marks.0;
        ends = λ last. refl;
      } in
      let last : Lined plan.code part.line (at + length words) (end_word ∷ []) = stands-lined plan.code part.line (at + length words) (end_word ∷ []) split.1 in
      let least : 0 + 3 ≤ core_weight core = let l : 3 ≤ core_weight core = heavy in omega arith in
      does-list plan part.body (finish_core part.line ∷ []) (whens_before core which) at [] 0 [] fits (last, least, refl, refl)

  -- What a memory has for an event is what the core has: no handler, or one whose work stands at the address that the table names.
  pub handled : HasRoom project core → (event : ℕ) (memory : List ℕ) → event ≢ 65535 → Holds plan.code memory → Handled plan event memory (core_handler_of program (Some event))
  handled h event memory other holds =
      let node : IsNode project = h.node in
      let few : core_words project core ≤ 65535 = let words = h.words in let most = node.code in omega arith in
      elim (found project core event memory other few holds) [
        | inl none ↦ subst (Handled plan event memory) (sym none.0) none.1
        | inr some ↦
            let kind : is_handler some.1 ≡ true = ap is_some some.3 in
            subst (Handled plan event memory) (sym some.4) (slice_index addresses some.0, some.5, handler-placed h some.0 some.1 some.2 kind)
      ]
