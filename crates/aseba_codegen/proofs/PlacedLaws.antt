-- What placed work has: its first word, the two ways of a test, what returns find, and the work of lists and of bodies that are entered.
use Rattle.std.proofs.Common.{◌≡◌, ℕ, suc, ◌+◌, ◌<◌, ◌≤◌, inl, inr, ◌&&◌, not, max, Bool, true, false, if◌then◌else◌, ℤ, pos, neg_ℤ, ◌-ℤ◌, List, [], ◌∷◌, ◌++◌, length, take, drop, slice_get, Option, Some, None, refl, sym, ap, ◌∙◌, subst, subst₂, arith, true≢false, eqb-true, append_assoc, length-append, nat_eq}
use Rattle.std.proofs.lemmas.Int.{ints}
use Rattle.std.proofs.lemmas.Option.{slice_get_within}
use Rattle.std.specs.Prelude.{option_to_list, flat_map, slice_index}
use Rattle.aseba_tree.specs.Code.{Project}
use Rattle.aseba_tree.specs.CoreExpr.{CoreExpr, fixed, cell, indirect, prefix, infix_of, into, into_index}
use Rattle.aseba_tree.specs.Core.{core_stmt, CoreForm, store, branch, on_edge, loop, send, enter, use_native, go_back, CoreStmts, no_core, core_stmts, CorePart}
use Rattle.aseba_tree.specs.CoreCells.{form_has_cells, list_has_cells, has_cells}
use Rattle.aseba_tree.specs.CoreLines.{first_line, is_kept_on, form_is_lined, list_is_lined}
use Rattle.aseba_tree.specs.CoreNumbers.{param_count, core_form_depth, core_list_depth, core_list_weight, kept_nodes, own_nodes, inner_weight, weight_behind, kept_with, is_handler}
use Rattle.aseba_tree.specs.CoreShape.{kept_at, is_last, is_good_list, is_good_expr, is_sub_part}
use Rattle.aseba_tree.specs.CoreStep.{CoreTask, perform_core, leave_core, turn_core, back_core, finish_core, behind_back_core, core_tasks, core_form_whens, core_list_whens, core_leaving, core_task_line, core_work_line, entered, whens_before}
use Rattle.aseba_tree.specs.Numbers.{is_large, jump_words, nodes, condition_depth, depth}
use Rattle.aseba_tree.specs.Sizes.{is_of_one_cell}
use Rattle.aseba_vm.specs.Words.{branch_word, jump_word, native_word, store_word, store_indirect_word}
use Rattle.aseba_codegen.specs.declared.coded.Coded.{Coded}
use Rattle.aseba_codegen.specs.Words.{Condition, Site, on_line, large_number_code, number_code, expr_code, condition_code, far_jump, jump_code, test_code, if_code, form_code, list_code, sixteen_bits}
use Rattle.aseba_codegen.specs.Agrees.{line_at}
use Rattle.aseba_codegen.proofs.Reach.{Lined, Stands, stands-split, stands-lined, line-of}
use Rattle.aseba_codegen.proofs.Values.{and-left, and-right}
use Rattle.aseba_codegen.proofs.Lengths.{on_line-long, test-long, jumping-long}
use Rattle.aseba_codegen.proofs.Edges.{edges, edges-append, edges-line, edges-test, edges-form, edges-list}
use Rattle.aseba_codegen.proofs.GoodLists.{GoodFirst, good-first, goes-on, kept-case, weight-above}
use Rattle.aseba_codegen.proofs.Monotone.{within-all, within-none, within-behind, within-both, form-more, list-more}
use Rattle.aseba_codegen.proofs.Placed.{Frame, Within, heavier, mark, Marked, is_statement, Plan, Place, limit, site, placed_code, Whole, Jumps, DoesTask, Does, Tests, Returned, LaidSub, Laid}

-- The first word of a piece of code

-- a piece of code begins with a word of a line
abbrev FirstOn : ℕ → List Coded → Type 0
FirstOn line code = (c : Coded) × (rest : List Coded) × (code ≡ c ∷ rest) × (c.line ≡ line)

lead-words : (line : ℕ) (ws : List ℕ) (w : ℕ) (vs : List ℕ) → FirstOn line (on_line line (ws ++ w ∷ vs))
lead-words line [] w vs = (record { word = w; line = line; is_edge = false }, on_line line vs, refl, refl)
lead-words line (x ∷ ws) w vs = (record { word = x; line = line; is_edge = false }, on_line line (ws ++ w ∷ vs), refl, refl)

lead-append : (line : ℕ) (xs ys : List Coded) → FirstOn line xs → FirstOn line (xs ++ ys)
lead-append line xs ys h = (h.0, h.1 ++ ys, ap (λ zs. zs ++ ys) h.2, h.3)

lead-test : (line : ℕ) (is_edge : Bool) (c : Condition) (otherwise : ℕ) → FirstOn line (test_code line is_edge c otherwise)
lead-test line is_edge c otherwise = by_words c.words
  where
    by_words : (ws : List ℕ) → FirstOn line (on_line line ws ++ record { word = branch_word c.operator is_edge; line = line; is_edge = is_edge } ∷ on_line line (sixteen_bits (pos otherwise) ∷ []))
    by_words [] = (record { word = branch_word c.operator is_edge; line = line; is_edge = is_edge }, on_line line (sixteen_bits (pos otherwise) ∷ []), refl, refl)
    by_words (w ∷ ws) = (record { word = w; line = line; is_edge = false }, _, refl, refl)

lead-if : (project : Project) (line : ℕ) (c : Condition) (body : List Coded) (has_else : Bool) (other : List Coded) → FirstOn line (if_code project line c body has_else other)
lead-if project line c body true other = lead-append line _ other (lead-append line _ _ (lead-append line _ body (lead-test line false c _)))
lead-if project line c body false other = lead-append line _ body (lead-test line false c _)

lead-form : (s : Site) (line : ℕ) (form : CoreForm) → FirstOn line (form_code s line form)
lead-form s line (store (into a) e) = lead-words line (expr_code e) (store_word a) []
lead-form s line (store (into_index base size i) e) = lead-words line (expr_code e ++ expr_code i) (store_indirect_word base) (size ∷ [])
lead-form s line (branch c body other) = lead-if s.project line (condition_code c) (list_code s body) (not (is_last other)) (list_code s other)
lead-form s line (on_edge c body) = lead-append line _ (list_code s body) (lead-test line true (condition_code c) _)
lead-form s line (loop c body) = lead-append line _ _ (lead-append line _ (list_code s body) (lead-test line false (condition_code c) _))
lead-form s line (send event address count) = (_, _, refl, refl)
lead-form s line (enter which) = (_, _, refl, refl)
lead-form s line (use_native id values) =
    lead-words line (flat_map (λ address. large_number_code (pos address)) (take (param_count s.project id) values) ++ flat_map (λ n. number_code (pos n)) (drop (param_count s.project id) values)) (native_word id) []
lead-form s line go_back = (_, _, refl, refl)

lead-jump : (project : Project) (by : ℤ) → (w : ℕ) × (ws : List ℕ) × (jump_code project by ≡ w ∷ ws)
lead-jump project by = by_test (is_large project)
  where
    by_test : (b : Bool) → (w : ℕ) × (ws : List ℕ) × ((if b then far_jump (sixteen_bits (by -ℤ pos 2)) else jump_word by ∷ []) ≡ w ∷ ws)
    by_test true = (_, _, refl)
    by_test false = (_, _, refl)

-- a word of this line stands here
abbrev pub Begins : List Coded → ℕ → ℕ → Type 0
Begins code line at = (c : Coded) × (slice_get code at ≡ Some c) × (c.line ≡ line)

begins-by : (code : List Coded) (line at : ℕ) (cs : List Coded) → FirstOn line cs → Stands code at cs → Begins code line at
begins-by code line at cs first stands =
    let here : Stands code at (first.0 ∷ first.1) = subst (Stands code at) first.2 stands in (first.0, here.0, first.3)

begins-jump : (project : Project) (code : List Coded) (line at : ℕ) (by : ℤ) → Lined code line at (jump_code project by) → Begins code line at
begins-jump project code line at by lined =
    let first = lead-jump project by in
    let here : Lined code line at (first.0 ∷ first.1) = subst (Lined code line at) first.2 lined in (_, here.0, refl)

pub begins-line : (code : List Coded) (line at : ℕ) → Begins code line at → line_at code at ≡ line
begins-line code line at h = line-of code at h.0 h.1 ∙ h.2

-- Branch words

pub marked-split : (places : List ℕ) (at k : ℕ) (xs ys : List Coded) → Marked places at k (xs ++ ys) → Marked places at k xs × Marked places (at + length xs) (k + edges xs) ys
marked-split places at k [] ys h =
    let e : at ≡ at + 0 = omega arith in
    let f : k ≡ k + 0 = omega arith in
    (tt, subst₂ (λ a b. Marked places a b ys) e f h)
marked-split places at k (x ∷ xs) ys h =
    let rest = marked-split places (at + 1) (k + mark x.is_edge) xs ys h.1 in
    let e : at + 1 + length xs ≡ at + suc (length xs) = omega arith in
    let f : k + mark x.is_edge + edges xs ≡ k + (mark x.is_edge + edges xs) = omega arith in
    ((h.0, rest.0), subst₂ (λ a b. Marked places a b ys) e f rest.1)

-- the branch word behind a condition
marked-test : (places : List ℕ) (line at k : ℕ) (c : Condition) (otherwise : ℕ) → Marked places at k (test_code line true c otherwise) → slice_get places k ≡ Some (at + length c.words)
marked-test places line at k c otherwise h =
    let split = marked-split places at k (on_line line c.words) _ h in
    let here : k + edges (on_line line c.words) ≡ k = omega (arith, edges-line line c.words) in
    let there : at + length (on_line line c.words) ≡ at + length c.words = ap (λ n. at + n) (on_line-long line c.words) in
    subst₂ (λ (i a : ℕ). slice_get places i ≡ Some a) here there (split.1).0

-- a condition is compared on the stack
condition-deep : (c : CoreExpr) → 2 ≤ condition_depth c
condition-deep (fixed v) = omega arith
condition-deep (cell a) = omega arith
condition-deep (indirect base size i) = omega arith
condition-deep (prefix op e) = omega arith
condition-deep (infix_of op l r) = by_test (is_of_one_cell op) (some r)
  where
    some : (e : CoreExpr) → 1 ≤ depth e
    some (fixed v) = omega arith
    some (cell a) = omega arith
    some (indirect base size i) = some i
    some (prefix op e) = some e
    some (infix_of op l r) = let left = some l in omega arith

    by_test : (b : Bool) → 1 ≤ depth r → 2 ≤ (if b then max (depth l) (1 + depth r) else max (depth (infix_of op l r)) 2)
    by_test true h = omega arith
    by_test false h = omega arith

module _ (plan : Plan) where
  -- What is placed stays placed where more is kept

  -- what is asked of a place goes on being met where more is kept
  abbrev Grows : Place → Type 0
  Grows behind = (at : ℕ) (kept more : List ℕ) (weighs : ℕ) (frames : List Frame) → Within kept more → behind at kept weighs frames → behind at more weighs frames

  whole-more : (before line : ℕ) (form : CoreForm) (at : ℕ) (kept more : List ℕ) (weighs : ℕ) (frames : List Frame) → Within kept more
      → Whole plan before line form at kept weighs frames → Whole plan before line form at more weighs frames
  whole-more before line form at kept more weighs frames w h = record {
    stands = h.stands;
    marked = h.marked;
    good = form-more plan.program.core kept more plan.program.project w form h.good;
    numbers = h.numbers;
    lined = h.lined;
    room = h.room;
    light = h.light;
    inner = h.inner;
  }

  task-more : (task : CoreTask) (rest : List CoreTask) (behind : Place) → Grows behind → Grows (DoesTask plan task rest behind)
  task-more (perform_core before (core_stmt line form)) rest behind grows at kept more weighs frames w h = (
    whole-more before line form at kept more weighs frames w h.0,
    h.1,
    grows (at + length (placed_code plan frames line form)) (option_to_list (kept_at plan.program.core form) ++ kept) (option_to_list (kept_at plan.program.core form) ++ more)
        (heavier (kept_nodes plan.program.core.cells form) weighs) frames (within-both (kept_at plan.program.core form) kept more w) h.2,
  )
  task-more (leave_core line) rest behind grows at kept more weighs frames w h = (h.0, h.1, grows h.0 kept more 0 frames w h.2)
  task-more (turn_core again) rest behind grows at kept more weighs frames w h = (h.0, h.1, h.2, task-more again rest behind grows h.0 kept more 0 frames w h.3)
  task-more (back_core line) rest behind grows at kept more weighs frames w h = h
  task-more (finish_core line) rest behind grows at kept more weighs frames w h = h

  pub does-more : (work : List CoreTask) → Grows (Does plan work)
  does-more [] at kept more weighs frames w h = h
  does-more (task ∷ rest) at kept more weighs frames w h = task-more task rest (Does plan rest) (does-more rest) at kept more weighs frames w h

  -- The first word of placed work is on its line

  task-first : (task : CoreTask) (rest : List CoreTask) (behind : Place) (at : ℕ) (kept : List ℕ) (weighs : ℕ) (frames : List Frame) → DoesTask plan task rest behind at kept weighs frames
      → Begins plan.code (core_task_line task) at
  task-first (perform_core before (core_stmt line form)) rest behind at kept weighs frames h =
      begins-by plan.code line at (placed_code plan frames line form) (lead-form (site plan frames) line form) (h.0).stands
  task-first (leave_core line) rest behind at kept weighs frames h = begins-jump plan.program.project plan.code line at (h.1).by (h.1).stands
  task-first (turn_core again) rest behind at kept weighs frames h = begins-jump plan.program.project plan.code (core_task_line again) at (h.1).by (h.1).stands
  task-first (back_core line) rest behind at kept weighs frames h = (_, h.0.0, refl)
  task-first (finish_core line) rest behind at kept weighs frames h = (_, h.0.0, refl)

  pub does-first : (work : List CoreTask) (at : ℕ) (kept : List ℕ) (weighs : ℕ) (frames : List Frame) → Does plan work at kept weighs frames → Begins plan.code (core_work_line work) at
  does-first [] at kept weighs frames h = absurd h
  does-first (task ∷ rest) at kept weighs frames h = task-first task rest (Does plan rest) at kept weighs frames h

  pub does-line : (work : List CoreTask) (at : ℕ) (kept : List ℕ) (weighs : ℕ) (frames : List Frame) → Does plan work at kept weighs frames → line_at plan.code at ≡ core_work_line work
  does-line work at kept weighs frames h = begins-line plan.code (core_work_line work) at (does-first work at kept weighs frames h)

  pub does-inside : (work : List CoreTask) (at : ℕ) (kept : List ℕ) (weighs : ℕ) (frames : List Frame) → Does plan work at kept weighs frames → at < length plan.code
  does-inside work at kept weighs frames h = let first = does-first work at kept weighs frames h in slice_get_within plan.code at first.0 first.1

  -- What a return finds

  returned-again : (again : CoreTask) (rest : List CoreTask) (behind : Place) (at : ℕ) (kept : List ℕ) (weighs : ℕ) (frames : List Frame) → is_statement again ≡ true → DoesTask plan again rest behind at kept weighs frames
      → (there : ℕ) × (more : List ℕ) × (heavy : ℕ) × behind there more heavy frames
  returned-again (perform_core before (core_stmt line form)) rest behind at kept weighs frames is h = (_, _, _, h.2)
  returned-again (leave_core line) rest behind at kept weighs frames is h = absurd (true≢false (sym is))
  returned-again (turn_core again) rest behind at kept weighs frames is h = absurd (true≢false (sym is))
  returned-again (back_core line) rest behind at kept weighs frames is h = absurd (true≢false (sym is))
  returned-again (finish_core line) rest behind at kept weighs frames is h = absurd (true≢false (sym is))

  pub returned : (work : List CoreTask) (at : ℕ) (kept : List ℕ) (weighs : ℕ) (frames : List Frame) → Does plan work at kept weighs frames → Returned plan work frames
  returned [] at kept weighs frames h = absurd h
  returned (perform_core before (core_stmt line form) ∷ rest) at kept weighs frames h =
      let more : Returned plan rest frames = returned rest _ _ _ frames h.2 in past frames more
    where
      past : (fs : List Frame) → Returned plan rest fs → Returned plan (perform_core before (core_stmt line form) ∷ rest) fs
      past [] g = g
      past (f ∷ fs) g = g
  returned (leave_core line ∷ rest) at kept weighs frames h =
      let more : Returned plan rest frames = returned rest _ _ _ frames h.2 in past frames more
    where
      past : (fs : List Frame) → Returned plan rest fs → Returned plan (leave_core line ∷ rest) fs
      past [] g = g
      past (f ∷ fs) g = g
  returned (turn_core again ∷ rest) at kept weighs frames h =
      let next = returned-again again rest (Does plan rest) h.0 kept 0 frames h.2 h.3 in
      let more : Returned plan rest frames = returned rest next.0 next.1 next.2 frames next.3 in past frames more
    where
      past : (fs : List Frame) → Returned plan rest fs → Returned plan (turn_core again ∷ rest) fs
      past [] g = g
      past (f ∷ fs) g = g
  returned (back_core line ∷ rest) at kept weighs [] h = absurd h.2
  returned (back_core line ∷ rest) at kept weighs (f ∷ fs) h = (rest, refl, h.2.0, h.2.1)
  returned (finish_core line ∷ rest) at kept weighs frames h =
      let none : behind_back_core (finish_core line ∷ rest) ≡ None = ap behind_back_core h.3 in
      subst (Returned plan (finish_core line ∷ rest)) (sym h.2) none

  -- The work of a list

  -- the line of what follows a store into a temporary
  next-line : (rest : List CoreTask) (line before : ℕ) (ss : CoreStmts) → is_last ss ≡ false → nat_eq line (first_line line ss) ≡ true → core_work_line (core_tasks before ss ++ rest) ≡ line
  next-line rest line before no_core some same = absurd (true≢false some)
  next-line rest line before (core_stmts (core_stmt other form) ss) some same = sym (eqb-true line other same)

  -- what is asked of a list of statements where its code stands
  pub record ListFits (ss : CoreStmts) (before at : ℕ) (kept : List ℕ) (weighs : ℕ) (frames : List Frame) : Type 0 where
    pub good : is_good_list plan.program.project plan.program.core kept ss ≡ true
    pub numbers : list_has_cells ss ≡ true
    pub lined : list_is_lined plan.program.core.cells ss ≡ true
    pub room : length frames + core_list_depth plan.subs ss ≤ limit plan
    pub light : core_list_weight plan.program.core.cells ss weighs ≤ plan.weight
    pub stands : Stands plan.code at (list_code (site plan frames) ss)
    pub marked : Marked plan.places at before (list_code (site plan frames) ss)
    pub ends : is_last ss ≡ true → weighs ≡ 0

  pub does-list : (ss : CoreStmts) (rest : List CoreTask) (before at : ℕ) (kept : List ℕ) (weighs : ℕ) (frames : List Frame) → ListFits ss before at kept weighs frames
      → Does plan rest (at + length (list_code (site plan frames) ss)) kept 0 frames → Does plan (core_tasks before ss ++ rest) at kept weighs frames
  does-list no_core rest before at kept weighs frames f behind =
      let here : at + 0 ≡ at = omega arith in
      subst₂ (λ k w. Does plan rest k kept w frames) here (sym (f.ends refl)) behind
  does-list (core_stmts (core_stmt line form) ss) rest before at kept weighs frames f behind =
      let s : Site = site plan frames in
      let after : ℕ = before + core_form_whens form in
      let parts : GoodFirst plan.program.project plan.program.core kept form ss = good-first plan.program.project plan.program.core kept line form ss f.good in
      let numbers : form_has_cells form ≡ true = and-left (form_has_cells form) (list_has_cells ss) f.numbers in
      let numbers_rest : list_has_cells ss ≡ true = and-right (form_has_cells form) (list_has_cells ss) f.numbers in
      let lines : (is_kept_on plan.program.core.cells line form ss && form_is_lined plan.program.core.cells form) ≡ true = and-left (is_kept_on plan.program.core.cells line form ss && form_is_lined plan.program.core.cells form) (list_is_lined plan.program.core.cells ss) f.lined in
      let lined_rest : list_is_lined plan.program.core.cells ss ≡ true = and-right (is_kept_on plan.program.core.cells line form ss && form_is_lined plan.program.core.cells form) (list_is_lined plan.program.core.cells ss) f.lined in
      let kept_on : is_kept_on plan.program.core.cells line form ss ≡ true = and-left (is_kept_on plan.program.core.cells line form ss) (form_is_lined plan.program.core.cells form) lines in
      let lined : form_is_lined plan.program.core.cells form ≡ true = and-right (is_kept_on plan.program.core.cells line form ss) (form_is_lined plan.program.core.cells form) lines in
      let split = stands-split plan.code at (form_code s line form) (list_code s ss) f.stands in
      let marks = marked-split plan.places at before (form_code s line form) (list_code s ss) f.marked in
      let there : ℕ = at + length (form_code s line form) in
      let marked_rest : Marked plan.places there after (list_code s ss) = subst (λ n. Marked plan.places there (before + n) (list_code s ss)) (edges-form s line form) marks.1 in
      let whole : at + length (form_code s line form ++ list_code s ss) ≡ there + length (list_code s ss) = omega (arith, length-append (form_code s line form) (list_code s ss)) in
      let behind_rest : Does plan rest (there + length (list_code s ss)) kept 0 frames = subst (λ n. Does plan rest n kept 0 frames) whole behind in
      let room : length frames + max (core_form_depth plan.subs form) (core_list_depth plan.subs ss) ≤ limit plan = f.room in
      let light_by : (o : Option ℕ) → kept_nodes plan.program.core.cells form ≡ o
      → max (max (weight_behind weighs o form) (inner_weight plan.program.core.cells form)) (core_list_weight plan.program.core.cells ss (kept_with weighs o)) ≤ plan.weight =
      λ o e. subst (λ o. max (max (weight_behind weighs o form) (inner_weight plan.program.core.cells form)) (core_list_weight plan.program.core.cells ss (kept_with weighs o)) ≤ plan.weight) e f.light in
      let fits : weighs + own_nodes form + 3 ≤ plan.weight → inner_weight plan.program.core.cells form ≤ plan.weight → Whole plan before line form at kept weighs frames = λ is_light is_inner. record {
        stands = split.0;
        marked = marks.0;
        good = parts.form_good;
        numbers = numbers;
        lined = lined;
        room = omega arith;
        light = is_light;
        inner = is_inner;
      } in
      let on : (k : List ℕ) (w : ℕ) → Within kept k → is_good_list plan.program.project plan.program.core k ss ≡ true → core_list_weight plan.program.core.cells ss w ≤ plan.weight → (is_last ss ≡ true → w ≡ 0)
      → Does plan (core_tasks after ss ++ rest) there k w frames =
      λ k w more good_rest light_rest ends_rest. does-list ss rest after there k w frames
      (record { good = good_rest; numbers = numbers_rest; lined = lined_rest; room = omega arith; light = light_rest; stands = split.1; marked = marked_rest; ends = ends_rest })
      (does-more rest (there + length (list_code s ss)) kept k 0 frames more behind_rest) in
      elim (kept-case plan.program.core line form) [
        | inl c ↦
            let weighed : max (max (weighs + own_nodes form + 3) (inner_weight plan.program.core.cells form)) (core_list_weight plan.program.core.cells ss 0) ≤ plan.weight = light_by None c.1 in
            let good_rest : is_good_list plan.program.project plan.program.core kept ss ≡ true = subst (λ (o : Option ℕ). is_good_list plan.program.project plan.program.core (option_to_list o ++ kept) ss ≡ true) c.0 parts.rest_good in (
              fits (omega arith) (omega arith),
              λ some. absurd (some c.0),
              subst₂ (λ (k : Option ℕ) (w : Option ℕ). Does plan (core_tasks after ss ++ rest) there (option_to_list k ++ kept) (heavier w weighs) frames) (sym c.0) (sym c.1)
                  (on kept 0 (within-all kept) good_rest (omega arith) (λ last. refl)),
            )
        | inr c ↦
            let all_weighed : max (max 3 (inner_weight plan.program.core.cells form)) (core_list_weight plan.program.core.cells ss (weighs + (own_nodes form + 1))) ≤ plan.weight = light_by (Some (own_nodes form + 1)) c.2 in
            let weighed : core_list_weight plan.program.core.cells ss (weighs + (own_nodes form + 1)) ≤ plan.weight = omega arith in
            let some : is_last ss ≡ false = goes-on plan.program.project plan.program.core ss form c.0 parts.not_end c.1 in
            let more : List ℕ = option_to_list (kept_at plan.program.core form) ++ kept in
            let above : weighs + (own_nodes form + 1) + 3 ≤ core_list_weight plan.program.core.cells ss (weighs + (own_nodes form + 1)) =
            weight-above plan.program.project plan.program.core ss more (weighs + (own_nodes form + 1)) parts.rest_good some in
            let same_line : nat_eq line (first_line line ss) ≡ true = sym (c.3 ss) ∙ kept_on in (
              fits (omega arith) (omega arith),
              λ temporary. next-line rest line after ss some same_line,
              subst (λ (w : Option ℕ). Does plan (core_tasks after ss ++ rest) there more (heavier w weighs) frames) (sym c.2)
                  (on more (weighs + (own_nodes form + 1)) (within-behind (kept_at plan.program.core form) kept kept (within-all kept)) parts.rest_good weighed (λ last. absurd (true≢false (sym last ∙ some)))),
            )
      ]

  -- Tests

  body-fits : (body : CoreStmts) (before at : ℕ) (kept : List ℕ) (frames : List Frame) → is_good_list plan.program.project plan.program.core [] body ≡ true → list_has_cells body ≡ true
      → list_is_lined plan.program.core.cells body ≡ true → length frames + core_list_depth plan.subs body ≤ limit plan → core_list_weight plan.program.core.cells body 0 ≤ plan.weight
      → Stands plan.code at (list_code (site plan frames) body) → Marked plan.places at before (list_code (site plan frames) body) → ListFits body before at kept 0 frames
  body-fits body before at kept frames good numbers lined room light stands marked = record {
    good = list-more plan.program.project plan.program.core body [] kept (within-none kept) good;
    numbers = numbers;
    lined = lined;
    room = room;
    light = light;
    stands = stands;
    marked = marked;
    ends = λ last. refl;
  }

  -- a loop tests its condition, and behind its body leads back to the test
  pub loop-tests : (before line : ℕ) (c : CoreExpr) (body : CoreStmts) (rest : List CoreTask) (at : ℕ) (kept : List ℕ) (weighs : ℕ) (frames : List Frame)
      → Whole plan before line (loop c body) at kept weighs frames → Does plan rest (at + length (placed_code plan frames line (loop c body))) kept 0 frames
      → Tests plan false line c at ((core_tasks before body ++ turn_core (perform_core before (core_stmt line (loop c body))) ∷ []) ++ rest) rest kept frames
  loop-tests before line c body rest at kept weighs frames h behind =
      let s : Site = site plan frames in
      let project : Project = plan.program.project in
      let words : List Coded = list_code s body in
      let n : ℕ = length (condition_code c).words in
      let otherwise : ℕ = 2 + length words + jump_words project in
      let test : List Coded = test_code line false (condition_code c) otherwise in
      let by : ℤ = neg_ℤ (pos (n + 2 + length words)) in
      let jump : List Coded = on_line line (jump_code project by) in
      let whole = stands-split plan.code at (test ++ words) jump h.stands in
      let parts = stands-split plan.code at test words whole.0 in
      let marks = marked-split plan.places at before (test ++ words) jump h.marked in
      let mark_parts = marked-split plan.places at before test words marks.0 in
      let there : ℕ = at + (n + 2) in
      let last : ℕ = there + length words in
      let test_many : length test ≡ n + 2 = test-long line false (condition_code c) otherwise in
      let test_place : at + length test ≡ there = ap (λ k. at + k) test_many in
      let last_place : at + length (test ++ words) ≡ last = omega (arith, length-append test words) in
      let end_place : at + length (test ++ words ++ jump) ≡ at + n + otherwise = omega (arith, length-append (test ++ words) jump, length-append test words, jumping-long project line by) in
      let unmarked : before + edges test ≡ before = omega (arith, edges-test line false (condition_code c) otherwise) in
      let stands : Stands plan.code there words = subst (λ k. Stands plan.code k words) test_place parts.1 in
      let marked : Marked plan.places there before words = subst₂ (λ k i. Marked plan.places k i words) test_place unmarked mark_parts.1 in
      let jumps : Lined plan.code line last (jump_code project by) = stands-lined plan.code line last (jump_code project by) (subst (λ k. Stands plan.code k jump) last_place whole.1) in
      let a : Bool = is_good_expr plan.program.core kept c in
      let good : is_good_list project plan.program.core [] body ≡ true = and-right a (is_good_list project plan.program.core [] body) h.good in
      let numbers : list_has_cells body ≡ true = and-right (has_cells c) (list_has_cells body) h.numbers in
      let deep : 2 ≤ condition_depth c = condition-deep c in
      let room : length frames + max (condition_depth c) (core_list_depth plan.subs body) ≤ limit plan = h.room in
      let light : weighs + nodes c + 3 ≤ plan.weight = h.light in
      let again : CoreTask = perform_core before (core_stmt line (loop c body)) in
      let afresh : Whole plan before line (loop c body) at kept 0 frames = record {
        stands = h.stands;
        marked = h.marked;
        good = h.good;
        numbers = h.numbers;
        lined = h.lined;
        room = h.room;
        light = omega arith;
        inner = h.inner;
      } in
      let back : Jumps plan line last at 0 frames = record { by = by; leads = omega (arith, ints); stands = jumps; light = omega arith; room = omega arith } in
      let turns : Does plan (turn_core again ∷ rest) last kept 0 frames = (at, back, refl, (afresh, λ none. absurd (none refl), behind)) in
      let fits : ListFits body before there kept 0 frames = body-fits body before there kept frames good numbers h.lined (omega arith) h.inner stands marked in
      let so : Does plan (core_tasks before body ++ (turn_core again ∷ rest)) there kept 0 frames = does-list body (turn_core again ∷ rest) before there kept 0 frames fits turns in
      record {
        otherwise = otherwise;
        stands = parts.0;
        so = subst (λ work. Does plan work there kept 0 frames) (sym (append_assoc (core_tasks before body) (turn_core again ∷ []) rest)) so;
        not_so = subst (λ k. Does plan rest k kept 0 frames) end_place behind;
      }

  -- a `when` that sees its condition become true does its body
  pub edge-tests : (before line : ℕ) (c : CoreExpr) (body : CoreStmts) (rest : List CoreTask) (at : ℕ) (kept : List ℕ) (weighs : ℕ) (frames : List Frame)
      → Whole plan before line (on_edge c body) at kept weighs frames → Does plan rest (at + length (placed_code plan frames line (on_edge c body))) kept 0 frames
      → Tests plan true line c at (core_tasks (suc before) body ++ rest) rest kept frames × (slice_get plan.places before ≡ Some (at + length (condition_code c).words))
  edge-tests before line c body rest at kept weighs frames h behind =
      let s : Site = site plan frames in
      let project : Project = plan.program.project in
      let words : List Coded = list_code s body in
      let n : ℕ = length (condition_code c).words in
      let otherwise : ℕ = 2 + length words in
      let test : List Coded = test_code line true (condition_code c) otherwise in
      let parts = stands-split plan.code at test words h.stands in
      let marks = marked-split plan.places at before test words h.marked in
      let there : ℕ = at + (n + 2) in
      let test_many : length test ≡ n + 2 = test-long line true (condition_code c) otherwise in
      let test_place : at + length test ≡ there = ap (λ k. at + k) test_many in
      let end_place : at + length (test ++ words) ≡ at + n + otherwise = omega (arith, length-append test words) in
      let last_place : at + length (test ++ words) ≡ there + length words = omega (arith, length-append test words) in
      let next : before + edges test ≡ suc before = omega (arith, edges-test line true (condition_code c) otherwise) in
      let stands : Stands plan.code there words = subst (λ k. Stands plan.code k words) test_place parts.1 in
      let marked : Marked plan.places there (suc before) words = subst₂ (λ k i. Marked plan.places k i words) test_place next marks.1 in
      let a : Bool = is_good_expr plan.program.core kept c in
      let good : is_good_list project plan.program.core [] body ≡ true = and-right a (is_good_list project plan.program.core [] body) h.good in
      let numbers : list_has_cells body ≡ true = and-right (has_cells c) (list_has_cells body) h.numbers in
      let room : length frames + max (condition_depth c) (core_list_depth plan.subs body) ≤ limit plan = h.room in
      let fits : ListFits body (suc before) there kept 0 frames = body-fits body (suc before) there kept frames good numbers h.lined (omega arith) h.inner stands marked in (
        record {
          otherwise = otherwise;
          stands = parts.0;
          so = does-list body rest (suc before) there kept 0 frames fits (subst (λ k. Does plan rest k kept 0 frames) last_place behind);
          not_so = subst (λ k. Does plan rest k kept 0 frames) end_place behind;
        },
        marked-test plan.places line at before (condition_code c) otherwise marks.0,
      )

  -- an `if`, which with an else leaves its body by a jump
  pub branch-tests : (before line : ℕ) (c : CoreExpr) (body other : CoreStmts) (rest : List CoreTask) (at : ℕ) (kept : List ℕ) (weighs : ℕ) (frames : List Frame)
      → Whole plan before line (branch c body other) at kept weighs frames → Does plan rest (at + length (placed_code plan frames line (branch c body other))) kept 0 frames
      → Tests plan false line c at ((core_tasks before body ++ core_leaving line other) ++ rest) (core_tasks (before + core_list_whens body) other ++ rest) kept frames
  branch-tests before line c body no_core rest at kept weighs frames h behind =
      let s : Site = site plan frames in
      let project : Project = plan.program.project in
      let core = plan.program.core in
      let words : List Coded = list_code s body in
      let n : ℕ = length (condition_code c).words in
      let otherwise : ℕ = 2 + length words in
      let test : List Coded = test_code line false (condition_code c) otherwise in
      let parts = stands-split plan.code at test words h.stands in
      let marks = marked-split plan.places at before test words h.marked in
      let there : ℕ = at + (n + 2) in
      let test_many : length test ≡ n + 2 = test-long line false (condition_code c) otherwise in
      let test_place : at + length test ≡ there = ap (λ k. at + k) test_many in
      let end_place : at + length (test ++ words) ≡ at + n + otherwise = omega (arith, length-append test words) in
      let last_place : at + length (test ++ words) ≡ there + length words = omega (arith, length-append test words) in
      let unmarked : before + edges test ≡ before = omega (arith, edges-test line false (condition_code c) otherwise) in
      let stands : Stands plan.code there words = subst (λ k. Stands plan.code k words) test_place parts.1 in
      let marked : Marked plan.places there before words = subst₂ (λ k i. Marked plan.places k i words) test_place unmarked marks.1 in
      let a : Bool = is_good_expr core kept c in
      let b : Bool = is_good_list project core [] body in
      let good : b ≡ true = and-right a b (and-left (a && b) true h.good) in
      let numbers : list_has_cells body ≡ true = and-right (has_cells c) (list_has_cells body) (and-left (has_cells c && list_has_cells body) true h.numbers) in
      let lined : list_is_lined core.cells body ≡ true = and-left (list_is_lined core.cells body) true h.lined in
      let room : length frames + max (condition_depth c) (max (core_list_depth plan.subs body) 0) ≤ limit plan = h.room in
      let light : max (core_list_weight core.cells body 0) 3 ≤ plan.weight = h.inner in
      let fits : ListFits body before there kept 0 frames = body-fits body before there kept frames good numbers lined (omega arith) (omega arith) stands marked in
      let so : Does plan (core_tasks before body ++ rest) there kept 0 frames = does-list body rest before there kept 0 frames fits (subst (λ k. Does plan rest k kept 0 frames) last_place behind) in
      record {
        otherwise = otherwise;
        stands = parts.0;
        so = subst (λ work. Does plan work there kept 0 frames) (sym (append_assoc (core_tasks before body) [] rest)) so;
        not_so = subst (λ k. Does plan rest k kept 0 frames) end_place behind;
      }
  branch-tests before line c body (core_stmts first more) rest at kept weighs frames h behind =
      let s : Site = site plan frames in
      let project : Project = plan.program.project in
      let core = plan.program.core in
      let other : CoreStmts = core_stmts first more in
      let words : List Coded = list_code s body in
      let others : List Coded = list_code s other in
      let n : ℕ = length (condition_code c).words in
      let otherwise : ℕ = 2 + length words + jump_words project in
      let test : List Coded = test_code line false (condition_code c) otherwise in
      let by : ℤ = pos (jump_words project + length others) in
      let jump : List Coded = on_line line (jump_code project by) in
      let all = stands-split plan.code at (test ++ words ++ jump) others h.stands in
      let whole = stands-split plan.code at (test ++ words) jump all.0 in
      let parts = stands-split plan.code at test words whole.0 in
      let mark_all = marked-split plan.places at before (test ++ words ++ jump) others h.marked in
      let marks = marked-split plan.places at before (test ++ words) jump mark_all.0 in
      let mark_parts = marked-split plan.places at before test words marks.0 in
      let there : ℕ = at + (n + 2) in
      let last : ℕ = there + length words in
      let start : ℕ = at + n + otherwise in
      let end : ℕ = start + length others in
      let test_many : length test ≡ n + 2 = test-long line false (condition_code c) otherwise in
      let test_place : at + length test ≡ there = ap (λ k. at + k) test_many in
      let jump_many : length jump ≡ jump_words project = jumping-long project line by in
      let front_many : length (test ++ words) ≡ length test + length words = length-append test words in
      let most_many : length (test ++ words ++ jump) ≡ length (test ++ words) + length jump = length-append (test ++ words) jump in
      let last_place : at + length (test ++ words) ≡ last = omega arith in
      let start_place : at + length (test ++ words ++ jump) ≡ start = omega arith in
      let end_place : at + length (test ++ words ++ jump ++ others) ≡ end = omega (arith, length-append (test ++ words ++ jump) others) in
      let unmarked : before + edges test ≡ before = omega (arith, edges-test line false (condition_code c) otherwise) in
      let marked_body : before + edges (test ++ words ++ jump) ≡ before + core_list_whens body =
      omega (arith, edges-append (test ++ words) jump, edges-append test words, edges-test line false (condition_code c) otherwise, edges-line line (jump_code project by), edges-list s body) in
      let stands : Stands plan.code there words = subst (λ k. Stands plan.code k words) test_place parts.1 in
      let marked : Marked plan.places there before words = subst₂ (λ k i. Marked plan.places k i words) test_place unmarked mark_parts.1 in
      let stands_other : Stands plan.code start others = subst (λ k. Stands plan.code k others) start_place all.1 in
      let marked_other : Marked plan.places start (before + core_list_whens body) others = subst₂ (λ k i. Marked plan.places k i others) start_place marked_body mark_all.1 in
      let jumps : Lined plan.code line last (jump_code project by) = stands-lined plan.code line last (jump_code project by) (subst (λ k. Stands plan.code k jump) last_place whole.1) in
      let a : Bool = is_good_expr core kept c in
      let b : Bool = is_good_list project core [] body in
      let d : Bool = is_good_list project core [] other in
      let good : b ≡ true = and-right a b (and-left (a && b) d h.good) in
      let good_other : d ≡ true = and-right (a && b) d h.good in
      let numbers : list_has_cells body ≡ true = and-right (has_cells c) (list_has_cells body) (and-left (has_cells c && list_has_cells body) (list_has_cells other) h.numbers) in
      let numbers_other : list_has_cells other ≡ true = and-right (has_cells c && list_has_cells body) (list_has_cells other) h.numbers in
      let lined : list_is_lined core.cells body ≡ true = and-left (list_is_lined core.cells body) (list_is_lined core.cells other) h.lined in
      let lined_other : list_is_lined core.cells other ≡ true = and-right (list_is_lined core.cells body) (list_is_lined core.cells other) h.lined in
      let deep : 2 ≤ condition_depth c = condition-deep c in
      let room : length frames + max (condition_depth c) (max (core_list_depth plan.subs body) (core_list_depth plan.subs other)) ≤ limit plan = h.room in
      let weight_of : CoreStmts → ℕ = λ ss. core_list_weight core.cells ss 0 in
      let light : max (weight_of body) (weight_of other) ≤ plan.weight = h.inner in
      let heavy : weighs + nodes c + 3 ≤ plan.weight = h.light in
      let leaves : Jumps plan line last end 0 frames = record { by = by; leads = omega (arith, ints); stands = jumps; light = omega arith; room = omega arith } in
      let behind_all : Does plan rest end kept 0 frames = subst (λ k. Does plan rest k kept 0 frames) end_place behind in
      let leaving : Does plan (leave_core line ∷ rest) last kept 0 frames = (end, leaves, behind_all) in
      let fits : ListFits body before there kept 0 frames = body-fits body before there kept frames good numbers lined (omega arith) (omega arith) stands marked in
      let fits_other : ListFits other (before + core_list_whens body) start kept 0 frames =
      body-fits other (before + core_list_whens body) start kept frames good_other numbers_other lined_other (omega arith) (omega arith) stands_other marked_other in
      let so : Does plan (core_tasks before body ++ (leave_core line ∷ rest)) there kept 0 frames = does-list body (leave_core line ∷ rest) before there kept 0 frames fits leaving in
      record {
        otherwise = otherwise;
        stands = parts.0;
        so = subst (λ work. Does plan work there kept 0 frames) (sym (append_assoc (core_tasks before body) (leave_core line ∷ []) rest)) so;
        not_so = does-list other rest (before + core_list_whens body) start kept 0 frames fits_other behind_all;
      }

  -- Bodies that are entered

  is-sub : (part : CorePart) → is_sub_part (Some part) ≡ true → is_handler part ≡ false
  is-sub part h = by_test (is_handler part) h
    where
      by_test : (b : Bool) → not b ≡ true → b ≡ false
      by_test true g = absurd (true≢false (sym g))
      by_test false g = refl

  pub enter-sub : Laid plan → (which before line : ℕ) (rest : List CoreTask) (at : ℕ) (kept : List ℕ) (weighs : ℕ) (frames : List Frame)
      → Whole plan before line (enter which) at kept weighs frames → at + 1 < 32768 → Does plan rest (at + 1) kept 0 frames
      → (slice_index plan.starts which < 4096)
      × Does plan (entered plan.program.core which (slice_get plan.program.core.parts which) ++ rest) (slice_index plan.starts which) kept 0 (record { address = at + 1; kept = kept } ∷ frames)
  enter-sub laid which before line rest at kept weighs frames h low behind = by_part (slice_get plan.program.core.parts which) refl h.good
    where
      start : ℕ
      start = slice_index plan.starts which

      inside : List Frame
      inside = record { address = at + 1; kept = kept } ∷ frames

      by_part : (o : Option CorePart) → slice_get plan.program.core.parts which ≡ o → is_sub_part o ≡ true
          → (slice_index plan.starts which < 4096) × Does plan (entered plan.program.core which o ++ rest) (slice_index plan.starts which) kept 0 (record { address = at + 1; kept = kept } ∷ frames)
      by_part None found sub = absurd (true≢false (sym sub))
      by_part (Some part) found sub =
          let l : LaidSub plan which part = laid.subs_at which part found (is-sub part sub) in
          let k : ℕ = whens_before plan.program.core which in
          let body : CoreStmts = part.body in
          let heavy : 3 ≤ plan.weight = laid.heavy in
          let room : length frames + (1 + plan.subs which) ≤ limit plan = h.room in
          let deep : core_list_depth plan.subs body ≤ plan.subs which = l.deep in
          let returns : Does plan (back_core part.line ∷ rest) (start + length (list_code (site plan inside) body)) kept 0 inside = (l.last, omega arith, (low, behind)) in
          let fits : ListFits body k start kept 0 inside = body-fits body k start kept inside l.good l.numbers l.lined (omega arith) l.light l.stands l.marked in
          let all : Does plan (core_tasks k body ++ (back_core part.line ∷ rest)) start kept 0 inside = does-list body (back_core part.line ∷ rest) k start kept 0 inside fits returns in
          (l.near, subst (λ work. Does plan work start kept 0 inside) (sym (append_assoc (core_tasks k body) (back_core part.line ∷ []) rest)) all)
