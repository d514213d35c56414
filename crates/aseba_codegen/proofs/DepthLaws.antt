-- Stack cells counted up to a number are the stack cells up to that number.
use Rattle.std.proofs.Common.{◌≡◌, ℕ, zero, suc, ◌+◌, ◌-◌, ◌≤◌, min, max, Bool, true, false, List, [], ◌∷◌, length, map, filter, slice_get, Option, Some, None, refl, sym, ap, ◌∙◌, subst, arith, if◌then◌else◌}
use Rattle.std.specs.List.{fold}
use Rattle.std.specs.Prelude.{option_map, unwrap_or, slice_index}
use Rattle.aseba_tree.specs.Core.{CoreStmt, core_stmt, CoreForm, store, branch, on_edge, loop, send, enter, use_native, go_back, CoreStmts, no_core, core_stmts, CorePart, Core}
use Rattle.aseba_tree.specs.CoreNumbers.{core_form_depth, core_stmt_depth, core_list_depth, core_body, core_sub_depth, is_handler, core_handlers, core_depth}
use Rattle.aseba_tree.specs.Numbers.{condition_depth, greatest}
use Rattle.aseba_tree.specs.View.{core_expr_view, core_form_view, core_stmts_view}
use Rattle.aseba_tree.specs.declared.core_tree.CoreExpr as code
use Rattle.aseba_tree.specs.declared.core_tree.CoreStmt as stmt
use Rattle.aseba_tree.specs.declared.core_tree.CoreForm as form
use Rattle.aseba_tree.specs.declared.core_tree.CoreForm.TheVariants as variant
use Rattle.aseba_codegen.specs.OwnDepth.{depth_by, depth_round, depths_after, deepest_handler}
use Rattle.aseba_codegen.proofs.FormViews.{if-view, edge-view, loop-view}

-- The forms that hold statements

pub if-depth : (most : ℕ) (depths : List ℕ) (f : form.CoreForm) (test t : code.CoreExpr) (body other : List stmt.CoreStmt) (a b d r : ℕ) → f ≡ variant.If test body other → t ≡ test
    → a ≡ min most (condition_depth (core_expr_view t)) → b ≡ min most (depth_by depths (core_stmts_view body)) → d ≡ min most (depth_by depths (core_stmts_view other)) → r ≡ max a (max b d)
    → r ≡ min most (core_form_depth (λ which. slice_index depths which) (core_form_view f))
if-depth most depths f test t body other a b d r made same first second third all =
    let e : core_form_view f ≡ branch (core_expr_view test) (core_stmts_view body) (core_stmts_view other) = ap core_form_view made ∙ if-view test body other in
    let first_too : a ≡ min most (condition_depth (core_expr_view test)) = first ∙ ap (λ x. min most (condition_depth (core_expr_view x))) same in
    rw e (omega arith)

pub edge-depth : (most : ℕ) (depths : List ℕ) (f : form.CoreForm) (test t : code.CoreExpr) (body : List stmt.CoreStmt) (a b r : ℕ) → f ≡ variant.When test body → t ≡ test
    → a ≡ min most (condition_depth (core_expr_view t)) → b ≡ min most (depth_by depths (core_stmts_view body)) → r ≡ max a b
    → r ≡ min most (core_form_depth (λ which. slice_index depths which) (core_form_view f))
edge-depth most depths f test t body a b r made same first second all =
    let e : core_form_view f ≡ on_edge (core_expr_view test) (core_stmts_view body) = ap core_form_view made ∙ edge-view test body in
    let first_too : a ≡ min most (condition_depth (core_expr_view test)) = first ∙ ap (λ x. min most (condition_depth (core_expr_view x))) same in
    rw e (omega arith)

pub loop-depth : (most : ℕ) (depths : List ℕ) (f : form.CoreForm) (test t : code.CoreExpr) (body : List stmt.CoreStmt) (a b r : ℕ) → f ≡ variant.While test body → t ≡ test
    → a ≡ min most (condition_depth (core_expr_view t)) → b ≡ min most (depth_by depths (core_stmts_view body)) → r ≡ max a b
    → r ≡ min most (core_form_depth (λ which. slice_index depths which) (core_form_view f))
loop-depth most depths f test t body a b r made same first second all =
    let e : core_form_view f ≡ loop (core_expr_view test) (core_stmts_view body) = ap core_form_view made ∙ loop-view test body in
    let first_too : a ≡ min most (condition_depth (core_expr_view test)) = first ∙ ap (λ x. min most (condition_depth (core_expr_view x))) same in
    rw e (omega arith)

-- Rounds

module _ (most : ℕ) (tops subs : ℕ → ℕ) where
  -- where subroutines are alike up to a number, so are statements
  abbrev Alike : Type 0
  Alike = (which : ℕ) → min most (tops which) ≡ min most (subs which)

  mutual
    stmt-capped : Alike → (s : CoreStmt) → min most (core_stmt_depth tops s) ≡ min most (core_stmt_depth subs s)
    stmt-capped h (core_stmt line f) = form-capped h f

    form-capped : Alike → (f : CoreForm) → min most (core_form_depth tops f) ≡ min most (core_form_depth subs f)
    form-capped h (store t e) = refl
    form-capped h (branch c body other) = omega (arith, list-capped h body, list-capped h other)
    form-capped h (on_edge c body) = omega (arith, list-capped h body)
    form-capped h (loop c body) = omega (arith, list-capped h body)
    form-capped h (send event address count) = refl
    form-capped h (enter which) = omega (arith, h which)
    form-capped h (use_native id values) = refl
    form-capped h go_back = refl

    pub list-capped : Alike → (ss : CoreStmts) → min most (core_list_depth tops ss) ≡ min most (core_list_depth subs ss)
    list-capped h no_core = refl
    list-capped h (core_stmts s ss) = omega (arith, stmt-capped h s, list-capped h ss)

-- a round is of the parts of a core
round-at : (most : ℕ) (depths : List ℕ) (parts : List CorePart) (which : ℕ)
    → slice_index (depth_round most parts depths) which ≡ min most (depth_by depths (unwrap_or (option_map (λ part. part.body) (slice_get parts which)) no_core))
round-at most depths [] which = omega arith
round-at most depths (part ∷ parts) zero = refl
round-at most depths (part ∷ parts) (suc which) = round-at most depths parts which

after-at : (core : Core) (most n which : ℕ) → min most (slice_index (depths_after most core.parts n) which) ≡ min most (core_sub_depth core n which)
after-at core most zero which = refl
after-at core most (suc n) which =
    let here : slice_index (depths_after most core.parts (suc n)) which ≡ min most (depth_by (depths_after most core.parts n) (core_body core which)) = round-at most (depths_after most core.parts n) core.parts which in
    let alike : min most (depth_by (depths_after most core.parts n) (core_body core which)) ≡ min most (core_list_depth (core_sub_depth core n) (core_body core which)) =
    list-capped most (λ w. slice_index (depths_after most core.parts n) w) (core_sub_depth core n) (after-at core most n) (core_body core which) in
    omega arith

fold-max : (ns : List ℕ) (a b : ℕ) → fold max (max a b) ns ≡ max a (fold max b ns)
fold-max [] a b = refl
fold-max (n ∷ ns) a b = let same : max (max a b) n ≡ max a (max b n) = omega arith in ap (λ x. fold max x ns) same ∙ fold-max ns a (max b n)

-- the greatest of a list with one in front
greatest-cons : (n : ℕ) (ns : List ℕ) → greatest (n ∷ ns) ≡ max n (greatest ns)
greatest-cons n ns = let same : max 0 n ≡ max n 0 = omega arith in ap (λ x. fold max x ns) same ∙ fold-max ns n 0

greatest-capped : (most : ℕ) (tops subs : ℕ → ℕ) → Alike most tops subs → (parts : List CorePart) (a b : ℕ) → min most a ≡ min most b
    → min most (fold max a (map (λ part. core_list_depth tops part.body) parts)) ≡ min most (fold max b (map (λ part. core_list_depth subs part.body) parts))
greatest-capped most tops subs h [] a b e = e
greatest-capped most tops subs h (part ∷ parts) a b e =
    greatest-capped most tops subs h parts (max a (core_list_depth tops part.body)) (max b (core_list_depth subs part.body)) (omega (arith, list-capped most tops subs h part.body))

-- the most that a handler takes, from the front
deepest-is : (depths : List ℕ) (parts : List CorePart) → deepest_handler depths parts ≡ greatest (map (λ part. depth_by depths part.body) (filter is_handler parts))
deepest-is depths [] = refl
deepest-is depths (part ∷ parts) = by_test (is_handler part) (deepest-is depths parts)
  where
    by_test : (b : Bool) → deepest_handler depths parts ≡ greatest (map (λ part. depth_by depths part.body) (filter is_handler parts))
        → max (if b then depth_by depths part.body else 0) (deepest_handler depths parts)
        ≡ greatest (map (λ part. depth_by depths part.body) (if b then part ∷ filter is_handler parts else filter is_handler parts))
    by_test true ih = omega (arith, greatest-cons (depth_by depths part.body) (map (λ part. depth_by depths part.body) (filter is_handler parts)))
    by_test false ih = omega arith

-- what is counted by the last round is what the core takes
pub counted-capped : (core : Core) (most : ℕ) → let depths = depths_after most core.parts (length core.parts) in
    min most (max (depth_by depths core.init) (deepest_handler depths core.parts)) ≡ min most (core_depth core)
counted-capped core most =
    let n : ℕ = length core.parts in
    let tops : ℕ → ℕ = λ which. slice_index (depths_after most core.parts n) which in
    let alike : Alike most tops (core_sub_depth core n) = after-at core most n in
    let first = list-capped most tops (core_sub_depth core n) alike core.init in
    let same = deepest-is (depths_after most core.parts n) core.parts in
    let others = greatest-capped most tops (core_sub_depth core n) alike (core_handlers core) 0 0 refl in
    omega arith

-- a round that changes nothing is the last that is needed
pub settled : (most : ℕ) (parts : List CorePart) (k more : ℕ) → depths_after most parts (suc k) ≡ depths_after most parts k → depths_after most parts (k + more) ≡ depths_after most parts k
settled most parts k zero e = let same : k + 0 ≡ k = omega arith in ap (depths_after most parts) same
settled most parts k (suc more) e =
    let place : k + suc more ≡ suc (k + more) = omega arith in
    ap (depths_after most parts) place ∙ ap (depth_round most parts) (settled most parts k more e) ∙ e

pub enough : (most : ℕ) (parts : List CorePart) (k n : ℕ) (depths next : List ℕ) → depths ≡ depths_after most parts k → next ≡ depth_round most parts depths → next ≡ depths → k ≤ n → next ≡ depths_after most parts n
enough most parts k n depths next rounds one same within =
    let again : depths_after most parts (suc k) ≡ depths_after most parts k = ap (depth_round most parts) (sym rounds) ∙ sym one ∙ same ∙ rounds in
    let place : k + (n - k) ≡ n = omega arith in
    same ∙ rounds ∙ sym (settled most parts k (n - k) again) ∙ ap (depths_after most parts) place
