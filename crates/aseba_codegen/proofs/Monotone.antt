-- What is well formed where some temporaries were stored into is so where more were.
use Rattle.std.proofs.Common.{◌≡◌, ℕ, ◌+◌, ◌&&◌, ◌||◌, Bool, true, false, nat_lt, nat_le, ℤ, List, [], ◌∷◌, ◌++◌, length, drop, Option, Some, None, refl, ap, true≢false, nat_eq}
use Rattle.std.specs.Prelude.{option_to_list}
use Rattle.std.specs.List.{list_all, range_with_len}
use Rattle.aseba_tree.specs.Code.{Project}
use Rattle.aseba_tree.specs.CoreExpr.{CoreExpr, fixed, cell, indirect, prefix, infix_of, CoreTarget, into, into_index}
use Rattle.aseba_tree.specs.Core.{core_stmt, CoreForm, store, branch, on_edge, loop, send, enter, use_native, go_back, CoreStmts, no_core, core_stmts, Core}
use Rattle.aseba_tree.specs.CoreShape.{stands_in, is_readable, is_readable_range, is_indexed, is_good_expr, is_good_target, are_readable_params, sizes_of_native, is_good_call, kept_at, is_good_form, is_good_list}
use Rattle.aseba_tree.specs.Templates.{templates, cells_of_param}
use Rattle.aseba_codegen.proofs.Values.{and-left, and-right, and-both}
use Rattle.aseba_codegen.proofs.GoodLists.{GoodFirst, good-first}
use Rattle.aseba_codegen.proofs.Placed.{Within}

pub within-all : (kept : List ℕ) → Within kept kept
within-all kept a h = h

pub within-none : (kept : List ℕ) → Within [] kept
within-none kept a h = absurd (true≢false (Rattle.std.proofs.Common.sym h))

pub within-through : (a b c : List ℕ) → Within a b → Within b c → Within a c
within-through a b c f g x h = g x (f x h)

or-more : (p q r : Bool) → (q ≡ true → r ≡ true) → (p || q) ≡ true → (p || r) ≡ true
or-more true q r f h = h
or-more false q r f h = f h

pub within-behind : (o : Option ℕ) (inner outer : List ℕ) → Within inner outer → Within inner (option_to_list o ++ outer)
within-behind None inner outer f a h = f a h
within-behind (Some x) inner outer f a h = by_test (nat_eq a x) (f a h)
  where
    by_test : (b : Bool) → stands_in outer a ≡ true → (b || stands_in outer a) ≡ true
    by_test true g = refl
    by_test false g = g

pub within-both : (o : Option ℕ) (inner outer : List ℕ) → Within inner outer → Within (option_to_list o ++ inner) (option_to_list o ++ outer)
within-both None inner outer f a h = f a h
within-both (Some x) inner outer f a h = or-more (nat_eq a x) (stands_in inner a) (stands_in outer a) (f a) h

and-more : (p q r : Bool) → (q ≡ true → r ≡ true) → (p && q) ≡ true → (p && r) ≡ true
and-more p q r f h = and-both p r (and-left p q h) (f (and-right p q h))

both-more : (p q r s : Bool) → (p ≡ true → q ≡ true) → (r ≡ true → s ≡ true) → (p && r) ≡ true → (q && s) ≡ true
both-more p q r s f g h = and-both q s (f (and-left p r h)) (g (and-right p r h))

all-more : {A : Type 0} (P Q : A → Bool) (xs : List A) → ((x : A) → P x ≡ true → Q x ≡ true) → list_all P xs ≡ true → list_all Q xs ≡ true
all-more P Q [] f h = refl
all-more P Q (x ∷ xs) f h = both-more (P x) (Q x) (list_all P xs) (list_all Q xs) (f x) (all-more P Q xs f) h

module _ (core : Core) (inner outer : List ℕ) where
  pub readable-more : Within inner outer → (a : ℕ) → is_readable core inner a ≡ true → is_readable core outer a ≡ true
  readable-more w a h =
      and-more (nat_lt a (core.cells + core.room)) (nat_lt a core.cells || stands_in inner a) (nat_lt a core.cells || stands_in outer a)
      (or-more (nat_lt a core.cells) (stands_in inner a) (stands_in outer a) (w a)) h

  range-more : Within inner outer → (a n : ℕ) → is_readable_range core inner a n ≡ true → is_readable_range core outer a n ≡ true
  range-more w a n h =
      and-more (nat_le (a + n) (core.cells + core.room)) (list_all (is_readable core inner) (range_with_len a n)) (list_all (is_readable core outer) (range_with_len a n))
      (all-more (is_readable core inner) (is_readable core outer) (range_with_len a n) (readable-more w)) h

  pub expr-more : Within inner outer → (e : CoreExpr) → is_good_expr core inner e ≡ true → is_good_expr core outer e ≡ true
  expr-more w (fixed v) h = refl
  expr-more w (cell a) h = readable-more w a h
  expr-more w (indirect base size i) h = and-more (is_indexed core base size) (is_good_expr core inner i) (is_good_expr core outer i) (expr-more w i) h
  expr-more w (prefix op e) h = expr-more w e h
  expr-more w (infix_of op l r) h = both-more (is_good_expr core inner l) (is_good_expr core outer l) (is_good_expr core inner r) (is_good_expr core outer r) (expr-more w l) (expr-more w r) h

  target-more : Within inner outer → (t : CoreTarget) → is_good_target core inner t ≡ true → is_good_target core outer t ≡ true
  target-more w (into a) h = h
  target-more w (into_index base size i) h = and-more (is_indexed core base size) (is_good_expr core inner i) (is_good_expr core outer i) (expr-more w i) h

  params-more : Within inner outer → (names : List ℤ) (lengths : List ℕ) (params : List ℤ) (addresses : List ℕ)
      → are_readable_params core inner names lengths params addresses ≡ true → are_readable_params core outer names lengths params addresses ≡ true
  params-more w names lengths [] addresses h = refl
  params-more w names lengths (p ∷ params) [] h = refl
  params-more w names lengths (p ∷ params) (a ∷ addresses) h =
      both-more (is_readable_range core inner a (cells_of_param names lengths p)) (is_readable_range core outer a (cells_of_param names lengths p))
      (are_readable_params core inner names lengths params addresses) (are_readable_params core outer names lengths params addresses)
      (range-more w a (cells_of_param names lengths p)) (params-more w names lengths params addresses) h

  call-more : Within inner outer → (sizes : Option (List ℤ)) (values : List ℕ) → is_good_call core inner sizes values ≡ true → is_good_call core outer sizes values ≡ true
  call-more w None values h = h
  call-more w (Some params) values h =
      and-more (nat_eq (length values) (length params + length (templates [] params)) && list_all (nat_lt 0) (drop (length params) values))
      (are_readable_params core inner (templates [] params) (drop (length params) values) params values)
      (are_readable_params core outer (templates [] params) (drop (length params) values) params values)
      (params-more w (templates [] params) (drop (length params) values) params values) h

  pub form-more : (project : Project) → Within inner outer → (form : CoreForm) → is_good_form project core inner form ≡ true → is_good_form project core outer form ≡ true
  form-more project w (store target e) h =
      both-more (is_good_target core inner target) (is_good_target core outer target) (is_good_expr core inner e) (is_good_expr core outer e) (target-more w target) (expr-more w e) h
  form-more project w (branch c body other) h =
      let a : Bool = is_good_list project core [] body in
      let b : Bool = is_good_list project core [] other in
      both-more (is_good_expr core inner c && a) (is_good_expr core outer c && a) b b
      (both-more (is_good_expr core inner c) (is_good_expr core outer c) a a (expr-more w c) (λ g. g)) (λ g. g) h
  form-more project w (on_edge c body) h =
      let a : Bool = is_good_list project core [] body in both-more (is_good_expr core inner c) (is_good_expr core outer c) a a (expr-more w c) (λ g. g) h
  form-more project w (loop c body) h =
      let a : Bool = is_good_list project core [] body in both-more (is_good_expr core inner c) (is_good_expr core outer c) a a (expr-more w c) (λ g. g) h
  form-more project w (send event address count) h =
      and-more (nat_lt event (length project.events) && nat_le count 256) (is_readable_range core inner address count) (is_readable_range core outer address count) (range-more w address count) h
  form-more project w (enter which) h = h
  form-more project w (use_native id values) h = call-more w (sizes_of_native project id) values h
  form-more project w go_back h = h

-- and so are lists of statements
pub list-more : (project : Project) (core : Core) (ss : CoreStmts) (inner outer : List ℕ) → Within inner outer → is_good_list project core inner ss ≡ true → is_good_list project core outer ss ≡ true
list-more project core no_core inner outer w h = refl
list-more project core (core_stmts (core_stmt line form) ss) inner outer w h =
    let parts : GoodFirst project core inner form ss = good-first project core inner line form ss h in
    let form_good : is_good_form project core outer form ≡ true = form-more core inner outer project w form parts.form_good in
    let rest_good : is_good_list project core (option_to_list (kept_at core form) ++ outer) ss ≡ true =
    list-more project core ss (option_to_list (kept_at core form) ++ inner) (option_to_list (kept_at core form) ++ outer) (within-both (kept_at core form) inner outer w) parts.rest_good in
    and-both _ _ (and-both _ _ form_good parts.not_end) rest_good
