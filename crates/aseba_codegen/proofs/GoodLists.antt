-- What a list of statements that is well formed has: its first statement, what follows it, and what it weighs.
use Rattle.std.proofs.Common.{◌≡◌, ℕ, ◌+◌, ◌≤◌, ◌⊎◌, inl, inr, ◌&&◌, not, max, Bool, true, false, if◌then◌else◌, nat_le, is_some, List, ◌++◌, Option, Some, None, refl, sym, ap, subst, arith, true≢false}
use Rattle.std.specs.Prelude.{option_to_list, nat_eq}
use Rattle.aseba_tree.specs.Code.{Project}
use Rattle.aseba_tree.specs.CoreExpr.{into, into_index}
use Rattle.aseba_tree.specs.Core.{core_stmt, CoreForm, store, branch, on_edge, loop, send, enter, use_native, go_back, CoreStmts, no_core, core_stmts, Core}
use Rattle.aseba_tree.specs.CoreNumbers.{kept_nodes, own_nodes, inner_weight, weight_behind, kept_with, core_list_weight}
use Rattle.aseba_tree.specs.CoreShape.{kept_at, is_last, is_good_form, is_good_list}
use Rattle.aseba_tree.specs.Numbers.{nodes}
use Rattle.aseba_tree.specs.CoreLines.{first_line, is_kept_on}
use Rattle.aseba_codegen.proofs.Values.{and-left, and-right}

-- what a statement is: a store into a temporary, or none
abbrev pub KeptCase : Core → ℕ → CoreForm → Type 0
KeptCase core line form =
    ((kept_at core form ≡ None) × (kept_nodes core.cells form ≡ None))
    ⊎ ((a : ℕ) × (kept_at core form ≡ Some a) × (kept_nodes core.cells form ≡ Some (own_nodes form + 1)) × ((rest : CoreStmts) → is_kept_on core.cells line form rest ≡ nat_eq line (first_line line rest)))

pub kept-case : (core : Core) (line : ℕ) (form : CoreForm) → KeptCase core line form
kept-case core line (store (into a) e) = by_test (nat_le core.cells a)
  where
    by_test : (b : Bool)
        → (((if b then Some a else None) ≡ None) × ((if b then Some (nodes e + 1) else None) ≡ None))
        ⊎ ((x : ℕ) × ((if b then Some a else None) ≡ Some x) × ((if b then Some (nodes e + 1) else None) ≡ Some (0 + nodes e + 1)) × ((rest : CoreStmts) → (if b then nat_eq line (first_line line rest) else true) ≡ nat_eq line (first_line line rest)))
    by_test true = let same : nodes e + 1 ≡ 0 + nodes e + 1 = omega arith in inr (a, refl, ap Some same, λ rest. refl)
    by_test false = inl (refl, refl)
kept-case core line (store (into_index base size i) e) = inl (refl, refl)
kept-case core line (send event address count) = inl (refl, refl)
kept-case core line (branch c body other) = inl (refl, refl)
kept-case core line (on_edge c body) = inl (refl, refl)
kept-case core line (loop c body) = inl (refl, refl)
kept-case core line (enter which) = inl (refl, refl)
kept-case core line (use_native id values) = inl (refl, refl)
kept-case core line go_back = inl (refl, refl)

not-last : (b : Bool) → not (b && true) ≡ true → b ≡ false
not-last true h = absurd (true≢false (sym h))
not-last false h = refl

module _ (project : Project) (core : Core) where
  -- the parts of what a list of statements has to be
  pub record GoodFirst (kept : List ℕ) (form : CoreForm) (ss : CoreStmts) : Type 0 where
    pub form_good : is_good_form project core kept form ≡ true
    pub not_end : not (is_last ss && is_some (kept_at core form)) ≡ true
    pub rest_good : is_good_list project core (option_to_list (kept_at core form) ++ kept) ss ≡ true

  pub good-first : (kept : List ℕ) (line : ℕ) (form : CoreForm) (ss : CoreStmts) → is_good_list project core kept (core_stmts (core_stmt line form) ss) ≡ true → GoodFirst kept form ss
  good-first kept line form ss h =
      let a : Bool = is_good_form project core kept form in
      let b : Bool = not (is_last ss && is_some (kept_at core form)) in
      let c : Bool = is_good_list project core (option_to_list (kept_at core form) ++ kept) ss in
      let front : (a && b) ≡ true = and-left (a && b) c h in
      record { form_good = and-left a b front; not_end = and-right a b front; rest_good = and-right (a && b) c h }

  -- behind a store into a temporary another statement stands
  pub goes-on : (ss : CoreStmts) (form : CoreForm) (a : ℕ) → not (is_last ss && is_some (kept_at core form)) ≡ true → kept_at core form ≡ Some a → is_last ss ≡ false
  goes-on ss form a h e = not-last (is_last ss) (subst (λ (o : Option ℕ). not (is_last ss && is_some o) ≡ true) e h)

  -- what has been kept counts in the weight
  pub weight-above : (ss : CoreStmts) (kept : List ℕ) (weighs : ℕ) → is_good_list project core kept ss ≡ true → is_last ss ≡ false → weighs + 3 ≤ core_list_weight core.cells ss weighs
  weight-above no_core kept weighs good some = absurd (true≢false some)
  weight-above (core_stmts (core_stmt line form) ss) kept weighs good some =
      let parts : GoodFirst kept form ss = good-first kept line form ss good in
      elim (kept-case core line form) [
        | inl c ↦ rw (c.1) (omega arith)
        | inr c ↦
            let more : weighs + (own_nodes form + 1) + 3 ≤ core_list_weight core.cells ss (weighs + (own_nodes form + 1)) =
            weight-above ss (option_to_list (kept_at core form) ++ kept) (weighs + (own_nodes form + 1)) parts.rest_good (goes-on ss form c.0 parts.not_end c.1) in
            rw (c.2) (omega arith)
      ]

pub weight-least : (cells : ℕ) (ss : CoreStmts) (weighs : ℕ) → 3 ≤ core_list_weight cells ss weighs
weight-least cells no_core weighs = omega arith
weight-least cells (core_stmts (core_stmt line form) ss) weighs = by_kept (kept_nodes cells form) (weight-least cells ss)
  where
    by_kept : (o : Option ℕ) → ((w : ℕ) → 3 ≤ core_list_weight cells ss w)
        → 3 ≤ max (max (weight_behind weighs o form) (inner_weight cells form)) (core_list_weight cells ss (kept_with weighs o))
    by_kept None ih = omega arith
    by_kept (Some more) ih = omega arith
