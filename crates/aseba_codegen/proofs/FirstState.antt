-- The machine at its first tick stands at the core's first state.
use Rattle.std.proofs.Common.{◌≡◌, ℕ, zero, suc, ◌+◌, ◌-◌, ◌<◌, ◌≤◌, ◌≢◌, Bool, true, false, if◌then◌else◌, nat_eq, ℤ, pos, List, [], ◌∷◌, ◌++◌, length, map, take, drop, replicate, slice_get, slice_index_or, slice_set, Option, Some, None, refl, sym, ap, ◌∙◌, subst, arith, true≢false, eqb-true, eq-eqb, get_or-set_same, get_or-set_other, length-set, length-append}
use Rattle.std.proofs.lemmas.List.{length-replicate, length-map, get_or-replicate, take_all}
use Rattle.std.specs.Prelude.{find, option_map, bytes_eq, codes}
use Rattle.std.specs.Int.{cast_signed, w16}
use Rattle.aseba_words.specs.Cell.{wrapped}
use Rattle.aseba_tree.specs.Code.{Name, Sized, Project}
use Rattle.aseba_tree.specs.Layout.{placed_from, address_from, address_of}
use Rattle.aseba_tree.specs.Core.{Core}
use Rattle.aseba_tree.specs.CoreNumbers.{core_words}
use Rattle.aseba_tree.specs.CoreShape.{IsCore}
use Rattle.aseba_tree.specs.CoreStep.{CoreProgram, put_into, core_loaded}
use Rattle.aseba_vm.specs.State.{State, named, none_held}
use Rattle.aseba_vm.specs.Lists.{handler_of}
use Rattle.aseba_vm.specs.Loaded.{reset_state, fresh_cells}
use Rattle.aseba_target.specs.Node.{shape_of, IsStarted}
use Rattle.aseba_codegen.specs.declared.coded.Coded.{Coded}
use Rattle.aseba_codegen.specs.Agrees.{IsNode, HasRoom}
use Rattle.aseba_codegen.specs.Words.{init_start, code_words}
use Rattle.aseba_codegen.proofs.Reach.{Holds}
use Rattle.aseba_codegen.proofs.CellLists.{none-at, core_none-at}
use Rattle.aseba_codegen.proofs.Edges.{first-bits}
use Rattle.aseba_codegen.proofs.EventTable.{init-found}
use Rattle.aseba_codegen.proofs.Puts.{address-size, number-cell, put_into-long}
use Rattle.aseba_codegen.proofs.Outside.{first-working}
use Rattle.aseba_codegen.proofs.Placed.{Plan, Base, Working, Aligned}
use Rattle.aseba_codegen.proofs.LaidOut.{plan_of, init-placed}

-- The code in memory

pub holds-words : (code : List Coded) (pad : List ℕ) (at : ℕ) (c : Coded) → slice_get code at ≡ Some c → slice_get (map (λ x. x.word) code ++ pad) at ≡ Some c.word
holds-words [] pad at c h = cc
holds-words (x ∷ code) pad zero c h = let same : x ≡ c = cc in ap (λ (y : Coded). Some y.word) same
holds-words (x ∷ code) pad (suc at) c h = holds-words code pad at c h

-- The cells

-- where a variable of a name begins
pub named-address : (variables : List Sized) (name : Name) (base : ℕ) → option_map (λ v. v.start) (find (λ v. bytes_eq v.name name) (placed_from base variables)) ≡ option_map (λ x. x.0) (address_from base variables name)
named-address [] name base = refl
named-address (v ∷ variables) name base = by_test (bytes_eq v.name name) (named-address variables name (base + v.size))
  where
    by_test : (b : Bool) → option_map (λ v. v.start) (find (λ v. bytes_eq v.name name) (placed_from (base + v.size) variables)) ≡ option_map (λ x. x.0) (address_from (base + v.size) variables name)
        → option_map (λ v. v.start) (if b then Some (record { name = v.name; start = base; size = v.size }) else find (λ v. bytes_eq v.name name) (placed_from (base + v.size) variables))
        ≡ option_map (λ x. x.0) (if b then Some (base, v.size) else address_from (base + v.size) variables name)
    by_test true ih = refl
    by_test false ih = ih

set-at : (n k address a : ℕ) (v w : ℤ) → a < n → a < k → v ≡ w → slice_index_or (slice_set (replicate n (pos 0)) address v) a (pos 0) ≡ slice_index_or (slice_set (replicate k (pos 0)) address w) a (pos 0)
set-at n k address a v w in_n in_k same = by_test (nat_eq a address) refl
  where
    long : (m : ℕ) → length (replicate m (pos 0)) ≡ m
    long m = length-replicate m (pos 0)

    by_test : (b : Bool) → nat_eq a address ≡ b → slice_index_or (slice_set (replicate n (pos 0)) address v) a (pos 0) ≡ slice_index_or (slice_set (replicate k (pos 0)) address w) a (pos 0)
    by_test true e =
        let here : a ≡ address = eqb-true a address e in
        rw (← here) (get_or-set_same (replicate n (pos 0)) a v (pos 0) (omega (arith, length-replicate n (pos 0))) ∙ same ∙ sym (get_or-set_same (replicate k (pos 0)) a w (pos 0) (omega (arith, length-replicate k (pos 0)))))
    by_test false e =
        let other : a ≢ address = λ h. true≢false (sym (eq-eqb a address h) ∙ e) in
        get_or-set_other (replicate n (pos 0)) address a v (pos 0) other ∙ get_or-replicate n a (pos 0) (pos 0) in_n
        ∙ sym (get_or-set_other (replicate k (pos 0)) address a w (pos 0) other ∙ get_or-replicate k a (pos 0) (pos 0) in_k)

-- the cells of machine and core before the first tick
pub first-cells : (o : Option (ℕ × ℕ)) (id n k a : ℕ) → ((x : ℕ × ℕ) → o ≡ Some x → 1 ≤ x.1) → a < n → a < k → id < 65536
    → slice_index_or (named (option_map (λ x. x.0) o) id (replicate n (pos 0))) a (pos 0) ≡ slice_index_or (put_into o 0 (wrapped (pos id) ∷ []) (replicate k (pos 0))) a (pos 0)
first-cells None id n k a some in_n in_k low = get_or-replicate n a (pos 0) (pos 0) in_n ∙ sym (get_or-replicate k a (pos 0) (pos 0) in_k)
first-cells (Some x) id n k a some in_n in_k low =
    let size : 1 ≤ x.1 = some x refl in
    let place : x.0 + 0 ≡ x.0 = omega arith in
    let one : take (x.1 - 0) (wrapped (pos id) ∷ []) ≡ wrapped (pos id) ∷ [] = take_all (x.1 - 0) (wrapped (pos id) ∷ []) (omega arith) in
    rw (one, place) (set-at n k x.0 a (cast_signed w16 id) (wrapped (pos id)) in_n in_k (number-cell id low))

pub named-long : (o : Option ℕ) (id : ℕ) (xs : List ℤ) → length (named o id xs) ≡ length xs
named-long None id xs = refl
named-long (Some a) id xs = length-set xs a _

-- The machine

-- a list in two pieces
pub split-at : {A : Type 0} (n : ℕ) (xs : List A) → take n xs ++ drop n xs ≡ xs
split-at zero xs = refl
split-at (suc n) [] = refl
split-at (suc n) (x ∷ xs) = ap (λ rest. x ∷ rest) (split-at n xs)

-- with the words in its code and others behind them, at the place of the init code
abbrev pub first_state : Project → List ℕ → List ℕ → List (Option ℤ) → ℕ → State
first_state project words behind held at = record {
  shape = shape_of project;
  id = project.id;
  code = words ++ behind;
  cells = fresh_cells (shape_of project) project.id;
  stack = [];
  pc = at;
  active = true;
  paused = false;
  held = none_held held;
}

pub reset-is : (project : Project) (words behind : List ℕ) (at : ℕ) (before : State) → before.shape ≡ shape_of project → before.id ≡ project.id → before.code ≡ words ++ behind
    → handler_of 65535 (words ++ behind) ≡ Some at → reset_state false before ≡ first_state project words behind before.held at
unfolding reset_state
reset-is project words behind at before shape id code found = rw (code, found, shape, id) refl

module _ (program : CoreProgram) where
  abbrev project : Project
  project = program.project

  abbrev core : Core
  core = program.core

  abbrev plan : Plan
  plan = plan_of program

  abbrev words : List ℕ
  words = code_words program.project program.core

  few-words : HasRoom project core → core_words project core ≤ 65535
  few-words h = let node = h.node in let words = h.words in let most = node.code in omega arith

  holds-code : (behind : List ℕ) → Holds plan.code (words ++ behind)
  holds-code behind at c found plain = holds-words plan.code behind at c found

  -- what a started machine is
  pub first-state : HasRoom project core → (m : State) → (started : IsStarted project words m)
      → m ≡ first_state project words (drop (length words) (started.before).code) (started.before).held (init_start project core)
  first-state h m started =
      let behind : List ℕ = drop (length words) (started.before).code in
      let code : (started.before).code ≡ words ++ behind = sym (split-at (length words) (started.before).code) ∙ ap (λ first. first ++ behind) started.begins in
      started.reset ∙ reset-is project words behind (init_start project core) started.before started.shape started.id code (init-found project core (words ++ behind) (few-words h) (holds-code behind))

  first-base : HasRoom project core → (behind : List ℕ) (held : List (Option ℤ)) → length held ≡ project.node.cells
      → Base plan (first_state project words behind held (init_start project core)) (core_loaded program)
  unfolding core_loaded
  first-base h behind held held_many =
      let node : IsNode project = h.node in
      let shape : IsCore project core = h.shape in
      let enough : core.cells + core.room ≤ project.node.cells = shape.has_room in
      let o : Option (ℕ × ℕ) = address_of project.node.variables (codes "_id") in
      let room : ℕ = core.cells + core.room in
      let place : (shape_of project).id ≡ option_map (λ x. x.0) o = named-address project.node.variables (codes "_id") 0 in
      let many : length (fresh_cells (shape_of project) project.id) ≡ project.node.cells = named-long (shape_of project).id project.id (replicate project.node.cells (pos 0)) ∙ length-replicate project.node.cells (pos 0) in
      let core_many : length (put_into o 0 (wrapped (pos project.id) ∷ []) (replicate room (pos 0))) ≡ room = put_into-long o 0 (wrapped (pos project.id) ∷ []) (replicate room (pos 0)) ∙ length-replicate room (pos 0) in
      record {
        shape = refl;
        same_cells = λ a below. rw place (first-cells o project.id project.node.cells room a (λ x e. address-size project.node.variables (codes "_id") 0 x node.sizes e) (omega arith) (omega arith) node.id);
        same_held = λ a below. none-at (length held) a ∙ sym (core_none-at (put_into o 0 (wrapped (pos project.id) ∷ []) (replicate room (pos 0))) a);
        many = many;
        long = omega arith;
        few = let few = node.cells in omega arith;
        held_long = length-replicate (length held) None ∙ held_many ∙ sym many;
        core_long = core_many;
        core_held_long = length-map {A = ℤ} {B = Option ℤ} (put_into o 0 (wrapped (pos project.id) ∷ []) (replicate room (pos 0))) (λ v. None);
        memory = omega (arith, length-append words behind, length-map plan.code (λ c. c.word));
        same_bits = first-bits project core (words ++ behind) (λ at c found. holds-words plan.code behind at c found);
        holds = holds-code behind;
        same_active = refl;
        same_paused = refl;
      }

  -- the machine at its first tick
  pub first-aligned : HasRoom project core → (m : State) → IsStarted project words m → Aligned plan m (core_loaded program)
  unfolding core_loaded
  first-aligned h m started =
      let behind : List ℕ = drop (length words) (started.before).code in
      let first : State = first_state project words behind (started.before).held (init_start project core) in
      let base : Base plan first (core_loaded program) = first-base h behind (started.before).held started.held in
      let works : Working plan first (core_loaded program) = first-working plan first (core_loaded program) base refl (init-placed program h) in
      let aligned : Aligned plan first (core_loaded program) = record { base = base; works = λ active. works; spent = λ idle. refl } in
      subst (λ m. Aligned plan m (core_loaded program)) (sym (first-state h m started)) aligned
