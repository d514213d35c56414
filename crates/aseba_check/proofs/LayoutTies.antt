-- Where no rule of declarations is broken, the variables lie as they are laid out.
use Rattle.std.proofs.Common.{◌≡◌, refl, sym, ◌∙◌, ap, subst, ℕ, ◌+◌, ◌-◌, ◌*◌, ◌^◌, ◌≤◌, Bool, true, false, if◌then◌else◌, ℤ, pos, negsuc, List, [], ◌∷◌, ◌++◌, length, map, Option, Some, None, arith, zero-add}
use Rattle.std.proofs.lemmas.List.Sums.{sum_by-append}
use Rattle.std.specs.Prelude.{nat_lt, ◌&&◌, option_to_list, sum_by, flat_map}
use Rattle.std.specs.List.{list_all}
use Rattle.aseba_tree.specs.declared.description.Sized as code_sized
use Rattle.aseba_tree.specs.declared.decl.Decl as code_decl
use Rattle.aseba_tree.specs.Code.{Name, Expr, Decl, Sized, Const}
use Rattle.aseba_tree.specs.View.{sized_view, decl_view, placed_view}
use Rattle.aseba_tree.specs.Shape.{is_filled, decl_exprs}
use Rattle.aseba_tree.specs.Sizes.{Scope, constant_value}
use Rattle.aseba_tree.specs.SoundLaws.{HasCells}
use Rattle.aseba_tree.specs.State.{declared_size}
use Rattle.aseba_tree.specs.Value.{as_place, constant}
use Rattle.aseba_tree.specs.Faults as tree
use Rattle.aseba_tree.specs.Layout as layout
use Rattle.aseba_tree.proofs.SizeLaws.{EachKnown, nil_left, nil_right}
use Rattle.aseba_tree.proofs.SoundProofs.{all_left, all_right, one_more, decl_has_cells}
use Rattle.aseba_tree.proofs.ConstantLaws.{constant_is_value}
use Rattle.aseba_tree.specs.Each.{EachDecl}
use Rattle.aseba_check.specs.Fits.{Fits}
use Rattle.aseba_check.specs.Declarations as walk
use Rattle.aseba_check.specs.Declarations.{Names}
use Rattle.aseba_check.specs.Places.{AreInOrder, sum_up, node_cells, declared_cells, address, placed_at, placed_variables, placed_decls}
use Rattle.aseba_check.proofs.Within.{IsUpTo}
use Rattle.aseba_check.proofs.ExprTies.{limit, Describes}
use Rattle.aseba_check.proofs.WalkTies.{total, under-append, usable-option}
use Rattle.aseba_check.proofs.DeclTies.{given-is, given-small, declaring-describes}

-- Sizes

in-range : (v : ℤ) → HasCells (tree.size_in_range (Some v)) → tree.size_in_range (Some v) ≡ Some (as_place v)
in-range (negsuc n) h = absurd h
in-range (pos n) h = taken (nat_lt 0 n && nat_lt n 4097) n h
  where
    taken : (b : Bool) (n : ℕ) → HasCells (if b then Some n else None) → (if b then Some n else None) ≡ Some n
    taken true n k = refl
    taken false n k = absurd k

by-value : (scope : Scope) (e : Expr) (o : Option ℤ) → constant_value scope e ≡ o → HasCells (tree.size_in_range o) → tree.size_in_range o ≡ Some (as_place (constant scope.consts e))
by-value scope e None q k = absurd k
by-value scope e (Some v) q k = in-range v k ∙ ap (λ a. Some (as_place a)) (sym (constant_is_value scope e v q))

-- the size that a declaration without a fault gives is that with which it is laid out
given-laid-out : (scope : Scope) (size : Option Expr) → HasCells (tree.given_size scope size) → tree.given_size scope size ≡ Some (declared_size scope.consts size)
given-laid-out scope None h = refl
given-laid-out scope (Some e) h = by-value scope e (constant_value scope e) refl h

abbrev pub sized : List Const → Decl → Sized
sized consts d = record { name = d.name; size = declared_size consts d.size }

-- each variable has a cell
abbrev pub EachHasOne : List Sized → Type 0
EachHasOne [] = Unit {0}
EachHasOne (v ∷ vs) = (1 ≤ v.size) × EachHasOne vs

-- the sizes are those of the layout, each from 1 to 4096
pub record SizesAre (consts : List Const) (sizes : List (Option ℕ)) (ds : List Decl) : Type 0 where
  pub equal : sizes ≡ map (λ d. Some (declared_size consts d.size)) ds
  pub least : EachHasOne (map (sized consts) ds)
  pub small : sum_by (λ v. v.size) (map (sized consts) ds) ≤ 4096 * length ds

cons-sum : (v : Sized) (vs : List Sized) → sum_by (λ w. w.size) (v ∷ vs) ≡ v.size + sum_by (λ w. w.size) vs
cons-sum v vs = sum_by-append (λ w. w.size) (v ∷ []) vs ∙ ap (λ n. n + sum_by (λ w. w.size) vs) (zero-add v.size)

small-from : (o : Option ℕ) (n : ℕ) → o ≡ Some n → IsUpTo o 4096 → n ≤ 4096
small-from None n e h = cc
small-from (Some m) n e h = let k : m ≡ n = cc in omega arith

pub sizes-are : (names : Names) (scope : Scope) → Describes names scope → EachKnown scope.variables → (ds : List Decl) → EachDecl Fits ds → total (flat_map decl_exprs ds) ≤ limit → list_all is_filled (flat_map decl_exprs ds) ≡ true
    → tree.decls_faults scope ds ≡ [] → SizesAre scope.consts (walk.decl_sizes names ds) ds
sizes-are names scope w k [] h s f e = record { equal = refl; least = tt; small = omega arith }
sizes-are names scope w k (d ∷ ds) h s f e =
    let u = under-append (decl_exprs d) (flat_map decl_exprs ds) s in
    let v = under-append (option_to_list d.size) (option_to_list d.value) u.0 in
    let size = usable-option d.size h.0 v.0 in
    let cells = decl_has_cells scope k d (all_left (decl_exprs d) _ f) (nil_left (tree.decl_faults scope d) _ e) in
    let own = given-laid-out scope d.size cells in
    let here : walk.given_size (walk.size_facts names d.size) ≡ Some (declared_size scope.consts d.size) = given-is names scope w d.size size ∙ own in
    let few = small-from (tree.given_size scope d.size) (declared_size scope.consts d.size) own (given-small scope d.size) in
    let rest = sizes-are (walk.declaring names d) (tree.declaring scope d) (declaring-describes names scope w d size) (one_more scope.variables _ k cells) ds h.2 u.1 (all_right (decl_exprs d) _ f) (nil_right (tree.decl_faults scope d) _ e) in
    let sum = cons-sum (sized scope.consts d) (map (sized scope.consts) ds) in
    let below = rest.small in
    record {
      equal = ap (λ o. o ∷ walk.decl_sizes (walk.declaring names d) ds) here ∙ ap (λ os. Some (declared_size scope.consts d.size) ∷ os) rest.equal;
      least = (subst HasCells own cells, rest.least);
      small = omega arith;
    }

-- Numbers of cells

abbrev pub most_cells : ℕ
most_cells = 2 ^ 64 - 1

node-sum : (before : ℕ) (vs : List code_sized.Sized) → before + sum_by (λ v. v.size) (map sized_view vs) ≤ most_cells → node_cells before vs ≡ before + sum_by (λ v. v.size) (map sized_view vs)
node-sum before [] h = omega arith
node-sum before (v ∷ vs) h =
    let e = cons-sum (sized_view v) (map sized_view vs) in
    let here : sum_up before v.size ≡ before + v.size = omega arith in
    ap (λ n. node_cells n vs) here ∙ (node-sum (before + v.size) vs (omega arith) ∙ omega arith)

declared-sum : (consts : List Const) (before : ℕ) (ds : List Decl) → before + sum_by (λ v. v.size) (map (sized consts) ds) ≤ most_cells
    → declared_cells before (map (λ d. Some (declared_size consts d.size)) ds) ≡ before + sum_by (λ v. v.size) (map (sized consts) ds)
declared-sum consts before [] h = omega arith
declared-sum consts before (d ∷ ds) h =
    let e = cons-sum (sized consts d) (map (sized consts) ds) in
    let here : sum_up before (declared_size consts d.size) ≡ before + declared_size consts d.size = omega arith in
    ap (λ n. declared_cells n (map (λ g. Some (declared_size consts g.size)) ds)) here ∙ (declared-sum consts (before + declared_size consts d.size) ds (omega arith) ∙ omega arith)

-- Places

address-is : (n : ℕ) → n ≤ 65535 → address n ≡ n
address-is n h = omega arith

sum-is : (a b : ℕ) → a + b ≤ 65535 → sum_up a b ≡ a + b
sum-is a b h = omega arith

placed-is : (start size : ℕ) (name : Name) → start ≤ 65535 → size ≤ 65535 → placed_view (placed_at start size name) ≡ record { name = name; start = start; size = size }
placed-is start size name h k = ap (λ (n : ℕ). record { name = name; start = n; size = address size }) (address-is start h) ∙ ap (λ (n : ℕ). record { name = name; start = start; size = n }) (address-is size k)

variables-placed : (start : ℕ) (vs : List code_sized.Sized) → start + sum_by (λ v. v.size) (map sized_view vs) ≤ 65535 → map placed_view (placed_variables start vs) ≡ layout.placed_from start (map sized_view vs)
variables-placed start [] h = refl
variables-placed start (v ∷ vs) h =
    let e = cons-sum (sized_view v) (map sized_view vs) in
    ap (λ p. p ∷ map placed_view (placed_variables (sum_up start v.size) vs)) (placed-is start v.size v.name (omega arith) (omega arith))
    ∙ (ap (λ n. record { name = v.name; start = start; size = v.size } ∷ map placed_view (placed_variables n vs)) (sum-is start v.size (omega arith))
    ∙ ap (λ ps. record { name = v.name; start = start; size = v.size } ∷ ps) (variables-placed (start + v.size) vs (omega arith)))

decls-placed : (consts : List Const) (start : ℕ) (ds : List code_decl.Decl) → start + sum_by (λ v. v.size) (map (sized consts) (map decl_view ds)) ≤ 65535
    → map placed_view (placed_decls start ds (map (λ d. Some (declared_size consts d.size)) (map decl_view ds))) ≡ layout.placed_from start (map (sized consts) (map decl_view ds))
decls-placed consts start [] h = refl
decls-placed consts start (d ∷ ds) h =
    let size = declared_size consts (decl_view d).size in
    let rest = map (λ g. Some (declared_size consts g.size)) (map decl_view ds) in
    let e = cons-sum (sized consts (decl_view d)) (map (sized consts) (map decl_view ds)) in
    ap (λ p. p ∷ map placed_view (placed_decls (sum_up start size) ds rest)) (placed-is start size d.name (omega arith) (omega arith))
    ∙ (ap (λ n. record { name = d.name; start = start; size = size } ∷ map placed_view (placed_decls n ds rest)) (sum-is start size (omega arith))
    ∙ ap (λ ps. record { name = d.name; start = start; size = size } ∷ ps) (decls-placed consts (start + size) ds (omega arith)))

placed-append : (start : ℕ) (vs ws : List Sized) → layout.placed_from start (vs ++ ws) ≡ layout.placed_from start vs ++ layout.placed_from (start + sum_by (λ v. v.size) vs) ws
placed-append start [] ws = ap (λ n. layout.placed_from n ws) (omega arith)
placed-append start (v ∷ vs) ws =
    let e = cons-sum v vs in
    ap (λ ps. record { name = v.name; start = start; size = v.size } ∷ ps)
    (placed-append (start + v.size) vs ws ∙ ap (λ n. layout.placed_from (start + v.size) vs ++ layout.placed_from n ws) (omega arith))

in-order : (start end : ℕ) (vs : List Sized) → EachHasOne vs → start + sum_by (λ v. v.size) vs ≡ end → AreInOrder start (layout.placed_from start vs) end
in-order start end [] h e = omega arith
in-order start end (v ∷ vs) h e = let sum = cons-sum v vs in (refl, h.0, in-order (start + v.size) end vs h.1 (omega arith))

each-append : (vs ws : List Sized) → EachHasOne vs → EachHasOne ws → EachHasOne (vs ++ ws)
each-append [] ws h k = k
each-append (v ∷ vs) ws h k = (h.0, each-append vs ws h.1 k)

map-append : {A B : Type 0} (g : A → B) (xs ys : List A) → map g (xs ++ ys) ≡ map g xs ++ map g ys
map-append g [] ys = refl
map-append g (x ∷ xs) ys = ap (λ zs. g x ∷ zs) (map-append g xs ys)

-- All variables of a program: those of a node, and those that are declared.
pub all-cells : (consts : List Const) (vs : List code_sized.Sized) (ds : List Decl) (sizes : List (Option ℕ)) → SizesAre consts sizes ds → sum_by (λ v. v.size) (map sized_view vs) ≤ 4096 → length ds ≤ limit
    → declared_cells (node_cells 0 vs) sizes ≡ sum_by (λ v. v.size) (map sized_view vs ++ map (sized consts) ds)
all-cells consts vs ds sizes s h k =
    let small = s.small in
    let node : node_cells 0 vs ≡ sum_by (λ v. v.size) (map sized_view vs) = node-sum 0 vs (omega arith) ∙ zero-add (sum_by (λ v. v.size) (map sized_view vs)) in
    ap (λ n. declared_cells n sizes) node
    ∙ (ap (λ os. declared_cells (sum_by (λ v. v.size) (map sized_view vs)) os) s.equal
    ∙ (declared-sum consts (sum_by (λ v. v.size) (map sized_view vs)) ds (omega arith)
    ∙ sym (sum_by-append (λ v. v.size) (map sized_view vs) (map (sized consts) ds))))

pub all-placed : (consts : List Const) (vs : List code_sized.Sized) (ds : List code_decl.Decl) (sizes : List (Option ℕ)) → SizesAre consts sizes (map decl_view ds)
    → sum_by (λ v. v.size) (map sized_view vs ++ map (sized consts) (map decl_view ds)) ≤ 65535
    → map placed_view (placed_variables 0 vs ++ placed_decls (node_cells 0 vs) ds sizes) ≡ layout.placed_from 0 (map sized_view vs ++ map (sized consts) (map decl_view ds))
all-placed consts vs ds sizes s h =
    let sums = sum_by-append (λ v. v.size) (map sized_view vs) (map (sized consts) (map decl_view ds)) in
    let node : node_cells 0 vs ≡ sum_by (λ v. v.size) (map sized_view vs) = node-sum 0 vs (omega arith) ∙ zero-add (sum_by (λ v. v.size) (map sized_view vs)) in
    let zero : 0 + sum_by (λ v. v.size) (map sized_view vs) ≡ sum_by (λ v. v.size) (map sized_view vs) = zero-add (sum_by (λ v. v.size) (map sized_view vs)) in
    map-append placed_view (placed_variables 0 vs) (placed_decls (node_cells 0 vs) ds sizes)
    ∙ (ap (λ ps. ps ++ map placed_view (placed_decls (node_cells 0 vs) ds sizes)) (variables-placed 0 vs (omega arith))
    ∙ (ap (λ n. layout.placed_from 0 (map sized_view vs) ++ map placed_view (placed_decls n ds sizes)) node
    ∙ (ap (λ os. layout.placed_from 0 (map sized_view vs) ++ map placed_view (placed_decls (sum_by (λ v. v.size) (map sized_view vs)) ds os)) s.equal
    ∙ (ap (λ ps. layout.placed_from 0 (map sized_view vs) ++ ps) (decls-placed consts (sum_by (λ v. v.size) (map sized_view vs)) ds (omega arith))
    ∙ (ap (λ n. layout.placed_from 0 (map sized_view vs) ++ layout.placed_from n (map (sized consts) (map decl_view ds))) (sym zero)
    ∙ sym (placed-append 0 (map sized_view vs) (map (sized consts) (map decl_view ds))))))))

pub all-in-order : (consts : List Const) (vs : List code_sized.Sized) (ds : List Decl) (sizes : List (Option ℕ)) → SizesAre consts sizes ds → EachHasOne (map sized_view vs)
    → AreInOrder 0 (layout.placed_from 0 (map sized_view vs ++ map (sized consts) ds)) (sum_by (λ v. v.size) (map sized_view vs ++ map (sized consts) ds))
all-in-order consts vs ds sizes s h =
    let all = map sized_view vs ++ map (sized consts) ds in
    in-order 0 (sum_by (λ v. v.size) all) all (each-append (map sized_view vs) (map (sized consts) ds) h s.least) (zero-add (sum_by (λ v. v.size) all))
