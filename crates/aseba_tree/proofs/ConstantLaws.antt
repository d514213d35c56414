-- The value of a constant is its value in a run, and what is known of variables is how they are laid out.
use Rattle.std.proofs.Common.{◌≡◌, refl, sym, ◌∙◌, ap, subst, Bool, true, false, ◌&&◌, if◌then◌else◌, ℤ, pos, negsuc, List, [], ◌∷◌, ◌++◌, Option, Some, None, is_some, nat_lt}
use Rattle.std.specs.Prelude.{option_to_list, unwrap_or, ok_or, map, Ok}
use Rattle.aseba_words.specs.declared.operators.Unary.{Unary}
use Rattle.aseba_words.specs.declared.operators.Binary.{Binary}
use Rattle.aseba_words.specs.Cell.{unary_value}
use Rattle.aseba_tree.specs.Code.{Name, Expr, expr, Form, number, whole, index, range, items, one, two, no_exprs, exprs, Const, Decl, Sized}
use Rattle.aseba_tree.specs.Value.{by_zero, as_number, one_element, as_place, Element, unary_element, paired, elements, form_elements, value, constant, first_stop}
use Rattle.std.specs.Prelude.{flat_map}
use Rattle.std.specs.List.{list_all}
use Rattle.std.proofs.lemmas.List.{append-nil, append_assoc}
use Rattle.aseba_tree.specs.State.{Program, declared, declared_size}
use Rattle.aseba_tree.specs.Sizes.{Known, Scope, variable_of, constant_of, unary_constant, binary_constant, constant_value, constant_form}
use Rattle.aseba_tree.specs.Faults.{size_in_range, given_size, decl_faults, declaring, all_declaring, decls_faults, recursion_faults, sub_calls, first_scope, world_of}
use Rattle.aseba_tree.specs.Shape.{is_filled, decl_exprs, stmts_exprs}
use Rattle.aseba_tree.proofs.SizeLaws.{EachKnown, nil_left, nil_right}
use Rattle.aseba_tree.proofs.SoundProofs.{all_left, all_right, one_more, decl_has_cells, node_has_cells, sound_is_faultless}
use Rattle.aseba_tree.specs.SoundLaws.{HasCells, SoundIsLaidOut, ConstantHasValue}

some_value : (a b : ℤ) → Some a ≡ Some b → a ≡ b
some_value a b e = ap (λ o. unwrap_or o (pos 0)) e

abbrev an_element : ℤ → Element
an_element a = Ok a

named_value : (known : Bool) (consts : List Const) (name : Name) (o : Option ℤ) (v : ℤ) → (if known then None else o) ≡ Some v → map an_element (option_to_list o) ≡ Ok v ∷ []
named_value true consts name o v e = cc
named_value false consts name None v e = cc
named_value false consts name (Some a) v e = ap (λ x. Ok x ∷ []) (some_value a v e)

unary_agrees : (op : Unary) (o : Option ℤ) (es : List Element) (v : ℤ) → ((a : ℤ) → o ≡ Some a → es ≡ Ok a ∷ []) → unary_constant op o ≡ Some v → map (unary_element op) es ≡ Ok v ∷ []
unary_agrees op None es v h e = cc
unary_agrees op (Some a) es v h e = ap (map (unary_element op)) (h a refl) ∙ ap (λ x. Ok x ∷ []) (some_value (unary_value op a) v e)

binary_agrees : (op : Binary) (l r : Option ℤ) (ls rs : List Element) (v : ℤ) → ((a : ℤ) → l ≡ Some a → ls ≡ Ok a ∷ []) → ((a : ℤ) → r ≡ Some a → rs ≡ Ok a ∷ []) → binary_constant op l r ≡ Some v
    → paired op ls rs ≡ Ok v ∷ []
binary_agrees op None r ls rs v h k e = cc
binary_agrees op (Some a) None ls rs v h k e = cc
binary_agrees op (Some a) (Some b) ls rs v h k e = ap (λ xs. paired op xs rs) (h a refl) ∙ ap (paired op (Ok a ∷ [])) (k b refl) ∙ ap (λ o. ok_or o by_zero ∷ []) e

mutual
  constant_agrees : (scope : Scope) (e : Expr) (v : ℤ) → constant_value scope e ≡ Some v → elements scope.consts [] e ≡ Ok v ∷ []
  constant_agrees scope (expr first place form) v e = form_agrees scope form v e

  form_agrees : (scope : Scope) (form : Form) (v : ℤ) → constant_form scope form ≡ Some v → form_elements scope.consts [] form ≡ Ok v ∷ []
  form_agrees scope (number n) v e = ap (λ x. Ok x ∷ []) (some_value n v e)
  form_agrees scope (whole name) v e = named_value (is_some (variable_of scope name)) scope.consts name (constant_of scope name) v e
  form_agrees scope (index name i) v e = cc
  form_agrees scope (range name c d) v e = cc
  form_agrees scope (items no_exprs) v e = cc
  form_agrees scope (items (exprs i no_exprs)) v e = ap (λ xs. xs ++ []) (constant_agrees scope i v e)
  form_agrees scope (items (exprs i (exprs j es))) v e = cc
  form_agrees scope (one op i) v e = unary_agrees op (constant_value scope i) (elements scope.consts [] i) v (λ a. constant_agrees scope i a) e
  form_agrees scope (two op l r) v e =
      binary_agrees op (constant_value scope l) (constant_value scope r) (elements scope.consts [] l) (elements scope.consts [] r) v (λ a. constant_agrees scope l a) (λ a. constant_agrees scope r a) e

pub constant_is_value : (scope : Scope) (e : Expr) (v : ℤ) → constant_value scope e ≡ Some v → constant scope.consts e ≡ v
constant_is_value scope e v h = ap (λ es. as_number (one_element es)) (constant_agrees scope e v h)

-- Declarations leave the constants.
pub same_consts : (scope : Scope) (ds : List Decl) → (all_declaring scope ds).consts ≡ scope.consts
same_consts scope [] = refl
same_consts scope (d ∷ ds) = same_consts (declaring scope d) ds

pub constant_has_value : (program : Program) → ConstantHasValue program
constant_has_value program e v h =
    let scope = (world_of program).scope in
    subst (λ consts. value consts [] e ≡ Ok (v ∷ [])) (same_consts (first_scope program.project) program.source.vars) (ap first_stop (constant_agrees scope e v h))

-- Sizes

-- a variable with its size, as it is known
abbrev pub known : Sized → Known
known v = record { name = v.name; size = Some v.size }

in_range_value : (v : ℤ) → HasCells (size_in_range (Some v)) → size_in_range (Some v) ≡ Some (as_place v)
in_range_value (negsuc n) h = absurd h
in_range_value (pos n) h = taken (nat_lt 0 n && nat_lt n 4097) h
  where
    taken : (b : Bool) → HasCells (if b then Some n else None) → (if b then Some n else None) ≡ Some n
    taken true k = refl
    taken false k = absurd k

-- the size that a declaration without a fault gives is that with which it is laid out
laid_out_size : (scope : Scope) (size : Option Expr) → HasCells (given_size scope size) → given_size scope size ≡ Some (declared_size scope.consts size)
laid_out_size scope None h = refl
laid_out_size scope (Some e) h = by_value (constant_value scope e) refl h
  where
    by_value : (o : Option ℤ) → constant_value scope e ≡ o → HasCells (size_in_range o) → size_in_range o ≡ Some (as_place (constant scope.consts e))
    by_value None q k = absurd k
    by_value (Some v) q k = in_range_value v k ∙ ap (λ a. Some (as_place a)) (sym (constant_is_value scope e v q))

-- one declaration after the other
laid_out : (scope : Scope) → EachKnown scope.variables → (ds : List Decl) → list_all is_filled (flat_map decl_exprs ds) ≡ true → decls_faults scope ds ≡ []
    → (all_declaring scope ds).variables ≡ scope.variables ++ map known (map (λ d. record { name = d.name; size = declared_size scope.consts d.size }) ds)
laid_out scope h [] f e = sym (append-nil scope.variables)
laid_out scope h (d ∷ ds) f e =
    let cells = decl_has_cells scope h d (all_left (decl_exprs d) _ f) (nil_left (decl_faults scope d) _ e) in
    laid_out (declaring scope d) (one_more scope.variables _ h cells) ds (all_right (decl_exprs d) _ f) (nil_right (decl_faults scope d) _ e)
    ∙ ap (λ size. (scope.variables ++ record { name = d.name; size = size } ∷ []) ++ map known (map (λ d. record { name = d.name; size = declared_size scope.consts d.size }) ds)) (laid_out_size scope d.size cells)
    ∙ append_assoc scope.variables _ _

map_append : {A B : Type 0} (g : A → B) (xs ys : List A) → map g (xs ++ ys) ≡ map g xs ++ map g ys
map_append g [] ys = refl
map_append g (x ∷ xs) ys = ap (λ zs. g x ∷ zs) (map_append g xs ys)

pub sound_is_laid_out : (program : Program) → SoundIsLaidOut program
sound_is_laid_out program tree node sound =
    let none = ((sound_is_faultless program).0 sound).0 in
    let vars = nil_left (decls_faults (first_scope program.project) program.source.vars) _ (nil_left _ _ (nil_left _ (recursion_faults [] (sub_calls program.source.parts)) none)) in
    laid_out (first_scope program.project) (node_has_cells program.project.node.variables node) program.source.vars
    (all_left (flat_map decl_exprs program.source.vars) _ (all_left (flat_map decl_exprs program.source.vars ++ stmts_exprs program.source.init) _ tree.is_filled)) vars
    ∙ sym (map_append known program.project.node.variables (declared program))
