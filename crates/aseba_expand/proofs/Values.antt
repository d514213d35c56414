-- The elements of an expression have the values of its cells.
use Rattle.std.proofs.Common.{◌≡◌, refl, sym, ◌∙◌, ap, subst, ℕ, zero, suc, ◌+◌, ◌-◌, ◌≤◌, ◌<◌, true, false, Bool, ℤ, pos, negsuc, List, [], ◌∷◌, ◌++◌, arith, Option, Some, None, length, map, append_assoc}
use Rattle.std.specs.List.{range_with_len}
use Rattle.std.specs.Prelude.{Result, Ok, Err, if◌then◌else◌, nat_lt, nat_le, slice_index_or, bytes_eq, find}
use Rattle.std.proofs.lemmas.Bool.{ltb-true, lt-ltb, leb-true, leb-false}
use Rattle.std.proofs.lemmas.List.{get_or_append_left, get_or-append-add, map-append}
use Rattle.aseba_words.specs.declared.operators.Binary.{Binary}
use Rattle.aseba_words.specs.declared.operators.Unary.{Unary}
use Rattle.aseba_tree.specs.Code.{Name, Expr, expr, Form, number, whole, index, range, items, one, two, Exprs, no_exprs, exprs, Const}
use Rattle.aseba_tree.specs.CoreExpr.{CoreExpr, cell, prefix, core_value}
use Rattle.aseba_tree.specs.Elements.{variable_place, named_elements, indexed_element, range_elements, paired_elements, elements_of, elements_of_form, elements_of_list}
use Rattle.aseba_tree.specs.Layout.{variables}
use Rattle.aseba_tree.specs.State.{Program}
use Rattle.aseba_tree.specs.Value.{Cells, cells_of, variable_cells, named_cells, Stop, outside, Element, and_then, place_among, cell_at, one_element, unary_element, binary_element, paired, from_to, elements, form_elements, list_elements}
use Rattle.aseba_expand.specs.Expands.{all_cells_of}
use Rattle.aseba_expand.specs.Plain.{bound}
use Rattle.aseba_expand.proofs.Cells.{Laid, standing, cells-none}
use Rattle.aseba_expand.proofs.Ready.{IsFilled, IsThere, Reaches, Grounded, GroundedForm, GroundedList}

-- The cells of variables stand first, and temporaries behind them.
abbrev pub with_room : Cells → List ℤ → List ℤ
with_room cells temporaries = all_cells_of cells ++ temporaries

-- a cell that stands behind others, and before others
read : (pre own post : List ℤ) (i : ℕ) → i < length own → slice_index_or (pre ++ (own ++ post)) (length pre + i) (pos 0) ≡ slice_index_or own i (pos 0)
read pre own post i h = get_or-append-add pre (own ++ post) i (pos 0) ∙ get_or_append_left own post (pos 0) i h

-- how a variable of a name is read
pub record Read (program : Program) (cells : Cells) (temporaries : List ℤ) (name : Name) (a n : ℕ) : Type 0 where
  pub own : List ℤ
  pub found : cells_of cells name ≡ Some own
  pub size : length own ≡ n
  pub reads : (i : ℕ) → i < n → slice_index_or (with_room cells temporaries) (a + i) (pos 0) ≡ slice_index_or own i (pos 0)

pub reading : (program : Program) (cells : Cells) (temporaries : List ℤ) (name : Name) (a n : ℕ) → Laid cells (variables program) → variable_place program name ≡ Some (a, n) → Read program cells temporaries name a n
reading program cells temporaries name a n h e =
    let s = standing cells (variables program) 0 name a n h e in
    let whole : with_room cells temporaries ≡ s.pre ++ (s.own ++ (s.post ++ temporaries)) =
    ap (λ l. l ++ temporaries) s.whole ∙ append_assoc s.pre (s.own ++ s.post) temporaries ∙ ap (λ l. s.pre ++ l) (append_assoc s.own s.post temporaries) in
    record {
      own = s.own;
      found = s.found;
      size = s.size;
      reads = λ i less.
          let at : a + i ≡ length s.pre + i = omega (arith, s.at) in
          let short : i < length s.own = omega (arith, s.size, less) in
          ap (λ l. slice_index_or l (a + i) (pos 0)) whole ∙ ap (λ k. slice_index_or (s.pre ++ (s.own ++ (s.post ++ temporaries))) k (pos 0)) at ∙ read s.pre s.own (s.post ++ temporaries) i short;
    }

-- Whole variables

-- cells from an address on, each of which reads as the one of its place
all-read : (cells : List ℤ) (own : List ℤ) (a : ℕ) → ((i : ℕ) → i < length own → slice_index_or cells (a + i) (pos 0) ≡ slice_index_or own i (pos 0))
    → map (core_value cells) (map cell (range_with_len a (length own))) ≡ map Ok own
all-read cells [] a h = refl
all-read cells (v ∷ own) a h =
    let first : slice_index_or cells a (pos 0) ≡ v = (let e : a + 0 ≡ a = omega arith in let z : 0 < suc (length own) = omega arith in subst (λ k. slice_index_or cells k (pos 0) ≡ v) e (h 0 z)) in
    let rest = all-read cells own (a + 1) (λ i less.
    let e : a + 1 + i ≡ a + suc i = omega arith in
    let more : suc i < suc (length own) = omega (arith, less) in
    subst (λ k. slice_index_or cells k (pos 0) ≡ slice_index_or own i (pos 0)) (sym e) (h (suc i) more)) in
    rw first (ap (λ l. Ok v ∷ l) rest)

named-alike : (program : Program) (cells : Cells) (temporaries : List ℤ) (name : Name) (place : Option (ℕ × ℕ)) (c : Option Const) → Laid cells (variables program) → variable_place program name ≡ place
    → find (λ c. bytes_eq c.name name) program.project.consts ≡ c
    → map (core_value (with_room cells temporaries)) (named_elements place c) ≡ map Ok (named_cells program.project.consts name (cells_of cells name))
named-alike program cells temporaries name (Some p) c h e f =
    let r = reading program cells temporaries name p.0 p.1 h e in
    rw r.found (subst (λ n. map (core_value (with_room cells temporaries)) (map cell (range_with_len p.0 n)) ≡ map Ok r.own) r.size
    (all-read (with_room cells temporaries) r.own p.0 (λ i less. let small : i < p.1 = omega (arith, r.size, less) in r.reads i small)))
named-alike program cells temporaries name None (Some c) h e f = rw (cells-none cells (variables program) 0 name h e, f) refl
named-alike program cells temporaries name None None h e f = rw (cells-none cells (variables program) 0 name h e, f) refl

-- Indices and ranges

pub place-inside : (n : ℕ) (i : ℤ) (p : ℕ) → place_among n i ≡ Ok p → p < n
place-inside n (pos i) p e = pick (nat_lt i n) refl e
  where
    pick : (b : Bool) → nat_lt i n ≡ b → (if b then Ok i else Err (outside n (pos i))) ≡ Ok p → p < n
    pick true t f = let same : i ≡ p = cc in subst (λ k. k < n) same (ltb-true i n t)
    pick false t f = cc
place-inside n (negsuc i) p e = cc

-- a place, and the cell there
found-alike : (n : ℕ) (cells own : List ℤ) (a : ℕ) → ((i : ℕ) → i < n → slice_index_or cells (a + i) (pos 0) ≡ slice_index_or own i (pos 0)) → (r : Result ℕ Stop) → ((p : ℕ) → r ≡ Ok p → p < n)
    → and_then r (λ place. Ok (slice_index_or cells (a + place) (pos 0))) ≡ and_then r (λ place. Ok (slice_index_or own place (pos 0)))
found-alike n cells own a h (Ok p) k = ap Ok (h p (k p refl))
found-alike n cells own a h (Err s) k = refl

index-alike : (n : ℕ) (cells own : List ℤ) (a : ℕ) → length own ≡ n → ((i : ℕ) → i < n → slice_index_or cells (a + i) (pos 0) ≡ slice_index_or own i (pos 0)) → (i : ℤ)
    → and_then (place_among n i) (λ place. Ok (slice_index_or cells (a + place) (pos 0))) ≡ cell_at own i
index-alike n cells own a e h i = rw e (found-alike n cells own a h (place_among n i) (place-inside n i))

then-alike : (r : Element) (f g : ℤ → Element) → ((i : ℤ) → f i ≡ g i) → and_then r f ≡ and_then r g
then-alike (Ok v) f g h = h v
then-alike (Err s) f g h = refl

first-alike : (cells : List ℤ) (es : List CoreExpr) (vs : List Element) → IsFilled es → map (core_value cells) es ≡ vs → (e : CoreExpr) × (rest : List CoreExpr) × (es ≡ e ∷ rest) × (core_value cells e ≡ one_element vs)
first-alike cells [] vs h k = absurd h
first-alike cells (e ∷ es) vs h k = (e, es, refl, ap one_element k)

indexed-alike : (program : Program) (cells : Cells) (temporaries : List ℤ) (name : Name) (place : Option (ℕ × ℕ)) (es : List CoreExpr) (vs : List Element) → Laid cells (variables program)
    → variable_place program name ≡ place → IsThere place → IsFilled es → map (core_value (with_room cells temporaries)) es ≡ vs
    → core_value (with_room cells temporaries) (indexed_element place es) ≡ and_then (one_element vs) (cell_at (variable_cells cells name))
indexed-alike program cells temporaries name None es vs h e there filled k = absurd there
indexed-alike program cells temporaries name (Some p) [] vs h e there filled k = absurd filled
indexed-alike program cells temporaries name (Some p) (i ∷ es) vs h e there filled k =
    let r = reading program cells temporaries name p.0 p.1 h e in
    let value : core_value (with_room cells temporaries) i ≡ one_element vs = ap one_element k in
    rw (r.found, ← value) (then-alike (core_value (with_room cells temporaries) i) _ _ (index-alike p.1 (with_room cells temporaries) r.own p.0 r.size r.reads))

-- cells of a variable from one on, so many
span-read : (n : ℕ) (cells own : List ℤ) (a : ℕ) → length own ≡ n → ((i : ℕ) → i < n → slice_index_or cells (a + i) (pos 0) ≡ slice_index_or own i (pos 0)) → (count c : ℕ) → c + count ≤ n
    → map (core_value cells) (map (λ i. cell (a + i)) (range_with_len c count)) ≡ map (λ i. cell_at own (pos i)) (range_with_len c count)
span-read n cells own a e h zero c k = refl
span-read n cells own a e h (suc count) c k =
    let less : c < n = omega (arith, k) in
    let inside : nat_lt c (length own) ≡ true = rw e (lt-ltb c n less) in
    let here : core_value cells (cell (a + c)) ≡ cell_at own (pos c) = rw inside (ap Ok (h c less)) in
    let rest = span-read n cells own a e h count (c + 1) (omega (arith, k)) in
    rw (here, rest) refl

range-alike : (program : Program) (cells : Cells) (temporaries : List ℤ) (name : Name) (place : Option (ℕ × ℕ)) (c d : ℕ) → Laid cells (variables program) → variable_place program name ≡ place → Reaches place d
    → map (core_value (with_room cells temporaries)) (range_elements place c d) ≡ map (λ i. cell_at (variable_cells cells name) (pos i)) (from_to c d)
range-alike program cells temporaries name None c d h e k = absurd k
range-alike program cells temporaries name (Some p) c d h e k =
    let r = reading program cells temporaries name p.0 p.1 h e in
    rw r.found (by (nat_le c d) refl)
  where
    by : (b : Bool) → nat_le c d ≡ b
        → map (core_value (with_room cells temporaries)) (map (λ i. cell (p.0 + i)) (range_with_len c (d + 1 - c))) ≡ map (λ i. cell_at (reading program cells temporaries name p.0 p.1 h e).own (pos i)) (range_with_len c (d + 1 - c))
    by true t =
        let r = reading program cells temporaries name p.0 p.1 h e in
        span-read p.1 (with_room cells temporaries) r.own p.0 r.size r.reads (d + 1 - c) c (let up = leb-true c d t in omega (arith, k, up))
    by false t =
        let down = leb-false c d t in
        let none : d + 1 - c ≡ 0 = omega (arith, down) in
        rw none refl

-- Expressions

paired-alike : (cells : List ℤ) (op : Binary) (ls rs : List CoreExpr) → map (core_value cells) (paired_elements op ls rs) ≡ paired op (map (core_value cells) ls) (map (core_value cells) rs)
paired-alike cells op [] rs = refl
paired-alike cells op (l ∷ ls) [] = refl
paired-alike cells op (l ∷ ls) (r ∷ rs) = ap (λ t. binary_element op (core_value cells l) (core_value cells r) ∷ t) (paired-alike cells op ls rs)

prefixed-alike : (cells : List ℤ) (op : Unary) (es : List CoreExpr) → map (core_value cells) (map (prefix op) es) ≡ map (unary_element op) (map (core_value cells) es)
prefixed-alike cells op [] = refl
prefixed-alike cells op (e ∷ es) = ap (λ t. unary_element op (core_value cells e) ∷ t) (prefixed-alike cells op es)

mutual
  -- the elements of an expression have the values of its cells, or stop as they do
  pub values-alike : (program : Program) (cells : Cells) (temporaries : List ℤ) (e : Expr) → Laid cells (variables program) → Grounded program e
      → map (core_value (with_room cells temporaries)) (elements_of program e) ≡ elements program.project.consts cells e
  values-alike program cells temporaries (expr first place form) h g = form-alike program cells temporaries form h g

  form-alike : (program : Program) (cells : Cells) (temporaries : List ℤ) (form : Form) → Laid cells (variables program) → GroundedForm program form
      → map (core_value (with_room cells temporaries)) (elements_of_form program form) ≡ form_elements program.project.consts cells form
  form-alike program cells temporaries (number v) h g = refl
  form-alike program cells temporaries (whole name) h g = named-alike program cells temporaries name (variable_place program name) (find (λ c. bytes_eq c.name name) program.project.consts) h refl refl
  form-alike program cells temporaries (index name e) h g =
      ap (λ v. v ∷ []) (indexed-alike program cells temporaries name (variable_place program name) (elements_of program e) (elements program.project.consts cells e) h refl g.0 g.1 (values-alike program cells temporaries e h g.2))
  form-alike program cells temporaries (range name c d) h g = range-alike program cells temporaries name (variable_place program name) (bound program c) (bound program d) h refl g.0
  form-alike program cells temporaries (items es) h g = list-alike program cells temporaries es h g
  form-alike program cells temporaries (one op e) h g =
      prefixed-alike (with_room cells temporaries) op (elements_of program e) ∙ ap (map (unary_element op)) (values-alike program cells temporaries e h g)
  form-alike program cells temporaries (two op l r) h g =
      paired-alike (with_room cells temporaries) op (elements_of program l) (elements_of program r)
      ∙ ap (λ vs. paired op vs (map (core_value (with_room cells temporaries)) (elements_of program r))) (values-alike program cells temporaries l h g.0)
      ∙ ap (paired op (elements program.project.consts cells l)) (values-alike program cells temporaries r h g.1)

  list-alike : (program : Program) (cells : Cells) (temporaries : List ℤ) (es : Exprs) → Laid cells (variables program) → GroundedList program es
      → map (core_value (with_room cells temporaries)) (elements_of_list program es) ≡ list_elements program.project.consts cells es
  list-alike program cells temporaries no_exprs h g = refl
  list-alike program cells temporaries (exprs e es) h g =
      map-append (core_value (with_room cells temporaries)) (elements_of program e) (elements_of_list program es)
      ∙ ap (λ vs. vs ++ map (core_value (with_room cells temporaries)) (elements_of_list program es)) (values-alike program cells temporaries e h g.0)
      ∙ ap (λ vs. elements program.project.consts cells e ++ vs) (list-alike program cells temporaries es h g.1)
