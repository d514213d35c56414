-- The arguments that a call of a native passes: those of the source are what the element form keeps in temporaries, and where it says that they begin.
use Rattle.std.proofs.Common.{◌≡◌, refl, sym, ◌∙◌, ap, subst, ℕ, ◌+◌, ◌-◌, ◌<◌, ◌≤◌, true, false, Bool, if◌then◌else◌, ℤ, pos, List, [], ◌∷◌, ◌++◌, arith, Option, Some, None, is_some, length, map, length-append, Result, Ok, Err, slice_index_or}
use Rattle.std.specs.List.{range_with_len}
use Rattle.std.proofs.lemmas.List.{map-append, length-map, get_or_append_left, get_or-append-add}
use Rattle.std.proofs.lemmas.List.FromFn.{length-range_with_len}
use Rattle.aseba_tree.specs.Code.{Name, Place, Expr, expr, Form, number, whole, index, range, items, one, two, Exprs, no_exprs, exprs}
use Rattle.aseba_tree.specs.CoreExpr.{core_value, cell}
use Rattle.aseba_tree.specs.Elements.{variable_place, elements_of}
use Rattle.aseba_tree.specs.Layout.{variables, cells_of_variables}
use Rattle.aseba_tree.specs.Numbers.{is_own, is_own_form, fresh_elements, fresh_of_list, lengths}
use Rattle.aseba_tree.specs.State.{Program}
use Rattle.aseba_tree.specs.Step.{Argument, own, fresh, argument, arguments, argument_sizes}
use Rattle.aseba_tree.specs.Value.{Cells, Stop, Element, and_then, first_stop, elements, value}
use Rattle.aseba_expand.specs.Plain.{bound, own_start, argument_starts}
use Rattle.aseba_expand.proofs.ArgumentLaws.{OwnHere, FreshHere, Stands}
use Rattle.aseba_expand.proofs.Assigned.{stop-length}
use Rattle.aseba_expand.proofs.Cells.{Laid, cells-none}
use Rattle.aseba_expand.proofs.Ready.{Grounded, GroundedForm, GroundedList, Reaches}
use Rattle.aseba_expand.proofs.Values.{with_room, values-alike, reading}

-- the computed cells of an argument that has none of its own
abbrev pub fresh_values : Program → Cells → Exprs → List Element
fresh_values program cells no_exprs = []
fresh_values program cells (exprs e es) = (if is_own program e then [] else elements program.project.consts cells e) ++ fresh_values program cells es

-- they are the values of the elements that are kept
pub fresh-alike : (program : Program) (cells : Cells) (temporaries : List ℤ) (es : Exprs) → Laid cells (variables program) → GroundedList program es
    → map (core_value (with_room cells temporaries)) (fresh_of_list program es) ≡ fresh_values program cells es
fresh-alike program cells temporaries no_exprs h g = refl
fresh-alike program cells temporaries (exprs e es) h g =
    map-append (core_value (with_room cells temporaries)) (fresh_elements program e) (fresh_of_list program es)
    ∙ ap (λ vs. vs ++ map (core_value (with_room cells temporaries)) (fresh_of_list program es)) (by (is_own program e))
    ∙ ap (λ vs. (if is_own program e then [] else elements program.project.consts cells e) ++ vs) (fresh-alike program cells temporaries es h g.1)
  where
    by : (b : Bool) → map (core_value (with_room cells temporaries)) (if b then [] else elements_of program e) ≡ (if b then [] else elements program.project.consts cells e)
    by true = refl
    by false = values-alike program cells temporaries e h g.0

stop-append : (xs ys : List Element) → first_stop (xs ++ ys) ≡ and_then (first_stop xs) (λ vs. and_then (first_stop ys) (λ ws. Ok (vs ++ ws)))
stop-append [] ys = by (first_stop ys)
  where
    by : (r : Result (List ℤ) Stop) → r ≡ and_then r (λ ws. Ok ws)
    by (Err s) = refl
    by (Ok ws) = refl
stop-append (Err s ∷ xs) ys = refl
stop-append (Ok v ∷ xs) ys = ap (λ r. and_then r (λ vs. Ok (v ∷ vs))) (stop-append xs ys) ∙ by (first_stop xs) (first_stop ys)
  where
    by : (r q : Result (List ℤ) Stop) → and_then (and_then r (λ vs. and_then q (λ ws. Ok (vs ++ ws)))) (λ vs. Ok (v ∷ vs)) ≡ and_then (and_then r (λ vs. Ok (v ∷ vs))) (λ vs. and_then q (λ ws. Ok (vs ++ ws)))
    by (Err s) q = refl
    by (Ok vs) (Err s) = refl
    by (Ok vs) (Ok ws) = refl

-- Own cells

-- an argument that stands for its own cells
pub record OwnArgument (program : Program) (cells : Cells) (e : Expr) : Type 0 where
  pub name : Name
  pub place : ℕ
  pub passed : argument program.project.consts cells e ≡ Ok (own name place)
  pub here : OwnHere program (length (elements_of program e)) (own_start program e) name place

own-form : (program : Program) (cells : Cells) (first here : Place) (form : Form) → Laid cells (variables program) → is_own_form program form ≡ true → GroundedForm program form → OwnArgument program cells (expr first here form)
own-form program cells first here (number v) h o g = cc
own-form program cells first here (whole name) h o g = by (variable_place program name) refl o
  where
    by : (p : Option (ℕ × ℕ)) → variable_place program name ≡ p → is_some p ≡ true → OwnArgument program cells (expr first here (whole name))
    by None e o = cc
    by (Some p) e o =
        let r = reading program cells [] name p.0 p.1 h e in
        record {
          name = name;
          place = 0;
          passed = rw r.found refl;
          here = record {
            base = p.0;
            size = p.1;
            found = e;
            start = rw e (let none : p.0 ≡ p.0 + 0 = omega arith in none);
            inside = rw e (let long : length (map cell (range_with_len p.0 p.1)) ≡ p.1 = length-map (range_with_len p.0 p.1) cell ∙ length-range_with_len p.0 p.1 in omega (arith, long));
          };
        }
own-form program cells first here (index name i) h o g = cc
own-form program cells first here (range name c d) h o g = by (variable_place program name) refl g.0
  where
    by : (p : Option (ℕ × ℕ)) → variable_place program name ≡ p → Reaches p (bound program d) → OwnArgument program cells (expr first here (range name c d))
    by None e r = absurd r
    by (Some p) e r = record {
      name = name;
      place = bound program c;
      passed = refl;
      here = record {
        base = p.0;
        size = p.1;
        found = e;
        start = rw e refl;
        inside = rw e (
            let ks = range_with_len (bound program c) (bound program d + 1 - bound program c) in
            let long : length (map (λ i. cell (p.0 + i)) ks) ≡ bound program d + 1 - bound program c = length-map ks (λ i. cell (p.0 + i)) ∙ length-range_with_len (bound program c) (bound program d + 1 - bound program c) in
            omega (arith, long, r, g.1));
      };
    }
own-form program cells first here (items es) h o g = cc
own-form program cells first here (one op e) h o g = cc
own-form program cells first here (two op l r) h o g = cc

pub own-argument : (program : Program) (cells : Cells) (e : Expr) → Laid cells (variables program) → is_own program e ≡ true → Grounded program e → OwnArgument program cells e
own-argument program cells (expr first here form) h o g = own-form program cells first here form h o g

-- Fresh cells

fresh-form : (program : Program) (cells : Cells) (first here : Place) (form : Form) → Laid cells (variables program) → is_own_form program form ≡ false
    → argument program.project.consts cells (expr first here form) ≡ and_then (value program.project.consts cells (expr first here form)) (λ vs. Ok (fresh vs))
fresh-form program cells first here (number v) h o = refl
fresh-form program cells first here (whole name) h o = by (variable_place program name) refl o
  where
    by : (p : Option (ℕ × ℕ)) → variable_place program name ≡ p → is_some p ≡ false
        → argument program.project.consts cells (expr first here (whole name)) ≡ and_then (value program.project.consts cells (expr first here (whole name))) (λ vs. Ok (fresh vs))
    by None e o = rw (cells-none cells (variables program) 0 name h e) refl
    by (Some p) e o = cc
fresh-form program cells first here (index name i) h o = refl
fresh-form program cells first here (range name c d) h o = cc
fresh-form program cells first here (items es) h o = refl
fresh-form program cells first here (one op e) h o = refl
fresh-form program cells first here (two op l r) h o = refl

fresh-argument : (program : Program) (cells : Cells) (e : Expr) → Laid cells (variables program) → is_own program e ≡ false
    → argument program.project.consts cells e ≡ and_then (value program.project.consts cells e) (λ vs. Ok (fresh vs))
fresh-argument program cells (expr first here form) h o = fresh-form program cells first here form h o

-- All arguments

-- the temporaries hold the values from one on
abbrev pub Holds : List ℤ → (j : ℕ) → List ℤ → Type 0
Holds temporaries j vs = (i : ℕ) → i < length vs → slice_index_or temporaries (j + i) (pos 0) ≡ slice_index_or vs i (pos 0)

-- What comes of computing arguments: a stop; or arguments, which stand where the element form says as long as the temporaries hold the kept values.
abbrev pub Passed : Program → Cells → Exprs → Result (List ℤ) Stop → Type 0
Passed program cells es (Err stop) = arguments program.project.consts cells es ≡ Err stop
Passed program cells es (Ok vs) =
    (args : List Argument) × (arguments program.project.consts cells es ≡ Ok args)
    × ((j : ℕ) (temporaries : List ℤ) → j + length vs ≤ length temporaries → Holds temporaries j vs → Stands program j (lengths program es) (argument_starts program (cells_of_variables program + j) es) args temporaries)

own-first : (program : Program) (cells : Cells) (e : Expr) (es : Exprs) (r : Result (List ℤ) Stop) → is_own program e ≡ true → OwnArgument program cells e → Passed program cells es r → Passed program cells (exprs e es) r
own-first program cells e es (Err stop) o w p = rw (w.passed, p) refl
own-first program cells e es (Ok vs) o w p = (
  own w.name w.place ∷ p.0,
  rw (w.passed, p.1) refl,
  λ j temporaries room holds.
      let none : cells_of_variables program + j + 0 ≡ cells_of_variables program + j = omega arith in
      rw (o, none) (w.here, p.2 j temporaries room holds),
)

fresh-first : (program : Program) (cells : Cells) (e : Expr) (es : Exprs) (r q : Result (List ℤ) Stop) → Laid cells (variables program) → is_own program e ≡ false
    → value program.project.consts cells e ≡ r → ((vs : List ℤ) → r ≡ Ok vs → length vs ≡ length (elements_of program e)) → Passed program cells es q
    → Passed program cells (exprs e es) (and_then r (λ vs. and_then q (λ ws. Ok (vs ++ ws))))
fresh-first program cells e es (Err stop) q h o k long p = rw (fresh-argument program cells e h o, k) refl
fresh-first program cells e es (Ok vs) (Err stop) h o k long p = rw (fresh-argument program cells e h o, k, p) refl
fresh-first program cells e es (Ok vs) (Ok ws) h o k long p =
    let n = length (elements_of program e) in
    let size : length vs ≡ n = long vs refl in (
      fresh vs ∷ p.0,
      rw (fresh-argument program cells e h o, k, p.1) refl,
      λ j temporaries room holds.
          let total : length (vs ++ ws) ≡ length vs + length ws = length-append vs ws in
          let up : cells_of_variables program + j + n ≡ cells_of_variables program + (j + n) = omega arith in
          let first : FreshHere program j n (cells_of_variables program + j) vs temporaries = record {
            start = refl;
            long = size;
            room = omega (arith, room, total, size);
            reads = λ i less. holds i (omega (arith, less, total, size)) ∙ get_or_append_left vs ws (pos 0) i (omega (arith, less, size));
          } in
          let rest : Stands program (j + n) (lengths program es) (argument_starts program (cells_of_variables program + (j + n)) es) p.0 temporaries =
          p.2 (j + n) temporaries (omega (arith, room, total, size)) (λ i less.
          let at : j + n + i ≡ j + (n + i) = omega arith in
          let there : length vs + i ≡ n + i = omega (arith, size) in
          ap (λ m. slice_index_or temporaries m (pos 0)) at ∙ holds (n + i) (omega (arith, less, total, size))
          ∙ ap (λ m. slice_index_or (vs ++ ws) m (pos 0)) (sym there) ∙ get_or-append-add vs ws i (pos 0)) in
          rw (o, up) (first, rest),
    )

pub all-passed : (program : Program) (cells : Cells) (es : Exprs) → Laid cells (variables program) → GroundedList program es → Passed program cells es (first_stop (fresh_values program cells es))
all-passed program cells no_exprs h g = ([], refl, λ j temporaries room holds. tt)
all-passed program cells (exprs e es) h g = by (is_own program e) refl (all-passed program cells es h g.1)
  where
    by : (b : Bool) → is_own program e ≡ b → Passed program cells es (first_stop (fresh_values program cells es))
        → Passed program cells (exprs e es) (first_stop ((if b then [] else elements program.project.consts cells e) ++ fresh_values program cells es))
    by true o p = own-first program cells e es (first_stop (fresh_values program cells es)) o (own-argument program cells e h o g.0) p
    by false o p =
        let vs = elements program.project.consts cells e in
        let size : length vs ≡ length (elements_of program e) = sym (ap length (values-alike program cells [] e h g.0)) ∙ length-map (elements_of program e) (core_value (with_room cells [])) in
        subst (λ r. Passed program cells (exprs e es) r) (sym (stop-append vs (fresh_values program cells es)))
        (fresh-first program cells e es (first_stop vs) (first_stop (fresh_values program cells es)) h o refl (λ values f. stop-length vs values f ∙ size) p)

-- the numbers of cells are those of the source's arguments
pub sizes-alike : (program : Program) (cells : Cells) (es : Exprs) → Laid cells (variables program) → GroundedList program es → argument_sizes program.project.consts cells es ≡ lengths program es
sizes-alike program cells no_exprs h g = refl
sizes-alike program cells (exprs e es) h g =
    let size : length (elements program.project.consts cells e) ≡ length (elements_of program e) =
    sym (ap length (values-alike program cells [] e h g.0)) ∙ length-map (elements_of program e) (core_value (with_room cells [])) in
    rw (size, sizes-alike program cells es h g.1) refl
