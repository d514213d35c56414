-- What the walk over an expression knows is what the definitions say of it.
use Rattle.std.proofs.Common.{◌≡◌, refl, sym, ◌∙◌, ap, ℕ, suc, ◌+◌, ◌*◌, ◌≤◌, min, Bool, true, false, if◌then◌else◌, ℤ, pos, List, [], ◌∷◌, ◌++◌, Option, Some, None, subst, arith, add_assoc, append_assoc}
use Rattle.std.proofs.lemmas.List.{append-nil}
use Rattle.std.specs.Prelude.{nat_eq, int_lt, not, ◌||◌, ◌&&◌, is_some, option_and_then}
use Rattle.aseba_words.specs.declared.operators.Unary.{Unary}
use Rattle.aseba_words.specs.declared.operators.Unary.TheVariants.{Minus, Abs, BitNot, Not}
use Rattle.aseba_words.specs.declared.operators.Binary.{Binary}
use Rattle.aseba_tree.specs.declared.pos.Pos.{Pos}
use Rattle.aseba_tree.specs.Code.{Name, Place, Expr, expr, number, whole, index, range, items, one, two, Exprs, no_exprs, exprs}
use Rattle.aseba_tree.specs.Sizes.{Known, Scope, variable_of, constant_of, is_constant, are_constant, constant_value, alone, is_of_one_cell, added_size, name_size, size_of, list_size, variable_size}
use Rattle.aseba_tree.specs.Spells.{first_of}
use Rattle.aseba_tree.specs.Faults as tree
use Rattle.aseba_tree.specs.Shape.{expr_count, list_count}
use Rattle.aseba_check.specs.declared.fault.Rule.{Rule}
use Rattle.aseba_check.specs.declared.fault.Rule.TheVariants as code
use Rattle.aseba_check.specs.declared.fault.Fault.{Fault}
use Rattle.aseba_check.specs.declared.facts.Facts.{Facts}
use Rattle.aseba_check.specs.declared.facts.Meaning.{Meaning}
use Rattle.aseba_check.specs.declared.facts.Meaning.TheVariants.{Variable, Constant}
use Rattle.aseba_check.specs.Fits.{Fits, FitsList}
use Rattle.aseba_check.specs.Told as told
use Rattle.aseba_check.specs.Told.{rule_view, pos_of, facts_of, list_facts}
use Rattle.aseba_check.proofs.FaultLaws.{lesser, first-append, seen, seen-least}
use Rattle.aseba_check.proofs.Within.{Bounded, IsUpTo, more, sum-within, size-within}

-- a fault of the code is the one that is told of a list
pub record Tells (a : Option Fault) (xs : List tree.Fault) : Type 0 where
  pub told : seen a ≡ tree.first_fault xs

pub join : {a b : Option Fault} {xs ys : List tree.Fault} → Tells a xs → Tells b ys → Tells (told.least a b) (xs ++ ys)
join {a} {b} {xs} {ys} t u = record { told = seen-least a b ∙ (ap (λ o. lesser o (seen b)) t.told ∙ (ap (λ o. lesser (tree.first_fault xs) o) u.told ∙ sym (first-append xs ys))) }

pub silent : Tells None []
silent = record { told = refl }

pub if-tells : (b : Bool) (place : Place) (rule : Rule) → Tells (told.fault_if b (pos_of place) rule) (tree.fault_if b place (rule_view rule))
if-tells true place rule = record { told = refl }
if-tells false place rule = record { told = refl }

pub choice-tells : (b : Bool) {a c : Option Fault} {xs ys : List tree.Fault} → Tells a xs → Tells c ys → Tells (if b then a else c) (if b then xs else ys)
choice-tells true t u = t
choice-tells false t u = u

pub one-tells : (place : Place) (rule : Rule) → Tells (Some (record { at = pos_of place; rule = rule })) (record { place = place; rule = rule_view rule } ∷ [])
one-tells place rule = record { told = refl }

-- Numbers

-- the greatest number that faults can tell
abbrev pub most : ℕ
most = 9223372036854775807

pub signed-is : (n : ℕ) → n ≤ most → told.signed n ≡ pos n
signed-is n h = ap pos (let e : min n most ≡ n = omega arith in e)

pub differ-tells : (place : Place) (want got : Option ℕ) → IsUpTo want most → IsUpTo got most → Tells (told.bad_size (pos_of place) want got) (tree.sizes_differ tree.bad_size place want got)
differ-tells place None got h k = silent
differ-tells place (Some want) None h k = silent
differ-tells place (Some want) (Some got) h k =
    rw (signed-is want h, signed-is got k) (if-tells (not (nat_eq want got)) place (code.BadSize (pos want) (pos got)))

pub event-tells : (place : Place) (want got : Option ℕ) → IsUpTo want most → IsUpTo got most → Tells (told.event_size (pos_of place) want got) (tree.sizes_differ tree.event_size place want got)
event-tells place None got h k = silent
event-tells place (Some want) None h k = silent
event-tells place (Some want) (Some got) h k =
    rw (signed-is want h, signed-is got k) (if-tells (not (nat_eq want got)) place (code.EventSize (pos want) (pos got)))

outside-tells : (place : Place) (size : Option ℕ) (v : Option ℤ) → IsUpTo size most → Tells (told.index_outside (pos_of place) size v) (tree.index_outside place size v)
outside-tells place None v h = silent
outside-tells place (Some n) None h = silent
outside-tells place (Some n) (Some v) h = rw (signed-is n h) (if-tells (int_lt v (pos 0) || not (int_lt v (pos n))) place (code.IndexOut (pos n) v))

backwards-tells : (place : Place) (size : Option ℕ) (c d : Option ℤ) → IsUpTo size most → Tells (told.backwards (pos_of place) size c d) (tree.backwards place size c d)
backwards-tells place None c d h = silent
backwards-tells place (Some n) None d h = silent
backwards-tells place (Some n) (Some c) None h = silent
backwards-tells place (Some n) (Some c) (Some d) h = rw (signed-is n h) (if-tells (int_lt d c) place (code.IndexOut (pos n) d))

-- Names

-- what a name means
abbrev pub meaning_of : Option Known → Option ℤ → Option Meaning
meaning_of (Some v) c = Some (Variable v.size)
meaning_of None (Some c) = Some (Constant c)
meaning_of None None = None

-- names mean what is known at a place
pub record Describes (names : Name → Option Meaning) (scope : Scope) : Type 0 where
  pub means : (name : Name) → names name ≡ meaning_of (variable_of scope name) (constant_of scope name)
  pub bounded : Bounded scope

plain-unknown : (place : Place) (v : Option Known) (c : Option ℤ) → Tells (told.unknown_variable (pos_of place) (meaning_of v c)) (tree.fault_if (not (is_some v)) place tree.unknown)
plain-unknown place (Some v) c = silent
plain-unknown place None (Some c) = one-tells place code.Unknown
plain-unknown place None None = one-tells place code.Unknown

pub unknown-tells : {names : Name → Option Meaning} {scope : Scope} → Describes names scope → (place : Place) (name : Name) → Tells (told.unknown_variable (pos_of place) (names name)) (tree.unknown_variable scope place name)
unknown-tells {names} {scope} d place name = rw (d.means name) (plain-unknown place (variable_of scope name) (constant_of scope name))

plain-size : (v : Option Known) (c : Option ℤ) → told.variable_size (meaning_of v c) ≡ option_and_then (λ k. k.size) v
plain-size (Some v) c = refl
plain-size None (Some c) = refl
plain-size None None = refl

pub size-means : {names : Name → Option Meaning} {scope : Scope} → Describes names scope → (name : Name) → told.variable_size (names name) ≡ variable_size scope name
size-means {names} {scope} d name = ap told.variable_size (d.means name) ∙ plain-size (variable_of scope name) (constant_of scope name)

-- a size that a variable may have can be told
pub far : (size : Option ℕ) → IsUpTo size 65536 → IsUpTo size most
far None h = tt
far (Some n) h = omega arith

-- One node

-- what is known of an expression is what is so
pub record Tied (scope : Scope) (e : Expr) (f : Facts) : Type 0 where
  pub first : f.first ≡ pos_of (first_of e)
  pub size : f.size ≡ size_of scope e
  pub is_constant : f.is_constant ≡ is_constant scope e
  pub value : f.value ≡ constant_value scope e
  pub division : Tells f.division (tree.zero_divisions scope e)
  pub fault : Tells f.fault (tree.expr_faults scope e)
  pub within : IsUpTo f.size most

pub cell-tells : {scope : Scope} {e : Expr} {f : Facts} → Tied scope e f → Tells (told.not_one_cell f) (tree.not_one_cell scope e)
cell-tells {scope} {e} {f} t = rw (t.first, t.size) (if-tells (tree.is_more_than_one (size_of scope e)) (first_of e) code.NotScalar)

built-tells : {scope : Scope} {e : Expr} {f : Facts} → Tied scope e f
    → Tells (if f.is_constant then f.division else Some (record { at = f.first; rule = code.NotConstant })) (if is_constant scope e then tree.zero_divisions scope e else record { place = first_of e; rule = tree.not_constant } ∷ [])
built-tells {scope} {e} {f} t = rw (t.is_constant, t.first) (choice-tells (is_constant scope e) t.division (one-tells (first_of e) code.NotConstant))

pub constant-tells : {scope : Scope} {e : Expr} {f : Facts} → Tied scope e f → Tells (told.constant_place f) (tree.constant_place scope e)
constant-tells t = join (built-tells t) (cell-tells t)

division-tells : {scope : Scope} {e : Expr} {f : Facts} → Tied scope e f → Tells (if f.is_constant then f.division else None) (if is_constant scope e then tree.zero_divisions scope e else [])
division-tells {scope} {e} {f} t = rw t.is_constant (choice-tells (is_constant scope e) t.division silent)

index-tells : {names : Name → Option Meaning} {scope : Scope} {e : Expr} {f : Facts} → Describes names scope → (place : Place) (name : Name) → Tied scope e f
    → Tells (told.index_outside (pos_of place) (told.variable_size (names name)) f.value) (tree.index_outside place (variable_size scope name) (constant_value scope e))
index-tells {names} {scope} {e} {f} d place name t =
    rw (size-means d name, t.value) (outside-tells place (variable_size scope name) (constant_value scope e) (far (variable_size scope name) (d.bounded.sizes name)))

pub bad-index-tells : {names : Name → Option Meaning} {scope : Scope} {e : Expr} {f : Facts} → Describes names scope → (place : Place) (name : Name) → Tied scope e f
    → Tells (told.bad_index (pos_of place) (names name) f) (tree.bad_index scope place name e)
bad-index-tells d place name t = join (join (division-tells t) (cell-tells t)) (index-tells d place name t)

order-tells : {names : Name → Option Meaning} {scope : Scope} {c d : Expr} {f g : Facts} → Describes names scope → (place : Place) (name : Name) → Tied scope c f → Tied scope d g
    → Tells (told.backwards (pos_of place) (told.variable_size (names name)) f.value g.value) (tree.backwards place (variable_size scope name) (constant_value scope c) (constant_value scope d))
order-tells {names} {scope} {c} {d} {f} {g} w place name t u =
    rw (size-means w name, t.value, u.value) (backwards-tells place (variable_size scope name) (constant_value scope c) (constant_value scope d) (far (variable_size scope name) (w.bounded.sizes name)))

pub bad-range-tells : {names : Name → Option Meaning} {scope : Scope} {c d : Expr} {f g : Facts} → Describes names scope → (place : Place) (name : Name) → Tied scope c f → Tied scope d g
    → Tells (told.bad_range (pos_of place) (names name) f g) (tree.bad_range scope place name c d)
bad-range-tells w place name t u =
    join (join (join (join (constant-tells t) (constant-tells u)) (index-tells w place name t)) (index-tells w place name u)) (order-tells w place name t u)

operand-tells : {scope : Scope} {e : Expr} {f : Facts} (op : Unary) → Tied scope e f → Tells (told.bad_operand op f) (tree.bad_operand scope op e)
operand-tells Minus t = silent
operand-tells Abs t = silent
operand-tells BitNot t = silent
operand-tells Not t = cell-tells t

sides-tell : {scope : Scope} {l r : Expr} {f g : Facts} (place : Place) → Tied scope l f → Tied scope r g
    → Tells (told.bad_size (pos_of place) f.size g.size) (tree.sizes_differ tree.bad_size place (size_of scope l) (size_of scope r))
sides-tell {scope} {l} {r} {f} {g} place t u =
    let known : IsUpTo (size_of scope l) most = rw t.size at t.within in
    let given : IsUpTo (size_of scope r) most = rw u.size at u.within in
    rw (t.size, u.size) (differ-tells place (size_of scope l) (size_of scope r) known given)

operands-tell : {scope : Scope} {l r : Expr} {f g : Facts} (place : Place) (op : Binary) → Tied scope l f → Tied scope r g → Tells (told.bad_operands (pos_of place) op f g) (tree.bad_operands scope place op l r)
operands-tell place op t u = choice-tells (is_of_one_cell op) (join (cell-tells t) (cell-tells u)) (sides-tell place t u)

divisor-tells : {scope : Scope} {e : Expr} {f : Facts} (place : Place) (op : Binary) → Tied scope e f
    → Tells (told.fault_if (tree.divides op && told.is_zero f.value) (pos_of place) code.ConstantDivision) (tree.fault_if (tree.divides op && tree.is_number (constant_value scope e) (pos 0)) place tree.constant_division)
divisor-tells {scope} {e} {f} place op t = rw t.value (if-tells (tree.divides op && tree.is_number (constant_value scope e) (pos 0)) place code.ConstantDivision)

-- no source has more expressions
abbrev pub limit : ℕ
limit = 4294967295

near : (o : Option ℕ) (n : ℕ) → IsUpTo o (65536 * n) → n ≤ limit → IsUpTo o most
near None n h s = tt
near (Some k) n h s = omega arith

node : {scope : Scope} {e : Expr} {f : Facts} → Bounded scope → Fits e → expr_count e ≤ limit → f.first ≡ pos_of (first_of e) → f.size ≡ size_of scope e → f.is_constant ≡ is_constant scope e
    → f.value ≡ constant_value scope e → Tells f.division (tree.zero_divisions scope e) → Tells f.fault (tree.expr_faults scope e) → Tied scope e f
node {scope} {e} {f} b h s first size is_constant value division fault = record {
  first = first;
  size = size;
  is_constant = is_constant;
  value = value;
  division = division;
  fault = fault;
  within = subst (λ (o : Option ℕ). IsUpTo o most) (sym size) (near (size_of scope e) (expr_count e) (size-within scope b e h) s);
}

-- A name alone

record Named (v : Option Known) (c : Option ℤ) (place : Place) (f : Facts) : Type 0 where
  size : f.size ≡ name_size v c
  is_constant : f.is_constant ≡ is_some (if is_some v then None else c)
  value : f.value ≡ (if is_some v then None else c)
  division : Tells f.division []
  fault : Tells f.fault (tree.fault_if (not (is_some v || is_some c)) place tree.unknown)

plain-name : (v : Option Known) (c : Option ℤ) (first : Pos) (place : Place) → Named v c place (told.name_facts first (pos_of place) (meaning_of v c))
plain-name (Some v) c first place = record { size = refl; is_constant = refl; value = refl; division = silent; fault = silent }
plain-name None (Some c) first place = record { size = refl; is_constant = refl; value = refl; division = silent; fault = silent }
plain-name None None first place = record { size = refl; is_constant = refl; value = refl; division = silent; fault = one-tells place code.Unknown }

first-of-name : (first at : Pos) (m : Option Meaning) → (told.name_facts first at m).first ≡ first
first-of-name first at None = refl
first-of-name first at (Some (Variable size)) = refl
first-of-name first at (Some (Constant v)) = refl

-- Lists

-- what is known behind the expressions of a list
going : (Name → Option Meaning) → Facts → Exprs → Facts
going names a no_exprs = a
going names a (exprs e es) = going names (told.joined (Some a) (facts_of names e)) es

list-going : (names : Name → Option Meaning) (a : Facts) (es : Exprs) → list_facts names (Some a) es ≡ Some (going names a es)
unfolding going
list-going names a no_exprs = refl
list-going names a (exprs e es) = list-going names (told.joined (Some a) (facts_of names e)) es

capped-is : (l r : Option ℕ) (m n : ℕ) → IsUpTo l (65536 * m) → IsUpTo r (65536 * n) → m + n ≤ limit → told.added_size l r ≡ added_size l r
capped-is None r m n h k s = refl
capped-is (Some l) None m n h k s = refl
capped-is (Some l) (Some r) m n h k s = ap Some (omega arith)

add-assoc : (a b c : Option ℕ) → added_size (added_size a b) c ≡ added_size a (added_size b c)
add-assoc None b c = refl
add-assoc (Some a) None c = refl
add-assoc (Some a) (Some b) None = refl
add-assoc (Some a) (Some b) (Some c) = ap Some (add_assoc a b c)

add-empty : (a : Option ℕ) → a ≡ added_size a (Some 0)
add-empty None = refl
add-empty (Some a) = ap Some (omega arith)

and-true : (b : Bool) → b ≡ (b && true)
and-true true = refl
and-true false = refl

and-assoc : (a b c : Bool) → ((a && b) && c) ≡ (a && (b && c))
and-assoc true b c = refl
and-assoc false b c = refl

alone-none : (es : Exprs) → alone None es ≡ None
alone-none no_exprs = refl
alone-none (exprs e es) = refl

record Run (scope : Scope) (es : Exprs) (size : Option ℕ) (const : Bool) (value : Option ℤ) (divisions faults : List tree.Fault) (f : Facts) : Type 0 where
  size_is : f.size ≡ added_size size (list_size scope es)
  const_is : f.is_constant ≡ (const && are_constant scope es)
  value_is : f.value ≡ alone value es
  division : Tells f.division (divisions ++ tree.list_divisions scope es)
  fault : Tells f.fault (faults ++ tree.list_faults scope es)

-- what is known of a list's first expressions
record Begun (a : Facts) (size : Option ℕ) (count : ℕ) (const : Bool) (value : Option ℤ) (divisions faults : List tree.Fault) : Type 0 where
  size_is : a.size ≡ size
  within : IsUpTo size (65536 * count)
  const_is : a.is_constant ≡ const
  value_is : a.value ≡ value
  division : Tells a.division divisions
  fault : Tells a.fault faults

begun-next : {scope : Scope} {a f : Facts} {e : Expr} {size : Option ℕ} {count : ℕ} {const : Bool} {value : Option ℤ} {xs ys : List tree.Fault}
    → Begun a size count const value xs ys → Tied scope e f → IsUpTo (size_of scope e) (65536 * expr_count e) → IsUpTo (added_size size (size_of scope e)) (65536 * (count + expr_count e)) → count + expr_count e ≤ limit
    → Begun (told.joined (Some a) f) (added_size size (size_of scope e)) (count + expr_count e) (const && is_constant scope e) None (xs ++ tree.zero_divisions scope e) (ys ++ tree.expr_faults scope e)
begun-next {scope} {a} {f} {e} {size} {count} {const} {value} {xs} {ys} b t h k s = record {
  size_is = rw (b.size_is, t.size) (capped-is size (size_of scope e) count (expr_count e) b.within h s);
  within = k;
  const_is = rw (b.const_is, t.is_constant) refl;
  value_is = refl;
  division = join b.division t.division;
  fault = join b.fault t.fault;
}

empty-run : {scope : Scope} {a : Facts} {size : Option ℕ} {count : ℕ} {const : Bool} {value : Option ℤ} {xs ys : List tree.Fault} → Begun a size count const value xs ys → Run scope no_exprs size const value xs ys a
empty-run {scope} {a} {size} {count} {const} {value} {xs} {ys} b = record {
  size_is = b.size_is ∙ add-empty size;
  const_is = b.const_is ∙ and-true const;
  value_is = b.value_is;
  division = subst (λ (zs : List tree.Fault). Tells a.division zs) (sym (append-nil xs)) b.division;
  fault = subst (λ (zs : List tree.Fault). Tells a.fault zs) (sym (append-nil ys)) b.fault;
}

longer-run : {scope : Scope} {e : Expr} {es : Exprs} {f : Facts} {size : Option ℕ} {const : Bool} {value : Option ℤ} {xs ys : List tree.Fault}
    → Run scope es (added_size size (size_of scope e)) (const && is_constant scope e) None (xs ++ tree.zero_divisions scope e) (ys ++ tree.expr_faults scope e) f → Run scope (exprs e es) size const value xs ys f
longer-run {scope} {e} {es} {f} {size} {const} {value} {xs} {ys} r = record {
  size_is = r.size_is ∙ add-assoc size (size_of scope e) (list_size scope es);
  const_is = r.const_is ∙ and-assoc const (is_constant scope e) (are_constant scope es);
  value_is = r.value_is ∙ alone-none es;
  division = subst (λ (zs : List tree.Fault). Tells f.division zs) (append_assoc xs (tree.zero_divisions scope e) (tree.list_divisions scope es)) r.division;
  fault = subst (λ (zs : List tree.Fault). Tells f.fault zs) (append_assoc ys (tree.expr_faults scope e) (tree.list_faults scope es)) r.fault;
}

-- Counts

inner : (n : ℕ) → suc n ≤ limit → n ≤ limit
inner n s = omega arith

left : (m n : ℕ) → suc (m + n) ≤ limit → m ≤ limit
left m n s = omega arith

right : (m n : ℕ) → suc (m + n) ≤ limit → n ≤ limit
right m n s = omega arith

second : (k m n : ℕ) → k + (m + n) ≤ limit → m ≤ limit
second k m n s = omega arith

first-two : (k m n : ℕ) → k + (m + n) ≤ limit → k + m ≤ limit
first-two k m n s = omega arith

regrouped : (k m n : ℕ) → k + (m + n) ≤ limit → k + m + n ≤ limit
regrouped k m n s = omega arith

-- All forms

mutual
  unfolding going

  pub tied : (names : Name → Option Meaning) (scope : Scope) → Describes names scope → (e : Expr) → Fits e → expr_count e ≤ limit → Tied scope e (facts_of names e)
  tied names scope w (expr first place (number v)) h s = node w.bounded h s refl refl refl refl silent silent
  tied names scope w (expr first place (whole name)) h s =
      let n = plain-name (variable_of scope name) (constant_of scope name) (pos_of first) place in
      node w.bounded h s (first-of-name (pos_of first) (pos_of place) (names name)) (rw (w.means name) n.size) (rw (w.means name) n.is_constant) (rw (w.means name) n.value) (rw (w.means name) n.division) (rw (w.means name) n.fault)
  tied names scope w (expr first place (index name e)) h s =
      let t = tied names scope w e h (inner (expr_count e) s) in
      node w.bounded h s refl refl refl refl silent (join (join (unknown-tells w place name) t.fault) (bad-index-tells w place name t))
  tied names scope w (expr first place (range name c d)) h s =
      let t = tied names scope w c h.0 (left (expr_count c) (expr_count d) s) in
      let u = tied names scope w d h.1 (right (expr_count c) (expr_count d) s) in
      node w.bounded h s refl (rw (t.value, u.value) refl) refl refl silent (join (join (join (unknown-tells w place name) t.fault) u.fault) (bad-range-tells w place name t u))
  tied names scope w (expr first place (items no_exprs)) h s = node w.bounded h s refl refl refl refl silent silent
  tied names scope w (expr first place (items (exprs e es))) h s =
      let t = tied names scope w e h.0 (left (expr_count e) (list_count es) s) in
      let r = run names scope w es h.1 (facts_of names e) (size_of scope e) (expr_count e) (is_constant scope e) (constant_value scope e) (tree.zero_divisions scope e) (tree.expr_faults scope e)
      (record { size_is = t.size; within = size-within scope w.bounded e h.0; const_is = t.is_constant; value_is = t.value; division = t.division; fault = t.fault }) (inner (expr_count e + list_count es) s) in
      let g = list-going names (facts_of names e) es in
      node w.bounded h s (rw g refl) (rw g r.size_is) (rw g r.const_is) (rw g r.value_is) (rw g r.division) (rw g r.fault)
  tied names scope w (expr first place (one op e)) h s =
      let t = tied names scope w e h (inner (expr_count e) s) in
      node w.bounded h s refl (rw t.size refl) t.is_constant (rw t.value refl) t.division (join t.fault (operand-tells op t))
  tied names scope w (expr first place (two op l r)) h s =
      let t = tied names scope w l h.0 (left (expr_count l) (expr_count r) s) in
      let u = tied names scope w r h.1 (right (expr_count l) (expr_count r) s) in
      node w.bounded h s refl (rw (t.size, u.size) refl) (rw (t.is_constant, u.is_constant) refl) (rw (t.value, u.value) refl) (join (join t.division u.division) (divisor-tells place op u)) (join (join t.fault u.fault) (operands-tell place op t u))

  run : (names : Name → Option Meaning) (scope : Scope) → Describes names scope → (es : Exprs) → FitsList es → (a : Facts) (size : Option ℕ) (count : ℕ) (const : Bool) (value : Option ℤ) (xs ys : List tree.Fault)
      → Begun a size count const value xs ys → count + list_count es ≤ limit → Run scope es size const value xs ys (going names a es)
  run names scope w no_exprs h a size count const value xs ys b s = empty-run b
  run names scope w (exprs e es) h a size count const value xs ys b s =
      let t = tied names scope w e h.0 (second count (expr_count e) (list_count es) s) in
      let k = sum-within size (size_of scope e) (65536 * count) (65536 * expr_count e) b.within (size-within scope w.bounded e h.0) in
      longer-run (run names scope w es h.1 (told.joined (Some a) (facts_of names e)) (added_size size (size_of scope e)) (count + expr_count e) (const && is_constant scope e) None
      (xs ++ tree.zero_divisions scope e) (ys ++ tree.expr_faults scope e)
      (begun-next b t (size-within scope w.bounded e h.0) (more (added_size size (size_of scope e)) (65536 * count + 65536 * expr_count e) (65536 * (count + expr_count e)) (omega arith) k) (first-two count (expr_count e) (list_count es) s)) (regrouped count (expr_count e) (list_count es) s))
