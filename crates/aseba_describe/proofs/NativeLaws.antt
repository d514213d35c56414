-- A native is read from its spelling, and what is read as one is spelled so.
use Rattle.std.proofs.Common.{◌≡◌, ℕ, ℤ, pos, negsuc, zero, suc, ◌<◌, ◌≢◌, Bool, true, false, not, ◌==◌, List, [], ◌∷◌, ◌++◌, length, Option, Some, None, refl, sym, ap, ◌∙◌, subst, arith, append_assoc, codes, cond}
use Rattle.std.specs.List.{All, flat_map}
use Rattle.std.specs.Fmt.{signed_decimal}
use Rattle.std.proofs.lemmas.Bool.{eqb-true}
use Rattle.std.proofs.lemmas.List.Elements.{All-nil, All-cons, All-head, All-tail}
use Rattle.aseba_tree.specs.Inside.{InsideParam, InsideNative}
use Rattle.aseba_tree.specs.declared.description.Param.{Param}
use Rattle.aseba_tree.specs.declared.description.Native.{Native}
use Rattle.aseba_tree.specs.Tokens.{is_name}
use Rattle.aseba_text.specs.Names.{is_text, is_same}
use Rattle.aseba_text.specs.Numbers.{IsCell}
use Rattle.aseba_describe.specs.Plain.{PlainParam, PlainNative}
use Rattle.aseba_describe.specs.Spelling.{param_text}
use Rattle.aseba_text.specs.Options.{◌>>=◌}
use Rattle.aseba_describe.specs.Reading.{is_zero, param_of, next_of, params_of, params_with, native_of}
use Rattle.aseba_text.proofs.Options.{when_takes, when_true, bind_takes, bind_some, some_is}
use Rattle.aseba_text.proofs.NumberLaws.{same_is}
use Rattle.aseba_text.proofs.FieldLaws.{cut_takes, cut_again}
use Rattle.aseba_describe.proofs.Spelled.{name_has_no_blank, name_again, short_is, short_text, cell_is_no_end}
use Rattle.aseba_text.proofs.CellLaws.{cell_again, cell_takes, cell_has_no_blank, leb_from, leb_to}

-- a parameter that may stand in a line
pub record GoodParam (p : Param) : Type 0 where
  pub inside : InsideParam p
  pub plain : PlainParam p

-- what stands behind a native's name and a blank
abbrev pub params_text : List Param → List ℕ → List ℕ
params_text [] text = codes "; " ++ text
params_text (p ∷ ps) text = signed_decimal p.size ++ 32 ∷ (p.name ++ 32 ∷ params_text ps text)

behind_name : (ps : List Param) (text : List ℕ) → flat_map param_text ps ++ (codes " ; " ++ text) ≡ 32 ∷ params_text ps text
behind_name [] text = refl
behind_name (p ∷ ps) text =
    append_assoc (param_text p) (flat_map param_text ps) (codes " ; " ++ text)
    ∙ ap (λ l. param_text p ++ l) (behind_name ps text)
    ∙ append_assoc (codes " " ++ signed_decimal p.size ++ codes " ") p.name (32 ∷ params_text ps text)
    ∙ append_assoc (codes " " ++ signed_decimal p.size) (codes " ") (p.name ++ 32 ∷ params_text ps text)

pub native_text : (name : List ℕ) (ps : List Param) (text : List ℕ)
    → name ++ flat_map param_text ps ++ codes " ; " ++ text ≡ name ++ 32 ∷ params_text ps text
native_text name ps text =
    append_assoc (name ++ flat_map param_text ps) (codes " ; ") text
    ∙ append_assoc name (flat_map param_text ps) (codes " ; " ++ text)
    ∙ ap (λ l. name ++ l) (behind_name ps text)

zero_is : (z : ℤ) → is_zero z ≡ true → z ≡ pos 0
zero_is (pos n) h = ap pos (eqb-true n 0 h)
zero_is (negsuc n) h = absurd cc

is_other : (z : ℤ) → z ≢ pos 0 → not (is_zero z) ≡ true
is_other z h = by (is_zero z) refl
  where
    by : (t : Bool) → is_zero z ≡ t → not t ≡ true
    by true e = absurd (h (zero_is z e))
    by false e = refl

not_zero : (z : ℤ) → not (is_zero z) ≡ true → z ≢ pos 0
not_zero z h e = let f : not (is_zero (pos 0)) ≡ true = subst (λ y. not (is_zero y) ≡ true) e h in absurd cc

param_again : (p : Param) (rest : List ℕ) → GoodParam p → param_of (signed_decimal p.size) (p.name ++ 32 ∷ rest) ≡ Some (p, rest)
unfolding param_of
param_again p rest g =
    bind_some _ _ p.size (cell_again p.size g.plain.size)
    ∙ bind_some _ _ (p.name, rest) (cut_again p.name rest (name_has_no_blank p.name g.plain.name))
    ∙ bind_some _ _ p.name (name_again p.name g.plain.name)
    ∙ when_true _ _ (is_other p.size g.inside.size)

no_zero : (n : ℕ) → 0 < n → (n == 0) ≡ false
no_zero n h = by (n == 0) refl
  where
    by : (t : Bool) → (n == 0) ≡ t → t ≡ false
    by true e = let z : n ≡ 0 = eqb-true n 0 e in absurd (omega arith)
    by false e = refl

above_zero : (n : ℕ) → (n == 0) ≡ false → 0 < n
above_zero zero h = absurd cc
above_zero (suc n) h = omega arith

goes_on : (t u : Bool) (rest : List ℕ) (r : Option (Option Param × List ℕ)) → t ≡ false → u ≡ false
    → cond {A = Option (Option Param × List ℕ)} t (Some (None, rest)) (cond u None r) ≡ r
goes_on false false rest r h k = refl
goes_on true u rest r h k = absurd cc
goes_on false true rest r h k = absurd cc

next_again : (room : ℕ) (p : Param) (rest : List ℕ) → GoodParam p → 0 < room
    → next_of room (signed_decimal p.size ++ 32 ∷ (p.name ++ 32 ∷ rest)) ≡ Some (Some p, rest)
unfolding next_of
next_again room p rest g lt =
    bind_some _ _ (signed_decimal p.size, p.name ++ 32 ∷ rest) (cut_again (signed_decimal p.size) (p.name ++ 32 ∷ rest) (cell_has_no_blank p.size g.plain.size))
    ∙ goes_on (is_same (signed_decimal p.size) (codes ";")) (room == 0) (p.name ++ 32 ∷ rest)
    (param_of (signed_decimal p.size) (p.name ++ 32 ∷ rest) >>= λ q. Some (Some q.0, q.1)) (cell_is_no_end p.size g.plain.size) (no_zero room lt)
    ∙ bind_some (param_of (signed_decimal p.size) (p.name ++ 32 ∷ rest)) (λ q. Some (Some q.0, q.1)) (p, rest) (param_again p rest g)

pub params_again : (ps : List Param) (room : ℕ) (text : List ℕ) → All GoodParam ps → length ps < room → params_of room (params_text ps text) ≡ Some (ps, text)
unfolding params_of next_of
params_again [] zero text g lt = absurd (omega arith)
params_again [] (suc room) text g lt = refl
params_again (p ∷ ps) zero text g lt = absurd (omega arith)
params_again (p ∷ ps) (suc room) text g lt =
    bind_some _ _ (Some p, params_text ps text) (next_again room p (params_text ps text) (All-head GoodParam p ps g) (omega arith))
    ∙ bind_some _ _ (ps, text) (params_again ps room text (All-tail GoodParam p ps g) (omega arith))

param_takes : (word rest : List ℕ) (p : Param) (behind : List ℕ) → param_of word rest ≡ Some (p, behind)
    → (word ≡ signed_decimal p.size) × (rest ≡ p.name ++ 32 ∷ behind) × GoodParam p
unfolding param_of
param_takes word rest p behind h =
    let s = bind_takes _ _ _ h in
    let c = bind_takes _ _ _ s.2 in
    let n = bind_takes _ _ _ c.2 in
    let w = when_takes _ _ _ n.2 in
    let v = when_takes _ _ _ n.1 in
    let z = cell_takes word s.0 s.1 in
    let same : record { size = s.0; name = n.0 } ≡ p = ap (λ x. x.0) w.1 in
    let last : c.0.1 ≡ behind = ap (λ x. x.1) w.1 in
    let size : s.0 ≡ p.size = ap (λ x. x.size) same in
    let name : c.0.0 ≡ p.name = v.1 ∙ ap (λ x. x.name) same in
    let is : is_name p.name ≡ true = subst (λ x. is_name x ≡ true) name v.0 in (
      z.0 ∙ ap signed_decimal size,
      cut_takes rest c.0.0 c.0.1 c.1 ∙ ap (λ l. c.0.0 ++ 32 ∷ l) last ∙ ap (λ l. l ++ 32 ∷ behind) name,
      record {
        inside = record { name = short_is p.name is; size = subst (λ x. x ≢ pos 0) size (not_zero s.0 w.0) };
        plain = record { size = subst IsCell size z.1; name = is };
      },
    )

-- what was read next: the `;` or a parameter
abbrev pub TakesNext : ℕ → List ℕ → Option Param → List ℕ → Type 0
TakesNext room fields None rest = fields ≡ codes "; " ++ rest
TakesNext room fields (Some p) rest = (fields ≡ signed_decimal p.size ++ 32 ∷ (p.name ++ 32 ∷ rest)) × (0 < room) × GoodParam p

by_end : (room : ℕ) (fields a b : List ℕ) (next : Option Param) (rest : List ℕ) (t u : Bool) → fields ≡ a ++ 32 ∷ b → is_same a (codes ";") ≡ t → (room == 0) ≡ u
    → cond {A = Option (Option Param × List ℕ)} t (Some (None, b)) (cond u None (param_of a b >>= λ p. Some (Some p.0, p.1))) ≡ Some (next, rest)
    → TakesNext room fields next rest
by_end room fields a b next rest true u f e z h =
    let k = some_is _ _ h in
    let none : None ≡ next = ap (λ x. x.0) k in
    let same : b ≡ rest = ap (λ x. x.1) k in
    subst (λ n. TakesNext room fields n rest) none (f ∙ ap (λ l. l ++ 32 ∷ b) (same_is a (codes ";") e) ∙ ap (λ l. codes "; " ++ l) same)
by_end room fields a b next rest false true f e z h = absurd cc
by_end room fields a b next rest false false f e z h =
    let p = bind_takes _ _ _ h in
    let k = some_is _ _ p.2 in
    let some : Some p.0.0 ≡ next = ap (λ x. x.0) k in
    let same : p.0.1 ≡ rest = ap (λ x. x.1) k in
    let v = param_takes a b p.0.0 p.0.1 p.1 in
    subst (λ n. TakesNext room fields n rest) some (
      f ∙ ap (λ l. l ++ 32 ∷ b) v.0 ∙ ap (λ l. signed_decimal p.0.0.size ++ 32 ∷ l) (v.1 ∙ ap (λ l. p.0.0.name ++ 32 ∷ l) same),
      above_zero room z,
      v.2,
    )

next_takes : (room : ℕ) (fields : List ℕ) (next : Option Param) (rest : List ℕ) → next_of room fields ≡ Some (next, rest) → TakesNext room fields next rest
unfolding next_of
next_takes room fields next rest h =
    let c = bind_takes _ _ _ h in
    by_end room fields c.0.0 c.0.1 next rest (is_same c.0.0 (codes ";")) (room == 0) (cut_takes fields c.0.0 c.0.1 c.1) refl refl c.2

-- parameters that were read up to the `;`
abbrev pub TakesParams : ℕ → List ℕ → List Param → List ℕ → Type 0
TakesParams room fields ps text = (fields ≡ params_text ps text) × (length ps < room) × All GoodParam ps

behind_next : (room : ℕ) (fields : List ℕ) (ps : List Param) (text : List ℕ)
    → ((f : List ℕ) (qs : List Param) (t : List ℕ) → params_of room f ≡ Some (qs, t) → TakesParams room f qs t)
    → (next : Option Param) (rest : List ℕ) → TakesNext room fields next rest → params_with (params_of room) next rest ≡ Some (ps, text) → TakesParams (suc room) fields ps text
behind_next room fields ps text again None rest t e =
    let k = some_is _ _ e in
    let none : [] ≡ ps = ap (λ x. x.0) k in
    let same : rest ≡ text = ap (λ x. x.1) k in
    subst (λ qs. TakesParams (suc room) fields qs text) none (t ∙ ap (λ l. codes "; " ++ l) same, omega arith, All-nil GoodParam)
behind_next room fields ps text again (Some p) rest t e =
    let q = bind_takes _ _ _ e in
    let k = some_is _ _ q.2 in
    let more : p ∷ q.0.0 ≡ ps = ap (λ x. x.0) k in
    let same : q.0.1 ≡ text = ap (λ x. x.1) k in
    let v = again rest q.0.0 q.0.1 q.1 in
    subst (λ qs. TakesParams (suc room) fields qs text) more
    (t.0 ∙ ap (λ l. signed_decimal p.size ++ 32 ∷ (p.name ++ 32 ∷ l)) (v.0 ∙ ap (params_text q.0.0) same), omega (arith, v.1), All-cons GoodParam p q.0.0 t.2 v.2)

pub params_takes : (room : ℕ) (fields : List ℕ) (ps : List Param) (text : List ℕ) → params_of room fields ≡ Some (ps, text) → TakesParams room fields ps text
unfolding params_of
params_takes zero fields ps text h = absurd cc
params_takes (suc room) fields ps text h =
    let n = bind_takes _ _ _ h in
    behind_next room fields ps text (λ f qs t e. params_takes room f qs t e) n.0.0 n.0.1 (next_takes room fields n.0.0 n.0.1 n.1) n.2

good_params : (n : Native) → InsideNative n → PlainNative n → All GoodParam n.params
good_params n i p = λ k d lt. record { inside = i.params.each k d lt; plain = p.params k d lt }

pub native_again : (n : Native) → InsideNative n → PlainNative n → native_of (n.name ++ flat_map param_text n.params ++ codes " ; " ++ n.text) ≡ Some n
unfolding native_of
native_again n i p =
    let few : length n.params < 17 = omega (arith, i.params.few) in
    ap native_of (native_text n.name n.params n.text)
    ∙ bind_some _ _ (n.name, params_text n.params n.text) (cut_again n.name (params_text n.params n.text) (name_has_no_blank n.name p.name))
    ∙ bind_some _ _ n.name (name_again n.name p.name)
    ∙ bind_some _ _ (n.params, n.text) (params_again n.params 17 n.text (good_params n i p) few)
    ∙ bind_some _ _ n.text (when_true _ n.text p.text)
    ∙ when_true _ n (leb_from _ _ i.message)

pub native_takes : (fields : List ℕ) (n : Native) → native_of fields ≡ Some n
    → (fields ≡ n.name ++ flat_map param_text n.params ++ codes " ; " ++ n.text) × InsideNative n × PlainNative n
unfolding native_of
native_takes fields n h =
    let c = bind_takes _ _ _ h in
    let m = bind_takes _ _ _ c.2 in
    let ps = bind_takes _ _ _ m.2 in
    let t = bind_takes _ _ _ ps.2 in
    let w = when_takes _ _ _ t.2 in
    let v = when_takes _ _ _ m.1 in
    let u = when_takes _ _ _ t.1 in
    let q = params_takes 17 c.0.1 ps.0.0 ps.0.1 ps.1 in
    let made : Native = record { name = m.0; text = t.0; params = ps.0.0 } in
    let named : is_name m.0 ≡ true = subst (λ x. is_name x ≡ true) v.1 v.0 in
    let worded : is_text t.0 ≡ true = subst (λ x. is_text x ≡ true) u.1 u.0 in
    let spelled : fields ≡ m.0 ++ flat_map param_text ps.0.0 ++ codes " ; " ++ t.0 =
    cut_takes fields c.0.0 c.0.1 c.1 ∙ ap (λ l. c.0.0 ++ 32 ∷ l) (q.0 ∙ ap (params_text ps.0.0) u.1) ∙ ap (λ l. l ++ 32 ∷ params_text ps.0.0 t.0) v.1
    ∙ sym (native_text m.0 ps.0.0 t.0) in
    subst (λ x. (fields ≡ x.name ++ flat_map param_text x.params ++ codes " ; " ++ x.text) × InsideNative x × PlainNative x) w.1 (
      spelled,
      record {
        name = short_is m.0 named;
        text = short_text t.0 worded;
        params = record { few = omega (arith, q.1); each = λ k d lt. (q.2 k d lt).inside };
        message = leb_to _ _ w.0;
      },
      record { name = named; text = worded; params = λ k d lt. (q.2 k d lt).plain },
    )
