-- Each field is read from its spelling, and what is read is spelled so.
use Rattle.std.proofs.Common.{◌≡◌, ℕ, ℤ, pos, negsuc, ◌<◌, ◌≤◌, ◌≢◌, ◌^◌, Bool, true, false, List, [], ◌∷◌, ◌++◌, length, get_or, refl, sym, ap, ◌∙◌, subst, arith, append_assoc, codes, decimal, Some}
use Rattle.std.specs.Fmt.{signed_decimal}
use Rattle.std.proofs.lemmas.Fmt.{decimal_is_IsNumeral}
use Rattle.std.proofs.lemmas.Int.{ints}
use Rattle.aseba_tree.specs.Inside.{IsFrom, IsShort}
use Rattle.aseba_tree.specs.declared.description.Sized.{Sized}
use Rattle.aseba_tree.specs.declared.description.Local.{Local}
use Rattle.aseba_tree.specs.declared.project.Const.{Const}
use Rattle.aseba_words.specs.Bytes.{is_name_start, is_word_byte}
use Rattle.aseba_tree.specs.Tokens.{is_name}
use Rattle.aseba_text.specs.Names.{is_text, is_same}
use Rattle.aseba_text.specs.Fields.{cut, has_no_blank}
use Rattle.aseba_text.specs.Numbers.{IsCell}
use Rattle.aseba_describe.specs.Reading.{name_of, sized_of, local_of, const_of}
use Rattle.aseba_text.proofs.Options.{when_takes, when_true, and_takes, and_true, bind_takes, bind_some, some_is}
use Rattle.aseba_text.proofs.NumberLaws.{same_is}
use Rattle.aseba_text.proofs.FieldLaws.{other, others, cut_takes, cut_again}
use Rattle.aseba_text.proofs.CellLaws.{leb_to, number_from_again, number_from_takes, cell_again, cell_takes, no_other}

pub name_has_no_blank : (name : List ℕ) → is_name name ≡ true → has_no_blank name ≡ true
name_has_no_blank [] h = refl
name_has_no_blank (b ∷ bs) h =
    let k = and_takes _ _ (and_takes _ _ (and_takes _ _ h).0).1 in
    and_true _ _ (other is_name_start b refl k.0) (others is_word_byte bs refl k.1)

pub name_again : (name : List ℕ) → is_name name ≡ true → name_of name ≡ Some name
name_again name h = when_true _ name h

pub sized_again : (least most : ℕ) (s : Sized) → is_name s.name ≡ true → IsFrom least most s.size → most < 2 ^ 64
    → sized_of least most (s.name ++ codes " " ++ decimal s.size) ≡ Some s
unfolding sized_of
sized_again least most s name size small =
    bind_some _ _ (s.name, decimal s.size) (ap cut (append_assoc s.name (codes " ") (decimal s.size)) ∙ cut_again s.name (decimal s.size) (name_has_no_blank s.name name))
    ∙ bind_some _ _ s.name (name_again s.name name)
    ∙ bind_some _ _ s.size (number_from_again least most s.size size small)

pub sized_takes : (least most : ℕ) (fields : List ℕ) (s : Sized) → sized_of least most fields ≡ Some s
    → (fields ≡ s.name ++ codes " " ++ decimal s.size) × (is_name s.name ≡ true) × IsFrom least most s.size
unfolding sized_of
sized_takes least most fields s h =
    let c = bind_takes _ _ _ h in
    let n = bind_takes _ _ _ c.2 in
    let m = bind_takes _ _ _ n.2 in
    let e = some_is _ _ m.2 in
    let w = when_takes _ _ _ n.1 in
    let v = number_from_takes least most c.0.1 m.0 m.1 in
    let name : c.0.0 ≡ s.name = w.1 ∙ ap (λ x. x.name) e in
    let size : m.0 ≡ s.size = ap (λ x. x.size) e in (
      cut_takes fields c.0.0 c.0.1 c.1
          ∙ ap (λ l. c.0.0 ++ 32 ∷ l) (v.1 ∙ ap decimal size)
          ∙ ap (λ l. l ++ 32 ∷ decimal s.size) name
          ∙ sym (append_assoc s.name (codes " ") (decimal s.size)),
      subst (λ x. is_name x ≡ true) name w.0,
      subst (IsFrom least most) size v.0,
    )

pub local_again : (l : Local) → is_name l.name ≡ true → is_text l.text ≡ true → local_of (l.name ++ codes " " ++ l.text) ≡ Some l
unfolding local_of
local_again l name text =
    bind_some _ _ (l.name, l.text) (ap cut (append_assoc l.name (codes " ") l.text) ∙ cut_again l.name l.text (name_has_no_blank l.name name))
    ∙ bind_some _ _ l.name (name_again l.name name)
    ∙ bind_some _ _ l.text (when_true _ l.text text)

pub local_takes : (fields : List ℕ) (l : Local) → local_of fields ≡ Some l
    → (fields ≡ l.name ++ codes " " ++ l.text) × (is_name l.name ≡ true) × (is_text l.text ≡ true)
unfolding local_of
local_takes fields l h =
    let c = bind_takes _ _ _ h in
    let n = bind_takes _ _ _ c.2 in
    let m = bind_takes _ _ _ n.2 in
    let e = some_is _ _ m.2 in
    let w = when_takes _ _ _ n.1 in
    let v = when_takes _ _ _ m.1 in
    let name : c.0.0 ≡ l.name = w.1 ∙ ap (λ x. x.name) e in
    let text : c.0.1 ≡ l.text = v.1 ∙ ap (λ x. x.text) e in (
      cut_takes fields c.0.0 c.0.1 c.1 ∙ ap (λ t. c.0.0 ++ 32 ∷ t) text ∙ ap (λ t. t ++ 32 ∷ l.text) name
          ∙ sym (append_assoc l.name (codes " ") l.text),
      subst (λ x. is_name x ≡ true) name w.0,
      subst (λ x. is_text x ≡ true) text v.0,
    )

pub const_again : (c : Const) → is_name c.name ≡ true → IsCell c.value → const_of (c.name ++ codes " " ++ signed_decimal c.value) ≡ Some c
unfolding const_of
const_again c name value =
    bind_some _ _ (c.name, signed_decimal c.value) (ap cut (append_assoc c.name (codes " ") (signed_decimal c.value)) ∙ cut_again c.name (signed_decimal c.value) (name_has_no_blank c.name name))
    ∙ bind_some _ _ c.name (name_again c.name name)
    ∙ bind_some _ _ c.value (cell_again c.value value)

pub const_takes : (fields : List ℕ) (c : Const) → const_of fields ≡ Some c
    → (fields ≡ c.name ++ codes " " ++ signed_decimal c.value) × (is_name c.name ≡ true) × IsCell c.value
unfolding const_of
const_takes fields c h =
    let p = bind_takes _ _ _ h in
    let n = bind_takes _ _ _ p.2 in
    let m = bind_takes _ _ _ n.2 in
    let e = some_is _ _ m.2 in
    let w = when_takes _ _ _ n.1 in
    let v = cell_takes p.0.1 m.0 m.1 in
    let name : p.0.0 ≡ c.name = w.1 ∙ ap (λ x. x.name) e in
    let value : m.0 ≡ c.value = ap (λ x. x.value) e in (
      cut_takes fields p.0.0 p.0.1 p.1
          ∙ ap (λ l. p.0.0 ++ 32 ∷ l) (v.0 ∙ ap signed_decimal value)
          ∙ ap (λ l. l ++ 32 ∷ signed_decimal c.value) name
          ∙ sym (append_assoc c.name (codes " ") (signed_decimal c.value)),
      subst (λ x. is_name x ≡ true) name w.0,
      subst IsCell value v.1,
    )

pub short_is : (name : List ℕ) → is_name name ≡ true → IsShort name
short_is name h = leb_to _ _ (and_takes _ _ (and_takes _ _ h).0).0

pub short_text : (text : List ℕ) → is_text text ≡ true → IsShort text
short_text text h = leb_to _ _ (and_takes _ _ h).0

not_semicolon : (ds : List ℕ) → 0 < length ds → get_or ds 0 0 ≢ 59 → is_same ds (codes ";") ≡ false
not_semicolon ds h other = by (is_same ds (codes ";")) refl
  where
    by : (t : Bool) → is_same ds (codes ";") ≡ t → t ≡ false
    by true e = absurd (other (ap (λ l. get_or l 0 0) (same_is ds (codes ";") e)))
    by false e = refl

-- a size isn't the `;` behind the parameters
pub cell_is_no_end : (z : ℤ) → IsCell z → is_same (signed_decimal z) (codes ";") ≡ false
cell_is_no_end (pos n) h =
    let small : n ≤ 32767 = omega (arith, ints, h.1) in
    let some : 0 < length (decimal n) = (decimal_is_IsNumeral n (omega arith)).0.0 in
    not_semicolon (decimal n) some (no_other n 59 (omega arith) (λ r. omega (arith, r.1)) 0 some)
cell_is_no_end (negsuc k) h = refl
