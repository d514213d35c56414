-- Fields, read one after the other.
use Rattle.std.proofs.Common.{◌≡◌, ℕ, suc, ◌-◌, ◌≤◌, ◌==◌, ℤ, Bool, true, false, List, [], ◌∷◌, ◌++◌, length, get_or, Option, Some, None, refl, sym, ap, ◌∙◌, arith, append_assoc, append-nil, cond}
use Rattle.std.specs.Option.{option_map}
use Rattle.std.specs.List.{onto_first}
use Rattle.aseba_text.specs.Options.{◌>>=◌}
use Rattle.aseba_text.specs.Fields.{fields}
use Rattle.aseba_text.specs.Numbers.{cell_of}
use Rattle.aseba_text.proofs.Options.{bind_some}
use Rattle.aseba_driver.specs.declared.entry.Entry.{Entry}
use Rattle.aseba_driver.specs.declared.fault.LineFault.{LineFault}
use Rattle.aseba_driver.specs.declared.fault.LineFault.TheVariants as fault
use Rattle.aseba_driver.specs.Reading.{Fails, first_of, cells_of, last_time}

-- a text has a field
abbrev pub has_field : List (List ℕ) → Bool
has_field [] = false
has_field (field ∷ fields) = true

onto_has_field : (b : ℕ) (fs : List (List ℕ)) → has_field (onto_first b fs) ≡ true
onto_has_field b [] = refl
onto_has_field b (f ∷ fs) = refl

text_has_field : (text : List ℕ) → has_field (fields text) ≡ true
text_has_field [] = refl
text_has_field (b ∷ bs) = by (b == 32)
  where
    by : (t : Bool) → has_field (cond t ([] ∷ fields bs) (onto_first b (fields bs))) ≡ true
    by true = refl
    by false = onto_has_field b (fields bs)

first_with : (field : List ℕ) (fs : List (List ℕ)) → has_field fs ≡ true → first_of (field ∷ fs) ≡ Some (field, fs)
first_with field [] h = absurd cc
first_with field (f ∷ fs) h = refl

pub first_of_more : (text field rest : List ℕ) → fields text ≡ field ∷ fields rest → first_of (fields text) ≡ Some (field, fields rest)
first_of_more text field rest e = ap first_of e ∙ first_with field (fields rest) (text_has_field rest)

-- Cells

abbrev pub with_front : List ℤ → Option (List ℤ) → Option (List ℤ)
with_front front read = option_map (λ cells. front ++ cells) read

goes_behind : (front : List ℤ) (cell : ℤ) (read : Option (List ℤ)) → with_front front (read >>= λ cells. Some (cell ∷ cells)) ≡ with_front (front ++ cell ∷ []) read
goes_behind front cell None = refl
goes_behind front cell (Some cells) = ap Some (sym (append_assoc front (cell ∷ []) cells))

-- one more cell was read
pub cells_go : (front : List ℤ) (cell : ℤ) (field : List ℕ) (left behind : List (List ℕ)) (whole : Option (List ℤ)) → left ≡ field ∷ behind → cell_of field ≡ Some cell
    → with_front front (cells_of left) ≡ whole → with_front (front ++ cell ∷ []) (cells_of behind) ≡ whole
cells_go front cell field left behind whole first e so_far =
    sym (goes_behind front cell (cells_of behind)) ∙ sym (ap (with_front front) (ap cells_of first ∙ bind_some (cell_of field) _ cell e)) ∙ so_far

pub cells_fail : (f : LineFault) (front : List ℤ) (field : List ℕ) (left behind : List (List ℕ)) (whole : Option (List ℤ)) → left ≡ field ∷ behind → Fails f (cell_of field)
    → with_front front (cells_of left) ≡ whole → Fails f whole
cells_fail fault.Mem front field left behind whole first e so_far = tt
cells_fail fault.Bad front field left behind whole first e so_far =
    sym so_far ∙ ap (λ l. with_front front (cells_of l)) first ∙ ap (λ r. with_front front (r >>= λ cell. cells_of behind >>= λ cells. Some (cell ∷ cells))) e

pub cells_end : (front : List ℤ) (left : List (List ℕ)) (whole : Option (List ℤ)) → left ≡ [] → with_front front (cells_of left) ≡ whole → whole ≡ Some front
cells_end front left whole none so_far = sym so_far ∙ ap (λ l. with_front front (cells_of l)) none ∙ ap Some (append-nil front)

-- Times

pub last_is : (t : ℕ) (script : List Entry) (e : Entry) → 1 ≤ length script → e ≡ get_or script (length script - 1) e → e.time ≡ last_time t script
last_is t [] e some h = absurd (omega arith)
last_is t (x ∷ []) e some h =
    let none : length (x ∷ []) - 1 ≡ 0 = omega arith in
    ap (λ (y : Entry). y.time) (h ∙ ap (λ k. get_or (x ∷ []) k e) none)
last_is t (x ∷ y ∷ ys) e some h =
    let next : length (x ∷ y ∷ ys) - 1 ≡ suc (length (y ∷ ys) - 1) = omega arith in
    last_is x.time (y ∷ ys) e (omega arith) (h ∙ ap (λ k. get_or (x ∷ y ∷ ys) k e) next)

-- how many bytes are left, where a text that is empty is more than none
abbrev pub bytes_left : Option (List ℕ) → ℕ
bytes_left None = 0
bytes_left (Some text) = suc (length text)
