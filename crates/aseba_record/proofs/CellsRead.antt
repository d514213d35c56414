-- Cells, read one after the other.
use Rattle.std.proofs.Common.{◌≡◌, ℕ, suc, ℤ, List, [], ◌∷◌, ◌++◌, length, Option, Some, None, refl, sym, ap, ◌∙◌, append_assoc, append-nil}
use Rattle.std.specs.Option.{option_map}
use Rattle.std.specs.Int.{w16, cast_unsigned}
use Rattle.aseba_text.specs.Options.{◌>>=◌}
use Rattle.aseba_text.specs.Numbers.{cell_of}
use Rattle.aseba_text.proofs.Options.{bind_some}
use Rattle.aseba_payload.specs.Layout.{word_bytes}
use Rattle.aseba_record.specs.declared.fault.LineFault.{LineFault}
use Rattle.aseba_record.specs.declared.fault.LineFault.TheVariants as fault
use Rattle.aseba_record.specs.Reading.{Fails, cells_of}

abbrev pub with_front : List ℕ → Option (List ℕ) → Option (List ℕ)
with_front front read = option_map (λ bytes. front ++ bytes) read

-- the bytes of a text that is left, if any is
abbrev pub bytes_left : Option (List ℕ) → ℕ
bytes_left None = 0
bytes_left (Some text) = suc (length text)

abbrev bytes_by : ℤ → List ℕ
bytes_by cell = word_bytes (cast_unsigned w16 cell)

goes_behind : (front : List ℕ) (cell : ℤ) (read : Option (List ℕ)) → with_front front (read >>= λ bytes. Some (bytes_by cell ++ bytes)) ≡ with_front (front ++ bytes_by cell) read
goes_behind front cell None = refl
goes_behind front cell (Some bytes) = ap Some (sym (append_assoc front (bytes_by cell) bytes))

-- one more cell was read
pub cells_go : (front more : List ℕ) (cell : ℤ) (field : List ℕ) (left behind : List (List ℕ)) (whole : Option (List ℕ)) → left ≡ field ∷ behind → cell_of field ≡ Some cell → more ≡ front ++ bytes_by cell
    → with_front front (cells_of left) ≡ whole → with_front more (cells_of behind) ≡ whole
cells_go front more cell field left behind whole first e is so_far =
    ap (λ m. with_front m (cells_of behind)) is
    ∙ sym (goes_behind front cell (cells_of behind))
    ∙ sym (ap (with_front front) (ap cells_of first ∙ bind_some (cell_of field) (λ c. cells_of behind >>= λ bytes. Some (bytes_by c ++ bytes)) cell e))
    ∙ so_far

pub cells_fail : (f : LineFault) (front : List ℕ) (field : List ℕ) (left behind : List (List ℕ)) (whole : Option (List ℕ)) → left ≡ field ∷ behind → Fails f (cell_of field)
    → with_front front (cells_of left) ≡ whole → Fails f whole
cells_fail fault.Mem front field left behind whole first e so_far = tt
cells_fail fault.Bad front field left behind whole first e so_far =
    sym so_far ∙ ap (λ l. with_front front (cells_of l)) first ∙ ap (λ r. with_front front (r >>= λ c. cells_of behind >>= λ bytes. Some (bytes_by c ++ bytes))) e

pub cells_end : (front : List ℕ) (left : List (List ℕ)) (whole : Option (List ℕ)) → left ≡ [] → with_front front (cells_of left) ≡ whole → whole ≡ Some front
cells_end front left whole none so_far = sym so_far ∙ ap (λ l. with_front front (cells_of l)) none ∙ ap Some (append-nil front)
