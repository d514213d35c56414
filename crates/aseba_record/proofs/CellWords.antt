-- Words as signed numbers, one in each field.
use Rattle.std.proofs.Common.{◌≡◌, ℕ, ◌+◌, ◌*◌, ◌%◌, ◌<◌, ◌^◌, ℤ, pos, negsuc, true, List, [], ◌∷◌, ◌++◌, length, map, Some, refl, sym, ap, ◌∙◌, subst, arith, append-nil}
use Rattle.std.specs.List.{AllByRecursion, join_with_byte}
use Rattle.std.specs.Fmt.{signed_decimal}
use Rattle.std.specs.Int.{w16, cast_signed, cast_unsigned, byte_at}
use Rattle.std.specs.Prelude.{FitsSigned}
use Rattle.std.proofs.Math.Facts.{sfits_to_z, Fits-lt-pow, Fits-of_z, Fits-of_lt}
use Rattle.std.proofs.lemmas.Int.{ints, of_z-to_z, to_z-of_z}
use Rattle.byteorder.specs.Endian.{little_number}
use Rattle.aseba_text.specs.Fields.{fields, has_no_blank}
use Rattle.aseba_text.specs.Numbers.{IsCell, cell_of}
use Rattle.aseba_text.proofs.Options.{bind_takes, bind_some, some_is}
use Rattle.aseba_text.proofs.CellLaws.{cell_again, cell_takes, cell_has_no_blank}
use Rattle.aseba_payload.specs.Layout.{IsWord, word_bytes}
use Rattle.aseba_payload.specs.Reading.{words_of}
use Rattle.aseba_dump.specs.Field.{signed_words}
use Rattle.aseba_record.specs.Reading.{cells_of}
use Rattle.aseba_record.proofs.DigitLaws.{AreBytes}
use Rattle.aseba_record.proofs.FieldLaws.{front_field, one_field}

abbrev pub cell_text : ℕ → List ℕ
cell_text w = signed_decimal (cast_signed w16 w)

fits : (z : ℤ) → IsCell z → FitsSigned w16 z
fits (pos n) h = record { sfits = omega (arith, ints, h.1) }
fits (negsuc k) h = record { sfits = omega (arith, ints, h.0) }

cell_from : (z : ℤ) → FitsSigned w16 z → IsCell z
cell_from (pos n) f = (omega (arith, ints), omega (arith, ints, f.sfits))
cell_from (negsuc k) f = (omega (arith, ints, f.sfits), omega (arith, ints))

pub is_cell : (w : ℕ) → w < 2 ^ 16 → IsCell (cast_signed w16 w)
is_cell w h = cell_from (cast_signed w16 w) (sfits_to_z {w = w16} (Fits-of_lt {w = w16} h))

abbrev two : ℕ → ℕ → List ℕ → List ℕ
two a b rest = a ∷ b ∷ rest

pair_number : (a b : ℕ) → a < 256 → b < 256 → little_number 2 (a ∷ b ∷ []) < 2 ^ 16
pair_number a b p q = omega arith

pair_bytes : (a b : ℕ) (rest : List ℕ) → a < 256 → b < 256 → word_bytes (little_number 2 (a ∷ b ∷ [])) ++ rest ≡ a ∷ b ∷ rest
pair_bytes a b rest p q =
    let low : byte_at 0 (little_number 2 (a ∷ b ∷ [])) ≡ a = omega arith in
    let high : byte_at 1 (little_number 2 (a ∷ b ∷ [])) ≡ b = omega arith in
    λ i. two (low i) (high i) rest

pub words_small : (bytes : List ℕ) → AreBytes bytes → AllByRecursion IsWord (words_of bytes)
words_small [] h = tt
words_small (a ∷ []) h = tt
words_small (a ∷ b ∷ rest) h = (pair_number a b h.0 h.1.0, words_small rest h.1.1)

-- Cells as bytes

pub cells_again : (bytes : List ℕ) → AreBytes bytes → length bytes % 2 ≡ 0 → cells_of (map cell_text (words_of bytes)) ≡ Some bytes
cells_again [] h even = refl
cells_again (a ∷ []) h even = absurd (omega arith)
cells_again (a ∷ b ∷ rest) h even =
    let w : ℕ = little_number 2 (a ∷ b ∷ []) in
    let small : w < 2 ^ 16 = pair_number a b h.0 h.1.0 in
    bind_some (cell_of (cell_text w)) _ (cast_signed w16 w) (cell_again (cast_signed w16 w) (is_cell w small))
    ∙ bind_some (cells_of (map cell_text (words_of rest))) _ rest (cells_again rest h.1.1 (omega (arith, even)))
    ∙ ap (λ n. Some (word_bytes n ++ rest)) (of_z-to_z w16 w small)
    ∙ ap Some (pair_bytes a b rest h.0 h.1.0)

word_again : (w : ℕ) (rest : List ℕ) → w < 2 ^ 16 → words_of (word_bytes w ++ rest) ≡ w ∷ words_of rest
word_again w rest h =
    let same : byte_at 0 w + 256 * (byte_at 1 w + 256 * 0) ≡ w = omega arith in
    ap (λ n. n ∷ words_of rest) same

unsigned_small : (z : ℤ) → IsCell z → cast_unsigned w16 z < 2 ^ 16
unsigned_small z h = Fits-lt-pow (Fits-of_z {w = w16} (fits z h))

signed_again : (z : ℤ) → IsCell z → cast_signed w16 (cast_unsigned w16 z) ≡ z
signed_again z h = to_z-of_z w16 z (fits z h)

pub record CellsRead (fs : List (List ℕ)) (bytes : List ℕ) : Type 0 where
  pub spelled : fs ≡ map cell_text (words_of bytes)
  pub small : AreBytes bytes
  pub even : length bytes % 2 ≡ 0

one_more : (f : List ℕ) (fs : List (List ℕ)) (z : ℤ) (bytes : List ℕ) → f ≡ signed_decimal z → IsCell z → CellsRead fs bytes → CellsRead (f ∷ fs) (word_bytes (cast_unsigned w16 z) ++ bytes)
one_more f fs z bytes e cell others =
    let w : ℕ = cast_unsigned w16 z in
    let small : w < 2 ^ 16 = unsigned_small z cell in
    record {
      spelled = (λ i. e i ∷ others.spelled i) ∙ ap (λ x. signed_decimal x ∷ map cell_text (words_of bytes)) (sym (signed_again z cell)) ∙ ap (map cell_text) (sym (word_again w bytes small));
      small = (omega arith, (omega arith, others.small));
      even = omega (arith, others.even);
    }

pub cells_takes : (fs : List (List ℕ)) (bytes : List ℕ) → cells_of fs ≡ Some bytes → CellsRead fs bytes
cells_takes [] bytes h = subst (CellsRead []) (some_is [] bytes h) (record { spelled = refl; small = tt; even = refl })
cells_takes (f ∷ fs) bytes h =
    let a = bind_takes _ _ _ h in
    let b = bind_takes _ _ _ a.2 in
    let one = cell_takes f a.0 a.1 in
    subst (CellsRead (f ∷ fs)) (some_is _ bytes b.2) (one_more f fs a.0 b.0 one.0 one.1 (cells_takes fs b.0 b.1))

-- Words behind a field

pub fields_words : (f : List ℕ) (ws : List ℕ) → has_no_blank f ≡ true → AllByRecursion IsWord ws → fields (f ++ signed_words ws) ≡ f ∷ map cell_text ws
fields_words f [] h all = ap fields (append-nil f) ∙ one_field f h
fields_words f (w ∷ ws) h all =
    front_field f (cell_text w ++ signed_words ws) h
    ∙ ap (λ fs. f ∷ fs) (fields_words (cell_text w) ws (cell_has_no_blank (cast_signed w16 w) (is_cell w all.0)) all.1)

pub join_words : (f : List ℕ) (ws : List ℕ) → join_with_byte 32 (f ∷ map cell_text ws) ≡ f ++ signed_words ws
join_words f [] = sym (append-nil f)
join_words f (w ∷ ws) = ap (λ t. f ++ 32 ∷ t) (join_words (cell_text w) ws)
