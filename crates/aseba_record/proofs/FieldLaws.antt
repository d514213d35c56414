-- The fields of a line.
use Rattle.std.proofs.Common.{◌≡◌, ℕ, ◌<◌, ◌^◌, ◌==◌, Bool, true, false, List, [], ◌∷◌, ◌++◌, decimal, refl, arith, cond}
use Rattle.std.specs.List.{join_with_byte, onto_first}
use Rattle.std.proofs.lemmas.List.Splits.{slice_split_none, slice_split_at}
use Rattle.aseba_text.specs.Fields.{fields, has_no_blank}
use Rattle.aseba_text.proofs.LineLaws.{each_differs}
use Rattle.aseba_text.proofs.CellLaws.{no_other, no_byte_from}

-- a text has a field
abbrev pub has_field : List (List ℕ) → Bool
has_field [] = false
has_field (field ∷ fields) = true

onto_has_field : (b : ℕ) (fs : List (List ℕ)) → has_field (onto_first b fs) ≡ true
onto_has_field b [] = refl
onto_has_field b (f ∷ fs) = refl

pub text_has_field : (text : List ℕ) → has_field (fields text) ≡ true
text_has_field [] = refl
text_has_field (b ∷ bs) = by (b == 32)
  where
    by : (t : Bool) → has_field (cond t ([] ∷ fields bs) (onto_first b (fields bs))) ≡ true
    by true = refl
    by false = onto_has_field b (fields bs)

pub join_more : (f : List ℕ) (fs : List (List ℕ)) → has_field fs ≡ true → join_with_byte 32 (f ∷ fs) ≡ f ++ 32 ∷ join_with_byte 32 fs
join_more f [] h = absurd cc
join_more f (g ∷ fs) h = refl

-- a text with a field in front
pub front_field : (f rest : List ℕ) → has_no_blank f ≡ true → fields (f ++ 32 ∷ rest) ≡ f ∷ fields rest
front_field f rest h = slice_split_at (λ b. b == 32) f 32 rest (each_differs 32 f h) refl

pub one_field : (f : List ℕ) → has_no_blank f ≡ true → fields f ≡ f ∷ []
one_field f h = slice_split_none (λ b. b == 32) f (each_differs 32 f h)

pub digits_no_blank : (n : ℕ) → n < 2 ^ 64 → has_no_blank (decimal n) ≡ true
digits_no_blank n h = no_byte_from 32 (decimal n) (no_other n 32 h (λ r. omega (arith, r.0)))
