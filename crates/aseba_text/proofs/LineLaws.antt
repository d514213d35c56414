-- The first line of a text.
use Rattle.std.proofs.Common.{◌≡◌, ℕ, suc, zero, ◌+◌, ◌-◌, ◌<◌, ◌≤◌, Bool, true, false, not, ◌==◌, List, [], ◌∷◌, ◌++◌, length, take, drop, get_or, refl, sym, ap, ◌∙◌, arith, cond}
use Rattle.std.specs.List.{list_all, All, slice_split, onto_first}
use Rattle.std.specs.Str.Lines.{lines, lines_of_parts, strip_carriage_return}
use Rattle.std.proofs.lemmas.List.{take_all, take_rest}
use Rattle.std.proofs.lemmas.List.Elements.{All-nil, All-cons}
use Rattle.std.proofs.lemmas.List.Splits.{slice_split_none, slice_split_at}
use Rattle.std.proofs.lemmas.Bool.{eqb-true}
use Rattle.aseba_text.proofs.Options.{and_takes}

abbrev pub has_no_end : List ℕ → Bool
has_no_end bs = list_all (λ b. not (b == 10)) bs

false_of : (t : Bool) → not t ≡ true → t ≡ false
false_of true h = absurd cc
false_of false h = refl

-- bytes of which none is the one
pub each_differs : (c : ℕ) (bs : List ℕ) → list_all (λ b. not (b == c)) bs ≡ true → All (λ b. (b == c) ≡ false) bs
each_differs c [] h = All-nil (λ b. (b == c) ≡ false)
each_differs c (b ∷ bs) h =
    let k = and_takes _ _ h in
    All-cons (λ b. (b == c) ≡ false) b bs (false_of _ k.0) (each_differs c bs k.1)

-- parts of a text, of which there is at least one
abbrev pub has_part : List (List ℕ) → Bool
has_part [] = false
has_part (part ∷ parts) = true

onto_has_part : (b : ℕ) (parts : List (List ℕ)) → has_part (onto_first b parts) ≡ true
onto_has_part b [] = refl
onto_has_part b (part ∷ parts) = refl

split_has_part : (bs : List ℕ) → has_part (slice_split (λ b. b == 10) bs) ≡ true
split_has_part [] = refl
split_has_part (b ∷ bs) = by (b == 10)
  where
    by : (t : Bool) → has_part (cond t ([] ∷ slice_split (λ b. b == 10) bs) (onto_first b (slice_split (λ b. b == 10) bs))) ≡ true
    by true = refl
    by false = onto_has_part b (slice_split (λ b. b == 10) bs)

goes_on : (part : List ℕ) (parts : List (List ℕ)) → has_part parts ≡ true → lines_of_parts (part ∷ parts) ≡ strip_carriage_return part ∷ lines_of_parts parts
goes_on part [] h = absurd cc
goes_on part (x ∷ xs) h = refl

pub first_ends : (front rest : List ℕ) → has_no_end front ≡ true → lines (front ++ 10 ∷ rest) ≡ strip_carriage_return front ∷ lines rest
first_ends front rest h =
    ap lines_of_parts (slice_split_at (λ b. b == 10) front 10 rest (each_differs 10 front h) refl)
    ∙ goes_on front (slice_split (λ b. b == 10) rest) (split_has_part rest)

one_part : (part : List ℕ) → 0 < length part → lines_of_parts (part ∷ []) ≡ part ∷ []
one_part part some = by (length part == 0) refl
  where
    by : (t : Bool) → (length part == 0) ≡ t → cond {A = List (List ℕ)} t [] (part ∷ []) ≡ part ∷ []
    by true e = let none : length part ≡ 0 = eqb-true _ _ e in absurd (omega arith)
    by false e = refl

pub last_line : (b : ℕ) (bs : List ℕ) → has_no_end (b ∷ bs) ≡ true → lines (b ∷ bs) ≡ (b ∷ bs) ∷ []
last_line b bs h = ap lines_of_parts (slice_split_none (λ b. b == 10) (b ∷ bs) (each_differs 10 (b ∷ bs) h)) ∙ one_part (b ∷ bs) (omega arith)

pub cut_at : (text : List ℕ) (i : ℕ) → i < length text → get_or text i 0 ≡ 10 → text ≡ take i text ++ 10 ∷ drop (i + 1) text
cut_at [] i h e = absurd (omega arith)
cut_at (b ∷ bs) zero h e = ap (λ c. c ∷ bs) e
cut_at (b ∷ bs) (suc i) h e =
    let one : suc (i + 1) ≡ suc i + 1 = omega arith in
    ap (λ l. b ∷ l) (cut_at bs i (omega arith) e) ∙ ap (λ k. b ∷ (take i bs ++ 10 ∷ drop k (b ∷ bs))) one

pub first_is : (text line : List ℕ) (i : ℕ) → i < length text → get_or text i 0 ≡ 10 → has_no_end (take i text) ≡ true → line ≡ strip_carriage_return (take i text)
    → lines text ≡ line ∷ lines (take (length text - (i + 1)) (drop (i + 1) text))
first_is text line i h e no_end same =
    ap lines (cut_at text i h e) ∙ first_ends (take i text) (drop (i + 1) text) no_end
    ∙ ap (λ l. l ∷ lines (drop (i + 1) text)) (sym same)
    ∙ ap (λ l. line ∷ lines l) (sym (take_rest text (i + 1)))

pub last_is : (text : List ℕ) (i : ℕ) → 0 < length text → length text ≤ i → has_no_end (take i text) ≡ true
    → lines text ≡ text ∷ lines (take (length text - length text) (drop (length text) text))
last_is [] i h le no_end = absurd (omega arith)
last_is (b ∷ bs) i h le no_end =
    let none : length (b ∷ bs) - length (b ∷ bs) ≡ 0 = omega arith in
    last_line b bs (ap has_no_end (sym (take_all i (b ∷ bs) le)) ∙ no_end)
    ∙ ap (λ k. (b ∷ bs) ∷ lines (take k (drop (length (b ∷ bs)) (b ∷ bs)))) (sym none)
