-- The end of a list is the front of the list the other way round.
use Rattle.std.proofs.Common.{◌≡◌, ℕ, ◌-◌, ◌≤◌, List, ◌++◌, length, map, take, drop, reverse, ℤ, ap, sym, ◌∙◌, arith}
use Rattle.std.specs.Int.{cast_unsigned, w16}
use Rattle.aseba_vm.specs.Rows.{arguments}
use Rattle.std.proofs.lemmas.List.{take_at, drop_at, take_rest, take-append-drop, length-drop, length-reverse, reverse-append, reverse-reverse}

-- the front the other way round, and the rest of it
turned : {A : Type 0} (xs : List A) (m : ℕ) → reverse xs ≡ reverse (drop m xs) ++ reverse (take m xs)
turned xs m = ap reverse (sym (take-append-drop m xs)) ∙ reverse-append (take m xs) (drop m xs)

turned-length : {A : Type 0} (xs : List A) (n : ℕ) → n ≤ length xs → length (reverse (drop (length xs - n) xs)) ≡ n
turned-length xs n fits = omega (arith, length-reverse (drop (length xs - n) xs), length-drop (length xs - n) xs)

pub reverse-take : {A : Type 0} (xs : List A) (n : ℕ) → n ≤ length xs → reverse (take n (reverse xs)) ≡ drop (length xs - n) xs
reverse-take xs n fits =
    let m : ℕ = length xs - n in
    ap (λ ys. reverse (take n ys)) (turned xs m)
    ∙ ap reverse (take_at (reverse (drop m xs)) (reverse (take m xs)) n (turned-length xs n fits))
    ∙ reverse-reverse (drop m xs)

pub reverse-drop : {A : Type 0} (xs : List A) (n : ℕ) → n ≤ length xs → drop n (reverse xs) ≡ reverse (take (length xs - n) xs)
reverse-drop xs n fits =
    let m : ℕ = length xs - n in
    ap (drop n) (turned xs m) ∙ drop_at (reverse (drop m xs)) (reverse (take m xs)) n (turned-length xs n fits)

-- the same for what a slice reads from there to its end
pub top_words : (xs : List ℤ) (size n : ℕ) → size ≡ length xs → n ≤ length xs → map (cast_unsigned w16) (take (length xs - (size - n)) (drop (size - n) xs)) ≡ arguments n (reverse xs)
top_words xs size n e fits =
    let m : ℕ = length xs - n in
    let all : take (length xs - m) (drop m xs) ≡ drop m xs = take_rest xs m in
    ap (λ k. map (cast_unsigned w16) (take (length xs - (k - n)) (drop (k - n) xs))) e ∙ ap (map (cast_unsigned w16)) (all ∙ sym (reverse-take xs n fits))

pub ruleset tops = (reverse-take, reverse-drop, length-reverse)
