-- Overwriting, one element after the other.
use Rattle.std.proofs.Common.{◌≡◌, ℕ, suc, ◌<◌, ◌≤◌, ◌+◌, List, [], ◌∷◌, ◌++◌, length, get_or, set, take, drop, ℤ, pos, map, Option, Some, ap, sym, ◌∙◌, append_assoc, length-append, drop-cons, add-zero, arith}
use Rattle.std.proofs.lemmas.List.{set_at, length-take-le, take-append-drop, take_more, length-map, map-append}
use Rattle.aseba_vm.specs.Lists.{overwritten}

-- one more element is one more store
pub overwritten-more : {A : Type 0} (start : ℕ) (xs : List A) (x : A) (old : List A) → start + length xs < length old → overwritten start (xs ++ x ∷ []) old ≡ set (overwritten start xs old) (start + length xs) x
overwritten-more {A} start xs x old h =
    let place : ℕ = start + length xs in
    let front : List A = take start old ++ xs in
    let rest : List A = drop (suc place) old in
    let split : drop place old ≡ get_or old place x ∷ rest = drop-cons old place x h in
    let size : length front ≡ place = omega (arith, length-append (take start old) xs, length-take-le start old (omega arith)) in
    let behind : start + length (xs ++ x ∷ []) ≡ suc place = omega (arith, length-append xs (x ∷ [])) in
    let left : take start old ++ ((xs ++ x ∷ []) ++ drop (start + length (xs ++ x ∷ [])) old) ≡ front ++ x ∷ rest = rw behind (simp append_assoc) in
    let right : set (take start old ++ (xs ++ drop place old)) place x ≡ front ++ x ∷ rest =
    rw (split, ← append_assoc (take start old) xs (get_or old place x ∷ rest)) (set_at front (get_or old place x) rest x place size) in
    left ∙ sym right

-- to overwrite with nothing changes nothing
pub overwritten-nothing : {A : Type 0} (start : ℕ) (old : List A) → overwritten start [] old ≡ old
overwritten-nothing {A} start old = rw add-zero (take-append-drop start old)

-- one more held value
pub held-more : (start place : ℕ) (values : List ℤ) (old : List (Option ℤ)) → place < length values → start + length values ≤ length old → overwritten start (map Some (take (place + 1) values)) old ≡ set (overwritten start (map Some (take place values)) old) (start + place) (Some (get_or values place (pos 0)))
held-more start place values old h fits =
    let v : ℤ = get_or values place (pos 0) in
    let before : List (Option ℤ) = map Some (take place values) in
    let more : take (place + 1) values ≡ take place values ++ v ∷ [] = take_more values place (pos 0) h in
    let size : length before ≡ place = omega (arith, length-map {A = ℤ} {B = Option ℤ} (take place values) Some, length-take-le place values (omega arith)) in
    let stored : overwritten start (before ++ Some v ∷ []) old ≡ set (overwritten start before old) (start + length before) (Some v) = overwritten-more start before (Some v) old (omega arith) in
    let all : map Some (take (place + 1) values) ≡ before ++ Some v ∷ [] = ap (map Some) more ∙ map-append Some (take place values) (v ∷ []) in
    ap (λ xs. overwritten start xs old) all ∙ stored ∙ ap (λ n. set (overwritten start before old) (start + n) (Some v)) size
