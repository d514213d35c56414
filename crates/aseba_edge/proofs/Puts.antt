-- What puts in a row took.
use Rattle.std.proofs.Common.{◌≡◌, ℕ, ◌+◌, ◌-◌, ◌≤◌, List, [], ◌++◌, length, take, Option, None, Some, refl, ◌∙◌, ap, sym, subst, arith, append_assoc, append-nil, length-append, length-take}
use Rattle.std.proofs.lemmas.List.{take-append-le}
use Rattle.std.proofs.Math.Seq.{take-append-add}
use Rattle.aseba_edge.specs.Sink.{and_then, grown, Took, TookFewer, TookFirst}

-- the first elements of two lists, where they reach into the second
pub take_past : {A : Type 0} (n : ℕ) (xs ys : List A) → length xs ≤ n → take n (xs ++ ys) ≡ xs ++ take (n - length xs) ys
take_past n xs ys h =
    let e : n ≡ length xs + (n - length xs) = omega arith in
    ap (λ m. take m (xs ++ ys)) e ∙ take-append-add xs ys (n - length xs)

-- Puts in a row: a crate above names this set on a function that puts several pieces, as `using(aseba_edge::proofs::Puts::puts)`.
pub ruleset puts = (take_past, take-append-le, append_assoc, length-append, length-take, append-nil)

-- no more was added than the text has
within : (before after : Option (List ℕ)) (text : List ℕ) → TookFirst before text after → grown before after ≤ length text
within None after text first = omega arith
within (Some before) None text first = omega arith
within (Some before) (Some after) text first =
    let added : after ≡ before ++ take (length after - length before) text = cc in
    omega (arith, ap length added, length-append before (take (length after - length before) text), length-take (length after - length before) text)

-- the first bytes of a text are the first of whatever the text begins
pub first_of_more : (before : Option (List ℕ)) (text more : List ℕ) (after : Option (List ℕ)) → TookFirst before text after → TookFirst before (text ++ more) after
first_of_more before text more after first = first ∙ ap (and_then before) (sym (take-append-le (grown before after) text more (within before after text first)))

-- a text was taken, and then fewer bytes than the next piece has
pub fewer_after : {before mid after : Option (List ℕ)} {text piece : List ℕ} {count : ℕ} → Took before text mid → TookFewer count mid piece after → TookFirst before (text ++ piece) after
fewer_after took part = grind (arith, puts)

-- A put that failed in a loop: a text was taken before it, and with the piece and what was to follow it is the whole text.
pub fault_in_loop : {before mid after : Option (List ℕ)} {taken piece whole : List ℕ} {count : ℕ} (rest : List ℕ) → Took before taken mid → TookFewer count mid piece after → taken ++ piece ++ rest ≡ whole → TookFirst before whole after
fault_in_loop {before} {after = after} {taken} {piece} rest took part text =
    subst (λ (t : List ℕ). TookFirst before t after) text (first_of_more before (taken ++ piece) rest after (fewer_after took part))

-- nothing was taken
pub took_nothing : (before : Option (List ℕ)) (text : List ℕ) → TookFirst before text before
took_nothing None text = refl
took_nothing (Some before) text =
    let none : length before - length before ≡ 0 = omega arith in
    rw none (ap Some (sym (append-nil before)))

-- an empty text was taken
pub took_empty : (before : Option (List ℕ)) → Took before [] before
took_empty None = record { bytes = refl }
took_empty (Some before) = record { bytes = ap Some (sym (append-nil before)) }

-- a piece of which not all was taken
pub fewer : {before after : Option (List ℕ)} {piece : List ℕ} {count : ℕ} → TookFewer count before piece after → TookFirst before piece after
fewer {before} part = fewer_after (took_empty before) part

-- Puts of which one failed: a crate above names this set on a function that puts pieces up to a fault.
pub ruleset put_steps = (fewer, took_nothing)

some_inj : {A : Type 0} {x y : A} → Some x ≡ Some y → x ≡ y
some_inj e = cc

none_is_some : {A : Type 0} {x : A} → None ≡ Some x → ⊥
none_is_some e = cc

-- two texts were taken, one after the other
pub took_after : (before mid after : Option (List ℕ)) (text next : List ℕ) → Took before text mid → Took mid next after → Took before (text ++ next) after
took_after None mid after text next took more = record { bytes = more.bytes ∙ ap (λ m. and_then m next) took.bytes }
took_after (Some b) mid after text next took more =
    record { bytes = more.bytes ∙ ap (λ m. and_then m next) took.bytes ∙ ap Some (append_assoc b text next) }

-- a text was taken, and then the first bytes of another
pub first_after : (before mid after : Option (List ℕ)) (text next : List ℕ) → Took before text mid → TookFirst mid next after → TookFirst before (text ++ next) after
first_after None mid after text next took first =
    first ∙ ap (λ m. and_then m (take (grown mid after) next)) took.bytes
first_after (Some b) None after text next took first = elim (none_is_some took.bytes) [ ]
first_after (Some b) (Some m) None text next took first = elim (none_is_some first) [ ]
first_after (Some b) (Some m) (Some a) text next took first =
    let mids : m ≡ b ++ text = some_inj took.bytes in
    let ends : a ≡ m ++ take (length a - length m) next = some_inj first in
    let long = length-append b text in
    let whole = length-append m (take (length a - length m) next) in
    let size : length a - length m ≡ length a - length b - length text = omega (arith, ap length mids, long) in
    let reach : length text ≤ length a - length b = omega (arith, ap length mids, long, ap length ends, whole) in
    ap Some
    (ends ∙ ap (λ n. m ++ take n next) size ∙ ap (λ x. x ++ take (length a - length b - length text) next) mids
    ∙ append_assoc b text (take (length a - length b - length text) next)
    ∙ ap (λ x. b ++ x) (sym (take_past (length a - length b) text next reach)))

-- a text in two parts, which are put one after the other
module _ (before mid after : Option (List ℕ)) (first second whole : List ℕ) (parts : first ++ second ≡ whole) where
  pub cut_in_first : TookFirst before first mid → TookFirst before whole mid
  cut_in_first part = subst (λ (t : List ℕ). TookFirst before t mid) parts (first_of_more before first second mid part)

  pub cut_in_second : Took before first mid → TookFirst mid second after → TookFirst before whole after
  cut_in_second took part = subst (λ (t : List ℕ). TookFirst before t after) parts (first_after before mid after first second took part)

  pub both_taken : Took before first mid → Took mid second after → Took before whole after
  both_taken took more = subst (λ (t : List ℕ). Took before t after) parts (took_after before mid after first second took more)
