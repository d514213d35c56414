-- The code of a native's values pushes them all, and the call finds them again.
use Rattle.std.proofs.Common.{◌≡◌, ℕ, suc, ◌+◌, ◌<◌, ◌≤◌, ◌||◌, Bool, true, false, if◌then◌else◌, ℤ, pos, negsuc, List, [], ◌∷◌, ◌++◌, length, map, take, drop, slice_get, Some, refl, sym, ap, ◌∙◌, subst, arith, length-append, ltb-false, append_assoc, append-nil}
use Rattle.std.proofs.lemmas.Int.{of_z-to_z, to_z-of_z}
use Rattle.std.proofs.lemmas.List.{reverse-append, take-append-drop}
use Rattle.std.specs.Prelude.{int_lt, flat_map, reverse}
use Rattle.std.specs.Int.{cast_signed, cast_unsigned, w16}
use Rattle.std.specs.Int.RustNames.{FitsSigned}
use Rattle.aseba_tree.specs.Code.{Project}
use Rattle.aseba_tree.specs.CoreNumbers.{param_count}
use Rattle.aseba_vm.specs.declared.tick.Tick.TheVariants.{Quiet}
use Rattle.aseba_vm.specs.State.{State}
use Rattle.aseba_vm.specs.Rows.{arguments}
use Rattle.aseba_vm.specs.Tick.{ticked}
use Rattle.aseba_vm.specs.Words.{small_number_word, native_word}
use Rattle.aseba_codegen.specs.declared.coded.Coded.{Coded}
use Rattle.aseba_codegen.specs.Words.{sixteen_bits, large_number_code, number_code, native_code}
use Rattle.aseba_codegen.specs.Agrees.{line_at}
use Rattle.aseba_codegen.proofs.TickRows.{put, small-tick, large-tick}
use Rattle.aseba_codegen.proofs.Reach.{Lined, lined-split, lined-line, line-of, Reaches, one-quiet}
use Rattle.aseba_codegen.proofs.Exprs.{Runs, sixteen-is, ready-at}

-- a number as it comes onto the stack
abbrev pub as_cell : ℕ → ℤ
as_cell n = cast_signed w16 (sixteen_bits (pos n))

-- numbers on a stack, the last one on top
abbrev pub onto : List ℕ → List ℤ → List ℤ
onto [] stack = stack
onto (v ∷ vs) stack = onto vs (as_cell v ∷ stack)

pub onto-append : (vs ws : List ℕ) (stack : List ℤ) → onto (vs ++ ws) stack ≡ onto ws (onto vs stack)
onto-append [] ws stack = refl
onto-append (v ∷ vs) ws stack = onto-append vs ws (as_cell v ∷ stack)

pub onto-long : (vs : List ℕ) (stack : List ℤ) → length (onto vs stack) ≡ length stack + length vs
onto-long [] stack = omega arith
onto-long (v ∷ vs) stack = omega (arith, onto-long vs (as_cell v ∷ stack))

take-onto : (vs : List ℕ) (k : ℕ) (stack : List ℤ) → take (length vs + k) (onto vs stack) ≡ onto vs (take k stack)
take-onto [] k stack = let e : 0 + k ≡ k = omega arith in ap (λ n. take n stack) e
take-onto (v ∷ vs) k stack =
    let e : suc (length vs) + k ≡ length vs + suc k = omega arith in
    ap (λ n. take n (onto vs (as_cell v ∷ stack))) e ∙ take-onto vs (suc k) (as_cell v ∷ stack)

drop-onto : (vs : List ℕ) (k : ℕ) (stack : List ℤ) → drop (length vs + k) (onto vs stack) ≡ drop k stack
drop-onto [] k stack = let e : 0 + k ≡ k = omega arith in ap (λ n. drop n stack) e
drop-onto (v ∷ vs) k stack =
    let e : suc (length vs) + k ≡ length vs + suc k = omega arith in
    ap (λ n. drop n (onto vs (as_cell v ∷ stack))) e ∙ drop-onto vs (suc k) (as_cell v ∷ stack)

reverse-onto : (vs : List ℕ) (stack : List ℤ) → reverse (onto vs stack) ≡ reverse stack ++ map as_cell vs
reverse-onto [] stack = sym (append-nil (reverse stack))
reverse-onto (v ∷ vs) stack =
    reverse-onto vs (as_cell v ∷ stack) ∙ ap (λ front. front ++ map as_cell vs) (reverse-append (as_cell v ∷ []) stack) ∙ append_assoc (reverse stack) (as_cell v ∷ []) (map as_cell vs)

-- they are found again where they are numbers of sixteen bits
abbrev pub AllShort : List ℕ → Type 0
AllShort [] = Unit {0}
AllShort (v ∷ vs) = (v < 65536) × AllShort vs

found-again : (vs : List ℕ) → AllShort vs → map (cast_unsigned w16) (map as_cell vs) ≡ vs
found-again [] short = refl
found-again (v ∷ vs) short =
    let low : v < 65536 = short.0 in
    let bits : sixteen_bits (pos v) ≡ v = omega arith in
    let here : cast_unsigned w16 (as_cell v) ≡ v = ap (λ n. cast_unsigned w16 (cast_signed w16 n)) bits ∙ of_z-to_z w16 v low in
    ap (λ n. n ∷ map (cast_unsigned w16) (map as_cell vs)) here ∙ ap (λ rest. v ∷ rest) (found-again vs short.1)

pub arguments-are : (vs : List ℕ) (stack : List ℤ) → AllShort vs → arguments (length vs) (onto vs stack) ≡ vs
arguments-are vs stack short =
    let whole : length vs + 0 ≡ length vs = omega arith in
    let top : take (length vs) (onto vs stack) ≡ onto vs [] = ap (λ n. take n (onto vs stack)) (sym whole) ∙ take-onto vs 0 stack in
    ap (λ xs. map (cast_unsigned w16) (reverse xs)) top ∙ ap (map (cast_unsigned w16)) (reverse-onto vs []) ∙ found-again vs short

pub rest-is : (vs : List ℕ) (stack : List ℤ) → drop (length vs) (onto vs stack) ≡ stack
rest-is vs stack = let whole : length vs + 0 ≡ length vs = omega arith in ap (λ n. drop n (onto vs stack)) (sym whole) ∙ drop-onto vs 0 stack

module _ (code : List Coded) (cells : ℕ) (G : State → Type 0) where
  -- a number behind a word of its own
  large-run : (v : ℕ) (m : State) (stack : List ℤ) (at end line n b : ℕ) → end ≡ at + 2 → n ≡ suc b → Runs code m → Lined code line at (large_number_code (pos v)) → line_at code end ≡ line
      → length stack < m.shape.stack → Reaches code cells G b (put m (as_cell v ∷ stack) end) → Reaches code cells G n (put m stack at)
  large-run v m stack at end line n b ends ticks runs lined next room go =
      let here : line_at code at ≡ line = line-of code at _ lined.0 in
      let second : slice_get m.code (at + 1) ≡ Some (sixteen_bits (pos v)) = runs.holds (at + 1) _ lined.1.0 refl in
      let tick : ticked (put m stack at) ≡ (Quiet, put m (as_cell v ∷ stack) (at + 2)) =
      large-tick (put m stack at) (sixteen_bits (pos v)) (ready-at code cells G m stack at line _ runs lined.0) second room in
      one-quiet code cells G n b (put m stack at) (as_cell v ∷ stack) end ticks
      (subst (λ k. ticked (put m stack at) ≡ (Quiet, put m (as_cell v ∷ stack) k)) (sym ends) tick) (next ∙ sym here) go

  -- a number in the word's own bits
  small-run : (v : ℕ) (m : State) (stack : List ℤ) (at end line n b : ℕ) → (int_lt (pos v) (negsuc 2047) || int_lt (pos 2047) (pos v)) ≡ false → end ≡ at + 1 → n ≡ suc b → Runs code m
      → Lined code line at (small_number_word (pos v) ∷ []) → line_at code end ≡ line
      → length stack < m.shape.stack → Reaches code cells G b (put m (as_cell v ∷ stack) end) → Reaches code cells G n (put m stack at)
  small-run v m stack at end line n b small ends ticks runs lined next room go =
      let here : line_at code at ≡ line = line-of code at _ lined.0 in
      let tick : ticked (put m stack at) ≡ (Quiet, put m (pos v ∷ stack) (at + 1)) = small-tick (put m stack at) (pos v) small (ready-at code cells G m stack at line _ runs lined.0) room in
      let value : pos v ≡ as_cell v = small-is v small in
      let tick_too : ticked (put m stack at) ≡ (Quiet, put m (as_cell v ∷ stack) (at + 1)) = subst (λ x. ticked (put m stack at) ≡ (Quiet, put m (x ∷ stack) (at + 1))) value tick in
      one-quiet code cells G n b (put m stack at) (as_cell v ∷ stack) end ticks
      (subst (λ k. ticked (put m stack at) ≡ (Quiet, put m (as_cell v ∷ stack) k)) (sym ends) tick_too) (next ∙ sym here) go
    where
      below : (v : ℕ) → (int_lt (pos v) (negsuc 2047) || int_lt (pos 2047) (pos v)) ≡ false → v ≤ 2047
      below v small = grind (arith, ltb-false)

      small-is : (v : ℕ) → (int_lt (pos v) (negsuc 2047) || int_lt (pos 2047) (pos v)) ≡ false → pos v ≡ as_cell v
      small-is v small =
          let low : v ≤ 2047 = below v small in
          let fits : FitsSigned w16 (pos v) = record { sfits = omega arith } in
          sym (ap (cast_signed w16) (sixteen-is (pos v) fits) ∙ to_z-of_z w16 (pos v) fits)

  number-run : (v : ℕ) (m : State) (stack : List ℤ) (at end line n b : ℕ) → end ≡ at + length (number_code (pos v)) → n ≡ suc b → Runs code m
      → Lined code line at (number_code (pos v)) → line_at code end ≡ line
      → length stack < m.shape.stack → Reaches code cells G b (put m (as_cell v ∷ stack) end) → Reaches code cells G n (put m stack at)
  number-run v m stack at end line n b ends ticks runs lined next room go = by_size (int_lt (pos v) (negsuc 2047) || int_lt (pos 2047) (pos v)) refl ends lined
    where
      by_size : (big : Bool) → (int_lt (pos v) (negsuc 2047) || int_lt (pos 2047) (pos v)) ≡ big
          → end ≡ at + length (if big then large_number_code (pos v) else small_number_word (pos v) ∷ [])
          → Lined code line at (if big then large_number_code (pos v) else small_number_word (pos v) ∷ []) → Reaches code cells G n (put m stack at)
      by_size true large ends lined = large-run v m stack at end line n b ends ticks runs lined next room go
      by_size false small ends lined = small-run v m stack at end line n b small ends ticks runs lined next room go

  -- numbers in a row, each by code of its own
  numbers-run : (code_of : ℕ → List ℕ)
      → ((v : ℕ) (m : State) (stack : List ℤ) (at end line n b : ℕ) → end ≡ at + length (code_of v) → n ≡ suc b → Runs code m → Lined code line at (code_of v) → line_at code end ≡ line
      → length stack < m.shape.stack → Reaches code cells G b (put m (as_cell v ∷ stack) end) → Reaches code cells G n (put m stack at))
      → (vs : List ℕ) (m : State) (stack : List ℤ) (at end line n b : ℕ) → end ≡ at + length (flat_map code_of vs) → n ≡ length vs + b → Runs code m
      → Lined code line at (flat_map code_of vs) → line_at code end ≡ line
      → length stack + length vs ≤ m.shape.stack → Reaches code cells G b (put m (onto vs stack) end) → Reaches code cells G n (put m stack at)
  numbers-run code_of each [] m stack at end line n b ends ticks runs lined next room go =
      let here : end ≡ at = omega arith in
      let same : b ≡ n = omega arith in
      subst (λ k. Reaches code cells G k (put m stack at)) same (subst (λ k. Reaches code cells G b (put m stack k)) here go)
  numbers-run code_of each (v ∷ vs) m stack at end line n b ends ticks runs lined next room go =
      let parts = lined-split code line at (code_of v) (flat_map code_of vs) lined in
      let middle : ℕ = at + length (code_of v) in
      let between : end ≡ middle + length (flat_map code_of vs) = omega (arith, length-append (code_of v) (flat_map code_of vs)) in
      let there : line_at code middle ≡ line = lined-line code line middle end (flat_map code_of vs) between parts.1 next in
      each v m stack at middle line n (length vs + b) refl (omega arith) runs parts.0 there (omega arith)
      (numbers-run code_of each vs m (as_cell v ∷ stack) middle end line (length vs + b) b between refl runs parts.1 next (omega arith) go)

  -- the code of all values, up to the word of the call
  pub values-run : (project : Project) (id : ℕ) (values : List ℕ) (m : State) (stack : List ℤ) (at line n b : ℕ) → n ≡ length values + b → Runs code m
      → Lined code line at (native_code project id values) → length stack + length values ≤ m.shape.stack
      → ((end : ℕ) → at + length (native_code project id values) ≡ end + 1 → Lined code line end (native_word id ∷ []) → Reaches code cells G b (put m (onto values stack) end))
      → Reaches code cells G n (put m stack at)
  values-run project id values m stack at line n b ticks runs lined room go =
      let count : ℕ = param_count project id in
      let address : ℕ → List ℕ = λ v. large_number_code (pos v) in
      let number : ℕ → List ℕ = λ v. number_code (pos v) in
      let front : List ℕ = flat_map address (take count values) in
      let back : List ℕ = flat_map number (drop count values) in
      let whole = lined-split code line at (front ++ back) (native_word id ∷ []) lined in
      let parts = lined-split code line at front back whole.0 in
      let middle : ℕ = at + length front in
      let last : ℕ = at + length (front ++ back) in
      let between : last ≡ middle + length back = omega (arith, length-append front back) in
      let end : at + length (native_code project id values) ≡ last + 1 = omega (arith, length-append (front ++ back) (native_word id ∷ [])) in
      let there : line_at code last ≡ line = line-of code last _ whole.1.0 in
      let start : line_at code middle ≡ line = lined-line code line middle last back between parts.1 there in
      let split : take count values ++ drop count values ≡ values = take-append-drop count values in
      let many : length (take count values) + length (drop count values) ≡ length values = sym (length-append (take count values) (drop count values)) ∙ ap length split in
      let all : onto (drop count values) (onto (take count values) stack) ≡ onto values stack = sym (onto-append (take count values) (drop count values) stack) ∙ ap (λ vs. onto vs stack) split in
      let taken : length (onto (take count values) stack) ≡ length stack + length (take count values) = onto-long (take count values) stack in
      numbers-run address (λ v. large-run v) (take count values) m stack at middle line n (length (drop count values) + b) refl (omega arith) runs parts.0 start (omega arith)
      (numbers-run number number-run (drop count values) m (onto (take count values) stack) middle last line (length (drop count values) + b) b between refl runs parts.1 there (omega arith)
      (subst (λ s. Reaches code cells G b (put m s last)) (sym all) (go last end whole.1)))
