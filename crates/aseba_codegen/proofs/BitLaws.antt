-- What a memory has at places is what it was said to have there.
use Rattle.std.proofs.Common.{◌≡◌, ℕ, zero, suc, ◌+◌, ◌-◌, ◌*◌, ◌/◌, ◌%◌, Bool, true, false, List, [], ◌∷◌, slice_get, slice_index_or, Some, refl, ap, ◌∙◌, arith}
use Rattle.std.specs.Prelude.{◌==◌}
use Rattle.aseba_vm.specs.Instructions.{bits_at, was_true, remembering}
use Rattle.aseba_codegen.specs.declared.coded.Coded.{Coded}
use Rattle.aseba_codegen.specs.Places.{word_at, HasBits}

pub remembered : (bit : Bool) (word : ℕ) → was_true (remembering bit word) ≡ bit
remembered true word = let e : (word - word / 512 % 2 * 512 + 512) / 512 % 2 ≡ 1 = omega arith in ap (λ n. n == 1) e
remembered false word = let e : (word - word / 512 % 2 * 512 + 0) / 512 % 2 ≡ 0 = omega arith in ap (λ n. n == 1) e

pub found : (memory : List ℕ) (at word : ℕ) → slice_get memory at ≡ Some word → slice_index_or memory at 0 ≡ word
found [] at word h = cc
found (x ∷ memory) zero word h = cc
found (x ∷ memory) (suc at) word h = found memory at word h

pub bits-at : (code : List Coded) (memory places : List ℕ) (bits : List Bool) → HasBits code memory places bits → bits_at memory places ≡ bits
bits-at code memory [] [] h = refl
bits-at code memory (at ∷ places) (bit ∷ bits) h =
    let first : was_true (slice_index_or memory at 0) ≡ bit = ap was_true (found memory at (remembering bit (word_at code at)) h.0) ∙ remembered bit (word_at code at) in
    ap (λ b. b ∷ bits_at memory places) first ∙ ap (λ bs. bit ∷ bs) (bits-at code memory places bits h.1)
bits-at code memory [] (bit ∷ bits) h = absurd h
bits-at code memory (at ∷ places) [] h = absurd h
