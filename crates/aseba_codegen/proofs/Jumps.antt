-- Displacements back, as words.
use Rattle.std.proofs.Common.{◌≡◌, ℕ, ◌+◌, ◌-◌, ◌%◌, ◌≤◌, pos, negsuc, neg_ℤ, ◌-ℤ◌, ap, ◌∙◌, arith}
use Rattle.std.proofs.lemmas.Int.{ints}
use Rattle.aseba_vm.specs.Words.{twelve_bits}
use Rattle.aseba_codegen.specs.Words.{sixteen_bits}

pub far-ahead : (n : ℕ) → 2 ≤ n → sixteen_bits (pos n -ℤ pos 2) ≡ (n - 2) % 65536
far-ahead n h = let e : pos n -ℤ pos 2 ≡ pos (n - 2) = omega (arith, ints) in ap sixteen_bits e

pub far-back : (n : ℕ) → 1 ≤ n → sixteen_bits (neg_ℤ (pos n) -ℤ pos 2) ≡ 65534 - n
far-back n h = let e : neg_ℤ (pos n) -ℤ pos 2 ≡ negsuc (n + 1) = omega (arith, ints) in ap sixteen_bits e ∙ omega arith

pub near-back : (n : ℕ) → 1 ≤ n → twelve_bits (neg_ℤ (pos n)) ≡ 4096 - n
near-back n h = let e : neg_ℤ (pos n) ≡ negsuc (n - 1) = omega (arith, ints) in ap twelve_bits e ∙ omega arith

pub ruleset jumps = (far-ahead, far-back, near-back)
