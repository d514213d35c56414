-- Cells and what is held for them, by address: stores, the end of a handler, and nothing held.
use Rattle.std.proofs.Common.{◌≡◌, ℕ, zero, suc, ◌<◌, ℤ, pos, List, [], ◌∷◌, length, slice_index_or, slice_set, Option, None, unwrap_or, refl, ap, arith, replicate}
use Rattle.aseba_tree.specs.Step.{applied_cells}
use Rattle.aseba_tree.specs.CoreStep.{core_none_held}
use Rattle.aseba_vm.specs.State.{applied}

-- a store in two lists leaves them alike where they were
pub set-alike : {X : Type 0} (xs ys : List X) (a i : ℕ) (v d : X) → a < length xs → a < length ys → slice_index_or xs i d ≡ slice_index_or ys i d → slice_index_or (slice_set xs a v) i d ≡ slice_index_or (slice_set ys a v) i d
set-alike [] ys a i v d in_x in_y h = absurd (omega arith)
set-alike (x ∷ xs) [] a i v d in_x in_y h = absurd (omega arith)
set-alike (x ∷ xs) (y ∷ ys) zero zero v d in_x in_y h = refl
set-alike (x ∷ xs) (y ∷ ys) zero (suc i) v d in_x in_y h = h
set-alike (x ∷ xs) (y ∷ ys) (suc a) zero v d in_x in_y h = h
set-alike (x ∷ xs) (y ∷ ys) (suc a) (suc i) v d in_x in_y h = set-alike xs ys a i v d (omega arith) (omega arith) h

pub applied-at : (xs : List ℤ) (hs : List (Option ℤ)) (i : ℕ) → i < length xs → i < length hs → slice_index_or (applied xs hs) i (pos 0) ≡ unwrap_or (slice_index_or hs i None) (slice_index_or xs i (pos 0))
applied-at [] hs i in_x in_h = absurd (omega arith)
applied-at (x ∷ xs) [] i in_x in_h = absurd (omega arith)
applied-at (x ∷ xs) (h ∷ hs) zero in_x in_h = refl
applied-at (x ∷ xs) (h ∷ hs) (suc i) in_x in_h = applied-at xs hs i (omega arith) (omega arith)

pub applied_cells-at : (xs : List ℤ) (hs : List (Option ℤ)) (i : ℕ) → i < length xs → i < length hs → slice_index_or (applied_cells xs hs) i (pos 0) ≡ unwrap_or (slice_index_or hs i None) (slice_index_or xs i (pos 0))
applied_cells-at [] hs i in_x in_h = absurd (omega arith)
applied_cells-at (x ∷ xs) [] i in_x in_h = absurd (omega arith)
applied_cells-at (x ∷ xs) (h ∷ hs) zero in_x in_h = refl
applied_cells-at (x ∷ xs) (h ∷ hs) (suc i) in_x in_h = applied_cells-at xs hs i (omega arith) (omega arith)

pub applied-long : (xs : List ℤ) (hs : List (Option ℤ)) → length (applied xs hs) ≡ length xs
applied-long [] hs = refl
applied-long (x ∷ xs) [] = refl
applied-long (x ∷ xs) (h ∷ hs) = ap suc (applied-long xs hs)

pub applied_cells-long : (xs : List ℤ) (hs : List (Option ℤ)) → length (applied_cells xs hs) ≡ length xs
applied_cells-long [] hs = refl
applied_cells-long (x ∷ xs) [] = refl
applied_cells-long (x ∷ xs) (h ∷ hs) = ap suc (applied_cells-long xs hs)

pub none-at : (n i : ℕ) → slice_index_or (replicate {A = Option ℤ} n None) i None ≡ None
none-at zero i = refl
none-at (suc n) zero = refl
none-at (suc n) (suc i) = none-at n i

pub core_none-at : (xs : List ℤ) (i : ℕ) → slice_index_or (core_none_held xs) i None ≡ None
core_none-at [] i = refl
core_none-at (x ∷ xs) zero = refl
core_none-at (x ∷ xs) (suc i) = core_none-at xs i
