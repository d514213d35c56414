-- One step of a native that works cell by cell.
use Rattle.std.proofs.Common.{◌≡◌, ℕ, suc, ◌+◌, true, List, Option, Some, None, ℤ, slice_set, ap, ◌∙◌, sym, arith}
use Rattle.aseba_words.specs.Natives.{each, stored}
use Rattle.aseba_natives.specs.Call.{cell, with_cell}

module _ (dest : ℕ) (value : List ℤ → ℕ → Option ℤ) (n left k : ℕ) (cells : List ℤ) where
  first : n ≡ left + 1 → each cell with_cell dest value n k cells ≡ stored cell with_cell (value cells k) dest k cells (each cell with_cell dest value left (k + 1))
  first e = let f : n ≡ suc left = omega arith in ap (λ m. each cell with_cell dest value m k cells) f

  pub each-stores : (i : ℕ) (v : ℤ) → n ≡ left + 1 → i ≡ dest + k → Some v ≡ value cells k → each cell with_cell dest value left (k + 1) (slice_set cells i v) ≡ each cell with_cell dest value n k cells
  each-stores i v e f g = ap (λ j. each cell with_cell dest value left (k + 1) (slice_set cells j v)) f ∙ (ap (λ o. stored cell with_cell o dest k cells (each cell with_cell dest value left (k + 1))) g ∙ sym (first e))

  pub each-stops : n ≡ left + 1 → None ≡ value cells k → each cell with_cell dest value n k cells ≡ (true, cells)
  each-stops e g = first e ∙ ap (λ o. stored cell with_cell o dest k cells (each cell with_cell dest value left (k + 1))) (sym g)
