-- A stretch of the cells is what a parameter that lies inside reads.
use Rattle.std.proofs.Common.{◌≡◌, ℕ, zero, suc, ◌+◌, ◌≤◌, List, ◌∷◌, length, take, drop, map, get_or, refl, ap, ◌∙◌, ℤ, pos, arith}
use Rattle.std.specs.List.{range_with_len}
use Rattle.std.proofs.lemmas.List.{drop_more}
use Rattle.aseba_words.specs.Natives.{cells_of}
use Rattle.aseba_natives.specs.Call.{cell, with_cell}

from : (cells : List ℤ) (start len i at : ℕ) → at ≡ start + i → at + len ≤ length cells → take len (drop at cells) ≡ map (cell cells start) (range_with_len i len)
from cells start zero i at e h = refl
from cells start (suc len) i at e h =
    ap (take (suc len)) (drop_more cells at (pos 0) (omega arith))
    ∙ (ap (λ rest. get_or cells at (pos 0) ∷ rest) (from cells start len (i + 1) (at + 1) (omega arith) (omega arith))
    ∙ ap (λ n. get_or cells n (pos 0) ∷ map (cell cells start) (range_with_len (i + 1) len)) e)

pub cells_of-stretch : (cells : List ℤ) (start len first count : ℕ) → first ≡ start → count ≡ len → start + len ≤ length cells → take count (drop first cells) ≡ cells_of cell with_cell cells start len
cells_of-stretch cells start len first count e f h =
    ap (λ n. take n (drop first cells)) f ∙ from cells start len 0 first (omega arith) (omega arith)
