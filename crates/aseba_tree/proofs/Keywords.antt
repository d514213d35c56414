-- Bytes that were compared one by one with those of a table.
use Rattle.std.proofs.Common.{◌≡◌, ℕ, true, List}
use Rattle.std.specs.Cmp.Lexicographic.{bytes_decides}
use lib.Dec.{eqb}
use lib.Pointwise.{pointwise}

pub same_bytes : (xs ys : List ℕ) → pointwise eqb xs ys ≡ true → xs ≡ ys
same_bytes xs ys h = (bytes_decides xs ys).0 h
