-- What a writer holds after writes in a row, where it is known.
use Rattle.std.proofs.Common.{ℕ, ◌+◌, List, [], ◌++◌, take, drop, Option, None, Some, sym, subst, ◌∙◌, ap, append_assoc, append-nil}
use Rattle.std.proofs.Math.Seq.{take-add}
use Rattle.std.specs.Io.KnownBytes.{Appends, Keeps}

-- bytes, and then others
appends-appends : (a b c : Option (List ℕ)) (xs ys : List ℕ) → Appends a b xs → Appends b c ys → Appends a c (xs ++ ys)
appends-appends None b c xs ys first second = tt
appends-appends (Some a) None c xs ys first second = absurd first
appends-appends (Some a) (Some b) None xs ys first second = absurd second
appends-appends (Some a) (Some b) (Some c) xs ys first second = second ∙ ap (λ m. m ++ ys) first ∙ append_assoc a xs ys

-- the first bytes of a piece, and then the first of the rest
pub write_more : (a b c : Option (List ℕ)) (taken count : ℕ) (piece : List ℕ) → Appends a b (take taken piece) → Appends b c (take count (drop taken piece)) → Appends a c (take (taken + count) piece)
write_more a b c taken count piece first second =
    subst (λ (bytes : List ℕ). Appends a c bytes) (sym (take-add taken count piece)) (appends-appends a b c (take taken piece) (take count (drop taken piece)) first second)

-- a write that failed changes nothing
pub write_none : (a b c : Option (List ℕ)) (bytes : List ℕ) → Appends a b bytes → Keeps b c → Appends a c bytes
write_none None b c bytes first second = tt
write_none (Some a) None c bytes first second = absurd first
write_none (Some a) (Some b) None bytes first second = absurd second
write_none (Some a) (Some b) (Some c) bytes first second = second ∙ first

-- nothing was written yet
pub write_nothing : (a : Option (List ℕ)) → Appends a a []
write_nothing None = tt
write_nothing (Some a) = sym (append-nil a)
