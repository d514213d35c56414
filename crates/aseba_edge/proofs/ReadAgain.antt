-- What a reader has left behind a read that was tried again, where it is known.
use Rattle.std.proofs.Common.{ℕ, List, Option, None, Some, Result, Ok, Err, ◌∙◌, subst}
use Rattle.std.specs.Io.KnownBytes.{Keeps, ReadConsumes}

-- nothing was given, twice
pub keeps_keeps : (a b c : Option (List ℕ)) → Keeps a b → Keeps b c → Keeps a c
keeps_keeps None b c first second = tt
keeps_keeps (Some a) None c first second = absurd first
keeps_keeps (Some a) (Some b) None first second = absurd second
keeps_keeps (Some a) (Some b) (Some c) first second = second ∙ first

-- nothing was given, and then what a read gives
pub keeps_reads : {E : Type 0} (a b c : Option (List ℕ)) (answer : Result ℕ E) (buffer : List ℕ) → Keeps a b → ReadConsumes b c answer buffer → ReadConsumes a c answer buffer
keeps_reads None b c (Ok count) buffer kept read = (tt, read.1)
keeps_reads None b c (Err error) buffer kept read = tt
keeps_reads (Some a) None c answer buffer kept read = absurd kept
keeps_reads (Some a) (Some b) c answer buffer kept read = subst (λ (left : List ℕ). ReadConsumes (Some left) c answer buffer) kept read
