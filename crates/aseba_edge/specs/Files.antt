-- What a read of a file answers.
use Rattle.std.specs.Prelude.{◌≡◌, ℕ, ◌<◌, ◌≤◌, Bool, true, false, List, length, Option, None, Some, IsSomeAnd}
use Rattle.aseba_edge.specs.declared.files.FileAnswer.{FileAnswer}
use Rattle.aseba_edge.specs.declared.files.FileAnswer.TheVariants.{Bytes, Absent, TooBig, Failed, Mem}

-- the answer that counts as a fault
abbrev pub is_failed : FileAnswer → Bool
is_failed (Bytes bytes) = false
is_failed Absent = false
is_failed TooBig = false
is_failed Failed = true
is_failed Mem = false

-- the answer that no file has the name
abbrev pub is_absent : FileAnswer → Bool
is_absent (Bytes bytes) = false
is_absent Absent = true
is_absent TooBig = false
is_absent Failed = false
is_absent Mem = false

-- what is given is no longer than the limit
abbrev pub IsWithin : ℕ → FileAnswer → Type 0
IsWithin limit (Bytes bytes) = length bytes ≤ limit
IsWithin limit Absent = Unit {0}
IsWithin limit TooBig = Unit {0}
IsWithin limit Failed = Unit {0}
IsWithin limit Mem = Unit {0}

-- The answer for a name that holds these bytes, or none: the bytes, or that there are none, or that they are longer than the limit.
-- A failed read and want of memory may come at any time.
abbrev pub Answers : Option (List ℕ) → ℕ → FileAnswer → Type 0
Answers held limit (Bytes bytes) = held ≡ Some bytes
Answers held limit Absent = held ≡ None
Answers held limit TooBig = IsSomeAnd held (λ bytes. limit < length bytes)
Answers held limit Failed = Unit {0}
Answers held limit Mem = Unit {0}
