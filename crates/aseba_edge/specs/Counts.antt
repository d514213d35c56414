-- The count of faults that an object of the outside keeps.
use Rattle.std.specs.Prelude.{◌≡◌, ℕ, ◌+◌, ◌-◌, ◌^◌, ◌≤◌, min, Bool, MatchBool}

-- A count rose. The highest count is 2^64 - 1: one that stands there stays there, and counts as having risen.
abbrev pub Rose : ℕ → ℕ → Type 0
Rose before after = min (before + 1) (2 ^ 64 - 1) ≤ after

-- What a call did to the count: it never fell, it rose where the call failed, and it stayed where the call didn't.
pub record Counts (failed : Bool) (before after : ℕ) : Type 0 where
  pub never_fell : before ≤ after
  pub cause : MatchBool failed (Rose before after) (after ≡ before)
