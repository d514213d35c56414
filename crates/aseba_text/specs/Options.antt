-- Reading in steps, each of which gives something or nothing.
use Rattle.std.specs.Prelude.{Bool, Option, Some, None, if◌then◌else◌}

-- goes on with what a step gave
infixl 10 ◌>>=◌
abbrev pub ◌>>=◌ : {A B : Type 0} → Option A → (A → Option B) → Option B
(Some x) >>= f = f x
None >>= f = None

-- a value where a test holds
abbrev pub when : {A : Type 0} → Bool → A → Option A
when b x = if b then Some x else None
