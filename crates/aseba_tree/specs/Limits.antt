-- Limits of the language that several definitions speak of.
use Rattle.std.specs.Prelude.{ℕ}

-- the deepest nest of a token that is allowed
abbrev pub deepest : ℕ
deepest = 64

-- a call names no address above this one
abbrev pub farthest : ℕ
farthest = 4095
