-- The breakpoints of a machine.
use Rattle.std.specs.Prelude.{ℕ, ◌≤◌, ◌==◌, ◌&&◌, not, nat_eq, nat_lt, Bool, List, [], ◌∷◌, ◌++◌, length, filter, if◌then◌else◌}
use Rattle.std.specs.List.{IsDistinct, list_any}

-- there are at most sixteen, and no address has two
pub record AreBreaks (breaks : List ℕ) : Type 0 where
  pub few : length breaks ≤ 16
  pub apart : IsDistinct nat_eq breaks

-- there is one at this address
abbrev pub is_set : ℕ → List ℕ → Bool
is_set pc breaks = list_any (λ at. at == pc) breaks

-- those at other addresses
abbrev pub without : ℕ → List ℕ → List ℕ
without pc breaks = filter (λ at. not (at == pc)) breaks

-- one may stand at this address: the code has it, and there are fewer than sixteen others
abbrev pub may_stand : ℕ → (code : List ℕ) → List ℕ → Bool
may_stand pc code breaks = nat_lt pc (length code) && nat_lt (length (without pc breaks)) 16

-- one stands there now
abbrev pub with_break : ℕ → List ℕ → List ℕ
with_break pc breaks = if is_set pc breaks then breaks else breaks ++ pc ∷ []
