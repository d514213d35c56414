-- What keeps an input in memory from its end.
use Rattle.std.specs.Prelude.{◌≡◌, ℕ, ◌+◌, ◌-◌, ◌^◌, ◌<◌, ◌≤◌, min, Option, None, Some, option_map, IfSome, MatchOption}
use Rattle.aseba_edge.specs.declared.gate.Gate.{Gate}

-- there is a gate, for so many bytes, at which the input waits for so many turns
abbrev pub IsGated : ℕ → ℕ → Option Gate → Type 0
IsGated until turns gate = MatchOption gate ⊥ (λ gate. (gate.until ≡ until) × (gate.turns ≡ turns))

-- how many bytes the output has to take before the input may end, where it has a gate
abbrev pub until_of : Option Gate → Option ℕ
until_of gate = option_map (λ gate. gate.until) gate

-- how many bytes the output took, as its side of the gate told last
abbrev pub taken_of : Option Gate → Option ℕ
taken_of gate = option_map (λ gate. gate.taken) gate

-- for how many turns the input goes on waiting
abbrev pub turns_of : Option Gate → ℕ
turns_of None = 0
turns_of (Some gate) = gate.turns

-- how often one looked behind so many turns: one time more than turns went by; the count stands still at its end
abbrev pub looks_behind : ℕ → ℕ → ℕ
looks_behind turns looks = min (looks + turns + 1) (2 ^ 64 - 1)

-- one waited at a gate: some turns went by, maybe none, and one looked one time more
pub record Waited (before after : Gate) : Type 0 where
  pub until : after.until ≡ before.until
  pub turns : after.turns ≤ before.turns
  pub looks : after.watched.looks ≡ looks_behind (before.turns - after.turns) before.watched.looks

-- one waited at the gate, if there is one
abbrev pub HasWaited : Option Gate → Option Gate → Type 0
HasWaited None after = after ≡ None
HasWaited (Some before) after = MatchOption after ⊥ (λ after. Waited before after)

-- if there is a gate, the number of bytes that was seen last reaches its own
abbrev pub IsOpen : Option Gate → Type 0
IsOpen gate = IfSome gate (λ gate. gate.until ≤ gate.taken)

-- there is a gate, the number that was seen last doesn't reach its own, and no turn is left
abbrev pub IsStuck : Option Gate → Type 0
IsStuck gate = MatchOption gate ⊥ (λ gate. (gate.taken < gate.until) × (gate.turns ≡ 0))
