-- Names that may stand once.
use Rattle.std.specs.Prelude.{◌≡◌, ℕ, true, false, List, [], ◌∷◌, ◌++◌, Result, Ok, Err}
use Rattle.aseba_describe.specs.declared.fault.LineFault.{LineFault}
use Rattle.aseba_describe.specs.declared.fault.LineFault.TheVariants as fault
use Rattle.aseba_text.specs.Names.{stands_in}

-- A name was added that was not there; it was there; or memory ran out.
abbrev pub Added : {U : Type 0} → List (List ℕ) → List ℕ → List (List ℕ) → Result U LineFault → Type 0
Added old name new (Ok u) = (stands_in name old ≡ false) × (new ≡ old ++ name ∷ [])
Added old name new (Err fault.Bad) = stands_in name old ≡ true
Added old name new (Err fault.Mem) = Unit {0}
