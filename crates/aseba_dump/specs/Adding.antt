-- Fields as they are added, one behind the other.
use Rattle.std.specs.Prelude.{ℕ, List, [], ◌∷◌, ◌++◌}
use Rattle.aseba_dump.specs.Field.{Field, field_text}
use Rattle.aseba_dump.specs.Said.{Said}

abbrev pub with_fields : List ℕ → List Field → List ℕ
with_fields out [] = out
with_fields out (field ∷ fields) = with_fields (out ++ field_text field) fields

abbrev pub with_said : List ℕ → Said → List ℕ
with_said out s = with_fields (out ++ s.name) s.fields
