-- What a table holds.
use Rattle.std.specs.Prelude.{ℕ, List, Option, Some, None, bytes_eq, is_some, cond}
use Rattle.indexmap.specs.IndexMap.{get}
use Rattle.aseba_check.specs.declared.table.Table.{Table}

-- the value of a name
abbrev pub looked : {V : Type 0} → Table V → List ℕ → Option V
looked table name = get bytes_eq table.values name

-- the values of names where none has one
abbrev pub nothing : {V : Type 0} → List ℕ → Option V
nothing name = None

-- the values of names, with another one for a name
abbrev pub with_value : {V : Type 0} → (List ℕ → Option V) → List ℕ → V → List ℕ → Option V
with_value values name v other = cond (bytes_eq name other) (Some v) (values other)

-- the same where it has none
abbrev pub first_value : {V : Type 0} → (List ℕ → Option V) → List ℕ → V → List ℕ → Option V
first_value values name v = cond (is_some (values name)) values (with_value values name v)
