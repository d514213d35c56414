-- What the tables of a scope hold of a program's names.
use Rattle.std.specs.Prelude.{◌≡◌, ℕ, ◌+◌, ◌≤◌, ◌<◌, ℤ, List, [], map, length, slice_get, Option, Some, None, option_map, unwrap_or, IfSome}
use Rattle.aseba_tree.specs.Code.{Name}
use Rattle.aseba_tree.specs.declared.description.Native.{Native}
use Rattle.aseba_tree.specs.Numbers.{param_sizes}
use Rattle.aseba_tree.specs.Line.{named}
use Rattle.aseba_tree.specs.State.{Program}
use Rattle.aseba_tree.specs.Step.{native_place}
use Rattle.aseba_tree.specs.Value.{constant_number}
use Rattle.aseba_tree.specs.Events.{event_number}
use Rattle.aseba_tree.specs.Elements.{variable_place}
use Rattle.aseba_tree.specs.Layout.{cells_of_variables}
use Rattle.aseba_check.specs.Looked.{looked}
use Rattle.aseba_check.specs.Refused.{program_in}
use Rattle.aseba_expand.specs.Plain.{sub_place}
use Rattle.aseba_expand.specs.declared.scope.Place.{Place}
use Rattle.aseba_expand.specs.declared.scope.Scope.{Scope}

-- the program whose names they are
abbrev pub program_of : Scope → Program
program_of scope = program_in scope.project.now scope.source.now

abbrev pub pair_of : Place → ℕ × ℕ
pair_of place = (place.start, place.size)

-- a place ends where an address of sixteen bits does, at the latest
abbrev pub IsShort : ℕ × ℕ → Type 0
IsShort v = v.0 + v.1 ≤ 4096

-- the sizes of the parameters of a native's place, none where there is no native
abbrev pub sizes_in : Option Native → List ℤ
sizes_in None = []
sizes_in (Some native) = map (λ p. p.size) native.params

abbrev pub sizes_at : List Native → ℕ → List ℤ
sizes_at natives place = sizes_in (slice_get natives place)

abbrev pub sizes_found : List Native → Option ℕ → List ℤ
sizes_found natives None = []
sizes_found natives (Some place) = sizes_at natives place

-- The tables of a scope hold what the names of its program mean.
pub record KnowsNames (scope : Scope) : Type 0 where
  pub variables : (name : Name) → option_map pair_of (looked scope.variables name) ≡ variable_place (program_of scope) name
  pub constants : (name : Name) → looked scope.constants name ≡ constant_number (program_of scope).project.consts name
  pub events : (name : Name) → looked scope.events name ≡ event_number (program_of scope).project (named name)
  pub natives : (name : Name) → unwrap_or (looked scope.natives name) (length scope.project.now.node.natives) ≡ native_place (program_of scope).project name
  pub params : (name : Name) → sizes_found scope.project.now.node.natives (looked scope.natives name) ≡ param_sizes (program_of scope).project name
  pub subs : (name : Name) → unwrap_or (looked scope.subs name) (length scope.source.now.parts) ≡ sub_place (program_of scope) name
  pub short : (name : Name) → IfSome (variable_place (program_of scope) name) IsShort
  pub few_natives : (name : Name) → native_place (program_of scope).project name < 65536
  pub few_parts : (name : Name) → sub_place (program_of scope) name < 4294967296
  pub few_cells : scope.cells ≤ 4096
  pub first_temporary : scope.cells ≡ cells_of_variables (program_of scope)
