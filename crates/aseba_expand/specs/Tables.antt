-- What the tables of a scope hold while they are filled.
use Rattle.std.specs.Prelude.{◌≡◌, ℕ, ℤ, suc, ◌-◌, List, [], ◌∷◌, map, Option}
use Rattle.aseba_tree.specs.declared.description.Sized.{Sized}
use Rattle.aseba_tree.specs.declared.description.Local.{Local}
use Rattle.aseba_tree.specs.declared.project.Const.{Const}
use Rattle.aseba_tree.specs.declared.project.Project.{Project}
use Rattle.aseba_tree.specs.Code.{Name}
use Rattle.aseba_tree.specs.declared.placed.Placed.{Placed}
use Rattle.aseba_tree.specs.View.{handler_view}
use Rattle.aseba_check.specs.declared.checked.Checked.{Checked}
use Rattle.aseba_check.specs.Looked.{looked, nothing, first_value}
use Rattle.aseba_check.specs.Parts.{with_natives, with_subs}
use Rattle.aseba_expand.specs.declared.scope.Place.{Place}
use Rattle.aseba_expand.specs.declared.scope.Scope.{Scope}

-- variables with their places
abbrev pub with_places : (Name → Option Place) → List Placed → Name → Option Place
with_places known [] = known
with_places known (p ∷ ps) = with_places (first_value known p.name (record { start = p.start; size = p.size })) ps

-- constants with their numbers
abbrev pub with_const : (Name → Option ℤ) → Const → Name → Option ℤ
with_const known c = first_value known c.name c.value

abbrev pub with_consts : (Name → Option ℤ) → List Const → Name → Option ℤ
with_consts known [] = known
with_consts known (c ∷ cs) = with_consts (with_const known c) cs

-- global events with their numbers, of which the first is this
abbrev pub with_globals : (Name → Option ℕ) → ℕ → List Sized → Name → Option ℕ
with_globals known number [] = known
with_globals known number (e ∷ es) = with_globals (first_value known e.name number) (suc number) es

-- local events with theirs, where so many stand before them
abbrev pub with_locals : (Name → Option ℕ) → ℕ → List Local → Name → Option ℕ
with_locals known before [] = known
with_locals known before (e ∷ es) = with_locals (first_value known e.name (0xFFFE - before)) (suc before) es

-- The scope is that of a checked source in its project, and its tables hold all names that were added one by one.
pub record IsFilled (project : Project) (checked : Checked) (scope : Scope) : Type 0 where
  pub same_project : scope.project.now ≡ project
  pub same_source : scope.source.now ≡ checked.source
  pub same_cells : scope.cells ≡ checked.cells
  pub variables : looked scope.variables ≡ with_places nothing checked.places
  pub constants : looked scope.constants ≡ with_consts nothing scope.project.now.consts
  pub events : looked scope.events ≡ with_locals (with_globals nothing 0 scope.project.now.events) 0 scope.project.now.node.locals
  pub natives : looked scope.natives ≡ with_natives nothing 0 scope.project.now.node.natives
  pub subs : looked scope.subs ≡ with_subs nothing 0 (map handler_view scope.source.now.parts)
