-- What names mean to the statements of a source, by the places of its variables.
use Rattle.std.specs.Prelude.{◌≤◌, List, [], ◌∷◌, Some}
use Rattle.aseba_tree.specs.declared.project.Project.{Project}
use Rattle.aseba_tree.specs.Code.{Handler}
use Rattle.aseba_tree.specs.declared.placed.Placed.{Placed}
use Rattle.aseba_check.specs.Declarations.{Names, ConstsFit, declared}
use Rattle.aseba_check.specs.Statements.{Known}
use Rattle.aseba_check.specs.Walk.{first_names, known_in}

abbrev pub with_places : Names → List Placed → Names
with_places names [] = names
with_places names (p ∷ ps) = with_places (declared names p.name (Some p.size)) ps

-- each size is one that a node's address has room for
abbrev pub SizesFit : List Placed → Type 0
SizesFit [] = Unit {0}
SizesFit (p ∷ ps) = (p.size ≤ 65535) × SizesFit ps

-- what statements may name in a project, where these are the parts of the source and the places of the variables
abbrev pub known_at : Project → List Handler → List Placed → Known
known_at project parts places = known_in project parts (with_places (first_names project) places)

-- the numbers of the project's constants are those of cells, and no variable is larger than an address
pub record NumbersFit (project : Project) (places : List Placed) : Type 0 where
  pub consts : ConstsFit project.consts
  pub sizes : SizesFit places
