-- The names of natives by their numbers.
use Rattle.std.specs.Prelude.{ℕ, [], slice_get, option_map, unwrap_or}
use Rattle.aseba_tree.specs.Code.{Name, Project}

-- the name of the native of a number, and no name where there is none
abbrev pub native_named : Project → ℕ → Name
native_named project id = unwrap_or (option_map (λ native. native.name) (slice_get project.node.natives id)) []
