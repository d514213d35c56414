-- The nest of a token is one number, whatever program begins with the tokens up to it.
use Rattle.std.specs.Prelude.{◌≡◌, ℕ, List, [], ◌∷◌, ◌++◌}
use Rattle.aseba_tree.specs.declared.token.Token.{Token}
use Rattle.aseba_tree.specs.Code.{Project}
use Rattle.aseba_tree.specs.Nest.{Nested}

abbrev pub OneNest : Type 0
OneNest = (project : Project) (before : List Token) (t : Token) (n m : ℕ) → Nested project (before ++ t ∷ []) n → Nested project (before ++ t ∷ []) m → n ≡ m
