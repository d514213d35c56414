-- What is known of an argument whose elements are made.
use Rattle.std.specs.Prelude.{◌≡◌, if◌then◌else◌, ℤ, ℕ, ◌+◌, true, false, List, [], ◌∷◌, ◌++◌, length, map, Option, Some, None}
use Rattle.aseba_tree.specs.Code.{Expr, Exprs}
use Rattle.aseba_tree.specs.State.{Program}
use Rattle.aseba_tree.specs.Layout.{cells_of_variables}
use Rattle.aseba_tree.specs.Elements.{elements_of}
use Rattle.aseba_tree.specs.Numbers.{fresh_of_list, is_own, lengths}
use Rattle.aseba_tree.specs.Templates.{opens_template}
use Rattle.aseba_tree.specs.View.{core_expr_view}
use Rattle.aseba_expand.specs.Plain.{argument_start, argument_starts, own_start}
use Rattle.aseba_expand.specs.declared.scope.Place.{Place}
use Rattle.aseba_expand.specs.declared.arguments.Given.{Given}

-- the cells that an argument has of its own, if it has them
abbrev pub IsOwnPlace : Program → Expr → Option Place → Type 0
IsOwnPlace program e None = is_own program e ≡ false
IsOwnPlace program e (Some place) = (is_own program e ≡ true) × (place.start ≡ own_start program e) × (place.size ≡ length (elements_of program e))

-- where an argument lies, if so many elements stand in temporaries before its own
pub record IsArgumentPlace (program : Program) (before : ℕ) (e : Expr) (place : Place) : Type 0 where
  pub start : place.start ≡ argument_start program (cells_of_variables program + before) e
  pub size : place.size ≡ length (elements_of program e)

-- what is given to a native
pub record IsGiven (program : Program) (es : Exprs) (given : Given) : Type 0 where
  pub fresh : map core_expr_view given.fresh ≡ fresh_of_list program es
  pub starts : given.starts ≡ argument_starts program (cells_of_variables program) es
  pub lengths : given.lengths ≡ lengths program es

-- the templates seen before with a parameter's, and its argument's length, if it is the first of its template
abbrev pub seen_with : List ℤ → ℤ → List ℤ
seen_with seen size = if opens_template seen size then seen ++ size ∷ [] else seen

abbrev pub opened : List ℤ → ℤ → ℕ → List ℕ
opened seen size length = if opens_template seen size then length ∷ [] else []

-- the lengths of templates in their order, where these are seen before
abbrev pub listed_lengths : List ℤ → List ℤ → List ℕ → List ℕ
listed_lengths seen (p ∷ ps) (n ∷ ns) = opened seen p n ++ listed_lengths (seen_with seen p) ps ns
listed_lengths seen _ _ = []
