-- When one list is a merge of several: it has their items and no others, and keeps the order of each.
use Rattle.std.specs.Prelude.{◌≡◌, List, [], ◌∷◌, ◌++◌, All, IsPermutation, reverse}

module _ {T : Type 0} where
  -- The items stand here last first. There are none where all lists are empty. Else the first one here ends one of the lists,
  -- and those behind it are a merge of that list without it and of the other lists.
  abbrev pub MergesBackwards : List (List T) → List T → Type 0
  MergesBackwards lists [] = All (λ list. list ≡ []) lists
  MergesBackwards lists (x ∷ earlier) = (list : List T) × (others : List (List T)) × IsPermutation lists ((list ++ x ∷ []) ∷ others) × MergesBackwards (list ∷ others) earlier

  -- the items are a merge of the lists
  abbrev pub IsMerge : List (List T) → List T → Type 0
  IsMerge lists items = MergesBackwards lists (reverse items)
