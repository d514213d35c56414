-- What the views of passes are, and how the steps change them.
use Rattle.std.specs.Prelude.{◌≡◌, ℕ, ◌+◌, ◌-◌, Bool, true, false, if◌then◌else◌, List, [], ◌∷◌, ◌++◌}
use Rattle.aseba_queues.specs.declared.view.View.{View}

module _ {T : Type 0} where
  abbrev pub known : ℕ → Bool → List (List T) → List T → View T
  known parts owns many one = record { parts = parts; owns = owns; many = many; one = one }

  -- the pass that came with its queue, before its first step
  abbrev pub first : View T
  first = known 1024 true [] []

  -- a pass with one part, which was split off, and has put these items
  abbrev pub working : List T → View T
  working items = known 1 false (items ∷ []) []

  -- a pass that another one took in
  abbrev pub spent : View T
  spent = known 0 false [] []

  -- x at the end of the pass's own list, which is the first one
  abbrev pub put : T → List (List T) → List (List T)
  put x [] = (x ∷ []) ∷ []
  put x (own ∷ others) = (own ++ x ∷ []) ∷ others

  -- a step on the side of the many notes x
  abbrev pub noted : T → View T → View T
  noted x v = known v.parts v.owns (put x v.many) v.one

  -- a step on the side of the one notes x
  abbrev pub owned : T → View T → View T
  owned x v = known v.parts v.owns v.many (v.one ++ x ∷ [])

  -- a pass that gave a part away
  abbrev pub lessened : View T → View T
  lessened v = known (v.parts - 1) v.owns v.many v.one

  -- v's lists with those of w beside them, each apart
  abbrev pub beside : View T → View T → View T
  beside v w = known (v.parts + w.parts) v.owns (v.many ++ w.many) (v.one ++ w.one)

  -- what the pass with the view v knows once it took in the one with the view w: whose lists are the owner's stands first
  abbrev pub both : View T → View T → View T
  both v w = if w.owns then beside w v else beside v w

  -- it has all parts, and is the owner's
  abbrev pub IsWhole : View T → Type 0
  IsWhole v = (v.parts ≡ 1024) × (v.owns ≡ true)
