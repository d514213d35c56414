-- What a listener was opened at, the links that it has left, gave and got back.
use Rattle.std.specs.Prelude.{◌≡◌, ℕ, Bool, true, false, List, [], ◌∷◌, ◌++◌, drop, length, nat_lt, if◌then◌else◌, Option}
use Rattle.aseba_edge.specs.declared.listener.Accepted.{Accepted}
use Rattle.aseba_edge.specs.declared.listener.Accepted.TheVariants.{Link, NoMore, Failed, Mem}
use Rattle.aseba_edge.specs.Link.{Input}

-- a link as it stands: by what it is known, what its input has given and has left, and what its output has taken, each where it is told
pub record Linked : Type 0 where
  pub mark : Option ℕ
  pub input : Option (Input (List ℕ))
  pub taken : Option (List ℕ)

-- a listener as it stands: the ports that it was opened at, the links that it has left, the marks of those that it gave and the links that it got back, each in order, and whether it has answered that there is no more
pub record Listened : Type 0 where
  pub opened : List ℕ
  pub left : List Linked
  pub gave : List (Option ℕ)
  pub back : List Linked
  pub has_ended : Bool

-- a listener was opened at a port
abbrev pub after_open : ℕ → Listened → Listened
after_open port listened = record listened { opened = listened.opened ++ port ∷ [] }

-- what a listener gives is the first of the links that it has left, and it says that there is no more only where none is
abbrev pub IsNext : {In Out : Type 0} → (In → Out → Linked) → Accepted In Out → Listened → Type 0
IsNext linked (Link input output) listened = listened.left ≡ linked input output ∷ drop 1 listened.left
IsNext linked NoMore listened = listened.left ≡ []
IsNext linked Failed listened = Unit {0}
IsNext linked Mem listened = Unit {0}

-- a listener behind an answer
abbrev pub after_accept : {In Out : Type 0} → (In → Option ℕ) → Accepted In Out → Listened → Listened
after_accept mark (Link input output) listened =
    record listened { left = drop 1 listened.left; gave = listened.gave ++ mark input ∷ [] }
after_accept mark NoMore listened = record listened { has_ended = true }
after_accept mark Failed listened = listened
after_accept mark Mem listened = listened

-- a link came back; the listener keeps no more links than it gave
abbrev pub after_back : Linked → Listened → Listened
after_back link listened =
    if nat_lt (length listened.back) (length listened.gave) then record listened { back = listened.back ++ link ∷ [] } else listened

-- a fact of the link that was given, if one was
abbrev pub IfLink : {In Out : Type 0} → Accepted In Out → (In → Out → Type 0) → Type 0
IfLink (Link input output) P = P input output
IfLink NoMore P = Unit {0}
IfLink Failed P = Unit {0}
IfLink Mem P = Unit {0}

-- the answer that counts as a fault
abbrev pub is_failed : {In Out : Type 0} → Accepted In Out → Bool
is_failed (Link input output) = false
is_failed NoMore = false
is_failed Failed = true
is_failed Mem = false
