-- The queue of a port, and what a push does to it.
use Rattle.std.specs.Prelude.{◌≡◌, ◌≢◌, ℕ, ◌<◌, ◌≤◌, Bool, List, [], ◌∷◌, ◌++◌, length, if◌then◌else◌, MatchBool}
use Rattle.aseba_edge.specs.Counts.{Counts}
use Rattle.aseba_router.specs.declared.session.Session.{Session}
use Rattle.aseba_router.specs.Hub.{Put}
use Rattle.aseba_router.specs.Port.{ends}

-- its list of entries, how often one came back, and how many it holds at most
pub record Queue : Type 0 where
  pub list : List Put
  pub refusals : ℕ
  pub capacity : ℕ

-- Something came back, or nothing did: the count rises only where something did, and only where the list is as long as the capacity.
pub record Counted (back : Bool) (old new : Queue) : Type 0 where
  pub refusals : Counts back old.refusals new.refusals
  pub full : MatchBool back (old.capacity ≤ length new.list) (Unit {0})
  pub capacity : new.capacity ≡ old.capacity

-- a push: the entry stands at the end of the list, or it came back and the list stays
pub record Push (back : Bool) (put : Put) (old new : Queue) : Type 0 where
  pub list : new.list ≡ (if back then old.list else old.list ++ put ∷ [])
  pub counted : Counted back old new

-- the queues of the other ports stay
abbrev pub OthersStay : ℕ → (ℕ → Queue) → (ℕ → Queue) → Type 0
OthersStay p old new = (q : ℕ) → q ≢ p → new q ≡ old q

-- Ends that wait were pushed in order, up to the first that came back.
pub record Drained (back : Bool) (waiting : List Session) (old : Queue) (waiting' : List Session) (new : Queue) : Type 0 where
  pub given : new.list ++ ends waiting' ≡ old.list ++ ends waiting
  pub grew : length old.list ≤ length new.list
  pub left : MatchBool back (0 < length waiting') (waiting' ≡ [])
  pub counted : Counted back old new
