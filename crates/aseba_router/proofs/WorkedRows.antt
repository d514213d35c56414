-- Small lists of items, worked out by hand: the definitions compute the same.
use Rattle.std.specs.Prelude.{◌≡◌, refl, ℕ, true, false, List, [], ◌∷◌, Some, None}
use Rattle.aseba_message.specs.Message.{Message}
use Rattle.aseba_router.specs.declared.session.Session.{Session}
use Rattle.aseba_router.specs.Hub.{Act, joins, says, leaves, frame, end, said, since, owed}
use Rattle.aseba_router.specs.Told.{Deed, items, refused, told}

abbrev first_of : ℕ → Session
first_of port = record { port = port; nth = 0 }

abbrev second_of : ℕ → Session
second_of port = record { port = port; nth = 1 }

abbrev note : ℕ → Message
note kind = record { source = 1; kind = kind; payload = [] }

abbrev fine : Act → Deed
fine item = record { item = item; back = false }

abbrev came_back : Act → Deed
came_back item = record { item = item; back = true }

-- three sessions, of which the first says three frames
abbrev three_join : List Deed
three_join = fine (joins (first_of 0)) ∷ fine (joins (first_of 1)) ∷ fine (joins (first_of 2)) ∷ []

abbrev says_three : (last : Deed) → List Deed
says_three last = fine (joins (first_of 0)) ∷ fine (joins (first_of 1)) ∷ fine (joins (first_of 2))
    ∷ fine (says (first_of 0) (note 0)) ∷ fine (says (first_of 0) (note 1)) ∷ last ∷ []

-- the third frame came back from port 2, whose queue held two
drop-refused : refused (first_of 2) (says_three (came_back (says (first_of 0) (note 2)))) ≡ Some 5
drop-refused = refl

drop-told-slow : told false 2 (says_three (came_back (says (first_of 0) (note 2)))) ≡ frame (note 0) ∷ frame (note 1) ∷ []
drop-told-slow = refl

drop-told-quick : told false 1 (says_three (fine (says (first_of 0) (note 2)))) ≡ frame (note 0) ∷ frame (note 1) ∷ frame (note 2) ∷ []
drop-told-quick = refl

drop-told-sayer : told false 0 (says_three (fine (says (first_of 0) (note 2)))) ≡ []
drop-told-sayer = refl

-- with echo the first session gets what it says itself
echo-told : told true 0 (says_three (fine (says (first_of 0) (note 2)))) ≡ frame (note 0) ∷ frame (note 1) ∷ frame (note 2) ∷ []
echo-told = refl

echo-none-refused : refused (first_of 0) (says_three (fine (says (first_of 0) (note 2)))) ≡ None
echo-none-refused = refl

-- a session leaves whose queue is full: its End waits, and it is owed no less
abbrev leaves_full : List Deed
leaves_full = fine (joins (first_of 0)) ∷ fine (joins (first_of 1)) ∷ fine (says (first_of 0) (note 0)) ∷ came_back (leaves (first_of 1)) ∷ []

leave-refused : refused (first_of 1) leaves_full ≡ Some 3
leave-refused = refl

leave-owed : owed false (first_of 1) (refused (first_of 1) leaves_full) (items leaves_full) ≡ note 0 ∷ []
leave-owed = refl

leave-told : told false 1 leaves_full ≡ frame (note 0) ∷ end (first_of 1) ∷ []
leave-told = refl

-- the next session of a port gets nothing of what was said before it joined
abbrev next_joins : List Act
next_joins = joins (first_of 0) ∷ joins (first_of 1) ∷ says (first_of 0) (note 0) ∷ leaves (first_of 1) ∷ says (first_of 0) (note 1) ∷ joins (second_of 1) ∷ says (first_of 0) (note 2) ∷ []

next-since : since false (second_of 1) next_joins ≡ note 2 ∷ []
next-since = refl

next-said : said (first_of 0) next_joins ≡ note 0 ∷ note 1 ∷ note 2 ∷ []
next-said = refl
