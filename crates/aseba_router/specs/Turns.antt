-- The switch on one thread, turn by turn.
use Rattle.std.specs.Prelude.{◌≡◌, ℕ, Bool, true, false, ◌&&◌, not, ◌==◌, nat_lt, if◌then◌else◌, List, [], ◌∷◌, ◌++◌, length, replicate, Option, None, Some, MatchBool}
use Rattle.aseba_message.specs.Message.{Message}
use Rattle.aseba_message.specs.Cut.{frames_of}
use Rattle.aseba_router.specs.declared.session.Session.{Session}
use Rattle.aseba_router.specs.declared.stage.Stage.{Stage}
use Rattle.aseba_router.specs.declared.stage.Stage.TheVariants.{Away, There, Gone}
use Rattle.aseba_router.specs.declared.turn.Turn.{Turn}
use Rattle.aseba_router.specs.declared.turn.Turn.TheVariants.{Open, Read, Route, Write}
use Rattle.aseba_router.specs.Ends.{IsOneFrame}
use Rattle.aseba_router.specs.Hub.{Act, joins, says, leaves, Put}
use Rattle.aseba_router.specs.Memory.{empty, queue_at}
use Rattle.aseba_router.specs.Port.{unused}
use Rattle.aseba_router.specs.Queue.{Queue, OthersStay}
use Rattle.aseba_router.specs.Routed.{Table, Routed, Retried}

abbrev pub is_away : Stage → Bool
is_away Away = true
is_away There = false
is_away Gone = false

abbrev pub is_there : Stage → Bool
is_there Away = false
is_there There = true
is_there Gone = false

-- the session of a link, whose place in the list is its port: it has one
abbrev pub session_of : ℕ → Session
session_of p = record { port = p; nth = 0 }

-- what became of a link: how far its session has come, the bytes that its input gave, and what was taken out of its port's queue
pub record Line : Type 0 where
  pub stage : Stage
  pub read : List ℕ
  pub popped : List Put

-- the in-queue, what was routed, the router's table and the ports' queues
pub record Middle : Type 0 where
  pub waiting : List Act
  pub routed : List Act
  pub table : Table
  pub queues : List Queue

-- the switch between two turns
pub record Switch : Type 0 where
  pub middle : Middle
  pub lines : ℕ → Line

-- one link is changed
abbrev pub with_line : ℕ → Line → (ℕ → Line) → ℕ → Line
with_line p line lines q = if q == p then line else lines q

-- what the in-queue holds at most
unfoldable pub intake_room : ℕ
intake_room = 1024

abbrev pub has_room : Middle → Bool
has_room m = nat_lt (length m.waiting) intake_room

-- one item more waits
abbrev pub admitted : Act → Middle → Middle
admitted x m = record m { waiting = m.waiting ++ x ∷ [] }

-- Open: the session joins, if its link has a port and it wasn't there before
abbrev pub may_open : ℕ → ℕ → Switch → Bool
may_open places p s = nat_lt p places && is_away (s.lines p).stage && has_room s.middle

abbrev pub opened : ℕ → Switch → Switch
opened p s = record {
  middle = admitted (joins (session_of p)) s.middle;
  lines = with_line p (record (s.lines p) { stage = There }) s.lines;
}

-- Read: a frame is said, or the session leaves
abbrev pub may_read : ℕ → Switch → Bool
may_read p s = is_there (s.lines p).stage && has_room s.middle

abbrev pub read_more : List ℕ → Line → Line
read_more bytes line = record line { read = line.read ++ bytes }

-- what a session says of what is heard: a frame, or that it leaves
abbrev pub heard_as : Session → Option Message → Act
heard_as s (Some m) = says s m
heard_as s None = leaves s

abbrev pub stage_after : Option Message → Stage → Stage
stage_after (Some m) stage = stage
stage_after None stage = Gone

-- whether these bytes are a frame and no more, or no frame
abbrev pub AreHeard : Option Message → List ℕ → Type 0
AreHeard (Some m) bytes = IsOneFrame bytes m
AreHeard None bytes = frames_of bytes ≡ []

pub record HasRead (p : ℕ) (old new : Switch) : Type 0 where
  pub bytes : List ℕ
  pub heard : Option Message
  pub are_heard : AreHeard heard bytes
  pub now : new ≡ record {
    middle = admitted (heard_as (session_of p) heard) old.middle;
    lines = with_line p (record (old.lines p) { stage = stage_after heard (old.lines p).stage; read = (old.lines p).read ++ bytes }) old.lines;
  }

-- Route: the event of the first item that waits
pub record Routes (x : Act) (later : List Act) (old new : Middle) : Type 0 where
  pub event : Routed x old.table (queue_at old.queues) new.table (queue_at new.queues)
  pub rest : new ≡ record { waiting = later; routed = old.routed ++ x ∷ []; table = new.table; queues = new.queues }

abbrev pub HasRouted : List Act → Middle → Middle → Type 0
HasRouted [] old new = new ≡ old
HasRouted (x ∷ later) old new = Routes x later old new

-- Write: the first entry of a port's queue is taken, and then the Ends that wait are tried again
pub record Pops (p : ℕ) (later : List Put) (old new : Middle) : Type 0 where
  pub between : List Queue
  pub taken : queue_at between p ≡ record (queue_at old.queues p) { list = later }
  pub others : OthersStay p (queue_at old.queues) (queue_at between)
  pub again : Retried old.table (queue_at between) new.table (queue_at new.queues)
  pub rest : new ≡ record old { table = new.table; queues = new.queues }

abbrev pub pop_more : Put → Line → Line
pop_more put line = record line { popped = line.popped ++ put ∷ [] }

abbrev pub may_write : ℕ → Switch → Bool
may_write p s = not (is_away (s.lines p).stage)

abbrev pub HasWritten : ℕ → List Put → Switch → Switch → Type 0
HasWritten p [] old new = new ≡ old
HasWritten p (put ∷ later) old new = Pops p later old.middle new.middle × (new.lines ≡ with_line p (pop_more put (old.lines p)) old.lines)

-- What a turn does, where so many links have a port. One that can't be done changes nothing.
abbrev pub Turned : ℕ → Turn → Switch → Switch → Type 0
Turned places (Open p) old new = new ≡ (if may_open places p old then opened p old else old)
Turned places (Read p) old new = MatchBool (may_read p old) (HasRead p old new) (new ≡ old)
Turned places Route old new = HasRouted old.middle.waiting old.middle new.middle × (new.lines ≡ old.lines)
Turned places (Write p) old new = MatchBool (may_write p old) (HasWritten p (queue_at old.middle.queues p).list old new) (new ≡ old)

-- the switch before its first turn
abbrev pub nothing_yet : ℕ → ℕ → Bool → Middle
nothing_yet ports queue echo = record {
  waiting = [];
  routed = [];
  table = record { ports = replicate ports unused; items = 0; echo = echo };
  queues = replicate ports (empty queue);
}

abbrev pub untouched : Line
untouched = record { stage = Away; read = []; popped = [] }

abbrev pub at_first : ℕ → ℕ → Bool → Switch
at_first ports queue echo = record { middle = nothing_yet ports queue echo; lines = λ p. untouched }

-- turns in order
pub data Ran (places : ℕ) (start : Switch) : List Turn → Switch → Type 0 where
  begun : {turns : List Turn} {now : Switch} → turns ≡ [] → now ≡ start → Ran places start turns now
  went_on : {turns : List Turn} {now : Switch} (before : List Turn) (turn : Turn) (old : Switch) → Ran places start before old → turns ≡ before ++ turn ∷ [] → Turned places turn old now → Ran places start turns now
