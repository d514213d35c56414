-- Frames that are sent when their times are reached.
use Rattle.std.specs.Prelude.{◌≡◌, ℕ, nat_le, if◌then◌else◌, List, [], ◌∷◌, ◌++◌, map}
use Rattle.aseba_message.specs.Message.{Message}
use Rattle.aseba_dump.specs.declared.timed.Timed.{Timed}
use Rattle.aseba_record.specs.declared.player.Next.{Next}
use Rattle.aseba_record.specs.declared.player.Next.TheVariants.{Send, Wait, End}

-- what comes next at a moment, of these frames
abbrev pub next_of : List Timed → (now : ℕ) → Next
next_of [] now = End
next_of (t ∷ ts) now = if nat_le t.time now then Send t.frame else Wait t.time

-- the frames that are left then
abbrev pub left_of : List Timed → (now : ℕ) → List Timed
left_of [] now = []
left_of (t ∷ ts) now = if nat_le t.time now then ts else t ∷ ts

-- the frame that an answer sends
abbrev pub sent_by : Next → List Message
sent_by (Send frame) = frame ∷ []
sent_by (Wait until) = []
sent_by End = []

-- The frames that are sent at some moments, one after the other, and what is left behind them. So in all each frame is sent once, in order.
abbrev pub sent_at : List Timed → List ℕ → List Message
sent_at timed [] = []
sent_at timed (now ∷ nows) = sent_by (next_of timed now) ++ sent_at (left_of timed now) nows

abbrev pub left_at : List Timed → List ℕ → List Timed
left_at timed [] = timed
left_at timed (now ∷ nows) = left_at (left_of timed now) nows

abbrev pub frames_of : List Timed → List Message
frames_of timed = map (λ t. t.frame) timed

abbrev pub SendsInOrder : Type 0
SendsInOrder = (timed : List Timed) (nows : List ℕ) → sent_at timed nows ++ frames_of (left_at timed nows) ≡ frames_of timed
