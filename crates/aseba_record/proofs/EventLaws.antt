-- What it is for a frame to say an event of a user: its number is below 0x8000, and its bytes are words.
use Rattle.std.proofs.Common.{◌≡◌, ℕ, ◌*◌, ◌%◌, ◌<◌, ◌≤◌, true, false, Bool, List, [], ◌∷◌, length, Option, Some, None, Ok, refl, ap, arith}
use Rattle.std.specs.List.{AllByRecursion, flat_map}
use Rattle.std.proofs.lemmas.Bool.{lt-ltb, eq-eqb}
use Rattle.std.proofs.lemmas.List.{length-append}
use Rattle.aseba_message.specs.Message.{Message}
use Rattle.aseba_message.specs.Cut.{IsMessage}
use Rattle.aseba_payload.specs.declared.payload.Payload.{Payload}
use Rattle.aseba_payload.specs.declared.payload.Payload.TheVariants.{User, Describe, Variable, LocalEvent, NativeOf, Variables, BoundsAt, DivisionAt, KilledAt, ErrorAt, State, BreakSet, Present, GetDescription, SetBytecode, Reset, Run, Pause, Step, Stop, GetState, SetBreak, ClearBreak, ClearBreaks, GetVariables, SetVariables, GetNodeDescription, ListNodes}
use Rattle.aseba_payload.specs.Layout.{IsByte, word_bytes}
use Rattle.aseba_payload.specs.Reading.{row_at, words_of}
use Rattle.aseba_payload.specs.Meaning.{payload_of}
use Rattle.aseba_payload.proofs.Meanings.{only-said}
use Rattle.aseba_record.specs.Events.{is_user, is_event, IsEvent}

-- what a frame of an event holds
pub record IsSaid (m : Message) : Type 0 where
  pub kind : m.kind < 0x8000
  pub even : length m.payload % 2 ≡ 0
  pub few : length m.payload ≤ 1024
  pub bytes : AllByRecursion IsByte m.payload

user_is : (r : Option Payload) → is_user r ≡ true → (kind : ℕ) × (ws : List ℕ) × (r ≡ Some (User kind ws))
user_is None h = absurd cc
user_is (Some (User kind ws)) h = (kind, ws, refl)
user_is (Some (Describe a b c d e f g i)) h = absurd cc
user_is (Some (Variable a b)) h = absurd cc
user_is (Some (LocalEvent a b)) h = absurd cc
user_is (Some (NativeOf a b c)) h = absurd cc
user_is (Some (Variables a b)) h = absurd cc
user_is (Some (BoundsAt a b c)) h = absurd cc
user_is (Some (DivisionAt a)) h = absurd cc
user_is (Some (KilledAt a)) h = absurd cc
user_is (Some (ErrorAt a b)) h = absurd cc
user_is (Some (State a b)) h = absurd cc
user_is (Some (BreakSet a b)) h = absurd cc
user_is (Some (Present a)) h = absurd cc
user_is (Some (GetDescription a)) h = absurd cc
user_is (Some (SetBytecode a b c)) h = absurd cc
user_is (Some (Reset a)) h = absurd cc
user_is (Some (Run a)) h = absurd cc
user_is (Some (Pause a)) h = absurd cc
user_is (Some (Step a)) h = absurd cc
user_is (Some (Stop a)) h = absurd cc
user_is (Some (GetState a)) h = absurd cc
user_is (Some (SetBreak a b)) h = absurd cc
user_is (Some (ClearBreak a b)) h = absurd cc
user_is (Some (ClearBreaks a)) h = absurd cc
user_is (Some (GetVariables a b c)) h = absurd cc
user_is (Some (SetVariables a b c)) h = absurd cc
user_is (Some (GetNodeDescription a b)) h = absurd cc
user_is (Some (ListNodes a)) h = absurd cc

even_words : (ws : List ℕ) → length (flat_map word_bytes ws) ≡ 2 * length ws
even_words [] = refl
even_words (w ∷ ws) = let others = even_words ws in omega (arith, others, length-append (word_bytes w) (flat_map word_bytes ws))

-- a frame of a user's event
pub said_is : (m : Message) → IsMessage m → AllByRecursion IsByte m.payload → IsEvent m → IsSaid m
said_is m frame bytes h =
    let u = user_is (payload_of m) h in
    let s = only-said m (User u.0 u.1) bytes u.2 in
    let spelled : m.payload ≡ flat_map word_bytes u.1 = s.1.spelled in
    record {
      kind = omega (arith, s.1.named, s.1.kind_is);
      even = omega (arith, ap length spelled, even_words u.1);
      few = frame.0;
      bytes = bytes;
    }

-- a frame from 0x8000 on says none
pub no_event : (m : Message) → AllByRecursion IsByte m.payload → 0x8000 ≤ m.kind → is_event m ≡ false
no_event m bytes h = by (is_event m) refl
  where
    by : (t : Bool) → is_event m ≡ t → t ≡ false
    by true e =
        let u = user_is (payload_of m) e in
        let s = only-said m (User u.0 u.1) bytes u.2 in
        absurd (omega (arith, h, s.1.named, s.1.kind_is))
    by false e = refl

-- an even number of bytes below 0x8000 says an event
pub event_is : (m : Message) → m.kind < 0x8000 → length m.payload % 2 ≡ 0 → IsEvent m
event_is m h even = ap is_user read
  where
    row : row_at m.kind m.payload ≡ Ok (User m.kind (words_of m.payload), [])
    row = rw (lt-ltb m.kind 0x8000 h) (rw (eq-eqb (length m.payload % 2) 0 even) refl)

    read : payload_of m ≡ Some (User m.kind (words_of m.payload))
    read = rw row refl
