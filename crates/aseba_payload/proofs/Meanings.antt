-- The payload of a message is what it says.
use Rattle.std.proofs.Common.{◌≡◌, ◌≢◌, ℕ, List, Option, Some, None, Result, Ok, length, sym, ap, ◌∙◌}
use Rattle.std.specs.Result.{result_ok}
use Rattle.aseba_message.specs.Message.{Message}
use Rattle.aseba_payload.specs.declared.payload.Payload.{Payload}
use Rattle.aseba_payload.specs.declared.fault.Fault.{Fault}
use Rattle.aseba_payload.specs.declared.fault.Fault.TheVariants.{Short, Long, NotWords, UnknownType, Mem}
use Rattle.aseba_payload.specs.declared.error.PayloadError.{PayloadError}
use Rattle.aseba_payload.specs.declared.error.PayloadError.TheVariants as errors
use Rattle.aseba_payload.specs.Rows.{IsPayload}
use Rattle.aseba_payload.specs.Decoding.{Says, Tells}
use Rattle.aseba_payload.specs.Reading.{Fails, payload_at, error_of}
use Rattle.aseba_payload.specs.Meaning.{payload_of}
use Rattle.aseba_payload.proofs.Fields.{AreBytes}
use Rattle.aseba_payload.proofs.Verdicts.{says-read, tells-found, verdict, told, wrong, fault-some}

abbrev kept : Result Payload Fault → Option Payload
kept r = result_ok r

some-is : (p q : Payload) → kept (Ok p) ≡ Some q → p ≡ q
some-is p q e = cc

pub said-is : (m : Message) (p : Payload) → IsPayload p → Says m.kind m.payload p → payload_of m ≡ Some p
said-is m p value says = ap kept (says-read m.kind m.payload p says value)

pub only-said : (m : Message) (p : Payload) → AreBytes m.payload → payload_of m ≡ Some p → IsPayload p × Says m.kind m.payload p
only-said m p all e =
    elim (verdict m.kind m.payload all) [
      | told q is t ↦ let same = some-is q p (sym (ap kept is) ∙ e) in rw (sym same) (t.value, t.says)
      | wrong f is some t ↦ let none = ap kept is in absurd cc
    ]

pub wrong-none : (m : Message) (e : PayloadError) → e ≢ errors.Mem → Tells m.kind m.payload e → payload_of m ≡ None
wrong-none m e some tells = ap kept (tells-found m.kind m.payload e some tells).read

pub none-wrong : (m : Message) → AreBytes m.payload → payload_of m ≡ None → (e : PayloadError) × (e ≢ errors.Mem) × Tells m.kind m.payload e
none-wrong m all e =
    elim (verdict m.kind m.payload all) [
      | told q is t ↦ let some = ap kept is in absurd cc
      | wrong f is some t ↦ (error_of m.kind (length m.payload) f, fault-some m.kind m.payload f is some, t)
    ]

-- a fault of the reading leaves none
pub fault-none : (kind : ℕ) (bytes : List ℕ) (f : Fault) (e : PayloadError) → e ≡ error_of kind (length bytes) f → Fails f (payload_at kind bytes) → e ≢ errors.Mem → kept (payload_at kind bytes) ≡ None
fault-none kind bytes Mem e is fails some = absurd (some is)
fault-none kind bytes Short e is fails some = ap kept fails
fault-none kind bytes (Long at) e is fails some = ap kept fails
fault-none kind bytes (NotWords len) e is fails some = ap kept fails
fault-none kind bytes UnknownType e is fails some = ap kept fails
