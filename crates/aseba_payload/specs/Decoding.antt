-- What the bytes of a frame of some type say, and what is wrong with those that say nothing.
use Rattle.std.specs.Prelude.{◌≡◌, ◌≢◌, ℕ, ◌+◌, ◌%◌, ◌<◌, ◌⊎◌, true, false, List, length, Result, IfOk, IfErr, MatchResult}
use Rattle.aseba_payload.specs.declared.payload.Payload.{Payload}
use Rattle.aseba_payload.specs.declared.error.PayloadError.{PayloadError}
use Rattle.aseba_payload.specs.declared.error.PayloadError.TheVariants.{Short, Long, NotWords, UnknownType, Mem}
use Rattle.aseba_payload.specs.Layout.{Layout, fields_len, has_words}
use Rattle.aseba_payload.specs.Rows.{HasKind, HasShortTexts, HasFewParams, IsPayload, kind_of, fields_of, bytes_of}

-- a frame of this type with these bytes says the payload
pub record Says (kind : ℕ) (bytes : List ℕ) (p : Payload) : Type 0 where
  pub named : HasKind p
  pub kind_is : kind ≡ kind_of p
  pub texts : HasShortTexts p
  pub few : HasFewParams p
  pub spelled : bytes ≡ bytes_of p

-- the payloads of this type have these fields
pub record HaveFields (kind : ℕ) (l : Layout) : Type 0 where
  pub one : Payload
  pub named : HasKind one
  pub kind_is : kind_of one ≡ kind
  pub fields : fields_of one ≡ l

-- the bytes end before the fields do
pub record EndsShort (l : Layout) (bytes : List ℕ) (at : ℕ) : Type 0 where
  pub missing : length bytes < fields_len l bytes
  pub place : at ≡ length bytes

-- the fields are all, and bytes stand behind them
pub record GoesOn (l : Layout) (bytes : List ℕ) (at : ℕ) : Type 0 where
  pub whole : has_words l ≡ false
  pub place : at ≡ fields_len l bytes
  pub more : at < length bytes

-- behind the fields stand words, of which one lacks a byte
pub record HasHalfWord (l : Layout) (bytes : List ℕ) (len : ℕ) : Type 0 where
  pub listed : has_words l ≡ true
  pub rest : fields_len l bytes + len ≡ length bytes
  pub odd : len % 2 ≡ 1

-- the error is what is wrong; want of memory tells nothing
abbrev pub Tells : ℕ → List ℕ → PayloadError → Type 0
Tells kind bytes (Short at) = (l : Layout) × HaveFields kind l × EndsShort l bytes at
Tells kind bytes (Long at) = (l : Layout) × HaveFields kind l × GoesOn l bytes at
Tells kind bytes (NotWords len) = (l : Layout) × HaveFields kind l × HasHalfWord l bytes len
Tells kind bytes (UnknownType other) = (other ≡ kind) × ((p : Payload) → HasKind p → kind_of p ≢ kind)
Tells kind bytes Mem = Unit {0}

-- What decoding answers: the payload that the bytes say, or what is wrong with them. No other payload is said, and nothing else is wrong. Only want of memory may come in their place.
pub record Decodes (kind : ℕ) (bytes : List ℕ) (r : Result Payload PayloadError) : Type 0 where
  pub payload : IfOk r (Says kind bytes)
  pub value : IfOk r IsPayload
  pub fault : IfErr r (Tells kind bytes)
  pub each_payload : (p : Payload) → IsPayload p → Says kind bytes p → MatchResult r (λ q. q ≡ p) (λ e. e ≡ Mem)
  pub each_fault : (wrong : PayloadError) → wrong ≢ Mem → Tells kind bytes wrong → MatchResult r (λ q. ⊥) (λ e. (e ≡ wrong) ⊎ (e ≡ Mem))
