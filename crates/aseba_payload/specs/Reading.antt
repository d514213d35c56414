-- Payloads as they are read, field by field from the front, with what is wrong where that fails.
use Rattle.std.specs.Prelude.{◌≡◌, ℕ, zero, suc, ◌==◌, ◌%◌, ◌-◌, List, [], ◌∷◌, length, take, drop, Result, Ok, Err, nat_lt, if◌then◌else◌}
use Rattle.std.specs.Int.{w16, cast_signed}
use Rattle.byteorder.specs.Endian.{little_number}
use Rattle.aseba_tree.specs.declared.description.Param.{Param}
use Rattle.aseba_payload.specs.declared.payload.Payload.{Payload}
use Rattle.aseba_payload.specs.declared.payload.Payload.TheVariants.{User}
use Rattle.aseba_payload.specs.declared.fault.Fault.{Fault}
use Rattle.aseba_payload.specs.declared.fault.Fault.TheVariants.{Short, Long, NotWords, UnknownType, Mem}
use Rattle.aseba_payload.specs.declared.error.PayloadError.{PayloadError}
use Rattle.aseba_payload.specs.declared.error.PayloadError.TheVariants as errors
use Rattle.aseba_payload.specs.Layout.{Layout, ends, words, word, text, params}
use Rattle.aseba_payload.specs.Rows.{Maker, Row, rows}

infixl 10 ◌>>=◌
abbrev pub ◌>>=◌ : {A B : Type 0} → Result A Fault → (A → Result B Fault) → Result B Fault
(Ok x) >>= f = f x
(Err e) >>= f = Err e

-- A call failed as the reading does; want of memory tells nothing of it.
abbrev pub Fails : {Y : Type 0} → Fault → Result Y Fault → Type 0
Fails Mem read = Unit {0}
Fails fault read = read ≡ Err fault

-- What a call answered, seen by view, is what is read.
abbrev pub Gives : {X Y : Type 0} → (X → Y) → Result X Fault → Result Y Fault → Type 0
Gives view (Ok x) read = read ≡ Ok (view x)
Gives view (Err e) read = Fails e read

-- a field is its value and the bytes behind it
abbrev pub word_at : List ℕ → Result (ℕ × List ℕ) Fault
word_at bytes = if nat_lt (length bytes) 2 then Err Short else Ok (little_number 2 bytes, drop 2 bytes)

abbrev pub text_at : List ℕ → Result (List ℕ × List ℕ) Fault
text_at [] = Err Short
text_at (n ∷ bytes) = if nat_lt (length bytes) n then Err Short else Ok (take n bytes, drop n bytes)

unfoldable pub param_at : List ℕ → Result (Param × List ℕ) Fault
param_at bytes = do
  size ← word_at bytes
  name ← text_at size.1
  Ok (record { size = cast_signed w16 size.0; name = name.0 }, name.1)

unfoldable pub list_of_params_at : ℕ → List ℕ → Result (List Param × List ℕ) Fault
list_of_params_at zero bytes = Ok ([], bytes)
list_of_params_at (suc n) bytes = do
  first ← param_at bytes
  others ← list_of_params_at n first.1
  Ok (first.0 ∷ others.0, others.1)

unfoldable pub params_at : List ℕ → Result (List Param × List ℕ) Fault
params_at bytes = do
  count ← word_at bytes
  list_of_params_at count.0 count.1

-- the words of an even number of bytes
abbrev pub words_of : List ℕ → List ℕ
words_of (a ∷ b ∷ bytes) = little_number 2 (a ∷ b ∷ []) ∷ words_of bytes
words_of bytes = []

abbrev pub words_at : List ℕ → Result (List ℕ × List ℕ) Fault
words_at bytes = if (length bytes % 2) == 0 then Ok (words_of bytes, []) else Err (NotWords (length bytes))

-- the payload that the fields make, and the bytes behind them
abbrev pub fields_at : (l : Layout) → Maker l → List ℕ → Result (Payload × List ℕ) Fault
fields_at ends made bytes = Ok (made, bytes)
fields_at words make bytes = words_at bytes >>= λ x. Ok (make x.0, x.1)
fields_at (word l) make bytes = word_at bytes >>= λ x. fields_at l (make x.0) x.1
fields_at (text l) make bytes = text_at bytes >>= λ x. fields_at l (make x.0) x.1
fields_at (params l) make bytes = params_at bytes >>= λ x. fields_at l (make x.0) x.1

abbrev pub row_among : List Row → ℕ → List ℕ → Result (Payload × List ℕ) Fault
row_among [] kind bytes = Err UnknownType
row_among (r ∷ others) kind bytes = if kind == r.kind then fields_at r.fields r.variant bytes else row_among others kind bytes

abbrev pub row_at : ℕ → List ℕ → Result (Payload × List ℕ) Fault
row_at kind bytes = if nat_lt kind 0x8000 then fields_at words (User kind) bytes else row_among rows kind bytes

-- nothing may stand behind the fields
abbrev pub payload_at : ℕ → List ℕ → Result Payload Fault
payload_at kind bytes = row_at kind bytes >>= λ x. if length x.1 == 0 then Ok x.0 else Err (Long (length bytes - length x.1))

-- the error of a payload of that type and length
abbrev pub error_of : ℕ → ℕ → Fault → PayloadError
error_of kind len Short = errors.Short len
error_of kind len (Long at) = errors.Long at
error_of kind len (NotWords odd) = errors.NotWords odd
error_of kind len UnknownType = errors.UnknownType kind
error_of kind len Mem = errors.Mem
