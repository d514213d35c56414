-- What a reader of frames holds, and what it answers.
use Rattle.std.specs.Prelude.{◌≡◌, ℕ, ◌+◌, ◌-◌, ◌<◌, ◌≤◌, Bool, true, false, if◌then◌else◌, List, [], ◌∷◌, ◌++◌, length}
use Rattle.aseba_message.specs.Frames.{length_word, has_length, is_bad, is_frame, frame_len}
use Rattle.aseba_message.specs.declared.reader.Fed.{Fed}
use Rattle.aseba_message.specs.declared.reader.Fed.TheVariants.{More, Whole, TooLong}

-- the bytes that stand at the front of a stream, up to one whole frame or one bad length
pub record Held (bytes : List ℕ) : Type 0 where
  pub short : length bytes ≤ 1030
  pub known : 2 < length bytes → (length_word bytes ≤ 1024) × (length bytes ≤ frame_len bytes)

-- what the bytes held say of the last one
abbrev pub answer : List ℕ → Fed
answer bytes = if is_bad bytes then TooLong (length_word bytes) else (if is_frame bytes then Whole else More)

-- the bytes of a begun frame: a whole one has made way
abbrev pub begun : List ℕ → List ℕ
begun bytes = if is_frame bytes then [] else bytes

-- how many they are
abbrev pub begun_len : List ℕ → ℕ
begun_len held = if is_frame held then 0 else length held

-- How many bytes of a begun frame there are behind so many more, when there were so many before and the last of them did this.
abbrev pub BegunBehind : (before count : ℕ) → Fed → (now : ℕ) → Type 0
BegunBehind before count More now = (now ≡ before + count) × (now ≤ 1029)
BegunBehind before count Whole now = now ≡ 0
BegunBehind before count (TooLong len) now = now ≡ 2

-- the bytes held after one more; behind a bad length nothing is taken
abbrev pub fed : List ℕ → ℕ → List ℕ
fed bytes byte = if is_bad bytes then bytes else begun bytes ++ byte ∷ []

abbrev pub is_more : Fed → Bool
is_more More = true
is_more Whole = false
is_more (TooLong len) = false

-- so many bytes more were taken
abbrev pub also_taken : ℕ → ℕ × Fed × List ℕ → ℕ × Fed × List ℕ
also_taken n r = (n + r.0, r.1, r.2)

-- A piece is taken up to the first byte that says more than that the frame goes on: how many bytes that are, what the last one says, and what is held then.
abbrev pub taken : List ℕ → List ℕ → ℕ × Fed × List ℕ
taken held [] = (0, More, held)
taken held (byte ∷ piece) =
    if is_more (answer (fed held byte)) then also_taken 1 (taken (fed held byte) piece) else (1, answer (fed held byte), fed held byte)

-- how many bytes it takes until more can be said
abbrev pub wanted : List ℕ → ℕ
wanted held = if has_length held then frame_len held else 2

-- How many bytes of the stream may be looked at next, so that none of them stands behind the frame: those up to the one that may say more. Behind a bad length there are none.
abbrev pub awaited : List ℕ → ℕ
awaited held = if is_bad held then 0 else wanted (begun held) - begun_len held
