-- A stream of frames: three words of two bytes, the lower byte first, which are the payload's length, the source and the kind, and then the payload.
use Rattle.std.specs.Prelude.{ℕ, ◌+◌, Bool, ◌&&◌, not, nat_eq, nat_lt, nat_le, List, ◌++◌, length, take, drop}
use Rattle.byteorder.specs.Endian.{little_bytes, little_number}
use Rattle.aseba_message.specs.Message.{Message}

-- the bytes of a frame
abbrev pub spelling : Message → List ℕ
spelling m = little_bytes 2 (length m.payload) ++ little_bytes 2 m.source ++ little_bytes 2 m.kind ++ m.payload

-- the length word that begins the bytes, where both of its bytes have come
abbrev pub length_word : List ℕ → ℕ
length_word bytes = little_number 2 bytes

abbrev pub has_length : List ℕ → Bool
has_length bytes = nat_le 2 (length bytes)

-- a length word above 1024 begins no frame
abbrev pub is_bad : List ℕ → Bool
is_bad bytes = has_length bytes && nat_lt 1024 (length_word bytes)

-- how many bytes the frame has that begins with these
abbrev pub frame_len : List ℕ → ℕ
frame_len bytes = 6 + length_word bytes

-- a frame stands at the front
abbrev pub has_frame : List ℕ → Bool
has_frame bytes = has_length bytes && not (nat_lt 1024 (length_word bytes)) && nat_le (frame_len bytes) (length bytes)

-- the bytes are one frame
abbrev pub is_frame : List ℕ → Bool
is_frame bytes = has_length bytes && nat_eq (length bytes) (frame_len bytes)

-- what the frame at the front says
abbrev pub message_of : List ℕ → Message
message_of bytes =
    record {
      source = little_number 2 (drop 2 bytes);
      kind = little_number 2 (drop 4 bytes);
      payload = take (length_word bytes) (drop 6 bytes);
    }
