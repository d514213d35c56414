-- Fields as they are written, one behind the other.
use Rattle.std.specs.Prelude.{ℕ, List, ◌++◌}
use Rattle.std.specs.List.{flat_map}
use Rattle.aseba_payload.specs.declared.payload.Payload.{Payload}
use Rattle.aseba_payload.specs.Layout.{Layout, ends, words, word, text, params, Values, word_bytes, text_bytes, params_bytes}
use Rattle.aseba_payload.specs.Rows.{by_row}

abbrev pub written : (l : Layout) → List ℕ → Values l → List ℕ
written ends out vs = out
written words out ws = out ++ flat_map word_bytes ws
written (word l) out vs = written l (out ++ word_bytes vs.0) vs.1
written (text l) out vs = written l (out ++ text_bytes vs.0) vs.1
written (params l) out vs = written l (out ++ params_bytes vs.0) vs.1

-- the bytes so far, and behind them those of a payload's fields
abbrev pub with_payload : List ℕ → Payload → List ℕ
with_payload out = by_row (λ kind l variant vs. written l out vs)
