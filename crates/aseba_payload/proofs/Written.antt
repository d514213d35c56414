-- Fields that were written one behind the other are the spelling of the payload.
use Rattle.std.proofs.Common.{◌≡◌, ℕ, List, [], ◌++◌, refl, sym, ◌∙◌, append_assoc}
use Rattle.std.proofs.lemmas.List.{append-nil}
use Rattle.aseba_payload.specs.declared.payload.Payload.{Payload}
use Rattle.aseba_payload.specs.declared.payload.Payload.TheVariants.{User}
use Rattle.aseba_payload.specs.Layout.{Layout, ends, words, word, text, params, Values, word_bytes, text_bytes, params_bytes, spelling}
use Rattle.aseba_payload.specs.Rows.{bytes_of}
use Rattle.aseba_payload.specs.Writing.{written, with_payload}
use Rattle.aseba_payload.proofs.RowLaws.{said}

step : (out field rest whole : List ℕ) → whole ≡ (out ++ field) ++ rest → whole ≡ out ++ (field ++ rest)
step out field rest whole e = e ∙ append_assoc out field rest

written-is : (l : Layout) (out : List ℕ) (vs : Values l) → written l out vs ≡ out ++ spelling l vs
written-is ends out vs = sym (append-nil out)
written-is words out ws = refl
written-is (word l) out vs = step out (word_bytes vs.0) (spelling l vs.1) _ (written-is l (out ++ word_bytes vs.0) vs.1)
written-is (text l) out vs = step out (text_bytes vs.0) (spelling l vs.1) _ (written-is l (out ++ text_bytes vs.0) vs.1)
written-is (params l) out vs = step out (params_bytes vs.0) (spelling l vs.1) _ (written-is l (out ++ params_bytes vs.0) vs.1)

pub payload-written : (p : Payload) → with_payload [] p ≡ bytes_of p
payload-written (User kind ws) = written-is words [] ws
payload-written p = written-is (said p).row.fields [] (said p).values
