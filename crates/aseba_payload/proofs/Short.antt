-- A payload that fits into a frame has few parameters, so that short texts are enough for it to be spelled.
use Rattle.std.proofs.Common.{◌≡◌, ℕ, ◌+◌, ◌≤◌, ◌<◌, List, [], ◌∷◌, ◌++◌, length, ap, ◌∙◌, length-append, arith}
use Rattle.std.specs.List.{flat_map}
use Rattle.std.proofs.lemmas.List.Concat.{flat_map-cons}
use Rattle.aseba_tree.specs.declared.description.Param.{Param}
use Rattle.aseba_payload.specs.declared.payload.Payload.{Payload}
use Rattle.aseba_payload.specs.declared.payload.Payload.TheVariants.{User}
use Rattle.aseba_payload.specs.Layout.{Layout, ends, words, word, text, params, Values, word_bytes, text_bytes, param_bytes, params_bytes, spelling, HaveShortTexts, HaveFewParams, CanSpell}
use Rattle.aseba_payload.specs.Rows.{bytes_of, HasShortTexts, HasFewParams, CanBeSpelled}
use Rattle.aseba_payload.proofs.RowLaws.{said}

list-long : (ps : List Param) → length ps ≤ length (flat_map param_bytes ps)
list-long [] = omega arith
list-long (p ∷ ps) =
    let split : length (flat_map param_bytes (p ∷ ps)) ≡ length (param_bytes p) + length (flat_map param_bytes ps) =
    ap length (flat_map-cons param_bytes p ps) ∙ length-append (param_bytes p) (flat_map param_bytes ps) in
    let one = length-append (word_bytes 0) (text_bytes p.name) in
    let more = list-long ps in
    omega (arith, split, one, more)

behind : (front rest : List ℕ) → length (front ++ rest) ≤ 1024 → length rest ≤ 1024
behind front rest room = omega (arith, room, length-append front rest)

ahead : (front rest : List ℕ) → length (front ++ rest) ≤ 1024 → length front ≤ 1024
ahead front rest room = omega (arith, room, length-append front rest)

few : (ps : List Param) → length (params_bytes ps) ≤ 1024 → length ps < 65536
few ps room = omega (arith, room, list-long ps, length-append (word_bytes (length ps)) (flat_map param_bytes ps))

room-few : (l : Layout) (vs : Values l) → length (spelling l vs) ≤ 1024 → HaveFewParams l vs
room-few ends vs room = tt
room-few words ws room = tt
room-few (word l) vs room = room-few l vs.1 (behind (word_bytes vs.0) (spelling l vs.1) room)
room-few (text l) vs room = room-few l vs.1 (behind (text_bytes vs.0) (spelling l vs.1) room)
room-few (params l) vs room = (few vs.0 (ahead (params_bytes vs.0) (spelling l vs.1) room), room-few l vs.1 (behind (params_bytes vs.0) (spelling l vs.1) room))

both-spell : (l : Layout) (vs : Values l) → HaveShortTexts l vs → HaveFewParams l vs → CanSpell l vs
both-spell ends vs short little = tt
both-spell words ws short little = tt
both-spell (word l) vs short little = both-spell l vs.1 short little
both-spell (text l) vs short little = (short.0, both-spell l vs.1 short.1 little)
both-spell (params l) vs short little = (record { few = little.0; short = short.0 }, both-spell l vs.1 short.1 little.1)

spell-short : (l : Layout) (vs : Values l) → CanSpell l vs → HaveShortTexts l vs
spell-short ends vs can = tt
spell-short words ws can = tt
spell-short (word l) vs can = spell-short l vs.1 can
spell-short (text l) vs can = (can.0, spell-short l vs.1 can.1)
spell-short (params l) vs can = (can.0.short, spell-short l vs.1 can.1)

spell-few : (l : Layout) (vs : Values l) → CanSpell l vs → HaveFewParams l vs
spell-few ends vs can = tt
spell-few words ws can = tt
spell-few (word l) vs can = spell-few l vs.1 can
spell-few (text l) vs can = spell-few l vs.1 can.1
spell-few (params l) vs can = (can.0.few, spell-few l vs.1 can.1)

-- the same of payloads
pub room-few_params : (p : Payload) → length (bytes_of p) ≤ 1024 → HasFewParams p
room-few_params (User kind ws) room = tt
room-few_params p room = room-few (said p).row.fields (said p).values room

pub can-from : (p : Payload) → HasShortTexts p → HasFewParams p → CanBeSpelled p
can-from (User kind ws) short little = tt
can-from p short little = both-spell (said p).row.fields (said p).values short little

pub can-short : (p : Payload) → CanBeSpelled p → HasShortTexts p
can-short (User kind ws) can = tt
can-short p can = spell-short (said p).row.fields (said p).values can

pub can-few : (p : Payload) → CanBeSpelled p → HasFewParams p
can-few (User kind ws) can = tt
can-few p can = spell-few (said p).row.fields (said p).values can
