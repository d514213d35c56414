use Rattle.std.proofs.Common.{◌≡◌, ◌*◌, length, sym, ◌∙◌, arith}
use Rattle.std.proofs.lemmas.List.{take_at}
use Rattle.aseba_payload.specs.Reading.{words_of}
use Rattle.aseba_payload.proofs.Words.{words-read}
use Rattle.aseba_payload.proofs.reading.words.Goals as goal

pub returns : goal.returns
returns c =
    let room : length c.read_u16_into.new.dst ≡ c.in_ok-words.words.len = omega (arith, c.in_ok-words.words.ok, c.read_u16_into.auto.dst) in
    let all : c.from_vec.result ≡ c.read_u16_into.new.dst = c.from_vec.ensures ∙ take_at _ _ _ room in
    let half : length c.args.bytes.now ≡ 2 * length c.read_u16_into.new.dst = omega (arith, c.in_ok-words.ensures.len) in
    let is : words_of c.args.bytes.now ≡ c.from_vec.result = words-read _ _ half c.read_u16_into.ensures ∙ sym all in
    let even = c.if-bytes-ne0.false in
    rw (even, is)
