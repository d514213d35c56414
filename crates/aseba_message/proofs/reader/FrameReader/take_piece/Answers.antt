use Rattle.std.proofs.Common.{◌≡◌, ◌-◌, ◌++◌, min, true, false, length, take, drop, sym, ap, ◌∙◌, length-drop, rules}
use Rattle.std.proofs.Math.Seq.{take-length}
use Rattle.aseba_message.specs.Reader.{answer, is_more, wanted}
use Rattle.aseba_message.proofs.Pieces.{second-ends, third-ends}
use Rattle.aseba_message.proofs.reader.FrameReader.take_piece.Goals as goal

pub returns-then-not-is_more-2-clause-taken : goal.returns-then-not-is_more-2-clause-taken
returns-then-not-is_more-2-clause-taken c =
    let first = c.take_byte-fed.new.self in
    let next = c.fill-begun.new.self in
    let n = c.fill-begun.result.count in
    let f = c.fill-begun.ensures in
    let more : is_more (answer first) ≡ true = search rules in
    let stop : is_more (answer next) ≡ false = search rules in
    second-ends c.args.self.now c.args.first c.args.rest.now first n next c.take_byte-fed.ensures.bytes more f.count f.room f.bytes stop c.fill-begun.result.fed f.fed

pub returns-clause-taken : goal.returns-clause-taken
returns-clause-taken c =
    let rest = c.args.rest.now in
    let first = c.take_byte-fed.new.self in
    let next = c.fill-begun.new.self in
    let last = c.fill-ended.new.self in
    let n = c.fill-begun.result.count in
    let m = c.fill-ended.result.count in
    let f = c.fill-begun.ensures in
    let g = c.fill-ended.ensures in
    let more : is_more (answer first) ≡ true = search rules in
    let on : is_more (answer next) ≡ true = search rules in
    let behind : take (length rest - n) (drop n rest) ≡ drop n rest = ap (λ k. take k (drop n rest)) (sym (length-drop n rest)) ∙ take-length (drop n rest) in
    third-ends c.args.self.now c.args.first rest first n m next last c.take_byte-fed.ensures.bytes more f.count f.room f.bytes on
    (g.count ∙ ap (λ xs. min (wanted next - length next) (length xs)) behind) g.room (g.bytes ∙ ap (λ xs. next ++ take m xs) behind) c.fill-ended.result.fed g.fed
