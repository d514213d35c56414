use Rattle.std.proofs.Common.{ℕ, List, [], ◌∷◌, ◌++◌, subst, sym, ap, ◌∙◌}
use Rattle.aseba_message.specs.Cut.{frames_of, ended, is_too_long}
use Rattle.aseba_message.specs.Reader.{BegunBehind, answer, begun_len, fed}
use Rattle.aseba_message.specs.declared.reader.Fed.{Fed}
use Rattle.aseba_message.proofs.Begun.{fed-behind}
use Rattle.aseba_message.proofs.Standing.{Step, step, stands-bad}
use Rattle.aseba_message.proofs.reader.FrameReader.feed.Goals as goal

pub returns-clause-stream : goal.returns-clause-stream
returns-clause-stream c = λ bytes stands.
    let taken = c.take_byte.ensures in
    let new = c.take_byte.new.self in
    let r : Step bytes new c.args.byte =
    subst (λ held. Step bytes held c.args.byte) (sym taken.bytes) (step bytes c.args.self.now c.args.byte taken.held stands) in
    (r.0, r.1 ∙ ap (λ fed. frames_of bytes ++ ended fed new) (sym taken.answer))

pub returns-clause-bad : goal.returns-clause-bad
returns-clause-bad c = λ bytes stands.
    stands-bad (bytes ++ c.args.byte ∷ []) c.take_byte.new.self (returns-clause-stream c bytes stands).0 ∙ ap is_too_long (sym c.take_byte.ensures.answer)

pub returns-clause-held : goal.returns-clause-held
returns-clause-held c =
    let taken = c.take_byte.ensures in
    let old = c.args.self.now in
    let said = taken.answer ∙ ap answer taken.bytes in
    subst (λ (f : Fed). BegunBehind (begun_len old) 1 f (begun_len c.take_byte.new.self)) (sym said)
    (subst (λ (held : List ℕ). BegunBehind (begun_len old) 1 (answer (fed old c.args.byte)) (begun_len held)) (sym taken.bytes) (fed-behind old c.args.byte taken.held))
