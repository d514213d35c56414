use Rattle.std.proofs.Common.{ℕ, List, ◌++◌, take, subst, sym, ap, ◌∙◌}
use Rattle.aseba_message.specs.Reader.{BegunBehind, begun_len, taken}
use Rattle.aseba_message.specs.declared.reader.Fed.{Fed}
use Rattle.aseba_message.specs.Cut.{is_too_long}
use Rattle.aseba_message.proofs.Begun.{taken-behind}
use Rattle.aseba_message.proofs.Pieces.{split-first, all-taken}
use Rattle.aseba_message.proofs.Standing.{Taking, taking, stands-bad}
use Rattle.aseba_message.proofs.reader.FrameReader.feed_piece.Goals as goal

pub returns-clause-taken : goal.returns-clause-taken
returns-clause-taken c =
    let piece = c.args.piece.now in
    c.take_piece.ensures.taken ∙ ap (taken c.args.self.now) (sym (split-first piece c.requires))

pub returns-clause-stream : goal.returns-clause-stream
returns-clause-stream c = λ bytes stands.
    let result = c.take_piece.result in
    subst (λ end. Taking bytes c.args.piece.now end) (sym (returns-clause-taken c))
    (taking bytes c.args.self.now c.args.piece.now c.take_piece.ensures.held stands)

pub returns-clause-bad : goal.returns-clause-bad
returns-clause-bad c = λ bytes stands.
    stands-bad (bytes ++ take c.take_piece.result.count c.args.piece.now) c.take_piece.new.self (returns-clause-stream c bytes stands).0
    ∙ ap is_too_long (sym c.take_piece.ensures.answer)

pub returns-clause-all : goal.returns-clause-all
returns-clause-all c = λ few. ap (λ end. end.0) (returns-clause-taken c) ∙ all-taken c.args.self.now c.args.piece.now few

pub returns-clause-held : goal.returns-clause-held
returns-clause-held c =
    subst (λ (end : ℕ × Fed × List ℕ). BegunBehind (begun_len c.args.self.now) end.0 end.1 (begun_len end.2)) (sym (returns-clause-taken c))
    (taken-behind c.args.self.now c.args.piece.now c.take_piece.ensures.held)
