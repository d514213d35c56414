use Rattle.std.proofs.Common.{◌∷◌, drop, length, arith, ap, ◌∙◌, sym}
use Rattle.aseba_edge.specs.declared.turn.Turn.{Turn}
use Rattle.aseba_edge.proofs.PollTapes.{begun, piece-holds, wait-holds, piece-view, wait-view}
use Rattle.aseba_edge.proofs.poll_tape.PollTape.poll.Goals as goal

pub invariant_of-self-in-Wait : goal.invariant_of-self-in-Wait
invariant_of-self-in-Wait c =
    let is = rw c.as_slice.ensures.value at c.in-Some.ensures.some in
    let is_wait = ap (λ (t : Turn). t ∷ drop c.in-Some.next c.self.inside.turns.items) (sym c.in-Wait.is) ∙ is in
    wait-holds _ _ _ _ _ _ _ _ _ _ is_wait c.push_reserved.ensures.items c.push_reserved.ensures.len c.push_reserved.ensures.capacity c.self.invariant.0 c.self.invariant.1

pub invariant_of-self-in-Piece : goal.invariant_of-self-in-Piece
invariant_of-self-in-Piece c =
    let is = rw c.as_slice.ensures.value at c.in-Some.ensures.some in
    let is_piece = ap (λ (t : Turn). t ∷ drop c.in-Some.next c.self.inside.turns.items) (sym c.in-Piece.is) ∙ is in
    let tape = begun is_piece c.self.invariant.1 in
    piece-holds _ _ _ _ _ _ _ _ _ _ _ _ is_piece (omega (arith, c.min-count.ensures)) (omega (arith, c.min-count.ensures, tape.not_empty.0, c.requires))
    c.push_reserved-in-Piece.ensures.items c.push_reserved-in-Piece.ensures.len c.push_reserved-in-Piece.ensures.capacity c.self.invariant.0 c.self.invariant.1

pub returns-in-Wait-clause-tape : goal.returns-in-Wait-clause-tape
returns-in-Wait-clause-tape c =
    let is = rw c.as_slice.ensures.value at c.in-Some.ensures.some in
    let is_wait = ap (λ (t : Turn). t ∷ drop c.in-Some.next c.self.inside.turns.items) (sym c.in-Wait.is) ∙ is in
    wait-view _ _ _ _ _ _ (length c.args.buf.now) _ _ c.push_reserved.ensures.items is_wait c.self.view_is

pub returns-in-Piece-clause-tape : goal.returns-in-Piece-clause-tape
returns-in-Piece-clause-tape c =
    let is = rw c.as_slice.ensures.value at c.in-Some.ensures.some in
    let is_piece = ap (λ (t : Turn). t ∷ drop c.in-Some.next c.self.inside.turns.items) (sym c.in-Piece.is) ∙ is in
    piece-view _ _ _ _ _ _ _ _ _ _ _ c.push_reserved-in-Piece.ensures.items c.min-count.ensures is_piece c.self.view_is c.self.invariant.1 c.requires
