use Rattle.std.proofs.Common.{Some, ap, ◌∙◌}
use Rattle.std.proofs.lemmas.Result.{err_from_is_err_and}
use Rattle.aseba_describe.proofs.Params.{room_ends, room_fails, room_goes, room_done}
use Rattle.aseba_describe.proofs.fields.params.Goals as goal

pub returns-in_err-param : goal.returns-in_err-param
returns-in_err-param c =
    let p = err_from_is_err_and c.from_residual.result c.from_residual.ensures.1 in
    rw (p.1, p.2) (room_fails c.in_err-param.field-0.0 c.loop-room.room c.loop-room.params c.loop-room.rest.now _ c.loop-room-test.true c.in_err-param.ensures c.loop-room.invariant)

pub returns-in-None : goal.returns-in-None
returns-in-None c =
    room_ends c.loop-room.room c.loop-room.params c.loop-room.rest.now c.in_ok-param.behind.now _ c.loop-room-test.true
    (c.in_ok-param.ensures ∙ ap (λ o. Some (o, c.in_ok-param.behind.now)) c.in-None.is) c.loop-room.invariant

pub loop-room-preserved : goal.loop-room-preserved
loop-room-preserved c =
    rw c.in_ok-add-in-Some.ensures.ok (room_goes c.loop-room.room c.loop-room.params c.in-Some.param c.loop-room.rest.now c.in_ok-param.behind.now _ c.loop-room-test.true
    (c.in_ok-param.ensures ∙ ap (λ o. Some (o, c.in_ok-param.behind.now)) c.in-Some.is) c.loop-room.invariant)

pub returns : goal.returns
returns c = room_done c.loop-room.room c.loop-room.params c.loop-room.rest.now _ c.loop-room-test.false c.loop-room.invariant
