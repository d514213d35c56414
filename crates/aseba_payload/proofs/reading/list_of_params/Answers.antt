use Rattle.std.proofs.lemmas.Result.{err_from_is_err_and}
use Rattle.aseba_payload.specs.Reading.{list_of_params_at}
use Rattle.aseba_payload.proofs.Loop.{goes_on, fails, is_done}
use Rattle.aseba_payload.proofs.reading.list_of_params.Goals as goal

pub returns-in_err-param : goal.returns-in_err-param
returns-in_err-param c =
    let p = err_from_is_err_and c.from_residual.result c.from_residual.ensures.1 in
    rw (p.1, p.2) (fails c.in_err-param.field-0.0 c.loop.params.items c.args.count c.loop.counter c.loop.rest.now (list_of_params_at c.args.count c.args.bytes.now) c.loop-test.true c.in_err-param.ensures c.loop.invariant)

pub loop-preserved : goal.loop-preserved
loop-preserved c =
    rw c.in_ok-push.ensures.items (goes_on c.loop.params.items c.args.count c.loop.counter c.loop.rest.now c.in_ok-param.param c.in_ok-param.after.now (list_of_params_at c.args.count c.args.bytes.now) c.loop-test.true c.in_ok-param.ensures c.loop.invariant)

pub returns : goal.returns
returns c = is_done c.loop.params.items c.args.count c.loop.counter c.loop.rest.now (list_of_params_at c.args.count c.args.bytes.now) c.loop-test.false c.loop.invariant
