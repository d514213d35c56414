use Rattle.aseba_tools.proofs.Writing.{on_err}
use Rattle.aseba_tools.proofs.Streams.{dump_cut}
use Rattle.aseba_tools.proofs.frames.put_stream.Goals as goal

pub returns-in_err-put_end-clause-part : goal.returns-in_err-put_end-clause-part
returns-in_err-put_end-clause-part g c =
    on_err c.from_residual-in_err-put_end.result _ (dump_cut c.args.bytes.now c.in_ok-end.end c.in_ok-end.ensures.end c.new-page.ensures c.in_ok-end.ensures.whole c.in_err-put_end.ensures.part)
