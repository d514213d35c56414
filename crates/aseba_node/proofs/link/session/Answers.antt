use Rattle.std.proofs.Common.{◌≡◌, ◌∙◌, take, length, length-take-le, refl, arith}
use Rattle.std.proofs.lemmas.Result.{err_from_is_err_and}
use Rattle.aseba_node.specs.Session.{bytes_of}
use Rattle.aseba_node.proofs.Results.{if_err_is}
use Rattle.aseba_node.proofs.Turning.{came_in, session_begins, session_broken, session_goes_on}
use Rattle.aseba_node.proofs.link.session.Goals as goal

pub loop-init : goal.loop-init
loop-init g c = record {
  did = session_begins _ _ _ c.requires.none c.new-reader.ensures.bytes c.new-reader.ensures.stream;
  reads = refl;
  writes = refl;
  input_mark = refl;
  output_mark = refl;
}

pub returns-in_err-turn-clause-end : goal.returns-in_err-turn-clause-end
returns-in_err-turn-clause-end g c =
    let s = c.loop.invariant.did in
    let came = came_in c.in_ok-count.field-0 c.in-Some.count c.in-Some.is c.in_ok-count.ensures.came in
    let p = err_from_is_err_and c.from_residual-in_err-turn.result c.from_residual-in_err-turn.ensures.1 in
    if_err_is _ c.from_residual-in_err-turn.result p.0 _ p.1 p.2
    (session_broken s c.in-Some.count c.poll.new.buffer _ came.1 _ refl c.args.turns _ _ c.loop-test.true
    (c.in_err-turn.ensures.end (bytes_of s.answers) s.reader))

pub loop-preserved : goal.loop-preserved
loop-preserved g c =
    let s = c.loop.invariant.did in
    let came = came_in c.in_ok-count.field-0 c.in-Some.count c.in-Some.is c.in_ok-count.ensures.came in
    let size : length (take c.in-Some.count c.poll.new.buffer) ≡ c.in-Some.count = length-take-le c.in-Some.count c.poll.new.buffer (omega (arith, came.0)) in
    record {
      did = session_goes_on s c.in-Some.count c.poll.new.buffer _ came.1 _ refl _ _ _ (c.in_ok-turn.ensures.done (bytes_of s.answers) s.reader) (omega (arith, size, came.0)) _ (omega (arith, size));
      reads = c.in_ok-count.ensures.count.cause ∙ c.loop.invariant.reads;
      writes = c.in_ok-turn.ensures.count.cause ∙ c.loop.invariant.writes;
      input_mark = c.in_ok-count.ensures.mark ∙ c.loop.invariant.input_mark;
      output_mark = c.in_ok-turn.ensures.mark ∙ c.loop.invariant.output_mark;
    }
