use Rattle.std.proofs.Common.{◌≡◌, ◌∙◌, ◌<◌, length, true, false, map, sym, ap, arith}
use Rattle.std.proofs.lemmas.Result.{err_from_is_err_and}
use Rattle.aseba_tree.specs.View.{project_view, handler_view}
use Rattle.aseba_parser.specs.Reading.{taken, begins_part, part_of}
use Rattle.aseba_parser.specs.Reads.{begins_with}
use Rattle.aseba_parser.proofs.Loops.{gathered}
use Rattle.aseba_parser.proofs.Gathering.{gathers-all, gathers-more, gathering-stops}
use Rattle.aseba_parser.proofs.program.parts.Goals as goal

pub loop-alloc-init : goal.loop-alloc-init
loop-alloc-init c = (omega arith, gathers-all begins_part (part_of (project_view c.args.project.now) c.args.depth) (map handler_view c.new-done.result) c.args.tokens.now (ap (λ l. map handler_view l) c.new-done.ensures))

pub loop-alloc-preserved : goal.loop-alloc-preserved
loop-alloc-preserved c =
    let begun : begins_with begins_part c.loop-alloc.rest.now ≡ true = sym c.begins_with_part.ensures ∙ c.loop-alloc-test.true in
    let shorter : length c.in_ok-grown.behind.now < length c.loop-alloc.rest.now = c.in_ok-grown.ensures.shorter in (
      omega (arith, c.loop-alloc.invariant.0),
      gathers-more begins_part (part_of (project_view c.args.project.now) c.args.depth) (λ all behind. taken all behind) (map handler_view c.loop-alloc.done) (map handler_view c.in_ok-grown.grown) c.loop-alloc.rest.now _ c.in_ok-grown.behind.now
          c.loop-alloc.invariant.1 begun c.in_ok-grown.ensures.read shorter,
    )

pub returns-in_err-grown-clause-read : goal.returns-in_err-grown-clause-read
returns-in_err-grown-clause-read c =
    let begun : begins_with begins_part c.loop-alloc.rest.now ≡ true = sym c.begins_with_part.ensures ∙ c.loop-alloc-test.true in
    let q = err_from_is_err_and c.from_residual.result c.from_residual.ensures.1 in
    rw (q.1, q.2)
    (gathering-stops begins_part (part_of (project_view c.args.project.now) c.args.depth) (λ all behind. taken all behind) (map handler_view c.loop-alloc.done) c.loop-alloc.rest.now _ c.in_err-grown.field-0.0 c.loop-alloc.invariant.1 begun
    c.in_err-grown.ensures.read)

pub returns-clause-read : goal.returns-clause-read
returns-clause-read c =
    let over : begins_with begins_part c.loop-alloc.rest.now ≡ false = sym c.begins_with_part.ensures ∙ c.loop-alloc-test.false in
    gathered begins_part (part_of (project_view c.args.project.now) c.args.depth) (λ all behind. taken all behind) (map handler_view c.loop-alloc.done) c.loop-alloc.rest.now _ c.loop-alloc.invariant.1 over
