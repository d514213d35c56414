use Rattle.std.proofs.Common.{◌≡◌, ◌-◌, ◌≤◌, ◌<◌, length, None, map, subst, sym, ap, arith}
use Rattle.std.proofs.lemmas.Result.{err_from_is_err_and}
use Rattle.aseba_tree.specs.View.{expr_view}
use Rattle.aseba_parser.specs.Reading as reading
use Rattle.aseba_parser.specs.Reads.{Answers}
use Rattle.aseba_parser.proofs.Levels.{prefixed-is, unprefixed-is, raised-on, raised-stops, raised-ends}
use Rattle.aseba_parser.proofs.Growth.{grows-on, growth-stops, growth-ends}
use Rattle.aseba_parser.proofs.Commas.{first-listed, first-stops, lists-on, listing-stops, listed}
use Rattle.aseba_parser.proofs.expr.+expr.Goals as goal

pub expr-returns-in-Some-clause-read : goal.expr-returns-in-Some-clause-read
expr-returns-in-Some-clause-read t c =
    subst (λ (r : reading.Read _). Answers expr_view r c.prefixed.result)
    (sym (prefixed-is (reading.inside_of c.args.depth) c.in-Some.found.level c.args.level c.args.tokens.now c.in-Some.found.token.now c.in-Some.found.rest.now c.in-Some.found.op c.in-Some.ensures.0 c.in-Some.ensures.1 c.in-Some.ensures.2 c.in-Some.ensures.3))
    c.prefixed.ensures.read

pub expr-returns-in-None-clause-read : goal.expr-returns-in-None-clause-read
expr-returns-in-None-clause-read t c =
    subst (λ (r : reading.Read _). Answers expr_view r c.unprefixed.result) (sym (unprefixed-is (reading.inside_of c.args.depth) c.args.level c.args.tokens.now c.in-None.ensures)) c.unprefixed.ensures.read

pub raised-returns-in_err-grown-clause-read : goal.raised-returns-in_err-grown-clause-read
raised-returns-in_err-grown-clause-read t c =
    let p = err_from_is_err_and c.from_residual.result c.from_residual.ensures.1 in
    rw (p.1, p.2)
    (raised-stops (reading.inside_of c.args.depth) c.loop-own.done c.in-Some.own c.args.level (expr_view c.loop-own.left) c.loop-own.rest.now _ c.in_err-grown.field-0.0 c.loop-own.invariant.2
    c.in-Some.ensures.0 c.in-Some.ensures.1 c.in-Some.ensures.2 c.in_err-grown.ensures.read)

pub raised-loop-own-preserved : goal.raised-loop-own-preserved
raised-loop-own-preserved t c =
    let shorter : length c.in_ok-grown.behind.now ≤ length c.loop-own.rest.now = c.in_ok-grown.ensures.shorter in (
      omega (arith, c.loop-own.invariant.0),
      c.in-Some.ensures.2,
      raised-on (reading.inside_of c.args.depth) c.loop-own.done c.in-Some.own c.args.level (expr_view c.loop-own.left) (expr_view c.in_ok-grown.grown) c.loop-own.rest.now c.in_ok-grown.behind.now _ c.loop-own.invariant.2
          c.in-Some.ensures.0 c.in-Some.ensures.1 c.in-Some.ensures.2 c.in_ok-grown.ensures.read,
    )

pub raised-returns-clause-read : goal.raised-returns-clause-read
raised-returns-clause-read t c =
    raised-ends (reading.inside_of c.args.depth) c.loop-own.done c.args.level (expr_view c.loop-own.left) c.loop-own.rest.now _ c.loop-own.invariant.2 c.loop-own.invariant.1 c.in_default.ensures

pub operations-returns-in_err-grown-clause-read : goal.operations-returns-in_err-grown-clause-read
operations-returns-in_err-grown-clause-read t c =
    let p = err_from_is_err_and c.from_residual.result c.from_residual.ensures.1 in
    rw (p.1, p.2)
    (growth-stops c.args.level (reading.expr_read c.args.depth (c.args.level - 1)) (expr_view c.loop-found.left) c.loop-found.rest.now _ c.in-Some.found.token.now c.in-Some.found.rest.now c.in-Some.found.op
    c.in_err-grown.field-0.0 c.loop-found.invariant.1 c.in-Some.ensures.0 c.in-Some.ensures.1 c.in_err-grown.ensures.read)

pub operations-loop-found-preserved : goal.operations-loop-found-preserved
operations-loop-found-preserved t c =
    let same = ap (λ l. length l) c.in-Some.ensures.0 in
    let shorter : length c.in_ok-grown.behind.now < length c.in-Some.found.rest.now = c.in_ok-grown.ensures.shorter in (
      omega (arith, same, c.loop-found.invariant.0),
      grows-on c.args.level (reading.expr_read c.args.depth (c.args.level - 1)) (expr_view c.loop-found.left) (expr_view c.in_ok-grown.grown) c.loop-found.rest.now _ c.in-Some.found.token.now c.in-Some.found.rest.now
          c.in_ok-grown.behind.now c.in-Some.found.op c.loop-found.invariant.1 c.in-Some.ensures.0 c.in-Some.ensures.1 c.in_ok-grown.ensures.read (omega arith),
    )

pub operations-returns-clause-read : goal.operations-returns-clause-read
operations-returns-clause-read t c =
    growth-ends c.args.level (reading.expr_read c.args.depth (c.args.level - 1)) (expr_view c.loop-found.left) c.loop-found.rest.now _ c.loop-found.invariant.1 c.in_default.ensures

pub list-returns-in_err-elements-clause-read : goal.list-returns-in_err-elements-clause-read
list-returns-in_err-elements-clause-read t c =
    let p = err_from_is_err_and c.from_residual.result c.from_residual.ensures.1 in
    rw (p.1, p.2) (first-stops (reading.expr_read c.args.inside) (map expr_view c.new.result) c.args.tokens.now c.in_err-elements.field-0.0 c.in_err-elements.ensures.read)

pub list-loop-after-init : goal.list-loop-after-init
list-loop-after-init t c = (
  c.in_ok-elements.ensures.shorter,
  first-listed (reading.expr_read c.args.inside) (map expr_view c.new.result) (map expr_view c.in_ok-elements.elements) c.args.tokens.now c.in_ok-elements.rest.now (ap (λ l. map expr_view l) c.new.ensures) c.in_ok-elements.ensures.read,
)

pub list-returns-in_err-grown-clause-read : goal.list-returns-in_err-grown-clause-read
list-returns-in_err-grown-clause-read t c =
    let p = err_from_is_err_and c.from_residual-in_err-grown.result c.from_residual-in_err-grown.ensures.1 in
    rw (p.1, p.2)
    (listing-stops (reading.expr_read c.args.inside) (map expr_view c.loop-after.elements) c.loop-after.rest.now _ c.in-Some.ensures.0 c.in-Some.after.now c.in_err-grown.field-0.0 c.loop-after.invariant.1 c.in-Some.ensures.1
    c.in-Some.ensures.2 c.in_err-grown.ensures.read)

pub list-loop-after-preserved : goal.list-loop-after-preserved
list-loop-after-preserved t c =
    let same = ap (λ l. length l) c.in-Some.ensures.1 in
    let shorter : length c.in_ok-grown.behind.now < length c.in-Some.after.now = c.in_ok-grown.ensures.shorter in (
      omega (arith, same, c.loop-after.invariant.0),
      lists-on (reading.expr_read c.args.inside) (map expr_view c.loop-after.elements) (map expr_view c.in_ok-grown.grown) c.loop-after.rest.now _ c.in-Some.ensures.0 c.in-Some.after.now c.in_ok-grown.behind.now
          c.loop-after.invariant.1 c.in-Some.ensures.1 c.in-Some.ensures.2 c.in_ok-grown.ensures.read (omega arith),
    )

pub list-returns-clause-read : goal.list-returns-clause-read
list-returns-clause-read t c =
    listed (reading.expr_read c.args.inside) (map expr_view c.loop-after.elements) c.loop-after.rest.now _ c.loop-after.invariant.1 c.in_default.ensures
