use Rattle.std.proofs.Common.{◌≡◌, ◌∙◌, ◌<◌, length, true, false, map, refl, sym, ap, arith}
use Rattle.std.proofs.lemmas.Result.{err_from_is_err_and}
use Rattle.aseba_tree.specs.View.{project_view, stmt_view, stmts_of}
use Rattle.aseba_parser.specs.Reading.{taken, begins_stmt, stmt_read, block_of, if_read, when_read, while_read, for_read, elseif_read}
use Rattle.aseba_parser.specs.Reads.{begins_with, counted_view}
use Rattle.aseba_parser.proofs.Loops.{gathered, stops-with}
use Rattle.aseba_parser.proofs.Gathering.{gathers-from, gathers-more, gathering-stops}
use Rattle.aseba_parser.proofs.Steps.{and-then, and-stops}
use Rattle.aseba_parser.proofs.Opened.{entered-as, not-entered, stops-as, for-is}
use Rattle.aseba_parser.proofs.block.+block.Goals as goal

pub stmts-loop-alloc-init : goal.stmts-loop-alloc-init
stmts-loop-alloc-init t c =
    let p = project_view c.args.project.now in
    (omega arith, gathers-from begins_stmt (stmt_read p c.args.depth (block_of p c.args.depth)) (λ all behind. taken (stmts_of all) behind) (map stmt_view c.new-done.result) c.args.tokens.now (ap (λ l. map stmt_view l) c.new-done.ensures))

pub stmts-loop-alloc-preserved : goal.stmts-loop-alloc-preserved
stmts-loop-alloc-preserved t c =
    let p = project_view c.args.project.now in
    let begun : begins_with begins_stmt c.loop-alloc.rest.now ≡ true = sym c.begins_with_stmt.ensures ∙ c.loop-alloc-test.true in
    let shorter : length c.in_ok-grown.behind.now < length c.loop-alloc.rest.now = c.in_ok-grown.ensures.shorter in (
      omega (arith, c.loop-alloc.invariant.0),
      gathers-more begins_stmt (stmt_read p c.args.depth (block_of p c.args.depth)) (λ all behind. taken (stmts_of all) behind) (map stmt_view c.loop-alloc.done) (map stmt_view c.in_ok-grown.grown) c.loop-alloc.rest.now _
          c.in_ok-grown.behind.now c.loop-alloc.invariant.1 begun c.in_ok-grown.ensures.read shorter,
    )

pub stmts-returns-in_err-grown-clause-read : goal.stmts-returns-in_err-grown-clause-read
stmts-returns-in_err-grown-clause-read t c =
    let p = project_view c.args.project.now in
    let begun : begins_with begins_stmt c.loop-alloc.rest.now ≡ true = sym c.begins_with_stmt.ensures ∙ c.loop-alloc-test.true in
    let q = err_from_is_err_and c.from_residual.result c.from_residual.ensures.1 in
    rw (q.1, q.2)
    (gathering-stops begins_stmt (stmt_read p c.args.depth (block_of p c.args.depth)) (λ all behind. taken (stmts_of all) behind) (map stmt_view c.loop-alloc.done) c.loop-alloc.rest.now _ c.in_err-grown.field-0.0
    c.loop-alloc.invariant.1 begun c.in_err-grown.ensures.read)

pub stmts-returns-clause-read : goal.stmts-returns-clause-read
stmts-returns-clause-read t c =
    let p = project_view c.args.project.now in
    let over : begins_with begins_stmt c.loop-alloc.rest.now ≡ false = sym c.begins_with_stmt.ensures ∙ c.loop-alloc-test.false in
    gathered begins_stmt (stmt_read p c.args.depth (block_of p c.args.depth)) (λ all behind. taken (stmts_of all) behind) (map stmt_view c.loop-alloc.done) c.loop-alloc.rest.now _ c.loop-alloc.invariant.1 over

pub if_stmt-returns-in_err-opening-clause-read : goal.if_stmt-returns-in_err-opening-clause-read
if_stmt-returns-in_err-opening-clause-read t c =
    let p = project_view c.args.project.now in
    let q = err_from_is_err_and c.from_residual.result c.from_residual.ensures.1 in
    rw (q.1, q.2) (not-entered if_read p c.args.depth c.args.tokens.now c.in_err-opening.field-0.0 (λ _ _. refl) (c.in_err-opening.ensures.opens p))

pub if_stmt-returns-in_err-tested-clause-read : goal.if_stmt-returns-in_err-tested-clause-read
if_stmt-returns-in_err-tested-clause-read t c =
    let p = project_view c.args.project.now in
    let opens = c.in_ok-opening.ensures.opens p in
    let q = err_from_is_err_and c.from_residual-in_err-tested.result c.from_residual-in_err-tested.ensures.1 in
    rw (q.1, q.2)
    (stops-as _ _ _ (entered-as if_read p c.args.depth c.args.tokens.now c.in_ok-opening.opening.word.now c.in_ok-opening.opening.rest.now c.in_ok-opening.opening.inside opens.0 opens.1)
    (stops-with _ _ _ c.in_err-tested.ensures.read))

pub if_stmt-returns-in_err-other-clause-read : goal.if_stmt-returns-in_err-other-clause-read
if_stmt-returns-in_err-other-clause-read t c =
    let p = project_view c.args.project.now in
    let opens = c.in_ok-opening.ensures.opens p in
    let q = err_from_is_err_and c.from_residual-in_err-other.result c.from_residual-in_err-other.ensures.1 in
    rw (q.1, q.2)
    (stops-as _ _ _ (entered-as if_read p c.args.depth c.args.tokens.now c.in_ok-opening.opening.word.now c.in_ok-opening.opening.rest.now c.in_ok-opening.opening.inside opens.0 opens.1)
    (and-stops _ _ _ _ _ c.in_ok-tested.ensures.read (stops-with _ _ _ c.in_err-other.ensures.read)))

pub if_stmt-returns-in_err-behind-clause-read : goal.if_stmt-returns-in_err-behind-clause-read
if_stmt-returns-in_err-behind-clause-read t c =
    let p = project_view c.args.project.now in
    let opens = c.in_ok-opening.ensures.opens p in
    let q = err_from_is_err_and c.from_residual-in_err-behind.result c.from_residual-in_err-behind.ensures.1 in
    rw (q.1, q.2)
    (stops-as _ _ _ (entered-as if_read p c.args.depth c.args.tokens.now c.in_ok-opening.opening.word.now c.in_ok-opening.opening.rest.now c.in_ok-opening.opening.inside opens.0 opens.1)
    (and-stops _ _ _ _ _ c.in_ok-tested.ensures.read (and-stops _ _ _ _ _ c.in_ok-other.ensures.read (stops-with _ _ _ c.in_err-behind.ensures.read))))

pub when_stmt-returns-in_err-opening-clause-read : goal.when_stmt-returns-in_err-opening-clause-read
when_stmt-returns-in_err-opening-clause-read t c =
    let p = project_view c.args.project.now in
    let q = err_from_is_err_and c.from_residual.result c.from_residual.ensures.1 in
    rw (q.1, q.2) (not-entered when_read p c.args.depth c.args.tokens.now c.in_err-opening.field-0.0 (λ _ _. refl) (c.in_err-opening.ensures.opens p))

pub when_stmt-returns-in_err-tested-clause-read : goal.when_stmt-returns-in_err-tested-clause-read
when_stmt-returns-in_err-tested-clause-read t c =
    let p = project_view c.args.project.now in
    let opens = c.in_ok-opening.ensures.opens p in
    let q = err_from_is_err_and c.from_residual-in_err-tested.result c.from_residual-in_err-tested.ensures.1 in
    rw (q.1, q.2)
    (stops-as _ _ _ (entered-as when_read p c.args.depth c.args.tokens.now c.in_ok-opening.opening.word.now c.in_ok-opening.opening.rest.now c.in_ok-opening.opening.inside opens.0 opens.1)
    (stops-with _ _ _ c.in_err-tested.ensures.read))

pub when_stmt-returns-in_err-behind-clause-read : goal.when_stmt-returns-in_err-behind-clause-read
when_stmt-returns-in_err-behind-clause-read t c =
    let p = project_view c.args.project.now in
    let opens = c.in_ok-opening.ensures.opens p in
    let q = err_from_is_err_and c.from_residual-in_err-behind.result c.from_residual-in_err-behind.ensures.1 in
    rw (q.1, q.2)
    (stops-as _ _ _ (entered-as when_read p c.args.depth c.args.tokens.now c.in_ok-opening.opening.word.now c.in_ok-opening.opening.rest.now c.in_ok-opening.opening.inside opens.0 opens.1)
    (and-stops _ _ _ _ _ c.in_ok-tested.ensures.read (stops-with _ _ _ c.in_err-behind.ensures.read)))

pub while_stmt-returns-in_err-opening-clause-read : goal.while_stmt-returns-in_err-opening-clause-read
while_stmt-returns-in_err-opening-clause-read t c =
    let p = project_view c.args.project.now in
    let q = err_from_is_err_and c.from_residual.result c.from_residual.ensures.1 in
    rw (q.1, q.2) (not-entered while_read p c.args.depth c.args.tokens.now c.in_err-opening.field-0.0 (λ _ _. refl) (c.in_err-opening.ensures.opens p))

pub while_stmt-returns-in_err-tested-clause-read : goal.while_stmt-returns-in_err-tested-clause-read
while_stmt-returns-in_err-tested-clause-read t c =
    let p = project_view c.args.project.now in
    let opens = c.in_ok-opening.ensures.opens p in
    let q = err_from_is_err_and c.from_residual-in_err-tested.result c.from_residual-in_err-tested.ensures.1 in
    rw (q.1, q.2)
    (stops-as _ _ _ (entered-as while_read p c.args.depth c.args.tokens.now c.in_ok-opening.opening.word.now c.in_ok-opening.opening.rest.now c.in_ok-opening.opening.inside opens.0 opens.1)
    (stops-with _ _ _ c.in_err-tested.ensures.read))

pub while_stmt-returns-in_err-behind-clause-read : goal.while_stmt-returns-in_err-behind-clause-read
while_stmt-returns-in_err-behind-clause-read t c =
    let p = project_view c.args.project.now in
    let opens = c.in_ok-opening.ensures.opens p in
    let q = err_from_is_err_and c.from_residual-in_err-behind.result c.from_residual-in_err-behind.ensures.1 in
    rw (q.1, q.2)
    (stops-as _ _ _ (entered-as while_read p c.args.depth c.args.tokens.now c.in_ok-opening.opening.word.now c.in_ok-opening.opening.rest.now c.in_ok-opening.opening.inside opens.0 opens.1)
    (and-stops _ _ _ _ _ c.in_ok-tested.ensures.read (stops-with _ _ _ c.in_err-behind.ensures.read)))

pub elseif-returns-in_err-opening-clause-read : goal.elseif-returns-in_err-opening-clause-read
elseif-returns-in_err-opening-clause-read t c =
    let p = project_view c.args.project.now in
    let q = err_from_is_err_and c.from_residual.result c.from_residual.ensures.1 in
    rw (q.1, q.2) (not-entered elseif_read p c.args.depth c.args.tokens.now c.in_err-opening.field-0.0 (λ _ _. refl) (c.in_err-opening.ensures.opens p))

pub elseif-returns-in_err-tested-clause-read : goal.elseif-returns-in_err-tested-clause-read
elseif-returns-in_err-tested-clause-read t c =
    let p = project_view c.args.project.now in
    let opens = c.in_ok-opening.ensures.opens p in
    let q = err_from_is_err_and c.from_residual-in_err-tested.result c.from_residual-in_err-tested.ensures.1 in
    rw (q.1, q.2)
    (stops-as _ _ _ (entered-as elseif_read p c.args.depth c.args.tokens.now c.in_ok-opening.opening.word.now c.in_ok-opening.opening.rest.now c.in_ok-opening.opening.inside opens.0 opens.1)
    (stops-with _ _ _ c.in_err-tested.ensures.read))

pub elseif-returns-in_err-more-clause-read : goal.elseif-returns-in_err-more-clause-read
elseif-returns-in_err-more-clause-read t c =
    let p = project_view c.args.project.now in
    let opens = c.in_ok-opening.ensures.opens p in
    let q = err_from_is_err_and c.from_residual-in_err-more.result c.from_residual-in_err-more.ensures.1 in
    rw (q.1, q.2)
    (stops-as _ _ _ (entered-as elseif_read p c.args.depth c.args.tokens.now c.in_ok-opening.opening.word.now c.in_ok-opening.opening.rest.now c.in_ok-opening.opening.inside opens.0 opens.1)
    (and-stops _ _ _ _ _ c.in_ok-tested.ensures.read (stops-with _ _ _ c.in_err-more.ensures.read)))

pub for_stmt-returns-in_err-opening-clause-read : goal.for_stmt-returns-in_err-opening-clause-read
for_stmt-returns-in_err-opening-clause-read t c =
    let p = project_view c.args.project.now in
    let q = err_from_is_err_and c.from_residual.result c.from_residual.ensures.1 in
    rw (q.1, q.2) (not-entered for_read p c.args.depth c.args.tokens.now c.in_err-opening.field-0.0 (λ _ _. refl) (c.in_err-opening.ensures.opens p))

pub for_stmt-returns-in_err-counted-clause-read : goal.for_stmt-returns-in_err-counted-clause-read
for_stmt-returns-in_err-counted-clause-read t c =
    let p = project_view c.args.project.now in
    let opens = c.in_ok-opening.ensures.opens p in
    let q = err_from_is_err_and c.from_residual-in_err-counted.result c.from_residual-in_err-counted.ensures.1 in
    rw (q.1, q.2)
    (stops-as _ _ _ (entered-as for_read p c.args.depth c.args.tokens.now c.in_ok-opening.opening.word.now c.in_ok-opening.opening.rest.now c.in_ok-opening.opening.inside opens.0 opens.1)
    (stops-with _ _ _ (c.in_err-counted.ensures.read p)))

pub for_stmt-returns-in_err-body-clause-read : goal.for_stmt-returns-in_err-body-clause-read
for_stmt-returns-in_err-body-clause-read t c =
    let p = project_view c.args.project.now in
    let opens = c.in_ok-opening.ensures.opens p in
    let q = err_from_is_err_and c.from_residual-in_err-body.result c.from_residual-in_err-body.ensures.1 in
    rw (q.1, q.2)
    (stops-as _ _ _
    (entered-as for_read p c.args.depth c.args.tokens.now c.in_ok-opening.opening.word.now c.in_ok-opening.opening.rest.now c.in_ok-opening.opening.inside opens.0 opens.1
    ∙ for-is p c.in_ok-opening.opening.inside c.in_ok-opening.opening.word.now c.in_ok-opening.opening.rest.now (counted_view c.in_ok-counted.counted) c.in_ok-counted.after.now (c.in_ok-counted.ensures.read p))
    (stops-with _ _ _ c.in_err-body.ensures.read))

pub for_stmt-returns-in_err-behind-clause-read : goal.for_stmt-returns-in_err-behind-clause-read
for_stmt-returns-in_err-behind-clause-read t c =
    let p = project_view c.args.project.now in
    let opens = c.in_ok-opening.ensures.opens p in
    let q = err_from_is_err_and c.from_residual-in_err-behind.result c.from_residual-in_err-behind.ensures.1 in
    rw (q.1, q.2)
    (stops-as _ _ _
    (entered-as for_read p c.args.depth c.args.tokens.now c.in_ok-opening.opening.word.now c.in_ok-opening.opening.rest.now c.in_ok-opening.opening.inside opens.0 opens.1
    ∙ for-is p c.in_ok-opening.opening.inside c.in_ok-opening.opening.word.now c.in_ok-opening.opening.rest.now (counted_view c.in_ok-counted.counted) c.in_ok-counted.after.now (c.in_ok-counted.ensures.read p))
    (and-stops _ _ _ _ _ c.in_ok-body.ensures.read (stops-with _ _ _ c.in_err-behind.ensures.read)))

pub for_stmt-returns-clause-read : goal.for_stmt-returns-clause-read
for_stmt-returns-clause-read t c =
    let p = project_view c.args.project.now in
    let opens = c.in_ok-opening.ensures.opens p in
    (entered-as for_read p c.args.depth c.args.tokens.now c.in_ok-opening.opening.word.now c.in_ok-opening.opening.rest.now c.in_ok-opening.opening.inside opens.0 opens.1
    ∙ for-is p c.in_ok-opening.opening.inside c.in_ok-opening.opening.word.now c.in_ok-opening.opening.rest.now (counted_view c.in_ok-counted.counted) c.in_ok-counted.after.now (c.in_ok-counted.ensures.read p))
    ∙ and-then _ _ _ _ _ c.in_ok-body.ensures.read (and-then _ _ _ _ _ c.in_ok-behind.ensures.read (let made = c.in_ok-for_do.ensures in cc))
