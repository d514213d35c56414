use Rattle.std.proofs.Common.{◌≡◌, ◌∙◌, ◌<◌, length, true, false, map, sym, ap, arith}
use Rattle.std.proofs.lemmas.Result.{err_from_is_err_and}
use Rattle.aseba_tree.specs.declared.token.Key.{Key}
use Rattle.aseba_tree.specs.View.{decl_view}
use Rattle.aseba_parser.specs.Reading.{taken, is_key, decl_read}
use Rattle.aseba_parser.specs.Reads.{begins_with}
use Rattle.aseba_parser.proofs.Loops.{gathered}
use Rattle.aseba_parser.proofs.Gathering.{gathers-all, gathers-more, gathering-stops}
use Rattle.aseba_parser.proofs.decl.decls.Goals as goal

pub loop-alloc-init : goal.loop-alloc-init
loop-alloc-init c = (omega arith, gathers-all (is_key Key.Var) (decl_read c.args.depth) (map decl_view c.new-done.result) c.args.tokens.now (ap (λ l. map decl_view l) c.new-done.ensures))

pub loop-alloc-preserved : goal.loop-alloc-preserved
loop-alloc-preserved c =
    let begun : begins_with (is_key Key.Var) c.loop-alloc.rest.now ≡ true = sym c.begins_with_key.ensures ∙ c.loop-alloc-test.true in
    let shorter : length c.in_ok-grown.behind.now < length c.loop-alloc.rest.now = c.in_ok-grown.ensures.shorter in (
      omega (arith, c.loop-alloc.invariant.0),
      gathers-more (is_key Key.Var) (decl_read c.args.depth) (λ all behind. taken all behind) (map decl_view c.loop-alloc.done) (map decl_view c.in_ok-grown.grown) c.loop-alloc.rest.now _ c.in_ok-grown.behind.now
          c.loop-alloc.invariant.1 begun c.in_ok-grown.ensures.read shorter,
    )

pub returns-in_err-grown-clause-read : goal.returns-in_err-grown-clause-read
returns-in_err-grown-clause-read c =
    let begun : begins_with (is_key Key.Var) c.loop-alloc.rest.now ≡ true = sym c.begins_with_key.ensures ∙ c.loop-alloc-test.true in
    let q = err_from_is_err_and c.from_residual.result c.from_residual.ensures.1 in
    rw (q.1, q.2)
    (gathering-stops (is_key Key.Var) (decl_read c.args.depth) (λ all behind. taken all behind) (map decl_view c.loop-alloc.done) c.loop-alloc.rest.now _ c.in_err-grown.field-0.0 c.loop-alloc.invariant.1 begun
    c.in_err-grown.ensures.read)

pub returns-clause-read : goal.returns-clause-read
returns-clause-read c =
    let over : begins_with (is_key Key.Var) c.loop-alloc.rest.now ≡ false = sym c.begins_with_key.ensures ∙ c.loop-alloc-test.false in
    gathered (is_key Key.Var) (decl_read c.args.depth) (λ all behind. taken all behind) (map decl_view c.loop-alloc.done) c.loop-alloc.rest.now _ c.loop-alloc.invariant.1 over
