use Rattle.std.proofs.Common.{◌≡◌, length, sym, ◌∙◌, arith}
use Rattle.std.proofs.lemmas.Bool.{eqb-true}
use Rattle.aseba_describe.proofs.NativeLines.{drops_more, found_native, passed_native, passed_other, not_found}
use Rattle.aseba_describe.proofs.finding.native_line.Goals as goal

pub returns-then-left-eq0 : goal.returns-then-left-eq0
returns-then-left-eq0 c =
    found_native c.loop-rest.n c.loop-rest.left _ _ _ _ (c.loop-rest.invariant.behind ∙ c.first_line.ensures.first) c.loop-rest.invariant.told (sym c.if-starts_with.ensures.value) (omega arith)

pub loop-rest-preserved-else-left-eq0 : goal.loop-rest-preserved-else-left-eq0
loop-rest-preserved-else-left-eq0 c =
    let here = c.loop-rest.invariant.behind ∙ c.first_line.ensures.first in
    record {
      behind = drops_more c.loop-rest.n _ _ _ here;
      told = passed_native c.loop-rest.n c.loop-rest.left _ _ _ _ here c.loop-rest.invariant.told (sym c.if-starts_with.ensures.value) (omega arith);
      few = omega (arith, c.loop-rest.invariant.few, c.first_line.ensures.shorter);
    }

pub loop-rest-preserved : goal.loop-rest-preserved
loop-rest-preserved c =
    let here = c.loop-rest.invariant.behind ∙ c.first_line.ensures.first in
    record {
      behind = drops_more c.loop-rest.n _ _ _ here;
      told = passed_other c.loop-rest.n c.loop-rest.left _ _ _ _ here c.loop-rest.invariant.told (sym c.if-starts_with.ensures.value);
      few = omega (arith, c.loop-rest.invariant.few, c.first_line.ensures.shorter);
    }

pub returns : goal.returns
returns c =
    let none : length c.loop-rest.rest.now ≡ 0 = eqb-true _ _ (sym c.is_empty.ensures ∙ c.loop-rest-test.false) in
    not_found c.loop-rest.n c.loop-rest.left c.args.others c.args.text.now c.loop-rest.rest.now c.loop-rest.invariant.behind c.loop-rest.invariant.told none
