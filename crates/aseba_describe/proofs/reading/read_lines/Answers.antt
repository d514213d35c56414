use Rattle.std.proofs.Common.{◌≡◌, true, false, length, Ok, sym, ◌∙◌, ap}
use Rattle.std.proofs.lemmas.Bool.{eqb-true}
use Rattle.aseba_describe.proofs.Lines.{ends}
use Rattle.aseba_describe.proofs.reading.read_lines.Goals as goal

pub returns-then-is_whole : goal.returns-then-is_whole
returns-then-is_whole c =
    let none : length c.loop-rest.rest.now ≡ 0 = eqb-true _ _ (sym c.is_empty.ensures ∙ c.loop-rest-test.false) in
    ends c.loop-rest.n c.loop-rest.draft c.loop-rest.rest.now _ true none (sym c.is_whole.ensures ∙ c.if-is_whole.true) c.loop-rest.invariant.same
    ∙ ap (λ p. Ok p) (sym c.into_project.ensures)

pub returns-else-is_whole : goal.returns-else-is_whole
returns-else-is_whole c =
    let none : length c.loop-rest.rest.now ≡ 0 = eqb-true _ _ (sym c.is_empty.ensures ∙ c.loop-rest-test.false) in
    ends c.loop-rest.n c.loop-rest.draft c.loop-rest.rest.now _ false none (sym c.is_whole.ensures ∙ c.if-is_whole.false) c.loop-rest.invariant.same
