use Rattle.std.proofs.Common.{◌≡◌, ◌≤◌, ◌∙◌, ℕ, List, length, take, drop, refl, sym, ap, subst, arith}
use Rattle.std.proofs.lemmas.Grind.{common_steps}
use Rattle.aseba_tree.specs.declared.pos.Pos.{Pos}
use Rattle.aseba_tree.specs.Tokens.{first_place, behind, Cut, nothing}
use Rattle.aseba_lexer.proofs.CutLaws.{is-decided, step-cuts, step-faults, all-cut}
use Rattle.aseba_lexer.proofs.FewTokens.{few-tokens}
use Rattle.aseba_lexer.proofs.lexer.lex.Goals as goal

pub loop-rest-init : goal.loop-rest-init
loop-rest-init c = (nothing c.new-tokens.ensures refl refl, omega arith, omega arith, omega arith)

pub loop-rest-preserved : goal.loop-rest-preserved
loop-rest-preserved c =
    let full : 1 ≤ length c.loop-rest.rest.now = grind (arith, common_steps) in
    let cut = step-cuts c.args.text.now c.loop-rest.at c.loop-rest.rest.now c.loop-rest.tokens c.step.new.tokens c.in-Ok.length full c.loop-rest.invariant.0 c.in-Ok.ensures.value in
    let place : behind c.loop-rest.at (take c.in-Ok.length c.loop-rest.rest.now) ≡ c.behind-at.result =
    sym (c.behind-at.ensures.value ∙ ap (λ (t : List ℕ). behind c.loop-rest.at t) c.split_at.ensures.front) in (
      subst (λ (t : List ℕ). Cut first_place c.args.text.now c.step.new.tokens c.behind-at.result t) (sym c.split_at.ensures.back)
          (subst (λ (p : Pos). Cut first_place c.args.text.now c.step.new.tokens p (drop c.in-Ok.length c.loop-rest.rest.now)) place cut),
      c.behind-at.ensures.line,
      c.behind-at.ensures.col,
      omega (arith, c.behind-at.ensures.room, c.split_at.ensures.front_len, c.split_at.ensures.back_len, c.loop-rest.invariant.3),
    )

pub returns-in-Err-clause-fault : goal.returns-in-Err-clause-fault
returns-in-Err-clause-fault c =
    let full : 1 ≤ length c.loop-rest.rest.now = grind (arith, common_steps) in
    step-faults c.args.text.now c.loop-rest.at c.loop-rest.rest.now c.loop-rest.tokens c.step.new.tokens c.in-Err.error full c.loop-rest.invariant.0 c.in-Err.ensures.value

pub returns-in-Err-clause-decided : goal.returns-in-Err-clause-decided
returns-in-Err-clause-decided c = is-decided c.args.text.now

pub returns-clause-decided : goal.returns-clause-decided
returns-clause-decided c = is-decided c.args.text.now

pub returns-clause-tokens : goal.returns-clause-tokens
returns-clause-tokens c =
    let empty : length c.loop-rest.rest.now ≤ 0 = grind (arith, common_steps) in
    all-cut c.args.text.now c.loop-rest.tokens c.loop-rest.at c.loop-rest.rest.now empty c.loop-rest.invariant.0

pub returns-clause-few : goal.returns-clause-few
returns-clause-few c =
    let empty : length c.loop-rest.rest.now ≤ 0 = grind (arith, common_steps) in
    few-tokens (all-cut c.args.text.now c.loop-rest.tokens c.loop-rest.at c.loop-rest.rest.now empty c.loop-rest.invariant.0)
