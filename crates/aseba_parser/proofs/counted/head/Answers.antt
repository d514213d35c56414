use Rattle.std.proofs.Common.{◌<◌, ◌≤◌, ℕ, arith}
use Rattle.std.proofs.lemmas.Result.{err_from_is_err_and}
use Rattle.aseba_parser.proofs.Loops.{stops-with}
use Rattle.aseba_parser.proofs.Steps.{and-then, and-stops}
use Rattle.aseba_parser.proofs.counted.head.Goals as goal

pub returns-clause-read : goal.returns-clause-read
returns-clause-read c = λ project.
    and-then _ _ _ _ _ c.in_ok-variable.ensures.read (and-then _ _ _ _ _ c.in_ok-before_first.ensures.read (and-then _ _ _ _ _ c.in_ok-first.ensures.read
    (and-then _ _ _ _ _ c.in_ok-before_last.ensures.read (and-then _ _ _ _ _ c.in_ok-last.ensures.read (and-then _ _ _ _ _ (c.in_ok-step.ensures.read project) (let named = c.in_ok-name.ensures in cc))))))

falls : (a b c d e f g : ℕ) → b < a → c < b → d < c → e < d → f < e → g ≤ f → g < a
falls a b c d e f g first second third fourth fifth last = omega arith

pub returns-clause-shorter : goal.returns-clause-shorter
returns-clause-shorter c =
    falls _ _ _ _ _ _ _ c.in_ok-variable.ensures.shorter c.in_ok-before_first.ensures.shorter c.in_ok-first.ensures.shorter c.in_ok-before_last.ensures.shorter c.in_ok-last.ensures.shorter c.in_ok-step.ensures.shorter

pub returns-in_err-step-clause-read : goal.returns-in_err-step-clause-read
returns-in_err-step-clause-read c = λ project.
    let p = err_from_is_err_and c.from_residual-in_err-step.result c.from_residual-in_err-step.ensures.1 in
    rw (p.1, p.2)
    (and-stops _ _ _ _ _ c.in_ok-variable.ensures.read (and-stops _ _ _ _ _ c.in_ok-before_first.ensures.read (and-stops _ _ _ _ _ c.in_ok-first.ensures.read
    (and-stops _ _ _ _ _ c.in_ok-before_last.ensures.read (and-stops _ _ _ _ _ c.in_ok-last.ensures.read (stops-with _ _ _ (c.in_err-step.ensures.read project)))))))
