use Rattle.std.proofs.Common.{◌≡◌, arith, subst, sym}
use Rattle.std.proofs.lemmas.Grind.{common_steps}
use Rattle.aseba_natives.specs.Call.{call_end, EndCause}
use Rattle.aseba_natives.proofs.ZeroDivisors.{end-cause}
use Rattle.aseba_natives.proofs.call.native.Goals as goal

pub returns-clause-cause : goal.returns-clause-cause
returns-clause-cause c =
    let id = c.args.id in
    let args = c.args.args.now in
    let cells = c.args.cells.now in
    let e : c.run.result ≡ call_end id args cells = grind (arith, common_steps) in
    subst (λ end. EndCause end id args cells) (sym e) (end-cause id args cells)
