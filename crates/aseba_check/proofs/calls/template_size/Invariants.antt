use Rattle.std.proofs.Common.{◌≡◌, drop}
use Rattle.aseba_check.specs.Statements.{template_size}
use Rattle.aseba_check.proofs.calls.template_size.Given as goal

abbrev pub invariant-loop-param : goal.invariant-loop-param
invariant-loop-param l = template_size (drop l.param-index l.params) l.rest l.template ≡ template_size l.params l.fn.given l.template
