use Rattle.std.proofs.Common.{◌∙◌, [], ap, List, Option, map}
use Rattle.std.specs.Prelude.{option_map}
use Rattle.aseba_tree.specs.declared.source.Handler.{Handler}
use Rattle.aseba_tree.specs.View.{handler_view, source_view}
use Rattle.aseba_tree.specs.Faults as tree
use Rattle.aseba_check.specs.declared.fault.Fault.{Fault}
use Rattle.aseba_check.specs.Told.{fault_view, least}
use Rattle.aseba_check.proofs.ExprTies.{Tells}
use Rattle.aseba_check.proofs.Refusals.{all-tell}
use Rattle.aseba_check.proofs.checking.first_fault.Goals as goal

pub returns-clause-told : goal.returns-clause-told
returns-clause-told c =
    let source = source_view c.args.source.now in
    let cycles : Tells c.in_ok-cycles.cycles (tree.recursion_faults [] (tree.sub_calls source.parts)) =
    record { told = c.in_ok-cycles.ensures ∙ ap (λ (hs : List Handler). tree.first_fault (tree.recursion_faults [] (tree.sub_calls (map handler_view hs)))) c.as_slice.ensures } in
    let all = all-tell c.args.project.now source c.requires.inside c.requires.is_tree c.in_ok-rules.ensures.fits c.in_ok-cycles.cycles cycles in
    ap (λ (o : Option Fault). option_map fault_view o) (c.least.ensures ∙ ap (λ (o : Option Fault). least o c.in_ok-cycles.cycles) c.in_ok-rules.ensures.told) ∙ all.told
