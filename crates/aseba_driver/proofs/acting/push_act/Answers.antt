use Rattle.std.proofs.Common.{◌≡◌, ◌∙◌, sym, ap, List, ℤ, ◌∷◌, [], map}
use Rattle.aseba_tree.specs.Line.{named, told, was_set, lines_text}
use Rattle.aseba_tree.specs.Run.{meeting_reports}
use Rattle.aseba_vm.specs.Arrival.{arrived}
use Rattle.aseba_vm.specs.Control.{hold_written}
use Rattle.aseba_target.specs.MachineRun.{meeting_of}
use Rattle.aseba_driver.specs.Driven.{told_by}
use Rattle.aseba_driver.proofs.LineTexts.{same_told}
use Rattle.aseba_driver.proofs.ActLaws.{event_state, event_told, set_state, set_told}
use Rattle.aseba_driver.proofs.acting.push_act.Goals as goal

pub returns-in-Event-clause-machine : goal.returns-in-Event-clause-machine
returns-in-Event-clause-machine c =
    c.arrive-met.ensures.state
    ∙ ap (λ (args : List ℤ). (arrived c.in-Event.event c.in-Event.source args c.args.machine.now).1) c.as_slice.ensures
    ∙ sym (event_state c.args.legend.now c.args.moment c.args.entry.now c.args.machine.now c.requires c.in-Event.event c.in-Event.source c.in-Event.args c.in-Event.is)

pub returns-in-Event-clause-told : goal.returns-in-Event-clause-told
returns-in-Event-clause-told c =
    let met : c.arrive-met.result ≡ (arrived c.in-Event.event c.in-Event.source c.in-Event.args c.args.machine.now).0 =
    c.arrive-met.ensures.answer ∙ ap (λ (args : List ℤ). (arrived c.in-Event.event c.in-Event.source args c.args.machine.now).0) c.as_slice.ensures in
    same_told c.push_met.result _ _ _ _
    ((λ i. told_by c.args.legend.now (map (told c.args.moment.ticks c.args.moment.effects) (meeting_reports (named (c.as_bytes-name.ensures i)) (meeting_of (met i)))))
    ∙ sym (event_told c.args.legend.now c.args.moment c.args.entry.now c.args.machine.now c.requires c.in-Event.event c.in-Event.source c.in-Event.args c.in-Event.is))
    c.push_met.ensures

pub returns-in-Set-clause-machine : goal.returns-in-Set-clause-machine
returns-in-Set-clause-machine c =
    c.hold_write-refused.ensures.state
    ∙ ap (λ (values : List ℤ). (hold_written c.in-Set.start values c.args.machine.now).1) c.as_slice-in-Set.ensures
    ∙ sym (set_state c.args.legend.now c.args.moment c.args.entry.now c.args.machine.now c.requires c.in-Set.start c.in-Set.values c.in-Set.is)

pub returns-in-Set-clause-told : goal.returns-in-Set-clause-told
returns-in-Set-clause-told c =
    same_told c.push_told.result _ _ _ _
    ((λ i. lines_text (told c.args.moment.ticks c.args.moment.effects (was_set (c.as_bytes-name.ensures i)) ∷ []))
    ∙ sym (set_told c.args.legend.now c.args.moment c.args.entry.now c.args.machine.now c.requires c.in-Set.start c.in-Set.values c.in-Set.is))
    c.push_told.ensures
