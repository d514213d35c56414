use Rattle.std.proofs.Common.{subst, sym, ◌∙◌, ap, false}
use Rattle.aseba_tree.specs.View.{project_view}
use Rattle.aseba_vm.specs.State.{State, NamesInside}
use Rattle.aseba_vm.specs.Loaded.{made, loaded, reset_state}
use Rattle.aseba_target.specs.Node.{shape_of}
use Rattle.aseba_tools.proofs.Loading.{never_refused, started-is}
use Rattle.aseba_target.proofs.Nodes.{names_inside}
use Rattle.aseba_tools.proofs.running.loaded_machine.Goals as goal

pub new-requires : goal.new-requires
new-requires c = subst NamesInside (sym c.shape.ensures) (names_inside c.args.project.now c.requires.inside)

pub unreachable-requires : goal.unreachable-requires
unreachable-requires c =
    never_refused (shape_of (project_view c.args.project.now)) c.args.project.now.id c.args.words.now c.in_ok-machine.machine c.in-Err.field-0
    (c.in_ok-machine.ensures ∙ ap (λ s. made s c.args.project.now.id) c.shape.ensures) c.requires.fits (sym c.in-Err.is ∙ c.load.ensures.answer)

pub returns : goal.returns
returns c =
    c.reset.ensures
    ∙ ap (reset_state false)
    (c.load.ensures.state ∙ ap (λ (s : State). (loaded 0 c.args.words.now s).1) (c.in_ok-machine.ensures ∙ ap (λ s. made s c.args.project.now.id) c.shape.ensures))
    ∙ sym (started-is (project_view c.args.project.now) c.args.words.now)
