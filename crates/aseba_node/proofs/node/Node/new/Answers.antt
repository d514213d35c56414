use Rattle.std.proofs.Common.{◌∙◌, ap, sym, subst}
use Rattle.aseba_tree.specs.Inside.{InsideDescription}
use Rattle.aseba_tree.specs.declared.description.Description.{Description}
use Rattle.aseba_vm.specs.State.{NamesInside, State as Machine}
use Rattle.aseba_vm.specs.declared.shape.Shape.{Shape}
use Rattle.aseba_target.proofs.Nodes.{names_inside}
use Rattle.aseba_node.proofs.Machines.{made_cells}
use Rattle.aseba_node.proofs.node.Node.new.Goals as goal

pub new-requires : goal.new-requires
new-requires c = subst NamesInside (sym c.shape.ensures) (names_inside c.args.project.now c.requires)

pub invariant_of-result : goal.invariant_of-result
invariant_of-result c = record {
  inside = subst InsideDescription (sym c.in_ok-description.ensures) c.requires.node;
  cells =
      ap (λ (m : Machine). m.shape.cells) c.in_ok-machine.ensures ∙ made_cells c.shape.result c.args.project.now.id
      ∙ ap (λ (s : Shape). s.cells) c.shape.ensures ∙ sym (ap (λ (d : Description). d.cells) c.in_ok-description.ensures);
}
