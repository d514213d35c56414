use Rattle.std.proofs.Common.{◌∙◌, ap, sym}
use Rattle.std.proofs.lemmas.Result.{on_ok_weaker}
use Rattle.aseba_message.specs.Message.{Message}
use Rattle.aseba_node.specs.Delivered.{received}
use Rattle.aseba_node.proofs.Steps.{delivers}
use Rattle.aseba_node.proofs.node.Node.take.Goals as goal

pub returns-in-Ok : goal.returns-in-Ok
returns-in-Ok c =
    let said = ap (λ (m : Message). received m.source c.in-Ok.payload c.args.self.now) c.frame.view_is in
    on_ok_weaker c.receive.result (λ done. done ∙ said ∙ sym (delivers c.args.frame.now c.in-Ok.payload c.args.self.now c.in-Ok.ensures.payload)) c.receive.ensures
