-- The message that was worked by hand, computed.
use Rattle.std.specs.Prelude.{refl}
use Rattle.aseba_vm.specs.Loaded.{made}
use Rattle.aseba_node.specs.Delivered.{delivered, received, debugged}
use Rattle.aseba_node.specs.Worked.{NodeAddressed}

pub node_addressed : NodeAddressed
unfolding made delivered received debugged
node_addressed = record { own = refl; other = refl }
