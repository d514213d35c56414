use Rattle.std.proofs.Common.{refl}
use Rattle.aseba_tools.proofs.Outcomes.{faults_of_link}
use Rattle.aseba_tools.proofs.command.do_command.Goals as goal

pub returns-in-Sim-clause-did : goal.returns-in-Sim-clause-did
returns-in-Sim-clause-did g c = rw c.in-Sim.is (rw c.without_link.ensures (c.sim.ensures.simulated, record { same = refl; no_polled = refl; no_output = refl }))

pub returns-in-Some-clause-write_fault : goal.returns-in-Some-clause-write_fault
returns-in-Some-clause-write_fault g c = faults_of_link _ _ _ c.node.ensures.write_fault
