use Rattle.aseba_tools.proofs.Endings.{ends_well, not-failed, not-own}
use Rattle.aseba_tools.proofs.top.run.Goals as goal

pub returns-clause-ends_well : goal.returns-clause-ends_well
returns-clause-ends_well g c right files out dialer input output =
    ends_well _ _ _ _ _ _ c.do_tool-ran.ensures.did right (not-failed _ _ _ _ c.do_tool-ran.ensures.read_fault files input) (not-failed _ _ _ _ c.do_tool-ran.ensures.write_fault out output)
    (not-own _ _ _ c.do_tool-ran.ensures.dial_fault dialer)
