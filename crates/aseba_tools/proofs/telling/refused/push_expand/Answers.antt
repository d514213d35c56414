use Rattle.aseba_tools.proofs.telling.refused.push_expand.Goals as goal

pub returns-in-VariablesFull-clause-text : goal.returns-in-VariablesFull-clause-text
returns-in-VariablesFull-clause-text c = rw c.in-VariablesFull.is c.push_need.ensures.text
