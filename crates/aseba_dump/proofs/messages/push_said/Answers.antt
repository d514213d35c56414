use Rattle.aseba_dump.proofs.messages.push_said.Goals as goal

pub returns-in-Describe : goal.returns-in-Describe
returns-in-Describe c = rw (c.in-Describe.is, ← c.as_bytes.ensures) c.push_text_first.ensures

pub returns-in-SetBytecode : goal.returns-in-SetBytecode
returns-in-SetBytecode c = rw (c.in-SetBytecode.is, ← c.as_slice-in-SetBytecode.ensures) c.push_code.ensures

pub returns-in-SetVariables : goal.returns-in-SetVariables
returns-in-SetVariables c = rw (c.in-SetVariables.is, ← c.as_slice-in-SetVariables.ensures) c.push_cells-in-SetVariables.ensures
