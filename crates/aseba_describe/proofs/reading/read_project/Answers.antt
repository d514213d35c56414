use Rattle.aseba_describe.proofs.BadLines.{decided, gives_project, tells_line}
use Rattle.aseba_describe.proofs.reading.read_project.Goals as goal

pub returns-clause-project : goal.returns-clause-project
returns-clause-project c = gives_project c.args.text.now c.in_ok-draft.draft c.read_lines.result c.in_ok-draft.ensures c.read_lines.ensures

pub returns-clause-line : goal.returns-clause-line
returns-clause-line c = tells_line c.args.text.now c.in_ok-draft.draft c.read_lines.result c.in_ok-draft.ensures c.read_lines.ensures

pub returns-clause-decided : goal.returns-clause-decided
returns-clause-decided c = decided c.args.text.now

pub returns-in_err-draft-clause-decided : goal.returns-in_err-draft-clause-decided
returns-in_err-draft-clause-decided c = decided c.args.text.now
