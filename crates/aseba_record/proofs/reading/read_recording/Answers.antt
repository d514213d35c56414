use Rattle.aseba_record.proofs.Decided.{decided, gives_recording, tells_line}
use Rattle.aseba_record.proofs.reading.read_recording.Goals as goal

pub returns-clause-recording : goal.returns-clause-recording
returns-clause-recording c = gives_recording c.args.text.now c.read_text.result c.read_text.ensures

pub returns-clause-line : goal.returns-clause-line
returns-clause-line c = tells_line c.args.text.now c.read_text.result c.read_text.ensures

pub returns-clause-decided : goal.returns-clause-decided
returns-clause-decided c = decided c.args.text.now
