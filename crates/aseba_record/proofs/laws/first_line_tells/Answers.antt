use Rattle.std.specs.Str.Lines.{lines}
use Rattle.aseba_record.proofs.Formats.{new_begins, old_begins}
use Rattle.aseba_record.proofs.laws.first_line_tells.Goals as goal

pub returns-clause-new : goal.returns-clause-new
returns-clause-new c = λ text events timed h. new_begins (lines text) events timed h

pub returns-clause-old : goal.returns-clause-old
returns-clause-old c = λ text timed h. old_begins (lines text) timed h
