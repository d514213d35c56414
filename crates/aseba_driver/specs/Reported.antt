-- What the code tells of a run, as the data of the definitions.
use Rattle.std.specs.Prelude.{ℕ, List, map, slice_index, Option, option_to_list}
use Rattle.aseba_tree.specs.Line as tree
use Rattle.aseba_tree.specs.Line.{told, line_by, lines_text}
use Rattle.aseba_driver.specs.declared.legend.Legend.{Legend}
use Rattle.aseba_driver.specs.declared.moment.Moment.{Moment}
use Rattle.aseba_driver.specs.declared.report.EventName.{EventName}
use Rattle.aseba_driver.specs.declared.report.EventName.TheVariants.{Named, Numbered}
use Rattle.aseba_driver.specs.declared.report.Report.{Report}
use Rattle.aseba_driver.specs.declared.report.Report.TheVariants.{Began, Ignored, Dropped, Killed, WasSet, Sent, Division, Bounds}

abbrev pub name_view : EventName → tree.Event
name_view (Named name) = tree.named name.now
name_view (Numbered n) = tree.numbered n

abbrev pub report_view : Report → tree.Report
report_view (Began event) = tree.began (name_view event)
report_view (Ignored event) = tree.ignored (name_view event)
report_view (Dropped event) = tree.dropped (name_view event)
report_view (Killed line) = tree.killed line
report_view (WasSet name) = tree.was_set name.now
report_view (Sent event cells) = tree.sent (name_view event) cells.now
report_view (Division line) = tree.division line
report_view (Bounds line size index) = tree.bounds line size index

-- the source line of a place of the code
abbrev pub line_in : Legend → ℕ → ℕ
line_in legend pc = slice_index legend.lines.now pc

-- the text of what a tick tells, if it tells something
abbrev pub report_text : Legend → Moment → Option tree.Report → List ℕ
report_text legend moment report = lines_text (map (line_by (line_in legend)) (map (told moment.ticks moment.effects) (option_to_list report)))
