use Rattle.std.proofs.Common.{◌≡◌, length, map, arith, sym, ◌∙◌}
use Rattle.std.specs.Str.Lines.{lines}
use Rattle.std.proofs.lemmas.Bool.{eqb-true}
use Rattle.aseba_text.specs.Lines.{spoken}
use Rattle.aseba_tree.specs.View.{placed_view, project_view}
use Rattle.aseba_driver.specs.Grammar.{ScriptText}
use Rattle.aseba_driver.proofs.EntryLaws.{all_known, all_good}
use Rattle.aseba_driver.proofs.ScriptLaws.{no_lines, reading_goes, reading_stops, reading_ends}
use Rattle.aseba_driver.proofs.reading.read_script.Goals as goal

pub returns-in-Err-Bad-clause-line : goal.returns-in-Err-Bad-clause-line
returns-in-Err-Bad-clause-line c =
    reading_stops (project_view c.args.project.now) (map placed_view c.args.places.now) (lines c.args.text.now) (lines c.loop-rest.rest.now) (lines c.first_line.result.1.now) c.first_line.result.0.now c.loop-rest.script c.loop-rest.n
    c.first_line.ensures.first (rw c.in-Err-Bad.field-0-is at c.in-Err-Bad.ensures) c.loop-rest.invariant.so_far

pub loop-rest-preserved : goal.loop-rest-preserved
loop-rest-preserved c = record {
  so_far = reading_goes (project_view c.args.project.now) (map placed_view c.args.places.now) (lines c.args.text.now) (lines c.loop-rest.rest.now) (lines c.first_line.result.1.now) c.first_line.result.0.now c.loop-rest.script
      c.take_line.new.script c.loop-rest.n c.first_line.ensures.first c.in-Ok.ensures c.loop-rest.invariant.so_far;
  few = omega (arith, c.loop-rest.invariant.few, c.first_line.ensures.shorter);
}

pub returns-clause-script : goal.returns-clause-script
returns-clause-script c =
    let none : length c.loop-rest.rest.now ≡ 0 = eqb-true _ _ (sym c.is_empty.ensures ∙ c.loop-rest-test.false) in
    reading_ends (project_view c.args.project.now) (map placed_view c.args.places.now) (lines c.args.text.now) (lines c.loop-rest.rest.now) c.loop-rest.script c.loop-rest.n (no_lines c.loop-rest.rest.now none) c.loop-rest.invariant.so_far

pub returns-clause-known : goal.returns-clause-known
returns-clause-known c =
    let none : length c.loop-rest.rest.now ≡ 0 = eqb-true _ _ (sym c.is_empty.ensures ∙ c.loop-rest-test.false) in
    let read : ScriptText (project_view c.args.project.now) (map placed_view c.args.places.now) c.args.text.now c.loop-rest.script =
    reading_ends (project_view c.args.project.now) (map placed_view c.args.places.now) (lines c.args.text.now) (lines c.loop-rest.rest.now) c.loop-rest.script c.loop-rest.n (no_lines c.loop-rest.rest.now none) c.loop-rest.invariant.so_far in
    all_known (project_view c.args.project.now) (map placed_view c.args.places.now) (spoken (lines c.args.text.now)) c.loop-rest.script read.said

pub returns-clause-good : goal.returns-clause-good
returns-clause-good c =
    let none : length c.loop-rest.rest.now ≡ 0 = eqb-true _ _ (sym c.is_empty.ensures ∙ c.loop-rest-test.false) in
    let read : ScriptText (project_view c.args.project.now) (map placed_view c.args.places.now) c.args.text.now c.loop-rest.script =
    reading_ends (project_view c.args.project.now) (map placed_view c.args.places.now) (lines c.args.text.now) (lines c.loop-rest.rest.now) c.loop-rest.script c.loop-rest.n (no_lines c.loop-rest.rest.now none) c.loop-rest.invariant.so_far in
    all_good (project_view c.args.project.now) (map placed_view c.args.places.now) (spoken (lines c.args.text.now)) c.loop-rest.script read.said
