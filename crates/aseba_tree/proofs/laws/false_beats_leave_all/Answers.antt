use Rattle.std.proofs.Common.{refl, append-nil, map}
use Rattle.aseba_tree.specs.Line.{told}
use Rattle.aseba_tree.specs.Script.{actions_at}
use Rattle.aseba_tree.specs.Run.{all_reports}
use Rattle.aseba_tree.specs.Lines.{source_system}
use Rattle.aseba_tree.proofs.Steps.{all_ticking-false, lines-false}
use Rattle.aseba_tree.proofs.laws.false_beats_leave_all.Goals as goal

pub returns : goal.returns
returns c = record {
  one = λ program script run. refl;
  one_tells = λ program script run. append-nil (map (told run.ticks run.effects) (all_reports (source_system program) run.state (actions_at script run.ticks)));
  all = all_ticking-false;
  all_tell = lines-false;
}
