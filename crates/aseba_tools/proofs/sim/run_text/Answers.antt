use Rattle.aseba_tree.specs.View.{project_view}
use Rattle.aseba_tools.proofs.Works.{not_run}
use Rattle.aseba_tools.proofs.sim.run_text.Goals as goal

pub returns-in-Err-clause-ran : goal.returns-in-Err-clause-ran
returns-in-Err-clause-ran g c =
    not_run (project_view c.args.project.now) c.args.text.now _ c.args.ticks (g.S.Sink.taken c.args.out.now) c.in-Err.status c.in-Err.ensures.why
