use Rattle.std.proofs.Common.{subst, inr, option_map}
use Rattle.aseba_tree.specs.View.{project_view}
use Rattle.aseba_tools.specs.Simulated.{Ran, WithScript}
use Rattle.aseba_tools.proofs.sim.sim.Goals as goal

-- what the files hold is as before the project was read
pub returns-in-Ok-clause-simulated : goal.returns-in-Ok-clause-simulated
returns-in-Ok-clause-simulated g c =
    inr
    (record {
      project = c.in-Ok.given.project;
      text = c.in-Ok.given.text;
      given = c.in-Ok.ensures.given;
      holds =
          subst
          (λ held. WithScript (option_map (λ name. name.now) c.args.script) (λ name. option_map (λ files. files name) held) (g.S.Sink.taken c.args.out.now) (g.S.Sink.taken c.run_given.new.out) c.run_given.result
          (λ script. Ran (project_view c.in-Ok.given.project) c.in-Ok.given.text script c.args.ticks (g.S.Sink.taken c.args.out.now) (g.S.Sink.taken c.run_given.new.out) c.run_given.result))
          c.read_given.ensures.files c.run_given.ensures.ran;
    })
