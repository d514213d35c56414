use Rattle.aseba_tools.proofs.NativesKnown.{project-first}
use Rattle.aseba_tools.proofs.given.read_given.Goals as goal

pub returns-clause-natives : goal.returns-clause-natives
returns-clause-natives g c known = project-first c.args.allowed known c.args.word.now _ c.in_ok-project.project c.in_ok-project.ensures.project
