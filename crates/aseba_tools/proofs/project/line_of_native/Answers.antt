use Rattle.aseba_tools.proofs.Projects.{has_line}
use Rattle.aseba_tools.proofs.project.line_of_native.Goals as goal

pub unreachable-requires : goal.unreachable-requires
unreachable-requires c = has_line c.args.text.now c.args.project.now c.args.others c.requires.spelled c.requires.there c.in-None.ensures
