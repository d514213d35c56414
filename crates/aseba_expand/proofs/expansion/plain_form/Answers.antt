use Rattle.aseba_check.specs.Refused.{program_in}
use Rattle.aseba_expand.specs.Scope.{program_of}
use Rattle.aseba_expand.proofs.ProjectLaws.{scope-core, scope-numbers, scope-room}
use Rattle.aseba_expand.proofs.expansion.plain_form.Goals as goal

pub core_of-requires-clause-numbers : goal.core_of-requires-clause-numbers
core_of-requires-clause-numbers c = scope-numbers (program_in c.args.project.now c.args.checked.now.source) (program_of c.in_ok-scope.scope) c.args.numbers c.in_ok-scope.ensures.program c.requires.numbers

pub core_of-requires-clause-room : goal.core_of-requires-clause-room
core_of-requires-clause-room c = scope-room (program_in c.args.project.now c.args.checked.now.source) (program_of c.in_ok-scope.scope) c.in_ok-scope.ensures.program c.requires.room

pub returns : goal.returns
returns c = scope-core (program_in c.args.project.now c.args.checked.now.source) (program_of c.in_ok-scope.scope) c.in_ok-scope.ensures.program c.core_of.result c.core_of.ensures
