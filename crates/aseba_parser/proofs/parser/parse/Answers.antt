use Rattle.std.proofs.Common.{List}
use Rattle.aseba_tree.specs.declared.pos.Pos.{Pos}
use Rattle.aseba_tree.specs.declared.token.Token.{Token}
use Rattle.aseba_tree.specs.Code.{Project}
use Rattle.aseba_tree.specs.View.{source_view, project_view}
use Rattle.aseba_parser.specs.declared.fault.Fault.{Fault}
use Rattle.aseba_parser.specs.declared.fault.Fault.TheVariants as fault
use Rattle.aseba_parser.specs.Reading.{program_read}
use Rattle.aseba_parser.specs.Reads.{Stops}
use Rattle.aseba_parser.specs.Parsed.{TellsFault, error_of}
use Rattle.aseba_parser.proofs.Parses.{parsed_tree, parsed_syntax, parsed_deep, parsed_decided}
use Rattle.aseba_parser.proofs.SpelledTree.{spelled-count, spelled-tree}
use Rattle.aseba_parser.proofs.parser.parse.Goals as goal

tells : (project : Project) (tokens : List Token) (end : Pos) (e : Fault) → Stops (program_read project 64 tokens) e → TellsFault project tokens end (error_of end e)
tells project tokens end (fault.Syntax rest) h = parsed_syntax project tokens end rest.now h
tells project tokens end (fault.TooDeep rest) h = parsed_deep project tokens end rest.now h
tells project tokens end fault.Mem h = tt

pub returns-in-Ok-clause-tree : goal.returns-in-Ok-clause-tree
returns-in-Ok-clause-tree c = parsed_tree (project_view c.args.project.now) c.args.tokens.now (source_view c.in-Ok.source) _ c.in-Ok.ensures

pub returns-in-Ok-clause-counted : goal.returns-in-Ok-clause-counted
returns-in-Ok-clause-counted c =
    let tree = parsed_tree (project_view c.args.project.now) c.args.tokens.now (source_view c.in-Ok.source) _ c.in-Ok.ensures in
    spelled-count (project_view c.args.project.now) (source_view c.in-Ok.source) c.args.tokens.now tree

pub returns-in-Ok-clause-shape : goal.returns-in-Ok-clause-shape
returns-in-Ok-clause-shape c few =
    let tree = parsed_tree (project_view c.args.project.now) c.args.tokens.now (source_view c.in-Ok.source) _ c.in-Ok.ensures in
    spelled-tree (project_view c.args.project.now) (source_view c.in-Ok.source) c.args.tokens.now tree few

pub returns-in-Ok-clause-decided : goal.returns-in-Ok-clause-decided
returns-in-Ok-clause-decided c = parsed_decided (project_view c.args.project.now) c.args.tokens.now c.args.end

pub returns-in-Err-clause-fault : goal.returns-in-Err-clause-fault
returns-in-Err-clause-fault c = rw c.error_of.ensures (tells (project_view c.args.project.now) c.args.tokens.now c.args.end c.in-Err.fault c.in-Err.ensures)

pub returns-in-Err-clause-decided : goal.returns-in-Err-clause-decided
returns-in-Err-clause-decided c = parsed_decided (project_view c.args.project.now) c.args.tokens.now c.args.end
