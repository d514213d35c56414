-- What is told of a whole source: its declarations, its init code and its parts, one behind the other.
use Rattle.std.specs.Prelude.{ℕ, List, [], ◌++◌, Option, None, is_some, option_and_then, slice_get}
use Rattle.aseba_tree.specs.declared.project.Project.{Project}
use Rattle.aseba_tree.specs.Code.{Handler, Source}
use Rattle.aseba_tree.specs.State.{Program}
use Rattle.aseba_tree.specs.Faults as tree
use Rattle.aseba_check.specs.declared.fault.Fault.{Fault}
use Rattle.aseba_tree.specs.Each.{EachStmts, EachDecl, EachPartOf}
use Rattle.aseba_check.specs.Fits.{Fits}
use Rattle.aseba_check.specs.Looked.{nothing}
use Rattle.aseba_check.specs.Declarations.{Names, ConstsFit, with_consts, with_variables, all_declaring, decls_told, decl_sizes}
use Rattle.aseba_check.specs.Statements.{Known, stmts_told}
use Rattle.aseba_check.specs.Parts.{with_globals, with_locals, with_natives, with_subs, parts_told}

-- what names mean before the first declaration
abbrev pub first_names : Project → Names
first_names project = with_variables (with_consts nothing project.consts) project.node.variables

-- what statements may name in a project, where these are the names and the parts
abbrev pub known_in : Project → List Handler → Names → Known
known_in project parts names = record {
  meaning = names;
  event = with_locals (with_globals nothing project.events) project.node.locals;
  native = λ name. option_and_then (λ place. slice_get project.node.natives place) (with_natives nothing 0 project.node.natives name);
  is_sub = λ name. is_some (with_subs nothing 0 parts name);
}

-- what statements of a source may name
abbrev pub known_to : Project → Source → Known
known_to project source = known_in project source.parts (all_declaring (first_names project) source.vars)

-- the sizes of its variables
abbrev pub source_sizes : Project → Source → List (Option ℕ)
source_sizes project source = decl_sizes (first_names project) source.vars

-- the fault that is told of a source, leaving out the cycles of its subroutines
abbrev pub rules_told : Project → Source → Option Fault
rules_told project source =
    parts_told (known_to project source) nothing nothing (stmts_told (known_to project source) (decls_told (first_names project) None source.vars) source.init) source.parts

-- each number of a source and of its project's constants is one that a cell holds
pub record SourceFits (project : Project) (source : Source) : Type 0 where
  pub consts : ConstsFit project.consts
  pub vars : EachDecl Fits source.vars
  pub init : EachStmts Fits source.init
  pub parts : EachPartOf Fits source.parts

-- the faults of a source, leaving out the cycles of its subroutines
abbrev pub rule_faults : Program → List tree.Fault
rule_faults program =
    tree.decls_faults (tree.first_scope program.project) program.source.vars ++ tree.stmts_faults (tree.world_of program) program.source.init ++ tree.parts_faults (tree.world_of program) [] program.source.parts
