-- The default project is that of its text.
use Rattle.std.proofs.Common.{◌≡◌, Ok, refl, sym, subst}
use Rattle.std.specs.Fmt.{digits}
use Rattle.std.specs.Str.Lines.{lines}
use Rattle.aseba_tree.specs.declared.project.Project.{Project}
use Rattle.aseba_tree.specs.Tokens.{is_keyword}
use Rattle.aseba_describe.specs.Defaults.{default_project, default_text}
use Rattle.aseba_describe.specs.Grammar.{ProjectText}
use Rattle.aseba_describe.specs.Spelling.{project_text}
use Rattle.aseba_text.specs.Numbers.{number_of, cell_of}
use Rattle.aseba_describe.specs.Reading.{sized_of, local_of, const_of, param_of, next_of, params_of, native_of, list_entry_by, entry_by, with_variable, with_local, with_native, with_event, with_const, with_entry, with_line, empty_draft, read_from}
use Rattle.aseba_describe.proofs.BadLines.{gives_project}

default_spelled : project_text default_project ≡ default_text
unfolding digits default_text
default_spelled = refl

default_read : read_from 1 empty_draft (lines default_text) ≡ Ok default_project
unfolding digits default_text is_keyword number_of cell_of sized_of local_of const_of param_of next_of params_of native_of list_entry_by entry_by with_variable with_local with_native with_event with_const with_entry with_line
default_read = refl

pub default_is_read : (p : Project) → p ≡ default_project → ProjectText default_text p
default_is_read p e = subst (ProjectText default_text) (sym e) (gives_project default_text empty_draft (Ok default_project) refl default_read)
