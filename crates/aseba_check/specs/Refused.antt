-- What the answers of a check tell of a program.
use Rattle.std.specs.Prelude.{◌≡◌, Option, Some, None, IfSome}
use Rattle.aseba_tree.specs.declared.project.Project.{Project}
use Rattle.aseba_tree.specs.declared.source.Source.{Source}
use Rattle.aseba_tree.specs.State.{Program}
use Rattle.aseba_tree.specs.View.{place_view, project_view, source_view}
use Rattle.aseba_tree.specs.Faults as rule
use Rattle.aseba_tree.specs.Soundness.{Refusal, broken, variables_full, subroutine_far, refusal}
use Rattle.aseba_check.specs.declared.far.Far.{Far}
use Rattle.aseba_check.specs.declared.error.CheckError.{CheckError}
use Rattle.aseba_check.specs.declared.error.CheckError.TheVariants as Error

-- a source in its project, as the definitions see them
abbrev pub program_in : Project → Source → Program
program_in project source = record { project = project_view project; source = source_view source }

-- a subroutine that begins too far behind, as the cause of a refusal
abbrev pub far_view : Far → Refusal
far_view far = subroutine_far (place_view far.at) far.start

-- the refusal of which an error tells; want of memory tells of none
abbrev pub refusal_of : CheckError → Option Refusal
refusal_of (Error.Unknown at) = Some (broken (record { place = place_view at; rule = rule.unknown }))
refusal_of (Error.Duplicate at) = Some (broken (record { place = place_view at; rule = rule.duplicate }))
refusal_of (Error.NotConstant at) = Some (broken (record { place = place_view at; rule = rule.not_constant }))
refusal_of (Error.ConstantDivision at) = Some (broken (record { place = place_view at; rule = rule.constant_division }))
refusal_of (Error.ZeroStep at) = Some (broken (record { place = place_view at; rule = rule.zero_step }))
refusal_of (Error.BadSize at want got) = Some (broken (record { place = place_view at; rule = rule.bad_size want got }))
refusal_of (Error.IndexOut at size index) = Some (broken (record { place = place_view at; rule = rule.index_out size index }))
refusal_of (Error.NotScalar at) = Some (broken (record { place = place_view at; rule = rule.not_scalar }))
refusal_of (Error.EventSize at want got) = Some (broken (record { place = place_view at; rule = rule.event_size want got }))
refusal_of (Error.ArgCount at want got) = Some (broken (record { place = place_view at; rule = rule.arg_count want got }))
refusal_of (Error.Recursion at) = Some (broken (record { place = place_view at; rule = rule.recursion }))
refusal_of (Error.VariablesFull need have) = Some (variables_full need have)
refusal_of (Error.SubroutineFar at start) = Some (subroutine_far (place_view at) start)
refusal_of Error.Mem = None

-- the error tells why the program is refused
abbrev pub TellsRefusal : Program → CheckError → Type 0
TellsRefusal program error = IfSome (refusal_of error) (λ r. refusal program ≡ Some r)
