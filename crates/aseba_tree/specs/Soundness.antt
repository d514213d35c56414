-- Which sources are sound, and why another one is refused.
use Rattle.std.specs.Prelude.{◌≡◌, ℕ, nat_lt, if◌then◌else◌, find, Option, Some, None, option_map}
use Rattle.aseba_tree.specs.Code.{Place}
use Rattle.aseba_tree.specs.State.{Program}
use Rattle.aseba_tree.specs.Faults.{Fault, faults, first_fault}
use Rattle.aseba_tree.specs.Limits.{farthest}
use Rattle.aseba_tree.specs.Layout.{cells_of_variables}
use Rattle.aseba_tree.specs.Numbers.{is_large, Start, starts}

-- A rule is broken at a place; the variables need more cells than the node has; or the code of the subroutine whose name stands at a place begins too far behind.
pub data Refusal : Type 0 where
  broken : Fault → Refusal
  variables_full : (need have : ℕ) → Refusal
  subroutine_far : Place → (start : ℕ) → Refusal

-- the first subroutine that begins too far behind
abbrev pub far_subroutine : Program → Option Start
far_subroutine program = find (λ s. nat_lt farthest s.address) (starts program)

abbrev pub refusal_without_fault : Program → Option Refusal
refusal_without_fault program =
    if nat_lt program.project.node.cells (cells_of_variables program) then Some (variables_full (cells_of_variables program) program.project.node.cells)
    else (if is_large program.project then option_map (λ s. subroutine_far (s.sub).place s.address) (far_subroutine program) else None)

abbrev pub refusal_by : Program → Option Fault → Option Refusal
refusal_by program (Some fault) = Some (broken fault)
refusal_by program None = refusal_without_fault program

-- Why a program is refused: by its first fault, else by its variables, else by its subroutines.
abbrev pub refusal : Program → Option Refusal
refusal program = refusal_by program (first_fault (faults program))

-- Nothing is wrong with the source in its project.
abbrev pub Sound : Program → Type 0
Sound program = refusal program ≡ None
