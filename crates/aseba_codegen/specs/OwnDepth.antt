-- The stack cells of a core's own code, counted up to a number: those of subroutines in rounds, each of which follows calls one deeper.
use Rattle.std.specs.Prelude.{ℕ, zero, suc, min, max, if◌then◌else◌, List, [], ◌∷◌, map, slice_index}
use Rattle.aseba_tree.specs.Core.{CoreStmts, CorePart}
use Rattle.aseba_tree.specs.CoreNumbers.{core_list_depth, is_handler}

-- those of statements, where each subroutine takes what stands at its place
abbrev pub depth_by : List ℕ → CoreStmts → ℕ
depth_by depths body = core_list_depth (λ which. slice_index depths which) body

-- those of each part, where calls take what was counted before
abbrev pub depth_round : ℕ → List CorePart → List ℕ → List ℕ
depth_round most parts depths = map (λ part. min most (depth_by depths part.body)) parts

-- those of each part, where calls are at most so many deep
abbrev pub depths_after : ℕ → List CorePart → ℕ → List ℕ
depths_after most parts zero = []
depths_after most parts (suc n) = depth_round most parts (depths_after most parts n)

-- those of a handler, and none for a subroutine
abbrev pub handled_depth : List ℕ → CorePart → ℕ
handled_depth depths part = if is_handler part then depth_by depths part.body else 0

-- the most that a handler takes
abbrev pub deepest_handler : List ℕ → List CorePart → ℕ
deepest_handler depths [] = 0
deepest_handler depths (part ∷ parts) = max (handled_depth depths part) (deepest_handler depths parts)
