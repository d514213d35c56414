-- Where a project's text tells of its natives.
use Rattle.std.proofs.Common.{ℕ, ◌<◌, ◌≤◌, List, length, arith}
use Rattle.std.specs.Str.Lines.{lines}
use Rattle.aseba_tree.specs.declared.project.Project.{Project}
use Rattle.aseba_describe.specs.Grammar.{ProjectText}
use Rattle.aseba_describe.specs.NativeLines.{natives_told}
use Rattle.aseba_describe.proofs.NativeLines.{tells_natives}

-- each native of a project has its line
pub has_line : (text : List ℕ) (p : Project) (others : ℕ) → ProjectText text p → others < length p.node.natives → natives_told (lines text) ≤ others → ⊥
has_line text p others spelled there few = let all = tells_natives (lines text) p spelled in omega (arith, all, there, few)
