use Rattle.std.proofs.Common.{◌≡◌, drop, map}
use Rattle.aseba_tree.specs.View.{decl_view}
use Rattle.aseba_check.specs.Looked.{looked}
use Rattle.aseba_check.specs.CountedStatements.{none_taken}
use Rattle.aseba_check.specs.CountedParts.{vars_taken}
use Rattle.aseba_check.proofs.counting.parts.vars_taken.Given as goal

abbrev pub invariant-loop-decl : goal.invariant-loop-decl
invariant-loop-decl l = vars_taken (looked l.names) l.taken (map decl_view (drop l.decl-index l.vars)) ≡ vars_taken (looked l.names) none_taken (map decl_view l.vars)
