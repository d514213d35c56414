use Rattle.std.proofs.Common.{◌≡◌, drop, map}
use Rattle.aseba_tree.specs.View.{handler_view}
use Rattle.aseba_check.specs.Looked.{looked}
use Rattle.aseba_check.specs.Parts.{with_subs}
use Rattle.aseba_check.proofs.parts.add_subs.Given as goal

abbrev pub invariant-loop-place : goal.invariant-loop-place
invariant-loop-place l = with_subs (looked l.places) l.place (map handler_view (drop l.place l.parts)) ≡ with_subs (looked l.fn.places) 0 (map handler_view l.parts)
