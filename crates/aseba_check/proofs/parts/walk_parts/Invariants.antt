use Rattle.std.proofs.Common.{◌≡◌, drop, map}
use Rattle.aseba_tree.specs.View.{handler_view}
use Rattle.aseba_tree.specs.Each.{EachPartOf}
use Rattle.aseba_check.specs.Fits.{Fits}
use Rattle.aseba_check.specs.Looked.{looked}
use Rattle.aseba_check.specs.Statements.{known_of}
use Rattle.aseba_check.specs.Parts.{parts_told}
use Rattle.aseba_check.proofs.parts.walk_parts.Given as goal

abbrev pub invariant-loop-part : goal.invariant-loop-part
invariant-loop-part l = record {
  told : parts_told (known_of l.world) (looked l.subs) (looked l.events) l.fault (map handler_view (drop l.part-index l.parts)) ≡ parts_told (known_of l.world) (looked l.fn.subs) (looked l.fn.events) l.fn.before (map handler_view l.parts);
  fits : EachPartOf Fits (map handler_view (drop l.part-index l.parts)) → EachPartOf Fits (map handler_view l.parts);
}
