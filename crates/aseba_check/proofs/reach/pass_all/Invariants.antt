use Rattle.std.proofs.Common.{◌≡◌, false, drop, map}
use Rattle.aseba_check.specs.Looked.{looked}
use Rattle.aseba_check.specs.Cycles.{call_view, all_passed, any_leads_on}
use Rattle.aseba_check.proofs.reach.pass_all.Given as goal

abbrev pub invariant-loop-call : goal.invariant-loop-call
invariant-loop-call l = record {
  more : any_leads_on l.more (looked l.marks) (map call_view (drop l.call-index l.calls)) ≡ any_leads_on false (looked l.fn.marks) (map call_view l.calls);
  marks : all_passed (looked l.marks) (map call_view (drop l.call-index l.calls)) ≡ all_passed (looked l.fn.marks) (map call_view l.calls);
}
