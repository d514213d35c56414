use Rattle.std.proofs.Common.{◌≡◌, ◌++◌, length, take}
use Rattle.std.specs.List.{AllByRecursion, flat_map}
use Rattle.aseba_payload.specs.Layout.{word_bytes, param_bytes, IsParam}
use Rattle.aseba_payload.proofs.writing.params.Given as goal

abbrev pub invariant-loop-one : goal.invariant-loop-one
invariant-loop-one l = record {
  written : l.out.items ≡ (l.fn.out.items ++ word_bytes (length l.params)) ++ flat_map param_bytes (take l.one-index l.params);
  values : AllByRecursion IsParam (take l.one-index l.params);
}
