-- What was added and what is left to add are all.
use Rattle.std.proofs.Common.{◌≡◌, pos, flat_map, ◌++◌, drop}
use Rattle.aseba_codegen.specs.Words.{large_number_code}
use Rattle.aseba_codegen.proofs.words.add_addresses.Given as goal

abbrev pub invariant-loop-address : goal.invariant-loop-address
invariant-loop-address l =
    l.words ++ flat_map (λ address. large_number_code (pos address)) (drop l.address-index l.addresses)
    ≡ l.initial.words ++ flat_map (λ address. large_number_code (pos address)) l.addresses
