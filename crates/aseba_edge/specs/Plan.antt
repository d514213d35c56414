-- The calls of an object in memory: which are to fail, and how they are counted.
use Rattle.std.specs.Prelude.{ℕ, ◌+◌, ◌-◌, ◌^◌, min, Bool, List, nat_eq, if◌then◌else◌}
use Rattle.std.specs.List.{list_any}
use Rattle.aseba_edge.specs.declared.plan.Plan.{Plan}

-- a count goes up by one, and stands still at its end
abbrev pub next_call : ℕ → ℕ
next_call count = min (count + 1) (2 ^ 64 - 1)

-- whether a call's number stands in the list
abbrev pub is_named : List ℕ → ℕ → Bool
is_named numbers call = list_any (λ number. nat_eq number call) numbers

-- whether the next call is to fail
abbrev pub fails_next : Plan → Bool
fails_next plan = is_named plan.failing (next_call plan.calls)

-- a count of faults behind a call: one more where the call failed
abbrev pub faults_after : Bool → ℕ → ℕ
faults_after failed faults = if failed then next_call faults else faults

-- a plan behind a call: the call is counted, and where it failed its fault is too; which calls are to fail stays
abbrev pub after_call : Bool → Plan → Plan
after_call failed plan = record plan { calls = next_call plan.calls; faults = faults_after failed plan.faults }
