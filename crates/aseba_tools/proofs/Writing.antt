-- What was written, and what was to be written.
use Rattle.std.proofs.Common.{◌≡◌, ℕ, List, Option, Result, Ok, Err, OnOk, OnErr, is_err, true, false, subst}
use Rattle.aseba_edge.specs.declared.sink.PutFault.{PutFault}
use Rattle.aseba_edge.specs.Counts.{Counts}
use Rattle.aseba_tools.specs.Outcome.{MessagePut}
use Rattle.aseba_edge.specs.Sink.{Took, TookFirst}

-- what holds anyway holds at an error
pub on_err : {T E : Type 0} (r : Result T E) (P : Type 0) → P → OnErr r P
on_err (Ok x) P p = tt
on_err (Err e) P p = p

-- a message was told, whether a put failed or not
pub told : {T : Type 0} (r : Result T PutFault) (before after : Option (List ℕ)) (faults_before faults_after : ℕ) (text message : List ℕ) → text ≡ message → OnOk r (Took before text after) → OnErr r (TookFirst before text after) → Counts (is_err r) faults_before faults_after → MessagePut before message after faults_before faults_after
told (Ok x) before after f g text message e w p counts = record { failed = false; count = counts; took = subst (λ (t : List ℕ). Took before t after) e w }
told (Err x) before after f g text message e w p counts = record { failed = true; count = counts; took = subst (λ (t : List ℕ). TookFirst before t after) e p }
