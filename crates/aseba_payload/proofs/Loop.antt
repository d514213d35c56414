-- Reading parameters one after the other, as a loop does.
use Rattle.std.proofs.Common.{◌≡◌, ℕ, suc, ◌-◌, ◌+◌, ◌≤◌, ◌<◌, List, [], ◌∷◌, ◌++◌, Result, Ok, Err, refl, sym, ap, ◌∙◌, append_assoc, arith}
use Rattle.std.proofs.lemmas.List.{append-nil}
use Rattle.aseba_tree.specs.declared.description.Param.{Param}
use Rattle.aseba_payload.specs.declared.fault.Fault.{Fault}
use Rattle.aseba_payload.specs.declared.fault.Fault.TheVariants.{Short, Long, NotWords, UnknownType, Mem}
use Rattle.aseba_payload.specs.Reading.{◌>>=◌, Fails, param_at, list_of_params_at}

-- what was read before, and what is still read
abbrev pub with_front : List Param → Result (List Param × List ℕ) Fault → Result (List Param × List ℕ) Fault
with_front front read = read >>= λ x. Ok (front ++ x.0, x.1)

regroup : (front : List Param) (p : Param) (read : Result (List Param × List ℕ) Fault) → with_front front (read >>= λ x. Ok (p ∷ x.0, x.1)) ≡ with_front (front ++ p ∷ []) read
regroup front p (Ok x) = ap (λ (ps : List Param). Ok (ps, x.1)) (simp append_assoc)
regroup front p (Err f) = refl

pub goes_on : (front : List Param) (count i : ℕ) (bytes : List ℕ) (p : Param) (after : List ℕ) (total : Result (List Param × List ℕ) Fault) → i < count → param_at bytes ≡ Ok (p, after)
    → with_front front (list_of_params_at (count - i) bytes) ≡ total → with_front (front ++ p ∷ []) (list_of_params_at (count - (i + 1)) after) ≡ total
unfolding list_of_params_at
goes_on front count i bytes p after total lt h so_far =
    let k : count - i ≡ suc (count - (i + 1)) = omega arith in
    let one : with_front front (list_of_params_at (count - i) bytes) ≡ with_front (front ++ p ∷ []) (list_of_params_at (count - (i + 1)) after) = rw (k, h) (regroup front p (list_of_params_at (count - (i + 1)) after)) in
    sym one ∙ so_far

stops : (f : Fault) (front : List Param) (count i : ℕ) (bytes : List ℕ) (total : Result (List Param × List ℕ) Fault) → i < count → param_at bytes ≡ Err f
    → with_front front (list_of_params_at (count - i) bytes) ≡ total → total ≡ Err f
unfolding list_of_params_at
stops f front count i bytes total lt h so_far =
    let k : count - i ≡ suc (count - (i + 1)) = omega arith in
    let one : with_front front (list_of_params_at (count - i) bytes) ≡ Err f = rw (k, h) refl in
    sym so_far ∙ one

pub fails : (f : Fault) (front : List Param) (count i : ℕ) (bytes : List ℕ) (total : Result (List Param × List ℕ) Fault) → i < count → Fails f (param_at bytes)
    → with_front front (list_of_params_at (count - i) bytes) ≡ total → Fails f total
fails Mem front count i bytes total lt h so_far = tt
fails Short front count i bytes total lt h so_far = stops Short front count i bytes total lt h so_far
fails (Long at) front count i bytes total lt h so_far = stops (Long at) front count i bytes total lt h so_far
fails (NotWords len) front count i bytes total lt h so_far = stops (NotWords len) front count i bytes total lt h so_far
fails UnknownType front count i bytes total lt h so_far = stops UnknownType front count i bytes total lt h so_far

pub is_done : (front : List Param) (count i : ℕ) (bytes : List ℕ) (total : Result (List Param × List ℕ) Fault) → count ≤ i → with_front front (list_of_params_at (count - i) bytes) ≡ total → total ≡ Ok (front, bytes)
unfolding list_of_params_at
is_done front count i bytes total le so_far =
    let k : count - i ≡ 0 = omega arith in
    let one : with_front front (list_of_params_at (count - i) bytes) ≡ Ok (front, bytes) = rw k (ap (λ (ps : List Param). Ok (ps, bytes)) (append-nil front)) in
    sym so_far ∙ one
