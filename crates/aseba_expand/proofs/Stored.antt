-- The room of an assignment's temporaries, and the addresses of a part of a variable.
use Rattle.std.proofs.Common.{◌≡◌, refl, ◌∙◌, ap, None, ℕ, zero, suc, ◌+◌, ◌≤◌, List, [], ◌∷◌, length, map, arith}
use Rattle.std.specs.Prelude.{Result, Ok, Err, OnOk}
use Rattle.std.specs.List.{range_with_len}
use Rattle.aseba_tree.specs.CoreExpr.{CoreExpr}
use Rattle.aseba_tree.specs.Numbers.{assigned_room}
use Rattle.std.proofs.lemmas.List.{length-map}

by-room : (cells : ℕ) (es : List CoreExpr) → cells ≤ 4096 → cells + assigned_room None es ≤ 65535 → cells + length es ≤ 65535
by-room cells [] few h = h
by-room cells (e ∷ []) few h = omega (arith, few)
by-room cells (e ∷ f ∷ es) few h = h

-- elements that go into cells at once or by way of temporaries have room
pub room-left : {X : Type 0} (v : X → CoreExpr) (cells scope : ℕ) (es : List X) → scope ≡ cells → scope ≤ 4096 → cells + assigned_room None (map v es) ≤ 65535 → scope + length es ≤ 65535
room-left v cells scope es same few h =
    let long = length-map es v in
    let room = by-room cells (map v es) (omega (arith, same, few)) h in
    omega (arith, same, long, room)

pub addresses-from : (start first count : ℕ) → range_with_len (start + first) count ≡ map (λ i. start + i) (range_with_len first count)
addresses-from start first zero = refl
addresses-from start first (suc n) =
    let next : start + first + 1 ≡ start + (first + 1) = omega arith in
    ap (λ m. (start + first) ∷ range_with_len m n) next ∙ ap (λ es. (start + first) ∷ es) (addresses-from start (first + 1) n)

-- what follows for a call that succeeded
pub on-ok : {A E : Type 0} (r : Result A E) (P Q : Type 0) → (P → Q) → OnOk r P → OnOk r Q
on-ok (Ok a) P Q f h = f h
on-ok (Err e) P Q f h = tt
