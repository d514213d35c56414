-- The time of the last event.
use Rattle.std.proofs.Common.{◌≡◌, ℕ, suc, ◌-◌, ◌≤◌, List, [], ◌∷◌, length, get_or, ap, ◌∙◌, arith}
use Rattle.aseba_dump.specs.declared.timed.Timed.{Timed}
use Rattle.aseba_record.specs.Reading.{last_time}

pub last_is : (time : ℕ) (timed : List Timed) (t : Timed) → 1 ≤ length timed → t ≡ get_or timed (length timed - 1) t → t.time ≡ last_time time timed
last_is time [] t some h = absurd (omega arith)
last_is time (x ∷ []) t some h =
    let none : length (x ∷ []) - 1 ≡ 0 = omega arith in
    ap (λ (y : Timed). y.time) (h ∙ ap (λ k. get_or (x ∷ []) k t) none)
last_is time (x ∷ y ∷ ys) t some h =
    let next : length (x ∷ y ∷ ys) - 1 ≡ suc (length (y ∷ ys) - 1) = omega arith in
    last_is x.time (y ∷ ys) t (omega arith) (h ∙ ap (λ k. get_or (x ∷ y ∷ ys) k t) next)
