-- A queue from which nothing could be taken is as it was.
use Rattle.std.proofs.Common.{◌≡◌, ◌∙◌, ◌⊎◌, inl, inr, ◌<◌, ◌≤◌, ℕ, suc, ◌==◌, Bool, true, false, List, [], ◌∷◌, length, None, nat_lt, refl, sym, ap, subst, arith, eqb-true, eq-eqb}
use Rattle.std.proofs.lemmas.Bool.{cases_lt, lt-ltb}
use Rattle.std.proofs.lemmas.List.{nil_from_length}
use Rattle.aseba_router.specs.Hub.{Put}
use Rattle.aseba_router.specs.Memory.{Popped, queue_at}
use Rattle.aseba_router.specs.Queue.{Queue}

-- queues that are the same at each port are the same
same-queues : (new old : List Queue) → length new ≡ length old → ((q : ℕ) → queue_at new q ≡ queue_at old q) → new ≡ old
same-queues [] [] count each = refl
same-queues [] (b ∷ old) count each = absurd (omega (arith, count))
same-queues (a ∷ new) [] count each = absurd (omega (arith, count))
same-queues (a ∷ new) (b ∷ old) count each = ap (λ x. x ∷ new) (each 0) ∙ ap (λ l. b ∷ l) (same-queues new old (omega (arith, count)) (λ q. each (suc q)))

pub popped-none : (p : ℕ) (old new : List Queue) → Popped p None old new → ((queue_at old p).list ≡ []) × (new ≡ old)
popped-none p old new popped = (nil_from_length (queue_at old p).list (none (length (queue_at old p).list) popped.some), same-queues new old popped.count (λ q. at q (q == p) refl))
  where
    clash : true ≡ false → ⊥
    clash e = absurd cc

    unlike : {b : Bool} → b ≡ true → b ≡ false → ⊥
    unlike is other = clash (sym is ∙ other)

    none : (n : ℕ) → false ≡ nat_lt 0 n → n ≡ 0
    none n e = by_order (cases_lt 0 n)
      where
        by_order : (0 < n) ⊎ (n ≤ 0) → n ≡ 0
        by_order (inl h) = absurd (unlike (lt-ltb 0 n h) (sym e))
        by_order (inr h) = omega (arith, h)

    at : (q : ℕ) (c : Bool) → (q == p) ≡ c → queue_at new q ≡ queue_at old q
    at q true e =
        let here : q ≡ p = eqb-true q p e in
        subst (λ (n : ℕ). queue_at new n ≡ queue_at old n) (sym here) (popped.rest ∙ ap (λ (l : List Put). record (queue_at old p) { list = l }) (sym popped.list))
    at q false e = popped.others q (λ eq. unlike (eq-eqb q p eq) e)
