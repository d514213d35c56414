-- Room for the entries of an item.
use Rattle.std.proofs.Common.{◌≡◌, ℕ, zero, suc, ◌+◌, ◌≤◌, ◌==◌, Bool, true, false, List, [], ◌++◌, length, replicate, Option, None, Some, option_map, refl, sym, ap, subst, arith, eqb-true, eq-eqb}
use Rattle.std.specs.Option.{option_to_list}
use Rattle.aseba_router.specs.declared.entry.Entry.{Entry}
use Rattle.aseba_router.specs.Hub.{Put}
use Rattle.aseba_router.specs.Memory.{empty, queue_at, Popped}
use Rattle.aseba_router.specs.Port.{Port, unused}
use Rattle.aseba_router.specs.Queue.{Queue}
use Rattle.aseba_router.specs.Routed.{IsRoomy, Table}
use Rattle.aseba_router.specs.Rows.{port_at}
use Rattle.aseba_router.specs.Shown.{put}

-- a port of a table that was just made
pub unused-at : (n p : ℕ) → port_at (replicate n unused) p ≡ unused
unused-at zero p = refl
unused-at (suc n) zero = refl
unused-at (suc n) (suc p) = unused-at n p

-- a router that was just made has room where the queues are empty
pub room-first : (n : ℕ) (echo : Bool) (queues : ℕ → Queue) → ((p : ℕ) → (queues p).list ≡ []) → IsRoomy (record { ports = replicate n unused; items = 0; echo = echo }) queues
room-first n echo queues none p h =
    let list : length (queues p).list ≡ 0 = ap length (none p) in
    let waiting : length (port_at (replicate n unused) p).waiting ≡ 0 = ap (λ (port : Port). length port.waiting) (unused-at n p) in
    omega (arith, list, waiting)

-- queues that were just made are empty
pub empty-first : (n capacity p : ℕ) → (queue_at (replicate n (empty capacity)) p).list ≡ []
empty-first zero capacity p = refl
empty-first (suc n) capacity zero = refl
empty-first (suc n) capacity (suc p) = empty-first n capacity p

-- a list from which an entry was taken is no longer
shorter : (entry : Option Entry) (old new : List Put) → old ≡ option_to_list (option_map put entry) ++ new → length new ≤ length old
shorter None old new is = omega (arith, ap length is)
shorter (Some entry) old new is = omega (arith, ap length is)

pub room-popped : (p : ℕ) (entry : Option Entry) (old new : List Queue) → Popped p entry old new → (table : Table) → IsRoomy table (queue_at old) → IsRoomy table (queue_at new)
room-popped p entry old new popped table roomy q h = by_port (q == p) refl
  where
    by_port : (c : Bool) → (q == p) ≡ c → length (queue_at new q).list + length (port_at table.ports q).waiting ≤ table.items
    by_port true e =
        let same : q ≡ p = eqb-true q p e in
        let fewer : length (queue_at new q).list ≤ length (queue_at old q).list = subst (λ (n : ℕ). length (queue_at new n).list ≤ length (queue_at old n).list) (sym same) (shorter entry (queue_at old p).list (queue_at new p).list popped.list) in
        omega (arith, fewer, roomy q h)
    by_port false e =
        let other : q ≡ p → ⊥ = λ eq. let wrong : (q == p) ≡ true = eq-eqb q p eq in absurd cc in
        let same : length (queue_at new q).list ≡ length (queue_at old q).list = ap (λ (queue : Queue). length queue.list) (popped.others q other) in
        omega (arith, same, roomy q h)
