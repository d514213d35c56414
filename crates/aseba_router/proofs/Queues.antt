-- One of the queues in memory is written, and the others stay.
use Rattle.std.proofs.Common.{◌≡◌, ◌∙◌, ℕ, zero, suc, ◌<◌, Bool, List, [], ◌∷◌, ◌++◌, length, map, get_or, set, Option, is_some, option_map, nat_lt, refl, sym, ap, subst, arith, length-set}
use Rattle.std.proofs.lemmas.List.{length-map}
use Rattle.std.specs.Option.{option_to_list}
use Rattle.aseba_router.specs.declared.entry.Entry.{Entry}
use Rattle.aseba_router.specs.declared.memory_queue.MemoryQueue.{MemoryQueue}
use Rattle.aseba_router.specs.Hub.{Put}
use Rattle.aseba_router.specs.Memory.{queue_of, queue_at, Popped}
use Rattle.aseba_router.specs.Queue.{Queue, Push, OthersStay}
use Rattle.aseba_router.specs.Shown.{put}

abbrev pub shown : List MemoryQueue → List Queue
shown queues = map queue_of queues

written : (queues : List MemoryQueue) (i : ℕ) (new : MemoryQueue) → i < length queues → queue_at (shown (set queues i new)) i ≡ queue_of new
written [] i new h = absurd (omega (arith, h))
written (first ∷ later) zero new h = refl
written (first ∷ later) (suc i) new h = written later i new (omega (arith, h))

others : (queues : List MemoryQueue) (i q : ℕ) (new : MemoryQueue) → (q ≡ i → ⊥) → queue_at (shown (set queues i new)) q ≡ queue_at (shown queues) q
others [] i q new other = refl
others (first ∷ later) zero zero new other = absurd (other refl)
others (first ∷ later) zero (suc q) new other = refl
others (first ∷ later) (suc i) zero new other = refl
others (first ∷ later) (suc i) (suc q) new other = others later i q new (λ e. other (ap (λ n. suc n) e))

read : (queues : List MemoryQueue) (i : ℕ) (queue : MemoryQueue) → i < length queues → queue ≡ get_or queues i queue → queue_of queue ≡ queue_at (shown queues) i
read [] i queue h is = absurd (omega (arith, h))
read (first ∷ later) zero queue h is = ap queue_of is
read (first ∷ later) (suc i) queue h is = read later i queue (omega (arith, h)) is

-- a push to one of them
pub pushed-at : (back : Bool) (entry : Put) (queues : List MemoryQueue) (old : List Queue) (i p : ℕ) (queue new : MemoryQueue) → shown queues ≡ old → i ≡ p → p < length queues → queue ≡ get_or queues i queue
    → Push back entry (queue_of queue) (queue_of new) → Push back entry (queue_at old p) (queue_at (shown (set queues i new)) p)
pushed-at back entry queues old i p queue new view same within is push =
    subst (λ (list : List Queue). Push back entry (queue_at list p) (queue_at (shown (set queues i new)) p)) view
    (subst (λ (n : ℕ). Push back entry (queue_at (shown queues) n) (queue_at (shown (set queues i new)) n)) same
    (let here : i < length queues = omega arith in
    subst (λ (q : Queue). Push back entry (queue_at (shown queues) i) q) (sym (written queues i new here))
    (subst (λ (q : Queue). Push back entry q (queue_of new)) (read queues i queue here is) push)))

pub others-at : (queues : List MemoryQueue) (old : List Queue) (i p : ℕ) (new : MemoryQueue) → shown queues ≡ old → i ≡ p → OthersStay p (queue_at old) (queue_at (shown (set queues i new)))
others-at queues old i p new view same q other = others queues i q new (λ e. other (e ∙ same)) ∙ ap (λ list. queue_at list q) view

-- the first entry of one of them was taken
pub popped-at : (entry : Option Entry) (queues : List MemoryQueue) (old : List Queue) (i p : ℕ) (queue new : MemoryQueue) → shown queues ≡ old → i ≡ p → p < length queues → queue ≡ get_or queues i queue
    → map put queue.entries.items ≡ option_to_list (option_map put entry) ++ map put new.entries.items → is_some entry ≡ nat_lt 0 (length queue.entries.items)
    → queue_of new ≡ record (queue_of queue) { list = map put new.entries.items } → Popped p entry old (shown (set queues i new))
popped-at entry queues old i p queue new view same within is list some rest =
    let here : i < length queues = omega arith in
    let before : queue_at old p ≡ queue_of queue = ap (λ l. queue_at l p) (sym view) ∙ ap (λ n. queue_at (shown queues) n) (sym same) ∙ sym (read queues i queue here is) in
    let after : queue_at (shown (set queues i new)) p ≡ queue_of new = ap (λ n. queue_at (shown (set queues i new)) n) (sym same) ∙ written queues i new here in
    record {
      list = ap (λ (q : Queue). q.list) before ∙ list ∙ ap (λ (q : Queue). option_to_list (option_map put entry) ++ q.list) (sym after);
      some = some ∙ ap (λ n. nat_lt 0 n) (sym (length-map queue.entries.items put)) ∙ ap (λ (q : Queue). nat_lt 0 (length q.list)) (sym before);
      rest = after ∙ rest ∙ ap (λ (q : Queue). record q { list = map put new.entries.items }) (sym before)
          ∙ ap (λ (q : Queue). record (queue_at old p) { list = q.list }) (sym after);
      others = others-at queues old i p new view same;
      count = length-map (set queues i new) queue_of ∙ length-set queues i new ∙ sym (length-map queues queue_of) ∙ ap length view;
    }
