-- What the owner knows once it took the other passes in.
use Rattle.std.proofs.Common.{◌≡◌, refl, sym, ap, ◌∙◌, subst, ℕ, zero, suc, ◌+◌, ◌<◌, true, List, [], ◌∷◌, ◌++◌, length, map, All, arith, get_or, append_assoc, Vec, Global, Result, Ok, Err, IfOk, vec_len}
use Rattle.std.specs.declared.alloc.AllocError.{AllocError}
use Rattle.std.proofs.lemmas.List.Elements.{All-tail, All-same}
use Rattle.std.proofs.lemmas.List.Sums.{sum_by-cons}
use Rattle.std.specs.List.{sum_by}
use Rattle.std.proofs.lemmas.List.{append-nil, length-append, length-map, same_lists}
use Rattle.aseba_queues.specs.declared.view.View.{View}
use Rattle.aseba_queues.specs.declared.in_queue.InQueue.{InQueue}
use Rattle.aseba_queues.specs.Merges.{IsMerge}
use Rattle.aseba_queues.specs.Knows.{PortWhole}
use Rattle.aseba_queues.specs.Views.{known, working, both}
use Rattle.aseba_queues.proofs.JoinedLaws.{lengths_add_up, pushed_is_taken}
use Rattle.aseba_queue_tests.specs.Exchange.{AreDone, IsDone, lists_of}
use Rattle.aseba_queue_tests.specs.declared.producers.Producer.{Producer}
use Rattle.aseba_queue_tests.specs.declared.item.Sent.{Sent}

-- a pass that has pushed some items, taken in
pub joined_is : (v w : View Sent) (items : List Sent) → w ≡ working items → both v w ≡ known (v.parts + 1) v.owns (v.many ++ items ∷ []) v.one
joined_is v w items is =
    ap (λ (u : View Sent). both v u) is ∙ ap (λ (one : List Sent). known (v.parts + 1) v.owns (v.many ++ items ∷ []) one) (append-nil v.one)

items_at : (producers : List Producer) (place : ℕ) (d : List Sent) (e : Producer) → place < length producers → get_or (lists_of producers) place d ≡ (get_or producers place e).items.items
items_at [] place d e in' = absurd (omega arith)
items_at (p ∷ ps) zero d e in' = refl
items_at (p ∷ ps) (suc place) d e in' = items_at ps place d e (omega arith)

-- some producer, where there is one
one_of : (producers : List Producer) (place : ℕ) → place < length producers → Producer
one_of [] place in' = absurd (omega arith)
one_of (p ∷ ps) place in' = p

lengths : (new old : List Producer) → length new ≡ length old → length (lists_of new) ≡ length (lists_of old)
lengths new old same = length-map new (λ (p : Producer). p.items.items) ∙ same ∙ sym (length-map old (λ (p : Producer). p.items.items))

pub all_done : (queue : InQueue Sent) (old new : List Producer) → AreDone queue old new → All (IsDone queue) new × (lists_of new ≡ lists_of old)
all_done queue old new done = (
  (λ place d in'. (done.1 place d d (omega (arith, in', done.0))).0),
  same_lists (lists_of new) (lists_of old) (lengths new old done.0) (λ place d in'.
      let there : place < length new = omega (arith, in', length-map new (λ (p : Producer). p.items.items)) in
      let here : place < length old = omega (arith, there, done.0) in
      let some_one = one_of new place there in
      items_at new place d some_one there ∙ (done.1 place some_one some_one here).1 ∙ sym (items_at old place d some_one here)),
)

pub done_at_once : (queue : InQueue Sent) (old : List Producer) (r : Result (Vec Producer Global) AllocError) → IfOk r (λ done. AreDone queue old done.items) → IfOk r (λ done. All (IsDone queue) done.items × (lists_of done.items ≡ lists_of old))
done_at_once queue old (Ok done) h = all_done queue old done.items h
done_at_once queue old (Err e) h = tt

-- one more producer taken in: what is left shrinks by it, and the owner's lists grow by its items
pub gathers : (queue : InQueue Sent) (p : Producer) (left rest : List Producer) (v w : View Sent) (parts : ℕ) (lists : List (List Sent))
    → left ≡ p ∷ rest → w ≡ known (v.parts + 1) v.owns (v.many ++ p.items.items ∷ []) v.one → All (IsDone queue) left → v.parts + length left ≡ parts → v.many ++ lists_of left ≡ lists
    → All (IsDone queue) rest × (w.parts + length rest ≡ parts) × (w.owns ≡ v.owns) × (w.many ++ lists_of rest ≡ lists) × (w.one ≡ v.one)
gathers queue p left rest v w parts lists is now all count same = (
  All-tail (IsDone queue) p rest (All-same (IsDone queue) (p ∷ rest) left (sym is) all),
  omega (arith, ap (λ (u : View Sent). u.parts) now, count, ap (λ (l : List Producer). length l) is),
  ap (λ (u : View Sent). u.owns) now,
  ap (λ (u : View Sent). u.many ++ lists_of rest) now ∙ append_assoc v.many (p.items.items ∷ []) (lists_of rest) ∙ ap (λ (l : List Producer). v.many ++ lists_of l) (sym is) ∙ same,
  ap (λ (u : View Sent). u.one) now,
)

sum-items : (lists : List (Vec Sent Global)) → sum_by (λ (list : List Sent). length list) (map (λ (list : Vec Sent Global). list.items) lists) ≡ sum_by (λ (list : Vec Sent Global). vec_len list) lists
sum-items [] = refl
sum-items (list ∷ lists) =
    omega (
      arith,
      sum-items lists,
      sum_by-cons (λ (l : List Sent). length l) list.items (map (λ (l : Vec Sent Global). l.items) lists),
      sum_by-cons (λ (l : Vec Sent Global). vec_len l) list lists,
      list.ok.0,
    )

nothing : (l : List Sent) → length l ≡ 0 → l ≡ []
nothing [] h = refl
nothing (x ∷ xs) h = absurd (omega arith)

-- where as many came as there were, all came
pub all_came : (lists : List (Vec Sent Global)) (came items : List Sent) → IsMerge (map (λ (list : Vec Sent Global). list.items) lists) (came ++ items) → length came ≡ sum_by (λ (list : Vec Sent Global). vec_len list) lists
    → IsMerge (map (λ (list : Vec Sent Global). list.items) lists) came
all_came lists came items merge count =
    let all : List (List Sent) = map (λ (list : Vec Sent Global). list.items) lists in
    let P : List Sent → Type 0 = λ l. IsMerge all l in
    let none : length items ≡ 0 = omega (arith, lengths_add_up all (came ++ items) merge, sum-items lists, length-append came items, count) in
    subst P (ap (λ (l : List Sent). came ++ l) (nothing items none) ∙ append-nil came) merge

pub exchanged : (lists : List (Vec Sent Global)) (done : List Producer) (parts : ℕ) (came items : List Sent) (v : View Sent) → IsMerge (lists_of done) (v.one ++ items) → v ≡ known parts true [] came
    → lists_of done ≡ map (λ (list : Vec Sent Global). list.items) lists → length came ≡ sum_by (λ (list : Vec Sent Global). vec_len list) lists → IsMerge (map (λ (list : Vec Sent Global). list.items) lists) came
exchanged lists done parts came items v merge now same count =
    let P : List (List Sent) × List Sent → Type 0 = λ y. IsMerge y.0 (y.1 ++ items) in
    all_came lists came items (subst P (λ i. (same i, (ap (λ (u : View Sent). u.one) now) i)) merge) count

-- as many items as the owner pushed came at the other pass: it is those
pub relayed : (v w : View Sent) (items came : List Sent) → v ≡ known 1023 true [] items → w ≡ working came → (u : View Sent) → u ≡ both v w → (left : List Sent) × PortWhole u left → length came ≡ length items → came ≡ items
relayed v w items came own other u now total count =
    let is : u ≡ known 1024 true (came ∷ []) (items ++ []) = now ∙ (λ i. both (own i) (other i)) in
    let one : u.one ≡ came ++ total.0 = pushed_is_taken u total.0 came total.1 (ap (λ (y : View Sent). y.many) is) in
    let all : items ≡ came ++ total.0 = sym (append-nil items) ∙ sym (ap (λ (y : View Sent). y.one) is) ∙ one in
    let none : length total.0 ≡ 0 = omega (arith, ap (λ (l : List Sent). length l) all, length-append came total.0, count) in
    sym (all ∙ ap (λ (l : List Sent). came ++ l) (nothing total.0 none) ∙ append-nil came)
