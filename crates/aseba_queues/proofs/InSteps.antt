-- Each step keeps the rule of a queue into which many push.
use Rattle.std.proofs.Common.{◌≡◌, refl, sym, ap, subst, ℕ, ◌^◌, ◌<◌, true, cond, List, [], ◌∷◌, ◌++◌, length, set, arith, append_assoc}
use Rattle.std.proofs.lemmas.List.{length_push}
use Rattle.crossbeam_queue.specs.Fifo.{Pushes, Pops, Forks, Merges, Learns}
use Rattle.aseba_queues.specs.declared.view.View.{View}
use Rattle.aseba_queues.specs.Views.{first, working, spent, noted, owned, lessened, both}
use Rattle.aseba_queues.specs.Merges.{IsMerge}
use Rattle.aseba_queues.specs.Holds.{InHolds, lists_of}
use Rattle.aseba_queues.specs.Knows.{InKnows}
use Rattle.aseba_queues.proofs.MergeLemmas.{merge_of_nothing}
use Rattle.aseba_queues.proofs.ViewLemmas.{seated_first, seated_noted, seated_owned, seated_split, seated_both, merge_noted, merge_same, merge_split, merge_both, merge_whole}

pub in_begins : {T : Type 0} → InHolds {T = T} [] (first ∷ [])
in_begins = record { owner = 0; popped = []; seated = seated_first; few = omega arith; merge = merge_of_nothing }

pub in_pushes : {T : Type 0} (n pass : ℕ) (v : View T) (x : T) → 0 < v.parts → Pushes InHolds n pass v x (λ w. w ≡ noted x v)
in_pushes {T} n pass v x some_part items views room h at =
    let P : List T → Type 0 = λ l. IsMerge (lists_of (set views pass (noted x v))) l in (
      noted x v,
      record {
        owner = h.owner;
        popped = h.popped;
        seated = seated_noted h.owner h.popped views pass v x some_part h.seated at;
        few = h.few;
        merge = subst P (append_assoc h.popped items (x ∷ [])) (merge_noted views pass v x (h.popped ++ items) at h.merge);
      },
      refl,
    )

pub in_pops : {T : Type 0} (pass : ℕ) (v : View T) → v.owns ≡ true → length v.one < 2 ^ 61 → Pops InHolds pass v (λ x w. w ≡ owned x v)
in_pops {T} pass v owns few x items views h at =
    let s = seated_owned h.owner h.popped views pass v x owns h.seated at in
    let P : List T → Type 0 = λ l. IsMerge (lists_of (set views pass (owned x v))) l in (
      owned x v,
      record {
        owner = h.owner;
        popped = h.popped ++ x ∷ [];
        seated = s.1;
        few = omega (arith, few, length_push h.popped x, ap (λ (l : List T). length l) s.0);
        merge = subst P (sym (append_assoc h.popped (x ∷ []) items)) (merge_same views pass v (owned x v) (h.popped ++ x ∷ items) at refl h.merge);
      },
      refl,
    )

pub in_forks : {T : Type 0} (pass : ℕ) (v : View T) → 1 < v.parts → Forks InHolds pass v (lessened v) (working [])
in_forks pass v more items views h at = record {
  owner = h.owner;
  popped = h.popped;
  seated = seated_split h.owner h.popped views pass v more h.seated at;
  few = h.few;
  merge = merge_split views pass v (h.popped ++ items) at h.merge;
}

pub in_merges : {T : Type 0} (pass : ℕ) (v : View T) (other : ℕ) (w : View T) → Merges InHolds pass v other w (both v w) spent
in_merges pass v other w items views h at apart at' = record {
  owner = cond w.owns pass h.owner;
  popped = h.popped;
  seated = seated_both h.owner h.popped views pass other v w h.seated at apart at';
  few = h.few;
  merge = merge_both views pass other v w (h.popped ++ items) at apart at' h.merge;
}

pub in_learns : {T : Type 0} (pass : ℕ) (v : View T) → Learns InHolds pass v (InKnows v)
in_learns {T} pass v items views h at whole owns =
    let P : List T → Type 0 = λ l. IsMerge v.many (l ++ items) in
    subst P (sym ((h.seated.each pass v at).owning owns).1) (merge_whole h.owner h.popped views pass v (h.popped ++ items) h.seated at whole h.merge)
