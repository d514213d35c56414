-- Each step keeps the rule of a queue into which the owner pushes.
use Rattle.std.proofs.Common.{◌≡◌, refl, sym, ap, ◌∙◌, ℕ, ◌<◌, true, cond, List, [], ◌∷◌, ◌++◌, append_assoc}
use Rattle.crossbeam_queue.specs.Fifo.{Pushes, Pops, Forks, Merges, Learns}
use Rattle.aseba_queues.specs.declared.view.View.{View}
use Rattle.aseba_queues.specs.Views.{first, working, spent, noted, owned, lessened, both}
use Rattle.aseba_queues.specs.Holds.{PortHolds}
use Rattle.aseba_queues.specs.Knows.{PortKnows}
use Rattle.aseba_queues.proofs.MergeLemmas.{merge_of_nothing}
use Rattle.aseba_queues.proofs.ViewLemmas.{seated_first, seated_noted, seated_owned, seated_split, seated_both, merge_noted, merge_same, merge_split, merge_both, merge_whole}

pub port_begins : {T : Type 0} → PortHolds {T = T} [] (first ∷ [])
port_begins = record { owner = 0; pushed = []; popped = []; seated = seated_first; split = refl; merge = merge_of_nothing }

pub port_pushes : {T : Type 0} (n pass : ℕ) (v : View T) (x : T) → v.owns ≡ true → Pushes PortHolds n pass v x (λ w. w ≡ owned x v)
port_pushes {T} n pass v x owns items views room h at =
    let s = seated_owned h.owner h.pushed views pass v x owns h.seated at in (
      owned x v,
      record {
        owner = h.owner;
        pushed = h.pushed ++ x ∷ [];
        popped = h.popped;
        seated = s.1;
        split = ap (λ (l : List T). l ++ x ∷ []) h.split ∙ append_assoc h.popped items (x ∷ []);
        merge = merge_same views pass v (owned x v) h.popped at refl h.merge;
      },
      refl,
    )

pub port_pops : {T : Type 0} (pass : ℕ) (v : View T) → 0 < v.parts → Pops PortHolds pass v (λ x w. w ≡ noted x v)
port_pops {T} pass v some_part x items views h at = (
  noted x v,
  record {
    owner = h.owner;
    pushed = h.pushed;
    popped = h.popped ++ x ∷ [];
    seated = seated_noted h.owner h.pushed views pass v x some_part h.seated at;
    split = h.split ∙ sym (append_assoc h.popped (x ∷ []) items);
    merge = merge_noted views pass v x h.popped at h.merge;
  },
  refl,
)

pub port_forks : {T : Type 0} (pass : ℕ) (v : View T) → 1 < v.parts → Forks PortHolds pass v (lessened v) (working [])
port_forks pass v more items views h at = record {
  owner = h.owner;
  pushed = h.pushed;
  popped = h.popped;
  seated = seated_split h.owner h.pushed views pass v more h.seated at;
  split = h.split;
  merge = merge_split views pass v h.popped at h.merge;
}

pub port_merges : {T : Type 0} (pass : ℕ) (v : View T) (other : ℕ) (w : View T) → Merges PortHolds pass v other w (both v w) spent
port_merges pass v other w items views h at apart at' = record {
  owner = cond w.owns pass h.owner;
  pushed = h.pushed;
  popped = h.popped;
  seated = seated_both h.owner h.pushed views pass other v w h.seated at apart at';
  split = h.split;
  merge = merge_both views pass other v w h.popped at apart at' h.merge;
}

pub port_learns : {T : Type 0} (pass : ℕ) (v : View T) → Learns PortHolds pass v (PortKnows v)
port_learns pass v items views h at owns = (
  h.popped,
  ((h.seated.each pass v at).owning owns).1 ∙ h.split,
  λ whole. merge_whole h.owner h.pushed views pass v h.popped h.seated at whole h.merge,
)
