-- What all turns come to, for the links that were handed in.
use Rattle.std.proofs.Common.{◌≡◌, ℕ, Bool, List, [], ◌∷◌, length, map, min, Option, refl, ap, subst, arith}
use Rattle.std.proofs.Math.Nat.{min-le_right}
use Rattle.aseba_router.specs.declared.turn.Turn.{Turn}
use Rattle.aseba_router.specs.Ends.{Ends, WireState}
use Rattle.aseba_router.specs.Hub.{Act}
use Rattle.aseba_router.specs.Relayed.{AllFull, Relayed, TookTurns, fresh}
use Rattle.aseba_router.specs.Taken.{AllLines, switch}
use Rattle.aseba_router.specs.Turns.{Line, Middle, at_first, nothing_yet, untouched}
use Rattle.aseba_router.proofs.OwedLaw.{served}
use Rattle.aseba_router.proofs.RanLaw.{Holds, holds-first, ran-holds}
use Rattle.aseba_router.proofs.TurnsTaken.{lines-untouched}

-- a list that is mapped twice
pub map-both : {A B C : Type 0} → (g : B → C) (f : A → B) (l : List A) → map g (map f l) ≡ map (λ x. g (f x)) l
map-both g f [] = refl
map-both g f (x ∷ l) = ap (λ m. g (f x) ∷ m) (map-both g f l)

pub all-relayed : (ports queue places count : ℕ) (echo : Bool) (turns : List Turn) (before after : List Ends) (wires wires' : List WireState) (first m : Middle) (items : List Act) (full : List (Option ℕ))
    → places ≡ min (length before) ports → count ≡ length before → wires ≡ map fresh before → first ≡ nothing_yet ports queue echo
    → ((before : List Ends) (lines : ℕ → Line) → AllLines places before wires lines → TookTurns places (switch first lines) before turns m wires')
    → items ≡ m.routed → after ≡ map (λ w. w.ends) wires' → AllFull m.table places count full → Relayed ports queue echo turns before after items full
all-relayed ports queue places count echo turns before after wires wires' first m items full places_are count_is fresh_are first_is took items_are after_are full_are =
    let took_first : TookTurns places (at_first ports queue echo) before turns m wires' =
    subst (λ (f : Middle). TookTurns places (switch f (λ p. untouched)) before turns m wires') first_is (took before (λ p. untouched) (lines-untouched places before wires fresh_are)) in
    let took_all : TookTurns (min (length before) ports) (at_first ports queue echo) before turns m wires' =
    subst (λ (n : ℕ). TookTurns n (at_first ports queue echo) before turns m wires') places_are took_first in
    let holds : Holds echo ports (min (length before) ports) m took_all.lines =
    ran-holds echo ports (min (length before) ports) (at_first ports queue echo) (switch m took_all.lines) turns took_all.ran (holds-first echo ports (min (length before) ports) queue) in
    record {
      middle = m;
      wires = wires';
      took = took_all;
      items_are = items_are;
      links = after_are;
      full_are = subst (λ (n : ℕ). AllFull m.table n (length before) full) places_are (subst (λ (n : ℕ). AllFull m.table places n full) count_is full_are);
      served = λ p h. served echo ports (min (length before) ports) p m took_all.lines holds (omega (arith, h, min-le_right (length before) ports));
      past = holds.past;
    }
