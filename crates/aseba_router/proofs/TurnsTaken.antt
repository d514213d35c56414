-- Turns, one behind the other.
use Rattle.std.proofs.Common.{◌≡◌, ℕ, zero, suc, ◌+◌, ◌<◌, ◌≤◌, List, [], ◌∷◌, length, map, take, get_or, refl, sym, ap, subst, arith}
use Rattle.std.proofs.lemmas.List.{length-map, take_more}
use Rattle.aseba_edge.proofs.Puts.{took_empty}
use Rattle.aseba_router.specs.declared.turn.Turn.{Turn}
use Rattle.aseba_router.specs.Ends.{Ends, WireState}
use Rattle.aseba_router.specs.Relayed.{TookTurns, fresh}
use Rattle.aseba_router.specs.Taken.{AllLines, IsLine, TookTurn, ends_at, switch, wire_at}
use Rattle.aseba_router.specs.Turns.{Line, Middle, Switch, begun, went_on, untouched}
use Rattle.aseba_router.proofs.FrameRead.{gave-nothing}

pub none-taken : (places : ℕ) (m : Middle) (wires : List WireState) (before : List Ends) (lines : ℕ → Line) → AllLines places before wires lines → TookTurns places (switch m lines) before [] m wires
none-taken places m wires before lines all = record { lines = lines; ran = begun refl refl; all = all }

pub one-taken : (places i : ℕ) (start : Switch) (before : List Ends) (turns : List Turn) (default : Turn) (m m' : Middle) (wires wires' : List WireState) → i < length turns → TookTurns places start before (take i turns) m wires
    → TookTurn places (get_or turns i default) m wires m' wires' → TookTurns places start before (take (i + 1) turns) m' wires'
one-taken places i start before turns default m m' wires wires' within so_far took =
    let after = took.turned before so_far.lines so_far.all in
    record {
      lines = after.0;
      ran = went_on (take i turns) (get_or turns i default) (switch m so_far.lines) so_far.ran (take_more turns i default within) after.1;
      all = after.2;
    }

take-all : (i : ℕ) (turns : List Turn) → length turns ≤ i → take i turns ≡ turns
take-all zero [] h = refl
take-all (suc i) [] h = refl
take-all zero (t ∷ turns) h = absurd (omega (arith, h))
take-all (suc i) (t ∷ turns) h = ap (λ l. t ∷ l) (take-all i turns (omega (arith, h)))

pub all-taken : (places i : ℕ) (start : Switch) (before : List Ends) (turns : List Turn) (m : Middle) (wires : List WireState) → length turns ≤ i → TookTurns places start before (take i turns) m wires → TookTurns places start before turns m wires
all-taken places i start before turns m wires h took = subst (λ (l : List Turn). TookTurns places start before l m wires) (take-all i turns h) took

-- the links to which nothing happened
pub line-untouched : (ends : Ends) → IsLine ends (fresh ends) untouched
line-untouched ends = record {
  stage = refl;
  came = gave-nothing ends.input ends.input refl;
  reads = (refl, refl, refl);
  wrote = record { took = took_empty ends.taken; count = record { never_fell = omega arith; cause = refl } };
  input_mark = refl;
  output_mark = refl;
}

fresh-at : (links : List Ends) (p : ℕ) → p < length links → wire_at (map fresh links) p ≡ fresh (ends_at links p)
fresh-at [] p h = absurd (omega (arith, h))
fresh-at (e ∷ links) zero h = refl
fresh-at (e ∷ links) (suc p) h = fresh-at links p (omega (arith, h))

pub lines-untouched : (places : ℕ) (links : List Ends) (wires : List WireState) → wires ≡ map fresh links → AllLines places links wires (λ p. untouched)
lines-untouched places links wires is =
    subst (λ (ws : List WireState). AllLines places links ws (λ p. untouched)) (sym is)
    (record {
      count = length-map links fresh;
      each = λ p h. subst (λ (w : WireState). IsLine (ends_at links p) w untouched) (sym (fresh-at links p (omega (arith, h, length-map links fresh)))) (line-untouched (ends_at links p));
      others = λ p h. refl;
    })
