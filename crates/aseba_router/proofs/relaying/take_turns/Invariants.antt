-- The turns so far were taken.
use Rattle.std.proofs.Common.{◌≡◌, ◌≤◌, ℕ, List, length, take}
use Rattle.aseba_router.specs.Ends.{Ends}
use Rattle.aseba_router.specs.Middle.{IsSound, middle}
use Rattle.aseba_router.specs.Relayed.{TookTurns}
use Rattle.aseba_router.specs.Taken.{AllLines, switch}
use Rattle.aseba_router.specs.Turns.{Line}
use Rattle.aseba_router.proofs.relaying.take_turns.Given as goal

abbrev pub invariant-loop-turn : goal.invariant-loop-turn
invariant-loop-turn g l = record {
  ran : (before : List Ends) (lines : ℕ → Line) → AllLines l.places before l.initial.wires lines → TookTurns l.places (switch (middle l.initial.exchange) lines) before (take l.turn-index l.turns) (middle l.exchange) l.wires;
  sound : (n : ℕ) × (l.places ≤ n) × IsSound n (middle l.exchange);
  few : (middle l.exchange).table.items ≤ l.turn-index;
  count : length l.wires ≡ length l.initial.wires;
}
