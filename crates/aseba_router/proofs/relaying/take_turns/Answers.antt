use Rattle.std.proofs.Common.{◌∙◌, ◌≤◌, length, refl, arith}
use Rattle.aseba_router.specs.Middle.{middle}
use Rattle.aseba_router.specs.Taken.{switch}
use Rattle.aseba_router.proofs.TurnsTaken.{none-taken, one-taken, all-taken}
use Rattle.aseba_router.proofs.relaying.take_turns.Goals as goal

pub loop-turn-init : goal.loop-turn-init
loop-turn-init g c = record {
  ran = λ before lines all. none-taken c.args.places (middle c.args.exchange.now) c.args.wires.now before lines all;
  sound = c.requires.sound;
  few = omega (arith, c.requires.fresh);
  count = refl;
}

pub loop-turn-preserved : goal.loop-turn-preserved
loop-turn-preserved g c =
    let took = c.in_ok-take_turn.ensures in
    let sound = c.loop-turn.invariant.sound in
    record {
      ran = λ before lines all. one-taken c.args.places c.loop-turn.turn-index (switch (middle c.args.exchange.now) lines) before c.args.turns.now _ (middle c.loop-turn.exchange) (middle c.take_turn.new.exchange) c.loop-turn.wires c.take_turn.new.wires
          c.loop-turn-test.true (c.loop-turn.invariant.ran before lines all) took;
      sound = (sound.0, sound.1, took.sound sound.0 sound.1 sound.2);
      few = omega (arith, took.few, c.loop-turn.invariant.few);
      count = took.count ∙ c.loop-turn.invariant.count;
    }

pub returns : goal.returns
returns g c =
    let all_done : length c.args.turns.now ≤ c.loop-turn.turn-index = omega (arith, c.loop-turn-test.false) in
    λ before lines all. all-taken c.args.places c.loop-turn.turn-index (switch (middle c.args.exchange.now) lines) before c.args.turns.now (middle c.loop-turn.exchange) c.loop-turn.wires all_done (c.loop-turn.invariant.ran before lines all)
