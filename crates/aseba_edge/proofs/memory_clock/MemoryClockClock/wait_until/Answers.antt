use Rattle.std.proofs.Common.{◌∷◌, drop, ap, Some, ◌∙◌}
use Rattle.aseba_edge.specs.Rising.{rising}
use Rattle.aseba_edge.proofs.RisingLemmas.{rising-lifted}
use Rattle.aseba_edge.proofs.memory_clock.MemoryClockClock.wait_until.Goals as goal

pub returns-clause-left : goal.returns-clause-left
returns-clause-left c =
    let answers = c.args.self.now.next ∷ drop c.args.self.now.index c.args.self.now.later in
    ap (λ f. Some (rising f answers)) c.max-self.ensures ∙ ap Some (rising-lifted c.args.self.now.floor c.args.ms answers)
