use Rattle.std.proofs.Common.{◌≡◌, ◌+◌, ◌-◌, ◌*◌, ◌≤◌, ◌∙◌, List, ℕ, length, refl, ap, arith}
use Rattle.aseba_payload.specs.declared.payload.Payload.{Payload}
use Rattle.aseba_payload.specs.declared.payload.Payload.TheVariants.{Variables}
use Rattle.aseba_node.specs.Told.{words_of}
use Rattle.aseba_node.proofs.Listing.{said_more, said_run, run_words}
use Rattle.aseba_node.proofs.Sayable.{say_run}
use Rattle.aseba_node.proofs.parts.say_cells.Goals as goal

pub say-requires : goal.say-requires
say-requires c = say_run _ (c.min-end.result - 255 * c.loop-which.which) _ _ (omega (arith, c.min-end.ensures)) c.in_ok-words.ensures

pub loop-which-preserved : goal.loop-which-preserved
loop-which-preserved c =
    let which = c.loop-which.which in
    let cells = c.args.cells.now in
    let at = c.args.start + 255 * which in
    let inside : 255 * which ≤ length cells = omega (arith, c.div_ceil-which-end.ensures, c.loop-which-test.true) in
    let run = ap (Variables at) c.in_ok-words.ensures ∙ run_words c.args.start cells which c.min-end.result at inside c.min-end.ensures refl in
    c.in_ok-say.ensures ∙ ap (λ (p : Payload). said_more p c.loop-which.outbox) run
    ∙ said_run c.args.start (words_of cells) which c.args.outbox.now c.loop-which.outbox c.loop-which.invariant
