use Rattle.std.proofs.Common.{◌∙◌, sym}
use Rattle.aseba_router.specs.Middle.{middle}
use Rattle.aseba_router.specs.Shown.{put}
use Rattle.aseba_router.proofs.Taking.{write-stays, write-empty, write-writes}
use Rattle.aseba_router.proofs.turning.write.Goals as goal

pub returns-then-not-may_write : goal.returns-then-not-may_write
returns-then-not-may_write g c = write-stays c.args.places c.args.port (middle c.args.exchange.now) c.args.wires.now c.requires.places (sym c.may_write.ensures ∙ c.if-not-may_write.true)

pub returns-in_default : goal.returns-in_default
returns-in_default g c = write-empty c.args.places c.args.port (middle c.args.exchange.now) (middle c.pop.new.self) c.args.wires.now c.requires.places (sym c.may_write.ensures ∙ c.if-not-may_write.false) c.in_default.ensures.popped

pub returns : goal.returns
returns g c =
    write-writes c.args.places c.args.port (middle c.args.exchange.now) (middle c.pop.new.self) c.args.wires.now c.give.new.wires (put c.in-Some.entry) c.requires.places (sym c.may_write.ensures ∙ c.if-not-may_write.false)
    c.in-Some.ensures.popped c.in-Some.ensures.sound c.in_ok-give.ensures
