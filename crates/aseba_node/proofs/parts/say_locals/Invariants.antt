use Rattle.std.proofs.Common.{◌≡◌, map, take}
use Rattle.aseba_node.specs.Saying.{also_said}
use Rattle.aseba_node.specs.Told.{local_of}
use Rattle.aseba_node.proofs.parts.say_locals.Given as goal

-- those up to here were said
abbrev pub invariant-loop-local : goal.invariant-loop-local
invariant-loop-local l = l.outbox ≡ also_said (map local_of (take l.local-index l.locals)) l.fn.outbox
