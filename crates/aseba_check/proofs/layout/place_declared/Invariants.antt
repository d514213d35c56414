use Rattle.std.proofs.Common.{◌≡◌, ◌++◌, drop}
use Rattle.aseba_check.specs.Places.{placed_decls}
use Rattle.aseba_check.proofs.layout.place_declared.Given as goal

abbrev pub invariant-loop-decl : goal.invariant-loop-decl
invariant-loop-decl l = l.places ++ placed_decls l.start (drop l.decl-index l.vars) l.rest ≡ l.fn.places ++ placed_decls l.fn.first l.vars l.fn.sizes
