use Rattle.std.proofs.Common.{◌∙◌, ap, sym, subst, length, map, Some, Result, Ok, Err}
use Rattle.std.specs.Prelude.{OnOk}
use Rattle.std.proofs.lemmas.Bool.{ltb-true}
use Rattle.std.proofs.lemmas.Option.{slice_get-get_or}
use Rattle.aseba_words.specs.declared.mem.Mem.{Mem}
use Rattle.aseba_tree.specs.View.{handler_view}
use Rattle.aseba_check.specs.declared.counting.taken.Taken.{Taken}
use Rattle.aseba_check.specs.Looked.{looked, first_value}
use Rattle.aseba_check.specs.Statements.{known_of}
use Rattle.aseba_check.specs.CountedParts.{Depths, Settles}
use Rattle.aseba_check.proofs.NumbersSettled.{settles-first}
use Rattle.aseba_check.proofs.counting.subs.settle.Goals as goal

where-ok : (r : Result (Unit {0}) Mem) (P Q : Type 0) → OnOk r P → (P → Q) → OnOk r Q
where-ok (Ok u) P Q h k = k h
where-ok (Err m) P Q h k = tt

pub returns-then-are_ready : goal.returns-then-are_ready
returns-then-are_ready c =
    let known = known_of c.args.world.now in
    let parts = c.args.parts.now in
    let part = c.in-Some.part.now in
    let old = looked c.args.depths.now in
    let inside = ltb-true c.args.place (length parts) (sym c.in-Some.ensures.lookup.0) in
    let got = slice_get-get_or parts c.args.place part inside ∙ ap Some (sym c.in-Some.ensures.lookup.1) in
    let first = sym c.is_first.ensures ∙ c.if-is_first.true in
    let ready = sym c.are_ready.ensures ∙ c.if-are_ready.true in
    let all = settles-first known c.args.jump parts (looked c.args.places.now) c.requires old c.args.place part got first ready in
    where-ok c.set_first.result _ _ c.set_first.ensures
    (λ e. subst (λ (d : Depths). Settles known c.args.jump (map handler_view parts) old d) (sym (e ∙ ap (λ (t : Taken). first_value old part.name t.depth) c.body_taken-taken.ensures)) all)
