use Rattle.std.proofs.Common.{◌∙◌, ap, ℕ, Option}
use Rattle.aseba_tree.specs.Code.{Name}
use Rattle.aseba_tree.specs.View.{stmts_view}
use Rattle.aseba_check.specs.declared.counting.taken.Taken.{Taken}
use Rattle.aseba_check.specs.Statements.{known_of}
use Rattle.aseba_check.specs.Places.{sum_up}
use Rattle.aseba_check.specs.CountedStatements.{none_taken, stmts_taken}
use Rattle.aseba_check.proofs.counting.parts.part_words.Goals as goal

pub returns : goal.returns
returns c =
    c.saturating_add.ensures
    ∙ ap (λ (t : Taken). sum_up t.words 1) (c.body_taken-taken.ensures ∙ ap (λ (s : Name → Option ℕ). stmts_taken (known_of c.args.world.now) s c.args.jump none_taken (stmts_view c.args.part.now.body)) c.new-subs.ensures)
