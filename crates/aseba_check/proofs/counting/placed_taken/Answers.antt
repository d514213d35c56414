use Rattle.std.proofs.Common.{◌≡◌, ◌∙◌, ap, sym, ℕ, List, length, map}
use Rattle.std.proofs.lemmas.List.{length-map}
use Rattle.aseba_tree.specs.declared.source.Handler.{Handler}
use Rattle.aseba_tree.specs.View.{handler_view, source_view, project_view}
use Rattle.aseba_tree.specs.Numbers.{jump_words}
use Rattle.aseba_check.specs.Looked.{looked}
use Rattle.aseba_check.specs.Statements.{Known, known_of}
use Rattle.aseba_check.specs.CountedPlaces.{known_at}
use Rattle.aseba_check.specs.CountedParts.{Depths, depths_after, source_taken}
use Rattle.aseba_check.proofs.counting.placed_taken.Goals as goal

pub returns-clause-told : goal.returns-clause-told
returns-clause-told c =
    let project = c.args.project.now in
    let source = source_view c.args.source.now in
    let places = c.args.places.now in
    let slice = c.as_slice-parts.result.now in
    let jump = jump_words (project_view project) in
    let known = known_at project source.parts places in
    let deep = depths_after known jump source.parts (length source.parts) in
    let names : known_of c.in_ok-world.world ≡ known = c.in_ok-world.ensures.known ∙ ap (λ (l : List Handler). known_at project (map handler_view l) places) c.as_slice-parts.ensures in
    let subs : looked c.in_ok-subs.subs ≡ deep =
    c.in_ok-subs.ensures
    ∙ (ap (λ (k : Known). depths_after k c.jump_words-jump.result (map handler_view slice) (length slice)) names
    ∙ (ap (λ (j : ℕ). depths_after known j (map handler_view slice) (length slice)) c.jump_words-jump.ensures
    ∙ (ap (λ (l : List Handler). depths_after known jump (map handler_view l) (length l)) c.as_slice-parts.ensures ∙ ap (depths_after known jump source.parts) (sym (length-map c.args.source.now.parts handler_view))))) in
    c.source_taken.ensures
    ∙ (ap (λ (k : Known). source_taken k (looked c.in_ok-subs.subs) c.jump_words-jump.result source) names
    ∙ (ap (λ (s : Depths). source_taken known s c.jump_words-jump.result source) subs ∙ ap (λ (j : ℕ). source_taken known deep j source) c.jump_words-jump.ensures))
