use Rattle.std.proofs.Common.{◌≡◌, ◌∙◌, ap, sym, ℕ, List, Option, map}
use Rattle.std.specs.Prelude.{option_map}
use Rattle.aseba_tree.specs.declared.source.Handler.{Handler}
use Rattle.aseba_tree.specs.Numbers.{jump_words}
use Rattle.aseba_tree.specs.View.{handler_view, project_view, source_view}
use Rattle.aseba_check.specs.declared.far.Far.{Far}
use Rattle.aseba_check.specs.CountedPlaces.{known_at}
use Rattle.aseba_check.specs.Refused.{far_view}
use Rattle.aseba_check.specs.Starts.{table_told, first_far}
use Rattle.aseba_check.specs.Statements.{Known}
use Rattle.aseba_check.proofs.FarTies.{far-refused}
use Rattle.aseba_check.proofs.far.far_subroutine.Goals as goal

pub returns : goal.returns
returns c =
    let project = c.args.project.now in
    let source = c.args.source.now in
    let places = c.args.places.now in
    let parts = map handler_view source.parts in
    let sliced = map handler_view c.as_slice-parts.result.now in
    let jump = jump_words (project_view project) in
    let same : sliced ≡ parts = ap (λ (l : List Handler). map handler_view l) c.as_slice-parts.ensures in
    let known = c.in_ok-world.ensures.known ∙ ap (λ l. known_at project l places) same in
    let first = c.table_words-first.ensures ∙ ap (λ l. table_told 3 l) same in
    let found = c.first_far.ensures ∙ (ap (λ (k : Known). first_far k c.jump_words.result c.table_words-first.result sliced) known
    ∙ (ap (λ (j : ℕ). first_far (known_at project parts places) j c.table_words-first.result sliced) c.jump_words.ensures
    ∙ (ap (λ (n : ℕ). first_far (known_at project parts places) jump n sliced) first ∙ ap (λ l. first_far (known_at project parts places) jump (table_told 3 parts) l) same))) in
    far-refused project (source_view source) c.requires.inside c.requires.is_tree c.requires.faultless c.requires.room (sym c.is_large.ensures ∙ c.if-not-is_large.false) places c.in_ok-world.ensures.fits c.requires.places
    ∙ ap (λ (o : Option Far). option_map far_view o) (sym found)
