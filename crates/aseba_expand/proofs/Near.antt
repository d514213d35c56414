-- The subroutines of the element form begin where those of the source do.
use Rattle.std.proofs.Common.{◌≡◌, refl, ◌∙◌, ap, ℕ, ◌+◌, Bool, true, false, not, ◌&&◌, if◌then◌else◌, List, [], ◌∷◌, arith, Option, Some, None, is_some, map, nat_lt, nat_le}
use Rattle.std.specs.Prelude.{cond, filter, find}
use Rattle.std.specs.List.{list_all}
use Rattle.std.proofs.lemmas.Bool.{ltb-false, le-leb}
use Rattle.aseba_tree.specs.Code.{Handler}
use Rattle.aseba_tree.specs.Line.{named}
use Rattle.aseba_tree.specs.State.{Program}
use Rattle.aseba_tree.specs.CoreNumbers.{is_handler, core_part_words, core_table_words, core_starts_from, core_starts}
use Rattle.aseba_tree.specs.Events.{event_number}
use Rattle.aseba_tree.specs.Numbers.{table_words, Start, starts_from, starts}
use Rattle.aseba_tree.specs.Limits.{farthest}
use Rattle.aseba_tree.specs.Soundness.{far_subroutine}
use Rattle.aseba_expand.specs.Plain.{plain_part, plain_core}
use Rattle.aseba_expand.proofs.Good.{GoodParts}
use Rattle.aseba_expand.proofs.EventNumbers.{KnownParts}
use Rattle.aseba_expand.proofs.Words.{part-count, table-count}

same-starts : (program : Program) (hs : List Handler) (a : ℕ) → GoodParts program hs → KnownParts program hs
    → core_starts_from program.project a (filter (λ part. not (is_handler part)) (map (plain_part program) hs)) ≡ map (λ s. s.address) (starts_from program a (filter (λ h. h.is_sub) hs))
same-starts program [] a g k = refl
same-starts program (h ∷ hs) a g k = pick h.is_sub (event_number program.project (named h.name)) k.0 (λ a. same-starts program hs a g.1 k.1)
  where
    pick : (s : Bool) (o : Option ℕ) → (s ≡ false → is_some o ≡ true)
        → ((a : ℕ) → core_starts_from program.project a (filter (λ part. not (is_handler part)) (map (plain_part program) hs)) ≡ map (λ s. s.address) (starts_from program a (filter (λ h. h.is_sub) hs)))
        → core_starts_from program.project a (cond (not (is_some (if s then None else o))) (plain_part program h ∷ filter (λ part. not (is_handler part)) (map (plain_part program) hs)) (filter (λ part. not (is_handler part)) (map (plain_part program) hs)))
        ≡ map (λ s. s.address) (starts_from program a (cond s (h ∷ filter (λ h. h.is_sub) hs) (filter (λ h. h.is_sub) hs)))
    pick true o known rest = ap (λ l. a ∷ l) (rest (a + core_part_words program.project (plain_part program h)) ∙ ap (λ n. map (λ s. s.address) (starts_from program (a + n) (filter (λ h. h.is_sub) hs))) (part-count program h g.0))
    pick false None known rest = let bad = known refl in cc
    pick false (Some n) known rest = rest a

none-far : (ss : List Start) → find (λ s. nat_lt farthest s.address) ss ≡ None → list_all (λ a. nat_le a farthest) (map (λ s. s.address) ss) ≡ true
none-far [] e = refl
none-far (s ∷ ss) e = pick (nat_lt farthest s.address) refl (none-far ss) e
  where
    pick : (b : Bool) → nat_lt farthest s.address ≡ b → (find (λ s. nat_lt farthest s.address) ss ≡ None → list_all (λ a. nat_le a farthest) (map (λ s. s.address) ss) ≡ true) → cond b (Some s) (find (λ s. nat_lt farthest s.address) ss) ≡ None
        → (nat_le s.address farthest && list_all (λ a. nat_le a farthest) (map (λ s. s.address) ss)) ≡ true
    pick true t deeper e = cc
    pick false t deeper e = rw (le-leb s.address farthest (ltb-false farthest s.address t)) (deeper e)

pub is-near : (program : Program) → GoodParts program program.source.parts → KnownParts program program.source.parts → far_subroutine program ≡ None → list_all (λ a. nat_le a 4095) (core_starts program.project (plain_core program)) ≡ true
is-near program g k e =
    let table : core_table_words (plain_core program) ≡ table_words program = (let t = table-count program program.source.parts k in omega (arith, t)) in
    rw (table, same-starts program program.source.parts (table_words program) g k) (none-far (starts program) e)
