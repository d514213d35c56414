-- The first line tells the format.
use Rattle.std.proofs.Common.{◌≡◌, ℕ, true, false, List, [], ◌∷◌, map, refl, ap, ◌∙◌}
use Rattle.aseba_tree.specs.declared.description.Sized.{Sized}
use Rattle.aseba_dump.specs.declared.timed.Timed.{Timed}
use Rattle.aseba_record.specs.declared.format.Format.TheVariants.{Old, New}
use Rattle.aseba_record.specs.Texts.{entry_text}
use Rattle.aseba_record.specs.Grammar.{RowsIn, begins_new}
use Rattle.aseba_record.proofs.Standing.{not_first}

pub new_begins : (rows : List (List ℕ)) (events : List Sized) (timed : List Timed) → RowsIn (New events) rows timed → begins_new rows ≡ true
new_begins rows events timed h = ap begins_new h.said

old_begins_so : (timed : List Timed) (rows : List (List ℕ)) → RowsIn Old rows timed → begins_new (map (entry_text Old) timed) ≡ false
old_begins_so [] rows h = refl
old_begins_so (t ∷ ts) rows h = not_first Old t h.entries.each.0.time

pub old_begins : (rows : List (List ℕ)) (timed : List Timed) → RowsIn Old rows timed → begins_new rows ≡ false
old_begins rows timed h = ap begins_new h.said ∙ old_begins_so timed rows h
