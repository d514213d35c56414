-- The texts of lines, one behind the other.
use Rattle.std.proofs.Common.{◌≡◌, ℕ, ℤ, List, [], ◌∷◌, ◌++◌, map, codes, Result, Ok, Err, OnOk, OnErr, refl, ap, sym, ◌∙◌, append_assoc}
use Rattle.std.specs.Prelude.{slice_index}
use Rattle.std.proofs.lemmas.List.{map-append}
use Rattle.aseba_tree.specs.Layout.{Placed, cells_at}
use Rattle.aseba_tree.specs.Line.{Line, line_by, line_text, lines_text}
use Rattle.aseba_tree.proofs.RunLaws.{vars-kept}
use Rattle.aseba_driver.specs.declared.legend.Legend.{Legend}
use Rattle.aseba_driver.specs.declared.moment.Moment.{Moment}
use Rattle.aseba_driver.specs.Driven.{told_by, var_lines, end_line, ending_text}

-- what holds anyway holds at an error
pub on_err : {T E : Type 0} (r : Result T E) (P : Type 0) → P → OnErr r P
on_err (Ok x) P p = tt
on_err (Err e) P p = p

-- a text that was added is another one
pub same_told : {T E : Type 0} (r : Result T E) (new text a b : List ℕ) → a ≡ b → OnOk r (new ≡ text ++ a) → OnOk r (new ≡ text ++ b)
same_told (Ok x) new text a b same e = e ∙ ap (λ t. text ++ t) same
same_told (Err x) new text a b same e = tt

pub lines_text-append : (xs ys : List Line) → lines_text (xs ++ ys) ≡ lines_text xs ++ lines_text ys
lines_text-append [] ys = refl
lines_text-append (x ∷ xs) ys =
    ap (λ t. line_text x ++ codes "\n" ++ t) (lines_text-append xs ys) ∙ sym (append_assoc (line_text x ++ codes "\n") (lines_text xs) (lines_text ys))

-- the same with the source's lines in them
pub told_by-append : (legend : Legend) (xs ys : List Line) → told_by legend (xs ++ ys) ≡ told_by legend xs ++ told_by legend ys
told_by-append legend xs ys =
    ap lines_text (map-append (line_by (slice_index legend.lines.now)) xs ys)
    ∙ lines_text-append (map (line_by (slice_index legend.lines.now)) xs) (map (line_by (slice_index legend.lines.now)) ys)

-- what a run leaves has no line of the source
pub ending_told : (legend : Legend) (own : List Placed) (cells : List ℤ) (moment : Moment) → ending_text own cells moment ≡ told_by legend (var_lines cells own ++ end_line moment)
ending_told legend own cells moment =
    sym (lines_text-append (var_lines cells own) (end_line moment)) ∙ ap lines_text (sym (vars-kept (slice_index legend.lines.now) (cells_at cells own) moment.ticks moment.effects))

-- a line, and another behind it
pub two_lines : (text : List ℕ) (a b : Line) → (text ++ lines_text (a ∷ [])) ++ lines_text (b ∷ []) ≡ text ++ lines_text (a ∷ b ∷ [])
two_lines text a b = append_assoc text (lines_text (a ∷ [])) (lines_text (b ∷ [])) ∙ ap (λ t. text ++ t) (sym (lines_text-append (a ∷ []) (b ∷ [])))
