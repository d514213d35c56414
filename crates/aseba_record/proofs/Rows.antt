-- Lines with their ends.
use Rattle.std.proofs.Common.{◌≡◌, ℕ, List, [], ◌∷◌, ◌++◌, map, codes, refl, sym, ap, ◌∙◌, append_assoc}
use Rattle.std.specs.List.{flat_map}
use Rattle.aseba_tree.specs.declared.description.Sized.{Sized}
use Rattle.aseba_record.specs.declared.format.Format.TheVariants.{New}
use Rattle.aseba_record.specs.Texts.{event_text, last_row, head_rows, rows_text}

pub rows_append : (xs ys : List (List ℕ)) → rows_text (xs ++ ys) ≡ rows_text xs ++ rows_text ys
rows_append [] ys = refl
rows_append (x ∷ xs) ys = ap (λ l. (x ++ codes "\n") ++ l) (rows_append xs ys) ∙ sym (append_assoc (x ++ codes "\n") (rows_text xs) (rows_text ys))

pub rows_mapped : {A : Type 0} (text : A → List ℕ) (xs : List A) → rows_text (map text xs) ≡ flat_map (λ x. text x ++ codes "\n") xs
rows_mapped text [] = refl
rows_mapped text (x ∷ xs) = ap (λ l. (text x ++ codes "\n") ++ l) (rows_mapped text xs)

-- a head that was put together
pub head_written : (events : List Sized) (a b c d e : List ℕ) → a ≡ [] → b ≡ a ++ codes "aseba-recording 2\n" → c ≡ b ++ flat_map (λ x. event_text x ++ codes "\n") events → d ≡ c ++ codes "frames\n" → e ≡ d
    → e ≡ rows_text (head_rows (New events))
head_written events a b c d e ha hb hc hd he =
    let lines : List ℕ = flat_map (λ x. event_text x ++ codes "\n") events in
    let put : e ≡ (codes "aseba-recording 2\n" ++ lines) ++ codes "frames\n" = he ∙ hd ∙ ap (λ l. l ++ codes "frames\n") (hc ∙ ap (λ l. l ++ lines) (hb ∙ ap (λ l. l ++ codes "aseba-recording 2\n") ha)) in
    put
    ∙ append_assoc (codes "aseba-recording 2\n") lines (codes "frames\n")
    ∙ ap (λ l. codes "aseba-recording 2\n" ++ (l ++ codes "frames\n")) (sym (rows_mapped event_text events))
    ∙ ap (λ l. codes "aseba-recording 2\n" ++ l) (sym (rows_append (map event_text events) (last_row ∷ [])))
