-- Where a text is cut.
use Rattle.std.proofs.Common.{◌≡◌, ℕ, Bool, true, false, not, ◌==◌, List, [], ◌∷◌, ◌++◌, Option, Some, None, refl, sym, ap, ◌∙◌, cond}
use Rattle.std.specs.Option.{option_map}
use Rattle.std.specs.List.{list_all}
use Rattle.std.proofs.lemmas.Bool.{eqb-true}
use Rattle.std.proofs.lemmas.List.Splits.{slice_split_none, slice_split_at}
use Rattle.aseba_text.specs.Fields.{cut, fields, has_no_blank}
use Rattle.aseba_text.proofs.Options.{and_takes, and_true, some_is}
use Rattle.aseba_text.proofs.LineLaws.{each_differs}

abbrev pub byte_before : ℕ → List ℕ × List ℕ → List ℕ × List ℕ
byte_before x c = (x ∷ c.0, c.1)

cut_first : (x : ℕ) (xs a b : List ℕ) → ((c d : List ℕ) → cut xs ≡ Some (c, d) → xs ≡ c ++ 32 ∷ d) → (t : Bool) → (x == 32) ≡ t
    → cond {A = Option (List ℕ × List ℕ)} t (Some ([], xs)) (option_map (byte_before x) (cut xs)) ≡ Some (a, b) → x ∷ xs ≡ a ++ 32 ∷ b
cut_first x xs a b again true e h =
    let k = some_is _ _ h in
    let f : [] ≡ a = ap (λ p. p.0) k in
    let g : xs ≡ b = ap (λ p. p.1) k in
    ap (λ y. y ∷ xs) (eqb-true x 32 e) ∙ ap (λ l. 32 ∷ l) g ∙ ap (λ l. l ++ 32 ∷ b) f
cut_first x xs a b again false e h = behind (cut xs) refl h
  where
    behind : (r : Option (List ℕ × List ℕ)) → cut xs ≡ r → option_map (byte_before x) r ≡ Some (a, b) → x ∷ xs ≡ a ++ 32 ∷ b
    behind None e h = absurd cc
    behind (Some c) e h =
        let k = some_is _ _ h in
        let f : x ∷ c.0 ≡ a = ap (λ p. p.0) k in
        let g : c.1 ≡ b = ap (λ p. p.1) k in
        ap (λ l. x ∷ l) (again c.0 c.1 e) ∙ ap (λ l. x ∷ (c.0 ++ 32 ∷ l)) g ∙ ap (λ l. l ++ 32 ∷ b) f

pub cut_takes : (text a b : List ℕ) → cut text ≡ Some (a, b) → text ≡ a ++ 32 ∷ b
cut_takes [] a b h = absurd cc
cut_takes (x ∷ xs) a b h = cut_first x xs a b (λ c d e. cut_takes xs c d e) (x == 32) refl h

pub cut_again : (a b : List ℕ) → has_no_blank a ≡ true → cut (a ++ 32 ∷ b) ≡ Some (a, b)
cut_again [] b h = refl
cut_again (x ∷ xs) b h =
    let k = and_takes _ _ h in
    by (x == 32) k.0 ∙ ap (option_map (λ c. (x ∷ c.0, c.1))) (cut_again xs b k.1)
  where
    by : (t : Bool) → not t ≡ true → cond {A = Option (List ℕ × List ℕ)} t (Some ([], xs ++ 32 ∷ b)) (option_map (λ c. (x ∷ c.0, c.1)) (cut (xs ++ 32 ∷ b))) ≡ option_map (λ c. (x ∷ c.0, c.1)) (cut (xs ++ 32 ∷ b))
    by true p = absurd cc
    by false p = refl

pub other : (p : ℕ → Bool) (b : ℕ) → p 32 ≡ false → p b ≡ true → not (b == 32) ≡ true
other p b none h = by (b == 32) refl
  where
    by : (t : Bool) → (b == 32) ≡ t → not t ≡ true
    by true e = let f = ap p (eqb-true b 32 e) in absurd cc
    by false e = refl

pub others : (p : ℕ → Bool) (bs : List ℕ) → p 32 ≡ false → list_all p bs ≡ true → has_no_blank bs ≡ true
others p [] none h = refl
others p (b ∷ bs) none h = let k = and_takes _ _ h in and_true _ _ (other p b none k.0) (others p bs none k.1)

before_blank : (x : ℕ) (xs a b : List ℕ) → ((c d : List ℕ) → cut xs ≡ Some (c, d) → has_no_blank c ≡ true) → (t : Bool) → (x == 32) ≡ t
    → cond {A = Option (List ℕ × List ℕ)} t (Some ([], xs)) (option_map (byte_before x) (cut xs)) ≡ Some (a, b) → has_no_blank a ≡ true
before_blank x xs a b again true e h = ap has_no_blank (sym (ap (λ p. p.0) (some_is _ _ h)))
before_blank x xs a b again false e h = behind (cut xs) refl h
  where
    behind : (r : Option (List ℕ × List ℕ)) → cut xs ≡ r → option_map (byte_before x) r ≡ Some (a, b) → has_no_blank a ≡ true
    behind None e h = absurd cc
    behind (Some c) f h =
        let k : x ∷ c.0 ≡ a = ap (λ p. p.0) (some_is _ _ h) in
        ap has_no_blank (sym k) ∙ and_true _ _ (ap not e) (again c.0 c.1 f)

pub cut_has_no_blank : (text a b : List ℕ) → cut text ≡ Some (a, b) → has_no_blank a ≡ true
cut_has_no_blank [] a b h = absurd cc
cut_has_no_blank (x ∷ xs) a b h = before_blank x xs a b (λ c d e. cut_has_no_blank xs c d e) (x == 32) refl h

none_behind : (x : ℕ) (r : Option (List ℕ × List ℕ)) → option_map (byte_before x) r ≡ None → r ≡ None
none_behind x None h = refl
none_behind x (Some c) h = absurd cc

none_before : (x : ℕ) (xs : List ℕ) → (cut xs ≡ None → has_no_blank xs ≡ true) → (t : Bool) → (x == 32) ≡ t
    → cond {A = Option (List ℕ × List ℕ)} t (Some ([], xs)) (option_map (byte_before x) (cut xs)) ≡ None → has_no_blank (x ∷ xs) ≡ true
none_before x xs again true e h = absurd cc
none_before x xs again false e h = and_true _ _ (ap not e) (again (none_behind x (cut xs) h))

pub none_has_no_blank : (text : List ℕ) → cut text ≡ None → has_no_blank text ≡ true
none_has_no_blank [] h = refl
none_has_no_blank (x ∷ xs) h = none_before x xs (λ e. none_has_no_blank xs e) (x == 32) refl h

-- the fields of a text by its first cut
pub fields_cut : (text front behind : List ℕ) → cut text ≡ Some (front, behind) → fields text ≡ front ∷ fields behind
fields_cut text front behind h =
    ap fields (cut_takes text front behind h)
    ∙ slice_split_at (λ b. b == 32) front 32 behind (each_differs 32 front (cut_has_no_blank text front behind h)) refl

pub fields_whole : (text : List ℕ) → cut text ≡ None → fields text ≡ text ∷ []
fields_whole text h = slice_split_none (λ b. b == 32) text (each_differs 32 text (none_has_no_blank text h))
