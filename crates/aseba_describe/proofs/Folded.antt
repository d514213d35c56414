-- Lines taken one behind the other.
use Rattle.std.proofs.Common.{◌≡◌, ℕ, suc, ◌+◌, ◌<◌, ◌≤◌, Bool, true, false, not, List, [], ◌∷◌, ◌++◌, length, take, map, Option, Some, None, Ok, Err, refl, sym, ap, ◌∙◌, arith, cond}
use Rattle.std.specs.List.{All}
use Rattle.std.proofs.lemmas.List.Elements.{All-nil, All-cons, All-head, All-tail}
use Rattle.aseba_describe.specs.declared.entry.Entry.{Entry}
use Rattle.aseba_describe.specs.declared.draft.Draft.{Draft}
use Rattle.aseba_describe.specs.Spelling.{entry_text}
use Rattle.aseba_text.specs.Lines.{is_skipped, spoken}
use Rattle.aseba_describe.specs.Kinds.{rank_of, is_whole}
use Rattle.aseba_text.specs.Options.{◌>>=◌}
use Rattle.aseba_describe.specs.Reading.{entry_of, with_entry, with_line, project_of, read_from, goes_on}
use Rattle.aseba_text.proofs.Options.{bind_takes, bind_some}
use Rattle.aseba_describe.proofs.EntryLaws.{PlainEntry, speaks, entry_again, entry_takes}

-- what is known behind lines, and behind what lines say
abbrev pub taken : Draft → List (List ℕ) → Option Draft
taken d [] = Some d
taken d (line ∷ rows) = with_line d line >>= λ e. taken e rows

abbrev pub told : Draft → List Entry → Option Draft
told d [] = Some d
told d (e ∷ es) = with_entry d e >>= λ x. told x es

pub told-append : (d : Draft) (xs ys : List Entry) → told d (xs ++ ys) ≡ (told d xs >>= λ e. told e ys)
told-append d [] ys = refl
told-append d (x ∷ xs) ys = by (λ e. told-append e xs ys) (with_entry d x)
  where
    by : ((e : Draft) → told e (xs ++ ys) ≡ (told e xs >>= λ f. told f ys))
        → (r : Option Draft) → (r >>= λ e. told e (xs ++ ys)) ≡ ((r >>= λ e. told e xs) >>= λ e. told e ys)
    by again None = refl
    by again (Some e) = again e

pub told_on : (d e : Draft) (xs ys : List Entry) → told d xs ≡ Some e → told d (xs ++ ys) ≡ told e ys
told_on d e xs ys h = told-append d xs ys ∙ bind_some _ _ e h

skips : (d : Draft) (line : List ℕ) → is_skipped line ≡ true → with_line d line ≡ Some d
unfolding with_line
skips d line h = by _ h
  where
    by : (t : Bool) → t ≡ true → cond t (Some d) (entry_of line >>= λ e. with_entry d e) ≡ Some d
    by true e = refl
    by false e = absurd cc

says : (d : Draft) (line : List ℕ) → is_skipped line ≡ false → with_line d line ≡ (entry_of line >>= λ e. with_entry d e)
unfolding with_line
says d line h = by _ h
  where
    by : (t : Bool) → t ≡ false → cond t (Some d) (entry_of line >>= λ e. with_entry d e) ≡ (entry_of line >>= λ e. with_entry d e)
    by true e = absurd cc
    by false e = refl

pub line_again : (d : Draft) (e : Entry) → PlainEntry e → with_line d (entry_text e) ≡ with_entry d e
line_again d e h = says d (entry_text e) (speaks e) ∙ bind_some _ _ e (entry_again e h)

pub taken_told : (d : Draft) (es : List Entry) → All PlainEntry es → taken d (map entry_text es) ≡ told d es
taken_told d [] h = refl
taken_told d (e ∷ es) h =
    ap (λ r. r >>= λ x. taken x (map entry_text es)) (line_again d e (All-head PlainEntry e es h)) ∙ by (λ x. taken_told x es (All-tail PlainEntry e es h)) (with_entry d e)
  where
    by : ((x : Draft) → taken x (map entry_text es) ≡ told x es) → (r : Option Draft) → (r >>= λ x. taken x (map entry_text es)) ≡ (r >>= λ x. told x es)
    by again None = refl
    by again (Some x) = again x

pub taken_spoken : (d : Draft) (rows : List (List ℕ)) → taken d (spoken rows) ≡ taken d rows
taken_spoken d [] = refl
taken_spoken d (line ∷ rows) = by (λ x. taken_spoken x rows) (is_skipped line) refl
  where
    on : ((x : Draft) → taken x (spoken rows) ≡ taken x rows) → (r : Option Draft) → (r >>= λ x. taken x (spoken rows)) ≡ (r >>= λ x. taken x rows)
    on again None = refl
    on again (Some x) = again x

    by : ((x : Draft) → taken x (spoken rows) ≡ taken x rows) → (t : Bool) → is_skipped line ≡ t
        → taken d (cond (not t) (line ∷ spoken rows) (spoken rows)) ≡ (with_line d line >>= λ x. taken x rows)
    by again true h = again d ∙ sym (bind_some _ _ d (skips d line h))
    by again false h = on again (with_line d line)

-- lines that were taken are what some entries say
pub record Said (d e : Draft) (rows : List (List ℕ)) : Type 0 where
  pub said : List Entry
  pub spelled : spoken rows ≡ map entry_text said
  pub each : All PlainEntry said
  pub read : told d said ≡ Some e

pub says_entries : (rows : List (List ℕ)) (d e : Draft) → taken d rows ≡ Some e → Said d e rows
says_entries [] d e h = record { said = []; spelled = refl; each = All-nil PlainEntry; read = h }
says_entries (line ∷ rows) d e h = by (λ x k. says_entries rows x e k) (is_skipped line) refl
  where
    by : ((x : Draft) → taken x rows ≡ Some e → Said x e rows) → (t : Bool) → is_skipped line ≡ t → Said d e (line ∷ rows)
    by again true s =
        let rest = again d (sym (bind_some _ _ d (skips d line s)) ∙ h) in
        record {
          said = rest.said;
          spelled = ap (λ t. cond (not t) (line ∷ spoken rows) (spoken rows)) s ∙ rest.spelled;
          each = rest.each;
          read = rest.read;
        }
    by again false s =
        let x = bind_takes _ _ _ h in
        let y = bind_takes _ _ _ (sym (says d line s) ∙ x.1) in
        let k = entry_takes line y.0 y.1 in
        let rest = again x.0 x.2 in
        record {
          said = y.0 ∷ rest.said;
          spelled = ap (λ t. cond (not t) (line ∷ spoken rows) (spoken rows)) s ∙ ap (λ l. l ∷ spoken rows) k.0 ∙ ap (λ l. entry_text y.0 ∷ l) rest.spelled;
          each = All-cons PlainEntry y.0 rest.said k.1 rest.each;
          read = bind_some _ _ x.0 y.2 ∙ rest.read;
        }

pub taken_front : (d : Draft) (front back : List (List ℕ)) → taken d front ≡ None → taken d (front ++ back) ≡ None
taken_front d [] back h = absurd cc
taken_front d (line ∷ front) back h = by (λ x e. taken_front x front back e) (with_line d line) h
  where
    by : ((x : Draft) → taken x front ≡ None → taken x (front ++ back) ≡ None)
        → (r : Option Draft) → (r >>= λ x. taken x front) ≡ None → (r >>= λ x. taken x (front ++ back)) ≡ None
    by again None e = refl
    by again (Some x) e = again x e

pub taken_on : (d e : Draft) (front back : List (List ℕ)) → taken d front ≡ Some e → taken d (front ++ back) ≡ taken e back
taken_on d e [] back h = let k : d ≡ e = cc in ap (λ x. taken x back) k
taken_on d e (line ∷ front) back h = by (λ x k. taken_on x e front back k) (with_line d line) h
  where
    by : ((x : Draft) → taken x front ≡ Some e → taken x (front ++ back) ≡ taken e back)
        → (r : Option Draft) → (r >>= λ x. taken x front) ≡ Some e → (r >>= λ x. taken x (front ++ back)) ≡ taken e back
    by again None k = absurd cc
    by again (Some x) k = again x k

-- How reading lines ends: with a project, behind the last with needed lines missing, or at a line that can't be taken.
pub data Outcome (n : ℕ) (d : Draft) (rows : List (List ℕ)) : Type 0 where
  whole : (e : Draft) → taken d rows ≡ Some e → 5 ≤ rank_of e.next → read_from n d rows ≡ Ok (project_of e) → Outcome n d rows
  short : (e : Draft) → taken d rows ≡ Some e → rank_of e.next < 5 → read_from n d rows ≡ Err (n + length rows) → Outcome n d rows
  stuck : (k : ℕ) (e : Draft) → suc k ≤ length rows → taken d (take k rows) ≡ Some e → taken d (take (suc k) rows) ≡ None → read_from n d rows ≡ Err (n + k) → Outcome n d rows

pub outcome : (rows : List (List ℕ)) (n : ℕ) (d : Draft) → Outcome n d rows
outcome [] n d = by (is_whole d.next) refl
  where
    by : (t : Bool) → is_whole d.next ≡ t → Outcome n d []
    by true h = whole d refl (grind arith) (ap (λ t. cond t (Ok (project_of d)) (Err n)) h)
    by false h =
        let none : n ≡ n + 0 = omega arith in
        short d refl (grind arith) (ap (λ t. cond t (Ok (project_of d)) (Err n)) h ∙ ap (λ m. Err m) none)
outcome (line ∷ rows) n d = by (λ e. outcome rows (n + 1) e) (with_line d line) refl
  where
    along : (r : Option Draft) → with_line d line ≡ r → read_from n d (line ∷ rows) ≡ goes_on (λ e. read_from (n + 1) e rows) n r
    along r h = ap (goes_on (λ e. read_from (n + 1) e rows) n) h

    on : (e : Draft) → with_line d line ≡ Some e → Outcome (n + 1) e rows → Outcome n d (line ∷ rows)
    on e h (whole f t w r) = whole f (bind_some _ _ e h ∙ t) w (along (Some e) h ∙ r)
    on e h (short f t w r) =
        let more : n + 1 + length rows ≡ n + suc (length rows) = omega arith in
        short f (bind_some _ _ e h ∙ t) w (along (Some e) h ∙ r ∙ ap (λ m. Err m) more)
    on e h (stuck k f lt t u r) =
        let more : n + 1 + k ≡ n + suc k = omega arith in
        stuck (suc k) f (omega arith) (bind_some _ _ e h ∙ t) (bind_some _ _ e h ∙ u) (along (Some e) h ∙ r ∙ ap (λ m. Err m) more)

    by : ((e : Draft) → Outcome (n + 1) e rows) → (r : Option Draft) → with_line d line ≡ r → Outcome n d (line ∷ rows)
    by again None h =
        let none : n ≡ n + 0 = omega arith in
        stuck 0 d (omega arith) refl (ap (λ r. r >>= λ e. taken e (take 0 rows)) h) (along None h ∙ ap (λ m. Err m) none)
    by again (Some e) h = on e h (again e)
