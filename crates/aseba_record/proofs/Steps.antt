-- Reading lines one behind the other, in steps from what was known to what is known then.
use Rattle.std.proofs.Common.{◌≡◌, ℕ, suc, ◌+◌, ◌≤◌, Bool, true, false, List, [], ◌∷◌, ◌++◌, length, take, Option, Some, None, Result, Ok, Err, refl, ap, ◌∙◌, arith, cond}
use Rattle.aseba_text.specs.Options.{◌>>=◌}
use Rattle.aseba_text.specs.Names.{is_same}
use Rattle.aseba_text.proofs.Options.{bind_some}
use Rattle.aseba_tree.specs.declared.description.Sized.{Sized}
use Rattle.aseba_dump.specs.declared.timed.Timed.{Timed}
use Rattle.aseba_record.specs.declared.format.Format.{Format}
use Rattle.aseba_record.specs.declared.format.Format.TheVariants.{Old, New}
use Rattle.aseba_record.specs.Texts.{first_row, last_row}
use Rattle.aseba_record.specs.Reading.{with_entry, goes_on, entries_from, with_event, Head, head_from, behind_head, recording_of}

-- what is known behind some lines: nothing, some names of a head, or some events behind it
pub data State : Type 0 where
  start : State
  head : List Sized → State
  entries : Format → List Timed → State

abbrev pub told : Format → Option (List Timed) → Option State
told format r = r >>= λ timed. Some (entries format timed)

abbrev pub named : Option (List Sized) → Option State
named r = r >>= λ events. Some (head events)

abbrev pub step : State → List ℕ → Option State
step start line = cond (is_same line first_row) (Some (head [])) (told Old (with_entry Old [] line))
step (head events) line = cond (is_same line last_row) (Some (entries (New events) [])) (named (with_event events line))
step (entries format timed) line = told format (with_entry format timed line)

-- the recording where no line is left, or the number of the line that is missing
abbrev pub finish : ℕ → State → Result (List Timed) ℕ
finish n start = Ok []
finish n (head events) = Err n
finish n (entries format timed) = Ok timed

abbrev pub run : ℕ → State → List (List ℕ) → Result (List Timed) ℕ
run n s [] = finish n s
run n s (line ∷ lines) = goes_on (λ t. run (n + 1) t lines) n (step s line)

-- Reading is such a run

entries_run : (format : Format) (n : ℕ) (timed : List Timed) (rows : List (List ℕ)) → entries_from format n timed rows ≡ run n (entries format timed) rows
entries_run format n timed [] = refl
entries_run format n timed (line ∷ rows) = by (λ more. entries_run format (n + 1) more rows) (with_entry format timed line)
  where
    by : ((more : List Timed) → entries_from format (n + 1) more rows ≡ run (n + 1) (entries format more) rows) → (r : Option (List Timed))
        → goes_on (λ more. entries_from format (n + 1) more rows) n r ≡ goes_on (λ t. run (n + 1) t rows) n (told format r)
    by again None = refl
    by again (Some more) = again more

head_run : (n : ℕ) (events : List Sized) (rows : List (List ℕ)) → behind_head (head_from n events rows) ≡ run n (head events) rows
head_run n events [] = refl
head_run n events (line ∷ rows) = by (λ more. head_run (n + 1) more rows) (is_same line last_row)
  where
    along : ((more : List Sized) → behind_head (head_from (n + 1) more rows) ≡ run (n + 1) (head more) rows) → (r : Option (List Sized))
        → behind_head (goes_on (λ more. head_from (n + 1) more rows) n r) ≡ goes_on (λ t. run (n + 1) t rows) n (named r)
    along again None = refl
    along again (Some more) = again more

    by : ((more : List Sized) → behind_head (head_from (n + 1) more rows) ≡ run (n + 1) (head more) rows) → (t : Bool)
        → behind_head (cond {A = Result Head ℕ} t (Ok (events, (n + 1, rows))) (goes_on (λ more. head_from (n + 1) more rows) n (with_event events line)))
        ≡ goes_on (λ s. run (n + 1) s rows) n (cond t (Some (entries (New events) [])) (named (with_event events line)))
    by again true = entries_run (New events) (n + 1) [] rows
    by again false = along again (with_event events line)

pub recording_run : (rows : List (List ℕ)) → recording_of rows ≡ run 1 start rows
recording_run [] = refl
recording_run (line ∷ rows) = by (is_same line first_row)
  where
    by : (t : Bool) → cond {A = Result (List Timed) ℕ} t (behind_head (head_from 2 [] rows)) (entries_from Old 1 [] (line ∷ rows))
        ≡ goes_on (λ s. run (1 + 1) s rows) 1 (cond t (Some (head [])) (told Old (with_entry Old [] line)))
    by true = head_run 2 [] rows
    by false = entries_run Old 1 [] (line ∷ rows)

-- Lines that were taken

abbrev pub taken : State → List (List ℕ) → Option State
taken s [] = Some s
taken s (line ∷ lines) = step s line >>= λ t. taken t lines

pub taken_front : (s : State) (front back : List (List ℕ)) → taken s front ≡ None → taken s (front ++ back) ≡ None
taken_front s [] back h = absurd cc
taken_front s (line ∷ front) back h = by (λ t e. taken_front t front back e) (step s line) h
  where
    by : ((t : State) → taken t front ≡ None → taken t (front ++ back) ≡ None) → (r : Option State) → (r >>= λ t. taken t front) ≡ None → (r >>= λ t. taken t (front ++ back)) ≡ None
    by again None e = refl
    by again (Some t) e = again t e

pub taken_on : (s t : State) (front back : List (List ℕ)) → taken s front ≡ Some t → taken s (front ++ back) ≡ taken t back
taken_on s t [] back h = let k : s ≡ t = cc in ap (λ x. taken x back) k
taken_on s t (line ∷ front) back h = by (λ x k. taken_on x t front back k) (step s line) h
  where
    by : ((x : State) → taken x front ≡ Some t → taken x (front ++ back) ≡ taken t back) → (r : Option State) → (r >>= λ x. taken x front) ≡ Some t → (r >>= λ x. taken x (front ++ back)) ≡ taken t back
    by again None k = absurd cc
    by again (Some x) k = again x k

-- How a run ends: behind the last line, or at a line that can't be taken.
pub data Outcome (n : ℕ) (s : State) (rows : List (List ℕ)) : Type 0 where
  whole : (t : State) → taken s rows ≡ Some t → run n s rows ≡ finish (n + length rows) t → Outcome n s rows
  stuck : (k : ℕ) (t : State) → suc k ≤ length rows → taken s (take k rows) ≡ Some t → taken s (take (suc k) rows) ≡ None → run n s rows ≡ Err (n + k) → Outcome n s rows

pub outcome : (rows : List (List ℕ)) (n : ℕ) (s : State) → Outcome n s rows
outcome [] n s = let none : n ≡ n + 0 = omega arith in whole s refl (ap (λ m. finish m s) none)
outcome (line ∷ rows) n s = by (λ t. outcome rows (n + 1) t) (step s line) refl
  where
    along : (r : Option State) → step s line ≡ r → run n s (line ∷ rows) ≡ goes_on (λ t. run (n + 1) t rows) n r
    along r h = ap (goes_on (λ t. run (n + 1) t rows) n) h

    on : (t : State) → step s line ≡ Some t → Outcome (n + 1) t rows → Outcome n s (line ∷ rows)
    on t h (whole u k r) =
        let more : n + 1 + length rows ≡ n + suc (length rows) = omega arith in
        whole u (bind_some _ _ t h ∙ k) (along (Some t) h ∙ r ∙ ap (λ m. finish m u) more)
    on t h (stuck k u lt a b r) =
        let more : n + 1 + k ≡ n + suc k = omega arith in
        stuck (suc k) u (omega arith) (bind_some _ _ t h ∙ a) (bind_some _ _ t h ∙ b) (along (Some t) h ∙ r ∙ ap (λ m. Err m) more)

    by : ((t : State) → Outcome (n + 1) t rows) → (r : Option State) → step s line ≡ r → Outcome n s (line ∷ rows)
    by again None h =
        let none : n ≡ n + 0 = omega arith in
        stuck 0 s (omega arith) refl (ap (λ r. r >>= λ t. taken t (take 0 rows)) h) (along None h ∙ ap (λ m. Err m) none)
    by again (Some t) h = on t h (again t)
