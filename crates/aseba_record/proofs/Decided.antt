-- A text spells one recording or has one first bad line, and reading it comes to that.
use Rattle.std.proofs.Common.{◌≡◌, ℕ, suc, ◌+◌, ◌-◌, ◌<◌, ◌≤◌, Bool, true, false, nat_lt, List, [], ◌∷◌, ◌++◌, length, take, drop, Some, None, Result, Ok, Err, ◌⊎◌, inl, inr, refl, sym, ap, ◌∙◌, subst, arith, append_assoc, append-nil}
use Rattle.std.specs.Result.{IfOk, IfErr}
use Rattle.std.specs.Str.Lines.{lines}
use Rattle.std.proofs.lemmas.Grind.{common_steps}
use Rattle.std.proofs.lemmas.List.{take-append-drop, take-take, take_all}
use Rattle.aseba_dump.specs.declared.timed.Timed.{Timed}
use Rattle.aseba_tree.specs.declared.description.Sized.{Sized}
use Rattle.aseba_record.specs.declared.format.Format.TheVariants.{Old, New}
use Rattle.aseba_record.specs.declared.fault.RecordError.{RecordError}
use Rattle.aseba_record.specs.declared.fault.RecordError.TheVariants as error
use Rattle.aseba_record.specs.Texts.{last_row}
use Rattle.aseba_record.specs.Grammar.{RowsIn, RecordingRows, Recording, BeginsRecording, IsBadLine, TellsLine, IsDecided}
use Rattle.aseba_record.specs.Reading.{recording_of, Reads}
use Rattle.aseba_record.proofs.Steps.{State, start, head, entries, finish, run, recording_run, taken, taken_front, Outcome, whole, stuck, outcome}
use Rattle.aseba_record.proofs.Standing.{Stands, nothing, stands, comes_to}

-- lines that were taken spell a recording where none is missing
spells : (s : State) (rows : List (List ℕ)) (n : ℕ) (timed : List Timed) → Stands s rows → finish n s ≡ Ok timed → RecordingRows rows timed
spells start rows n timed h k =
    let none : [] ≡ timed = cc in
    (Old, subst (RowsIn Old rows) none (nothing Old rows tt h))
spells (head events) rows n timed h k = absurd cc
spells (entries format found) rows n timed h k =
    let is : found ≡ timed = cc in
    (format, subst (RowsIn format rows) is h)

-- and begin one
begins_at : (s : State) (rows : List (List ℕ)) → Stands s rows → BeginsRecording rows
begins_at start rows h = ([], [], (Old, nothing Old (rows ++ []) tt (ap (λ r. r ++ []) h)))
begins_at (head events) rows h = (last_row ∷ [], [], (New events, nothing (New events) (rows ++ last_row ∷ []) h.named (ap (λ r. r ++ last_row ∷ []) h.said)))
begins_at (entries format timed) rows h = ([], timed, (format, subst (λ (r : List (List ℕ)). RowsIn format r timed) (sym (append-nil rows)) h))

begins : (rows : List (List ℕ)) (s : State) → taken start rows ≡ Some s → BeginsRecording rows
begins rows s h = begins_at s rows (stands start s [] rows refl h)

not_begun : (rows : List (List ℕ)) → taken start rows ≡ None → BeginsRecording rows → ⊥
not_begun rows h b =
    let c = comes_to (rows ++ b.0) b.1 b.2 in
    let none = taken_front start rows b.0 h in
    let some = c.read in
    absurd cc

bad_at : (rows : List (List ℕ)) (k : ℕ) (s : State) → suc k ≤ length rows → taken start (take k rows) ≡ Some s → taken start (take (suc k) rows) ≡ None → IsBadLine rows (suc k)
bad_at rows k s lt h none =
    let one : k ≡ suc k - 1 = omega arith in
    record {
      least = omega arith;
      most = omega arith;
      before = subst (λ j. BeginsRecording (take j rows)) one (begins (take k rows) s h);
      breaks = λ le b. not_begun (take (suc k) rows) none b;
      lacks = λ past. absurd (omega arith);
    }

bad_behind : (rows : List (List ℕ)) (events : List Sized) → taken start rows ≡ Some (head events) → IsBadLine rows (suc (length rows))
bad_behind rows events h =
    let all : length rows ≤ suc (length rows) - 1 = omega arith in
    record {
      least = omega arith;
      most = omega arith;
      before = subst BeginsRecording (sym (take_all _ rows all)) (begins rows (head events) h);
      breaks = λ le. absurd (omega arith);
      lacks = λ past timed lines.
          let c = comes_to rows timed lines in
          let same : Some c.known ≡ Some (head events) = sym c.read ∙ h in
          let k : c.known ≡ head events = cc in
          let w : Err 0 ≡ Ok timed = ap (finish 0) (sym k) ∙ c.whole 0 in
          absurd cc;
    }

-- what reading gives is a recording or the first bad line
data Found (rows : List (List ℕ)) : Type 0 where
  read : (timed : List Timed) → recording_of rows ≡ Ok timed → RecordingRows rows timed → Found rows
  bad : (n : ℕ) → recording_of rows ≡ Err n → IsBadLine rows n → Found rows

ended : (rows : List (List ℕ)) (s : State) → taken start rows ≡ Some s → run 1 start rows ≡ finish (1 + length rows) s → Found rows
ended rows start h r = read [] (recording_run rows ∙ r) (spells start rows 0 [] (stands start start [] rows refl h) refl)
ended rows (head events) h r =
    let one : 1 + length rows ≡ suc (length rows) = omega arith in
    bad (suc (length rows)) (recording_run rows ∙ r ∙ ap (λ n. Err n) one) (bad_behind rows events h)
ended rows (entries format timed) h r = read timed (recording_run rows ∙ r) (spells (entries format timed) rows 0 timed (stands start (entries format timed) [] rows refl h) refl)

found : (rows : List (List ℕ)) → Found rows
found rows = by (outcome rows 1 start)
  where
    by : Outcome 1 start rows → Found rows
    by (whole s h r) = ended rows s h r
    by (stuck k s lt h none r) =
        let one : 1 + k ≡ suc k = omega arith in
        bad (suc k) (recording_run rows ∙ r ∙ ap (λ n. Err n) one) (bad_at rows k s lt h none)

pub one_recording : (rows : List (List ℕ)) (timed other : List Timed) → RecordingRows rows timed → RecordingRows rows other → timed ≡ other
one_recording rows timed other h k =
    let a = comes_to rows timed h in
    let b = comes_to rows other k in
    let same : Some a.known ≡ Some b.known = sym a.read ∙ b.read in
    let known : a.known ≡ b.known = cc in
    let ends : Ok timed ≡ Ok other = sym (a.whole 0) ∙ ap (finish 0) known ∙ b.whole 0 in
    cc

-- fewer lines begin a recording too
shorter : (rows : List (List ℕ)) (m k : ℕ) → m ≤ k → BeginsRecording (take k rows) → BeginsRecording (take m rows)
shorter rows m k le b =
    let front : take m rows ++ drop m (take k rows) ≡ take k rows =
    ap (λ l. l ++ drop m (take k rows)) (sym (take-take m k rows le)) ∙ take-append-drop m (take k rows) in (
      drop m (take k rows) ++ b.0,
      b.1,
      subst (λ l. RecordingRows l b.1) (ap (λ l. l ++ b.0) (sym front) ∙ append_assoc (take m rows) (drop m (take k rows)) b.0) b.2,
    )

no_earlier : (rows : List (List ℕ)) (m n : ℕ) → m < n → IsBadLine rows m → IsBadLine rows n → ⊥
no_earlier rows m n lt a b =
    let within : m ≤ length rows = omega (arith, b.most) in
    a.breaks within (shorter rows m (n - 1) (omega arith) b.before)

below : (i j : ℕ) → nat_lt i j ≡ true → i < j
below i j h = grind (arith, common_steps)

above : (i j : ℕ) → nat_lt i j ≡ false → j ≤ i
above i j h = grind (arith, common_steps)

one_bad : (rows : List (List ℕ)) (m n : ℕ) → IsBadLine rows m → IsBadLine rows n → m ≡ n
one_bad rows m n a b = by (nat_lt m n) (nat_lt n m) refl refl
  where
    by : (s t : Bool) → nat_lt m n ≡ s → nat_lt n m ≡ t → m ≡ n
    by true t h k = absurd (no_earlier rows m n (below m n h) a b)
    by false true h k = absurd (no_earlier rows n m (below n m k) b a)
    by false false h k = omega (arith, above m n h, above n m k)

pub never_both : (rows : List (List ℕ)) (timed : List Timed) (n : ℕ) → RecordingRows rows timed → IsBadLine rows n → ⊥
never_both rows timed n h b = by (nat_lt (length rows) n) refl
  where
    by : (t : Bool) → nat_lt (length rows) n ≡ t → ⊥
    by true k = b.lacks (below _ _ k) timed h
    by false k = b.breaks (above _ _ k) (drop n rows, timed, subst (λ l. RecordingRows l timed) (sym (take-append-drop n rows)) h)

some : (rows : List (List ℕ)) → Found rows → ((timed : List Timed) × RecordingRows rows timed) ⊎ ((n : ℕ) × IsBadLine rows n)
some rows (read timed e h) = inl (timed, h)
some rows (bad n e h) = inr (n, h)

pub decided : (text : List ℕ) → IsDecided text
decided text = record {
  some = some (lines text) (found (lines text));
  one_recording = one_recording (lines text);
  one_line = one_bad (lines text);
  never_both = never_both (lines text);
}

-- what reading gives, by the text
pub is_read : (rows : List (List ℕ)) (timed : List Timed) → recording_of rows ≡ Ok timed → RecordingRows rows timed
is_read rows timed e = by (found rows)
  where
    by : Found rows → RecordingRows rows timed
    by (read other f h) =
        let same : Ok other ≡ Ok timed = sym f ∙ e in
        let is : other ≡ timed = cc in
        subst (RecordingRows rows) is h
    by (bad n f h) = let same : Err n ≡ Ok timed = sym f ∙ e in absurd cc

pub is_bad : (rows : List (List ℕ)) (n : ℕ) → recording_of rows ≡ Err n → IsBadLine rows n
is_bad rows n e = by (found rows)
  where
    by : Found rows → IsBadLine rows n
    by (read timed f h) = let same : Ok timed ≡ Err n = sym f ∙ e in absurd cc
    by (bad m f h) =
        let same : Err m ≡ Err n = sym f ∙ e in
        let is : m ≡ n = cc in
        subst (IsBadLine rows) is h

pub gives_recording : (text : List ℕ) (r : Result (List Timed) RecordError) → Reads (λ timed. timed) r (recording_of (lines text)) → IfOk r (λ timed. Recording text timed)
gives_recording text (Ok timed) h = is_read (lines text) timed h
gives_recording text (Err e) h = tt

pub tells_line : (text : List ℕ) (r : Result (List Timed) RecordError) → Reads (λ timed. timed) r (recording_of (lines text)) → IfErr r (λ e. TellsLine text e)
tells_line text (Ok timed) h = tt
tells_line text (Err error.Mem) h = tt
tells_line text (Err (error.Line n)) h = is_bad (lines text) n h
