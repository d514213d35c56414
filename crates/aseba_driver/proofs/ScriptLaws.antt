-- The lines of a script, read one after the other.
use Rattle.std.proofs.Common.{◌≡◌, ℕ, suc, ◌+◌, ◌-◌, nat_le, Bool, true, false, not, ◌&&◌, List, [], ◌∷◌, ◌++◌, length, take, map, Option, Some, None, refl, sym, ap, ◌∙◌, subst, arith, cond, append_assoc, append-nil, length-append}
use Rattle.std.proofs.lemmas.List.{map-append}
use Rattle.std.proofs.lemmas.List.Elements.{filter-append}
use Rattle.std.proofs.Math.Bool.{and-true}
use Rattle.std.specs.Str.Lines.{lines}
use Rattle.aseba_text.specs.Options.{◌>>=◌, when}
use Rattle.aseba_text.specs.Lines.{is_skipped, spoken}
use Rattle.aseba_text.proofs.Options.{when_takes, and_takes, and_true, bind_takes, some_is}
use Rattle.aseba_tree.specs.Code.{Project}
use Rattle.aseba_tree.specs.Layout.{Placed}
use Rattle.aseba_driver.specs.declared.entry.Entry.{Entry}
use Rattle.aseba_driver.specs.Reading.{entry_of, last_time, with_line}
use Rattle.aseba_driver.specs.Grammar.{never_fall, ScriptLines, IsBadLine}

-- Lists of entries that are there

pub somes_alike : {A : Type 0} (xs ys : List A) → map Some xs ≡ map Some ys → xs ≡ ys
somes_alike [] [] e = refl
somes_alike [] (y ∷ ys) e = absurd cc
somes_alike (x ∷ xs) [] e = absurd cc
somes_alike (x ∷ xs) (y ∷ ys) e =
    let first : x ≡ y = cc in
    let others : map Some xs ≡ map Some ys = cc in
    λ i. first i ∷ somes_alike xs ys others i

no_none : {A : Type 0} (xs ys : List A) → map Some xs ++ None ∷ [] ≡ map Some ys → ⊥
no_none [] [] e = cc
no_none [] (y ∷ ys) e = cc
no_none (x ∷ xs) [] e = cc
no_none (x ∷ xs) (y ∷ ys) e = let others : map Some xs ++ None ∷ [] ≡ map Some ys = cc in no_none xs ys others

-- Times

abbrev times : List Entry → List ℕ
times script = map (λ (e : Entry). e.time) script

more_times : (t : ℕ) (script : List Entry) (e : Entry) → never_fall t (times (script ++ e ∷ [])) ≡ (never_fall t (times script) && nat_le (last_time t script) e.time)
more_times t [] e = and-true (nat_le t e.time)
more_times t (x ∷ xs) e = by (nat_le t x.time) (more_times x.time xs e)
  where
    by : (b : Bool) → never_fall x.time (times (xs ++ e ∷ [])) ≡ (never_fall x.time (times xs) && nat_le (last_time x.time xs) e.time) → (b && never_fall x.time (times (xs ++ e ∷ []))) ≡ ((b && never_fall x.time (times xs)) && nat_le (last_time x.time xs) e.time)
    by true others = others
    by false others = refl

-- Lines

abbrev spoken_one : Bool → List ℕ → List (List ℕ)
spoken_one skipped line = cond (not skipped) (line ∷ []) []

module _ (project : Project) (places : List Placed) where
  abbrev says : List ℕ → Option Entry
  says = entry_of project places

  -- what lines say, with one more
  more_said : (taken : List (List ℕ)) (line : List ℕ) (script : List Entry) (skipped : Bool) → is_skipped line ≡ skipped → map says (spoken taken) ≡ map Some script
      → map says (spoken (taken ++ line ∷ [])) ≡ map Some script ++ map says (spoken_one skipped line)
  more_said taken line script skipped e said =
      ap (map says) (filter-append (λ row. not (is_skipped row)) taken (line ∷ []))
      ∙ map-append says (spoken taken) (spoken (line ∷ []))
      ∙ (λ i. said i ++ map says (spoken_one (e i) line))

  skips : (taken : List (List ℕ)) (line : List ℕ) (script : List Entry) → is_skipped line ≡ true → ScriptLines project places taken script → ScriptLines project places (taken ++ line ∷ []) script
  skips taken line script e so_far = record { said = more_said taken line script true e so_far.said ∙ append-nil (map Some script); times = so_far.times }

  adds : (taken : List (List ℕ)) (line : List ℕ) (script : List Entry) (e : Entry) → is_skipped line ≡ false → says line ≡ Some e → nat_le (last_time 0 script) e.time ≡ true
      → ScriptLines project places taken script → ScriptLines project places (taken ++ line ∷ []) (script ++ e ∷ [])
  adds taken line script e skipped said later so_far = record {
    said = more_said taken line script false skipped so_far.said ∙ ap (λ o. map Some script ++ o ∷ []) said ∙ sym (map-append Some script (e ∷ []));
    times = more_times 0 script e ∙ and_true _ _ so_far.times later;
  }

  lacks : (taken : List (List ℕ)) (line : List ℕ) (script : List Entry) → is_skipped line ≡ false → says line ≡ None → ScriptLines project places taken script
      → (other : List Entry) → ScriptLines project places (taken ++ line ∷ []) other → ⊥
  lacks taken line script skipped none so_far other more =
      no_none script other (ap (λ o. map Some script ++ o ∷ []) (sym none) ∙ sym (more_said taken line script false skipped so_far.said) ∙ more.said)

  falls : (taken : List (List ℕ)) (line : List ℕ) (script : List Entry) (e : Entry) → is_skipped line ≡ false → says line ≡ Some e → nat_le (last_time 0 script) e.time ≡ false
      → ScriptLines project places taken script → (other : List Entry) → ScriptLines project places (taken ++ line ∷ []) other → ⊥
  falls taken line script e skipped said earlier so_far other more =
      let is : script ++ e ∷ [] ≡ other =
      somes_alike (script ++ e ∷ []) other
      (map-append Some script (e ∷ []) ∙ ap (λ o. map Some script ++ o ∷ []) (sym said) ∙ sym (more_said taken line script false skipped so_far.said) ∙ more.said) in
      let fine : (never_fall 0 (times script) && nat_le (last_time 0 script) e.time) ≡ true = sym (more_times 0 script e) ∙ ap (λ s. never_fall 0 (times s)) is ∙ more.times in
      let late : nat_le (last_time 0 script) e.time ≡ true = (and_takes (never_fall 0 (times script)) (nat_le (last_time 0 script) e.time) fine).1 in
      let clash : true ≡ false = sym late ∙ earlier in
      absurd cc

  -- Reading

  -- So far some lines were read, and others are left; the next one has this number.
  pub record ReadSoFar (rows left : List (List ℕ)) (script : List Entry) (n : ℕ) : Type 0 where
    pub taken : List (List ℕ)
    pub rows_are : rows ≡ taken ++ left
    pub count : n ≡ length taken + 1
    pub script_is : ScriptLines project places taken script

  pub reading_begins : (rows : List (List ℕ)) → ReadSoFar rows rows [] 1
  reading_begins rows = record { taken = []; rows_are = refl; count = refl; script_is = record { said = refl; times = refl } }

  pub reading_ends : (rows left : List (List ℕ)) (script : List Entry) (n : ℕ) → left ≡ [] → ReadSoFar rows left script n → ScriptLines project places rows script
  reading_ends rows left script n none so_far =
      subst (λ (r : List (List ℕ)). ScriptLines project places r script) (sym (so_far.rows_are ∙ ap (λ l. so_far.taken ++ l) none ∙ append-nil so_far.taken)) so_far.script_is

  abbrev read_entry : List Entry → Option Entry → Option (List Entry)
  read_entry script read = read >>= λ e. when (nat_le (last_time 0 script) e.time) (script ++ e ∷ [])

  abbrev read_line : Bool → List Entry → List ℕ → Option (List Entry)
  read_line skipped script line = cond skipped (Some script) (read_entry script (says line))

  with_line_is : (script : List Entry) (line : List ℕ) → with_line project places script line ≡ read_line (is_skipped line) script line
  unfolding with_line
  with_line_is script line = refl

  takes_line : (taken : List (List ℕ)) (line : List ℕ) (script more : List Entry) (skipped : Bool) → is_skipped line ≡ skipped → read_line skipped script line ≡ Some more
      → ScriptLines project places taken script → ScriptLines project places (taken ++ line ∷ []) more
  takes_line taken line script more true e h so_far = subst (λ (s : List Entry). ScriptLines project places (taken ++ line ∷ []) s) (some_is _ _ h) (skips taken line script e so_far)
  takes_line taken line script more false e h so_far =
      let b = bind_takes _ _ _ h in
      let w = when_takes _ _ _ b.2 in
      subst (λ (s : List Entry). ScriptLines project places (taken ++ line ∷ []) s) w.1 (adds taken line script b.0 e b.1 w.0 so_far)

  breaks_line : (taken : List (List ℕ)) (line : List ℕ) (script : List Entry) (skipped : Bool) (read : Option Entry) → is_skipped line ≡ skipped → says line ≡ read → read_line skipped script line ≡ None
      → ScriptLines project places taken script → (other : List Entry) → ScriptLines project places (taken ++ line ∷ []) other → ⊥
  breaks_line taken line script true read e f h so_far other more = absurd cc
  breaks_line taken line script false None e f h so_far other more = lacks taken line script e f so_far other more
  breaks_line taken line script false (Some entry) e f h so_far other more = by (nat_le (last_time 0 script) entry.time) refl
    where
      by : (b : Bool) → nat_le (last_time 0 script) entry.time ≡ b → ⊥
      by true g =
          let kept : read_entry script (says line) ≡ Some (script ++ entry ∷ []) = ap (read_entry script) f ∙ ap (λ b. when b (script ++ entry ∷ [])) g in
          let clash : Some (script ++ entry ∷ []) ≡ None = sym kept ∙ h in
          absurd cc
      by false g = falls taken line script entry e f g so_far other more

  take_one_more : (taken : List (List ℕ)) (line : List ℕ) (left : List (List ℕ)) → take (length taken + 1) (taken ++ line ∷ left) ≡ taken ++ line ∷ []
  take_one_more [] line left = refl
  take_one_more (x ∷ xs) line left =
      let next : length (x ∷ xs) + 1 ≡ suc (length xs + 1) = omega arith in
      ap (λ k. take k (x ∷ xs ++ line ∷ left)) next ∙ ap (λ l. x ∷ l) (take_one_more xs line left)

  take_front : (taken left : List (List ℕ)) → take (length taken) (taken ++ left) ≡ taken
  take_front [] left = refl
  take_front (x ∷ xs) left = ap (λ l. x ∷ l) (take_front xs left)

  -- one more line was taken
  pub reading_goes : (rows left behind : List (List ℕ)) (line : List ℕ) (script more : List Entry) (n : ℕ) → left ≡ line ∷ behind → with_line project places script line ≡ Some more
      → ReadSoFar rows left script n → ReadSoFar rows behind more (n + 1)
  reading_goes rows left behind line script more n first h so_far = record {
    taken = so_far.taken ++ line ∷ [];
    rows_are = so_far.rows_are ∙ ap (λ l. so_far.taken ++ l) first ∙ sym (append_assoc so_far.taken (line ∷ []) behind);
    count = omega (arith, so_far.count, length-append so_far.taken (line ∷ []));
    script_is = takes_line so_far.taken line script more (is_skipped line) refl (sym (with_line_is script line) ∙ h) so_far.script_is;
  }

  -- the next line is bad
  pub reading_stops : (rows left behind : List (List ℕ)) (line : List ℕ) (script : List Entry) (n : ℕ) → left ≡ line ∷ behind → with_line project places script line ≡ None
      → ReadSoFar rows left script n → IsBadLine project places rows n
  reading_stops rows left behind line script n first h so_far =
      let taken : List (List ℕ) = so_far.taken in
      let rows_are : rows ≡ taken ++ line ∷ behind = so_far.rows_are ∙ ap (λ l. taken ++ l) first in
      let before : n - 1 ≡ length taken = omega (arith, so_far.count) in
      let with_it : take n rows ≡ taken ++ line ∷ [] = (λ i. take (so_far.count i) (rows_are i)) ∙ take_one_more taken line behind in
      record {
        least = omega (arith, so_far.count);
        most = omega (arith, so_far.count, ap length rows_are, length-append taken (line ∷ behind));
        before = (script, subst (λ (r : List (List ℕ)). ScriptLines project places r script) (sym ((λ i. take (before i) (rows_are i)) ∙ take_front taken (line ∷ behind))) so_far.script_is);
        breaks = λ other more. breaks_line taken line script (is_skipped line) (says line) refl refl (sym (with_line_is script line) ∙ h) so_far.script_is other (subst (λ (r : List (List ℕ)). ScriptLines project places r other) with_it more);
      }

-- an empty text has no lines
pub no_lines : (text : List ℕ) → length text ≡ 0 → lines text ≡ []
no_lines [] h = refl
no_lines (b ∷ bs) h = absurd (omega arith)
