-- What the lines that were taken are, and that the lines of a recording are taken.
use Rattle.std.proofs.Common.{◌≡◌, ℕ, ◌<◌, ◌^◌, nat_le, Bool, true, false, ◌&&◌, List, [], ◌∷◌, ◌++◌, length, get_or, map, codes, decimal, Some, Ok, refl, sym, ap, ◌∙◌, subst, arith, cond, append_assoc, append-nil}
use Rattle.std.specs.List.{AllByRecursion}
use Rattle.std.proofs.lemmas.Fmt.{decimal_is_IsNumeral}
use Rattle.std.proofs.lemmas.List.{map-append}
use Rattle.std.proofs.Math.Bool.{and-true}
use Rattle.aseba_text.specs.Names.{is_same}
use Rattle.aseba_text.proofs.Options.{when_takes, when_true, and_takes, and_true, bind_takes, bind_some, some_is}
use Rattle.aseba_text.proofs.NumberLaws.{same_is}
use Rattle.aseba_text.proofs.CellLaws.{no_other}
use Rattle.aseba_tree.specs.declared.description.Sized.{Sized}
use Rattle.aseba_dump.specs.declared.timed.Timed.{Timed}
use Rattle.aseba_record.specs.declared.format.Format.{Format}
use Rattle.aseba_record.specs.declared.format.Format.TheVariants.{Old, New}
use Rattle.aseba_record.specs.Events.{IsEntry, never_fall, AreEntries, AreNamed}
use Rattle.aseba_record.specs.Texts.{event_text, first_row, last_row, head_rows, entry_text, said}
use Rattle.aseba_record.specs.Grammar.{IsFormat, RowsIn, RecordingRows}
use Rattle.aseba_record.specs.Reading.{entry_of, last_time, with_entry, with_event}
use Rattle.aseba_record.proofs.EntryLaws.{entry_again, entry_takes}
use Rattle.aseba_record.proofs.HeadLaws.{event_again, event_takes, none_named}
use Rattle.aseba_record.proofs.Steps.{State, start, head, entries, told, named, step, finish, taken, taken_on}

-- Events whose times never fall

more_times : (time : ℕ) (timed : List Timed) (t : Timed) → never_fall time (timed ++ t ∷ []) ≡ (never_fall time timed && nat_le (last_time time timed) t.time)
more_times time [] t = and-true (nat_le time t.time)
more_times time (x ∷ xs) t = by (nat_le time x.time) (more_times x.time xs t)
  where
    by : (b : Bool) → never_fall x.time (xs ++ t ∷ []) ≡ (never_fall x.time xs && nat_le (last_time x.time xs) t.time) → (b && never_fall x.time (xs ++ t ∷ [])) ≡ ((b && never_fall x.time xs) && nat_le (last_time x.time xs) t.time)
    by true others = others
    by false others = refl

all_push : {X : Type 0} (P : X → Type 0) (xs : List X) (x : X) → AllByRecursion P xs → P x → AllByRecursion P (xs ++ x ∷ [])
all_push P [] x all h = (h, tt)
all_push P (y ∷ ys) x all h = (all.0, all_push P ys x all.1 h)

more_rows : (format : Format) (rows : List (List ℕ)) (timed more : List Timed) (line : List ℕ) → RowsIn format rows timed → with_entry format timed line ≡ Some more → RowsIn format (rows ++ line ∷ []) more
unfolding with_entry
more_rows format rows timed more line h k =
    let t = bind_takes _ _ _ k in
    let w = when_takes (nat_le (last_time 0 timed) t.0.time) (timed ++ t.0 ∷ []) more t.2 in
    let so = entry_takes format line t.0 h.known t.1 in
    subst (RowsIn format (rows ++ line ∷ [])) w.1
    (record {
      known = h.known;
      said =
          (λ i. h.said i ++ so.spelled i ∷ [])
          ∙ append_assoc (head_rows format) (map (entry_text format) timed) (entry_text format t.0 ∷ [])
          ∙ ap (λ l. head_rows format ++ l) (sym (map-append (entry_text format) timed (t.0 ∷ [])));
      entries = record { each = all_push IsEntry timed t.0 h.entries.each so.holds; order = more_times 0 timed t.0 ∙ and_true _ _ h.entries.order w.0 };
    })

-- lines that were taken, by what is known behind them
pub record HeadRows (events : List Sized) (rows : List (List ℕ)) : Type 0 where
  pub named : AreNamed events
  pub said : rows ≡ first_row ∷ map event_text events

abbrev pub Stands : State → List (List ℕ) → Type 0
Stands start rows = rows ≡ []
Stands (head events) rows = HeadRows events rows
Stands (entries format timed) rows = RowsIn format rows timed

pub nothing : (format : Format) (rows : List (List ℕ)) → IsFormat format → rows ≡ head_rows format → RowsIn format rows []
nothing format rows is e = record { known = is; said = e ∙ sym (append-nil (head_rows format)); entries = record { each = tt; order = refl } }

step_start : (line : List ℕ) (t : State) (same : Bool) → is_same line first_row ≡ same → cond same (Some (head [])) (told Old (with_entry Old [] line)) ≡ Some t → Stands t (line ∷ [])
step_start line t true e h = subst (λ (s : State). Stands s (line ∷ [])) (some_is (head []) t h) (record { named = none_named; said = λ i. same_is line first_row e i ∷ [] })
step_start line t false e h =
    let b = bind_takes _ _ _ h in
    subst (λ (s : State). Stands s (line ∷ [])) (some_is (entries Old b.0) t b.2) (more_rows Old [] [] b.0 line (nothing Old [] tt refl) b.1)

step_head : (events : List Sized) (rows : List (List ℕ)) (line : List ℕ) (t : State) (same : Bool) → HeadRows events rows → is_same line last_row ≡ same
    → cond same (Some (entries (New events) [])) (named (with_event events line)) ≡ Some t → Stands t (rows ++ line ∷ [])
step_head events rows line t true s e h =
    subst (λ (x : State). Stands x (rows ++ line ∷ [])) (some_is (entries (New events) []) t h)
    (nothing (New events) (rows ++ line ∷ []) s.named (λ i. s.said i ++ same_is line last_row e i ∷ []))
step_head events rows line t false s e h =
    let b = bind_takes _ _ _ h in
    let so = event_takes events line b.0 s.named b.1 in
    subst (λ (x : State). Stands x (rows ++ line ∷ [])) (some_is (head b.0) t b.2)
    (record {
      named = so.named;
      said =
          (λ i. s.said i ++ so.spelled i ∷ [])
          ∙ ap (λ l. first_row ∷ l) (sym (map-append event_text events (so.event ∷ [])))
          ∙ ap (λ l. first_row ∷ map event_text l) (sym so.more_is);
    })

one_step : (s : State) (rows : List (List ℕ)) (line : List ℕ) (t : State) → Stands s rows → step s line ≡ Some t → Stands t (rows ++ line ∷ [])
one_step start rows line t h k = subst (λ (r : List (List ℕ)). Stands t (r ++ line ∷ [])) (sym h) (step_start line t (is_same line first_row) refl k)
one_step (head events) rows line t h k = step_head events rows line t (is_same line last_row) h refl k
one_step (entries format timed) rows line t h k =
    let b = bind_takes _ _ _ k in
    subst (λ (x : State). Stands x (rows ++ line ∷ [])) (some_is (entries format b.0) t b.2) (more_rows format rows timed b.0 line h b.1)

pub stands : (s t : State) (front rows : List (List ℕ)) → Stands s front → taken s rows ≡ Some t → Stands t (front ++ rows)
stands s t front [] h k = subst (λ (r : List (List ℕ)). Stands t r) (sym (append-nil front)) (subst (λ (x : State). Stands x front) (some_is s t k) h)
stands s t front (line ∷ rows) h k =
    let b = bind_takes _ _ _ k in
    subst (λ (r : List (List ℕ)). Stands t r) (append_assoc front (line ∷ []) rows) (stands b.0 t (front ++ line ∷ []) rows (one_step s front line b.0 h b.1) b.2)

-- The lines of a recording are taken

entry_step : (format : Format) (front : List Timed) (t : Timed) → IsFormat format → IsEntry t → nat_le (last_time 0 front) t.time ≡ true → with_entry format front (entry_text format t) ≡ Some (front ++ t ∷ [])
unfolding with_entry
entry_step format front t is h later = bind_some (entry_of format (entry_text format t)) _ t (entry_again format t is h) ∙ when_true (nat_le (last_time 0 front) t.time) (front ++ t ∷ []) later

last_pushed : (time : ℕ) (front : List Timed) (t : Timed) → last_time time (front ++ t ∷ []) ≡ t.time
last_pushed time [] t = refl
last_pushed time (x ∷ xs) t = last_pushed x.time xs t

entries_taken : (format : Format) (front timed : List Timed) → IsFormat format → AllByRecursion IsEntry timed → never_fall (last_time 0 front) timed ≡ true
    → taken (entries format front) (map (entry_text format) timed) ≡ Some (entries format (front ++ timed))
entries_taken format front [] is each order = ap (λ l. Some (entries format l)) (sym (append-nil front))
entries_taken format front (t ∷ ts) is each order =
    let k = and_takes _ _ order in
    let later : never_fall (last_time 0 (front ++ t ∷ [])) ts ≡ true = ap (λ n. never_fall n ts) (last_pushed 0 front t) ∙ k.1 in
    bind_some _ _ (entries format (front ++ t ∷ [])) (ap (told format) (entry_step format front t is each.0 k.0))
    ∙ entries_taken format (front ++ t ∷ []) ts is each.1 later
    ∙ ap (λ l. Some (entries format l)) (append_assoc front (t ∷ []) ts)

-- a line that tells a time isn't the first of a head
pub not_first : (format : Format) (t : Timed) → t.time < 2 ^ 63 → is_same (entry_text format t) first_row ≡ false
not_first format t small = by (is_same (entry_text format t) first_row) refl
  where
    digits : 0 < length (decimal t.time)
    digits = (decimal_is_IsNumeral t.time (omega (arith, small))).0.0

    front_byte : (a b : List ℕ) → 0 < length a → get_or (a ++ b) 0 0 ≡ get_or a 0 0
    front_byte [] b h = absurd (omega arith)
    front_byte (x ∷ xs) b h = refl

    regroup : (a b c d : List ℕ) → a ++ b ++ c ++ d ≡ a ++ (b ++ (c ++ d))
    regroup a b c d = append_assoc (a ++ b) c d ∙ append_assoc a b (c ++ d)

    by : (b : Bool) → is_same (entry_text format t) first_row ≡ b → b ≡ false
    by true e =
        let source : List ℕ = codes " " ++ decimal t.frame.source in
        let same : decimal t.time ++ (source ++ (codes " " ++ said format t.frame)) ≡ first_row =
        sym (regroup (decimal t.time) source (codes " ") (said format t.frame)) ∙ same_is (entry_text format t) first_row e in
        let first : get_or (decimal t.time) 0 0 ≡ 97 =
        sym (front_byte (decimal t.time) (source ++ (codes " " ++ said format t.frame)) digits) ∙ ap (λ l. get_or l 0 0) same in
        absurd (no_other t.time 97 (omega (arith, small)) (λ r. omega (arith, r.1)) 0 digits first)
    by false e = refl

-- a line that names an event isn't the last of a head
not_last : (e : Sized) → is_same (event_text e) last_row ≡ false
not_last e = refl

head_taken : (front events : List Sized) → AreNamed (front ++ events) → taken (head front) (map event_text events) ≡ Some (head (front ++ events))
head_taken front [] named = ap (λ l. Some (head l)) (sym (append-nil front))
head_taken front (e ∷ es) is =
    bind_some _ _ (head (front ++ e ∷ [])) (ap (λ b. cond b (Some (entries (New front) [])) (named (with_event front (event_text e)))) (not_last e) ∙ ap named (event_again front e es is))
    ∙ head_taken (front ++ e ∷ []) es (subst AreNamed (sym (append_assoc front (e ∷ []) es)) is)
    ∙ ap (λ l. Some (head l)) (append_assoc front (e ∷ []) es)

-- what is known behind all lines of a recording
pub record ComesTo (rows : List (List ℕ)) (timed : List Timed) : Type 0 where
  pub known : State
  pub read : taken start rows ≡ Some known
  pub whole : (n : ℕ) → finish n known ≡ Ok timed

old_comes : (timed : List Timed) → AreEntries timed → ComesTo (map (entry_text Old) timed) timed
old_comes [] h = record { known = start; read = refl; whole = λ n. refl }
old_comes (t ∷ ts) h =
    let k = and_takes _ _ h.order in
    let first : step start (entry_text Old t) ≡ Some (entries Old (t ∷ [])) =
    ap (λ b. cond b (Some (head [])) (told Old (with_entry Old [] (entry_text Old t)))) (not_first Old t h.each.0.time) ∙ ap (told Old) (entry_step Old [] t tt h.each.0 k.0) in
    record {
      known = entries Old (t ∷ ts);
      read = bind_some _ _ (entries Old (t ∷ [])) first ∙ entries_taken Old (t ∷ []) ts tt h.each.1 k.1;
      whole = λ n. refl;
    }

new_comes : (events : List Sized) (timed : List Timed) → AreNamed events → AreEntries timed → ComesTo (head_rows (New events) ++ map (entry_text (New events)) timed) timed
new_comes events timed is h =
    let others : List (List ℕ) = map (entry_text (New events)) timed in
    let behind : taken (head events) (last_row ∷ others) ≡ Some (entries (New events) timed) =
    bind_some (step (head events) last_row) (λ t. taken t others) (entries (New events) []) refl ∙ entries_taken (New events) [] timed is h.each h.order in
    record {
      known = entries (New events) timed;
      read =
          ap (taken (head [])) (append_assoc (map event_text events) (last_row ∷ []) others)
          ∙ taken_on (head []) (head events) (map event_text events) (last_row ∷ others) (head_taken [] events is)
          ∙ behind;
      whole = λ n. refl;
    }

in_comes : (format : Format) (timed : List Timed) → IsFormat format → AreEntries timed → ComesTo (head_rows format ++ map (entry_text format) timed) timed
in_comes Old timed is h = old_comes timed h
in_comes (New events) timed is h = new_comes events timed is h

pub comes_to : (rows : List (List ℕ)) (timed : List Timed) → RecordingRows rows timed → ComesTo rows timed
comes_to rows timed h = subst (λ (r : List (List ℕ)). ComesTo r timed) (sym h.1.said) (in_comes h.0 timed h.1.known h.1.entries)
