-- The entries of a script, done at their times: what they have told was written, and what is left to do leads to the same end.
use Rattle.std.proofs.Common.{◌≡◌, Bool, true, false, ℕ, zero, suc, ◌+◌, ◌-◌, ◌≤◌, ◌<◌, nat_lt, nat_le, List, [], ◌∷◌, ◌++◌, map, filter, ◌==◌, length, get_or, take, drop, All, Option, refl, ap, sym, ◌∙◌, subst, append_assoc, cond, arith}
use Rattle.std.proofs.lemmas.Grind.{common_steps}
use Rattle.std.proofs.lemmas.List.{take_more}
use Rattle.std.proofs.lemmas.List.Elements.{All-nil, All-cons, All-head, All-tail}
use Rattle.aseba_edge.specs.Sink.{Took, TookFirst}
use Rattle.aseba_edge.proofs.Puts.{first_of_more, took_empty, took_after, first_after}
use Rattle.aseba_text.proofs.Options.{and_takes, and_true}
use Rattle.aseba_text.proofs.CellLaws.{leb_to}
use Rattle.aseba_tree.specs.Line.{Line, told}
use Rattle.aseba_tree.specs.Layout as tree
use Rattle.aseba_tree.specs.Script.{Script, actions_at}
use Rattle.aseba_tree.specs.Script as script
use Rattle.aseba_tree.specs.Run.{System, Run, begin, counted, ticks, action_reports, all_acting, all_ticking, lines_from}
use Rattle.aseba_tree.specs.View.{placed_view}
use Rattle.aseba_vm.specs.State.{State}
use Rattle.aseba_driver.specs.declared.entry.Entry.{Entry}
use Rattle.aseba_driver.specs.declared.legend.Legend.{Legend}
use Rattle.aseba_driver.specs.declared.moment.Moment.{Moment}
use Rattle.aseba_driver.specs.Grammar.{never_fall, AreInOrder}
use Rattle.aseba_driver.specs.Driven.{told_by, system_by, at_moment, after_ticks, ticks_text, after_act, act_text, after_entry, entry_text, entry_view, script_of, due_by, after_script, script_text, IsAt}
use Rattle.aseba_driver.proofs.Led.{Told, at, at_time, front, from, same, waits, acts, none_before}
use Rattle.aseba_driver.proofs.LineTexts.{told_by-append}
use Rattle.aseba_driver.proofs.RunTold.{drop_item}

abbrev times : List Entry → List ℕ
times entries = map (λ (e : Entry). e.time) entries

abbrev times_told : Script → List ℕ
times_told entries = map (λ (e : script.Entry). e.time) entries

times_viewed : (places : List tree.Placed) (entries : List Entry) → times_told (script_of places entries) ≡ times entries
times_viewed places [] = refl
times_viewed places (e ∷ es) = ap (λ l. e.time ∷ l) (times_viewed places es)

-- The entries that are due

is_before : (a b : ℕ) → nat_lt a b ≡ true → a < b
is_before a b h = grind (arith, common_steps)

isnt_before : (a b : ℕ) → nat_lt a b ≡ false → b ≤ a
isnt_before a b h = grind (arith, common_steps)

is_before_from : (a b : ℕ) → a < b → nat_lt a b ≡ true
is_before_from a b h = grind (arith, common_steps)

-- one more entry is due
pub due_more : (n : ℕ) (script : List Entry) (i : ℕ) (e : Entry) → i < length script → e ≡ get_or script i e → e.time < n → due_by n script ≡ take i script ++ due_by n (drop i script)
    → due_by n script ≡ take (i + 1) script ++ due_by n (drop (i + 1) script)
due_more n script i e below is early so_far =
    let rest : List Entry = due_by n (drop (i + 1) script) in
    let now : due_by n (drop i script) ≡ e ∷ rest = ap (due_by n) (drop_item script i e below is) ∙ ap (λ b. cond b (e ∷ rest) []) (is_before_from e.time n early) in
    let taken : take (i + 1) script ≡ take i script ++ e ∷ [] = take_more script i e below ∙ ap (λ x. take i script ++ x ∷ []) (sym is) in
    so_far ∙ ap (λ l. take i script ++ l) now ∙ sym (append_assoc (take i script) (e ∷ []) rest) ∙ ap (λ l. l ++ rest) (sym taken)

pub due_all : (P : Entry → Type 0) (n : ℕ) (entries : List Entry) → All P entries → All P (due_by n entries)
due_all P n [] all = All-nil P
due_all P n (e ∷ es) all = by (nat_lt e.time n) (due_all P n es (All-tail P e es all))
  where
    by : (b : Bool) → All P (due_by n es) → All P (cond b (e ∷ due_by n es) [])
    by true others = All-cons P e (due_by n es) (All-head P e es all) others
    by false others = All-nil P

pub due_before : (n : ℕ) (entries : List Entry) → All (λ e. e.time < n) (due_by n entries)
due_before n [] = All-nil (λ (e : Entry). e.time < n)
due_before n (e ∷ es) = by (nat_lt e.time n) refl (due_before n es)
  where
    by : (b : Bool) → nat_lt e.time n ≡ b → All (λ (e : Entry). e.time < n) (due_by n es) → All (λ (e : Entry). e.time < n) (cond b (e ∷ due_by n es) [])
    by true h others = All-cons (λ (e : Entry). e.time < n) e (due_by n es) (is_before e.time n h) others
    by false h others = All-nil (λ (e : Entry). e.time < n)

pub due_order : (n t : ℕ) (entries : List Entry) → never_fall t (times entries) ≡ true → never_fall t (times (due_by n entries)) ≡ true
due_order n t [] order = refl
due_order n t (e ∷ es) order = let k = and_takes _ _ order in by (nat_lt e.time n) (and_true _ _ k.0 (due_order n e.time es k.1))
  where
    by : (b : Bool) → never_fall t (times (e ∷ due_by n es)) ≡ true → never_fall t (times (cond b (e ∷ due_by n es) [])) ≡ true
    by true both = both
    by false both = refl

same_first : (e : script.Entry) (one other : Script) (tick : ℕ) → actions_at one tick ≡ actions_at other tick → actions_at (e ∷ one) tick ≡ actions_at (e ∷ other) tick
same_first e one other tick h = by (e.time == tick)
  where
    by : (b : Bool) → map (λ (x : script.Entry). x.action) (cond b (e ∷ filter (at_time tick) one) (filter (at_time tick) one)) ≡ map (λ (x : script.Entry). x.action) (cond b (e ∷ filter (at_time tick) other) (filter (at_time tick) other))
    by true = ap (λ l. e.action ∷ l) h
    by false = h

self : (a : ℕ) → nat_le a a ≡ true
self a = grind (arith, common_steps)

due_same : (places : List tree.Placed) (n t : ℕ) (entries : List Entry) → never_fall t (times entries) ≡ true → (tick : ℕ) → tick < n
    → actions_at (script_of places (due_by n entries)) tick ≡ actions_at (script_of places entries) tick
due_same places n t [] order tick h = refl
due_same places n t (e ∷ es) order tick h = by (nat_lt e.time n) refl (due_same places n e.time es (and_takes _ _ order).1 tick h)
  where
    by : (b : Bool) → nat_lt e.time n ≡ b → actions_at (script_of places (due_by n es)) tick ≡ actions_at (script_of places es) tick → actions_at (script_of places (cond b (e ∷ due_by n es) [])) tick ≡ actions_at (script_of places (e ∷ es)) tick
    by true now others = same_first (entry_view places e) (script_of places (due_by n es)) (script_of places es) tick others
    by false late others =
        let k = and_takes (nat_le t e.time) (never_fall e.time (times es)) order in
        let le : n ≤ e.time = isnt_before e.time n late in
        sym (none_before e.time (script_of places (e ∷ es)) tick (and_true _ _ (self e.time) (ap (never_fall e.time) (times_viewed places es) ∙ k.1)) (omega arith))

-- Ticks count

ticks_many : {S : Type 0} (system : System S) (entries : Script) (d t k : ℕ) (s : S) → (all_ticking system entries (at t k s) (ticks d)).ticks ≡ t + d
ticks_many system entries zero t k s = let same : t ≡ t + 0 = omega arith in same
ticks_many system entries (suc d) t k s =
    let next = (system.tick false (all_acting system s (actions_at entries t))) in
    let more : suc t + d ≡ t + suc d = omega arith in
    ticks_many system entries d (suc t) (counted next.counts k) next.state ∙ more

-- In the middle

-- Some entries are done, and others are left: some lines were written, with those to come they are all, and what is to come leads to the same end.
pub record InScript (legend : Legend) (entries : List Entry) (n : ℕ) (first : State) (before : Option (List ℕ)) (left : List Entry) (moment : Moment) (machine : State) (taken : Option (List ℕ)) : Type 0 where
  pub lines : List Line
  pub written : Took before (told_by legend lines) taken
  pub leads : front lines (from (system_by legend) (script_of (map placed_view legend.places.now) left) (n - moment.ticks) (at_moment moment machine))
      ≡ from (system_by legend) (script_of (map placed_view legend.places.now) entries) n (begin first)
  pub order : never_fall moment.ticks (times left) ≡ true
  pub few : moment.effects ≤ moment.ticks
  pub within : moment.ticks ≤ n

-- before the first of them
pub entries_begin : (legend : Legend) (entries : List Entry) (n : ℕ) (first : State) (before : Option (List ℕ)) → AreInOrder entries
    → InScript legend entries n first before entries (record { ticks = 0; effects = 0 }) first before
entries_begin legend entries n first before order =
    let none : n - 0 ≡ n = omega arith in
    record {
      lines = [];
      written = took_empty before;
      leads = ap (λ k. from (system_by legend) (script_of (map placed_view legend.places.now) entries) k (begin first)) none;
      order = order;
      few = omega arith;
      within = omega arith;
    }

module _ (legend : Legend) (entries : List Entry) (n : ℕ) (first : State) (before : Option (List ℕ)) (e : Entry) (rest left : List Entry) (moment : Moment) (machine : State) (mid : Option (List ℕ)) (left_is : left ≡ e ∷ rest) (due : e.time < n) where
  abbrev system : System State
  system = system_by legend

  abbrev told_script : List Entry → Script
  told_script es = script_of (map placed_view legend.places.now) es

  abbrev viewed : script.Entry
  viewed = entry_view (map placed_view legend.places.now) e

  -- the run when the entry is done, before and behind it
  abbrev there : Run State
  there = after_ticks legend e.time moment machine

  abbrev done : Run State
  done = after_entry legend moment machine e

  abbrev waited : List Line
  waited = lines_from system [] (at_moment moment machine) (ticks (e.time - moment.ticks))

  abbrev said : List Line
  said = map (told there.ticks there.effects) (action_reports system there.state viewed.action)

  in_time : InScript legend entries n first before left moment machine mid → moment.ticks ≤ e.time
  in_time in_script = leb_to moment.ticks e.time (and_takes _ _ (ap (λ l. never_fall moment.ticks (times l)) (sym left_is) ∙ in_script.order)).0

  pub entry_in_time : InScript legend entries n first before left moment machine mid → moment.ticks ≤ e.time
  entry_in_time = in_time

  order_behind : InScript legend entries n first before left moment machine mid → never_fall e.time (times rest) ≡ true
  order_behind in_script = (and_takes _ _ (ap (λ l. never_fall moment.ticks (times l)) (sym left_is) ∙ in_script.order)).1

  there_ticks : moment.ticks ≤ e.time → there.ticks ≡ e.time
  there_ticks h = let sum : moment.ticks + (e.time - moment.ticks) ≡ e.time = omega arith in ticks_many system [] (e.time - moment.ticks) moment.ticks moment.effects machine ∙ sum

  -- what is to come: first the ticks up to the entry, then the entry, then the rest
  parts : InScript legend entries n first before left moment machine mid
      → from system (told_script left) (n - moment.ticks) (at_moment moment machine) ≡ front waited (front said (from system (told_script rest) (n - done.ticks) done))
  parts in_script =
      let le : moment.ticks ≤ e.time = in_time in_script in
      let now : there.ticks ≡ e.time = there_ticks le in
      let sum : n - moment.ticks ≡ (e.time - moment.ticks) + (n - e.time) = omega (arith, due) in
      let one : n - e.time ≡ suc (n - e.time - 1) = omega (arith, due) in
      let again : suc (n - e.time - 1) ≡ n - there.ticks = omega (arith, due, now) in
      let quiet : (tick : ℕ) → moment.ticks ≤ tick → tick < moment.ticks + (e.time - moment.ticks) → actions_at (viewed ∷ told_script rest) tick ≡ [] =
      λ tick a b. none_before e.time (viewed ∷ told_script rest) tick (and_true _ _ (self e.time) (ap (never_fall e.time) (times_viewed (map placed_view legend.places.now) rest) ∙ order_behind in_script)) (omega arith) in
      ap (λ l. from system (told_script l) (n - moment.ticks) (at_moment moment machine)) left_is
      ∙ ap (λ k. from system (viewed ∷ told_script rest) k (at_moment moment machine)) sum
      ∙ waits system (e.time - moment.ticks) (n - e.time) moment.ticks moment.effects machine (viewed ∷ told_script rest) quiet
      ∙ ap (λ k. front waited (from system (viewed ∷ told_script rest) k there)) one
      ∙ ap (front waited) (acts system (n - e.time - 1) there.ticks there.effects there.state viewed (told_script rest) (sym now))
      ∙ ap (λ k. front waited (front said (from system (told_script rest) k done))) again

  abbrev new : List Line
  new = waited ++ said

  all-told : (in_script : InScript legend entries n first before left moment machine mid)
      → front (in_script.lines ++ new) (from system (told_script rest) (n - done.ticks) done) ≡ from system (told_script entries) n (begin first)
  all-told in_script =
      let others : Told State = from system (told_script rest) (n - done.ticks) done in
      ap (λ l. (l, others.1)) (append_assoc in_script.lines new others.0 ∙ ap (λ l. in_script.lines ++ l) (append_assoc waited said others.0))
      ∙ ap (front in_script.lines) (sym (parts in_script))
      ∙ in_script.leads

  new_text : entry_text legend moment machine e ≡ told_by legend new
  new_text = sym (told_by-append legend waited said)

  -- the entry is done
  pub one_entry : (next : Moment) (machine' : State) (after : Option (List ℕ)) → InScript legend entries n first before left moment machine mid → IsAt done next machine' → next.effects ≤ next.ticks
      → Took mid (entry_text legend moment machine e) after → InScript legend entries n first before rest next machine' after
  one_entry next machine' after in_script at_next few took =
      let same_run : at_moment next machine' ≡ done = λ i. record { ticks = sym at_next.ticks i; effects = sym at_next.effects i; state = sym at_next.machine_is i } in
      let le : moment.ticks ≤ e.time = in_time in_script in
      let now : next.ticks ≡ e.time = sym at_next.ticks ∙ there_ticks le in
      record {
        lines = in_script.lines ++ new;
        written = subst (λ (t : List ℕ). Took before t after) (ap (λ t. told_by legend in_script.lines ++ t) new_text ∙ sym (told_by-append legend in_script.lines new))
            (took_after before mid after (told_by legend in_script.lines) (entry_text legend moment machine e) in_script.written took);
        leads = ap (λ (r : Run State). front (in_script.lines ++ new) (from system (told_script rest) (n - r.ticks) r)) same_run ∙ all-told in_script;
        order = ap (λ t. never_fall t (times rest)) now ∙ order_behind in_script;
        few = few;
        within = omega (arith, now, due);
      }

  -- its lines weren't all written: what was written begins the lines of the whole run
  pub entry_cut_short : (after : Option (List ℕ)) → InScript legend entries n first before left moment machine mid → TookFirst mid (entry_text legend moment machine e) after
      → TookFirst before (script_text legend entries n first) after
  entry_cut_short after in_script part =
      let others : Told State = from system (told_script rest) (n - done.ticks) done in
      let text : script_text legend entries n first ≡ (told_by legend in_script.lines ++ entry_text legend moment machine e) ++ told_by legend others.0 =
      ap (λ (p : Told State). told_by legend p.0) (sym (all-told in_script))
      ∙ told_by-append legend (in_script.lines ++ new) others.0
      ∙ ap (λ t. t ++ told_by legend others.0) (told_by-append legend in_script.lines new ∙ ap (λ t. told_by legend in_script.lines ++ t) (sym new_text)) in
      subst (λ (t : List ℕ). TookFirst before t after) (sym text)
      (first_of_more before (told_by legend in_script.lines ++ entry_text legend moment machine e) (told_by legend others.0) after
      (first_after before mid after (told_by legend in_script.lines) (entry_text legend moment machine e) in_script.written part))

-- All entries that are due are done: what is left are ticks without an entry.
module _ (legend : Legend) (entries : List Entry) (n : ℕ) (first : State) (before : Option (List ℕ)) (left : List Entry) (moment : Moment) (machine : State) (mid : Option (List ℕ)) (none : left ≡ []) (order : AreInOrder entries)
    (in_script : InScript legend (due_by n entries) n first before left moment machine mid) where
  abbrev all : Told State
  all = from (system_by legend) (script_of (map placed_view legend.places.now) entries) n (begin first)

  whole_is : front in_script.lines (from (system_by legend) [] (n - moment.ticks) (at_moment moment machine)) ≡ all
  whole_is =
      ap (λ l. front in_script.lines (from (system_by legend) (script_of (map placed_view legend.places.now) l) (n - moment.ticks) (at_moment moment machine))) (sym none)
      ∙ in_script.leads
      ∙ same (system_by legend) n 0 0 first (script_of (map placed_view legend.places.now) (due_by n entries)) (script_of (map placed_view legend.places.now) entries)
      (λ tick a b. due_same (map placed_view legend.places.now) n 0 entries order tick (omega arith))

  text_is : told_by legend in_script.lines ++ ticks_text legend n moment machine ≡ script_text legend entries n first
  text_is =
      sym (told_by-append legend in_script.lines (lines_from (system_by legend) [] (at_moment moment machine) (ticks (n - moment.ticks))))
      ∙ ap (λ (p : Told State). told_by legend p.0) whole_is

  pub rest_whole : (after : Option (List ℕ)) → Took mid (ticks_text legend n moment machine) after → Took before (script_text legend entries n first) after
  rest_whole after took = subst (λ (t : List ℕ). Took before t after) text_is (took_after before mid after (told_by legend in_script.lines) (ticks_text legend n moment machine) in_script.written took)

  pub rest_part : (after : Option (List ℕ)) → TookFirst mid (ticks_text legend n moment machine) after → TookFirst before (script_text legend entries n first) after
  rest_part after part = subst (λ (t : List ℕ). TookFirst before t after) text_is (first_after before mid after (told_by legend in_script.lines) (ticks_text legend n moment machine) in_script.written part)

  pub rest_end : (end : Moment) (machine' : State) → IsAt (after_ticks legend n moment machine) end machine' → IsAt (after_script legend entries n first) end machine'
  rest_end end machine' at_end =
      let same_run : after_ticks legend n moment machine ≡ after_script legend entries n first = ap (λ (p : Told State). p.1) whole_is in
      subst (λ (r : Run State). IsAt r end machine') same_run at_end

-- a script of which an entry wasn't written whole: what was written of the due ones is of all
pub cut_of_all : (legend : Legend) (entries : List Entry) (n : ℕ) (first : State) (before after : Option (List ℕ)) → AreInOrder entries
    → TookFirst before (script_text legend (due_by n entries) n first) after → TookFirst before (script_text legend entries n first) after
cut_of_all legend entries n first before after order part =
    subst (λ (p : Told State). TookFirst before (told_by legend p.0) after)
    (same (system_by legend) n 0 0 first (script_of (map placed_view legend.places.now) (due_by n entries)) (script_of (map placed_view legend.places.now) entries)
    (λ tick a b. due_same (map placed_view legend.places.now) n 0 entries order tick (omega arith)))
    part

-- the same of entries that are the due ones
module _ (legend : Legend) (script entries : List Entry) (n : ℕ) (first : State) (before : Option (List ℕ)) (due : entries ≡ due_by n script) where
  pub cut_of_due : (after : Option (List ℕ)) → AreInOrder script → TookFirst before (script_text legend entries n first) after → TookFirst before (script_text legend script n first) after
  cut_of_due after order part = cut_of_all legend script n first before after order (subst (λ (es : List Entry). TookFirst before (script_text legend es n first) after) due part)

  pub in_due : (left : List Entry) (moment : Moment) (machine : State) (mid : Option (List ℕ)) → InScript legend entries n first before left moment machine mid → InScript legend (due_by n script) n first before left moment machine mid
  in_due left moment machine mid in_script = subst (λ (es : List Entry). InScript legend es n first before left moment machine mid) due in_script

-- One entry

-- the ticks up to it, and then what it tells at the run's moment
pub act_there : (legend : Legend) (moment : Moment) (machine : State) (e : Entry) (now : Moment) (machine' : State) → IsAt (after_ticks legend e.time moment machine) now machine'
    → ticks_text legend e.time moment machine ++ act_text legend now machine' e ≡ entry_text legend moment machine e
act_there legend moment machine e now machine' at_now =
    ap (λ t. ticks_text legend e.time moment machine ++ t)
    (λ i. act_text legend (record { ticks = sym at_now.ticks i; effects = sym at_now.effects i }) (sym at_now.machine_is i) e)

-- the run behind it
pub entry_end : (legend : Legend) (moment : Moment) (machine : State) (e : Entry) (now : Moment) (machine' end : State) → IsAt (after_ticks legend e.time moment machine) now machine'
    → end ≡ after_act legend machine' e → IsAt (after_entry legend moment machine e) now end
entry_end legend moment machine e now machine' end at_now behind =
    record { ticks = at_now.ticks; effects = at_now.effects; machine_is = ap (λ m. after_act legend m e) at_now.machine_is ∙ sym behind }

-- Entries by their places

-- what is so of each element is so of the one at a place
pub at_place : {A : Type 0} (P : A → Type 0) (xs : List A) (i : ℕ) (x : A) → All P xs → i < length xs → x ≡ get_or xs i x → P x
at_place P xs i x all below is = subst P (sym is) (all i x below)

-- an entry that is due
pub due_known : (P : Entry → Type 0) (script entries : List Entry) (n i : ℕ) (e : Entry) → entries ≡ due_by n script → All P script → i < length entries → e ≡ get_or entries i e → P e
due_known P script entries n i e due all below is = at_place P entries i e (subst (All P) (sym due) (due_all P n script all)) below is

pub due_early : (script entries : List Entry) (n i : ℕ) (e : Entry) → entries ≡ due_by n script → i < length entries → e ≡ get_or entries i e → e.time < n
due_early script entries n i e due below is = at_place (λ (x : Entry). x.time < n) entries i e (subst (All (λ (x : Entry). x.time < n)) (sym due) (due_before n script)) below is

pub due_sorted : (script entries : List Entry) (n : ℕ) → entries ≡ due_by n script → AreInOrder script → AreInOrder entries
due_sorted script entries n due order = subst AreInOrder (sym due) (due_order n 0 script order)

pub nothing_left : {A : Type 0} (xs : List A) (i : ℕ) → length xs ≤ i → drop i xs ≡ []
nothing_left [] zero h = refl
nothing_left [] (suc i) h = refl
nothing_left (x ∷ xs) zero h = absurd (omega arith)
nothing_left (x ∷ xs) (suc i) h = nothing_left xs i (omega arith)
