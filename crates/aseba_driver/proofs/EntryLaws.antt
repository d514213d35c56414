-- What is so of each entry that a line says.
use Rattle.std.proofs.Common.{◌≡◌, ℕ, ℤ, pos, negsuc, ◌+◌, ◌-◌, ◌<◌, ◌≤◌, nat_lt, nat_le, Bool, true, false, ◌&&◌, List, [], ◌∷◌, length, map, All, Option, Some, None, refl, sym, ap, ◌∙◌, subst, arith, cond}
use Rattle.std.specs.Prelude.{bytes_eq, codes, is_some, MatchOption}
use Rattle.std.specs.List.{list_all}
use Rattle.std.proofs.lemmas.Int.{ints}
use Rattle.std.proofs.lemmas.Grind.{common_steps}
use Rattle.std.proofs.lemmas.List.Elements.{All-nil, All-cons}
use Rattle.aseba_text.specs.Options.{◌>>=◌, when}
use Rattle.aseba_text.specs.Fields as text
use Rattle.aseba_text.specs.Names.{is_same}
use Rattle.aseba_text.specs.Numbers.{IsCell, number_from}
use Rattle.aseba_text.proofs.Options.{when_takes, and_takes, and_true, bind_takes, some_is}
use Rattle.aseba_text.proofs.CellLaws.{number_from_takes, cell_takes}
use Rattle.aseba_words.specs.declared.limits.TheConstants.{MOST_EVENT_CELLS}
use Rattle.aseba_tree.specs.Code.{Name, Sized, Project}
use Rattle.aseba_tree.specs.Line.{named}
use Rattle.aseba_tree.specs.Value.{is_cell}
use Rattle.aseba_tree.specs.Events.{event_number}
use Rattle.aseba_tree.specs.Layout.{Placed, address_from, placed_from, placed_named}
use Rattle.aseba_tree.specs.GoodScript.{is_inside, is_good_action}
use Rattle.aseba_driver.specs.declared.entry.Act.TheVariants.{Event, Set}
use Rattle.aseba_driver.specs.declared.entry.Entry.{Entry}
use Rattle.aseba_driver.specs.declared.fields.TheConstants.{MOST_TIME}
use Rattle.aseba_driver.specs.Reading.{first_of, cells_of, source_behind, source_of, event_of, values_of, set_of, entry_of}
use Rattle.aseba_driver.specs.Driven.{first_cell, entry_view, IsKnown, IsGood}

-- Cells and numbers

lt_from : (a b : ℕ) → a < b → nat_lt a b ≡ true
lt_from a b h = grind (arith, common_steps)

is_cell_from : (z : ℤ) → IsCell z → is_cell z ≡ true
is_cell_from (pos n) h = lt_from n 32768 (omega (arith, ints, h.1))
is_cell_from (negsuc n) h = lt_from n 32768 (omega (arith, ints, h.0))

are_cells : (fields : List (List ℕ)) (cells : List ℤ) → cells_of fields ≡ Some cells → list_all is_cell cells ≡ true
are_cells [] cells h = ap (list_all is_cell) (sym (some_is [] cells h))
are_cells (field ∷ fields) cells h =
    let a = bind_takes _ _ _ h in
    let b = bind_takes _ _ _ a.2 in
    ap (list_all is_cell) (sym (some_is (a.0 ∷ b.0) cells b.2)) ∙ and_true _ _ (is_cell_from a.0 (cell_takes field a.0 a.1).1) (are_cells fields b.0 b.1)

small : (field : List ℕ) (n : ℕ) → number_from 0 65535 field ≡ Some n → nat_lt n 65536 ≡ true
small field n h = let t = number_from_takes 0 65535 field n h in let le : n ≤ 65535 = t.0.1 in lt_from n 65536 (omega arith)

source_small : (fields : List (List ℕ)) (s : ℕ × List (List ℕ)) → source_of fields ≡ Some s → nat_lt s.0 65536 ≡ true
unfolding source_of
source_small [] s h = ap (λ (p : ℕ × List (List ℕ)). nat_lt p.0 65536) (sym (some_is _ s h))
source_small (word ∷ fields) s h = by (is_same word (codes "from")) h
  where
    behind : (fs : List (List ℕ)) → source_behind fs ≡ Some s → nat_lt s.0 65536 ≡ true
    behind [] e = absurd cc
    behind (field ∷ fs) e =
        let b = bind_takes _ _ _ e in
        ap (λ (p : ℕ × List (List ℕ)). nat_lt p.0 65536) (sym (some_is _ s b.2)) ∙ small field b.0 b.1

    by : (b : Bool) → cond b (source_behind fields) (Some (0, word ∷ fields)) ≡ Some s → nat_lt s.0 65536 ≡ true
    by true e = behind fields e
    by false e = ap (λ (p : ℕ × List (List ℕ)). nat_lt p.0 65536) (sym (some_is _ s e))

-- Variables

abbrev placed_here : ℕ → Sized → Placed
placed_here base x = record { name = x.name; start = base; size = x.size }

found : (base : ℕ) (variables : List Sized) (name : Name) (v : Placed) → placed_named (placed_from base variables) name ≡ Some v → address_from base variables name ≡ Some (v.start, v.size)
found base [] name v h = absurd cc
found base (x ∷ xs) name v h = by (bytes_eq x.name name) (λ e. found (base + x.size) xs name v e) h
  where
    by : (b : Bool) → (placed_named (placed_from (base + x.size) xs) name ≡ Some v → address_from (base + x.size) xs name ≡ Some (v.start, v.size))
        → cond b (Some (placed_here base x)) (placed_named (placed_from (base + x.size) xs) name) ≡ Some v → cond b (Some (base, x.size)) (address_from (base + x.size) xs name) ≡ Some (v.start, v.size)
    by true others e = ap (λ (p : Placed). Some (p.start, p.size)) (some_is (placed_here base x) v e)
    by false others e = others e

-- Entries

record Facts (project : Project) (places : List Placed) (e : Entry) : Type 0 where
  known : IsKnown project places e
  good : (variables : List Sized) → places ≡ placed_from 0 variables → is_good_action project variables (entry_view places e).action ≡ true

-- how an event and values are read on, step by step
abbrev pub event_entry : ℕ → Name → ℕ → ℕ → List ℤ → Entry
event_entry time name event source args = record { time = time; name = name; act = Event event source args }

abbrev pub then_args : ℕ → Name → ℕ → ℕ → List ℤ → Option Entry
then_args time name event source args = when (nat_le (length args) MOST_EVENT_CELLS) (event_entry time name event source args)

abbrev pub then_source : ℕ → Name → ℕ → ℕ × List (List ℕ) → Option Entry
then_source time name event s = cells_of s.1 >>= then_args time name event s.0

abbrev pub then_event : ℕ → Name → List (List ℕ) → ℕ → Option Entry
then_event time name fields event = source_of fields >>= then_source time name event

abbrev pub set_entry : Placed → ℕ → Name → ℕ → List ℤ → Entry
set_entry place time name first values = record { time = time; name = name; act = Set (place.start + first) values }

abbrev pub then_values : Placed → ℕ → Name → ℕ → List ℤ → Option Entry
then_values place time name first values = when (nat_lt 0 (length values) && nat_le (first + length values) place.size) (set_entry place time name first values)

abbrev pub then_first : Placed → ℕ → Name → List (List ℕ) → ℕ → Option Entry
then_first place time name fields first = cells_of fields >>= then_values place time name first

event_facts : (project : Project) (places : List Placed) (time : ℕ) (fields : List (List ℕ)) (e : Entry) → event_of project time fields ≡ Some e → Facts project places e
unfolding event_of
event_facts project places time [] e h = absurd cc
event_facts project places time (name ∷ fields) e h =
    let a = bind_takes {A = ℕ} {B = Entry} (event_number project (named name)) (then_event time name fields) e h in
    let s = bind_takes {A = ℕ × List (List ℕ)} {B = Entry} (source_of fields) (then_source time name a.0) e a.2 in
    let c = bind_takes {A = List ℤ} {B = Entry} (cells_of s.0.1) (then_args time name a.0 s.0.0) e s.2 in
    let w = when_takes {A = Entry} (nat_le (length c.0) MOST_EVENT_CELLS) (event_entry time name a.0 s.0.0 c.0) e c.2 in
    subst (Facts project places) w.1
    (record {
      known = a.1;
      good = λ variables laid. and_true _ _ (and_true _ _ (ap is_some a.1) (source_small fields s.0 s.1)) (are_cells s.0.1 c.0 c.1);
    })

inside : (place : Placed) (first count : ℕ) → nat_le (first + count) place.size ≡ true → is_inside (Some (place.start, place.size)) (first_cell (Some place) (place.start + first)) count ≡ true
inside place first count h = let same : place.start + first - place.start ≡ first = omega arith in ap (λ n. nat_le (n + count) place.size) same ∙ h

values_facts : (project : Project) (places : List Placed) (place : Placed) (time : ℕ) (name : Name) (fields : List (List ℕ)) (e : Entry) → placed_named places name ≡ Some place
    → values_of place time name fields ≡ Some e → Facts project places e
unfolding values_of
values_facts project places place time name [] e is h = absurd cc
values_facts project places place time name (word ∷ fields) e is h =
    let a = bind_takes {A = ℕ} {B = Entry} (number_from 0 65535 word) (then_first place time name fields) e h in
    let c = bind_takes {A = List ℤ} {B = Entry} (cells_of fields) (then_values place time name a.0) e a.2 in
    let w = when_takes {A = Entry} (nat_lt 0 (length c.0) && nat_le (a.0 + length c.0) place.size) (set_entry place time name a.0 c.0) e c.2 in
    let k = and_takes (nat_lt 0 (length c.0)) (nat_le (a.0 + length c.0) place.size) w.0 in
    subst (Facts project places) w.1
    (record {
      known = subst (λ o. MatchOption o ⊥ (λ v. v.start ≤ place.start + a.0)) (sym is) (omega arith);
      good = λ variables laid.
          let there : address_from 0 variables name ≡ Some (place.start, place.size) = found 0 variables name place (ap (λ ps. placed_named ps name) (sym laid) ∙ is) in
          and_true _ _ ((λ i. is_inside (there i) (first_cell (is i) (place.start + a.0)) (length c.0)) ∙ inside place a.0 (length c.0) k.1) (are_cells fields c.0 c.1);
    })

set_facts : (project : Project) (places : List Placed) (time : ℕ) (fields : List (List ℕ)) (e : Entry) → set_of places time fields ≡ Some e → Facts project places e
unfolding set_of
set_facts project places time fields e h =
    let c = bind_takes {A = List ℕ × List (List ℕ)} {B = Entry} (first_of fields) (λ c. placed_named places c.0 >>= λ place. values_of place time c.0 c.1) e h in
    let p = bind_takes {A = Placed} {B = Entry} (placed_named places c.0.0) (λ place. values_of place time c.0.0 c.0.1) e c.2 in
    values_facts project places p.0 time c.0.0 c.0.1 e p.1 p.2

-- what is read behind the word that tells which of both it is, behind the time, and of a whole line
abbrev then_word : Project → List Placed → ℕ → List ℕ × List (List ℕ) → Option Entry
then_word project places time d = cond (is_same d.0 (codes "event")) (event_of project time d.1) (cond (is_same d.0 (codes "set")) (set_of places time d.1) None)

abbrev then_time : Project → List Placed → List (List ℕ) → ℕ → Option Entry
then_time project places fields time = first_of fields >>= then_word project places time

abbrev then_line : Project → List Placed → List ℕ × List (List ℕ) → Option Entry
then_line project places c = number_from 0 MOST_TIME c.0 >>= then_time project places c.1

entry_facts : (project : Project) (places : List Placed) (line : List ℕ) (e : Entry) → entry_of project places line ≡ Some e → Facts project places e
unfolding entry_of
entry_facts project places line e h =
    let c = bind_takes {A = List ℕ × List (List ℕ)} {B = Entry} (first_of (text.fields line)) (then_line project places) e h in
    let t = bind_takes {A = ℕ} {B = Entry} (number_from 0 MOST_TIME c.0.0) (then_time project places c.0.1) e c.2 in
    let d = bind_takes {A = List ℕ × List (List ℕ)} {B = Entry} (first_of c.0.1) (then_word project places t.0) e t.2 in
    by t.0 d.0.1 (is_same d.0.0 (codes "event")) (is_same d.0.0 (codes "set")) d.2
  where
    by : (time : ℕ) (fields : List (List ℕ)) (event set : Bool) → cond event (event_of project time fields) (cond set (set_of places time fields) None) ≡ Some e → Facts project places e
    by time fields true set f = event_facts project places time fields e f
    by time fields false true f = set_facts project places time fields e f
    by time fields false false f = absurd cc

pub all_known : (project : Project) (places : List Placed) (rows : List (List ℕ)) (script : List Entry) → map (entry_of project places) rows ≡ map Some script → All (IsKnown project places) script
all_known project places [] [] h = All-nil (IsKnown project places)
all_known project places [] (e ∷ es) h = absurd cc
all_known project places (row ∷ rows) [] h = absurd cc
all_known project places (row ∷ rows) (e ∷ es) h =
    let first : entry_of project places row ≡ Some e = cc in
    let others : map (entry_of project places) rows ≡ map Some es = cc in
    All-cons (IsKnown project places) e es (entry_facts project places row e first).known (all_known project places rows es others)

pub all_good : (project : Project) (places : List Placed) (rows : List (List ℕ)) (script : List Entry) → map (entry_of project places) rows ≡ map Some script → IsGood project places script
all_good project places [] [] h = λ variables laid. refl
all_good project places [] (e ∷ es) h = absurd cc
all_good project places (row ∷ rows) [] h = absurd cc
all_good project places (row ∷ rows) (e ∷ es) h =
    let first : entry_of project places row ≡ Some e = cc in
    let others : map (entry_of project places) rows ≡ map Some es = cc in
    λ variables laid. and_true _ _ ((entry_facts project places row e first).good variables laid) (all_good project places rows es others variables laid)
