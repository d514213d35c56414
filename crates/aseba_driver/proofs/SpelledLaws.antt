-- What is read of a line is spelled so, and what is spelled so is read.
use Rattle.std.proofs.Common.{◌≡◌, ◌⊎◌, inl, inr, ℕ, ℤ, pos, negsuc, ◌+◌, ◌<◌, ◌≤◌, ◌^◌, ◌==◌, nat_lt, nat_le, Bool, true, false, not, ◌&&◌, List, [], ◌∷◌, ◌++◌, length, get_or, map, All, codes, decimal, Option, Some, None, refl, sym, ap, ◌∙◌, subst, arith, cond, append_assoc, append-nil}
use Rattle.std.specs.List.{list_all, join_with_byte, onto_first}
use Rattle.std.specs.Fmt.{signed_decimal}
use Rattle.std.proofs.lemmas.Fmt.{decimal_is_IsNumeral}
use Rattle.std.proofs.lemmas.Grind.{common_steps}
use Rattle.std.proofs.lemmas.Int.{ints}
use Rattle.std.proofs.lemmas.List.Elements.{All-nil, All-cons, All-head, All-tail}
use Rattle.std.proofs.lemmas.List.Splits.{slice_split_none, slice_split_at, join_with_byte-slice_split}
use Rattle.aseba_text.specs.Options.{◌>>=◌}
use Rattle.aseba_text.specs.Fields.{fields, has_no_blank}
use Rattle.aseba_text.specs.Names.{is_same}
use Rattle.aseba_text.specs.Numbers.{IsCell, number_from, cell_of}
use Rattle.aseba_text.proofs.Options.{when_takes, when_true, and_takes, and_true, bind_takes, bind_some, some_is}
use Rattle.aseba_text.proofs.NumberLaws.{same_is}
use Rattle.aseba_text.proofs.LineLaws.{each_differs}
use Rattle.aseba_text.proofs.CellLaws.{leb_from, leb_to, number_from_again, number_from_takes, cell_again, cell_takes, cell_has_no_blank, no_other, no_byte_from}
use Rattle.aseba_words.specs.declared.limits.TheConstants.{MOST_EVENT_CELLS}
use Rattle.aseba_tree.specs.Code.{Name, Project}
use Rattle.aseba_tree.specs.Line.{blank_number, blank_cells, named}
use Rattle.aseba_tree.specs.Events.{event_number}
use Rattle.aseba_tree.specs.Layout.{Placed, placed_named}
use Rattle.aseba_driver.specs.declared.entry.Act.{Act}
use Rattle.aseba_driver.specs.declared.entry.Act.TheVariants.{Event, Set}
use Rattle.aseba_driver.specs.declared.entry.Entry.{Entry}
use Rattle.aseba_driver.specs.declared.fields.TheConstants.{MOST_TIME}
use Rattle.aseba_driver.specs.Reading.{first_of, cells_of, source_behind, source_of, event_of, values_of, set_of, entry_of}
use Rattle.aseba_driver.specs.Spelled.{SaysAct, SaysEntry, LinesAreSpelled}
use Rattle.aseba_driver.proofs.EntryLaws.{event_entry, then_args, then_source, then_event, set_entry, then_values, then_first}
use Rattle.aseba_driver.proofs.FieldsRead.{has_field, first_of_more}

lt_from : (a b : ℕ) → a < b → nat_lt a b ≡ true
lt_from a b h = grind (arith, common_steps)

lt_to : (a b : ℕ) → nat_lt a b ≡ true → a < b
lt_to a b h = grind (arith, common_steps)

-- Fields

onto_no_blank : (b : ℕ) (fs : List (List ℕ)) → not (b == 32) ≡ true → list_all has_no_blank fs ≡ true → list_all has_no_blank (onto_first b fs) ≡ true
onto_no_blank b [] h k = and_true _ _ (and_true _ _ h refl) refl
onto_no_blank b (f ∷ fs) h k = let both = and_takes _ _ k in and_true _ _ (and_true _ _ h both.0) both.1

-- no field has a blank
fields_no_blank : (text : List ℕ) → list_all has_no_blank (fields text) ≡ true
fields_no_blank [] = refl
fields_no_blank (b ∷ bs) = by (b == 32) refl (fields_no_blank bs)
  where
    by : (t : Bool) → (b == 32) ≡ t → list_all has_no_blank (fields bs) ≡ true → list_all has_no_blank (cond t ([] ∷ fields bs) (onto_first b (fields bs))) ≡ true
    by true e others = others
    by false e others = onto_no_blank b (fields bs) (ap not e) others

abbrev joined : List (List ℕ) → List ℕ
joined fs = join_with_byte 32 fs

join_more : (f : List ℕ) (fs : List (List ℕ)) → has_field fs ≡ true → joined (f ∷ fs) ≡ f ++ 32 ∷ joined fs
join_more f [] h = absurd cc
join_more f (g ∷ fs) h = refl

first_is : (fs : List (List ℕ)) (c : List ℕ × List (List ℕ)) → first_of fs ≡ Some c → (fs ≡ c.0 ∷ c.1) × (has_field c.1 ≡ true)
first_is [] c h = absurd cc
first_is (f ∷ []) c h = absurd cc
first_is (f ∷ g ∷ fs) c h =
    let same = some_is {A = List ℕ × List (List ℕ)} (f, g ∷ fs) c h in
    (ap (λ (p : List ℕ × List (List ℕ)). p.0 ∷ p.1) same, sym (ap (λ (p : List ℕ × List (List ℕ)). has_field p.1) same))

-- a text with a field in front
front_field : (f rest : List ℕ) → has_no_blank f ≡ true → fields (f ++ 32 ∷ rest) ≡ f ∷ fields rest
front_field f rest h = slice_split_at (λ b. b == 32) f 32 rest (each_differs 32 f h) refl

one_field : (f : List ℕ) → has_no_blank f ≡ true → fields f ≡ f ∷ []
one_field f h = slice_split_none (λ b. b == 32) f (each_differs 32 f h)

digits_no_blank : (n : ℕ) → n < 2 ^ 64 → has_no_blank (decimal n) ≡ true
digits_no_blank n h = no_byte_from 32 (decimal n) (no_other n 32 h (λ r. omega (arith, r.0)))

-- Cells

cells_spelled : (fs : List (List ℕ)) (cells : List ℤ) → cells_of fs ≡ Some cells → (fs ≡ map signed_decimal cells) × All IsCell cells
cells_spelled [] cells h = let none : [] ≡ cells = some_is _ cells h in (ap (map signed_decimal) none, subst (All IsCell) none (All-nil IsCell))
cells_spelled (f ∷ fs) cells h =
    let a = bind_takes _ _ _ h in
    let b = bind_takes _ _ _ a.2 in
    let all : a.0 ∷ b.0 ≡ cells = some_is _ cells b.2 in
    let one = cell_takes f a.0 a.1 in
    let others = cells_spelled fs b.0 b.1 in
    ((λ i. one.0 i ∷ others.0 i) ∙ ap (map signed_decimal) all, subst (All IsCell) all (All-cons IsCell a.0 b.0 one.1 others.1))

cells_read : (cells : List ℤ) → All IsCell cells → cells_of (map signed_decimal cells) ≡ Some cells
cells_read [] all = refl
cells_read (v ∷ vs) all =
    bind_some (cell_of (signed_decimal v)) _ v (cell_again v (All-head IsCell v vs all))
    ∙ bind_some (cells_of (map signed_decimal vs)) _ vs (cells_read vs (All-tail IsCell v vs all))

-- cells behind a field
join_cells : (f : List ℕ) (cells : List ℤ) → joined (f ∷ map signed_decimal cells) ≡ f ++ blank_cells cells
join_cells f [] = sym (append-nil f)
join_cells f (v ∷ vs) = ap (λ t. f ++ 32 ∷ t) (join_cells (signed_decimal v) vs)

fields_cells : (f : List ℕ) (cells : List ℤ) → has_no_blank f ≡ true → All IsCell cells → fields (f ++ blank_cells cells) ≡ f ∷ map signed_decimal cells
fields_cells f [] h all = ap fields (append-nil f) ∙ one_field f h
fields_cells f (v ∷ vs) h all =
    let first = All-head IsCell v vs all in
    front_field f (signed_decimal v ++ blank_cells vs) h
    ∙ ap (λ fs. f ∷ fs) (fields_cells (signed_decimal v) vs (cell_has_no_blank v first) (All-tail IsCell v vs all))

-- a cell isn't the word `from`
no_from : (v : ℤ) → IsCell v → is_same (signed_decimal v) (codes "from") ≡ false
no_from v cell = by (is_same (signed_decimal v) (codes "from")) refl
  where
    begins : (v : ℤ) → IsCell v → signed_decimal v ≡ codes "from" → ⊥
    begins (pos n) c e =
        let small : n ≤ 32767 = omega (arith, ints, c.1) in
        no_other n 102 (omega arith) (λ r. omega (arith, r.1)) 0 (decimal_is_IsNumeral n (omega arith)).0.0 (ap (λ t. get_or t 0 0) e)
    begins (negsuc k) c e = let first : 45 ≡ 102 = ap (λ t. get_or t 0 0) e in absurd (omega (arith, first))

    by : (t : Bool) → is_same (signed_decimal v) (codes "from") ≡ t → t ≡ false
    by true e = absurd (begins v cell (same_is _ _ e))
    by false e = refl

source_plain : (cells : List ℤ) → All IsCell cells → source_of (map signed_decimal cells) ≡ Some (0, map signed_decimal cells)
unfolding source_of
source_plain [] all = refl
source_plain (v ∷ vs) all = ap (λ b. cond b (source_behind (map signed_decimal vs)) (Some (0, signed_decimal v ∷ map signed_decimal vs))) (no_from v (All-head IsCell v vs all))

source_told : (source : ℕ) (fs : List (List ℕ)) → source ≤ 65535 → source_of (codes "from" ∷ decimal source ∷ fs) ≡ Some (source, fs)
unfolding source_of
source_told source fs h = bind_some (number_from 0 65535 (decimal source)) _ source (number_from_again 0 65535 source (omega arith, h) (omega arith))

-- From a line to its entry

record SourceSpelled (fs : List (List ℕ)) (s : ℕ × List (List ℕ)) : Type 0 where
  near : s.0 ≤ 65535
  spelled : ((s.0 ≡ 0) × (fs ≡ s.1)) ⊎ (fs ≡ codes "from" ∷ decimal s.0 ∷ s.1)

source_spelled : (fs : List (List ℕ)) (s : ℕ × List (List ℕ)) → source_of fs ≡ Some s → SourceSpelled fs s
unfolding source_of
source_spelled [] s h = subst (SourceSpelled []) (some_is _ s h) (record { near = omega arith; spelled = inl (refl, refl) })
source_spelled (word ∷ fs) s h = by (is_same word (codes "from")) refl h
  where
    behind : (rest : List (List ℕ)) → word ≡ codes "from" → source_behind rest ≡ Some s → SourceSpelled (word ∷ rest) s
    behind [] w e = absurd cc
    behind (f ∷ rest) w e =
        let b = bind_takes _ _ _ e in
        let t = number_from_takes 0 65535 f b.0 b.1 in
        subst (SourceSpelled (word ∷ f ∷ rest)) (some_is _ s b.2) (record { near = t.0.1; spelled = inr (λ i. w i ∷ t.1 i ∷ rest) })

    by : (t : Bool) → is_same word (codes "from") ≡ t → cond t (source_behind fs) (Some (0, word ∷ fs)) ≡ Some s → SourceSpelled (word ∷ fs) s
    by true e k = behind fs (same_is _ _ e) k
    by false e k = subst (SourceSpelled (word ∷ fs)) (some_is _ s k) (record { near = omega arith; spelled = inl (refl, refl) })

-- the same text, with its pieces joined in another order
from_text : (name source cells : List ℕ) → name ++ 32 ∷ (codes "from" ++ 32 ∷ (source ++ cells)) ≡ name ++ codes " from" ++ (codes " " ++ source) ++ cells
from_text name source cells = sym (append_assoc (name ++ codes " from") (codes " " ++ source) cells ∙ append_assoc name (codes " from") (codes " " ++ source ++ cells))

blank_text : (name number cells : List ℕ) → name ++ 32 ∷ (number ++ cells) ≡ name ++ (codes " " ++ number) ++ cells
blank_text name number cells = sym (append_assoc name (codes " " ++ number) cells)

module _ (project : Project) (places : List Placed) where
  -- the fields behind the time say an entry
  record ReadSo (fs : List (List ℕ)) (time : ℕ) (word : List ℕ) (e : Entry) : Type 0 where
    time_is : e.time ≡ time
    field : has_no_blank e.name ≡ true
    says : SaysAct project places e.name e.act (word ++ 32 ∷ joined fs)

  event_spelled : (time : ℕ) (fs : List (List ℕ)) (e : Entry) → list_all has_no_blank fs ≡ true → event_of project time fs ≡ Some e → ReadSo fs time (codes "event") e
  unfolding event_of
  event_spelled time [] e apart h = absurd cc
  event_spelled time (name ∷ fs) e apart h =
      let a = bind_takes {A = ℕ} {B = Entry} (event_number project (named name)) (then_event time name fs) e h in
      let s = bind_takes {A = ℕ × List (List ℕ)} {B = Entry} (source_of fs) (then_source time name a.0) e a.2 in
      let c = bind_takes {A = List ℤ} {B = Entry} (cells_of s.0.1) (then_args time name a.0 s.0.0) e s.2 in
      let w = when_takes {A = Entry} (nat_le (length c.0) MOST_EVENT_CELLS) (event_entry time name a.0 s.0.0 c.0) e c.2 in
      let told = source_spelled fs s.0 s.1 in
      let args = cells_spelled s.0.1 c.0 c.1 in
      let plain : (s.0.0 ≡ 0) × (fs ≡ s.0.1) → (s.0.0 ≡ 0) × (codes "event" ++ 32 ∷ joined (name ∷ fs) ≡ codes "event " ++ name ++ blank_cells c.0) =
      λ p. (p.0, ap (λ t. codes "event" ++ 32 ∷ t) (ap (λ g. joined (name ∷ g)) (p.1 ∙ args.0) ∙ join_cells name c.0)) in
      let from : fs ≡ codes "from" ∷ decimal s.0.0 ∷ s.0.1 → codes "event" ++ 32 ∷ joined (name ∷ fs) ≡ codes "event " ++ name ++ codes " from" ++ blank_number s.0.0 ++ blank_cells c.0 =
      λ p. ap (λ t. codes "event" ++ 32 ∷ t)
      (ap (λ g. joined (name ∷ g)) (p ∙ ap (λ g. codes "from" ∷ decimal s.0.0 ∷ g) args.0) ∙ ap (λ t. name ++ 32 ∷ (codes "from" ++ 32 ∷ t)) (join_cells (decimal s.0.0) c.0) ∙ from_text name (decimal s.0.0) (blank_cells c.0)) in
      subst (ReadSo (name ∷ fs) time (codes "event")) w.1
      (record {
        time_is = refl;
        field = (and_takes _ _ apart).0;
        says = record {
          number = a.1;
          near = told.near;
          few = leb_to (length c.0) MOST_EVENT_CELLS w.0;
          cells = args.1;
          spelled = elim told.spelled [ inl p ↦ inl (plain p) | inr p ↦ inr (from p) ];
        };
      })

  values_spelled : (place : Placed) (time : ℕ) (name : Name) (fs : List (List ℕ)) (e : Entry) → has_no_blank name ≡ true → placed_named places name ≡ Some place → values_of place time name fs ≡ Some e
      → ReadSo (name ∷ fs) time (codes "set") e
  unfolding values_of
  values_spelled place time name [] e field is h = absurd cc
  values_spelled place time name (word ∷ fs) e field is h =
      let a = bind_takes {A = ℕ} {B = Entry} (number_from 0 65535 word) (then_first place time name fs) e h in
      let c = bind_takes {A = List ℤ} {B = Entry} (cells_of fs) (then_values place time name a.0) e a.2 in
      let w = when_takes {A = Entry} (nat_lt 0 (length c.0) && nat_le (a.0 + length c.0) place.size) (set_entry place time name a.0 c.0) e c.2 in
      let k = and_takes _ _ w.0 in
      let first = number_from_takes 0 65535 word a.0 a.1 in
      let values = cells_spelled fs c.0 c.1 in
      subst (ReadSo (name ∷ word ∷ fs) time (codes "set")) w.1
      (record {
        time_is = refl;
        field = field;
        says = record {
          place = place;
          is_place = is;
          first = a.0;
          start_is = refl;
          near = first.0.1;
          some = lt_to 0 (length c.0) k.0;
          inside = leb_to (a.0 + length c.0) place.size k.1;
          cells = values.1;
          spelled = ap (λ t. codes "set" ++ 32 ∷ (name ++ 32 ∷ t)) ((λ i. joined (first.1 i ∷ values.0 i)) ∙ join_cells (decimal a.0) c.0)
              ∙ ap (λ t. codes "set" ++ 32 ∷ t) (blank_text name (decimal a.0) (blank_cells c.0));
        };
      })

  set_spelled : (time : ℕ) (fs : List (List ℕ)) (e : Entry) → list_all has_no_blank fs ≡ true → set_of places time fs ≡ Some e → ReadSo fs time (codes "set") e
  unfolding set_of
  set_spelled time fs e apart h =
      let c = bind_takes _ _ _ h in
      let p = bind_takes _ _ _ c.2 in
      let first = first_is fs c.0 c.1 in
      let name : has_no_blank c.0.0 ≡ true = (and_takes _ _ (ap (list_all has_no_blank) (sym first.0) ∙ apart)).0 in
      subst (λ (g : List (List ℕ)). ReadSo g time (codes "set") e) (sym first.0) (values_spelled p.0 time c.0.0 c.0.1 e name p.1 p.2)

  by_word : (time : ℕ) (word : List ℕ) (fs : List (List ℕ)) (e : Entry) (event set : Bool) → list_all has_no_blank fs ≡ true → is_same word (codes "event") ≡ event → is_same word (codes "set") ≡ set
      → cond event (event_of project time fs) (cond set (set_of places time fs) None) ≡ Some e → ReadSo fs time word e
  by_word time word fs e true set apart f g h = subst (λ (x : List ℕ). ReadSo fs time x e) (sym (same_is word (codes "event") f)) (event_spelled time fs e apart h)
  by_word time word fs e false true apart f g h = subst (λ (x : List ℕ). ReadSo fs time x e) (sym (same_is word (codes "set") g)) (set_spelled time fs e apart h)
  by_word time word fs e false false apart f g h = absurd cc

  entry_spelled : (line : List ℕ) (e : Entry) → entry_of project places line ≡ Some e → SaysEntry project places line e
  unfolding entry_of
  entry_spelled line e h =
      let c = bind_takes _ _ _ h in
      let t = bind_takes _ _ _ c.2 in
      let d = bind_takes _ _ _ t.2 in
      let one = first_is (fields line) c.0 c.1 in
      let two = first_is c.0.1 d.0 d.1 in
      let time = number_from_takes 0 MOST_TIME c.0.0 t.0 t.1 in
      let apart : list_all has_no_blank (d.0.0 ∷ d.0.1) ≡ true = ap (list_all has_no_blank) (sym two.0) ∙ (and_takes _ _ (ap (list_all has_no_blank) (sym one.0) ∙ fields_no_blank line)).1 in
      let read : ReadSo d.0.1 t.0 d.0.0 e = by_word t.0 d.0.0 d.0.1 e (is_same d.0.0 (codes "event")) (is_same d.0.0 (codes "set")) (and_takes _ _ apart).1 refl refl d.2 in
      let behind : List ℕ = d.0.0 ++ 32 ∷ joined d.0.1 in
      record {
        early = subst (λ n. n ≤ MOST_TIME) (sym read.time_is) time.0.1;
        field = read.field;
        behind = behind;
        says = read.says;
        line_is =
            sym (join_with_byte-slice_split 32 line)
            ∙ ap joined one.0
            ∙ join_more c.0.0 c.0.1 one.1
            ∙ (λ i. time.1 i ++ 32 ∷ joined (two.0 i))
            ∙ ap (λ x. decimal t.0 ++ 32 ∷ x) (join_more d.0.0 d.0.1 two.1)
            ∙ sym (append_assoc (decimal t.0) (codes " ") behind)
            ∙ ap (λ n. decimal n ++ codes " " ++ behind) (sym read.time_is);
      }

  -- From an entry to its line

  event_read : (time : ℕ) (name : Name) (fs : List (List ℕ)) (event source : ℕ) (args : List ℤ) → event_number project (named name) ≡ Some event → source_of fs ≡ Some (source, map signed_decimal args)
      → length args ≤ MOST_EVENT_CELLS → All IsCell args → event_of project time (name ∷ fs) ≡ Some (record { time = time; name = name; act = Event event source args })
  unfolding event_of
  event_read time name fs event source args number told few cells =
      bind_some (event_number project (named name)) _ event number
      ∙ bind_some (source_of fs) _ (source, map signed_decimal args) told
      ∙ bind_some (cells_of (map signed_decimal args)) _ args (cells_read args cells)
      ∙ when_true (nat_le (length args) MOST_EVENT_CELLS) _ (leb_from (length args) MOST_EVENT_CELLS few)

  values_read : (place : Placed) (time : ℕ) (name : Name) (first : ℕ) (values : List ℤ) → first ≤ 65535 → 0 < length values → first + length values ≤ place.size → All IsCell values
      → values_of place time name (decimal first ∷ map signed_decimal values) ≡ Some (record { time = time; name = name; act = Set (place.start + first) values })
  unfolding values_of
  values_read place time name first values near some inside cells =
      bind_some (number_from 0 65535 (decimal first)) _ first (number_from_again 0 65535 first (omega arith, near) (omega arith))
      ∙ bind_some (cells_of (map signed_decimal values)) _ values (cells_read values cells)
      ∙ when_true (nat_lt 0 (length values) && nat_le (first + length values) place.size) _ (and_true _ _ (lt_from 0 (length values) some) (leb_from (first + length values) place.size inside))

  set_read : (place : Placed) (time : ℕ) (name : Name) (first : ℕ) (values : List ℤ) → placed_named places name ≡ Some place → first ≤ 65535 → 0 < length values → first + length values ≤ place.size → All IsCell values
      → set_of places time (name ∷ decimal first ∷ map signed_decimal values) ≡ Some (record { time = time; name = name; act = Set (place.start + first) values })
  unfolding set_of
  set_read place time name first values is near some inside cells = bind_some (placed_named places name) _ place is ∙ values_read place time name first values near some inside cells

  -- what is read behind the time
  abbrev behind_time : ℕ → List ℕ → Option Entry
  behind_time time behind = first_of (fields behind) >>= λ d. cond (is_same d.0 (codes "event")) (event_of project time d.1) (cond (is_same d.0 (codes "set")) (set_of places time d.1) None)

  event_behind : (time : ℕ) (rest : List ℕ) → behind_time time (codes "event" ++ 32 ∷ rest) ≡ event_of project time (fields rest)
  event_behind time rest = bind_some (first_of (fields (codes "event" ++ 32 ∷ rest))) _ (codes "event", fields rest) (first_of_more (codes "event" ++ 32 ∷ rest) (codes "event") rest (front_field (codes "event") rest refl))

  set_behind : (time : ℕ) (rest : List ℕ) → behind_time time (codes "set" ++ 32 ∷ rest) ≡ set_of places time (fields rest)
  set_behind time rest = bind_some (first_of (fields (codes "set" ++ 32 ∷ rest))) _ (codes "set", fields rest) (first_of_more (codes "set" ++ 32 ∷ rest) (codes "set") rest (front_field (codes "set") rest refl))

  act_read : (time : ℕ) (name : Name) (act : Act) (behind : List ℕ) → has_no_blank name ≡ true → SaysAct project places name act behind → behind_time time behind ≡ Some (record { time = time; name = name; act = act })
  act_read time name (Event event source args) behind field says = elim says.spelled [ inl p ↦ plain p | inr p ↦ from p ]
    where
      plain : (source ≡ 0) × (behind ≡ codes "event " ++ name ++ blank_cells args) → behind_time time behind ≡ Some (record { time = time; name = name; act = Event event source args })
      plain p =
          ap (behind_time time) p.1
          ∙ event_behind time (name ++ blank_cells args)
          ∙ ap (event_of project time) (fields_cells name args field says.cells)
          ∙ event_read time name (map signed_decimal args) event source args says.number (source_plain args says.cells ∙ ap (λ n. Some (n, map signed_decimal args)) (sym p.0)) says.few says.cells

      from : behind ≡ codes "event " ++ name ++ codes " from" ++ blank_number source ++ blank_cells args → behind_time time behind ≡ Some (record { time = time; name = name; act = Event event source args })
      from p =
          let rest : List ℕ = decimal source ++ blank_cells args in
          ap (behind_time time) (p ∙ ap (λ t. codes "event" ++ 32 ∷ t) (sym (from_text name (decimal source) (blank_cells args))))
          ∙ event_behind time (name ++ 32 ∷ (codes "from" ++ 32 ∷ rest))
          ∙ ap (event_of project time)
          (front_field name (codes "from" ++ 32 ∷ rest) field ∙ ap (λ fs. name ∷ fs) (front_field (codes "from") rest refl) ∙ ap (λ fs. name ∷ codes "from" ∷ fs) (fields_cells (decimal source) args (digits_no_blank source (omega (arith, says.near))) says.cells))
          ∙ event_read time name (codes "from" ∷ decimal source ∷ map signed_decimal args) event source args says.number (source_told source (map signed_decimal args) says.near) says.few says.cells
  act_read time name (Set start values) behind field says =
      let rest : List ℕ = decimal says.first ++ blank_cells values in
      ap (behind_time time) (says.spelled ∙ ap (λ t. codes "set" ++ 32 ∷ t) (sym (blank_text name (decimal says.first) (blank_cells values))))
      ∙ set_behind time (name ++ 32 ∷ rest)
      ∙ ap (set_of places time) (front_field name rest field ∙ ap (λ fs. name ∷ fs) (fields_cells (decimal says.first) values (digits_no_blank says.first (omega (arith, says.near))) says.cells))
      ∙ set_read says.place time name says.first values says.is_place says.near says.some says.inside says.cells
      ∙ ap (λ n. Some (record { time = time; name = name; act = Set n values })) (sym says.start_is)

  entry_read : (line : List ℕ) (e : Entry) → SaysEntry project places line e → entry_of project places line ≡ Some e
  unfolding entry_of
  entry_read line e says =
      let early : e.time ≤ 100000000 = says.early in
      let small : 100000000 < 2 ^ 64 = omega arith in
      let split : fields line ≡ decimal e.time ∷ fields says.behind =
      ap fields (says.line_is ∙ append_assoc (decimal e.time) (codes " ") says.behind) ∙ front_field (decimal e.time) says.behind (digits_no_blank e.time (omega arith)) in
      bind_some (first_of (fields line)) _ (decimal e.time, fields says.behind) (first_of_more line (decimal e.time) says.behind split)
      ∙ bind_some (number_from 0 MOST_TIME (decimal e.time)) _ e.time (number_from_again 0 MOST_TIME e.time (omega arith, says.early) small)
      ∙ act_read e.time e.name e.act says.behind says.field says.says

pub spelled : LinesAreSpelled
spelled project places line e = (λ h. entry_spelled project places line e h, λ says. entry_read project places line e says)
