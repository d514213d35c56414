-- Events by their names, or by their numbers where they have none.
use Rattle.std.proofs.Common.{◌≡◌, ℕ, zero, suc, ◌+◌, ◌<◌, ◌≤◌, ◌^◌, nat_lt, nat_le, Bool, true, false, not, ◌||◌, List, [], ◌∷◌, length, get_or, map, decimal, Option, Some, None, refl, sym, ap, ◌∙◌, subst, arith, cond}
use Rattle.std.specs.Prelude.{bytes_eq, slice_get, option_map, unwrap_or}
use Rattle.std.specs.Option.{option_or}
use Rattle.std.specs.List.{AllByRecursion, prefix_len}
use Rattle.std.proofs.lemmas.Bool.{lt-ltb, le-ltb}
use Rattle.std.proofs.lemmas.Grind.{common_steps}
use Rattle.std.proofs.lemmas.Option.{slice_get_past, slice_get_within}
use Rattle.aseba_words.specs.Bytes.{is_name_start}
use Rattle.aseba_words.specs.declared.limits.TheConstants.{MOST_EVENTS}
use Rattle.aseba_text.specs.Fields.{has_no_blank}
use Rattle.aseba_text.specs.Names.{is_same, stands_in, are_distinct}
use Rattle.aseba_text.specs.Numbers.{number_from}
use Rattle.aseba_text.proofs.Options.{when_takes, when_true, and_takes, bind_takes, bind_some, some_is}
use Rattle.aseba_text.proofs.NumberLaws.{same_is, is_same_from}
use Rattle.aseba_text.proofs.CellLaws.{leb_from, leb_to, number_from_again, number_from_takes, no_other}
use Rattle.aseba_tree.specs.Tokens.{is_name}
use Rattle.aseba_tree.specs.declared.description.Sized.{Sized}
use Rattle.aseba_describe.proofs.Spelled.{name_has_no_blank}
use Rattle.aseba_record.specs.Texts.{event_word}
use Rattle.aseba_record.specs.Reading.{place_of, number_behind, event_in}
use Rattle.aseba_record.proofs.FieldLaws.{digits_no_blank}

abbrev pub names_of : List Sized → List (List ℕ)
names_of events = map (λ e. e.name) events

abbrev pub HasName : Sized → Type 0
HasName e = is_name e.name ≡ true

-- Where a name stands

abbrev other_than : List ℕ → Sized → Bool
other_than name e = not (bytes_eq e.name name)

abbrev place_at : ℕ → ℕ → Option ℕ
place_at i len = cond (nat_lt i len) (Some i) None

record Found (name : List ℕ) (events : List Sized) (i : ℕ) : Type 0 where
  event : Sized
  at : slice_get events i ≡ Some event
  named : event.name ≡ name

found : (name : List ℕ) (events : List Sized) → prefix_len (other_than name) events < length events → Found name events (prefix_len (other_than name) events)
found name [] h = absurd (omega arith)
found name (x ∷ xs) h = by (λ k. found name xs k) (bytes_eq x.name name) refl h
  where
    by : (prefix_len (other_than name) xs < length xs → Found name xs (prefix_len (other_than name) xs)) → (t : Bool) → bytes_eq x.name name ≡ t → cond (not t) (1 + prefix_len (other_than name) xs) 0 < length (x ∷ xs) → Found name (x ∷ xs) (cond (not t) (1 + prefix_len (other_than name) xs) 0)
    by again true e k = record { event = x; at = refl; named = same_is x.name name e }
    by again false e k =
        let r = again (omega (arith, k)) in
        let one : 1 + prefix_len (other_than name) xs ≡ suc (prefix_len (other_than name) xs) = omega arith in
        record { event = r.event; at = ap (slice_get (x ∷ xs)) one ∙ r.at; named = r.named }

stands : (name : List ℕ) (xs : List Sized) (k : ℕ) (e : Sized) → slice_get xs k ≡ Some e → is_same name e.name ≡ true → stands_in name (names_of xs) ≡ true
stands name [] k e h same = absurd cc
stands name (x ∷ xs) zero e h same =
    let is : x ≡ e = some_is x e h in
    ap (λ (y : Sized). is_same name y.name || stands_in name (names_of xs)) is ∙ ap (λ t. t || stands_in name (names_of xs)) same
stands name (x ∷ xs) (suc k) e h same = by (is_same name x.name) (stands name xs k e h same)
  where
    by : (t : Bool) → stands_in name (names_of xs) ≡ true → (t || stands_in name (names_of xs)) ≡ true
    by true r = refl
    by false r = r

-- with names of their own, the first event of a name is the one that has it
first_named : (events : List Sized) (k : ℕ) (e : Sized) → are_distinct (names_of events) ≡ true → slice_get events k ≡ Some e → prefix_len (other_than e.name) events ≡ k
first_named [] k e own h = absurd cc
first_named (x ∷ xs) zero e own h =
    let is : x ≡ e = some_is x e h in
    ap (λ t. cond (not t) (1 + prefix_len (other_than e.name) xs) 0) (is_same_from x.name e.name (ap (λ y. y.name) is))
first_named (x ∷ xs) (suc k) e own h = by (first_named xs k e (and_takes (not (stands_in x.name (names_of xs))) (are_distinct (names_of xs)) own).1 h) (bytes_eq x.name e.name) refl
  where
    by : prefix_len (other_than e.name) xs ≡ k → (t : Bool) → bytes_eq x.name e.name ≡ t → cond (not t) (1 + prefix_len (other_than e.name) xs) 0 ≡ suc k
    by behind true same =
        let there : stands_in x.name (names_of xs) ≡ true = stands x.name xs k e h same in
        let clash : not true ≡ true = ap not (sym there) ∙ (and_takes (not (stands_in x.name (names_of xs))) (are_distinct (names_of xs)) own).0 in
        absurd cc
    by behind false same = omega (arith, behind)

-- A name is no number

no_digit : (b : ℕ) → is_name_start b ≡ true → (48 ≤ b) × (b ≤ 57) → ⊥
no_digit b h r = grind (arith, common_steps, h, r.0, r.1)

starts : (b : ℕ) (bs : List ℕ) → is_name (b ∷ bs) ≡ true → is_name_start b ≡ true
starts b bs h = let k = and_takes _ _ (and_takes _ _ (and_takes _ _ h).0).1 in k.0

no_number : (name : List ℕ) (n : ℕ) → is_name name ≡ true → n < 2 ^ 64 → bytes_eq name (decimal n) ≡ false
no_number [] n h small = absurd cc
no_number (b ∷ bs) n h small = by (bytes_eq (b ∷ bs) (decimal n)) refl
  where
    by : (t : Bool) → bytes_eq (b ∷ bs) (decimal n) ≡ t → t ≡ false
    by true e =
        let same : b ∷ bs ≡ decimal n = same_is (b ∷ bs) (decimal n) e in
        let some : 0 < length (decimal n) = omega (arith, ap length same) in
        absurd (no_other n b small (no_digit b (starts b bs h)) 0 some (sym (ap (λ l. get_or l 0 0) same)))
    by false e = refl

none_named : (events : List Sized) (n : ℕ) → AllByRecursion HasName events → n < 2 ^ 64 → prefix_len (other_than (decimal n)) events ≡ length events
none_named [] n plain small = refl
none_named (x ∷ xs) n plain small =
    let others : prefix_len (other_than (decimal n)) xs ≡ length xs = none_named xs n plain.1 small in
    ap (λ t. cond (not t) (1 + prefix_len (other_than (decimal n)) xs) 0) (no_number x.name n plain.0 small) ∙ omega (arith, others)

-- The word of an event

word_named : (events : List Sized) (n : ℕ) (e : Sized) → slice_get events n ≡ Some e → event_word events n ≡ e.name
word_named events n e h = ap (λ o. unwrap_or (option_map (λ x. x.name) o) (decimal n)) h

word_numbered : (events : List Sized) (n : ℕ) → slice_get events n ≡ None → event_word events n ≡ decimal n
word_numbered events n h = ap (λ o. unwrap_or (option_map (λ x. x.name) o) (decimal n)) h

past : (events : List Sized) (n : ℕ) → slice_get events n ≡ None → length events ≤ n
past [] n h = omega arith
past (x ∷ xs) zero h = absurd cc
past (x ∷ xs) (suc n) h = let others = past xs n h in omega (arith, others)

behind_again : (names n : ℕ) → names ≤ n → n ≤ 32767 → number_behind names (decimal n) ≡ Some n
behind_again names n h most =
    bind_some (number_from 0 32767 (decimal n)) _ n (number_from_again 0 32767 n (omega arith, most) (omega arith))
    ∙ when_true (nat_le names n) n (leb_from names n h)

pub event_again : (events : List Sized) (n : ℕ) → AllByRecursion HasName events → are_distinct (names_of events) ≡ true → n < 0x8000 → event_in events (event_word events n) ≡ Some n
event_again events n plain own small = by (slice_get events n) refl
  where
    by : (r : Option Sized) → slice_get events n ≡ r → event_in events (event_word events n) ≡ Some n
    by (Some e) h =
        let at : place_of e.name events ≡ Some n =
        ap (λ i. place_at i (length events)) (first_named events n e own h) ∙ ap (λ t. cond t (Some n) None) (lt-ltb n (length events) (slice_get_within events n e h)) in
        ap (event_in events) (word_named events n e h) ∙ ap (λ o. option_or o (number_behind (length events) e.name)) at
    by None h =
        let least : length events ≤ n = past events n h in
        let at : place_of (decimal n) events ≡ None =
        ap (λ i. place_at i (length events)) (none_named events n plain (omega arith)) ∙ ap (λ t. cond t (Some (length events)) None) (le-ltb (length events) (length events) (omega arith)) in
        ap (event_in events) (word_numbered events n h) ∙ ap (λ o. option_or o (number_behind (length events) (decimal n))) at ∙ behind_again (length events) n least (omega arith)

pub event_takes : (events : List Sized) (word : List ℕ) (n : ℕ) → length events ≤ MOST_EVENTS → event_in events word ≡ Some n → (word ≡ event_word events n) × (n < 0x8000)
event_takes events word n few h = by (nat_lt (prefix_len (other_than word) events) (length events)) refl h
  where
    by : (t : Bool) → nat_lt (prefix_len (other_than word) events) (length events) ≡ t → option_or (cond t (Some (prefix_len (other_than word) events)) None) (number_behind (length events) word) ≡ Some n
        → (word ≡ event_word events n) × (n < 0x8000)
    by true e k =
        let inside : prefix_len (other_than word) events < length events = grind (arith, common_steps) in
        let f = found word events inside in
        let is : prefix_len (other_than word) events ≡ n = some_is _ n k in (
          sym (word_named events n f.event (ap (slice_get events) (sym is) ∙ f.at) ∙ f.named),
          omega (arith, is, inside, few),
        )
    by false e k =
        let b = bind_takes _ _ _ k in
        let w = when_takes (nat_le (length events) b.0) b.0 n b.2 in
        let t = number_from_takes 0 32767 word b.0 b.1 in
        let least : length events ≤ n = subst (λ m. length events ≤ m) w.1 (leb_to (length events) b.0 w.0) in
        (t.1 ∙ ap decimal w.1 ∙ sym (word_numbered events n (slice_get_past events n least)), omega (arith, t.0.1, w.1))

-- what holds of names and of a number holds of the word
pub word_has : (P : List ℕ → Type 0) (events : List Sized) (i : ℕ) (d : List ℕ) → AllByRecursion (λ e. P e.name) events → P d → P (unwrap_or (option_map (λ e. e.name) (slice_get events i)) d)
word_has P [] i d each own = own
word_has P (x ∷ xs) zero d each own = each.0
word_has P (x ∷ xs) (suc i) d each own = word_has P xs i d each.1 own

names_no_blank : (events : List Sized) → AllByRecursion HasName events → AllByRecursion (λ e. has_no_blank e.name ≡ true) events
names_no_blank [] plain = tt
names_no_blank (x ∷ xs) plain = (name_has_no_blank x.name plain.0, names_no_blank xs plain.1)

pub word_no_blank : (events : List Sized) (n : ℕ) → AllByRecursion HasName events → n < 2 ^ 64 → has_no_blank (event_word events n) ≡ true
word_no_blank events n plain small = word_has (λ w. has_no_blank w ≡ true) events n (decimal n) (names_no_blank events plain) (digits_no_blank n small)
