-- The lines of a head: what is read of one is spelled so, and what is spelled so is read.
use Rattle.std.proofs.Common.{◌≡◌, ℕ, ◌<◌, nat_lt, Bool, true, false, not, ◌&&◌, List, [], ◌∷◌, ◌++◌, length, codes, decimal, Some, None, refl, sym, ap, ◌∙◌, subst, arith, cond, length-append}
use Rattle.std.proofs.lemmas.List.{map-append}
use Rattle.std.proofs.lemmas.List.Elements.{All-nil, All-push, All-head, All-tail}
use Rattle.std.proofs.lemmas.Bool.{lt-ltb}
use Rattle.std.proofs.lemmas.Grind.{common_steps}
use Rattle.std.specs.List.{All}
use Rattle.aseba_words.specs.declared.limits.TheConstants.{MOST_EVENTS, MOST_EVENT_CELLS}
use Rattle.aseba_text.specs.Options.{when}
use Rattle.aseba_text.specs.Fields.{cut}
use Rattle.aseba_text.specs.Names.{is_same, are_distinct, stands_in}
use Rattle.aseba_text.proofs.Options.{when_takes, when_true, and_takes, and_true, bind_takes, bind_some}
use Rattle.aseba_text.proofs.NumberLaws.{same_is}
use Rattle.aseba_text.proofs.FieldLaws.{cut_takes, cut_again}
use Rattle.aseba_tree.specs.Inside.{InsideSized}
use Rattle.aseba_tree.specs.declared.description.Sized.{Sized}
use Rattle.aseba_describe.specs.Plain.{PlainSized}
use Rattle.aseba_describe.specs.Reading.{sized_of}
use Rattle.aseba_describe.proofs.Spelled.{sized_again, sized_takes, short_is}
use Rattle.aseba_describe.proofs.Apart.{distinct_more, new_at}
use Rattle.aseba_record.specs.Events.{AreNamed}
use Rattle.aseba_record.specs.Texts.{event_text}
use Rattle.aseba_record.specs.Reading.{named_of, fields_behind_event, is_free, with_event}
use Rattle.aseba_record.proofs.NameLaws.{names_of}

abbrev pub sized_text : Sized → List ℕ
sized_text e = e.name ++ codes " " ++ decimal e.size

named_again : (e : Sized) → InsideSized 0 MOST_EVENT_CELLS e → PlainSized e → named_of (event_text e) ≡ Some e
unfolding named_of
named_again e inside plain =
    bind_some (cut (event_text e)) fields_behind_event (codes "event", sized_text e) (cut_again (codes "event") (sized_text e) refl)
    ∙ sized_again 0 MOST_EVENT_CELLS e plain inside.size (omega arith)

record NamedSo (line : List ℕ) (e : Sized) : Type 0 where
  spelled : line ≡ event_text e
  inside : InsideSized 0 MOST_EVENT_CELLS e
  plain : PlainSized e

named_takes : (line : List ℕ) (e : Sized) → named_of line ≡ Some e → NamedSo line e
unfolding named_of
named_takes line e h =
    let c = bind_takes _ _ _ h in
    by c.0 (cut_takes line c.0.0 c.0.1 c.1) (is_same c.0.0 (codes "event")) refl c.2
  where
    by : (c : List ℕ × List ℕ) → line ≡ c.0 ++ 32 ∷ c.1 → (t : Bool) → is_same c.0 (codes "event") ≡ t → cond t (sized_of 0 MOST_EVENT_CELLS c.1) None ≡ Some e → NamedSo line e
    by c is true same k =
        let s = sized_takes 0 MOST_EVENT_CELLS c.1 e k in
        record {
          spelled = is ∙ (λ i. same_is c.0 (codes "event") same i ++ 32 ∷ s.0 i);
          inside = record { name = short_is e.name s.1; size = s.2 };
          plain = s.1;
        }
    by c is false same k = absurd cc

-- the events of a head and one more
pub event_again : (front : List Sized) (e : Sized) (back : List Sized) → AreNamed (front ++ e ∷ back) → with_event front (event_text e) ≡ Some (front ++ e ∷ [])
unfolding with_event
event_again front e back h =
    let inside = within front e back h.inside.each in
    let plain = plainly front e back h.plain in
    let own : not (stands_in e.name (names_of front)) ≡ true = new_at (names_of front) e.name (names_of back) (ap are_distinct (sym (map-append (λ x. x.name) front (e ∷ back))) ∙ h.own) in
    let room : length front < MOST_EVENTS = omega (arith, h.inside.few, length-append front (e ∷ back)) in
    bind_some (named_of (event_text e)) _ e (named_again e inside plain)
    ∙ when_true (nat_lt (length front) MOST_EVENTS && is_free e.name front) (front ++ e ∷ []) (and_true _ _ (lt-ltb (length front) MOST_EVENTS room) own)
  where
    within : (front : List Sized) (e : Sized) (back : List Sized) → All (InsideSized 0 MOST_EVENT_CELLS) (front ++ e ∷ back) → InsideSized 0 MOST_EVENT_CELLS e
    within [] e back each = All-head (InsideSized 0 MOST_EVENT_CELLS) e back each
    within (x ∷ xs) e back each = within xs e back (All-tail (InsideSized 0 MOST_EVENT_CELLS) x (xs ++ e ∷ back) each)

    plainly : (front : List Sized) (e : Sized) (back : List Sized) → All PlainSized (front ++ e ∷ back) → PlainSized e
    plainly [] e back each = All-head PlainSized e back each
    plainly (x ∷ xs) e back each = plainly xs e back (All-tail PlainSized x (xs ++ e ∷ back) each)

pub record EventSo (events : List Sized) (line : List ℕ) (more : List Sized) : Type 0 where
  pub event : Sized
  pub more_is : more ≡ events ++ event ∷ []
  pub spelled : line ≡ event_text event
  pub named : AreNamed more

pub event_takes : (events : List Sized) (line : List ℕ) (more : List Sized) → AreNamed events → with_event events line ≡ Some more → EventSo events line more
unfolding with_event
event_takes events line more h k =
    let e = bind_takes {A = Sized} {B = List Sized} (named_of line) (λ e. when (nat_lt (length events) MOST_EVENTS && is_free e.name events) (events ++ e ∷ [])) more k in
    let w = when_takes (nat_lt (length events) MOST_EVENTS && is_free e.0.name events) (events ++ e.0 ∷ []) more e.2 in
    let so = named_takes line e.0 e.1 in
    let room = and_takes (nat_lt (length events) MOST_EVENTS) (is_free e.0.name events) w.0 in
    let few : length events < MOST_EVENTS = grind (arith, common_steps, room.0) in
    record {
      event = e.0;
      more_is = sym w.1;
      spelled = so.spelled;
      named = subst AreNamed w.1
          (record {
            inside = record { few = omega (arith, few, length-append events (e.0 ∷ [])); each = All-push (InsideSized 0 MOST_EVENT_CELLS) events e.0 h.inside.each so.inside };
            plain = All-push PlainSized events e.0 h.plain so.plain;
            own = ap are_distinct (map-append (λ x. x.name) events (e.0 ∷ [])) ∙ distinct_more (names_of events) e.0.name h.own room.1;
          });
    }

pub none_named : AreNamed []
none_named = record {
  inside = record { few = omega arith; each = All-nil (InsideSized 0 MOST_EVENT_CELLS) };
  plain = All-nil PlainSized;
  own = refl;
}
