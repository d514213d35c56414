-- The pace of a system that is tied within a weight to another.
use Rattle.std.proofs.Common.{◌≡◌, ℕ, zero, suc, ◌+◌, ◌<◌, ◌≤◌, ◌||◌, ◌&&◌, not, Bool, true, false, List, [], ◌∷◌, length, take, refl, sym, ap, arith, true≢false, All}
use Rattle.std.specs.List.{list_all, list_any}
use Rattle.aseba_tree.specs.Code.{Name}
use Rattle.aseba_tree.specs.Script.{Action, arrives, sets, Script, actions_at}
use Rattle.aseba_tree.specs.Run.{System, Run, begin, Moment, acting, begins_by, all_acting, heard, ticking, moment, moments_from, beats_from, moments, beats_of, Paced, is_one_handler, window, Knows, CallsKnown}
use Rattle.aseba_tree.specs.Tied.{Tied, MetWithin, TickedWithin, TiedWithin, Somehow}
use Rattle.aseba_tree.proofs.RunLaws.{at}

pub or-left : (x y : Bool) → (x || y) ≡ false → x ≡ false
or-left false y h = refl
or-left true y h = h

pub or-right : (x y : Bool) → (x || y) ≡ false → y ≡ false
or-right false y h = h
or-right true y h = absurd (true≢false h)

pub and-left : (x y : Bool) → (x && y) ≡ true → x ≡ true
and-left true y h = refl
and-left false y h = h

pub and-right : (x y : Bool) → (x && y) ≡ true → y ≡ true
and-right true y h = h
and-right false y h = absurd (true≢false (sym h))

pub not-true : (x : Bool) → not x ≡ true → x ≡ false
not-true false h = refl
not-true true h = sym h

rests-so : (counts runs : Bool) → (counts ≡ true → runs ≡ true) → (not counts || runs) ≡ true
rests-so true runs h = h refl
rests-so false runs h = refl

now-or-later : (counts later : Bool) → (counts ≡ false → later ≡ true) → (counts || later) ≡ true
now-or-later true later h = refl
now-or-later false later h = h refl

and-both : (x y : Bool) → x ≡ true → y ≡ true → (x && y) ≡ true
and-both x y h k = rw (h, k) refl

module _ {S : Type 0} {T : Type 0} (Good : Action → Type 0) (Known : Name → Type 0) (f : ℕ → ℕ) (one : System S) (other : System T) (weight : ℕ) (R : ℕ → S → T → Type 0)
    (tied : TiedWithin Good Known f one other weight R) where
  -- Without the distance the two are tied.
  pub tied_somehow : Tied Good Known f one other (Somehow R)
  tied_somehow = record {
    meets = λ event source args s t good r.
        let met : MetWithin Good Known f one other R r.0 (one.arrive event source args s) (other.arrive event source args t) = tied.meets r.0 event source args s t good r.1 in
        record { meeting = met.meeting; tied = (met.left, met.tied) };
    writes = λ name first values s t good r. (r.0, tied.writes r.0 name first values s t good r.1);
    ticks = λ beat s t r known.
        let tick : TickedWithin Good Known f one other R r.0 (one.is_running s) (one.tick beat s) (other.tick (one.tick beat s).counts t) = tied.ticks r.0 beat s t r.1 known in
        record { counts = tick.counts; fails = tick.fails; report = tick.report; tied = (tick.left, tick.tied) };
    runs = λ s t r. tied.runs r.0 s t r.1;
    calls = λ beat s t r counts. tied.calls r.0 beat s t r.1 counts;
    shows = λ s t r. tied.shows r.0 s t r.1;
  }

  -- behind actions the next effect is no farther away, if no handler begins by them
  record ActedWithin (b : ℕ) (s : S) (t : T) (begun : Bool) : Type 0 where
    left : ℕ
    keeps : R left s t
    kept : begun ≡ false → left ≤ b

  act-within : (b : ℕ) (s : S) (t : T) (action : Action) → Good action → R b s t → ActedWithin b (acting one s action) (acting other t action) (begins_by one s action)
  act-within b s t (arrives event source args) good r =
      let met : MetWithin Good Known f one other R b (one.arrive event source args s) (other.arrive event source args t) = tied.meets b event source args s t good r in
      record { left = met.left; keeps = met.tied; kept = met.kept }
  act-within b s t (sets name first values) good r = record { left = b; keeps = tied.writes b name first values s t good r; kept = λ h. omega arith }

  acts-within : (b : ℕ) (s : S) (t : T) (actions : List Action) → All Good actions → R b s t → ActedWithin b (all_acting one s actions) (all_acting other t actions) (heard one s actions)
  acts-within b s t [] good r = record { left = b; keeps = r; kept = λ h. omega arith }
  acts-within b s t (action ∷ actions) good r =
      let now : ActedWithin b (acting one s action) (acting other t action) (begins_by one s action) = act-within b s t action (good 0 action (omega arith)) r in
      let rest : ActedWithin now.left (all_acting one (acting one s action) actions) (all_acting other (acting other t action) actions) (heard one (acting one s action) actions) =
      acts-within now.left (acting one s action) (acting other t action) actions (λ k d below. good (suc k) d (omega arith)) now.keeps in
      record {
        left = rest.left;
        keeps = rest.keeps;
        kept = λ h.
            let near : now.left ≤ b = now.kept (or-left (begins_by one s action) (heard one (acting one s action) actions) h) in
            let nearer : rest.left ≤ now.left = rest.kept (or-right (begins_by one s action) (heard one (acting one s action) actions) h) in
            omega arith;
      }

  module _ (script : Script) (good : (n : ℕ) → All Good (actions_at script n)) where
    -- the natives that a run reaches are known
    abbrev KnownFrom : Run S → Run T → List Bool → Type 0
    KnownFrom r c hints = CallsKnown Known (moments_from other script c (beats_from one script r hints))

    -- a tick with its actions
    record Goes (b n k j : ℕ) (s : S) (t : T) (hint : Bool) : Type 0 where
      rests : (moment one script (at n k s) hint).counts ≡ true → (moment one script (at n k s) hint).runs ≡ true
      behind : ℕ
      small : behind < weight
      kept : (moment one script (at n k s) hint).began ≡ false → behind ≤ b
      left : ℕ
      next : R left (ticking one script (at n k s) hint).state (ticking other script (at n j t) (moment one script (at n k s) hint).counts).state
      sooner : (moment one script (at n k s) hint).counts ≡ false → (moment one script (at n k s) hint).runs ≡ true → left < behind

    goes : (b n k j : ℕ) (s : S) (t : T) (hint : Bool) → R b s t → Knows Known (moment other script (at n j t) (moment one script (at n k s) hint).counts).calls → Goes b n k j s t hint
    goes b n k j s t hint r known =
        let actions : List Action = actions_at script n in
        let u : S = all_acting one s actions in
        let v : T = all_acting other t actions in
        let before : ActedWithin b u v (heard one s actions) = acts-within b s t actions (good n) r in
        let tick : TickedWithin Good Known f one other R before.left (one.is_running u) (one.tick hint u) (other.tick (one.tick hint u).counts v) = tied.ticks before.left hint u v before.keeps known in
        record {
          rests = tick.rests;
          behind = before.left;
          small = tied.small before.left u v before.keeps;
          kept = before.kept;
          left = tick.left;
          next = tick.tied;
          sooner = tick.sooner;
        }

    abbrev ms : ℕ → ℕ → S → List Bool → List Moment
    ms n k s hints = moments_from one script (at n k s) hints

    pub moments-many : (hints : List Bool) (r : Run S) → length (moments_from one script r hints) ≡ length hints
    moments-many [] r = refl
    moments-many (hint ∷ hints) r = ap suc (moments-many hints (ticking one script r hint))

    all-rest : (hints : List Bool) (b n k j : ℕ) (s : S) (t : T) → R b s t → KnownFrom (at n k s) (at n j t) hints → list_all (λ m. not m.counts || m.runs) (ms n k s hints) ≡ true
    all-rest [] b n k j s t r known = refl
    all-rest (hint ∷ hints) b n k j s t r known =
        let g : Goes b n k j s t hint = goes b n k j s t hint r (known 0 (moment other script (at n j t) (moment one script (at n k s) hint).counts) (omega arith)) in
        let m : Moment = moment one script (at n k s) hint in
        let next_one : Run S = ticking one script (at n k s) hint in
        let next_other : Run T = ticking other script (at n j t) m.counts in
        let rest : list_all (λ m. not m.counts || m.runs) (moments_from one script next_one hints) ≡ true =
        all-rest hints g.left (suc n) next_one.effects next_other.effects next_one.state next_other.state g.next (λ i d below. known (suc i) d (omega arith)) in
        and-both (not m.counts || m.runs) (list_all (λ m. not m.counts || m.runs) (moments_from one script next_one hints)) (rests-so m.counts m.runs g.rests) rest

    -- from a tick on, whose actions left the next effect so far away, an effect is among so many ticks of a handler
    soon : (hints : List Bool) (w b n k j : ℕ) (s : S) (t : T) → b < w → w ≤ length hints → R b s t → KnownFrom (at n k s) (at n j t) hints
        → list_all (λ m. m.runs) (take w (ms n k s hints)) ≡ true → list_any (λ m. m.began) (take w (ms n k s hints)) ≡ false → list_any (λ m. m.counts) (take w (ms n k s hints)) ≡ true
    soon hints zero b n k j s t near fits r known runs none = absurd (omega arith)
    soon [] (suc w) b n k j s t near fits r known runs none = absurd (omega arith)
    soon (hint ∷ hints) (suc w) b n k j s t near fits r known runs none =
        let g : Goes b n k j s t hint = goes b n k j s t hint r (known 0 (moment other script (at n j t) (moment one script (at n k s) hint).counts) (omega arith)) in
        let m : Moment = moment one script (at n k s) hint in
        let next_one : Run S = ticking one script (at n k s) hint in
        let next_other : Run T = ticking other script (at n j t) m.counts in
        let rest : List Moment = take w (moments_from one script next_one hints) in
        let kept : g.behind ≤ b = g.kept (or-left m.began (list_any (λ m. m.began) rest) none) in
        now-or-later m.counts (list_any (λ m. m.counts) rest)
        (λ silent. let sooner : g.left < g.behind = g.sooner silent (and-left m.runs (list_all (λ m. m.runs) rest) runs) in
        soon hints w g.left (suc n) next_one.effects next_other.effects next_one.state next_other.state (omega arith) (omega arith) g.next (λ i d below. known (suc i) d (omega arith))
        (and-right m.runs (list_all (λ m. m.runs) rest) runs) (or-right m.began (list_any (λ m. m.began) rest) none))

    -- in a window, at whose first tick a handler may begin
    from-first : (hints : List Bool) (w b n k j : ℕ) (s : S) (t : T) → w ≡ weight → w ≤ length hints → R b s t → KnownFrom (at n k s) (at n j t) hints
        → is_one_handler (take w (ms n k s hints)) ≡ true → list_any (λ m. m.counts) (take w (ms n k s hints)) ≡ true
    from-first hints zero b n k j s t e fits r known one_handler = let small : b < weight = tied.small b s t r in absurd (omega arith)
    from-first [] (suc w) b n k j s t e fits r known one_handler = absurd (omega arith)
    from-first (hint ∷ hints) (suc w) b n k j s t e fits r known one_handler =
        let g : Goes b n k j s t hint = goes b n k j s t hint r (known 0 (moment other script (at n j t) (moment one script (at n k s) hint).counts) (omega arith)) in
        let m : Moment = moment one script (at n k s) hint in
        let next_one : Run S = ticking one script (at n k s) hint in
        let next_other : Run T = ticking other script (at n j t) m.counts in
        let rest : List Moment = take w (moments_from one script next_one hints) in
        let runs : (m.runs && list_all (λ m. m.runs) rest) ≡ true = and-left (m.runs && list_all (λ m. m.runs) rest) (not (list_any (λ m. m.began) rest)) one_handler in
        let none : list_any (λ m. m.began) rest ≡ false = not-true (list_any (λ m. m.began) rest) (and-right (m.runs && list_all (λ m. m.runs) rest) (not (list_any (λ m. m.began) rest)) one_handler) in
        let small : g.behind < weight = g.small in
        now-or-later m.counts (list_any (λ m. m.counts) rest)
        (λ silent. let sooner : g.left < g.behind = g.sooner silent (and-left m.runs (list_all (λ m. m.runs) rest) runs) in
        soon hints w g.left (suc n) next_one.effects next_other.effects next_one.state next_other.state (omega arith) (omega arith) g.next (λ i d below. known (suc i) d (omega arith))
        (and-right m.runs (list_all (λ m. m.runs) rest) runs) none)

    keeps : (first : ℕ) (hints : List Bool) (b n k j : ℕ) (s : S) (t : T) → first + weight ≤ length hints → R b s t → KnownFrom (at n k s) (at n j t) hints
        → is_one_handler (window weight first (ms n k s hints)) ≡ true → list_any (λ m. m.counts) (window weight first (ms n k s hints)) ≡ true
    keeps zero hints b n k j s t fits r known one_handler = from-first hints weight b n k j s t refl (omega arith) r known one_handler
    keeps (suc first) [] b n k j s t fits r known one_handler = absurd (omega arith)
    keeps (suc first) (hint ∷ hints) b n k j s t fits r known one_handler =
        let g : Goes b n k j s t hint = goes b n k j s t hint r (known 0 (moment other script (at n j t) (moment one script (at n k s) hint).counts) (omega arith)) in
        let next_one : Run S = ticking one script (at n k s) hint in
        let next_other : Run T = ticking other script (at n j t) (moment one script (at n k s) hint).counts in
        keeps first hints g.left (suc n) next_one.effects next_other.effects next_one.state next_other.state (omega arith) g.next (λ i d below. known (suc i) d (omega arith)) one_handler

    -- The first system's run keeps the pace, up to the call of an unknown native.
    pub paced : (b : ℕ) (s : S) (t : T) (hints : List Bool) → R b s t → CallsKnown Known (moments other t script (beats_of one s script hints)) → Paced weight (moments one s script hints)
    paced b s t hints r known = record {
      rests = all-rest hints b 0 0 0 s t r known;
      keeps_pace = λ first fits one_handler. let many : length (moments one s script hints) ≡ length hints = moments-many hints (begin s) in
          keeps first hints b 0 0 0 s t (omega arith) r known one_handler;
    }
