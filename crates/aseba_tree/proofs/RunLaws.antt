-- The runs of two systems that are tied go alike.
use Rattle.std.proofs.Common.{◌≡◌, ℕ, suc, ◌+◌, ◌||◌, if◌then◌else◌, length, count_by, Bool, true, false, List, [], ◌∷◌, ◌++◌, map, Option, None, Some, refl, sym, ap, ◌∙◌, arith, All}
use Rattle.std.specs.Prelude.{ℤ, option_map, option_to_list}
use Rattle.std.proofs.lemmas.List.{map-append}
use Rattle.std.proofs.lemmas.List.Sums.{sum_by-cons}
use Rattle.aseba_tree.specs.Code.{Name}
use Rattle.aseba_tree.specs.Line.{Event, Report, report_by, Line, told, var, end, line_by}
use Rattle.aseba_tree.specs.Script.{Action, arrives, sets, Script, actions_at}
use Rattle.aseba_tree.specs.Run.{Meeting, unheard, refused, kills, begins, meeting_reports, is_begun, Ticked, System, Run, begin, counted, acting, action_reports, begins_by, all_acting, all_reports, heard, reached, acted, ticking, moment, all_ticking, lines_from, moments_from, beats_from, ending, run_of, moments, beats_of, CallsKnown}
use Rattle.aseba_tree.specs.Tied.{meeting_by, MetAlike, TickedAlike, RunsAlike, Tied}

-- Lines, and meetings, told alike

map-told : (f : ℕ → ℕ) (t k j : ℕ) (reports others : List Report) → k ≡ j → map (report_by f) reports ≡ others → map (line_by f) (map (told t k) reports) ≡ map (told t j) others
map-told f t k j reports others e h = each reports ∙ ap (map (told t k)) h ∙ ap (λ n. map (told t n) others) e
  where
    each : (xs : List Report) → map (line_by f) (map (told t k) xs) ≡ map (told t k) (map (report_by f) xs)
    each [] = refl
    each (x ∷ xs) = ap (λ rest. told t k (report_by f x) ∷ rest) (each xs)

listed-by : (f : ℕ → ℕ) (a b : Option Report) → option_map (report_by f) a ≡ b → map (report_by f) (option_to_list a) ≡ option_to_list b
listed-by f None b h = ap option_to_list h
listed-by f (Some report) b h = ap option_to_list h

meeting-told : (f : ℕ → ℕ) (event : Event) (m : Meeting) → map (report_by f) (meeting_reports event m) ≡ meeting_reports event (meeting_by f m)
meeting-told f event unheard = refl
meeting-told f event refused = refl
meeting-told f event (kills line) = refl
meeting-told f event begins = refl

meeting-begun : (f : ℕ → ℕ) (m : Meeting) → is_begun m ≡ is_begun (meeting_by f m)
meeting-begun f unheard = refl
meeting-begun f refused = refl
meeting-begun f (kills line) = refl
meeting-begun f begins = refl

pub vars-kept : (f : ℕ → ℕ) (vs : List (Name × List ℤ)) (t k : ℕ) → map (line_by f) (map (λ v. var v.0 v.1) vs ++ end t k ∷ []) ≡ map (λ v. var v.0 v.1) vs ++ end t k ∷ []
vars-kept f [] t k = refl
vars-kept f (v ∷ vs) t k = ap (λ rest. var v.0 v.1 ∷ rest) (vars-kept f vs t k)

-- a run at its ticks and effects
abbrev pub at : {S : Type 0} → ℕ → ℕ → S → Run S
at n k s = record { ticks = n; effects = k; state = s }

module _ {S : Type 0} {T : Type 0} (Good : Action → Type 0) (Known : Name → Type 0) (f : ℕ → ℕ) (one : System S) (other : System T) (R : S → T → Type 0) (tied : Tied Good Known f one other R) where
  -- Actions

  record ActedAlike (s s_too : S) (t t_too : T) (told_one told_other : List Report) (heard_one heard_other : Bool) : Type 0 where
    keeps : R s_too t_too
    tells : map (report_by f) told_one ≡ told_other
    hears : heard_one ≡ heard_other

  abbrev ActsAlike : S → T → List Action → Type 0
  ActsAlike s t actions = ActedAlike s (all_acting one s actions) t (all_acting other t actions) (all_reports one s actions) (all_reports other t actions) (heard one s actions) (heard other t actions)

  act : (s : S) (t : T) (action : Action) → Good action → R s t
      → ActedAlike s (acting one s action) t (acting other t action) (action_reports one s action) (action_reports other t action) (begins_by one s action) (begins_by other t action)
  act s t (arrives event source args) good r =
      let met : MetAlike f R (one.arrive event source args s) (other.arrive event source args t) = tied.meets event source args s t good r in
      let m : Meeting = (one.arrive event source args s).meeting in
      record {
        keeps = met.tied;
        tells = meeting-told f event m ∙ ap (meeting_reports event) met.meeting;
        hears = meeting-begun f m ∙ ap is_begun met.meeting;
      }
  act s t (sets name first values) good r = record { keeps = tied.writes name first values s t good r; tells = refl; hears = refl }

  acts : (s : S) (t : T) (actions : List Action) → All Good actions → R s t → ActsAlike s t actions
  acts s t [] good r = record { keeps = r; tells = refl; hears = refl }
  acts s t (action ∷ actions) good r =
      let now : ActedAlike s (acting one s action) t (acting other t action) (action_reports one s action) (action_reports other t action) (begins_by one s action) (begins_by other t action) =
      act s t action (good 0 action (omega arith)) r in
      let rest : ActsAlike (acting one s action) (acting other t action) actions = acts (acting one s action) (acting other t action) actions (λ k d below. good (suc k) d (omega arith)) now.keeps in
      record {
        keeps = rest.keeps;
        tells = map-append (report_by f) (action_reports one s action) (all_reports one (acting one s action) actions) ∙ ap (λ x. x ++ map (report_by f) (all_reports one (acting one s action) actions)) now.tells ∙ ap (λ x. action_reports other t action ++ x) rest.tells;
        hears = ap (λ x. x || heard one (acting one s action) actions) now.hears ∙ ap (λ x. begins_by other t action || x) rest.hears;
      }

  reached-alike : (s : S) (t : T) (x y : Bool) → x ≡ y → (x ≡ true → one.calls s ≡ other.calls t) → reached one x s ≡ reached other y t
  reached-alike s t x y e h = by_cases x refl ∙ ap (λ z. reached other z t) e
    where
      by_cases : (z : Bool) → x ≡ z → reached one x s ≡ reached other x t
      by_cases true is = ap (λ z. reached one z s) is ∙ h is ∙ sym (ap (λ z. reached other z t) is)
      by_cases false is = ap (λ z. reached one z s) is ∙ sym (ap (λ z. reached other z t) is)

  module _ (script : Script) (good : (n : ℕ) → All Good (actions_at script n)) where
    -- the runs from a moment on
    record GoAlike (r : Run S) (c : Run T) (hints : List Bool) : Type 0 where
      beats : beats_from other script c (beats_from one script r hints) ≡ beats_from one script r hints
      lines : map (line_by f) (lines_from one script r hints) ≡ lines_from other script c (beats_from one script r hints)
      same : moments_from one script r hints ≡ moments_from other script c (beats_from one script r hints)
      ticks : (all_ticking one script r hints).ticks ≡ (all_ticking other script c (beats_from one script r hints)).ticks
      effects : (all_ticking one script r hints).effects ≡ (all_ticking other script c (beats_from one script r hints)).effects
      end_tied : R (all_ticking one script r hints).state (all_ticking other script c (beats_from one script r hints)).state

    go : (hints : List Bool) (n k j : ℕ) (s : S) (t : T) → k ≡ j → R s t → CallsKnown Known (moments_from other script (at n j t) (beats_from one script (at n k s) hints))
        → GoAlike (at n k s) (at n j t) hints
    go [] n k j s t e r known = record { beats = refl; lines = refl; same = refl; ticks = refl; effects = e; end_tied = r }
    go (hint ∷ hints) n k j s t e r known =
        let actions : List Action = actions_at script n in
        let before : ActsAlike s t actions = acts s t actions (good n) r in
        let u : S = all_acting one s actions in
        let v : T = all_acting other t actions in
        let a : Ticked S = one.tick hint u in
        let b : Ticked T = other.tick a.counts v in
        let tick : TickedAlike f R a b = tied.ticks hint u v before.keeps (known 0 (moment other script (at n j t) a.counts) (omega arith)) in
        let more : counted a.counts k ≡ counted b.counts j = ap (λ x. counted x k) tick.counts ∙ ap (counted b.counts) e in
        let rest : GoAlike (at (suc n) (counted a.counts k) a.state) (at (suc n) (counted b.counts j) b.state) hints =
        go hints (suc n) (counted a.counts k) (counted b.counts j) a.state b.state more tick.tied (λ i d below. known (suc i) d (omega arith)) in
        let told_one : List Line = map (told n k) (all_reports one s actions) in
        let told_other : List Line = map (told n j) (all_reports other t actions) in
        let tells_one : List Line = map (told n (counted a.counts k)) (option_to_list a.report) in
        let tells_other : List Line = map (told n (counted b.counts j)) (option_to_list b.report) in
        let lines_one : List Line = lines_from one script (at (suc n) (counted a.counts k) a.state) hints in
        let first : map (line_by f) (told_one ++ tells_one) ≡ told_other ++ tells_other =
        map-append (line_by f) told_one tells_one ∙ ap (λ x. x ++ map (line_by f) tells_one) (map-told f n k j (all_reports one s actions) (all_reports other t actions) e before.tells)
        ∙ ap (λ x. told_other ++ x) (map-told f n (counted a.counts k) (counted b.counts j) (option_to_list a.report) (option_to_list b.report) more (listed-by f a.report b.report tick.report)) in
        let running : one.is_running u ≡ other.is_running v = tied.runs u v before.keeps in
        let called : reached one a.counts u ≡ reached other b.counts v = reached-alike u v a.counts b.counts tick.counts (λ counts. tied.calls hint u v before.keeps counts) in
        let here : moment one script (at n k s) hint ≡ moment other script (at n j t) a.counts =
        λ i. record { began = before.hears i; runs = running i; counts = tick.counts i; fails = tick.fails i; calls = called i } in
        record {
          beats = ap (λ x. x ∷ beats_from other script (at (suc n) (counted b.counts j) b.state) (beats_from one script (at (suc n) (counted a.counts k) a.state) hints)) (sym tick.counts)
              ∙ ap (λ x. a.counts ∷ x) rest.beats;
          lines = map-append (line_by f) (told_one ++ tells_one) lines_one ∙ ap (λ x. x ++ map (line_by f) lines_one) first ∙ ap (λ x. (told_other ++ tells_other) ++ x) rest.lines;
          same = ap (λ x. x ∷ moments_from one script (at (suc n) (counted a.counts k) a.state) hints) here ∙ ap (λ x. moment other script (at n j t) a.counts ∷ x) rest.same;
          ticks = rest.ticks;
          effects = rest.effects;
          end_tied = rest.end_tied;
        }

    -- Two systems that are tied have runs that go alike, up to the call of an unknown native.
    pub runs_alike : (s : S) (t : T) (hints : List Bool) → R s t → CallsKnown Known (moments other t script (beats_of one s script hints)) → RunsAlike f one other R s t script hints
    runs_alike s t hints r known =
        let all : GoAlike (begin s) (begin t) hints = go hints 0 0 0 s t refl r known in
        let last_one : Run S = run_of one s script hints in
        let last_other : Run T = run_of other t script (beats_of one s script hints) in
        let shown : one.shown last_one.state ≡ other.shown last_other.state = tied.shows last_one.state last_other.state all.end_tied in
        let ends : map (line_by f) (ending one last_one) ≡ ending other last_other =
        vars-kept f (one.shown last_one.state) last_one.ticks last_one.effects
        ∙ (λ i. map (λ v. var v.0 v.1) (shown i) ++ end (all.ticks i) (all.effects i) ∷ []) in
        record {
          beats = all.beats;
          lines = map-append (line_by f) (lines_from one script (begin s) hints) (ending one last_one) ∙ ap (λ x. x ++ map (line_by f) (ending one last_one)) all.lines
              ∙ ap (λ x. lines_from other script (begin t) (beats_of one s script hints) ++ x) ends;
          same_moments = all.same;
          ticks = all.ticks;
          effects = all.effects;
          tied = all.end_tied;
        }

-- Beats

module _ {S : Type 0} (system : System S) (script : Script) where
  -- A run has a beat for each tick.
  pub beats-many : (hints : List Bool) (run : Run S) → length (beats_from system script run hints) ≡ length hints
  beats-many [] run = refl
  beats-many (hint ∷ hints) run = ap suc (beats-many hints (ticking system script run hint))

  -- The effects that a run counts are its true beats.
  pub beats-counted : (hints : List Bool) (run : Run S)
      → (all_ticking system script run hints).effects ≡ run.effects + count_by (λ beat. beat) (beats_from system script run hints)
  beats-counted [] run = omega arith
  beats-counted (hint ∷ hints) run =
      let next : Run S = ticking system script run hint in
      let beat : Bool = (system.tick hint (acted system script run)).counts in
      let more : counted beat run.effects ≡ run.effects + (if beat then 1 else 0) = one-more beat run.effects in
      omega (arith, beats-counted hints next, more, sum_by-cons (λ (b : Bool). if b then 1 else 0) beat (beats_from system script next hints))
    where
      one-more : (b : Bool) (k : ℕ) → counted b k ≡ k + (if b then 1 else 0)
      one-more true k = omega arith
      one-more false k = omega arith
