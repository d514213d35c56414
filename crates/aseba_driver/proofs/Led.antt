-- A run of any system with a script: entries whose time has passed, ticks without an entry, and an entry at its time.
use Rattle.std.proofs.Common.{◌≡◌, ℕ, zero, suc, ◌+◌, ◌≤◌, ◌<◌, ◌==◌, Bool, true, false, List, [], ◌∷◌, ◌++◌, map, filter, refl, sym, ap, ◌∙◌, append_assoc, zero-add, cond, arith}
use Rattle.std.specs.Prelude.{option_to_list}
use Rattle.std.proofs.lemmas.List.{map-append}
use Rattle.std.proofs.lemmas.Bool.{eqb-true}
use Rattle.aseba_text.proofs.Options.{and_takes}
use Rattle.aseba_text.proofs.CellLaws.{leb_to}
use Rattle.aseba_tree.specs.Line.{Line, told}
use Rattle.aseba_tree.specs.Script.{Action, Script, Entry, actions_at}
use Rattle.aseba_tree.specs.Run.{Ticked, System, Run, counted, acting, action_reports, all_acting, all_reports, ticks, all_ticking, lines_from}
use Rattle.aseba_driver.specs.Grammar.{never_fall}

-- Actions at a time

is_now : (a b : ℕ) → a ≡ b → (a == b) ≡ true
is_now a b e = grind arith

is_other : (a b : ℕ) → a < b → (a == b) ≡ false
is_other a b h = by (a == b) refl
  where
    by : (t : Bool) → (a == b) ≡ t → t ≡ false
    by true e = let same : a ≡ b = eqb-true a b e in absurd (omega arith)
    by false e = refl

is_other_too : (a b : ℕ) → b < a → (a == b) ≡ false
is_other_too a b h = by (a == b) refl
  where
    by : (t : Bool) → (a == b) ≡ t → t ≡ false
    by true e = let same : a ≡ b = eqb-true a b e in absurd (omega arith)
    by false e = refl

abbrev pick : Bool → Entry → Script → Script
pick t e es = cond t (e ∷ es) es

abbrev pub at_time : ℕ → Entry → Bool
at_time tick = λ e. e.time == tick

abbrev action : Entry → Action
action = λ e. e.action

pub now_first : (e : Entry) (rest : Script) (t : ℕ) → e.time ≡ t → actions_at (e ∷ rest) t ≡ e.action ∷ actions_at rest t
now_first e rest t h = ap (λ b. map action (pick b e (filter (at_time t) rest))) (is_now e.time t h)

pub later_first : (e : Entry) (rest : Script) (t : ℕ) → e.time < t → actions_at (e ∷ rest) t ≡ actions_at rest t
later_first e rest t h = ap (λ b. map action (pick b e (filter (at_time t) rest))) (is_other e.time t h)

earlier_first : (e : Entry) (rest : Script) (t : ℕ) → t < e.time → actions_at (e ∷ rest) t ≡ actions_at rest t
earlier_first e rest t h = ap (λ b. map action (pick b e (filter (at_time t) rest))) (is_other_too e.time t h)

-- no entry of times that never fall from one on is earlier
pub none_before : (time : ℕ) (script : Script) (t : ℕ) → never_fall time (map (λ e. e.time) script) ≡ true → t < time → actions_at script t ≡ []
none_before time [] t order h = refl
none_before time (e ∷ es) t order h =
    let k = and_takes _ _ order in
    let le : time ≤ e.time = leb_to time e.time k.0 in
    earlier_first e es t (omega arith) ∙ none_before e.time es t k.1 (omega arith)

-- Runs

abbrev pub at : {S : Type 0} → ℕ → ℕ → S → Run S
at t k s = record { ticks = t; effects = k; state = s }

-- the lines of so many ticks, and the run behind them
abbrev pub Told : Type 0 → Type 0
Told S = List Line × Run S

abbrev pub front : {S : Type 0} → List Line → Told S → Told S
front lines p = (lines ++ p.0, p.1)

front_front : {S : Type 0} (one two : List Line) (p : Told S) → front one (front two p) ≡ front (one ++ two) p
front_front one two p = ap (λ l. (l, p.1)) (sym (append_assoc one two p.0))

module _ {S : Type 0} (system : System S) where
  abbrev pub from : Script → ℕ → Run S → Told S
  from script n run = (lines_from system script run (ticks n), all_ticking system script run (ticks n))

  -- the next tick with these actions before it
  abbrev after : ℕ → ℕ → S → List Action → Ticked S
  after t k s actions = system.tick false (all_acting system s actions)

  abbrev goes : ℕ → ℕ → S → List Action → Run S
  goes t k s actions = record { ticks = suc t; effects = counted (after t k s actions).counts k; state = (after t k s actions).state }

  abbrev tells : ℕ → ℕ → S → List Action → List Line
  tells t k s actions = map (told t k) (all_reports system s actions) ++ map (told t (counted (after t k s actions).counts k)) (option_to_list (after t k s actions).report)

  one_tick : (script : Script) (n t k : ℕ) (s : S) → from script (suc n) (at t k s) ≡ front (tells t k s (actions_at script t)) (from script n (goes t k s (actions_at script t)))
  one_tick script n t k s = refl

  -- scripts that do the same before the ticks to come
  pub same : (n t k : ℕ) (s : S) (one other : Script) → ((tick : ℕ) → t ≤ tick → tick < t + n → actions_at one tick ≡ actions_at other tick) → from one n (at t k s) ≡ from other n (at t k s)
  same zero t k s one other h = refl
  same (suc n) t k s one other h =
      let here : actions_at one t ≡ actions_at other t = h t (omega arith) (omega arith) in
      ap (λ actions. front (tells t k s actions) (from one n (goes t k s actions))) here
      ∙ ap (front (tells t k s (actions_at other t)))
      (same n (suc t) (goes t k s (actions_at other t)).effects (goes t k s (actions_at other t)).state one other (λ tick a b. h tick (omega arith) (omega arith)))

  -- ticks without an entry, and then others
  pub waits : (d n t k : ℕ) (s : S) (script : Script) → ((tick : ℕ) → t ≤ tick → tick < t + d → actions_at script tick ≡ [])
      → from script (d + n) (at t k s) ≡ front (lines_from system [] (at t k s) (ticks d)) (from script n (all_ticking system [] (at t k s) (ticks d)))
  waits zero n t k s script h = ap (λ m. from script m (at t k s)) (zero-add n)
  waits (suc d) n t k s script h =
      let more : suc d + n ≡ suc (d + n) = omega arith in
      let none : actions_at script t ≡ [] = h t (omega arith) (omega arith) in
      let next : Run S = goes t k s [] in
      ap (λ m. from script m (at t k s)) more
      ∙ ap (λ actions. front (tells t k s actions) (from script (d + n) (goes t k s actions))) none
      ∙ ap (front (tells t k s [])) (waits d n (suc t) next.effects next.state script (λ tick a b. h tick (omega arith) (omega arith)))
      ∙ front_front (tells t k s []) (lines_from system [] next (ticks d)) (from script n (all_ticking system [] next (ticks d)))

  -- an entry at its time
  pub acts : (n t k : ℕ) (s : S) (e : Entry) (rest : Script) → e.time ≡ t
      → from (e ∷ rest) (suc n) (at t k s) ≡ front (map (told t k) (action_reports system s e.action)) (from rest (suc n) (at t k (acting system s e.action)))
  acts n t k s e rest now =
      let others : List Action = actions_at rest t in
      let all : List Action = e.action ∷ others in
      let next : Run S = goes t k s all in
      let told_first : List Line = map (told t k) (action_reports system s e.action) in
      let told_others : List Line = map (told t k) (all_reports system (acting system s e.action) others) in
      let told_tick : List Line = map (told t next.effects) (option_to_list (after t k s all).report) in
      ap (λ actions. front (tells t k s actions) (from (e ∷ rest) n (goes t k s actions))) (now_first e rest t now)
      ∙ ap (front (tells t k s all)) (same n (suc t) next.effects next.state (e ∷ rest) rest (λ tick a b. later_first e rest tick (omega (arith, now))))
      ∙ ap (λ l. front (l ++ told_tick) (from rest n next)) (map-append (told t k) (action_reports system s e.action) (all_reports system (acting system s e.action) others))
      ∙ ap (λ l. front l (from rest n next)) (append_assoc told_first told_others told_tick)
      ∙ sym (front_front told_first (told_others ++ told_tick) (from rest n next))
