-- A machine, what it runs, and what that was made of: two ties, one behind the other.
use Rattle.std.proofs.Common.{◌≡◌, ℕ, zero, suc, ◌≤◌, ◌||◌, not, Bool, true, false, List, [], ◌∷◌, map, take, drop, refl, sym, ap, ◌∙◌, subst, arith, true≢false, All}
use Rattle.std.specs.List.{list_all, list_any}
use Rattle.aseba_tree.specs.Code.{Name}
use Rattle.aseba_tree.specs.Line.{Report, report_by, Line, line_by, began, ignored, dropped, killed, was_set, sent, division, bounds, told, var, end}
use Rattle.aseba_tree.specs.Script.{Action, Script, actions_at}
use Rattle.aseba_tree.specs.Run.{System, Run, begin, Moment, all_acting, ticking, beats_from, run_of, lines_of, moments, beats_of, Paced, is_one_handler, CallsKnown}
use Rattle.aseba_tree.specs.Tied.{RunsAlike, Tied, TiedWithin, Somehow, RunsAsMeant}
use Rattle.aseba_tree.proofs.RunLaws.{runs_alike}
use Rattle.aseba_tree.proofs.PaceLaws.{and-left, and-right, not-true, tied_somehow, paced}

-- Greater weights

-- a window of one handler has one in each shorter window
all-shorter : (p : Moment → Bool) (m n : ℕ) (ms : List Moment) → m ≤ n → list_all p (take n ms) ≡ true → list_all p (take m ms) ≡ true
all-shorter p zero n ms h e = refl
all-shorter p (suc m) zero ms h e = absurd (let no : ⊥ = omega arith in no)
all-shorter p (suc m) (suc n) [] h e = refl
all-shorter p (suc m) (suc n) (x ∷ ms) h e =
    let deeper = all-shorter p m n ms (omega arith) (and-right (p x) (list_all p (take n ms)) e) in
    rw (and-left (p x) (list_all p (take n ms)) e, deeper) refl

any-longer : (p : Moment → Bool) (m n : ℕ) (ms : List Moment) → m ≤ n → list_any p (take m ms) ≡ true → list_any p (take n ms) ≡ true
any-longer p zero n ms h e = absurd (true≢false (sym e))
any-longer p (suc m) zero ms h e = absurd (let no : ⊥ = omega arith in no)
any-longer p (suc m) (suc n) [] h e = e
any-longer p (suc m) (suc n) (x ∷ ms) h e = pick (any-longer p m n ms (omega arith)) (p x) e
  where
    pick : (list_any p (take m ms) ≡ true → list_any p (take n ms) ≡ true) → (b : Bool) → (b || list_any p (take m ms)) ≡ true → (b || list_any p (take n ms)) ≡ true
    pick deeper true e = refl
    pick deeper false e = deeper e

none-shorter : (p : Moment → Bool) (m n : ℕ) (ms : List Moment) → m ≤ n → list_any p (take n ms) ≡ false → list_any p (take m ms) ≡ false
none-shorter p m n ms h e = pick (list_any p (take m ms)) refl
  where
    pick : (b : Bool) → list_any p (take m ms) ≡ b → list_any p (take m ms) ≡ false
    pick false t = t
    pick true t = let longer = any-longer p m n ms h t in cc

drop-shorter : (p : Moment → Bool) (m n : ℕ) (ms : List Moment) → m ≤ n → list_any p (drop 1 (take n ms)) ≡ false → list_any p (drop 1 (take m ms)) ≡ false
drop-shorter p zero n ms h e = refl
drop-shorter p (suc m) zero ms h e = absurd (let no : ⊥ = omega arith in no)
drop-shorter p (suc m) (suc n) [] h e = refl
drop-shorter p (suc m) (suc n) (x ∷ ms) h e = none-shorter p m n ms (omega arith) e

one-shorter : (m n : ℕ) (ms : List Moment) → m ≤ n → is_one_handler (take n ms) ≡ true → is_one_handler (take m ms) ≡ true
one-shorter m n ms h e =
    let runs = list_all (λ x. x.runs) (take n ms) in
    let begun = list_any (λ x. x.began) (drop 1 (take n ms)) in
    rw (all-shorter (λ x. x.runs) m n ms h (and-left runs (not begun) e), drop-shorter (λ x. x.began) m n ms h (not-true begun (and-right runs (not begun) e))) refl

-- What keeps a pace keeps a slower one.
pub paced-slower : (less more : ℕ) (ms : List Moment) → less ≤ more → Paced less ms → Paced more ms
paced-slower less more ms h quick = record {
  rests = quick.rests;
  keeps_pace = λ first fits one_handler.
      any-longer (λ x. x.counts) less more (drop first ms) h (quick.keeps_pace first (omega arith) (one-shorter less more (drop first ms) h one_handler));
}

-- Systems that do as they are told

module _ {S : Type 0} (system : System S) (obeys : (beat : Bool) (s : S) → (system.tick beat s).counts ≡ beat) where
  beats-from-told : (script : Script) (beats : List Bool) (run : Run S) → beats_from system script run beats ≡ beats
  beats-from-told script [] run = refl
  beats-from-told script (beat ∷ beats) run =
      ap (λ b. b ∷ beats_from system script (ticking system script run beat) beats) (obeys beat (all_acting system run.state (actions_at script run.ticks)))
      ∙ ap (λ bs. beat ∷ bs) (beats-from-told script beats (ticking system script run beat))

  -- A system that has its effects exactly where it is told to has them there.
  pub beats-told : (s : S) (script : Script) (beats : List Bool) → beats_of system s script beats ≡ beats
  beats-told s script beats = beats-from-told script beats (begin s)

-- Lines that are left as they are

pub report-left : (report : Report) → report_by (λ line. line) report ≡ report
report-left (began e) = refl
report-left (ignored e) = refl
report-left (dropped e) = refl
report-left (killed line) = refl
report-left (was_set name) = refl
report-left (sent e cells) = refl
report-left (division line) = refl
report-left (bounds line size index) = refl

pub lines-left : (lines : List Line) → map (line_by (λ line. line)) lines ≡ lines
lines-left [] = refl
lines-left (told t k report ∷ lines) = λ i. told t k (report-left report i) ∷ lines-left lines i
lines-left (var name cells ∷ lines) = ap (λ rest. var name cells ∷ rest) (lines-left lines)
lines-left (end t k ∷ lines) = ap (λ rest. end t k ∷ rest) (lines-left lines)

-- Three systems

module _ {S : Type 0} {T : Type 0} {U : Type 0} (Good : Action → Type 0) (Known : Name → Type 0) (f : ℕ → ℕ) (one : System S) (two : System T) (three : System U)
    (less weight : ℕ) (R : ℕ → S → T → Type 0) (Q : T → U → Type 0) (tied : TiedWithin Good Known f one two less R) (light : less ≤ weight)
    (tied_too : Tied Good Known (λ line. line) two three Q) (obeys : (beat : Bool) (t : T) → (two.tick beat t).counts ≡ beat) where
  -- Where the first paces and the second does as it is told, the first runs as the third means, up to the call of an unknown native.
  pub meant : (script : Script) → ((n : ℕ) → All Good (actions_at script n)) → (b : ℕ) (s : S) (t : T) (u : U) (hints : List Bool) → R b s t → Q t u
      → CallsKnown Known (moments three u script (beats_of one s script hints)) → RunsAsMeant f weight one two three (Somehow R) Q s t u script hints
  meant script good b s t u hints r q known =
      let beats : List Bool = beats_of one s script hints in
      let same : beats_of two t script beats ≡ beats = beats-told two obeys t script beats in
      let second : RunsAlike (λ line. line) two three Q t u script beats =
      runs_alike Good Known (λ line. line) two three Q tied_too script good t u beats q (subst (λ bs. CallsKnown Known (moments three u script bs)) (sym same) known) in
      let alike_too : moments two t script beats ≡ moments three u script beats = second.same_moments ∙ ap (moments three u script) same in
      let known_too : CallsKnown Known (moments two t script beats) = subst (CallsKnown Known) (sym alike_too) known in
      let first : RunsAlike f one two (Somehow R) s t script hints = runs_alike Good Known f one two (Somehow R) (tied_somehow Good Known f one two less R tied) script good s t hints (b, r) known_too in
      let alike : moments one s script hints ≡ moments three u script beats = first.same_moments ∙ alike_too in
      record {
        lines = first.lines ∙ sym (lines-left (lines_of two t script beats)) ∙ second.lines ∙ ap (lines_of three u script) same;
        same_moments = alike;
        ticks = first.ticks ∙ second.ticks ∙ ap (λ bs. (run_of three u script bs).ticks) same;
        effects = first.effects ∙ second.effects ∙ ap (λ bs. (run_of three u script bs).effects) same;
        paced = subst (Paced weight) alike (paced-slower less weight (moments one s script hints) light (paced Good Known f one two less R tied script good b s t hints r known_too));
        first_tied = first.tied;
        last_tied = subst (λ bs. Q (run_of two t script beats).state (run_of three u script bs).state) same second.tied;
      }
