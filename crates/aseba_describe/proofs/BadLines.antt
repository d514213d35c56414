-- A text spells one project or has one first bad line, and reading it comes to that.
use Rattle.std.proofs.Common.{◌≡◌, ℕ, suc, ◌+◌, ◌-◌, ◌<◌, ◌≤◌, Bool, true, false, nat_lt, List, [], ◌∷◌, ◌++◌, length, take, drop, Some, None, Result, Ok, Err, ◌⊎◌, inl, inr, refl, sym, ap, ◌∙◌, subst, arith, append_assoc, codes, map}
use Rattle.std.specs.Result.{IfOk, IfErr}
use Rattle.std.specs.Str.Lines.{lines}
use Rattle.std.proofs.lemmas.Bool.{eq-eqb}
use Rattle.std.proofs.lemmas.Grind.{common_steps}
use Rattle.std.proofs.lemmas.List.{take-append-drop, take-take, take_all}
use Rattle.aseba_tree.specs.declared.project.Project.{Project}
use Rattle.aseba_describe.specs.declared.entry.Entry.{Entry}
use Rattle.aseba_describe.specs.declared.entry.Entry.TheVariants as entry
use Rattle.aseba_describe.specs.declared.draft.Draft.{Draft}
use Rattle.aseba_describe.specs.declared.fault.ProjectError.{ProjectError}
use Rattle.aseba_describe.specs.declared.fault.ProjectError.TheVariants as error
use Rattle.aseba_describe.specs.declared.kind.Kind.{Kind}
use Rattle.aseba_describe.specs.declared.kind.Kind.TheVariants as kind
use Rattle.aseba_describe.specs.Kinds.{rank_of}
use Rattle.aseba_tree.specs.Tokens.{is_keyword}
use Rattle.aseba_describe.specs.Spelling.{entry_text}
use Rattle.aseba_describe.specs.Grammar.{ProjectLines, ProjectText, BeginsProject, IsBadLine, TellsLine, IsDecided}
use Rattle.aseba_describe.specs.Reading.{with_entry, empty_draft, project_of, read_from, GivesProject}
use Rattle.aseba_text.proofs.Options.{when_true, bind_some}
use Rattle.aseba_describe.proofs.EntryLaws.{PlainEntry}
use Rattle.aseba_describe.proofs.Folded.{taken, taken_front, taken_on, line_again, says_entries, Outcome, whole, short, stuck, outcome}
use Rattle.aseba_describe.proofs.Sound.{all_told, whole_said}
use Rattle.aseba_describe.proofs.Complete.{comes_to}

-- lines that were taken, with all needed lines, spell a project
spells : (rows : List (List ℕ)) (d : Draft) → taken empty_draft rows ≡ Some d → 5 ≤ rank_of d.next → ProjectLines rows (project_of d)
spells rows d h all =
    let s = says_entries rows empty_draft d h in
    let w = whole_said d s.said all (all_told s.said d s.each s.read) in
    record { said = s.spelled ∙ ap (map entry_text) w.spelled; plain = w.plain }

-- Lines can be added up to the last needed one.
pub record Completes (d : Draft) : Type 0 where
  pub more : List (List ℕ)
  pub end : Draft
  pub read : taken d more ≡ Some end
  pub whole : 5 ≤ rank_of end.next

from_five : (d : Draft) → 5 ≤ rank_of d.next → Completes d
from_five d h = record { more = []; end = d; read = refl; whole = h }

one_line : (d e : Draft) (x : Entry) → PlainEntry x → with_entry d x ≡ Some e → Completes e → Completes d
one_line d e x p h c = record {
  more = entry_text x ∷ c.more;
  end = c.end;
  read = bind_some _ _ e (line_again d x p ∙ h) ∙ c.read;
  whole = c.whole;
}

from_four : (d : Draft) → rank_of d.next ≡ 4 → Completes d
unfolding with_entry
from_four d h =
    one_line d (record d { next = kind.Variable; id = 1 }) (entry.Id 1) (omega arith, omega arith) (when_true _ _ (eq-eqb _ _ h)) (from_five _ (omega arith))

from_three : (d : Draft) → rank_of d.next ≡ 3 → Completes d
unfolding with_entry
from_three d h =
    one_line d (record d { next = kind.Id; stack = 1 }) (entry.Stack 1) (omega arith, omega arith) (when_true _ _ (eq-eqb _ _ h)) (from_four _ refl)

from_two : (d : Draft) → rank_of d.next ≡ 2 → Completes d
unfolding with_entry
from_two d h =
    one_line d (record d { next = kind.Stack; cells = 1; left = 1 }) (entry.Vars 1) (omega arith, omega arith) (when_true _ _ (eq-eqb _ _ h)) (from_three _ refl)

from_one : (d : Draft) → rank_of d.next ≡ 1 → Completes d
unfolding with_entry
from_one d h =
    one_line d (record d { next = kind.Vars; code = 4 }) (entry.Code 4) (omega arith, omega arith) (when_true _ _ (eq-eqb _ _ h)) (from_two _ refl)

from_zero : (d : Draft) → rank_of d.next ≡ 0 → Completes d
unfolding with_entry is_keyword
from_zero d h =
    one_line d (record d { next = kind.Code; name = codes "a" }) (entry.Node (codes "a")) refl (when_true _ _ (eq-eqb _ _ h)) (from_one _ refl)

completes : (k : Kind) (d : Draft) → d.next ≡ k → Completes d
completes kind.Node d h = from_zero d (ap rank_of h)
completes kind.Code d h = from_one d (ap rank_of h)
completes kind.Vars d h = from_two d (ap rank_of h)
completes kind.Stack d h = from_three d (ap rank_of h)
completes kind.Id d h = from_four d (ap rank_of h)
completes kind.Variable d h = let k = ap rank_of h in from_five d (omega arith)
completes kind.Local d h = let k = ap rank_of h in from_five d (omega arith)
completes kind.Native d h = let k = ap rank_of h in from_five d (omega arith)
completes kind.Event d h = let k = ap rank_of h in from_five d (omega arith)
completes kind.Const d h = let k = ap rank_of h in from_five d (omega arith)

-- lines that were taken begin a project, and lines that begin a project are taken
begins : (rows : List (List ℕ)) (d : Draft) → taken empty_draft rows ≡ Some d → BeginsProject rows
begins rows d h =
    let c = completes d.next d refl in
    (c.more, project_of c.end, spells (rows ++ c.more) c.end (taken_on empty_draft d rows c.more h ∙ c.read) c.whole)

not_begun : (rows : List (List ℕ)) → taken empty_draft rows ≡ None → BeginsProject rows → ⊥
not_begun rows h b =
    let c = comes_to (rows ++ b.0) b.1 b.2 in
    let none = taken_front empty_draft rows b.0 h in
    let some = c.read in
    absurd cc

bad_at : (rows : List (List ℕ)) (k : ℕ) (d : Draft) → suc k ≤ length rows → taken empty_draft (take k rows) ≡ Some d → taken empty_draft (take (suc k) rows) ≡ None → IsBadLine rows (suc k)
bad_at rows k d lt h none =
    let one : k ≡ suc k - 1 = omega arith in
    record {
      least = omega arith;
      most = omega arith;
      before = subst (λ j. BeginsProject (take j rows)) one (begins (take k rows) d h);
      breaks = λ le b. not_begun (take (suc k) rows) none b;
      lacks = λ past. absurd (omega arith);
    }

bad_behind : (rows : List (List ℕ)) (d : Draft) → taken empty_draft rows ≡ Some d → rank_of d.next < 5 → IsBadLine rows (suc (length rows))
bad_behind rows d h lt =
    let all : length rows ≤ suc (length rows) - 1 = omega arith in
    record {
      least = omega arith;
      most = omega arith;
      before = subst BeginsProject (sym (take_all _ rows all)) (begins rows d h);
      breaks = λ le. absurd (omega arith);
      lacks = λ past p lines.
          let c = comes_to rows p lines in
          let same : Some c.known ≡ Some d = sym c.read ∙ h in
          let k : c.known ≡ d = cc in
          let n : rank_of c.known.next ≡ rank_of d.next = ap (λ x. rank_of x.next) k in
          let w = c.whole in
          omega arith;
    }

-- what reading gives is a project of the text or its bad line
found : (text : List ℕ) → ((p : Project) × (read_from 1 empty_draft (lines text) ≡ Ok p) × ProjectText text p)
    ⊎ ((n : ℕ) × (read_from 1 empty_draft (lines text) ≡ Err n) × IsBadLine (lines text) n)
found text = by (outcome (lines text) 1 empty_draft)
  where
    by : Outcome 1 empty_draft (lines text) → ((p : Project) × (read_from 1 empty_draft (lines text) ≡ Ok p) × ProjectText text p)
        ⊎ ((n : ℕ) × (read_from 1 empty_draft (lines text) ≡ Err n) × IsBadLine (lines text) n)
    by (whole d h all r) = inl (project_of d, r, spells (lines text) d h all)
    by (short d h lt r) =
        let one : 1 + length (lines text) ≡ suc (length (lines text)) = omega arith in
        inr (suc (length (lines text)), r ∙ ap (λ n. Err n) one, bad_behind (lines text) d h lt)
    by (stuck k d lt h none r) =
        let one : 1 + k ≡ suc k = omega arith in
        inr (suc k, r ∙ ap (λ n. Err n) one, bad_at (lines text) k d lt h none)

one_project : (rows : List (List ℕ)) (p q : Project) → ProjectLines rows p → ProjectLines rows q → p ≡ q
one_project rows p q h k =
    let a = comes_to rows p h in
    let b = comes_to rows q k in
    let same : Some a.known ≡ Some b.known = sym a.read ∙ b.read in
    let known : a.known ≡ b.known = cc in
    sym a.same ∙ ap project_of known ∙ b.same

-- fewer lines begin a project too
shorter : (rows : List (List ℕ)) (m k : ℕ) → m ≤ k → BeginsProject (take k rows) → BeginsProject (take m rows)
shorter rows m k le b =
    let front : take m rows ++ drop m (take k rows) ≡ take k rows =
    ap (λ l. l ++ drop m (take k rows)) (sym (take-take m k rows le)) ∙ take-append-drop m (take k rows) in (
      drop m (take k rows) ++ b.0,
      b.1,
      subst (λ l. ProjectLines l b.1) (ap (λ l. l ++ b.0) (sym front) ∙ append_assoc (take m rows) (drop m (take k rows)) b.0) b.2,
    )

no_earlier : (rows : List (List ℕ)) (m n : ℕ) → m < n → IsBadLine rows m → IsBadLine rows n → ⊥
no_earlier rows m n lt a b =
    let within : m ≤ length rows = omega (arith, b.most) in
    a.breaks within (shorter rows m (n - 1) (omega arith) b.before)

one_bad : (rows : List (List ℕ)) (m n : ℕ) → IsBadLine rows m → IsBadLine rows n → m ≡ n
one_bad rows m n a b = by (nat_lt m n) (nat_lt n m) refl refl
  where
    below : (i j : ℕ) → nat_lt i j ≡ true → i < j
    below i j h = grind (arith, common_steps)

    above : (i j : ℕ) → nat_lt i j ≡ false → j ≤ i
    above i j h = grind (arith, common_steps)

    by : (s t : Bool) → nat_lt m n ≡ s → nat_lt n m ≡ t → m ≡ n
    by true t h k = absurd (no_earlier rows m n (below m n h) a b)
    by false true h k = absurd (no_earlier rows n m (below n m k) b a)
    by false false h k = omega (arith, above m n h, above n m k)

never_both : (rows : List (List ℕ)) (p : Project) (n : ℕ) → ProjectLines rows p → IsBadLine rows n → ⊥
never_both rows p n h b = by (nat_lt (length rows) n) refl
  where
    below : (i j : ℕ) → nat_lt i j ≡ true → i < j
    below i j h = grind (arith, common_steps)

    above : (i j : ℕ) → nat_lt i j ≡ false → j ≤ i
    above i j h = grind (arith, common_steps)

    by : (t : Bool) → nat_lt (length rows) n ≡ t → ⊥
    by true k = b.lacks (below _ _ k) p h
    by false k = b.breaks (above _ _ k) (drop n rows, p, subst (λ l. ProjectLines l p) (sym (take-append-drop n rows)) h)

pub decided : (text : List ℕ) → IsDecided text
decided text = record {
  some = elim (found text) [ inl f ↦ inl (f.0, f.2) | inr f ↦ inr (f.0, f.2) ];
  one_project = one_project (lines text);
  one_line = one_bad (lines text);
  never_both = never_both (lines text);
}

-- what reading from a first draft gives
pub gives_project : (text : List ℕ) (d : Draft) (r : Result Project ProjectError) → d ≡ empty_draft → GivesProject r (read_from 1 d (lines text))
    → IfOk r (λ p. ProjectText text p)
gives_project text d (Ok p) e g = by (found text)
  where
    by : ((q : Project) × (read_from 1 empty_draft (lines text) ≡ Ok q) × ProjectText text q)
        ⊎ ((n : ℕ) × (read_from 1 empty_draft (lines text) ≡ Err n) × IsBadLine (lines text) n) → ProjectText text p
    by (inl f) =
        let same : Ok f.0 ≡ Ok p = sym f.1 ∙ ap (λ x. read_from 1 x (lines text)) (sym e) ∙ g in
        let k : f.0 ≡ p = cc in
        subst (ProjectText text) k f.2
    by (inr f) =
        let same : Err f.0 ≡ Ok p = sym f.1 ∙ ap (λ x. read_from 1 x (lines text)) (sym e) ∙ g in
        absurd cc
gives_project text d (Err x) e g = tt

pub tells_line : (text : List ℕ) (d : Draft) (r : Result Project ProjectError) → d ≡ empty_draft → GivesProject r (read_from 1 d (lines text))
    → IfErr r (λ e. TellsLine text e)
tells_line text d (Ok p) e g = tt
tells_line text d (Err error.Mem) e g = tt
tells_line text d (Err (error.Line n)) e g = by (found text)
  where
    by : ((q : Project) × (read_from 1 empty_draft (lines text) ≡ Ok q) × ProjectText text q)
        ⊎ ((m : ℕ) × (read_from 1 empty_draft (lines text) ≡ Err m) × IsBadLine (lines text) m) → IsBadLine (lines text) n
    by (inl f) =
        let same : Ok f.0 ≡ Err n = sym f.1 ∙ ap (λ x. read_from 1 x (lines text)) (sym e) ∙ g in
        absurd cc
    by (inr f) =
        let same : Err f.0 ≡ Err n = sym f.1 ∙ ap (λ x. read_from 1 x (lines text)) (sym e) ∙ g in
        let k : f.0 ≡ n = cc in
        subst (IsBadLine (lines text)) k f.2
