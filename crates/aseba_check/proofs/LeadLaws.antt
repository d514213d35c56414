-- What calls lead to, and what they don't, by names that are marked.
use Rattle.std.proofs.Common.{◌≡◌, refl, sym, ◌∙◌, ap, subst, ℕ, zero, suc, ◌+◌, ◌-◌, ◌≤◌, ◌<◌, Bool, true, false, cond, List, [], ◌∷◌, length, map, Option, Some, None, arith, ◌⊎◌, inl, inr}
use Rattle.std.specs.Prelude.{◌&&◌, ◌||◌, not, bytes_eq, is_some, slice_get}
use Rattle.std.specs.List.{list_any}
use Rattle.std.proofs.lemmas.Slice.Eq.{bytes_eq-Decides}
use Rattle.aseba_tree.specs.Code.{Name}
use Rattle.aseba_tree.specs.Faults.{Call, leads}
use Rattle.aseba_check.specs.declared.sub_calls.SubCall.{SubCall}
use Rattle.aseba_check.specs.Looked.{nothing, with_value}
use Rattle.aseba_check.specs.Cycles.{call_view, Marks, is_marked, led_to, Reached, Closed, Spreads, leads_on, passed, all_passed, any_leads_on}
use Rattle.aseba_check.proofs.CycleLaws.{either, and-left, and-right, cases}

-- Tests

or-left : (a b : Bool) → a ≡ true → (a || b) ≡ true
or-left true b e = refl
or-left false b e = cc

or-right : (a b : Bool) → b ≡ true → (a || b) ≡ true
or-right true b e = refl
or-right false b e = e

both : (a b : Bool) → a ≡ true → b ≡ true → (a && b) ≡ true
both true b e f = f
both false b e f = cc

same-answers : (a b : Bool) → (a ≡ true → b ≡ true) → (b ≡ true → a ≡ true) → a ≡ b
same-answers true b f g = sym (f refl)
same-answers false true f g = g refl
same-answers false false f g = refl

same-name : (a b : Name) → bytes_eq a b ≡ true → a ≡ b
same-name a b e = (bytes_eq-Decides a b).0 e

own-name : (a : Name) → bytes_eq a a ≡ true
own-name a = (bytes_eq-Decides a a).1 refl

-- a call is one of these
abbrev pub IsIn : Call → List Call → Type 0
IsIn c [] = ⊥
IsIn c (d ∷ ds) = (c ≡ d) ⊎ IsIn c ds

pub is-in-at : (xs : List SubCall) (i : ℕ) (x : SubCall) → slice_get xs i ≡ Some x → IsIn (call_view x) (map call_view xs)
is-in-at [] i x e = cc
is-in-at (y ∷ ys) zero x e = inl (ap call_view (some-is y x e))
  where
    some-is : (a b : SubCall) → Some a ≡ Some b → b ≡ a
    some-is a b e = cc
is-in-at (y ∷ ys) (suc i) x e = inr (is-in-at ys i x e)

any-in : (p : Call → Bool) (cs : List Call) (c : Call) → IsIn c cs → p c ≡ true → list_any p cs ≡ true
any-in p [] c i e = absurd i
any-in p (d ∷ ds) c (inl s) e = or-left (p d) (list_any p ds) (ap p (sym s) ∙ e)
any-in p (d ∷ ds) c (inr i) e = or-right (p d) (list_any p ds) (any-in p ds c i e)

any-more : (p q : Call → Bool) (cs : List Call) → ((d : Call) → p d ≡ true → q d ≡ true) → list_any p cs ≡ true → list_any q cs ≡ true
any-more p q [] h e = e
any-more p q (d ∷ ds) h e = cases (either (p d) (list_any p ds) e) (λ k. or-left (q d) (list_any q ds) (h d k)) (λ k. or-right (q d) (list_any q ds) (any-more p q ds h k))

-- Leading

to-itself : (n : ℕ) (calls : List Call) (name : Name) → leads n calls name name ≡ true
to-itself zero calls name = own-name name
to-itself (suc n) calls name = or-left (bytes_eq name name) (list_any (λ c. bytes_eq c.caller name && leads n calls c.called name) calls) (own-name name)

abbrev by : ℕ → List Call → Name → Name → Call → Bool
by n calls from to c = bytes_eq c.caller from && leads n calls c.called to

longer : (n : ℕ) (calls : List Call) (from to : Name) → leads n calls from to ≡ true → leads (suc n) calls from to ≡ true
longer zero calls from to e = or-left (bytes_eq from to) (list_any (by zero calls from to) calls) e
longer (suc n) calls from to e =
    cases (either (bytes_eq from to) (list_any (by n calls from to) calls) e) (λ k. or-left (bytes_eq from to) (list_any (by (suc n) calls from to) calls) k)
    (λ k. or-right (bytes_eq from to) (list_any (by (suc n) calls from to) calls)
    (any-more (by n calls from to) (by (suc n) calls from to) calls
    (λ d h. both (bytes_eq d.caller from) (leads (suc n) calls d.called to) (and-left (bytes_eq d.caller from) (leads n calls d.called to) h) (longer n calls d.called to (and-right (bytes_eq d.caller from) (leads n calls d.called to) h)))
    k))

by-more : (k n : ℕ) (calls : List Call) (from to : Name) → leads n calls from to ≡ true → leads (k + n) calls from to ≡ true
by-more zero n calls from to e = let same : n ≡ zero + n = omega arith in subst (λ (m : ℕ). leads m calls from to ≡ true) same e
by-more (suc k) n calls from to e = let same : suc (k + n) ≡ suc k + n = omega arith in subst (λ (m : ℕ). leads m calls from to ≡ true) same (longer (k + n) calls from to (by-more k n calls from to e))

at-most : (n m : ℕ) (calls : List Call) (from to : Name) → n ≤ m → leads n calls from to ≡ true → leads m calls from to ≡ true
at-most n m calls from to h e = let same : (m - n) + n ≡ m = omega arith in subst (λ (k : ℕ). leads k calls from to ≡ true) same (by-more (m - n) n calls from to e)

-- one call more at the end
one-more : (n : ℕ) (calls : List Call) (from : Name) (c : Call) → IsIn c calls → leads n calls from c.caller ≡ true → leads (suc n) calls from c.called ≡ true
one-more zero calls from c i e =
    or-right (bytes_eq from c.called) (list_any (by zero calls from c.called) calls)
    (any-in (by zero calls from c.called) calls c i (both (bytes_eq c.caller from) (bytes_eq c.called c.called) (subst (λ (x : Name). bytes_eq x from ≡ true) (same-name from c.caller e) (own-name from)) (own-name c.called)))
one-more (suc n) calls from c i e =
    cases (either (bytes_eq from c.caller) (list_any (by n calls from c.caller) calls) e)
    (λ k. or-right (bytes_eq from c.called) (list_any (by (suc n) calls from c.called) calls)
    (any-in (by (suc n) calls from c.called) calls c i
    (both (bytes_eq c.caller from) (leads (suc n) calls c.called c.called) (subst (λ (x : Name). bytes_eq x from ≡ true) (same-name from c.caller k) (own-name from)) (to-itself (suc n) calls c.called))))
    (λ k. or-right (bytes_eq from c.called) (list_any (by (suc n) calls from c.called) calls)
    (any-more (by n calls from c.caller) (by (suc n) calls from c.called) calls
    (λ d h. both (bytes_eq d.caller from) (leads (suc n) calls d.called c.called) (and-left (bytes_eq d.caller from) (leads n calls d.called c.caller) h)
    (one-more n calls d.called c i (and-right (bytes_eq d.caller from) (leads n calls d.called c.caller) h)))
    k))

-- nothing that isn't marked is led to, where no call leads on
closed-any : (marks : Marks) (n : ℕ) (all cs : List Call) (from to : Name) → ((x : Name) → leads n all x to ≡ true → is_marked marks x ≡ true → is_marked marks to ≡ true) → Closed marks cs
    → list_any (by n all from to) cs ≡ true → is_marked marks from ≡ true → is_marked marks to ≡ true
closed-any marks n all [] from to h k e m = cc
closed-any marks n all (c ∷ cs) from to h k e m =
    cases (either (by n all from to c) (list_any (by n all from to) cs) e)
    (λ g. h c.called (and-right (bytes_eq c.caller from) (leads n all c.called to) g)
    (k.0 (subst (λ (x : Name). is_marked marks x ≡ true) (sym (same-name c.caller from (and-left (bytes_eq c.caller from) (leads n all c.called to) g))) m)))
    (λ g. closed-any marks n all cs from to h k.1 g m)

equal-marked : (marks : Marks) (from to : Name) → bytes_eq from to ≡ true → is_marked marks from ≡ true → is_marked marks to ≡ true
equal-marked marks from to e m = subst (λ (x : Name). is_marked marks x ≡ true) (same-name from to e) m

closed-stays : (marks : Marks) (n : ℕ) (calls : List Call) (from to : Name) → Closed marks calls → leads n calls from to ≡ true → is_marked marks from ≡ true → is_marked marks to ≡ true
closed-stays marks zero calls from to k e m = equal-marked marks from to e m
closed-stays marks (suc n) calls from to k e m =
    cases (either (bytes_eq from to) (list_any (by n calls from to) calls) e) (λ g. equal-marked marks from to g m)
    (λ g. closed-any marks n calls calls from to (λ x h i. closed-stays marks n calls x to k h i) k g m)

-- Marks

some-or : (b : Bool) (o : Option (Unit {0})) → is_some (cond b (Some tt) o) ≡ true → (b ≡ true) ⊎ (is_some o ≡ true)
some-or true o e = inl refl
some-or false o e = inr e

some-kept : (b : Bool) (o : Option (Unit {0})) → is_some o ≡ true → is_some (cond b (Some tt) o) ≡ true
some-kept true o e = refl
some-kept false o e = e

some-new : (b : Bool) (o : Option (Unit {0})) → b ≡ true → is_some (cond b (Some tt) o) ≡ true
some-new true o e = refl
some-new false o e = cc

kept : (marks : Marks) (name x : Name) → is_marked marks x ≡ true → is_marked (with_value marks name tt) x ≡ true
kept marks name x e = some-kept (bytes_eq name x) (marks x) e

new-mark : (marks : Marks) (name : Name) → is_marked (with_value marks name tt) name ≡ true
new-mark marks name = some-new (bytes_eq name name) (marks name) (own-name name)

bit-kept : (a b : Bool) → (a ≡ true → b ≡ true) → cond a 1 0 ≤ cond b 1 0
bit-kept true b h = let e : b ≡ true = h refl in rw e (omega arith)
bit-kept false b h = omega arith

led-kept : (old new : Marks) → ((x : Name) → is_marked old x ≡ true → is_marked new x ≡ true) → (cs : List Call) → led_to old cs ≤ led_to new cs
led-kept old new h [] = omega arith
led-kept old new h (c ∷ cs) = let a = bit-kept (is_marked old c.called) (is_marked new c.called) (h c.called) in let b = led-kept old new h cs in omega arith

bit-more : (a b : Bool) → a ≡ false → b ≡ true → cond a 1 0 < cond b 1 0
bit-more true b e f = cc
bit-more false true e f = omega arith
bit-more false false e f = cc

led-more : (old new : Marks) → ((x : Name) → is_marked old x ≡ true → is_marked new x ≡ true) → (cs : List Call) (c : Call) → IsIn c cs → is_marked old c.called ≡ false → is_marked new c.called ≡ true
    → led_to old cs < led_to new cs
led-more old new h [] c i e f = absurd i
led-more old new h (d ∷ ds) c (inl s) e f =
    let a = bit-more (is_marked old d.called) (is_marked new d.called) (ap (λ (x : Call). is_marked old x.called) (sym s) ∙ e) (ap (λ (x : Call). is_marked new x.called) (sym s) ∙ f) in
    let b = led-kept old new h ds in
    omega arith
led-more old new h (d ∷ ds) c (inr i) e f = let a = bit-kept (is_marked old d.called) (is_marked new d.called) (h d.called) in let b = led-more old new h ds c i e f in omega arith

bit-few : (a : Bool) → cond a 1 0 ≤ 1
bit-few true = omega arith
bit-few false = omega arith

led-few : (marks : Marks) (cs : List Call) → led_to marks cs ≤ length cs
led-few marks [] = omega arith
led-few marks (c ∷ cs) = let a = bit-few (is_marked marks c.called) in let b = led-few marks cs in omega arith

-- fewer calls are left then that lead to no marked name
pub less-left : (old new : Marks) (cs : List Call) → led_to old cs < led_to new cs → length cs - led_to new cs < length cs - led_to old cs
less-left old new cs h = let few = led-few new cs in omega arith

-- Spreading

pub first-reached : (calls : List Call) (from : Name) → Reached calls from (with_value nothing from tt)
first-reached calls from = record {
  start = new-mark nothing from;
  led = λ name h. cases (some-or (bytes_eq from name) None h)
      (λ k. subst (λ (x : Name). leads (led_to (with_value nothing from tt) calls) calls from x ≡ true) (same-name from name k) (to-itself (led_to (with_value nothing from tt) calls) calls from)) (λ k. cc);
}

marked-more : (calls : List Call) (marks : Marks) (c : Call) → IsIn c calls → is_marked marks c.caller ≡ true → is_marked marks c.called ≡ false → Spreads calls marks (with_value marks c.called tt)
marked-more calls marks c i e f from r =
    let new = with_value marks c.called tt in
    let more = led-more marks new (kept marks c.called) calls c i f (new-mark marks c.called) in
    record {
      start = kept marks c.called from r.start;
      led = λ name h. cases (some-or (bytes_eq c.called name) (marks name) h)
          (λ k. subst (λ (x : Name). leads (led_to new calls) calls from x ≡ true) (same-name c.called name k)
          (at-most (suc (led_to marks calls)) (led_to new calls) calls from c.called (omega arith) (one-more (led_to marks calls) calls from c i (r.led c.caller e))))
          (λ k. at-most (led_to marks calls) (led_to new calls) calls from name (omega arith) (r.led name k));
    }

not-false : (b : Bool) → not b ≡ true → b ≡ false
not-false true e = cc
not-false false e = refl

passed-if : (calls : List Call) (marks : Marks) (c : Call) (b : Bool) → (b ≡ true → Spreads calls marks (with_value marks c.called tt)) → Spreads calls marks (cond b (with_value marks c.called tt) marks)
passed-if calls marks c true h = h refl
passed-if calls marks c false h = λ from r. r

pub passed-spreads : (calls : List Call) (marks : Marks) (c : Call) → IsIn c calls → Spreads calls marks (passed marks c)
passed-spreads calls marks c i =
    passed-if calls marks c (leads_on marks c)
    (λ e. marked-more calls marks c i (and-left (is_marked marks c.caller) (not (is_marked marks c.called)) e) (not-false (is_marked marks c.called) (and-right (is_marked marks c.caller) (not (is_marked marks c.called)) e)))

-- these calls are all among those
abbrev AreIn : List Call → List Call → Type 0
AreIn [] all = Unit {0}
AreIn (c ∷ cs) all = IsIn c all × AreIn cs all

further : (c : Call) (cs ds : List Call) → AreIn cs ds → AreIn cs (c ∷ ds)
further c [] ds h = tt
further c (d ∷ cs) ds h = (inr h.0, further c cs ds h.1)

themselves : (cs : List Call) → AreIn cs cs
themselves [] = tt
themselves (c ∷ cs) = (inl refl, further c cs cs (themselves cs))

among-spreads : (all : List Call) (marks : Marks) (cs : List Call) → AreIn cs all → Spreads all marks (all_passed marks cs)
among-spreads all marks [] h = λ from r. r
among-spreads all marks (c ∷ cs) h = λ from r. among-spreads all (passed marks c) cs h.1 from (passed-spreads all marks c h.0 from r)

pub all-spreads : (calls : List Call) (marks : Marks) → Spreads calls marks (all_passed marks calls)
all-spreads calls marks = among-spreads calls marks calls (themselves calls)

kept-if : (marks : Marks) (name : Name) (b : Bool) (x : Name) → is_marked marks x ≡ true → is_marked (cond b (with_value marks name tt) marks) x ≡ true
kept-if marks name true x e = kept marks name x e
kept-if marks name false x e = e

all-kept : (marks : Marks) (cs : List Call) (x : Name) → is_marked marks x ≡ true → is_marked (all_passed marks cs) x ≡ true
all-kept marks [] x e = e
all-kept marks (c ∷ cs) x e = all-kept (passed marks c) cs x (kept-if marks c.called (leads_on marks c) x e)

led-if : (all : List Call) (marks : Marks) (c : Call) (b : Bool) → IsIn c all → b ≡ true → is_marked marks c.called ≡ false → led_to marks all < led_to (cond b (with_value marks c.called tt) marks) all
led-if all marks c true i e f = led-more marks (with_value marks c.called tt) (kept marks c.called) all c i f (new-mark marks c.called)
led-if all marks c false i e f = cc

among-grow : (all : List Call) (more : Bool) (marks : Marks) (cs : List Call) → AreIn cs all → any_leads_on more marks cs ≡ true → (more ≡ true) ⊎ (led_to marks all < led_to (all_passed marks cs) all)
among-grow all more marks [] h e = inl e
among-grow all more marks (c ∷ cs) h e =
    let later = led-kept (passed marks c) (all_passed (passed marks c) cs) (all-kept (passed marks c) cs) all in
    let sooner = led-kept marks (passed marks c) (kept-if marks c.called (leads_on marks c)) all in
    cases (among-grow all (more || leads_on marks c) (passed marks c) cs h.1 e)
    (λ k. cases (either more (leads_on marks c) k) (λ g. inl g)
    (λ g. let here = led-if all marks c (leads_on marks c) h.0 g (not-false (is_marked marks c.called) (and-right (is_marked marks c.caller) (not (is_marked marks c.called)) g)) in inr (omega arith)))
    (λ k. inr (omega arith))

-- where a call leads on, more calls than before lead to marked names
pub all-grow : (calls : List Call) (marks : Marks) → any_leads_on false marks calls ≡ true → led_to marks calls < led_to (all_passed marks calls) calls
all-grow calls marks e = cases (among-grow calls false marks calls (themselves calls) e) (λ k. cc) (λ k. k)

or-false-left : (a b : Bool) → (a || b) ≡ false → a ≡ false
or-false-left true b e = cc
or-false-left false b e = refl

or-false-right : (a b : Bool) → (a || b) ≡ false → b ≡ false
or-false-right true b e = cc
or-false-right false b e = e

none-before : (more : Bool) (marks : Marks) (cs : List Call) → any_leads_on more marks cs ≡ false → more ≡ false
none-before more marks [] e = e
none-before more marks (c ∷ cs) e = or-false-left more (leads_on marks c) (none-before (more || leads_on marks c) (passed marks c) cs e)

unmarked : (b : Bool) (new marks : Marks) → b ≡ false → cond b new marks ≡ marks
unmarked true new marks e = cc
unmarked false new marks e = refl

stays-in : (a b : Bool) → (a && not b) ≡ false → a ≡ true → b ≡ true
stays-in true true e f = refl
stays-in true false e f = cc
stays-in false b e f = cc

record Quiet (marks : Marks) (cs : List Call) : Type 0 where
  same : all_passed marks cs ≡ marks
  closed : Closed marks cs

quiet : (more : Bool) (marks : Marks) (cs : List Call) → any_leads_on more marks cs ≡ false → Quiet marks cs
quiet more marks [] e = record { same = refl; closed = tt }
quiet more marks (c ∷ cs) e =
    let off = or-false-right more (leads_on marks c) (none-before (more || leads_on marks c) (passed marks c) cs e) in
    let still : passed marks c ≡ marks = unmarked (leads_on marks c) (with_value marks c.called tt) marks off in
    let rest = quiet (more || leads_on marks c) marks cs (subst (λ (m : Marks). any_leads_on (more || leads_on marks c) m cs ≡ false) still e) in
    record {
      same = ap (λ (m : Marks). all_passed m cs) still ∙ rest.same;
      closed = (stays-in (is_marked marks c.caller) (is_marked marks c.called) off, rest.closed);
    }

-- and where none does, none leads on from what is marked then
pub all-closed : (calls : List Call) (marks : Marks) → any_leads_on false marks calls ≡ false → Closed (all_passed marks calls) calls
all-closed calls marks e = let q = quiet false marks calls e in subst (λ (m : Marks). Closed m calls) (sym q.same) q.closed

-- What is marked then is what the calls lead to.
pub marked-is-led : (calls : List Call) (from : Name) (marks : Marks) → Reached calls from marks → Closed marks calls → (to : Name) → is_marked marks to ≡ leads (length calls) calls from to
marked-is-led calls from marks r k to =
    same-answers (is_marked marks to) (leads (length calls) calls from to) (λ e. at-most (led_to marks calls) (length calls) calls from to (led-few marks calls) (r.led to e))
    (λ e. closed-stays marks (length calls) calls from to k e r.start)
