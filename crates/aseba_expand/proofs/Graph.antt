-- Calls none of which closes a cycle with those before it lead nowhere back.
use Rattle.std.proofs.Common.{◌≡◌, refl, sym, ◌∙◌, subst, ℕ, zero, suc, ◌-◌, ◌≤◌, Bool, true, false, ◌&&◌, ◌||◌, List, [], ◌∷◌, ◌++◌, arith, length, ◌⊎◌, inl, inr, append_assoc, append-nil}
use Rattle.std.specs.Prelude.{bytes_eq}
use Rattle.std.specs.List.{list_any}
use Rattle.std.proofs.lemmas.Slice.Eq.{bytes_eq-Decides}
use Rattle.aseba_tree.specs.Code.{Name}
use Rattle.aseba_tree.specs.Faults.{Call, fault_if, recursion, leads, recursion_faults}
use Rattle.aseba_tree.proofs.SizeLaws.{nil_left, nil_right, no_fault}
use Rattle.aseba_check.specs.Cycles.{Marks, is_marked, led_to, Reached, Closed, all_passed, any_leads_on}
use Rattle.aseba_check.specs.Looked.{nothing, with_value}
use Rattle.aseba_check.proofs.CycleLaws.{either, and-left, and-right, cases}
use Rattle.aseba_check.proofs.LeadLaws.{less-left, first-reached, all-spreads, all-grow, all-closed, marked-is-led}

-- As many calls as there are lead wherever any number of them leads

pub record Closing (calls : List Call) (from : Name) : Type 0 where
  pub marks : Marks
  pub reached : Reached calls from marks
  pub closed : Closed marks calls

closing : (fuel : ℕ) (calls : List Call) (from : Name) (marks : Marks) → Reached calls from marks → length calls - led_to marks calls ≤ fuel → Closing calls from
closing zero calls from marks r h = pick (any_leads_on false marks calls) refl
  where
    pick : (b : Bool) → any_leads_on false marks calls ≡ b → Closing calls from
    pick false e = record { marks = all_passed marks calls; reached = all-spreads calls marks from r; closed = all-closed calls marks e }
    pick true e = absurd (let less = less-left marks (all_passed marks calls) calls (all-grow calls marks e) in omega (arith, less, h))
closing (suc fuel) calls from marks r h = pick (any_leads_on false marks calls) refl (λ less. closing fuel calls from (all_passed marks calls) (all-spreads calls marks from r) less)
  where
    pick : (b : Bool) → any_leads_on false marks calls ≡ b → (length calls - led_to (all_passed marks calls) calls ≤ fuel → Closing calls from) → Closing calls from
    pick false e more = record { marks = all_passed marks calls; reached = all-spreads calls marks from r; closed = all-closed calls marks e }
    pick true e more = more (let less = less-left marks (all_passed marks calls) calls (all-grow calls marks e) in omega (arith, less, h))

-- what calls lead to is marked where their start is
along : (calls : List Call) (marks : Marks) → Closed marks calls → (n : ℕ) (from to : Name) → leads n calls from to ≡ true → is_marked marks from ≡ true → is_marked marks to ≡ true
along calls marks c zero from to e m = subst (λ x. is_marked marks x ≡ true) ((bytes_eq-Decides from to).0 e) m
along calls marks c (suc n) from to e m =
    cases (either (bytes_eq from to) (list_any (λ c. bytes_eq c.caller from && leads n calls c.called to) calls) e) (λ k. subst (λ x. is_marked marks x ≡ true) ((bytes_eq-Decides from to).0 k) m)
    (λ k. by calls c k (λ x h g. along calls marks c n x to h g))
  where
    by : (cs : List Call) → Closed marks cs → list_any (λ c. bytes_eq c.caller from && leads n calls c.called to) cs ≡ true → ((x : Name) → leads n calls x to ≡ true → is_marked marks x ≡ true → is_marked marks to ≡ true) → is_marked marks to ≡ true
    by [] k h deeper = cc
    by (d ∷ ds) k h deeper =
        cases (either (bytes_eq d.caller from && leads n calls d.called to) (list_any (λ c. bytes_eq c.caller from && leads n calls c.called to) ds) h)
        (λ g. deeper d.called (and-right (bytes_eq d.caller from) (leads n calls d.called to) g) (k.0 (subst (λ x. is_marked marks x ≡ true) (sym ((bytes_eq-Decides d.caller from).0 (and-left (bytes_eq d.caller from) (leads n calls d.called to) g))) m)))
        (λ g. by ds k.1 g deeper)

complete : (calls : List Call) (n : ℕ) (from to : Name) → leads n calls from to ≡ true → leads (length calls) calls from to ≡ true
complete calls n from to e =
    let c = closing (length calls) calls from (with_value nothing from tt) (first-reached calls from) (omega arith) in
    sym (marked-is-led calls from c.marks c.reached c.closed to) ∙ along calls c.marks c.closed n from to e c.reached.start

-- Ways

-- so many calls lead from one to another
pub record Way (calls : List Call) (from to : Name) : Type 0 where
  pub steps : ℕ
  pub leading : leads steps calls from to ≡ true

same-name : (a : Name) → bytes_eq a a ≡ true
same-name a = (bytes_eq-Decides a a).1 refl

or-left : (a b : Bool) → a ≡ true → (a || b) ≡ true
or-left true b e = refl
or-left false b e = cc

or-right : (a b : Bool) → b ≡ true → (a || b) ≡ true
or-right true b e = refl
or-right false b e = e

both : (a b : Bool) → a ≡ true → b ≡ true → (a && b) ≡ true
both true b p q = q
both false b p q = p

pub stay : (calls : List Call) (a : Name) → Way calls a a
stay calls a = record { steps = 0; leading = same-name a }

-- a call is one of these
abbrev pub IsIn : Call → List Call → Type 0
IsIn c [] = ⊥
IsIn c (d ∷ ds) = (c ≡ d) ⊎ IsIn c ds

pub go : (calls : List Call) (c : Call) (to : Name) → IsIn c calls → Way calls c.called to → Way calls c.caller to
go calls c to i w = record { steps = suc w.steps; leading = or-right (bytes_eq c.caller to) _ (by calls i) }
  where
    by : (cs : List Call) → IsIn c cs → list_any (λ d. bytes_eq d.caller c.caller && leads w.steps calls d.called to) cs ≡ true
    by [] i = absurd i
    by (d ∷ ds) (inl e) = or-left (bytes_eq d.caller c.caller && leads w.steps calls d.called to) _ (subst (λ d. (bytes_eq d.caller c.caller && leads w.steps calls d.called to) ≡ true) e (both (bytes_eq c.caller c.caller) (leads w.steps calls c.called to) (same-name c.caller) w.leading))
    by (d ∷ ds) (inr i) = or-right (bytes_eq d.caller c.caller && leads w.steps calls d.called to) _ (by ds i)

-- the first call of a way
pub record First (calls : List Call) (n : ℕ) (from to : Name) : Type 0 where
  pub call : Call
  pub inside : IsIn call calls
  pub here : call.caller ≡ from
  pub rest : leads n calls call.called to ≡ true

first-call : (calls : List Call) (n : ℕ) (from to : Name) → list_any (λ c. bytes_eq c.caller from && leads n calls c.called to) calls ≡ true → First calls n from to
first-call calls n from to e = by calls (λ c i. i) e
  where
    by : (cs : List Call) → ((c : Call) → IsIn c cs → IsIn c calls) → list_any (λ c. bytes_eq c.caller from && leads n calls c.called to) cs ≡ true → First calls n from to
    by [] up e = cc
    by (d ∷ ds) up e =
        cases (either (bytes_eq d.caller from && leads n calls d.called to) (list_any (λ c. bytes_eq c.caller from && leads n calls c.called to) ds) e)
        (λ g. record { call = d; inside = up d (inl refl); here = (bytes_eq-Decides d.caller from).0 (and-left (bytes_eq d.caller from) (leads n calls d.called to) g); rest = and-right (bytes_eq d.caller from) (leads n calls d.called to) g })
        (λ g. by ds (λ c i. up c (inr i)) g)

join : (calls : List Call) (n : ℕ) (a b c : Name) → leads n calls a b ≡ true → Way calls b c → Way calls a c
join calls zero a b c e w = subst (λ x. Way calls x c) (sym ((bytes_eq-Decides a b).0 e)) w
join calls (suc n) a b c e w =
    cases (either (bytes_eq a b) (list_any (λ c. bytes_eq c.caller a && leads n calls c.called b) calls) e) (λ k. subst (λ x. Way calls x c) (sym ((bytes_eq-Decides a b).0 k)) w)
    (λ k. of (first-call calls n a b k) (λ x h. join calls n x b c h w))
  where
    of : First calls n a b → ((x : Name) → leads n calls x b ≡ true → Way calls x c) → Way calls a c
    of f deeper = subst (λ x. Way calls x c) f.here (go calls f.call c f.inside (deeper (f.call).called f.rest))

pub join-ways : (calls : List Call) (a b c : Name) → Way calls a b → Way calls b c → Way calls a c
join-ways calls a b c v w = join calls v.steps a b c v.leading w

-- One more call

-- a way behind one more call goes by the calls before it, or by it
abbrev Split : List Call → Call → Name → Name → Type 0
Split calls c a b = Way calls a b ⊎ (Way calls a c.caller × Way calls c.called b)

in-more : (calls : List Call) (c d : Call) → IsIn d (calls ++ c ∷ []) → IsIn d calls ⊎ (d ≡ c)
in-more [] c d (inl e) = inr e
in-more [] c d (inr i) = absurd i
in-more (x ∷ xs) c d (inl e) = inl (inl e)
in-more (x ∷ xs) c d (inr i) = cases (in-more xs c d i) (λ j. inl (inr j)) (λ e. inr e)

by-call : (calls : List Call) (c d : Call) (b : Name) → IsIn d calls ⊎ (d ≡ c) → Split calls c d.called b → Split calls c d.caller b
by-call calls c d b (inl i) (inl w) = inl (go calls d b i w)
by-call calls c d b (inl i) (inr w) = inr (go calls d c.caller i w.0, w.1)
by-call calls c d b (inr e) (inl w) = inr (subst (λ x. Way calls x.caller c.caller) (sym e) (stay calls c.caller), subst (λ x. Way calls x.called b) e w)
by-call calls c d b (inr e) (inr w) = inr (subst (λ x. Way calls x.caller c.caller) (sym e) (stay calls c.caller), w.1)

split : (calls : List Call) (c : Call) (n : ℕ) (a b : Name) → leads n (calls ++ c ∷ []) a b ≡ true → Split calls c a b
split calls c zero a b e = inl (subst (λ x. Way calls a x) ((bytes_eq-Decides a b).0 e) (stay calls a))
split calls c (suc n) a b e =
    cases (either (bytes_eq a b) (list_any (λ d. bytes_eq d.caller a && leads n (calls ++ c ∷ []) d.called b) (calls ++ c ∷ [])) e)
    (λ k. inl (subst (λ x. Way calls a x) ((bytes_eq-Decides a b).0 k) (stay calls a)))
    (λ k. of (first-call (calls ++ c ∷ []) n a b k) (λ x h. split calls c n x b h))
  where
    of : First (calls ++ c ∷ []) n a b → ((x : Name) → leads n (calls ++ c ∷ []) x b ≡ true → Split calls c x b) → Split calls c a b
    of f deeper = subst (λ x. Split calls c x b) f.here (by-call calls c f.call b (in-more calls c f.call f.inside) (deeper (f.call).called f.rest))

-- no call leads back to its caller
abbrev pub NoCycle : List Call → Type 0
NoCycle calls = (c : Call) → IsIn c calls → Way calls c.called c.caller → ⊥

one-more : (calls : List Call) (c : Call) → NoCycle calls → (Way calls c.called c.caller → ⊥) → NoCycle (calls ++ c ∷ [])
one-more calls c none never d i w = of (in-more calls c d i) (split calls c w.steps d.called d.caller w.leading)
  where
    of : IsIn d calls ⊎ (d ≡ c) → Split calls c d.called d.caller → ⊥
    of (inl j) (inl v) = none d j v
    of (inl j) (inr v) = never (join-ways calls c.called d.caller c.caller v.1 (go calls d c.caller j v.0))
    of (inr e) (inl v) = never (subst (λ x. Way calls x.called x.caller) e v)
    of (inr e) (inr v) = never (subst (λ x. Way calls x.called c.caller) e v.0)

faultless : (before cs : List Call) → NoCycle before → recursion_faults before cs ≡ [] → NoCycle (before ++ cs)
faultless before [] none e = subst NoCycle (sym (append-nil before)) none
faultless before (c ∷ cs) none e =
    let own = no_fault (leads (length before) before c.called c.caller) c.place recursion (nil_left (fault_if (leads (length before) before c.called c.caller) c.place recursion) _ e) in
    let never : Way before c.called c.caller → ⊥ = λ w. let yes = complete before w.steps c.called c.caller w.leading in wrong (sym yes ∙ own) in
    subst NoCycle (append_assoc before (c ∷ []) cs) (faultless (before ++ c ∷ []) cs (one-more before c none never) (nil_right (fault_if (leads (length before) before c.called c.caller) c.place recursion) _ e))
  where
    wrong : true ≡ false → ⊥
    wrong e = cc

-- calls without a fault of recursion have no cycle
pub no-cycle : (cs : List Call) → recursion_faults [] cs ≡ [] → NoCycle cs
no-cycle cs e = faultless [] cs (λ c i w. i) e
