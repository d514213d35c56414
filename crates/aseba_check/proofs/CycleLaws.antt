-- Calls that each lead from a subroutine of a rank to one of a lesser rank hold no cycle.
use Rattle.std.proofs.Common.{◌≡◌, refl, sym, ◌∙◌, ap, subst, ℕ, zero, suc, ◌+◌, ◌≤◌, ◌<◌, Bool, true, false, List, [], ◌∷◌, ◌++◌, length, arith, append_assoc, ◌⊎◌, inl, inr, map, get_or, take, drop, Option, None}
use Rattle.std.proofs.lemmas.List.{append-nil, take-append-drop, take_more}
use Rattle.std.specs.Prelude.{◌&&◌, ◌||◌, bytes_eq}
use Rattle.std.specs.List.{list_any}
use Rattle.std.specs.Cmp.Lexicographic.{same_text}
use Rattle.aseba_tree.specs.Code.{Name}
use Rattle.aseba_tree.specs.Faults as tree
use Rattle.aseba_tree.specs.Faults.{Call, leads, recursion_faults}
use Rattle.aseba_check.specs.declared.fault.Rule.TheVariants as code
use Rattle.aseba_check.specs.declared.fault.Fault.{Fault}
use Rattle.aseba_check.specs.declared.sub_calls.SubCall.{SubCall}
use Rattle.aseba_check.specs.Cycles.{call_view, with_call, cycles_told, GoesDown, Ranked}
use Rattle.aseba_check.proofs.ExprTies.{Tells, join, silent, if-tells}

pub either : (a b : Bool) → (a || b) ≡ true → (a ≡ true) ⊎ (b ≡ true)
either true b e = inl refl
either false b e = inr e

pub and-left : (a b : Bool) → (a && b) ≡ true → a ≡ true
and-left true b e = refl
and-left false b e = e

pub and-right : (a b : Bool) → (a && b) ≡ true → b ≡ true
and-right true b e = e
and-right false b e = cc

pub cases : {A B C : Type 0} → A ⊎ B → (A → C) → (B → C) → C
cases (inl a) f g = f a
cases (inr b) f g = g b

-- a step from a name, where the steps behind it go down
down-any : (rank : Name → ℕ) (n : ℕ) (all cs : List Call) (from to : Name) → ((x : Name) → leads n all x to ≡ true → rank to ≤ rank x) → Ranked rank cs
    → list_any (λ c. bytes_eq c.caller from && leads n all c.called to) cs ≡ true → rank to ≤ rank from
down-any rank n all [] from to h r e = cc
down-any rank n all (c ∷ cs) from to h r e =
    cases (either (bytes_eq c.caller from && leads n all c.called to) (list_any (λ d. bytes_eq d.caller from && leads n all d.called to) cs) e)
    (λ k. let same : rank c.caller ≡ rank from = ap rank (same_text c.caller from (sym (and-left (bytes_eq c.caller from) (leads n all c.called to) k))) in
    let below = h c.called (and-right (bytes_eq c.caller from) (leads n all c.called to) k) in
    let lower = r.0 in
    omega arith)
    (λ k. down-any rank n all cs from to h r.1 k)

equal-rank : (rank : Name → ℕ) (from to : Name) → bytes_eq from to ≡ true → rank to ≤ rank from
equal-rank rank from to e = let same : rank from ≡ rank to = ap rank (same_text from to (sym e)) in omega arith

pub leads-down : (rank : Name → ℕ) (n : ℕ) (calls : List Call) (from to : Name) → Ranked rank calls → leads n calls from to ≡ true → rank to ≤ rank from
leads-down rank zero calls from to r e = equal-rank rank from to e
leads-down rank (suc n) calls from to r e =
    cases (either (bytes_eq from to) (list_any (λ c. bytes_eq c.caller from && leads n calls c.called to) calls) e) (λ k. equal-rank rank from to k)
    (λ k. down-any rank n calls calls from to (λ x h. leads-down rank n calls x to r h) r k)

pub not-true : (b : Bool) → (b ≡ true → ⊥) → b ≡ false
not-true true h = absurd (h refl)
not-true false h = refl

ranked-append : (rank : Name → ℕ) (xs ys : List Call) → Ranked rank xs → Ranked rank ys → Ranked rank (xs ++ ys)
ranked-append rank [] ys h k = k
ranked-append rank (x ∷ xs) ys h k = (h.0, ranked-append rank xs ys h.1 k)

-- none of ranked calls behind ranked calls closes a cycle
pub ranked-silent : (rank : Name → ℕ) (before cs : List Call) → Ranked rank before → Ranked rank cs → recursion_faults before cs ≡ []
ranked-silent rank before [] h k = refl
ranked-silent rank before (c ∷ cs) h k =
    let lower = k.0 in
    let no : leads (length before) before c.called c.caller ≡ false =
    not-true (leads (length before) before c.called c.caller) (λ e. let up = leads-down rank (length before) before c.called c.caller h e in absurd (omega arith)) in
    let rest = ranked-silent rank (before ++ c ∷ []) cs (ranked-append rank before (c ∷ []) h (lower, tt)) k.1 in
    ap (λ b. tree.fault_if b c.place tree.recursion ++ recursion_faults (before ++ c ∷ []) cs) no ∙ rest

-- the calls that close a cycle among calls and those behind them
pub recursion-append : (before xs ys : List Call) → recursion_faults before (xs ++ ys) ≡ recursion_faults before xs ++ recursion_faults (before ++ xs) ys
recursion-append before [] ys = ap (λ bs. recursion_faults bs ys) (sym (append-nil before))
recursion-append before (x ∷ xs) ys =
    let own = tree.fault_if (leads (length before) before x.called x.caller) x.place tree.recursion in
    ap (λ fs. own ++ fs) (recursion-append (before ++ x ∷ []) xs ys)
    ∙ (sym (append_assoc own (recursion_faults (before ++ x ∷ []) xs) (recursion_faults ((before ++ x ∷ []) ++ xs) ys))
    ∙ ap (λ bs. (own ++ recursion_faults (before ++ x ∷ []) xs) ++ recursion_faults bs ys) (append_assoc before (x ∷ []) xs))

-- What is told of calls

all-tell : (calls : List Call) (before : Option Fault) (xs : List tree.Fault) (cs : List Call) → Tells before xs → Tells (cycles_told calls before cs) (xs ++ recursion_faults calls cs)
all-tell calls before xs [] t = subst (λ (fs : List tree.Fault). Tells before fs) (sym (append-nil xs)) t
all-tell calls before xs (c ∷ cs) t =
    let closes = leads (length calls) calls c.called c.caller in
    let own = tree.fault_if closes c.place tree.recursion in
    subst (λ (fs : List tree.Fault). Tells (cycles_told (calls ++ c ∷ []) (with_call calls before c) cs) fs) (append_assoc xs own (recursion_faults (calls ++ c ∷ []) cs))
    (all-tell (calls ++ c ∷ []) (with_call calls before c) (xs ++ own) cs (join t (if-tells closes c.place code.Recursion)))

-- calls behind others that go down in rank
pub cycles-tell : (rank : Name → ℕ) (xs ys all : List Call) → Ranked rank xs → all ≡ xs ++ ys → Tells (cycles_told xs None ys) (recursion_faults [] all)
cycles-tell rank xs ys all r e =
    let none = ranked-silent rank [] xs tt r in
    let split = ap (λ (l : List Call). recursion_faults [] l) e ∙ (recursion-append [] xs ys ∙ ap (λ (fs : List tree.Fault). fs ++ recursion_faults xs ys) none) in
    subst (λ (fs : List tree.Fault). Tells (cycles_told xs None ys) fs) (sym split) (all-tell xs None [] ys silent)

map-append : (xs ys : List SubCall) → map call_view (xs ++ ys) ≡ map call_view xs ++ map call_view ys
map-append [] ys = refl
map-append (x ∷ xs) ys = ap (λ l. call_view x ∷ l) (map-append xs ys)

pub parted : (i : ℕ) (xs : List SubCall) → map call_view xs ≡ map call_view (take i xs) ++ map call_view (drop i xs)
parted i xs = ap (λ (l : List SubCall). map call_view l) (sym (take-append-drop i xs)) ∙ map-append (take i xs) (drop i xs)

pub ranked-more : (rank : Name → ℕ) (xs : List SubCall) (i : ℕ) (x : SubCall) → i < length xs → x ≡ get_or xs i x → Ranked rank (map call_view (take i xs)) → GoesDown rank (call_view x) → Ranked rank (map call_view (take (i + 1) xs))
ranked-more rank xs i x lt e r g =
    let here : take (i + 1) xs ≡ take i xs ++ x ∷ [] = take_more xs i x lt ∙ ap (λ (y : SubCall). take i xs ++ y ∷ []) (sym e) in
    subst (λ (l : List SubCall). Ranked rank (map call_view l)) (sym here)
    (subst (λ (l : List Call). Ranked rank l) (sym (map-append (take i xs) (x ∷ []))) (ranked-append rank (map call_view (take i xs)) (call_view x ∷ []) r (g, tt)))
