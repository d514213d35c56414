-- The walk over parts tells the least of their faults.
use Rattle.std.proofs.Common.{◌≡◌, refl, sym, ◌∙◌, ap, subst, ◌≤◌, Bool, true, false, cond, List, [], ◌∷◌, ◌++◌, Option, Some, None}
use Rattle.std.proofs.lemmas.List.{append-nil}
use Rattle.std.proofs.lemmas.List.Folds.{list_any-append}
use Rattle.std.specs.Prelude.{not, ◌&&◌, ◌||◌, is_some, is_none, bytes_eq, flat_map}
use Rattle.std.specs.List.{list_any}
use Rattle.std.specs.Bool.{beq}
use Rattle.std.specs.Cmp.Lexicographic.{same_text}
use Rattle.aseba_tree.specs.Code.{Name, Handler}
use Rattle.aseba_tree.specs.Faults as tree
use Rattle.aseba_tree.specs.Shape.{stmts_exprs}
use Rattle.aseba_check.specs.declared.fault.Rule.TheVariants as code
use Rattle.aseba_check.specs.declared.fault.Fault.{Fault}
use Rattle.aseba_tree.specs.Each.{EachPartOf}
use Rattle.aseba_check.specs.Fits.{Fits}
use Rattle.aseba_check.specs.Looked.{nothing, with_value, first_value}
use Rattle.aseba_check.specs.Told as told
use Rattle.aseba_check.specs.Told.{pos_of}
use Rattle.aseba_check.specs.Statements.{Known}
use Rattle.aseba_check.specs.Parts as walk
use Rattle.aseba_check.specs.Parts.{Seen}
use Rattle.aseba_check.proofs.ExprTies.{Tells, join, if-tells, limit}
use Rattle.aseba_check.proofs.StatementTies.{regroup, DescribesWorld}
use Rattle.aseba_check.proofs.WalkTies.{total, under-append, stmts-tell}

-- Names that were given

pub kept : (t s b : Bool) → (b ≡ true → t ≡ s) → t ≡ true → s ≡ (s || (b || false))
kept t true b h e = refl
kept t false true h e = let k = h refl in cc
kept t false false h e = refl

pub gained : {V : Type 0} (v : V) (o : Option V) (b : Bool) → is_some (cond b (Some v) o) ≡ (is_some o || (b || false))
gained v (Some w) true = refl
gained v None true = refl
gained v (Some w) false = refl
gained v None false = refl

first-apart : {V : Type 0} (t : Bool) (values : Name → Option V) (n q : Name) (v : V) → (is_some (values n) ≡ t) → is_some ((cond t values (with_value values n v)) q) ≡ (is_some (values q) || (bytes_eq n q || false))
first-apart true values n q v e = kept (is_some (values n)) (is_some (values q)) (bytes_eq n q) (λ h. ap (λ m. is_some (values m)) (same_text n q (sym h))) e
first-apart false values n q v e = gained v (values q) (bytes_eq n q)

-- with one more name, those have a value that had one, and that name
pub first-is : {V : Type 0} (values : Name → Option V) (n q : Name) (v : V) → is_some (first_value values n v q) ≡ (is_some (values q) || (bytes_eq n q || false))
first-is values n q v = first-apart (is_some (values n)) values n q v refl

-- Parts that stood before

abbrev is-like : Bool → Name → Handler → Bool
is-like kind name g = beq g.is_sub kind && bytes_eq g.name name

record SeenAre (subs events : Seen) (done : List Handler) : Type 0 where
  subs_are : (name : Name) → is_some (subs name) ≡ list_any (is-like true name) done
  events_are : (name : Name) → is_some (events name) ≡ list_any (is-like false name) done

or-false : (s b : Bool) → b ≡ false → s ≡ (s || (b || false))
or-false true b e = refl
or-false false b e = sym (ap (λ c. c || false) e)

sub-step : (b : Bool) (subs : Seen) (n q : Name) → is_some ((cond b (first_value subs n tt) subs) q) ≡ (is_some (subs q) || ((beq b true && bytes_eq n q) || false))
sub-step true subs n q = first-is subs n q tt
sub-step false subs n q = or-false (is_some (subs q)) (beq false true && bytes_eq n q) refl

event-step : (b : Bool) (events : Seen) (n q : Name) → is_some ((cond b events (first_value events n tt)) q) ≡ (is_some (events q) || ((beq b false && bytes_eq n q) || false))
event-step true events n q = or-false (is_some (events q)) (beq true false && bytes_eq n q) refl
event-step false events n q = first-is events n q tt

next-seen : (subs events : Seen) (done : List Handler) (h : Handler) → SeenAre subs events done → SeenAre (walk.with_sub subs h) (walk.with_event events h) (done ++ h ∷ [])
next-seen subs events done h s = record {
  subs_are = λ q. sub-step h.is_sub subs h.name q ∙ (ap (λ b. b || (is-like true q h || false)) (s.subs_are q) ∙ sym (list_any-append (is-like true q) done (h ∷ [])));
  events_are = λ q. event-step h.is_sub events h.name q ∙ (ap (λ b. b || (is-like false q h || false)) (s.events_are q) ∙ sym (list_any-append (is-like false q) done (h ∷ [])));
}

seen-by : (b : Bool) (subs events : Seen) (done : List Handler) (n : Name) → SeenAre subs events done → cond b (is_some (subs n)) (is_some (events n)) ≡ list_any (is-like b n) done
seen-by true subs events done n s = s.subs_are n
seen-by false subs events done n s = s.events_are n

none-some : {V : Type 0} (o : Option V) → is_none o ≡ not (is_some o)
none-some None = refl
none-some (Some v) = refl

name-tells : (known : Known) (world : tree.World) → DescribesWorld known world → (subs events : Seen) (done : List Handler) → SeenAre subs events done → (h : Handler)
    → Tells (walk.name_told known subs events h) (tree.part_name_faults world.project done h)
name-tells known world w subs events done s h =
    let strange : (not h.is_sub && not (tree.is_event world.project h.name)) ≡ walk.is_strange known h = ap (λ b. not h.is_sub && b) (ap not (sym (w.is_event h.name)) ∙ sym (none-some (known.event h.name))) in
    let twice : list_any (is-like h.is_sub h.name) done ≡ walk.is_seen subs events h = sym (seen-by h.is_sub subs events done h.name s) in
    join (subst (λ (b : Bool). Tells (told.fault_if b (pos_of h.place) code.Unknown) (tree.fault_if (not h.is_sub && not (tree.is_event world.project h.name)) h.place tree.unknown)) strange
    (if-tells (not h.is_sub && not (tree.is_event world.project h.name)) h.place code.Unknown))
    (subst (λ (b : Bool). Tells (told.fault_if b (pos_of h.place) code.Duplicate) (tree.fault_if (list_any (is-like h.is_sub h.name) done) h.place tree.duplicate)) twice
    (if-tells (list_any (is-like h.is_sub h.name) done) h.place code.Duplicate))

walk-tells : (known : Known) (world : tree.World) → DescribesWorld known world → (subs events : Seen) (done : List Handler) → SeenAre subs events done → (before : Option Fault) (xs : List tree.Fault) (hs : List Handler) → EachPartOf Fits hs
    → total (flat_map (λ h. stmts_exprs h.body) hs) ≤ limit → Tells before xs → Tells (walk.parts_told known subs events before hs) (xs ++ tree.parts_faults world done hs)
walk-tells known world w subs events done s before xs [] f k t = subst (λ (fs : List tree.Fault). Tells before fs) (sym (append-nil xs)) t
walk-tells known world w subs events done s before xs (h ∷ hs) f k t =
    let u = under-append (stmts_exprs h.body) (flat_map (λ g. stmts_exprs g.body) hs) k in
    let names = tree.part_name_faults world.project done h in
    let own = stmts-tell known world w (told.least before (walk.name_told known subs events h)) (xs ++ names) h.body f.0 u.0 (join t (name-tells known world w subs events done s h)) in
    regroup xs (names ++ tree.stmts_faults world h.body) (tree.parts_faults world (done ++ h ∷ []) hs)
    (walk-tells known world w (walk.with_sub subs h) (walk.with_event events h) (done ++ h ∷ []) (next-seen subs events done h s) (walk.part_told known subs events before h) (xs ++ (names ++ tree.stmts_faults world h.body)) hs f.1 u.1
    (regroup xs names (tree.stmts_faults world h.body) own))

pub parts-tell : (known : Known) (world : tree.World) → DescribesWorld known world → (before : Option Fault) (xs : List tree.Fault) (hs : List Handler) → EachPartOf Fits hs
    → total (flat_map (λ h. stmts_exprs h.body) hs) ≤ limit → Tells before xs → Tells (walk.parts_told known nothing nothing before hs) (xs ++ tree.parts_faults world [] hs)
parts-tell known world w before xs hs f k t = walk-tells known world w nothing nothing [] (record { subs_are = λ n. refl; events_are = λ n. refl }) before xs hs f k t
