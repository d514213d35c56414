-- The least fault of two lists behind each other is the lesser of the least of each.
use Rattle.std.proofs.Common.{◌≡◌, refl, ◌∙◌, ap, ℕ, Bool, true, false, ◌&&◌, ◌||◌, if◌then◌else◌, List, [], ◌∷◌, ◌++◌, Option, Some, None, arith}
use Rattle.std.specs.Prelude.{nat_lt, nat_eq, option_map}
use Rattle.std.proofs.lemmas.Bool.Decides.{nat_tests}
use Rattle.aseba_tree.specs.declared.pos.Pos.{Pos}
use Rattle.aseba_tree.specs.View.{place_view}
use Rattle.aseba_tree.specs.Faults as tree
use Rattle.aseba_check.specs.declared.fault.Rule.{Rule}
use Rattle.aseba_check.specs.declared.fault.Fault.{Fault}
use Rattle.aseba_check.specs.Told as told
use Rattle.aseba_check.specs.Told.{rule_view, fault_view}

-- The order of places and rules

abbrev pub before : (l c n m d k : ℕ) → Bool
before l c n m d k = nat_lt l m || nat_eq l m && (nat_lt c d || nat_eq c d && nat_lt n k)

pub before-trans : (l c n m d k o e j : ℕ) → before l c n m d k ≡ true → before m d k o e j ≡ true → before l c n o e j ≡ true
before-trans l c n m d k o e j p q = grind (arith, nat_tests)

pub before-false : (l c n m d k o e j : ℕ) → before l c n m d k ≡ false → before m d k o e j ≡ false → before l c n o e j ≡ false
before-false l c n m d k o e j p q = grind (arith, nat_tests)

-- the first of two that is told
abbrev pub lesser : Option tree.Fault → Option tree.Fault → Option tree.Fault
lesser None g = g
lesser (Some f) g = Some (tree.earlier f g)

three : (f a b : tree.Fault) (p q r : Bool) → tree.comes_before b a ≡ p → tree.comes_before a f ≡ q → tree.comes_before b f ≡ r
    → tree.earlier f (Some (tree.earlier a (Some b))) ≡ tree.earlier (tree.earlier f (Some a)) (Some b)
three f a b true true true x y z = simp (x, y, z)
three f a b true true false x y z =
    absurd (let e = before-trans b.place.line b.place.column (tree.rule_number b.rule) a.place.line a.place.column (tree.rule_number a.rule) f.place.line f.place.column (tree.rule_number f.rule) x y in cc)
three f a b true false true x y z = simp (x, y, z)
three f a b true false false x y z = simp (x, y, z)
three f a b false true r x y z = simp (x, y, z)
three f a b false false true x y z =
    absurd (let e = before-false b.place.line b.place.column (tree.rule_number b.rule) a.place.line a.place.column (tree.rule_number a.rule) f.place.line f.place.column (tree.rule_number f.rule) x y in cc)
three f a b false false false x y z = simp (x, y, z)

earlier-lesser : (f : tree.Fault) (a b : Option tree.Fault) → tree.earlier f (lesser a b) ≡ tree.earlier (tree.earlier f a) b
earlier-lesser f None b = refl
earlier-lesser f (Some a) None = refl
earlier-lesser f (Some a) (Some b) = three f a b (tree.comes_before b a) (tree.comes_before a f) (tree.comes_before b f) refl refl refl

pub lesser-assoc : (a b c : Option tree.Fault) → lesser a (lesser b c) ≡ lesser (lesser a b) c
lesser-assoc None b c = refl
lesser-assoc (Some f) b c = ap Some (earlier-lesser f b c)

pub lesser-none : (a : Option tree.Fault) → lesser a None ≡ a
lesser-none None = refl
lesser-none (Some f) = refl

pub first-append : (xs ys : List tree.Fault) → tree.first_fault (xs ++ ys) ≡ lesser (tree.first_fault xs) (tree.first_fault ys)
first-append [] ys = refl
first-append (f ∷ xs) ys = ap (λ o. Some (tree.earlier f o)) (first-append xs ys) ∙ ap Some (earlier-lesser f (tree.first_fault xs) (tree.first_fault ys))

-- The faults of the code, as the definitions see them

view-if : (t : Bool) (f g : Fault) → fault_view (if t then g else f) ≡ (if t then fault_view g else fault_view f)
view-if true f g = refl
view-if false f g = refl

abbrev pub seen : Option Fault → Option tree.Fault
seen o = option_map fault_view o

pub seen-least : (a b : Option Fault) → seen (told.least a b) ≡ lesser (seen a) (seen b)
seen-least None b = refl
seen-least (Some f) None = refl
seen-least (Some f) (Some g) = ap Some (view-if (told.comes_before g f) f g)

pub seen-if : (b : Bool) (at : Pos) (rule : Rule) → seen (told.fault_if b at rule) ≡ tree.first_fault (tree.fault_if b (place_view at) (rule_view rule))
seen-if true at rule = refl
seen-if false at rule = refl

pub seen-cond : (b : Bool) (f g : Option Fault) → seen (if b then f else g) ≡ (if b then seen f else seen g)
seen-cond true f g = refl
seen-cond false f g = refl

pub first-cond : (b : Bool) (xs ys : List tree.Fault) → tree.first_fault (if b then xs else ys) ≡ (if b then tree.first_fault xs else tree.first_fault ys)
first-cond true xs ys = refl
first-cond false xs ys = refl
