-- The events that the element form of a sound source handles are the project's, and each is handled once.
use Rattle.std.proofs.Common.{◌≡◌, refl, sym, ◌∙◌, ap, ℕ, ◌-◌, ◌≤◌, ◌<◌, Bool, true, false, not, ◌&&◌, ◌||◌, if◌then◌else◌, List, [], ◌∷◌, ◌++◌, arith, Option, Some, None, length, map, nat_lt, nat_eq, inl, inr}
use Rattle.std.specs.Prelude.{flat_map, option_to_list, bytes_eq}
use Rattle.std.specs.List.{list_all, list_any}
use Rattle.std.specs.Bool.{beq}
use Rattle.std.proofs.lemmas.Bool.{lt-ltb, le-leb, eqb-true}
use Rattle.std.proofs.lemmas.Slice.Eq.{bytes_eq-Decides}
use Rattle.aseba_tree.specs.Code.{Name, Handler, Project}
use Rattle.aseba_tree.specs.Line.{named}
use Rattle.aseba_tree.specs.State.{Program}
use Rattle.aseba_tree.specs.Faults.{fault_if, unknown, duplicate, is_event, World, part_name_faults, stmts_faults, parts_faults}
use Rattle.aseba_tree.specs.CoreShape.{stands_in, are_distinct}
use Rattle.aseba_tree.specs.Events.{is_event_number, event_number}
use Rattle.aseba_tree.proofs.SizeLaws.{nil_left, nil_right, no_fault}
use Rattle.aseba_expand.specs.Plain.{plain_part}
use Rattle.aseba_expand.proofs.EventNumbers.{AreFew, KnownParts, Numbered, numbered-as, one-number}

abbrev pub numbers_of : Program → List Handler → List ℕ
numbers_of program hs = flat_map (λ part. option_to_list part.event) (map (plain_part program) hs)

-- Numbers

numbered-good : (project : Project) (name : Name) (k : ℕ) → AreFew project → Numbered project name k → is_event_number project k ≡ true
numbered-good project name k few (inl x) = let less = x.less in let same = x.same in rw (lt-ltb k (length project.events) (omega (arith, less, same))) refl
numbered-good project name k few (inr x) =
    let low : k ≤ 0xFFFE = omega (arith, x.1) in
    let back : 0xFFFE - k < length project.node.locals = omega (arith, x.0, x.1, few) in
    rw (le-leb k 0xFFFE low, lt-ltb (0xFFFE - k) (length project.node.locals) back) (by (nat_lt k (length project.events)))
  where
    by : (b : Bool) → (b || true) ≡ true
    by true = refl
    by false = refl

all-numbers : (program : Program) (hs : List Handler) → AreFew program.project → KnownParts program hs → list_all (is_event_number program.project) (numbers_of program hs) ≡ true
all-numbers program [] few k = refl
all-numbers program (h ∷ hs) few k = pick h.is_sub (event_number program.project (named h.name)) refl (all-numbers program hs few k.1)
  where
    pick : (s : Bool) (o : Option ℕ) → event_number program.project (named h.name) ≡ o → list_all (is_event_number program.project) (numbers_of program hs) ≡ true
        → list_all (is_event_number program.project) (option_to_list (if s then None else o) ++ numbers_of program hs) ≡ true
    pick true o e rest = rest
    pick false None e rest = rest
    pick false (Some n) e rest = rw (numbered-good program.project h.name n few (numbered-as program.project h.name n e)) rest

-- No number twice

any-more : {X : Type 0} (p : X → Bool) (xs : List X) (y : X) → list_any p xs ≡ true → list_any p (xs ++ y ∷ []) ≡ true
any-more p [] y e = cc
any-more p (x ∷ xs) y e = pick (p x) (any-more p xs y) e
  where
    pick : (b : Bool) → (list_any p xs ≡ true → list_any p (xs ++ y ∷ []) ≡ true) → (b || list_any p xs) ≡ true → (b || list_any p (xs ++ y ∷ [])) ≡ true
    pick true deeper e = refl
    pick false deeper e = deeper e

any-last : {X : Type 0} (p : X → Bool) (xs : List X) (y : X) → p y ≡ true → list_any p (xs ++ y ∷ []) ≡ true
any-last p [] y e = rw e refl
any-last p (x ∷ xs) y e = pick (p x) (any-last p xs y e)
  where
    pick : (b : Bool) → list_any p (xs ++ y ∷ []) ≡ true → (b || list_any p (xs ++ y ∷ [])) ≡ true
    pick true e = refl
    pick false e = e

-- a handler of that name stood before
abbrev Stood : Name → List Handler → Type 0
Stood name before = list_any (λ g. beq g.is_sub false && bytes_eq g.name name) before ≡ true

not-again : (program : Program) (world : World) (name : Name) (k : ℕ) → AreFew program.project → event_number program.project (named name) ≡ Some k → (before hs : List Handler) → Stood name before → parts_faults world before hs ≡ []
    → stands_in (numbers_of program hs) k ≡ false
not-again program world name k few n before [] stood e = refl
not-again program world name k few n before (g ∷ hs) stood e =
    let front = nil_left (part_name_faults world.project before g ++ stmts_faults world g.body) _ e in
    let twice = no_fault _ g.place duplicate (nil_right (fault_if (not g.is_sub && not (is_event world.project g.name)) g.place unknown) _ (nil_left (part_name_faults world.project before g) _ front)) in
    pick g.is_sub refl (event_number program.project (named g.name)) refl twice
    (not-again program world name k few n (before ++ g ∷ []) hs (any-more _ before g stood) (nil_right (part_name_faults world.project before g ++ stmts_faults world g.body) _ e))
  where
    pick : (s : Bool) → g.is_sub ≡ s → (o : Option ℕ) → event_number program.project (named g.name) ≡ o → list_any (λ x. beq x.is_sub s && bytes_eq x.name g.name) before ≡ false → stands_in (numbers_of program hs) k ≡ false
        → stands_in (option_to_list (if s then None else o) ++ numbers_of program hs) k ≡ false
    pick true es o eo twice rest = rest
    pick false es None eo twice rest = rest
    pick false es (Some m) eo twice rest = of (nat_eq k m) refl
      where
        of : (b : Bool) → nat_eq k m ≡ b → (b || stands_in (numbers_of program hs) k) ≡ false
        of false eb = rest
        of true eb =
            let same : k ≡ m = eqb-true k m eb in
            let one : g.name ≡ name = one-number program.project g.name name k few (numbered-as program.project g.name k (eo ∙ ap Some (sym same))) (numbered-as program.project name k n) in
            let bad : true ≡ false = sym stood ∙ ap (λ m. list_any (λ x. beq x.is_sub false && bytes_eq x.name m) before) (sym one) ∙ twice in cc

distinct : (program : Program) (world : World) (before hs : List Handler) → AreFew program.project → parts_faults world before hs ≡ [] → are_distinct (numbers_of program hs) ≡ true
distinct program world before [] few e = refl
distinct program world before (h ∷ hs) few e = pick h.is_sub refl (event_number program.project (named h.name)) refl (distinct program world (before ++ h ∷ []) hs few later)
  where
    later : parts_faults world (before ++ h ∷ []) hs ≡ []
    later = nil_right (part_name_faults world.project before h ++ stmts_faults world h.body) _ e

    pick : (s : Bool) → h.is_sub ≡ s → (o : Option ℕ) → event_number program.project (named h.name) ≡ o → are_distinct (numbers_of program hs) ≡ true → are_distinct (option_to_list (if s then None else o) ++ numbers_of program hs) ≡ true
    pick true es o eo rest = rest
    pick false es None eo rest = rest
    pick false es (Some m) eo rest =
        let here : (beq h.is_sub false && bytes_eq h.name h.name) ≡ true = rw (es, (bytes_eq-Decides h.name h.name).1 refl) refl in
        rw (not-again program world h.name m few eo (before ++ h ∷ []) hs (any-last _ before h here) later) rest

pub handles-events : (program : Program) (world : World) (hs : List Handler) → AreFew program.project → KnownParts program hs → parts_faults world [] hs ≡ []
    → (list_all (is_event_number program.project) (numbers_of program hs) && are_distinct (numbers_of program hs)) ≡ true
handles-events program world hs few k e = rw (all-numbers program hs few k) (distinct program world [] hs few e)
