-- An event that arrives finds its handler by its number as it does by its name.
use Rattle.std.proofs.Common.{inl, inr, ◌≡◌, refl, sym, ◌∙◌, ap, subst, ℕ, ◌+◌, ◌-◌, ◌≤◌, ◌<◌, Bool, true, false, not, ◌&&◌, ◌||◌, if◌then◌else◌, List, [], ◌∷◌, arith, Option, Some, None, is_some, length, map, nat_lt, nat_le, nat_eq, eqb-true, eq-eqb, lt-ltb, le-leb}
use Rattle.std.specs.Bool.{beq}
use Rattle.std.specs.Option.{option_eq}
use Rattle.std.specs.Prelude.{bytes_eq}
use Rattle.std.proofs.lemmas.Slice.Eq.{bytes_eq-Decides}
use Rattle.aseba_tree.specs.Arrival.{handler_of}
use Rattle.aseba_tree.specs.Code.{Name, Handler, Project}
use Rattle.aseba_tree.specs.CoreStep.{handler_among, core_handler_of, core_list_whens}
use Rattle.aseba_tree.specs.Events.{event_number, is_event_number}
use Rattle.aseba_tree.specs.GoodScript.{is_good_event}
use Rattle.aseba_tree.specs.Line.{Event, named, numbered}
use Rattle.aseba_tree.specs.State.{Program, list_whens, part_among, init_code}
use Rattle.aseba_expand.specs.Plain.{plain_part, plain_core, plain_program}
use Rattle.aseba_expand.proofs.Arrivals.{FoundAlike}
use Rattle.aseba_expand.proofs.EventNumbers.{AreFew, Numbered, numbered-as, one-number, KnownParts}
use Rattle.aseba_expand.proofs.Ready.{Ready, ReadyParts}
use Rattle.aseba_expand.proofs.Tasks.{body-whens}

-- no name has the number
abbrev pub Nameless : Project → ℕ → Type 0
Nameless project k = (name : Name) → event_number project (named name) ≡ Some k → ⊥

-- a number that is none of the project's has no name
nameless : (project : Project) (n : ℕ) → AreFew project → is_event_number project n ≡ false → Nameless project n
nameless project n few e name has = by (numbered-as project name n has) e
  where
    clash : (a b : Bool) → a ≡ true → (a || b) ≡ false → ⊥
    clash true b p q = cc
    clash false b p q = cc

    clash_too : (a b c : Bool) → b ≡ true → c ≡ true → (a || b && c) ≡ false → ⊥
    clash_too true b c p q r = cc
    clash_too false true true p q r = cc
    clash_too false true false p q r = cc
    clash_too false false c p q r = cc

    by : Numbered project name n → (nat_lt n (length project.events) || nat_le n 0xFFFE && nat_lt (0xFFFE - n) (length project.node.locals)) ≡ false → ⊥
    by (inl place) e =
        let small : n < length project.events = (let s = place.same in let l = place.less in omega (arith, s, l)) in
        let is = lt-ltb n (length project.events) small in
        clash (nat_lt n (length project.events)) (nat_le n 0xFFFE && nat_lt (0xFFFE - n) (length project.node.locals)) is e
    by (inr place) e =
        let low : n ≤ 0xFFFE = omega (arith, place.1) in
        let back : 0xFFFE - n < length project.node.locals = omega (arith, place.0, place.1, few) in
        clash_too (nat_lt n (length project.events)) (nat_le n 0xFFFE) (nat_lt (0xFFFE - n) (length project.node.locals)) (le-leb n 0xFFFE low) (lt-ltb (0xFFFE - n) (length project.node.locals) back) e

good-nameless : (a b : Bool) → (a && not b) ≡ true → b ≡ false
good-nameless a false e = refl
good-nameless true true e = cc
good-nameless false true e = cc

-- Handlers

cc_of : false ≡ true → ⊥
cc_of e = cc

-- by a name that has a number
found-number : (program : Program) (name : Name) (k : ℕ) → AreFew program.project → event_number program.project (named name) ≡ Some k → (before : ℕ) (hs : List Handler) → KnownParts program hs → ReadyParts program hs
    → FoundAlike program (part_among false name before hs) (handler_among k before (map (plain_part program) hs))
found-number program name k few n before [] known good = tt
found-number program name k few n before (h ∷ hs) known good =
    pick h.is_sub refl (bytes_eq h.name name) refl (event_number program.project (named h.name)) refl (found-number program name k few n (before + list_whens h.body) hs known.1 good.1)
  where
    further : FoundAlike program (part_among false name (before + list_whens h.body) hs) (handler_among k (before + list_whens h.body) (map (plain_part program) hs))
        → FoundAlike program (part_among false name (before + list_whens h.body) hs) (handler_among k (before + core_list_whens (plain_part program h).body) (map (plain_part program) hs))
    further f = subst (λ m. FoundAlike program (part_among false name (before + list_whens h.body) hs) (handler_among k (before + m) (map (plain_part program) hs))) (sym (body-whens program h.body)) f

    pick : (s : Bool) → h.is_sub ≡ s → (b : Bool) → bytes_eq h.name name ≡ b → (o : Option ℕ) → event_number program.project (named h.name) ≡ o
        → FoundAlike program (part_among false name (before + list_whens h.body) hs) (handler_among k (before + list_whens h.body) (map (plain_part program) hs))
        → FoundAlike program (if beq s false && b then Some (before, h) else part_among false name (before + list_whens h.body) hs)
        (if option_eq nat_eq (if s then None else o) (Some k) then Some (before, plain_part program h) else handler_among k (before + core_list_whens (plain_part program h).body) (map (plain_part program) hs))
    pick true es b eb o eo deeper = further deeper
    pick false es true eb o eo deeper =
        let same : h.name ≡ name = (bytes_eq-Decides h.name name).0 eb in
        let number : o ≡ Some k = sym eo ∙ ap (λ m. event_number program.project (named m)) same ∙ n in
        rw (number, eq-eqb k k refl) (refl, refl, good.0)
    pick false es false eb None eo deeper = absurd (cc_of (ap is_some (sym eo) ∙ known.0 es))
    pick false es false eb (Some m) eo deeper = of (nat_eq m k) refl
      where
        of : (c : Bool) → nat_eq m k ≡ c → FoundAlike program (part_among false name (before + list_whens h.body) hs)
            (if c then Some (before, plain_part program h) else handler_among k (before + core_list_whens (plain_part program h).body) (map (plain_part program) hs))
        of false ec = further deeper
        of true ec =
            let same : m ≡ k = eqb-true m k ec in
            let one : h.name ≡ name = one-number program.project h.name name k few (numbered-as program.project h.name k (eo ∙ ap Some same)) (numbered-as program.project name k n) in
            let wrong : bytes_eq h.name name ≡ true = (bytes_eq-Decides h.name name).1 one in
            absurd (cc_of (sym eb ∙ wrong))

-- by a name that has none
found-none : (program : Program) (name : Name) → event_number program.project (named name) ≡ None → (before : ℕ) (hs : List Handler) → KnownParts program hs → FoundAlike program (part_among false name before hs) None
found-none program name n before [] known = tt
found-none program name n before (h ∷ hs) known = pick h.is_sub refl (bytes_eq h.name name) refl (found-none program name n (before + list_whens h.body) hs known.1)
  where
    pick : (s : Bool) → h.is_sub ≡ s → (b : Bool) → bytes_eq h.name name ≡ b → FoundAlike program (part_among false name (before + list_whens h.body) hs) None
        → FoundAlike program (if beq s false && b then Some (before, h) else part_among false name (before + list_whens h.body) hs) None
    pick true es b eb deeper = deeper
    pick false es false eb deeper = deeper
    pick false es true eb deeper =
        let same : h.name ≡ name = (bytes_eq-Decides h.name name).0 eb in
        absurd (cc_of (ap is_some (sym (ap (λ m. event_number program.project (named m)) same ∙ n)) ∙ known.0 es))

found-nameless : (program : Program) (k : ℕ) → Nameless program.project k → (before : ℕ) (hs : List Handler) → FoundAlike program None (handler_among k before (map (plain_part program) hs))
found-nameless program k none before [] = tt
found-nameless program k none before (h ∷ hs) = pick h.is_sub (event_number program.project (named h.name)) refl (found-nameless program k none (before + core_list_whens (plain_part program h).body) hs)
  where
    pick : (s : Bool) (o : Option ℕ) → event_number program.project (named h.name) ≡ o → FoundAlike program None (handler_among k (before + core_list_whens (plain_part program h).body) (map (plain_part program) hs))
        → FoundAlike program None (if option_eq nat_eq (if s then None else o) (Some k) then Some (before, plain_part program h) else handler_among k (before + core_list_whens (plain_part program h).body) (map (plain_part program) hs))
    pick true o eo deeper = deeper
    pick false None eo deeper = deeper
    pick false (Some m) eo deeper = of (nat_eq m k) refl
      where
        of : (c : Bool) → nat_eq m k ≡ c → FoundAlike program None (if c then Some (before, plain_part program h) else handler_among k (before + core_list_whens (plain_part program h).body) (map (plain_part program) hs))
        of false ec = deeper
        of true ec = absurd (none h.name (eo ∙ ap Some (eqb-true m k ec)))

-- Both find the handler of an event that has a name, or of a number that no event has.
pub event-found : (program : Program) (event : Event) → AreFew program.project → KnownParts program program.source.parts → Ready program → is_good_event program.project event ≡ true
    → FoundAlike program (handler_of program event) (core_handler_of (plain_program program) (event_number program.project event))
event-found program (numbered n) few known good given = found-nameless program n (nameless program.project n few (good-nameless (nat_lt n 0x8000) (is_event_number program.project n) given)) (core_list_whens (plain_core program).init) program.source.parts
event-found program (named name) few known good given = by (event_number program.project (named name)) refl
  where
    by : (o : Option ℕ) → event_number program.project (named name) ≡ o → FoundAlike program (part_among false name (list_whens (init_code program.source)) program.source.parts) (core_handler_of (plain_program program) o)
    by None e = found-none program name e (list_whens (init_code program.source)) program.source.parts known
    by (Some k) e =
        subst (λ m. FoundAlike program (part_among false name (list_whens (init_code program.source)) program.source.parts) (handler_among k m (map (plain_part program) program.source.parts))) (sym (body-whens program (init_code program.source)))
        (found-number program name k few e (list_whens (init_code program.source)) program.source.parts known good.parts)
