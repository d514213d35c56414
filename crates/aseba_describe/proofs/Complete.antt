-- What a plain project says is taken, line by line, and comes to the project.
use Rattle.std.proofs.Common.{◌≡◌, ℕ, ◌+◌, ◌-◌, ◌<◌, ◌≤◌, true, nat_lt, List, [], ◌∷◌, ◌++◌, length, map, Some, refl, sym, ap, ◌∙◌, arith, append_assoc, append-nil, length-append}
use Rattle.std.specs.List.{All}
use Rattle.std.proofs.lemmas.Grind.{common_steps}
use Rattle.std.proofs.lemmas.List.{map-append}
use Rattle.std.proofs.lemmas.List.Sums.{sum_by-append}
use Rattle.std.proofs.lemmas.List.Elements.{All-nil, All-cons, All-append, All-map}
use Rattle.aseba_tree.specs.Inside.{named_cells}
use Rattle.aseba_tree.specs.declared.description.Sized.{Sized}
use Rattle.aseba_tree.specs.declared.description.Local.{Local}
use Rattle.aseba_tree.specs.declared.description.Native.{Native}
use Rattle.aseba_tree.specs.declared.project.Const.{Const}
use Rattle.aseba_tree.specs.declared.project.Project.{Project}
use Rattle.aseba_describe.specs.declared.entry.Entry.{Entry}
use Rattle.aseba_describe.specs.declared.entry.Entry.TheVariants as entry
use Rattle.aseba_describe.specs.declared.draft.Draft.{Draft}
use Rattle.aseba_describe.specs.declared.kind.Kind.{Kind}
use Rattle.aseba_describe.specs.declared.kind.Kind.TheVariants as kind
use Rattle.aseba_describe.specs.Kinds.{rank_of, may_follow}
use Rattle.aseba_text.specs.Names.{are_distinct}
use Rattle.aseba_describe.specs.Plain.{IsPlain}
use Rattle.aseba_describe.specs.Spelling.{node_entries, entries}
use Rattle.aseba_describe.specs.Grammar.{ProjectLines}
use Rattle.aseba_describe.specs.Reading.{is_new, with_variable, with_local, with_native, with_event, with_const, with_entry, empty_draft, project_of}
use Rattle.aseba_text.proofs.Options.{when_true, and_true, bind_some}
use Rattle.aseba_describe.proofs.Apart.{new_at}
use Rattle.aseba_describe.proofs.EntryLaws.{PlainEntry}
use Rattle.aseba_describe.proofs.Folded.{told, told_on, taken, taken_told, taken_spoken}
use Rattle.aseba_describe.proofs.Sound.{front_names, back_names}
use Rattle.aseba_text.proofs.CellLaws.{leb_from}

-- what is known behind the needed lines of a project and some of the others
abbrev pub state : Project → Kind → List Sized → List Local → List Native → List Sized → List Const → Draft
state p next vs ls ns es cs = record {
  next = next;
  name = p.node.name;
  code = p.node.code;
  cells = p.node.cells;
  stack = p.node.stack;
  id = p.id;
  variables = vs;
  locals = ls;
  natives = ns;
  events = es;
  consts = cs;
  left = p.node.cells - named_cells vs;
  cell_names = map (λ v. v.name) vs ++ map (λ c. c.name) cs;
  event_names = map (λ l. l.name) ls ++ map (λ e. e.name) es;
  native_names = map (λ n. n.name) ns;
}

started : (p : Project) → told empty_draft (node_entries p) ≡ Some (state p kind.Variable [] [] [] [] [])
unfolding with_entry
started p =
    let all : p.node.cells ≡ p.node.cells - 0 = omega arith in
    ap (λ n. Some (record (state p kind.Variable [] [] [] [] []) { left = n })) all

is_below : (a b : ℕ) → a < b → nat_lt a b ≡ true
is_below a b h = grind (arith, common_steps)

follows : (next this : Kind) → 5 ≤ rank_of next → rank_of next ≤ rank_of this → may_follow next this ≡ true
follows next this h k = and_true _ _ (leb_from 5 (rank_of next) h) (leb_from (rank_of next) (rank_of this) k)

-- fewer elements come before one of a list than the list may have
fewer : {A : Type 0} (most : ℕ) (front : List A) (x : A) (back all : List A) → front ++ x ∷ back ≡ all → length all ≤ most → length front < most
fewer {A} most front x back all e h = omega (arith, ap length e, length-append {A = A} front (x ∷ back))

named_append : (front : List Sized) (v : Sized) (back : List Sized) → named_cells (front ++ v ∷ back) ≡ named_cells front + v.size + named_cells back
named_append front v back =
    let k : named_cells (v ∷ []) ≡ 0 + v.size = refl in
    omega (arith, sum_by-append (λ (x : Sized). x.size) front (v ∷ back), sum_by-append (λ (x : Sized). x.size) (v ∷ []) back, k)

-- names of lists, the first of which is cut at a name
front_cut : {A B : Type 0} (f : A → List ℕ) (g : B → List ℕ) (front : List A) (x : A) (back all : List A) (others : List B)
    → front ++ x ∷ back ≡ all → map f all ++ map g others ≡ map f front ++ f x ∷ (map f back ++ map g others)
front_cut f g front x back all others e =
    ap (λ l. map f l ++ map g others) (sym e) ∙ ap (λ l. l ++ map g others) (map-append f front (x ∷ back))
    ∙ append_assoc (map f front) (f x ∷ map f back) (map g others)

-- and the second
back_cut : {A B : Type 0} (f : A → List ℕ) (g : B → List ℕ) (others : List A) (front : List B) (x : B) (back all : List B)
    → front ++ x ∷ back ≡ all → map f others ++ map g all ≡ map f others ++ map g front ++ g x ∷ map g back
back_cut f g others front x back all e =
    ap (λ l. map f others ++ map g l) (sym e) ∙ ap (λ l. map f others ++ l) (map-append g front (x ∷ back))
    ∙ sym (append_assoc (map f others) (map g front) (g x ∷ map g back))

front_new : {A B : Type 0} (f : A → List ℕ) (g : B → List ℕ) (front : List A) (x : A) (back all : List A) (others : List B)
    → front ++ x ∷ back ≡ all → are_distinct (map f all ++ map g others) ≡ true → is_new (f x) (map f front ++ []) ≡ true
front_new f g front x back all others e h =
    ap (is_new (f x)) (append-nil (map f front))
    ∙ new_at (map f front) (f x) (map f back ++ map g others) (ap are_distinct (sym (front_cut f g front x back all others e)) ∙ h)

back_new : {A B : Type 0} (f : A → List ℕ) (g : B → List ℕ) (others : List A) (front : List B) (x : B) (back all : List B)
    → front ++ x ∷ back ≡ all → are_distinct (map f others ++ map g all) ≡ true → is_new (g x) (map f others ++ map g front) ≡ true
back_new f g others front x back all e h =
    new_at (map f others ++ map g front) (g x) (map g back) (ap are_distinct (sym (back_cut f g others front x back all e)) ∙ h)

variable_in : (p : Project) → IsPlain p → (front : List Sized) (v : Sized) (back : List Sized) → front ++ v ∷ back ≡ p.node.variables
    → with_entry (state p kind.Variable front [] [] [] []) (entry.Variable v) ≡ Some (state p kind.Variable (front ++ v ∷ []) [] [] [] [])
unfolding with_entry with_variable
variable_in p plain front v back e =
    let few = fewer 256 front v back p.node.variables e plain.inside.node.variables.each.few in
    let size : v.size ≤ p.node.cells - named_cells front =
    omega (arith, ap named_cells e, named_append front v back, plain.inside.node.variables.room) in
    let left : p.node.cells - named_cells front - v.size ≡ p.node.cells - named_cells (front ++ v ∷ []) = omega (arith, named_append front v []) in
    when_true _ _ (and_true _ _ (and_true _ _ (and_true _ _ refl (is_below _ _ few)) (leb_from _ _ size))
    (front_new (λ x. x.name) (λ x. x.name) front v back p.node.variables p.consts e plain.names.cells))
    ∙ ap (λ n. Some (record (state p kind.Variable (front ++ v ∷ []) [] [] [] []) { left = n; cell_names = map (λ x. x.name) front ++ [] ++ v.name ∷ [] })) left
    ∙ ap (λ l. Some (record (state p kind.Variable (front ++ v ∷ []) [] [] [] []) { cell_names = l })) (front_names (λ x. x.name) (λ (c : Const). c.name) front v [] refl)

variables_told : (p : Project) → IsPlain p → (vs front : List Sized) → front ++ vs ≡ p.node.variables
    → told (state p kind.Variable front [] [] [] []) (map (λ v. entry.Variable v) vs) ≡ Some (state p kind.Variable p.node.variables [] [] [] [])
variables_told p plain [] front e = ap (λ l. Some (state p kind.Variable l [] [] [] [])) (sym (append-nil front) ∙ e)
variables_told p plain (v ∷ vs) front e =
    bind_some _ _ (state p kind.Variable (front ++ v ∷ []) [] [] [] []) (variable_in p plain front v vs e)
    ∙ variables_told p plain vs (front ++ v ∷ []) (append_assoc front (v ∷ []) vs ∙ e)

-- what lines of a kind come to, where the kinds before it may have none
pub record Reaches (d : Draft) (es : List Entry) (rank : ℕ) (to : Kind → Draft) : Type 0 where
  pub next : Kind
  pub least : 5 ≤ rank_of next
  pub most : rank_of next ≤ rank
  pub read : told d es ≡ Some (to next)

local_in : (p : Project) → IsPlain p → (next : Kind) → 5 ≤ rank_of next → rank_of next ≤ 6 → (vs : List Sized) (front : List Local) (l : Local) (back : List Local) → front ++ l ∷ back ≡ p.node.locals
    → with_entry (state p next vs front [] [] []) (entry.Local l) ≡ Some (state p kind.Local vs (front ++ l ∷ []) [] [] [])
unfolding with_entry with_local
local_in p plain next least most vs front l back e =
    when_true _ _ (and_true _ _ (and_true _ _ (follows next kind.Local least most) (is_below _ _ (fewer 64 front l back p.node.locals e plain.inside.node.locals.few)))
    (front_new (λ x. x.name) (λ x. x.name) front l back p.node.locals p.events e plain.names.events))
    ∙ ap (λ r. Some (record (state p kind.Local vs (front ++ l ∷ []) [] [] []) { event_names = r })) (front_names (λ x. x.name) (λ (s : Sized). s.name) front l [] refl)

locals_told : (p : Project) → IsPlain p → (vs : List Sized) (ls front : List Local) (next : Kind) → 5 ≤ rank_of next → rank_of next ≤ 6 → front ++ ls ≡ p.node.locals
    → Reaches (state p next vs front [] [] []) (map (λ l. entry.Local l) ls) 6 (λ n. state p n vs p.node.locals [] [] [])
locals_told p plain vs [] front next least most e = record {
  next = next;
  least = least;
  most = most;
  read = ap (λ l. Some (state p next vs l [] [] [])) (sym (append-nil front) ∙ e);
}
locals_told p plain vs (l ∷ ls) front next least most e =
    let r = locals_told p plain vs ls (front ++ l ∷ []) kind.Local (omega arith) (omega arith) (append_assoc front (l ∷ []) ls ∙ e) in
    record {
      next = r.next;
      least = r.least;
      most = r.most;
      read = bind_some _ _ (state p kind.Local vs (front ++ l ∷ []) [] [] []) (local_in p plain next least most vs front l ls e) ∙ r.read;
    }

native_in : (p : Project) → IsPlain p → (next : Kind) → 5 ≤ rank_of next → rank_of next ≤ 7 → (vs : List Sized) (ls : List Local) (front : List Native) (n : Native) (back : List Native)
    → front ++ n ∷ back ≡ p.node.natives
    → with_entry (state p next vs ls front [] []) (entry.Native n) ≡ Some (state p kind.Native vs ls (front ++ n ∷ []) [] [])
unfolding with_entry with_native
native_in p plain next least most vs ls front n back e =
    when_true _ _ (and_true _ _ (and_true _ _ (follows next kind.Native least most) (is_below _ _ (fewer 64 front n back p.node.natives e plain.inside.node.natives.few)))
    (new_at (map (λ x. x.name) front) n.name (map (λ x. x.name) back)
    (ap are_distinct (sym (map-append (λ x. x.name) front (n ∷ back)) ∙ ap (map (λ x. x.name)) e) ∙ plain.names.natives)))
    ∙ ap (λ r. Some (record (state p kind.Native vs ls (front ++ n ∷ []) [] []) { native_names = r })) (sym (map-append (λ x. x.name) front (n ∷ [])))

natives_told : (p : Project) → IsPlain p → (vs : List Sized) (ls : List Local) (ns front : List Native) (next : Kind) → 5 ≤ rank_of next → rank_of next ≤ 7 → front ++ ns ≡ p.node.natives
    → Reaches (state p next vs ls front [] []) (map (λ n. entry.Native n) ns) 7 (λ n. state p n vs ls p.node.natives [] [])
natives_told p plain vs ls [] front next least most e = record {
  next = next;
  least = least;
  most = most;
  read = ap (λ l. Some (state p next vs ls l [] [])) (sym (append-nil front) ∙ e);
}
natives_told p plain vs ls (n ∷ ns) front next least most e =
    let r = natives_told p plain vs ls ns (front ++ n ∷ []) kind.Native (omega arith) (omega arith) (append_assoc front (n ∷ []) ns ∙ e) in
    record {
      next = r.next;
      least = r.least;
      most = r.most;
      read = bind_some _ _ (state p kind.Native vs ls (front ++ n ∷ []) [] []) (native_in p plain next least most vs ls front n ns e) ∙ r.read;
    }

event_in : (p : Project) → IsPlain p → (next : Kind) → 5 ≤ rank_of next → rank_of next ≤ 8 → (vs : List Sized) (ns : List Native) (front : List Sized) (v : Sized) (back : List Sized)
    → front ++ v ∷ back ≡ p.events
    → with_entry (state p next vs p.node.locals ns front []) (entry.Event v) ≡ Some (state p kind.Event vs p.node.locals ns (front ++ v ∷ []) [])
unfolding with_entry with_event
event_in p plain next least most vs ns front v back e =
    when_true _ _ (and_true _ _ (and_true _ _ (follows next kind.Event least most) (is_below _ _ (fewer 256 front v back p.events e plain.inside.events.few)))
    (back_new (λ x. x.name) (λ x. x.name) p.node.locals front v back p.events e plain.names.events))
    ∙ ap (λ r. Some (record (state p kind.Event vs p.node.locals ns (front ++ v ∷ []) []) { event_names = r })) (back_names (λ x. x.name) (λ x. x.name) p.node.locals front v)

events_told : (p : Project) → IsPlain p → (vs : List Sized) (ns : List Native) (es front : List Sized) (next : Kind) → 5 ≤ rank_of next → rank_of next ≤ 8 → front ++ es ≡ p.events
    → Reaches (state p next vs p.node.locals ns front []) (map (λ v. entry.Event v) es) 8 (λ n. state p n vs p.node.locals ns p.events [])
events_told p plain vs ns [] front next least most e = record {
  next = next;
  least = least;
  most = most;
  read = ap (λ l. Some (state p next vs p.node.locals ns l [])) (sym (append-nil front) ∙ e);
}
events_told p plain vs ns (v ∷ es) front next least most e =
    let r = events_told p plain vs ns es (front ++ v ∷ []) kind.Event (omega arith) (omega arith) (append_assoc front (v ∷ []) es ∙ e) in
    record {
      next = r.next;
      least = r.least;
      most = r.most;
      read = bind_some _ _ (state p kind.Event vs p.node.locals ns (front ++ v ∷ []) []) (event_in p plain next least most vs ns front v es e) ∙ r.read;
    }

const_in : (p : Project) → IsPlain p → (next : Kind) → 5 ≤ rank_of next → rank_of next ≤ 9 → (ls : List Local) (ns : List Native) (es : List Sized) (front : List Const) (c : Const) (back : List Const)
    → front ++ c ∷ back ≡ p.consts
    → with_entry (state p next p.node.variables ls ns es front) (entry.Const c) ≡ Some (state p kind.Const p.node.variables ls ns es (front ++ c ∷ []))
unfolding with_entry with_const
const_in p plain next least most ls ns es front c back e =
    when_true _ _ (and_true _ _ (and_true _ _ (follows next kind.Const least most) (is_below _ _ (fewer 512 front c back p.consts e plain.inside.consts.few)))
    (back_new (λ x. x.name) (λ x. x.name) p.node.variables front c back p.consts e plain.names.cells))
    ∙ ap (λ r. Some (record (state p kind.Const p.node.variables ls ns es (front ++ c ∷ [])) { cell_names = r })) (back_names (λ x. x.name) (λ x. x.name) p.node.variables front c)

consts_told : (p : Project) → IsPlain p → (ls : List Local) (ns : List Native) (es : List Sized) (cs front : List Const) (next : Kind) → 5 ≤ rank_of next → rank_of next ≤ 9 → front ++ cs ≡ p.consts
    → Reaches (state p next p.node.variables ls ns es front) (map (λ c. entry.Const c) cs) 9 (λ n. state p n p.node.variables ls ns es p.consts)
consts_told p plain ls ns es [] front next least most e = record {
  next = next;
  least = least;
  most = most;
  read = ap (λ l. Some (state p next p.node.variables ls ns es l)) (sym (append-nil front) ∙ e);
}
consts_told p plain ls ns es (c ∷ cs) front next least most e =
    let r = consts_told p plain ls ns es cs (front ++ c ∷ []) kind.Const (omega arith) (omega arith) (append_assoc front (c ∷ []) cs ∙ e) in
    record {
      next = r.next;
      least = r.least;
      most = r.most;
      read = bind_some _ _ (state p kind.Const p.node.variables ls ns es (front ++ c ∷ [])) (const_in p plain next least most ls ns es front c cs e) ∙ r.read;
    }

-- what a project says may be said
plain_needed : (p : Project) → IsPlain p → All PlainEntry (node_entries p)
plain_needed p plain =
    All-cons PlainEntry (entry.Node p.node.name) (entry.Code p.node.code ∷ entry.Vars p.node.cells ∷ entry.Stack p.node.stack ∷ entry.Id p.id ∷ []) plain.parts.node.name
    (All-cons PlainEntry (entry.Code p.node.code) (entry.Vars p.node.cells ∷ entry.Stack p.node.stack ∷ entry.Id p.id ∷ []) plain.inside.node.code
    (All-cons PlainEntry (entry.Vars p.node.cells) (entry.Stack p.node.stack ∷ entry.Id p.id ∷ []) plain.inside.node.cells
    (All-cons PlainEntry (entry.Stack p.node.stack) (entry.Id p.id ∷ []) plain.inside.node.stack
    (All-cons PlainEntry (entry.Id p.id) [] plain.parts.id (All-nil PlainEntry)))))

five_joined : (a b c d e f : List Entry) → All PlainEntry a → All PlainEntry b → All PlainEntry c → All PlainEntry d → All PlainEntry e → All PlainEntry f
    → All PlainEntry (a ++ b ++ c ++ d ++ e ++ f)
five_joined a b c d e f g h i j k l =
    All-append PlainEntry (a ++ b ++ c ++ d ++ e) f (All-append PlainEntry (a ++ b ++ c ++ d) e (All-append PlainEntry (a ++ b ++ c) d
    (All-append PlainEntry (a ++ b) c (All-append PlainEntry a b g h) i) j) k) l

pub plain_entries : (p : Project) → IsPlain p → All PlainEntry (entries p)
plain_entries p plain =
    five_joined (node_entries p) (map (λ v. entry.Variable v) p.node.variables) (map (λ l. entry.Local l) p.node.locals) (map (λ n. entry.Native n) p.node.natives)
    (map (λ v. entry.Event v) p.events) (map (λ c. entry.Const c) p.consts) (plain_needed p plain)
    (All-map PlainEntry (λ v. entry.Variable v) p.node.variables (λ k d lt. (plain.inside.node.variables.each.each k d lt, plain.parts.node.variables k d lt)))
    (All-map PlainEntry (λ l. entry.Local l) p.node.locals (λ k d lt. (plain.inside.node.locals.each k d lt, plain.parts.node.locals k d lt)))
    (All-map PlainEntry (λ n. entry.Native n) p.node.natives (λ k d lt. (plain.inside.node.natives.each k d lt, plain.parts.node.natives k d lt)))
    (All-map PlainEntry (λ v. entry.Event v) p.events (λ k d lt. (plain.inside.events.each k d lt, plain.parts.events k d lt)))
    (All-map PlainEntry (λ c. entry.Const c) p.consts (λ k d lt. (plain.inside.consts.each k d lt, plain.parts.consts k d lt)))

-- what a project says, up to the end of a kind
abbrev pub up_to_variables : Project → List Entry
up_to_variables p = node_entries p ++ map (λ v. entry.Variable v) p.node.variables

abbrev pub up_to_locals : Project → List Entry
up_to_locals p = up_to_variables p ++ map (λ l. entry.Local l) p.node.locals

abbrev pub up_to_natives : Project → List Entry
up_to_natives p = up_to_locals p ++ map (λ n. entry.Native n) p.node.natives

abbrev pub up_to_events : Project → List Entry
up_to_events p = up_to_natives p ++ map (λ v. entry.Event v) p.events

with_variables : (p : Project) → IsPlain p → told empty_draft (up_to_variables p) ≡ Some (state p kind.Variable p.node.variables [] [] [] [])
with_variables p plain =
    told_on empty_draft (state p kind.Variable [] [] [] [] []) (node_entries p) (map (λ v. entry.Variable v) p.node.variables) (started p)
    ∙ variables_told p plain p.node.variables [] refl

with_locals : (p : Project) → IsPlain p → Reaches empty_draft (up_to_locals p) 6 (λ n. state p n p.node.variables p.node.locals [] [] [])
with_locals p plain =
    let r = locals_told p plain p.node.variables p.node.locals [] kind.Variable (omega arith) (omega arith) refl in
    record {
      next = r.next;
      least = r.least;
      most = r.most;
      read =
          told_on empty_draft (state p kind.Variable p.node.variables [] [] [] []) (up_to_variables p) (map (λ l. entry.Local l) p.node.locals) (with_variables p plain)
          ∙ r.read;
    }

with_natives : (p : Project) → IsPlain p → Reaches empty_draft (up_to_natives p) 7 (λ n. state p n p.node.variables p.node.locals p.node.natives [] [])
with_natives p plain =
    let f = with_locals p plain in
    let r = natives_told p plain p.node.variables p.node.locals p.node.natives [] f.next f.least (omega (arith, f.most)) refl in
    record {
      next = r.next;
      least = r.least;
      most = r.most;
      read =
          told_on empty_draft (state p f.next p.node.variables p.node.locals [] [] []) (up_to_locals p) (map (λ n. entry.Native n) p.node.natives) f.read
          ∙ r.read;
    }

with_events : (p : Project) → IsPlain p → Reaches empty_draft (up_to_events p) 8 (λ n. state p n p.node.variables p.node.locals p.node.natives p.events [])
with_events p plain =
    let f = with_natives p plain in
    let r = events_told p plain p.node.variables p.node.natives p.events [] f.next f.least (omega (arith, f.most)) refl in
    record {
      next = r.next;
      least = r.least;
      most = r.most;
      read =
          told_on empty_draft (state p f.next p.node.variables p.node.locals p.node.natives [] []) (up_to_natives p) (map (λ v. entry.Event v) p.events) f.read
          ∙ r.read;
    }

with_all : (p : Project) → IsPlain p → Reaches empty_draft (entries p) 9 (λ n. state p n p.node.variables p.node.locals p.node.natives p.events p.consts)
with_all p plain =
    let f = with_events p plain in
    let r = consts_told p plain p.node.locals p.node.natives p.events p.consts [] f.next f.least (omega (arith, f.most)) refl in
    record {
      next = r.next;
      least = r.least;
      most = r.most;
      read =
          told_on empty_draft (state p f.next p.node.variables p.node.locals p.node.natives p.events []) (up_to_events p) (map (λ c. entry.Const c) p.consts) f.read
          ∙ r.read;
    }

-- Lines come to a project.
pub record ComesTo (rows : List (List ℕ)) (p : Project) : Type 0 where
  pub known : Draft
  pub read : taken empty_draft rows ≡ Some known
  pub whole : 5 ≤ rank_of known.next
  pub same : project_of known ≡ p

pub comes_to : (rows : List (List ℕ)) (p : Project) → ProjectLines rows p → ComesTo rows p
comes_to rows p lines =
    let r = with_all p lines.plain in
    record {
      known = state p r.next p.node.variables p.node.locals p.node.natives p.events p.consts;
      read =
          sym (taken_spoken empty_draft rows) ∙ ap (taken empty_draft) lines.said
          ∙ taken_told empty_draft (entries p) (plain_entries p lines.plain) ∙ r.read;
      whole = r.least;
      same = refl;
    }
