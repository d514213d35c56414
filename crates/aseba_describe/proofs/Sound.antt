-- What lines say, one behind the other, is what the project says that they come to.
use Rattle.std.proofs.Common.{◌≡◌, ℕ, ◌+◌, ◌<◌, ◌≤◌, true, nat_lt, List, [], ◌∷◌, ◌++◌, length, take, map, Some, refl, sym, ap, ◌∙◌, subst, arith, append_assoc, append-nil, length-append}
use Rattle.std.specs.List.{All}
use Rattle.std.proofs.lemmas.Bool.{eqb-true}
use Rattle.std.proofs.lemmas.Grind.{common_steps}
use Rattle.std.proofs.lemmas.List.{map-append, take_all}
use Rattle.std.proofs.lemmas.List.Sums.{sum_by-append}
use Rattle.std.proofs.lemmas.List.Elements.{All-nil, All-push, All-head, All-tail}
use Rattle.aseba_tree.specs.Inside.{IsFrom, IsUpTo, InsideSized, InsideLocal, InsideNative, InsideConst, named_cells}
use Rattle.aseba_tree.specs.declared.description.Sized.{Sized}
use Rattle.aseba_tree.specs.declared.description.Local.{Local}
use Rattle.aseba_tree.specs.declared.description.Native.{Native}
use Rattle.aseba_tree.specs.declared.project.Const.{Const}
use Rattle.aseba_describe.specs.declared.entry.Entry.{Entry}
use Rattle.aseba_describe.specs.declared.entry.Entry.TheVariants as entry
use Rattle.aseba_describe.specs.declared.draft.Draft.{Draft}
use Rattle.aseba_describe.specs.declared.kind.Kind.{Kind}
use Rattle.aseba_describe.specs.declared.kind.Kind.TheVariants as kind
use Rattle.aseba_describe.specs.Kinds.{rank_of, may_follow}
use Rattle.aseba_tree.specs.Tokens.{IsName}
use Rattle.aseba_text.specs.Names.{are_distinct}
use Rattle.aseba_describe.specs.Plain.{PlainSized, PlainLocal, PlainNative, PlainConst, IsPlain, cell_names, event_names, native_names}
use Rattle.aseba_describe.specs.Spelling.{node_entries, entries}
use Rattle.aseba_describe.specs.Reading.{is_new, with_variable, with_local, with_native, with_event, with_const, with_entry, empty_draft, project_of}
use Rattle.aseba_text.proofs.Options.{when_takes, and_takes, bind_takes}
use Rattle.aseba_describe.proofs.Apart.{distinct_more}
use Rattle.aseba_describe.proofs.EntryLaws.{PlainEntry}
use Rattle.aseba_describe.proofs.Folded.{told}
use Rattle.aseba_describe.proofs.Spelled.{short_is}
use Rattle.aseba_text.proofs.CellLaws.{leb_to}

-- what is said, of which some begins the needed lines
abbrev pub spread : List Entry → List Sized → List Local → List Native → List Sized → List Const → List Entry
spread front vs ls ns es cs =
    front
    ++ map (λ v. entry.Variable v) vs
    ++ map (λ l. entry.Local l) ls
    ++ map (λ n. entry.Native n) ns
    ++ map (λ e. entry.Event e) es
    ++ map (λ c. entry.Const c) cs

behind_map : {A : Type 0} (form : A → Entry) (front : List Entry) (xs : List A) (x : A)
    → (front ++ map form xs) ++ form x ∷ [] ≡ front ++ map form (xs ++ x ∷ [])
behind_map form front xs x = append_assoc front (map form xs) (form x ∷ []) ∙ ap (λ l. front ++ l) (sym (map-append form xs (x ∷ [])))

three_nils : (l : List Entry) → l ++ [] ++ [] ++ [] ≡ l
three_nils l = append-nil (l ++ [] ++ []) ∙ append-nil (l ++ []) ∙ append-nil l

nils : (l : List Entry) → l ++ [] ++ [] ++ [] ++ [] ≡ l
nils l = append-nil (l ++ [] ++ [] ++ []) ∙ three_nils l

node_told : (a b : List Entry) (e : Entry) (vs : List Sized) (ls : List Local) (ns : List Native) (es : List Sized) (cs : List Const)
    → vs ≡ [] → ls ≡ [] → ns ≡ [] → es ≡ [] → cs ≡ [] → a ++ e ∷ [] ≡ b → spread a vs ls ns es cs ++ e ∷ [] ≡ spread b vs ls ns es cs
node_told a b e [] [] [] [] [] p q r s t h =
    ap (λ l. l ++ e ∷ []) (nils (a ++ []) ∙ append-nil a) ∙ h ∙ sym (nils (b ++ []) ∙ append-nil b)
node_told a b e (x ∷ xs) ls ns es cs p q r s t h = absurd cc
node_told a b e [] (x ∷ xs) ns es cs p q r s t h = absurd cc
node_told a b e [] [] (x ∷ xs) es cs p q r s t h = absurd cc
node_told a b e [] [] [] (x ∷ xs) cs p q r s t h = absurd cc
node_told a b e [] [] [] [] (x ∷ xs) p q r s t h = absurd cc

variable_told : (a : List Entry) (vs : List Sized) (v : Sized) (ls : List Local) (ns : List Native) (es : List Sized) (cs : List Const)
    → ls ≡ [] → ns ≡ [] → es ≡ [] → cs ≡ [] → spread a vs ls ns es cs ++ entry.Variable v ∷ [] ≡ spread a (vs ++ v ∷ []) ls ns es cs
variable_told a vs v [] [] [] [] q r s t =
    ap (λ l. l ++ entry.Variable v ∷ []) (nils (a ++ map (λ v. entry.Variable v) vs)) ∙ behind_map (λ v. entry.Variable v) a vs v
    ∙ sym (nils (a ++ map (λ v. entry.Variable v) (vs ++ v ∷ [])))
variable_told a vs v (x ∷ xs) ns es cs q r s t = absurd cc
variable_told a vs v [] (x ∷ xs) es cs q r s t = absurd cc
variable_told a vs v [] [] (x ∷ xs) cs q r s t = absurd cc
variable_told a vs v [] [] [] (x ∷ xs) q r s t = absurd cc

local_told : (a : List Entry) (ls : List Local) (l : Local) (ns : List Native) (es : List Sized) (cs : List Const)
    → ns ≡ [] → es ≡ [] → cs ≡ [] → a ++ map (λ l. entry.Local l) ls ++ map (λ n. entry.Native n) ns ++ map (λ e. entry.Event e) es ++ map (λ c. entry.Const c) cs ++ entry.Local l ∷ []
    ≡ a ++ map (λ l. entry.Local l) (ls ++ l ∷ []) ++ map (λ n. entry.Native n) ns ++ map (λ e. entry.Event e) es ++ map (λ c. entry.Const c) cs
local_told a ls l [] [] [] r s t =
    ap (λ x. x ++ entry.Local l ∷ []) (three_nils (a ++ map (λ l. entry.Local l) ls))
    ∙ behind_map (λ l. entry.Local l) a ls l
    ∙ sym (three_nils (a ++ map (λ l. entry.Local l) (ls ++ l ∷ [])))
local_told a ls l (x ∷ xs) es cs r s t = absurd cc
local_told a ls l [] (x ∷ xs) cs r s t = absurd cc
local_told a ls l [] [] (x ∷ xs) r s t = absurd cc

native_told : (a : List Entry) (ns : List Native) (n : Native) (es : List Sized) (cs : List Const)
    → es ≡ [] → cs ≡ [] → a ++ map (λ n. entry.Native n) ns ++ map (λ e. entry.Event e) es ++ map (λ c. entry.Const c) cs ++ entry.Native n ∷ []
    ≡ a ++ map (λ n. entry.Native n) (ns ++ n ∷ []) ++ map (λ e. entry.Event e) es ++ map (λ c. entry.Const c) cs
native_told a ns n [] [] s t =
    ap (λ x. x ++ entry.Native n ∷ []) (append-nil (a ++ map (λ n. entry.Native n) ns ++ []) ∙ append-nil (a ++ map (λ n. entry.Native n) ns))
    ∙ behind_map (λ n. entry.Native n) a ns n
    ∙ sym (append-nil (a ++ map (λ n. entry.Native n) (ns ++ n ∷ []) ++ []) ∙ append-nil (a ++ map (λ n. entry.Native n) (ns ++ n ∷ [])))
native_told a ns n (x ∷ xs) cs s t = absurd cc
native_told a ns n [] (x ∷ xs) s t = absurd cc

event_told : (a : List Entry) (es : List Sized) (e : Sized) (cs : List Const)
    → cs ≡ [] → a ++ map (λ e. entry.Event e) es ++ map (λ c. entry.Const c) cs ++ entry.Event e ∷ [] ≡ a ++ map (λ e. entry.Event e) (es ++ e ∷ []) ++ map (λ c. entry.Const c) cs
event_told a es e [] t =
    ap (λ x. x ++ entry.Event e ∷ []) (append-nil (a ++ map (λ e. entry.Event e) es))
    ∙ behind_map (λ e. entry.Event e) a es e
    ∙ sym (append-nil (a ++ map (λ e. entry.Event e) (es ++ e ∷ [])))
event_told a es e (x ∷ xs) t = absurd cc

-- A kind whose turn hasn't come has nothing yet.
pub record Later (next : ℕ) (vs : List Sized) (ls : List Local) (ns : List Native) (es : List Sized) (cs : List Const) : Type 0 where
  pub variables : next < 5 → vs ≡ []
  pub locals : next < 6 → ls ≡ []
  pub natives : next < 7 → ns ≡ []
  pub events : next < 8 → es ≡ []
  pub consts : next < 9 → cs ≡ []

-- Needed lines that were passed.
pub record Begun (next : ℕ) (named : List ℕ) (words most deep own : ℕ) : Type 0 where
  pub name : 1 ≤ next → IsName named
  pub code : 2 ≤ next → IsFrom 4 32767 words
  pub cells : 3 ≤ next → IsFrom 1 4096 most
  pub stack : 4 ≤ next → IsFrom 1 1024 deep
  pub id : 5 ≤ next → IsFrom 1 65535 own

-- the lists of a project that are inside and plain
pub record Listed (vs : List Sized) (ls : List Local) (ns : List Native) (es : List Sized) (cs : List Const) : Type 0 where
  pub variables : IsUpTo 256 (InsideSized 1 4096) vs
  pub locals : IsUpTo 64 InsideLocal ls
  pub natives : IsUpTo 64 InsideNative ns
  pub events : IsUpTo 256 (InsideSized 0 256) es
  pub consts : IsUpTo 512 InsideConst cs
  pub plain_variables : All PlainSized vs
  pub plain_locals : All PlainLocal ls
  pub plain_natives : All PlainNative ns
  pub plain_events : All PlainSized es
  pub plain_consts : All PlainConst cs

-- names that were kept to find those that stand twice
pub record Kept (names : List (List ℕ)) (all : List (List ℕ)) : Type 0 where
  pub same : names ≡ all
  pub distinct : are_distinct names ≡ true

-- What was said came to what is known.
pub record Sound (d : Draft) (said : List Entry) : Type 0 where
  pub spelled : said ≡ spread (take (rank_of d.next) (node_entries (project_of d))) d.variables d.locals d.natives d.events d.consts
  pub later : Later (rank_of d.next) d.variables d.locals d.natives d.events d.consts
  pub begun : Begun (rank_of d.next) d.name d.code d.cells d.stack d.id
  pub listed : Listed d.variables d.locals d.natives d.events d.consts
  pub room : d.left + named_cells d.variables ≡ d.cells
  pub cells : Kept d.cell_names (cell_names (project_of d))
  pub events : Kept d.event_names (event_names (project_of d))
  pub natives : Kept d.native_names (native_names (project_of d))

pub none_said : Sound empty_draft []
none_said = record {
  spelled = refl;
  later = record { variables = λ h. refl; locals = λ h. refl; natives = λ h. refl; events = λ h. refl; consts = λ h. refl };
  begun = record { name = λ h. absurd (omega arith); code = λ h. absurd (omega arith); cells = λ h. absurd (omega arith); stack = λ h. absurd (omega arith); id = λ h. absurd (omega arith) };
  listed = record {
    variables = record { few = omega arith; each = All-nil (InsideSized 1 4096) };
    locals = record { few = omega arith; each = All-nil InsideLocal };
    natives = record { few = omega arith; each = All-nil InsideNative };
    events = record { few = omega arith; each = All-nil (InsideSized 0 256) };
    consts = record { few = omega arith; each = All-nil InsideConst };
    plain_variables = All-nil PlainSized;
    plain_locals = All-nil PlainLocal;
    plain_natives = All-nil PlainNative;
    plain_events = All-nil PlainSized;
    plain_consts = All-nil PlainConst;
  };
  room = refl;
  cells = record { same = refl; distinct = refl };
  events = record { same = refl; distinct = refl };
  natives = record { same = refl; distinct = refl };
}

one_more : {A : Type 0} (most : ℕ) (P : A → Type 0) (xs : List A) (x : A) → IsUpTo most P xs → length xs < most → P x → IsUpTo most P (xs ++ x ∷ [])
one_more {A} most P xs x up lt p = record { few = omega (arith, length-append {A = A} xs (x ∷ [])); each = All-push P xs x up.each p }

kept_more : (names all more : List (List ℕ)) (name : List ℕ) → Kept names all → is_new name names ≡ true → all ++ name ∷ [] ≡ more → Kept (names ++ name ∷ []) more
kept_more names all more name k new same = record {
  same = ap (λ l. l ++ name ∷ []) k.same ∙ same;
  distinct = distinct_more names name k.distinct new;
}

-- a needed line, at its turn
needed : (d : Draft) (said : List Entry) (e : Entry) (next : Kind) (name : List ℕ) (code cells stack id left : ℕ) → Sound d said → (rank_of d.next) < 5 → rank_of next ≤ 5
    → take (rank_of d.next) (node_entries (project_of d)) ++ e ∷ []
    ≡ take (rank_of next) (node_entries (project_of (record d { next = next; name = name; code = code; cells = cells; stack = stack; id = id; left = left })))
    → Begun (rank_of next) name code cells stack id → left + named_cells d.variables ≡ cells
    → Sound (record d { next = next; name = name; code = code; cells = cells; stack = stack; id = id; left = left }) (said ++ e ∷ [])
needed d said e next name code cells stack id left s lt le front begun room = record {
  spelled =
      ap (λ l. l ++ e ∷ []) s.spelled
      ∙ node_told _ _ e d.variables d.locals d.natives d.events d.consts (s.later.variables lt) (s.later.locals (omega (arith, lt)))
      (s.later.natives (omega (arith, lt))) (s.later.events (omega (arith, lt))) (s.later.consts (omega (arith, lt))) front;
  later = record {
    variables = λ h. s.later.variables lt;
    locals = λ h. s.later.locals (omega (arith, lt));
    natives = λ h. s.later.natives (omega (arith, lt));
    events = λ h. s.later.events (omega (arith, lt));
    consts = λ h. s.later.consts (omega (arith, lt));
  };
  begun = begun;
  listed = s.listed;
  room = room;
  cells = s.cells;
  events = s.events;
  natives = s.natives;
}

empty_room : (d : Draft) (said : List Entry) (n : ℕ) → Sound d said → (rank_of d.next) < 5 → n + named_cells d.variables ≡ n
empty_room d said n s lt =
    let none : named_cells d.variables ≡ 0 = ap named_cells (s.later.variables lt) in
    omega (arith, none)

node_step : (d e : Draft) (said : List Entry) (name : List ℕ) → IsName name → Sound d said → with_entry d (entry.Node name) ≡ Some e → Sound e (said ++ entry.Node name ∷ [])
unfolding with_entry
node_step d e said name p s h =
    let w = when_takes _ _ _ h in
    let turn : (rank_of d.next) ≡ 0 = eqb-true _ _ w.0 in
    subst (λ x. Sound x (said ++ entry.Node name ∷ [])) w.1 (needed d said (entry.Node name) kind.Code name d.code d.cells d.stack d.id d.left s (omega arith) (omega arith)
    (ap (λ k. take k (node_entries (project_of d)) ++ entry.Node name ∷ []) turn)
    (record { name = λ k. p; code = λ k. absurd (omega arith); cells = λ k. absurd (omega arith); stack = λ k. absurd (omega arith); id = λ k. absurd (omega arith) })
    s.room)

code_step : (d e : Draft) (said : List Entry) (n : ℕ) → IsFrom 4 32767 n → Sound d said → with_entry d (entry.Code n) ≡ Some e → Sound e (said ++ entry.Code n ∷ [])
unfolding with_entry
code_step d e said n p s h =
    let w = when_takes _ _ _ h in
    let turn : (rank_of d.next) ≡ 1 = eqb-true _ _ w.0 in
    subst (λ x. Sound x (said ++ entry.Code n ∷ [])) w.1 (needed d said (entry.Code n) kind.Vars d.name n d.cells d.stack d.id d.left s (omega arith) (omega arith)
    (ap (λ k. take k (node_entries (project_of d)) ++ entry.Code n ∷ []) turn)
    (record { name = λ k. s.begun.name (omega arith); code = λ k. p; cells = λ k. absurd (omega arith); stack = λ k. absurd (omega arith); id = λ k. absurd (omega arith) })
    s.room)

vars_step : (d e : Draft) (said : List Entry) (n : ℕ) → IsFrom 1 4096 n → Sound d said → with_entry d (entry.Vars n) ≡ Some e → Sound e (said ++ entry.Vars n ∷ [])
unfolding with_entry
vars_step d e said n p s h =
    let w = when_takes _ _ _ h in
    let turn : (rank_of d.next) ≡ 2 = eqb-true _ _ w.0 in
    subst (λ x. Sound x (said ++ entry.Vars n ∷ [])) w.1 (needed d said (entry.Vars n) kind.Stack d.name d.code n d.stack d.id n s (omega arith) (omega arith)
    (ap (λ k. take k (node_entries (project_of d)) ++ entry.Vars n ∷ []) turn)
    (record { name = λ k. s.begun.name (omega arith); code = λ k. s.begun.code (omega arith); cells = λ k. p; stack = λ k. absurd (omega arith); id = λ k. absurd (omega arith) })
    (empty_room d said n s (omega arith)))

stack_step : (d e : Draft) (said : List Entry) (n : ℕ) → IsFrom 1 1024 n → Sound d said → with_entry d (entry.Stack n) ≡ Some e → Sound e (said ++ entry.Stack n ∷ [])
unfolding with_entry
stack_step d e said n p s h =
    let w = when_takes _ _ _ h in
    let turn : (rank_of d.next) ≡ 3 = eqb-true _ _ w.0 in
    subst (λ x. Sound x (said ++ entry.Stack n ∷ [])) w.1 (needed d said (entry.Stack n) kind.Id d.name d.code d.cells n d.id d.left s (omega arith) (omega arith)
    (ap (λ k. take k (node_entries (project_of d)) ++ entry.Stack n ∷ []) turn)
    (record { name = λ k. s.begun.name (omega arith); code = λ k. s.begun.code (omega arith); cells = λ k. s.begun.cells (omega arith); stack = λ k. p; id = λ k. absurd (omega arith) })
    s.room)

id_step : (d e : Draft) (said : List Entry) (n : ℕ) → IsFrom 1 65535 n → Sound d said → with_entry d (entry.Id n) ≡ Some e → Sound e (said ++ entry.Id n ∷ [])
unfolding with_entry
id_step d e said n p s h =
    let w = when_takes _ _ _ h in
    let turn : (rank_of d.next) ≡ 4 = eqb-true _ _ w.0 in
    subst (λ x. Sound x (said ++ entry.Id n ∷ [])) w.1 (needed d said (entry.Id n) kind.Variable d.name d.code d.cells d.stack n d.left s (omega arith) (omega arith)
    (ap (λ k. take k (node_entries (project_of d)) ++ entry.Id n ∷ []) turn)
    (record { name = λ k. s.begun.name (omega arith); code = λ k. s.begun.code (omega arith); cells = λ k. s.begun.cells (omega arith); stack = λ k. s.begun.stack (omega arith); id = λ k. p })
    s.room)

begun_on : (n m : ℕ) (name : List ℕ) (code cells stack id : ℕ) → 5 ≤ n → Begun n name code cells stack id → Begun m name code cells stack id
begun_on n m name code cells stack id h b = record {
  name = λ k. b.name (omega (arith, h));
  code = λ k. b.code (omega (arith, h));
  cells = λ k. b.cells (omega (arith, h));
  stack = λ k. b.stack (omega (arith, h));
  id = λ k. b.id (omega (arith, h));
}

all_begun : (d : Draft) → 5 ≤ (rank_of d.next) → take (rank_of d.next) (node_entries (project_of d)) ≡ node_entries (project_of d)
all_begun d h = take_all (rank_of d.next) (node_entries (project_of d)) h

in_turn : (next this : Kind) → may_follow next this ≡ true → (5 ≤ rank_of next) × (rank_of next ≤ rank_of this)
in_turn next this h = let k = and_takes _ _ h in (leb_to _ _ k.0, leb_to _ _ k.1)

below : (a b : ℕ) → nat_lt a b ≡ true → a < b
below a b h = grind (arith, common_steps)

named_more : (vs : List Sized) (v : Sized) → named_cells (vs ++ v ∷ []) ≡ named_cells vs + v.size
named_more vs v =
    let k : named_cells (v ∷ []) ≡ 0 + v.size = refl in
    omega (arith, sum_by-append (λ (x : Sized). x.size) vs (v ∷ []), k)

pub front_names : {A B : Type 0} (f : A → List ℕ) (g : B → List ℕ) (xs : List A) (x : A) (ys : List B) → ys ≡ [] → map f xs ++ map g ys ++ f x ∷ [] ≡ map f (xs ++ x ∷ []) ++ map g ys
front_names f g xs x [] h =
    ap (λ l. l ++ f x ∷ []) (append-nil (map f xs)) ∙ sym (map-append f xs (x ∷ [])) ∙ sym (append-nil (map f (xs ++ x ∷ [])))
front_names f g xs x (y ∷ ys) h = absurd cc

pub back_names : {A B : Type 0} (f : A → List ℕ) (g : B → List ℕ) (xs : List A) (ys : List B) (y : B) → map f xs ++ map g ys ++ g y ∷ [] ≡ map f xs ++ map g (ys ++ y ∷ [])
back_names f g xs ys y = append_assoc (map f xs) (map g ys) (g y ∷ []) ∙ ap (λ l. map f xs ++ l) (sym (map-append g ys (y ∷ [])))

variable_step : (d e : Draft) (said : List Entry) (v : Sized) → PlainEntry (entry.Variable v) → Sound d said → with_entry d (entry.Variable v) ≡ Some e → Sound e (said ++ entry.Variable v ∷ [])
unfolding with_entry with_variable
variable_step d e said v p s h =
    let w = when_takes _ _ _ h in
    let a = and_takes _ _ w.0 in
    let b = and_takes _ _ a.0 in
    let c = and_takes _ _ b.0 in
    let turn = in_turn d.next kind.Variable c.0 in
    let few : length d.variables < 256 = below _ _ c.1 in
    let room : v.size ≤ d.left = leb_to _ _ b.1 in
    subst (λ x. Sound x (said ++ entry.Variable v ∷ [])) w.1 (record {
      spelled =
          ap (λ l. l ++ entry.Variable v ∷ []) s.spelled
          ∙ variable_told _ d.variables v d.locals d.natives d.events d.consts (s.later.locals (omega (arith, turn.1))) (s.later.natives (omega (arith, turn.1)))
          (s.later.events (omega (arith, turn.1))) (s.later.consts (omega (arith, turn.1)))
          ∙ ap (λ f. spread f (d.variables ++ v ∷ []) d.locals d.natives d.events d.consts) (all_begun d turn.0);
      later = record {
        variables = λ k. absurd (omega arith);
        locals = λ k. s.later.locals (omega (arith, turn.1));
        natives = λ k. s.later.natives (omega (arith, turn.1));
        events = λ k. s.later.events (omega (arith, turn.1));
        consts = λ k. s.later.consts (omega (arith, turn.1));
      };
      begun = begun_on (rank_of d.next) 5 d.name d.code d.cells d.stack d.id turn.0 s.begun;
      listed = record {
        variables = one_more 256 (InsideSized 1 4096) d.variables v s.listed.variables few p.0;
        locals = s.listed.locals;
        natives = s.listed.natives;
        events = s.listed.events;
        consts = s.listed.consts;
        plain_variables = All-push PlainSized d.variables v s.listed.plain_variables p.1;
        plain_locals = s.listed.plain_locals;
        plain_natives = s.listed.plain_natives;
        plain_events = s.listed.plain_events;
        plain_consts = s.listed.plain_consts;
      };
      room = omega (arith, named_more d.variables v, s.room, room);
      cells = kept_more d.cell_names _ _ v.name s.cells a.1 (front_names (λ x. x.name) (λ x. x.name) d.variables v d.consts (s.later.consts (omega (arith, turn.1))));
      events = s.events;
      natives = s.natives;
    })

local_step : (d e : Draft) (said : List Entry) (l : Local) → PlainEntry (entry.Local l) → Sound d said → with_entry d (entry.Local l) ≡ Some e → Sound e (said ++ entry.Local l ∷ [])
unfolding with_entry with_local
local_step d e said l p s h =
    let w = when_takes _ _ _ h in
    let a = and_takes _ _ w.0 in
    let c = and_takes _ _ a.0 in
    let turn = in_turn d.next kind.Local c.0 in
    let few : length d.locals < 64 = below _ _ c.1 in
    subst (λ x. Sound x (said ++ entry.Local l ∷ [])) w.1 (record {
      spelled =
          ap (λ r. r ++ entry.Local l ∷ []) s.spelled
          ∙ local_told _ d.locals l d.natives d.events d.consts (s.later.natives (omega (arith, turn.1))) (s.later.events (omega (arith, turn.1))) (s.later.consts (omega (arith, turn.1)))
          ∙ ap (λ f. spread f d.variables (d.locals ++ l ∷ []) d.natives d.events d.consts) (all_begun d turn.0);
      later = record {
        variables = λ k. absurd (omega arith);
        locals = λ k. absurd (omega arith);
        natives = λ k. s.later.natives (omega (arith, turn.1));
        events = λ k. s.later.events (omega (arith, turn.1));
        consts = λ k. s.later.consts (omega (arith, turn.1));
      };
      begun = begun_on (rank_of d.next) 6 d.name d.code d.cells d.stack d.id turn.0 s.begun;
      listed = record {
        variables = s.listed.variables;
        locals = one_more 64 InsideLocal d.locals l s.listed.locals few p.0;
        natives = s.listed.natives;
        events = s.listed.events;
        consts = s.listed.consts;
        plain_variables = s.listed.plain_variables;
        plain_locals = All-push PlainLocal d.locals l s.listed.plain_locals p.1;
        plain_natives = s.listed.plain_natives;
        plain_events = s.listed.plain_events;
        plain_consts = s.listed.plain_consts;
      };
      room = s.room;
      cells = s.cells;
      events = kept_more d.event_names _ _ l.name s.events a.1 (front_names (λ x. x.name) (λ x. x.name) d.locals l d.events (s.later.events (omega (arith, turn.1))));
      natives = s.natives;
    })

native_step : (d e : Draft) (said : List Entry) (n : Native) → PlainEntry (entry.Native n) → Sound d said → with_entry d (entry.Native n) ≡ Some e → Sound e (said ++ entry.Native n ∷ [])
unfolding with_entry with_native
native_step d e said n p s h =
    let w = when_takes _ _ _ h in
    let a = and_takes _ _ w.0 in
    let c = and_takes _ _ a.0 in
    let turn = in_turn d.next kind.Native c.0 in
    let few : length d.natives < 64 = below _ _ c.1 in
    subst (λ x. Sound x (said ++ entry.Native n ∷ [])) w.1 (record {
      spelled =
          ap (λ r. r ++ entry.Native n ∷ []) s.spelled
          ∙ native_told _ d.natives n d.events d.consts (s.later.events (omega (arith, turn.1))) (s.later.consts (omega (arith, turn.1)))
          ∙ ap (λ f. spread f d.variables d.locals (d.natives ++ n ∷ []) d.events d.consts) (all_begun d turn.0);
      later = record {
        variables = λ k. absurd (omega arith);
        locals = λ k. absurd (omega arith);
        natives = λ k. absurd (omega arith);
        events = λ k. s.later.events (omega (arith, turn.1));
        consts = λ k. s.later.consts (omega (arith, turn.1));
      };
      begun = begun_on (rank_of d.next) 7 d.name d.code d.cells d.stack d.id turn.0 s.begun;
      listed = record {
        variables = s.listed.variables;
        locals = s.listed.locals;
        natives = one_more 64 InsideNative d.natives n s.listed.natives few p.0;
        events = s.listed.events;
        consts = s.listed.consts;
        plain_variables = s.listed.plain_variables;
        plain_locals = s.listed.plain_locals;
        plain_natives = All-push PlainNative d.natives n s.listed.plain_natives p.1;
        plain_events = s.listed.plain_events;
        plain_consts = s.listed.plain_consts;
      };
      room = s.room;
      cells = s.cells;
      events = s.events;
      natives = kept_more d.native_names _ _ n.name s.natives a.1 (sym (map-append (λ x. x.name) d.natives (n ∷ [])));
    })

event_step : (d e : Draft) (said : List Entry) (v : Sized) → PlainEntry (entry.Event v) → Sound d said → with_entry d (entry.Event v) ≡ Some e → Sound e (said ++ entry.Event v ∷ [])
unfolding with_entry with_event
event_step d e said v p s h =
    let w = when_takes _ _ _ h in
    let a = and_takes _ _ w.0 in
    let c = and_takes _ _ a.0 in
    let turn = in_turn d.next kind.Event c.0 in
    let few : length d.events < 256 = below _ _ c.1 in
    subst (λ x. Sound x (said ++ entry.Event v ∷ [])) w.1 (record {
      spelled =
          ap (λ r. r ++ entry.Event v ∷ []) s.spelled
          ∙ event_told _ d.events v d.consts (s.later.consts (omega (arith, turn.1)))
          ∙ ap (λ f. spread f d.variables d.locals d.natives (d.events ++ v ∷ []) d.consts) (all_begun d turn.0);
      later = record {
        variables = λ k. absurd (omega arith);
        locals = λ k. absurd (omega arith);
        natives = λ k. absurd (omega arith);
        events = λ k. absurd (omega arith);
        consts = λ k. s.later.consts (omega (arith, turn.1));
      };
      begun = begun_on (rank_of d.next) 8 d.name d.code d.cells d.stack d.id turn.0 s.begun;
      listed = record {
        variables = s.listed.variables;
        locals = s.listed.locals;
        natives = s.listed.natives;
        events = one_more 256 (InsideSized 0 256) d.events v s.listed.events few p.0;
        consts = s.listed.consts;
        plain_variables = s.listed.plain_variables;
        plain_locals = s.listed.plain_locals;
        plain_natives = s.listed.plain_natives;
        plain_events = All-push PlainSized d.events v s.listed.plain_events p.1;
        plain_consts = s.listed.plain_consts;
      };
      room = s.room;
      cells = s.cells;
      events = kept_more d.event_names _ _ v.name s.events a.1 (back_names (λ x. x.name) (λ x. x.name) d.locals d.events v);
      natives = s.natives;
    })

const_step : (d e : Draft) (said : List Entry) (v : Const) → PlainEntry (entry.Const v) → Sound d said → with_entry d (entry.Const v) ≡ Some e → Sound e (said ++ entry.Const v ∷ [])
unfolding with_entry with_const
const_step d e said v p s h =
    let w = when_takes _ _ _ h in
    let a = and_takes _ _ w.0 in
    let c = and_takes _ _ a.0 in
    let turn = in_turn d.next kind.Const c.0 in
    let few : length d.consts < 512 = below _ _ c.1 in
    subst (λ x. Sound x (said ++ entry.Const v ∷ [])) w.1 (record {
      spelled =
          ap (λ r. r ++ entry.Const v ∷ []) s.spelled
          ∙ behind_map (λ c. entry.Const c) _ d.consts v
          ∙ ap (λ f. spread f d.variables d.locals d.natives d.events (d.consts ++ v ∷ [])) (all_begun d turn.0);
      later = record {
        variables = λ k. absurd (omega arith);
        locals = λ k. absurd (omega arith);
        natives = λ k. absurd (omega arith);
        events = λ k. absurd (omega arith);
        consts = λ k. absurd (omega arith);
      };
      begun = begun_on (rank_of d.next) 9 d.name d.code d.cells d.stack d.id turn.0 s.begun;
      listed = record {
        variables = s.listed.variables;
        locals = s.listed.locals;
        natives = s.listed.natives;
        events = s.listed.events;
        consts = one_more 512 InsideConst d.consts v s.listed.consts few p.0;
        plain_variables = s.listed.plain_variables;
        plain_locals = s.listed.plain_locals;
        plain_natives = s.listed.plain_natives;
        plain_events = s.listed.plain_events;
        plain_consts = All-push PlainConst d.consts v s.listed.plain_consts p.1;
      };
      room = s.room;
      cells = kept_more d.cell_names _ _ v.name s.cells a.1 (back_names (λ x. x.name) (λ x. x.name) d.variables d.consts v);
      events = s.events;
      natives = s.natives;
    })

step : (d e : Draft) (said : List Entry) (x : Entry) → PlainEntry x → Sound d said → with_entry d x ≡ Some e → Sound e (said ++ x ∷ [])
step d e said (entry.Node name) p s h = node_step d e said name p s h
step d e said (entry.Code n) p s h = code_step d e said n p s h
step d e said (entry.Vars n) p s h = vars_step d e said n p s h
step d e said (entry.Stack n) p s h = stack_step d e said n p s h
step d e said (entry.Id n) p s h = id_step d e said n p s h
step d e said (entry.Variable v) p s h = variable_step d e said v p s h
step d e said (entry.Local l) p s h = local_step d e said l p s h
step d e said (entry.Native n) p s h = native_step d e said n p s h
step d e said (entry.Event v) p s h = event_step d e said v p s h
step d e said (entry.Const c) p s h = const_step d e said c p s h

steps : (xs : List Entry) (d e : Draft) (said : List Entry) → All PlainEntry xs → Sound d said → told d xs ≡ Some e → Sound e (said ++ xs)
steps [] d e said p s h =
    let k : d ≡ e = cc in
    subst (λ x. Sound x (said ++ [])) k (subst (λ l. Sound d l) (sym (append-nil said)) s)
steps (x ∷ xs) d e said p s h =
    let m = bind_takes _ _ _ h in
    subst (λ l. Sound e l) (append_assoc said (x ∷ []) xs)
    (steps xs m.0 e (said ++ x ∷ []) (All-tail PlainEntry x xs p) (step d m.0 said x (All-head PlainEntry x xs p) s m.1) m.2)

-- what was said from the beginning on
pub all_told : (xs : List Entry) (e : Draft) → All PlainEntry xs → told empty_draft xs ≡ Some e → Sound e xs
all_told xs e p h = steps xs empty_draft e [] p none_said h

-- Behind the needed lines, what was said is what the project says, which keeps the rules.
pub record Whole (d : Draft) (said : List Entry) : Type 0 where
  pub spelled : said ≡ entries (project_of d)
  pub plain : IsPlain (project_of d)

pub whole_said : (d : Draft) (said : List Entry) → 5 ≤ (rank_of d.next) → Sound d said → Whole d said
whole_said d said h s =
    let name = s.begun.name (omega (arith, h)) in
    let id = s.begun.id (omega (arith, h)) in
    let fits : named_cells d.variables ≤ d.cells = omega (arith, s.room) in
    record {
      spelled = s.spelled ∙ ap (λ f. spread f d.variables d.locals d.natives d.events d.consts) (all_begun d h);
      plain = record {
        inside = record {
          node = record {
            name = short_is d.name name;
            code = s.begun.code (omega (arith, h));
            stack = s.begun.stack (omega (arith, h));
            cells = s.begun.cells (omega (arith, h));
            variables = record { each = s.listed.variables; room = fits };
            locals = s.listed.locals;
            natives = s.listed.natives;
          };
          events = s.listed.events;
          consts = s.listed.consts;
        };
        parts = record {
          id = id;
          node = record { name = name; variables = s.listed.plain_variables; locals = s.listed.plain_locals; natives = s.listed.plain_natives };
          events = s.listed.plain_events;
          consts = s.listed.plain_consts;
        };
        names = record {
          cells = subst (λ l. are_distinct l ≡ true) s.cells.same s.cells.distinct;
          events = subst (λ l. are_distinct l ≡ true) s.events.same s.events.distinct;
          natives = subst (λ l. are_distinct l ≡ true) s.natives.same s.natives.distinct;
        };
      };
    }
