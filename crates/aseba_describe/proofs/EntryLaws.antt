-- What a line says is read from its spelling, and what is read from a line is spelled so.
use Rattle.std.proofs.Common.{◌≡◌, ℕ, Bool, true, false, List, ◌∷◌, ◌++◌, Option, Some, None, refl, ap, ◌∙◌, subst, arith, codes, cond}
use Rattle.std.specs.Option.{option_map}
use Rattle.aseba_tree.specs.Inside.{IsFrom, InsideSized, InsideLocal, InsideNative, InsideConst}
use Rattle.aseba_tree.specs.declared.description.Sized.{Sized}
use Rattle.aseba_tree.specs.declared.description.Local.{Local}
use Rattle.aseba_tree.specs.declared.description.Native.{Native}
use Rattle.aseba_tree.specs.declared.project.Const.{Const}
use Rattle.aseba_describe.specs.declared.entry.Entry.{Entry}
use Rattle.aseba_describe.specs.declared.entry.Entry.TheVariants as entry
use Rattle.aseba_tree.specs.Tokens.{IsName}
use Rattle.aseba_text.specs.Names.{is_same}
use Rattle.aseba_describe.specs.Plain.{PlainSized, PlainLocal, PlainNative, PlainConst}
use Rattle.aseba_describe.specs.Spelling.{entry_text}
use Rattle.aseba_text.specs.Lines.{is_skipped}
use Rattle.aseba_describe.specs.Reading.{name_of, sized_of, local_of, native_of, const_of, list_entry_by, entry_by, entry_of}
use Rattle.aseba_text.specs.Numbers.{number_from}
use Rattle.aseba_text.proofs.Options.{when_takes, bind_takes}
use Rattle.aseba_text.proofs.NumberLaws.{same_is}
use Rattle.aseba_text.proofs.FieldLaws.{cut_takes}
use Rattle.aseba_describe.proofs.Spelled.{name_again, sized_again, sized_takes, local_again, local_takes, const_again, const_takes, short_is, short_text}
use Rattle.aseba_text.proofs.CellLaws.{number_from_again, number_from_takes}
use Rattle.aseba_describe.proofs.NativeLaws.{native_again, native_takes}

-- what a line may say by itself
abbrev pub PlainEntry : Entry → Type 0
PlainEntry (entry.Node name) = IsName name
PlainEntry (entry.Code n) = IsFrom 4 32767 n
PlainEntry (entry.Vars n) = IsFrom 1 4096 n
PlainEntry (entry.Stack n) = IsFrom 1 1024 n
PlainEntry (entry.Id n) = IsFrom 1 65535 n
PlainEntry (entry.Variable v) = InsideSized 1 4096 v × PlainSized v
PlainEntry (entry.Local l) = InsideLocal l × PlainLocal l
PlainEntry (entry.Native n) = InsideNative n × PlainNative n
PlainEntry (entry.Event e) = InsideSized 0 256 e × PlainSized e
PlainEntry (entry.Const c) = InsideConst c × PlainConst c

pub speaks : (e : Entry) → is_skipped (entry_text e) ≡ false
speaks (entry.Node name) = refl
speaks (entry.Code n) = refl
speaks (entry.Vars n) = refl
speaks (entry.Stack n) = refl
speaks (entry.Id n) = refl
speaks (entry.Variable v) = refl
speaks (entry.Local l) = refl
speaks (entry.Native n) = refl
speaks (entry.Event e) = refl
speaks (entry.Const c) = refl

pub entry_again : (e : Entry) → PlainEntry e → entry_of (entry_text e) ≡ Some e
unfolding entry_by list_entry_by
entry_again (entry.Node name) h = ap (option_map entry.Node) (name_again name h)
entry_again (entry.Code n) h = ap (option_map entry.Code) (number_from_again 4 32767 n h (omega arith))
entry_again (entry.Vars n) h = ap (option_map entry.Vars) (number_from_again 1 4096 n h (omega arith))
entry_again (entry.Stack n) h = ap (option_map entry.Stack) (number_from_again 1 1024 n h (omega arith))
entry_again (entry.Id n) h = ap (option_map entry.Id) (number_from_again 1 65535 n h (omega arith))
entry_again (entry.Variable v) h = ap (option_map entry.Variable) (sized_again 1 4096 v h.1 h.0.size (omega arith))
entry_again (entry.Local l) h = ap (option_map entry.Local) (local_again l h.1.name h.1.text)
entry_again (entry.Native n) h = ap (option_map entry.Native) (native_again n h.0 h.1)
entry_again (entry.Event e) h = ap (option_map entry.Event) (sized_again 0 256 e h.1 h.0.size (omega arith))
entry_again (entry.Const c) h = ap (option_map entry.Const) (const_again c h.1.name h.1.value)

-- a line of a word and fields is what an entry says, and may be said
abbrev pub IsEntry : List ℕ → List ℕ → Entry → Type 0
IsEntry word fields e = (word ++ 32 ∷ fields ≡ entry_text e) × PlainEntry e

mapped : {A B : Type 0} (f : A → B) (r : Option A) (y : B) → option_map f r ≡ Some y → (x : A) × (r ≡ Some x) × (f x ≡ y)
mapped f (Some x) y h = (x, refl, cc)
mapped f None y h = absurd cc

by_word : {A : Type 0} (form : A → Entry) (read : Option A) (kind word fields : List ℕ) (e : Entry) (rest : Option Entry)
    → ((x : A) → read ≡ Some x → IsEntry kind fields (form x)) → (rest ≡ Some e → IsEntry word fields e)
    → (t : Bool) → is_same word kind ≡ t → cond t (option_map form read) rest ≡ Some e → IsEntry word fields e
by_word form read kind word fields e rest law other true s h =
    let m = mapped form read e h in
    let k = law m.0 m.1 in
    subst (IsEntry word fields) m.2 (ap (λ w. w ++ 32 ∷ fields) (same_is word kind s) ∙ k.0, k.1)
by_word form read kind word fields e rest law other false s h = other h

node_law : (fields name : List ℕ) → name_of fields ≡ Some name → IsEntry (codes "node") fields (entry.Node name)
node_law fields name h = let w = when_takes _ _ _ h in (ap (λ l. codes "node " ++ l) w.1, subst IsName w.1 w.0)

code_law : (fields : List ℕ) (n : ℕ) → number_from 4 32767 fields ≡ Some n → IsEntry (codes "code") fields (entry.Code n)
code_law fields n h = let v = number_from_takes 4 32767 fields n h in (ap (λ l. codes "code " ++ l) v.1, v.0)

vars_law : (fields : List ℕ) (n : ℕ) → number_from 1 4096 fields ≡ Some n → IsEntry (codes "vars") fields (entry.Vars n)
vars_law fields n h = let v = number_from_takes 1 4096 fields n h in (ap (λ l. codes "vars " ++ l) v.1, v.0)

stack_law : (fields : List ℕ) (n : ℕ) → number_from 1 1024 fields ≡ Some n → IsEntry (codes "stack") fields (entry.Stack n)
stack_law fields n h = let v = number_from_takes 1 1024 fields n h in (ap (λ l. codes "stack " ++ l) v.1, v.0)

id_law : (fields : List ℕ) (n : ℕ) → number_from 1 65535 fields ≡ Some n → IsEntry (codes "id") fields (entry.Id n)
id_law fields n h = let v = number_from_takes 1 65535 fields n h in (ap (λ l. codes "id " ++ l) v.1, v.0)

variable_law : (fields : List ℕ) (s : Sized) → sized_of 1 4096 fields ≡ Some s → IsEntry (codes "variable") fields (entry.Variable s)
variable_law fields s h =
    let v = sized_takes 1 4096 fields s h in
    (ap (λ l. codes "variable " ++ l) v.0, (record { name = short_is s.name v.1; size = v.2 }, v.1))

local_law : (fields : List ℕ) (l : Local) → local_of fields ≡ Some l → IsEntry (codes "local") fields (entry.Local l)
local_law fields l h =
    let v = local_takes fields l h in
    (ap (λ t. codes "local " ++ t) v.0, (record { name = short_is l.name v.1; text = short_text l.text v.2 }, record { name = v.1; text = v.2 }))

native_law : (fields : List ℕ) (n : Native) → native_of fields ≡ Some n → IsEntry (codes "native") fields (entry.Native n)
native_law fields n h = let v = native_takes fields n h in (ap (λ t. codes "native " ++ t) v.0, (v.1, v.2))

event_law : (fields : List ℕ) (s : Sized) → sized_of 0 256 fields ≡ Some s → IsEntry (codes "event") fields (entry.Event s)
event_law fields s h =
    let v = sized_takes 0 256 fields s h in
    (ap (λ l. codes "event " ++ l) v.0, (record { name = short_is s.name v.1; size = v.2 }, v.1))

const_law : (fields : List ℕ) (c : Const) → const_of fields ≡ Some c → IsEntry (codes "const") fields (entry.Const c)
const_law fields c h =
    let v = const_takes fields c h in
    (ap (λ l. codes "const " ++ l) v.0, (record { name = short_is c.name v.1 }, record { name = v.1; value = v.2 }))

list_takes : (word fields : List ℕ) (e : Entry) → list_entry_by word fields ≡ Some e → IsEntry word fields e
unfolding list_entry_by
list_takes word fields e =
    by_word entry.Variable (sized_of 1 4096 fields) (codes "variable") word fields e _ (variable_law fields)
    (by_word entry.Local (local_of fields) (codes "local") word fields e _ (local_law fields)
    (by_word entry.Native (native_of fields) (codes "native") word fields e _ (native_law fields)
    (by_word entry.Event (sized_of 0 256 fields) (codes "event") word fields e _ (event_law fields)
    (by_word entry.Const (const_of fields) (codes "const") word fields e None (const_law fields) (λ h. absurd cc) _ refl) _ refl) _ refl) _ refl) _ refl

by_takes : (word fields : List ℕ) (e : Entry) → entry_by word fields ≡ Some e → IsEntry word fields e
unfolding entry_by
by_takes word fields e =
    by_word entry.Node (name_of fields) (codes "node") word fields e _ (node_law fields)
    (by_word entry.Code (number_from 4 32767 fields) (codes "code") word fields e _ (code_law fields)
    (by_word entry.Vars (number_from 1 4096 fields) (codes "vars") word fields e _ (vars_law fields)
    (by_word entry.Stack (number_from 1 1024 fields) (codes "stack") word fields e _ (stack_law fields)
    (by_word entry.Id (number_from 1 65535 fields) (codes "id") word fields e _ (id_law fields) (list_takes word fields e) _ refl) _ refl) _ refl) _ refl) _ refl

pub entry_takes : (line : List ℕ) (e : Entry) → entry_of line ≡ Some e → (line ≡ entry_text e) × PlainEntry e
entry_takes line e h =
    let c = bind_takes _ _ _ h in
    let k = by_takes c.0.0 c.0.1 e c.2 in
    (cut_takes line c.0.0 c.0.1 c.1 ∙ k.0, k.1)
