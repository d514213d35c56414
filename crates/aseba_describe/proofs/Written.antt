-- What is written for a plain project is a text of it.
use Rattle.std.proofs.Common.{◌≡◌, ℕ, ℤ, pos, negsuc, zero, suc, ◌-◌, ◌≤◌, ◌≢◌, ◌==◌, ◌↔◌, Bool, IsTrue, true, false, not, List, [], ◌∷◌, ◌++◌, length, get_or, map, refl, sym, ap, ◌∙◌, arith, append_assoc, codes, decimal, cond, take}
use Rattle.std.specs.List.{list_all, flat_map, All}
use Rattle.std.specs.Fmt.{signed_decimal}
use Rattle.std.specs.Str.Lines.{lines, strip_carriage_return}
use Rattle.std.proofs.lemmas.Bool.{eqb-true}
use Rattle.std.proofs.lemmas.Int.{ints}
use Rattle.std.proofs.lemmas.List.Elements.{All-head, All-tail}
use Rattle.std.proofs.lemmas.List.Folds.{list_all-append}
use Rattle.aseba_words.specs.Bytes.{is_within, is_name_start, is_word_byte}
use Rattle.aseba_tree.specs.declared.description.Param.{Param}
use Rattle.aseba_tree.specs.declared.project.Project.{Project}
use Rattle.aseba_describe.specs.declared.entry.Entry.{Entry}
use Rattle.aseba_describe.specs.declared.entry.Entry.TheVariants as entry
use Rattle.aseba_tree.specs.Tokens.{is_name}
use Rattle.aseba_text.specs.Names.{is_text}
use Rattle.aseba_text.specs.Numbers.{IsCell}
use Rattle.aseba_describe.specs.Plain.{PlainParam, IsPlain}
use Rattle.aseba_describe.specs.Spelling.{param_text, entry_text, entry_line, entries, project_text}
use Rattle.aseba_text.specs.Lines.{spoken}
use Rattle.aseba_describe.specs.Grammar.{ProjectText}
use Rattle.aseba_text.proofs.Options.{and_takes, and_true}
use Rattle.aseba_describe.proofs.EntryLaws.{PlainEntry, speaks}
use Rattle.aseba_describe.proofs.Complete.{plain_entries}
use Rattle.aseba_text.proofs.LineLaws.{first_ends}
use Rattle.aseba_text.proofs.CellLaws.{no_other, no_byte_from}

abbrev pub lacks : ℕ → List ℕ → Bool
lacks c bs = list_all (λ b. not (b == c)) bs

-- a byte that is neither of a name, of a number nor of a text
pub record IsOutside (c : ℕ) : Type 0 where
  pub start : is_name_start c ≡ false
  pub word : is_word_byte c ≡ false
  pub print : is_within 32 126 c ≡ false
  pub digit : (48 ≤ c) × (c ≤ 57) → ⊥
  pub minus : c ≢ 45

line_feed : IsOutside 10
line_feed = record { start = refl; word = refl; print = refl; digit = λ r. omega (arith, r.0); minus = λ e. absurd (omega arith) }

carriage_return : IsOutside 13
carriage_return = record { start = refl; word = refl; print = refl; digit = λ r. omega (arith, r.0); minus = λ e. absurd (omega arith) }

other : (c : ℕ) (p : ℕ → Bool) (b : ℕ) → p c ≡ false → p b ≡ true → not (b == c) ≡ true
other c p b none h = by (b == c) refl
  where
    by : (t : Bool) → (b == c) ≡ t → not t ≡ true
    by true e = let f = ap p (eqb-true b c e) in absurd cc
    by false e = refl

others : (c : ℕ) (p : ℕ → Bool) (bs : List ℕ) → p c ≡ false → list_all p bs ≡ true → lacks c bs ≡ true
others c p [] none h = refl
others c p (b ∷ bs) none h = let k = and_takes _ _ h in and_true _ _ (other c p b none k.0) (others c p bs none k.1)

both : (c : ℕ) (a b : List ℕ) → lacks c a ≡ true → lacks c b ≡ true → lacks c (a ++ b) ≡ true
both c a b h k = list_all-append (λ x. not (x == c)) a b ∙ and_true _ _ h k

-- the words of lines, and what stands between fields
said : (c : ℕ) → IsOutside c → (bs : List ℕ) → list_all (is_within 32 126) bs ≡ true → lacks c bs ≡ true
said c o bs h = others c (is_within 32 126) bs o.print h

name_lacks : (c : ℕ) → IsOutside c → (name : List ℕ) → is_name name ≡ true → lacks c name ≡ true
name_lacks c o [] h = refl
name_lacks c o (b ∷ bs) h =
    let k = and_takes _ _ (and_takes _ _ (and_takes _ _ h).0).1 in
    and_true _ _ (other c is_name_start b o.start k.0) (others c is_word_byte bs o.word k.1)

text_lacks : (c : ℕ) → IsOutside c → (text : List ℕ) → is_text text ≡ true → lacks c text ≡ true
text_lacks c o text h = said c o text (and_takes _ _ h).1

number_lacks : (c : ℕ) → IsOutside c → (n : ℕ) → n ≤ 65535 → lacks c (decimal n) ≡ true
number_lacks c o n h = no_byte_from c (decimal n) (no_other n c (omega arith) o.digit)

differs : (a b : ℕ) → b ≢ a → not (a == b) ≡ true
differs a b h = by (a == b) refl
  where
    by : (t : Bool) → (a == b) ≡ t → not t ≡ true
    by true e = absurd (h (sym (eqb-true a b e)))
    by false e = refl

cell_lacks : (c : ℕ) → IsOutside c → (z : ℤ) → IsCell z → lacks c (signed_decimal z) ≡ true
cell_lacks c o (pos n) h =
    let small : n ≤ 32767 = omega (arith, ints, h.1) in
    number_lacks c o n (omega arith)
cell_lacks c o (negsuc k) h =
    let small : k ≤ 32767 = omega (arith, ints, h.0) in
    and_true _ _ (differs 45 c o.minus) (number_lacks c o (suc k) (omega arith))

three : (c : ℕ) (x y z : List ℕ) → lacks c x ≡ true → lacks c y ≡ true → lacks c z ≡ true → lacks c (x ++ y ++ z) ≡ true
three c x y z p q r = both c (x ++ y) z (both c x y p q) r

four : (c : ℕ) (w x y z : List ℕ) → lacks c w ≡ true → lacks c x ≡ true → lacks c y ≡ true → lacks c z ≡ true → lacks c (w ++ x ++ y ++ z) ≡ true
four c w x y z o p q r = both c (w ++ x ++ y) z (three c w x y o p q) r

params_lack : (c : ℕ) → IsOutside c → (ps : List Param) → All PlainParam ps → lacks c (flat_map param_text ps) ≡ true
params_lack c o [] h = refl
params_lack c o (p ∷ ps) h =
    let g = All-head PlainParam p ps h in
    both c (param_text p) (flat_map param_text ps)
    (four c (codes " ") (signed_decimal p.size) (codes " ") p.name (said c o (codes " ") refl) (cell_lacks c o p.size g.size) (said c o (codes " ") refl) (name_lacks c o p.name g.name))
    (params_lack c o ps (All-tail PlainParam p ps h))

entry_lacks : (c : ℕ) → IsOutside c → (e : Entry) → PlainEntry e → lacks c (entry_text e) ≡ true
entry_lacks c o (entry.Node name) h = both c (codes "node ") name (said c o (codes "node ") refl) (name_lacks c o name h)
entry_lacks c o (entry.Code n) h = both c (codes "code ") (decimal n) (said c o (codes "code ") refl) (number_lacks c o n (omega (arith, h.1)))
entry_lacks c o (entry.Vars n) h = both c (codes "vars ") (decimal n) (said c o (codes "vars ") refl) (number_lacks c o n (omega (arith, h.1)))
entry_lacks c o (entry.Stack n) h = both c (codes "stack ") (decimal n) (said c o (codes "stack ") refl) (number_lacks c o n (omega (arith, h.1)))
entry_lacks c o (entry.Id n) h = both c (codes "id ") (decimal n) (said c o (codes "id ") refl) (number_lacks c o n h.1)
entry_lacks c o (entry.Variable v) h =
    four c (codes "variable ") v.name (codes " ") (decimal v.size) (said c o (codes "variable ") refl) (name_lacks c o v.name h.1) (said c o (codes " ") refl)
    (number_lacks c o v.size (omega (arith, h.0.size.1)))
entry_lacks c o (entry.Local l) h =
    four c (codes "local ") l.name (codes " ") l.text (said c o (codes "local ") refl) (name_lacks c o l.name h.1.name) (said c o (codes " ") refl)
    (text_lacks c o l.text h.1.text)
entry_lacks c o (entry.Native n) h =
    both c (codes "native " ++ n.name ++ flat_map param_text n.params ++ codes " ; ") n.text
    (four c (codes "native ") n.name (flat_map param_text n.params) (codes " ; ") (said c o (codes "native ") refl) (name_lacks c o n.name h.1.name)
    (params_lack c o n.params h.1.params) (said c o (codes " ; ") refl)) (text_lacks c o n.text h.1.text)
entry_lacks c o (entry.Event v) h =
    four c (codes "event ") v.name (codes " ") (decimal v.size) (said c o (codes "event ") refl) (name_lacks c o v.name h.1) (said c o (codes " ") refl)
    (number_lacks c o v.size (omega (arith, h.0.size.1)))
entry_lacks c o (entry.Const k) h =
    four c (codes "const ") k.name (codes " ") (signed_decimal k.value) (said c o (codes "const ") refl) (name_lacks c o k.name h.1.name) (said c o (codes " ") refl)
    (cell_lacks c o k.value h.1.value)

-- no byte of a line is a carriage return, the last neither
last_is_other : (bs : List ℕ) (k : ℕ) → lacks 13 bs ≡ true → (get_or bs k 0 == 13) ≡ false
last_is_other [] k h = refl
last_is_other (b ∷ bs) zero h = by (b == 13) (and_takes _ _ h).0
  where
    by : (t : Bool) → not t ≡ true → t ≡ false
    by true e = absurd cc
    by false e = refl
last_is_other (b ∷ bs) (suc k) h = last_is_other bs k (and_takes _ _ h).1

stays : (t : Bool) (a b : List ℕ) → t ≡ false → cond t a b ≡ b
stays true a b h = absurd cc
stays false a b h = refl

nothing_stripped : (bs : List ℕ) → lacks 13 bs ≡ true → strip_carriage_return bs ≡ bs
nothing_stripped bs h = stays _ (take (length bs - 1) bs) bs (last_is_other bs (length bs - 1) h)

lines_written : (es : List Entry) → All PlainEntry es → lines (flat_map entry_line es) ≡ map entry_text es
lines_written [] h = refl
lines_written (e ∷ es) h =
    let p = All-head PlainEntry e es h in
    ap lines (append_assoc (entry_text e) (codes "\n") (flat_map entry_line es))
    ∙ first_ends (entry_text e) (flat_map entry_line es) (entry_lacks 10 line_feed e p)
    ∙ ap (λ l. l ∷ lines (flat_map entry_line es)) (nothing_stripped (entry_text e) (entry_lacks 13 carriage_return e p))
    ∙ ap (λ l. entry_text e ∷ l) (lines_written es (All-tail PlainEntry e es h))

all_speak : (es : List Entry) → spoken (map entry_text es) ≡ map entry_text es
all_speak [] = refl
all_speak (e ∷ es) =
    ap (λ t. cond (not t) (entry_text e ∷ spoken (map entry_text es)) (spoken (map entry_text es))) (speaks e)
    ∙ ap (λ l. entry_text e ∷ l) (all_speak es)

pub written_again : (p : Project) → IsPlain p → ProjectText (project_text p) p
written_again p plain = record {
  said = ap spoken (lines_written (entries p) (plain_entries p plain)) ∙ all_speak (entries p);
  plain = plain;
}

-- A project keeps the rules exactly where its text is one of it.
pub plain_written : (p : Project) (b : Bool) → (IsTrue b ↔ IsPlain p) → (IsTrue b ↔ ProjectText (project_text p) p)
plain_written p b h = (λ t. written_again p (h.0 t), λ text. h.1 text.plain)
