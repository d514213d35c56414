-- Expressions: what is read is spelled so.
use Rattle.std.proofs.Common.{◌≡◌, refl, sym, ◌∙◌, ap, subst, ℕ, zero, suc, pos, List, [], ◌∷◌, ◌++◌, Bool, true, false, eqb-true}
use Rattle.std.specs.Prelude.{Option, Some, None, nat_eq}
use Rattle.std.proofs.lemmas.List.{append_assoc, append-nil}
use denote.Enum.Bare.{sameb, same_true}
use Rattle.aseba_words.specs.declared.operators.Unary.{Unary}
use Rattle.aseba_words.specs.declared.operators.Binary.{Binary}
use Rattle.aseba_tree.specs.declared.token.Token.{Token}
use Rattle.aseba_tree.specs.declared.token.TokenKind.{TokenKind}
use Rattle.aseba_tree.specs.declared.token.Sign.{Sign}
use Rattle.aseba_tree.specs.contracts.Sign as sign_type
use Rattle.aseba_tree.specs.Code.{Name, Expr, expr, number, two, at}
use Rattle.aseba_tree.specs.View.{exprs_of}
use Rattle.aseba_tree.specs.Spells.{place, operator, prefix_operator, level_of, prefix_level, any_level, first_of, IsName, IsSign, SpellsExpr, a_number, a_target, a_list, in_parentheses, a_prefix, an_operation, a_tighter, SpellsList, the_last, one_before, SpellsTarget, all_cells, one_cell, some_cells}
use Rattle.aseba_parser.specs.Reading.{Read, taken, wrong, next, is_sign, expected, Inside, list_read, index_end, part_read, target_read, leaf, leaf_by, Operation, at_level, infix_at, prefix_at, is_there, goes_on, operation, operation_by, grouped, unprefixed, prefixed, prefixed_by, level_read, inside_of, expr_read}
use Rattle.aseba_parser.proofs.Laws.{Beginning}
use Rattle.aseba_parser.proofs.Means.{Told, done, fault, behind_first, behind, finally, told_as, by_test, is_the_sign, behind_sign, behind_name, Many, no_more, another, all_read, Every, behind_opened}

-- reads expressions of each level
abbrev pub ReadsExpr : (ℕ → List Token → Read Expr) → Type 0
ReadsExpr read = (level : ℕ) (tokens : List Token) → Told (SpellsExpr level) tokens (read level tokens)

-- a number, as an expression of each level
a_one : Token
a_one = record { at = record { line = 1; col = 1 }; kind = TokenKind.Number (pos 1) }

of_level : (level : ℕ) → SpellsExpr level (a_one ∷ []) (expr (place a_one) (place a_one) (number (pos 1)))
unfolding a_one
of_level zero = a_number a_one (pos 1) refl refl refl refl
of_level (suc level) = a_tighter level refl (of_level level)

pub expr_begins : (level : ℕ) → Beginning (SpellsExpr level) []
expr_begins level = (a_one ∷ [], _, of_level level)

-- a reader that takes nothing
abbrev pub blind : ℕ → List Token → Read Expr
blind level tokens = wrong tokens

pub blind_reads : ReadsExpr blind
blind_reads level tokens = fault (expr_begins level)

-- lists
abbrev BehindComma : List Token → Expr → Type 0
BehindComma used e = (comma : Token) × (inner : List Token) × (used ≡ comma ∷ inner) × IsSign Sign.Comma comma × SpellsExpr any_level inner e

listed : (e : Expr) (first : List Token) → SpellsExpr any_level first e → (more : List Token) (others : List Expr) → Many Expr BehindComma more others → SpellsList (first ++ more) (exprs_of (e ∷ others))
listed e first d more others (no_more no_tokens none) = the_last e (ap (λ es. exprs_of (e ∷ es)) none) (subst (λ tokens. SpellsExpr any_level tokens e) (sym (ap (λ more. first ++ more) no_tokens ∙ append-nil first)) d)
listed e first d more others (another used rest f behind_f parts are (comma, inner, follows, is_comma, df) ds) =
    one_before first (inner ++ rest) comma e (exprs_of (f ∷ behind_f)) is_comma (simp (parts, follows)) (ap (λ es. exprs_of (e ∷ es)) are) d (listed f inner df rest behind_f ds)

abbrev item_read : (ℕ → List Token → Read Expr) → List Token → Read Expr
item_read read tokens = next (expected (is_sign Sign.Comma) tokens) (λ comma rest. read any_level rest)

item_reads : (read : ℕ → List Token → Read Expr) → ReadsExpr read → (t : Token) (rest : List Token) → is_sign Sign.Comma t.kind ≡ true → Told BehindComma (t ∷ rest) (item_read read (t ∷ rest))
item_reads read reads t rest begins = behind_sign Sign.Comma (λ comma tail is_comma. told_as (reads any_level tail) (λ f inner d. (comma, inner, refl, is_comma, d)))

pub list_reads : (read : ℕ → List Token → Read Expr) → ReadsExpr read → (tokens : List Token) → Told SpellsList tokens (list_read read tokens)
list_reads read reads tokens = behind (reads any_level tokens) (λ e used after d. finally _ (all_read (is_sign Sign.Comma) (item_read read) (item_reads read reads) after)
    (λ others more ds. listed e used d more others ds))

-- targets
closing_reads : (t opening : Token) (name : Name) (inner : List Token) (e : Expr) → IsName name t → IsSign Sign.OpenBracket opening → SpellsExpr any_level inner e → (tokens : List Token)
    → Told (λ more part. SpellsTarget (t ∷ opening ∷ (inner ++ more)) (record { place = place t; name = name; part = part })) tokens (next (expected (is_sign Sign.CloseBracket) tokens) (λ closing behind. taken (at e) behind))
closing_reads t opening name inner e is_name is_open d tokens = behind_sign Sign.CloseBracket (λ closing rest is_close. done (one_cell t opening closing name inner e is_name is_open is_close refl refl d))

index_end_reads : (read : ℕ → List Token → Read Expr) → ReadsExpr read → (t opening : Token) (name : Name) (inner : List Token) (e : Expr) → IsName name t → IsSign Sign.OpenBracket opening → SpellsExpr any_level inner e
    → (tokens : List Token) → Told (λ more part. SpellsTarget (t ∷ opening ∷ (inner ++ more)) (record { place = place t; name = name; part = part })) tokens (index_end read e tokens)
index_end_reads read reads t opening name inner e is_name is_open d [] = closing_reads t opening name inner e is_name is_open d []
index_end_reads read reads t opening name inner e is_name is_open d (c ∷ rest) = by_test (is_sign Sign.Colon c.kind)
    (λ is_colon. behind_first (behind (reads any_level rest) (λ f high after df. behind_sign Sign.CloseBracket (λ closing last is_close.
    done (some_cells t opening c closing name inner high e f is_name is_open (is_the_sign Sign.Colon c is_colon) is_close refl refl d df)))))
    (λ is_none. closing_reads t opening name inner e is_name is_open d (c ∷ rest))

part_reads : (inside : Inside) → Every ReadsExpr inside → (t : Token) (name : Name) → IsName name t → (tokens : List Token)
    → Told (λ more part. SpellsTarget (t ∷ more) (record { place = place t; name = name; part = part })) tokens (part_read inside tokens)
part_reads inside good t name is_name [] = done (all_cells t name is_name refl refl)
part_reads inside good t name is_name (o ∷ rest) = by_test (is_sign Sign.OpenBracket o.kind)
    (λ is_open. behind_opened ReadsExpr inside good blind blind_reads (λ read reads. behind (reads any_level rest) (λ e inner after d.
    index_end_reads read reads t o name inner e is_name (is_the_sign Sign.OpenBracket o is_open) d after)))
    (λ is_none. done (all_cells t name is_name refl refl))

pub target_reads : (inside : Inside) → Every ReadsExpr inside → (tokens : List Token) → Told SpellsTarget tokens (target_read inside tokens)
target_reads inside good tokens = behind_name _ (λ t name rest is_name. finally _ (part_reads inside good t name is_name rest) (λ part used d. d))

-- leaves
leaf_by_sign : (inside : Inside) → Every ReadsExpr inside → (t : Token) (rest : List Token) (sign : Sign) → IsSign sign t → Told (SpellsExpr 0) (t ∷ rest) (leaf_by inside t rest (TokenKind.Sign sign))
leaf_by_sign inside good t rest sign is = by_test (sameb sign_type.the_type sign Sign.OpenParen)
    (λ e. behind_opened ReadsExpr inside good blind blind_reads (λ read reads. behind (reads any_level rest) (λ i inner after d. behind_sign Sign.CloseParen (λ closing last is_close.
    done (in_parentheses t closing inner i (is ∙ ap TokenKind.Sign (same_true sign_type.the_type tt sign Sign.OpenParen e)) is_close refl refl refl d)))))
    (λ other. by_test (sameb sign_type.the_type sign Sign.OpenBracket)
    (λ e. behind_opened ReadsExpr inside good blind blind_reads (λ read reads. behind (list_reads read reads rest) (λ es inner after d. behind_sign Sign.CloseBracket (λ closing last is_close.
    done (a_list t closing inner es (is ∙ ap TokenKind.Sign (same_true sign_type.the_type tt sign Sign.OpenBracket e)) is_close refl refl refl d)))))
    (λ none. fault (expr_begins 0)))

leaf_by_kind : (inside : Inside) → Every ReadsExpr inside → (t : Token) (rest : List Token) (kind : TokenKind) → t.kind ≡ kind → Told (SpellsExpr 0) (t ∷ rest) (leaf_by inside t rest kind)
leaf_by_kind inside good t rest (TokenKind.Number v) is = behind_first (done (a_number t v is refl refl refl))
leaf_by_kind inside good t rest (TokenKind.Name name) is = finally _ (target_reads inside good (t ∷ rest)) (λ target used d. a_target target refl refl d)
leaf_by_kind inside good t rest (TokenKind.Key key) is = fault (expr_begins 0)
leaf_by_kind inside good t rest (TokenKind.Sign sign) is = leaf_by_sign inside good t rest sign is

leaf_reads : (inside : Inside) → Every ReadsExpr inside → (tokens : List Token) → Told (SpellsExpr 0) tokens (leaf inside tokens)
leaf_reads inside good [] = fault (expr_begins 0)
leaf_reads inside good (t ∷ rest) = leaf_by_kind inside good t rest t.kind refl

-- levels
of_the_level : {A : Type 0} (of : A → ℕ) (level : ℕ) (found : Option A) (a : A) → at_level of level found ≡ Some a → (found ≡ Some a) × (of a ≡ level)
of_the_level of level None a e = absurd (cc e)
of_the_level of level (Some b) a e = by_level (nat_eq (of b) level) refl e
  where
    by_level : (same : Bool) → nat_eq (of b) level ≡ same → (elim same [ true ↦ Some b | false ↦ None ]) ≡ Some a → (Some b ≡ Some a) × (of a ≡ level)
    by_level true is f = (f, subst (λ op. of op ≡ level) (cc f) (eqb-true (of b) level is))
    by_level false is f = absurd (cc f)

-- an operation behind its left side
abbrev OneOperation : ℕ → List Token → Operation → Type 0
OneOperation tighter used o = (inner : List Token) × (used ≡ o.token ∷ inner) × (operator o.token.kind ≡ Some o.op) × (level_of o.op ≡ suc tighter) × SpellsExpr tighter inner o.right

operation_reads : (tighter : ℕ) (read : List Token → Read Expr) → ((tokens : List Token) → Told (SpellsExpr tighter) tokens (read tokens)) → (t : Token) (rest : List Token) → goes_on (suc tighter) t.kind ≡ true
    → Told (OneOperation tighter) (t ∷ rest) (operation (suc tighter) read (t ∷ rest))
operation_reads tighter read reads t rest goes = by_operator (infix_at (suc tighter) t.kind) refl goes
  where
    by_operator : (found : Option Binary) → infix_at (suc tighter) t.kind ≡ found → is_there found ≡ true → Told (OneOperation tighter) (t ∷ rest) (operation_by read t rest found)
    by_operator None is there = absurd (cc there)
    by_operator (Some op) is there =
        let facts : (operator t.kind ≡ Some op) × (level_of op ≡ suc tighter) = of_the_level level_of (suc tighter) (operator t.kind) op is in
        behind_first (finally _ (reads rest) (λ r inner d. (inner, refl, facts.0, facts.1, d)))

grouped_spells : (tighter : ℕ) (l : Expr) (left : List Token) → SpellsExpr (suc tighter) left l → (others : List Operation) (tokens : List Token) → Many Operation (OneOperation tighter) tokens others → SpellsExpr (suc tighter) (left ++ tokens) (grouped l others)
grouped_spells tighter l left d others tokens (no_more no_tokens none) = rw (no_tokens, none, append-nil) d
grouped_spells tighter l left d others tokens (another used rest o more parts are (inner, follows, is, of, dr) ds) =
    let whole : left ++ tokens ≡ (left ++ o.token ∷ inner) ++ rest = simp (parts, follows, append_assoc) in
    rw (whole, are) (grouped_spells tighter (expr (first_of l) (place o.token) (two o.op l o.right)) (left ++ o.token ∷ inner)
    (an_operation left inner o.token o.op tighter l o.right is refl (sym of) refl refl d dr) more rest ds)

unprefixed_reads : (tighter : ℕ) (read : List Token → Read Expr) → ((tokens : List Token) → Told (SpellsExpr tighter) tokens (read tokens)) → (tokens : List Token)
    → Told (SpellsExpr (suc tighter)) tokens (unprefixed (suc tighter) read tokens)
unprefixed_reads tighter read reads tokens = behind (reads tokens) (λ l used after d. finally _ (all_read (goes_on (suc tighter)) (operation (suc tighter) read) (operation_reads tighter read reads) after) (λ others more ds. grouped_spells tighter l used (a_tighter tighter refl d) others more ds))

prefixed_reads : (inside : Inside) → Every ReadsExpr inside → (tighter : ℕ) (read : List Token → Read Expr) → ((tokens : List Token) → Told (SpellsExpr tighter) tokens (read tokens)) → (tokens : List Token)
    → Told (SpellsExpr (suc tighter)) tokens (prefixed inside (suc tighter) read tokens)
prefixed_reads inside good tighter read reads [] = unprefixed_reads tighter read reads []
prefixed_reads inside good tighter read reads (t ∷ rest) = by_operator (prefix_at (suc tighter) t.kind) refl
  where
    by_operator : (found : Option Unary) → prefix_at (suc tighter) t.kind ≡ found → Told (SpellsExpr (suc tighter)) (t ∷ rest) (prefixed_by inside (suc tighter) read t rest found)
    by_operator None is = unprefixed_reads tighter read reads (t ∷ rest)
    by_operator (Some op) is =
        let facts : (prefix_operator t.kind ≡ Some op) × (prefix_level op ≡ suc tighter) = of_the_level prefix_level (suc tighter) (prefix_operator t.kind) op is in
        behind_opened ReadsExpr inside good blind blind_reads (λ inner inner_reads. finally _ (inner_reads (suc tighter) rest) (λ e used d. a_prefix t op used e facts.0 refl (sym facts.1) refl d))

level_reads : (inside : Inside) → Every ReadsExpr inside → ReadsExpr (level_read inside)
level_reads inside good zero tokens = leaf_reads inside good tokens
level_reads inside good (suc tighter) tokens = prefixed_reads inside good tighter (level_read inside tighter) (level_reads inside good tighter) tokens

pub inside_reads : (depth : ℕ) → Every ReadsExpr (inside_of depth)
inside_reads zero = tt
inside_reads (suc depth) = level_reads (inside_of depth) (inside_reads depth)

pub expr_reads : (depth level : ℕ) (tokens : List Token) → Told (SpellsExpr level) tokens (expr_read depth level tokens)
expr_reads depth level tokens = level_reads (inside_of depth) (inside_reads depth) level tokens
