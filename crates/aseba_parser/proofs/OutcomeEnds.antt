-- What may stand behind an expression: nothing that goes on with it.
use Rattle.std.proofs.Common.{◌≡◌, ◌∙◌, ℕ, suc, ◌≤◌, Bool, true, false, List, [], ◌∷◌, Option, Some, None, refl, ap, subst, arith}
use Rattle.std.specs.Prelude.{nat_eq}
use denote.Enum.Bare.{same_true, sameb}
use Rattle.aseba_tree.specs.declared.token.Token.{Token}
use Rattle.aseba_tree.specs.declared.token.TokenKind.{TokenKind}
use Rattle.aseba_tree.specs.declared.token.Sign.{Sign}
use Rattle.aseba_tree.specs.contracts.Sign as sign_type
use Rattle.aseba_words.specs.declared.operators.Unary.{Unary}
use Rattle.aseba_words.specs.declared.operators.Unary.TheVariants.{Minus, Abs, BitNot, Not}
use Rattle.aseba_words.specs.declared.operators.Binary.{Binary}
use Rattle.aseba_words.specs.declared.operators.Binary.TheVariants.{Mul}
use Rattle.aseba_tree.specs.Spells.{operator, prefix_operator, prefix_level, level_of}
use Rattle.aseba_parser.specs.Reading.{is_sign, goes_on, infix_at, prefix_at, at_level, is_there}

-- no index follows
abbrev pub Unindexed : List Token → Type 0
Unindexed [] = Unit {0}
Unindexed (t ∷ rest) = is_sign Sign.OpenBracket t.kind ≡ false

-- neither an index nor an operator of a level up to that one follows
abbrev pub Ends : ℕ → List Token → Type 0
Ends level [] = Unit {0}
Ends level (t ∷ rest) = (is_sign Sign.OpenBracket t.kind ≡ false) × ((m : ℕ) → m ≤ level → goes_on m t.kind ≡ false)

pub unindexed : (level : ℕ) (rest : List Token) → Ends level rest → Unindexed rest
unindexed level [] ends = tt
unindexed level (t ∷ rest) ends = ends.0

pub looser : (level : ℕ) (rest : List Token) → Ends (suc level) rest → Ends level rest
looser level [] ends = tt
looser level (t ∷ rest) ends = (ends.0, λ m below. ends.1 m (omega arith))

pub other_level : (a b : ℕ) → (a ≡ b → ⊥) → nat_eq a b ≡ false
other_level a b differ = grind arith

pub same_level : (a : ℕ) → nat_eq a a ≡ true
same_level a = grind arith

at_none : (m : ℕ) (o : Option Binary) → o ≡ None → is_there (at_level level_of m o) ≡ false
at_none m o e = ap (λ (x : Option Binary). is_there (at_level level_of m x)) e

-- a token that is no operator
pub ends_closed : (t : Token) (rest : List Token) (kind : TokenKind) (level : ℕ) → t.kind ≡ kind → is_sign Sign.OpenBracket kind ≡ false → operator kind ≡ None → Ends level (t ∷ rest)
ends_closed t rest kind level e bracket none =
    (ap (λ (k : TokenKind). is_sign Sign.OpenBracket k) e ∙ bracket, λ m below. at_none m (operator t.kind) (ap operator e ∙ none))

-- an operator is no bracket
no_bracket_sign : (sign : Sign) (op : Binary) (q : Bool) → operator (TokenKind.Sign sign) ≡ Some op → sameb sign_type.the_type sign Sign.OpenBracket ≡ q → q ≡ false
no_bracket_sign sign op false e f = refl
no_bracket_sign sign op true e f =
    let none : operator (TokenKind.Sign sign) ≡ None = ap (λ (s : Sign). operator (TokenKind.Sign s)) (same_true sign_type.the_type tt sign Sign.OpenBracket f) in
    cc

no_bracket : (kind : TokenKind) (op : Binary) → operator kind ≡ Some op → is_sign Sign.OpenBracket kind ≡ false
no_bracket (TokenKind.Sign sign) op e = no_bracket_sign sign op (sameb sign_type.the_type sign Sign.OpenBracket) e refl
no_bracket (TokenKind.Key key) op e = refl
no_bracket (TokenKind.Name name) op e = refl
no_bracket (TokenKind.Number v) op e = refl

at_other : (m level : ℕ) (o : Option Binary) (op : Binary) → o ≡ Some op → level_of op ≡ suc level → m ≤ level → is_there (at_level level_of m o) ≡ false
at_other m level o op e q below =
    ap (λ (x : Option Binary). is_there (at_level level_of m x)) e
    ∙ ap (λ (b : Bool). is_there (elim b as (λ c. Option Binary) [ true ↦ Some op | false ↦ None ])) (other_level (level_of op) m (λ same. omega arith))

-- an operator of the next level
pub ends_operator : (t : Token) (rest : List Token) (op : Binary) (level : ℕ) → operator t.kind ≡ Some op → level_of op ≡ suc level → Ends level (t ∷ rest)
ends_operator t rest op level e q = (no_bracket t.kind op e, λ m below. at_other m level (operator t.kind) op e q below)

pub infix_there : (t : Token) (op : Binary) (level : ℕ) → operator t.kind ≡ Some op → level_of op ≡ level → infix_at level t.kind ≡ Some op
infix_there t op level e q =
    ap (λ (x : Option Binary). at_level level_of level x) e
    ∙ ap (λ (b : Bool). elim b as (λ c. Option Binary) [ true ↦ Some op | false ↦ None ]) (subst (λ (n : ℕ). nat_eq (level_of op) n ≡ true) q (same_level (level_of op)))

pub prefix_there : (t : Token) (op : Unary) (level : ℕ) → prefix_operator t.kind ≡ Some op → prefix_level op ≡ level → prefix_at level t.kind ≡ Some op
prefix_there t op level e q =
    ap (λ (x : Option Unary). at_level prefix_level level x) e
    ∙ ap (λ (b : Bool). elim b as (λ c. Option Unary) [ true ↦ Some op | false ↦ None ]) (subst (λ (n : ℕ). nat_eq (prefix_level op) n ≡ true) q (same_level (prefix_level op)))

no_prefix_of : (level : ℕ) (o : Option Unary) → ((op : Unary) → o ≡ Some op → prefix_level op ≡ level → ⊥) → at_level prefix_level level o ≡ None
no_prefix_of level None never = refl
no_prefix_of level (Some op) never = ap (λ (b : Bool). elim b as (λ c. Option Unary) [ true ↦ Some op | false ↦ None ]) (other_level (prefix_level op) level (never op refl))

pub no_prefix : (t : Token) (level : ℕ) → ((op : Unary) → prefix_operator t.kind ≡ Some op → prefix_level op ≡ level → ⊥) → prefix_at level t.kind ≡ None
no_prefix t level never = no_prefix_of level (prefix_operator t.kind) never

-- no level has operators of both kinds
levels_differ : (u : Unary) (op : Binary) → nat_eq (level_of op) (prefix_level u) ≡ false
levels_differ Minus Mul = refl
levels_differ Minus _ = refl
levels_differ BitNot Mul = refl
levels_differ BitNot _ = refl
levels_differ Abs Mul = refl
levels_differ Abs _ = refl
levels_differ Not Mul = refl
levels_differ Not _ = refl

pub no_level_of_both : (op : Binary) (u : Unary) → level_of op ≡ prefix_level u → ⊥
no_level_of_both op u e =
    let equal : nat_eq (level_of op) (prefix_level u) ≡ true = subst (λ (n : ℕ). nat_eq (level_of op) n ≡ true) e (same_level (level_of op)) in
    let apart = levels_differ u op in
    cc

-- levels with operators are above 0
pub infix_above : (op : Binary) → 1 ≤ level_of op
infix_above Mul = omega arith
infix_above _ = omega arith

pub prefix_above : (op : Unary) → (m : ℕ) × (prefix_level op ≡ suc m)
prefix_above Minus = (0, refl)
prefix_above BitNot = (0, refl)
prefix_above Abs = (0, refl)
prefix_above Not = (8, refl)
