-- What may stand behind statements and declarations, by the kind of its first token.
use Rattle.std.proofs.Common.{◌≡◌, ◌∙◌, ℕ, Bool, true, false, not, List, [], ◌∷◌, ◌++◌, Some, None, refl, ap}
use Rattle.aseba_tree.specs.declared.token.Token.{Token}
use Rattle.aseba_tree.specs.declared.token.TokenKind.{TokenKind}
use Rattle.aseba_tree.specs.declared.token.Key.{Key}
use Rattle.aseba_tree.specs.declared.token.Sign.{Sign}
use Rattle.aseba_words.specs.declared.operators.Binary.{Binary}
use Rattle.aseba_tree.specs.Spells.{IsKey, operator, changing, stepping}
use Rattle.aseba_parser.specs.Reading.{is_sign, is_key, begins_stmt, begins_part}
use Rattle.aseba_parser.proofs.OutcomeSteps.{Stops}
use Rattle.aseba_parser.proofs.OutcomeEnds.{Unindexed, Ends, ends_closed}

-- no token, or one of that kind first
abbrev pub Begun : (TokenKind → Bool) → List Token → Type 0
Begun kind [] = Unit {0}
Begun kind (t ∷ rest) = kind t.kind ≡ true

-- a name, or a keyword that is no operator: it goes on with no expression
abbrev pub fresh : TokenKind → Bool
fresh (TokenKind.Name name) = true
fresh (TokenKind.Key Key.And) = false
fresh (TokenKind.Key Key.Or) = false
fresh (TokenKind.Key _) = true
fresh _ = false

-- a keyword behind the statements of a block or of a part
abbrev pub closes : TokenKind → Bool
closes (TokenKind.Key Key.End) = true
closes (TokenKind.Key Key.Else) = true
closes (TokenKind.Key Key.ElseIf) = true
closes (TokenKind.Key Key.OnEvent) = true
closes (TokenKind.Key Key.Sub) = true
closes _ = false

abbrev if_so : Bool → Bool → Bool
if_so false q = true
if_so true q = q

then_so : (p q : Bool) → if_so p q ≡ true → p ≡ true → q ≡ true
then_so false q h e = absurd cc
then_so true q h e = h

begun_as : (p q : TokenKind → Bool) → ((kind : TokenKind) → if_so (p kind) (q kind) ≡ true) → (rest : List Token) → Begun p rest → Begun q rest
begun_as p q h [] b = tt
begun_as p q h (t ∷ rest) b = then_so (p t.kind) (q t.kind) (h t.kind) b

stmt_is_fresh : (kind : TokenKind) → if_so (begins_stmt kind) (fresh kind) ≡ true
stmt_is_fresh (TokenKind.Key Key.End) = refl
stmt_is_fresh (TokenKind.Key _) = refl
stmt_is_fresh (TokenKind.Name name) = refl
stmt_is_fresh (TokenKind.Number v) = refl
stmt_is_fresh (TokenKind.Sign sign) = refl

closing_is_fresh : (kind : TokenKind) → if_so (closes kind) (fresh kind) ≡ true
closing_is_fresh (TokenKind.Key Key.End) = refl
closing_is_fresh (TokenKind.Key _) = refl
closing_is_fresh (TokenKind.Name name) = refl
closing_is_fresh (TokenKind.Number v) = refl
closing_is_fresh (TokenKind.Sign sign) = refl

closing_is_no_stmt : (kind : TokenKind) → if_so (closes kind) (not (begins_stmt kind)) ≡ true
closing_is_no_stmt (TokenKind.Key Key.End) = refl
closing_is_no_stmt (TokenKind.Key _) = refl
closing_is_no_stmt (TokenKind.Name name) = refl
closing_is_no_stmt (TokenKind.Number v) = refl
closing_is_no_stmt (TokenKind.Sign sign) = refl

part_closes : (kind : TokenKind) → if_so (begins_part kind) (closes kind) ≡ true
part_closes (TokenKind.Key Key.End) = refl
part_closes (TokenKind.Key _) = refl
part_closes (TokenKind.Name name) = refl
part_closes (TokenKind.Number v) = refl
part_closes (TokenKind.Sign sign) = refl

stmt_is_no_var : (kind : TokenKind) → if_so (begins_stmt kind) (not (is_key Key.Var kind)) ≡ true
stmt_is_no_var (TokenKind.Key Key.End) = refl
stmt_is_no_var (TokenKind.Key _) = refl
stmt_is_no_var (TokenKind.Name name) = refl
stmt_is_no_var (TokenKind.Number v) = refl
stmt_is_no_var (TokenKind.Sign sign) = refl

closing_is_no_var : (kind : TokenKind) → if_so (closes kind) (not (is_key Key.Var kind)) ≡ true
closing_is_no_var (TokenKind.Key Key.End) = refl
closing_is_no_var (TokenKind.Key _) = refl
closing_is_no_var (TokenKind.Name name) = refl
closing_is_no_var (TokenKind.Number v) = refl
closing_is_no_var (TokenKind.Sign sign) = refl

var_is_fresh : (kind : TokenKind) → if_so (is_key Key.Var kind) (fresh kind) ≡ true
var_is_fresh (TokenKind.Key Key.End) = refl
var_is_fresh (TokenKind.Key _) = refl
var_is_fresh (TokenKind.Name name) = refl
var_is_fresh (TokenKind.Number v) = refl
var_is_fresh (TokenKind.Sign sign) = refl

pub fresh_stmt : (rest : List Token) → Begun begins_stmt rest → Begun fresh rest
fresh_stmt rest b = begun_as begins_stmt fresh stmt_is_fresh rest b

pub fresh_closing : (rest : List Token) → Begun closes rest → Begun fresh rest
fresh_closing rest b = begun_as closes fresh closing_is_fresh rest b

pub closing_part : (rest : List Token) → Begun begins_part rest → Begun closes rest
closing_part rest b = begun_as begins_part closes part_closes rest b

pub fresh_var : (rest : List Token) → Begun (is_key Key.Var) rest → Begun fresh rest
fresh_var rest b = begun_as (is_key Key.Var) fresh var_is_fresh rest b

-- two lists in a row
pub begun_both : (p q : TokenKind → Bool) (used rest : List Token) → Begun p used → ((more : List Token) → Begun p more → Begun q more) → Begun q rest → Begun q (used ++ rest)
begun_both p q [] rest b f c = c
begun_both p q (t ∷ used) rest b f c = f (t ∷ used) b

not_so : (q : Bool) → not q ≡ true → q ≡ false
not_so false e = refl
not_so true e = absurd cc

stops_not : (p : TokenKind → Bool) (rest : List Token) → Begun (λ kind. not (p kind)) rest → Stops p rest
stops_not p [] b = tt
stops_not p (t ∷ rest) b = not_so (p t.kind) b

-- no statement begins with what closes a block
pub closing_stops : (rest : List Token) → Begun closes rest → Stops begins_stmt rest
closing_stops rest b = stops_not begins_stmt rest (begun_as closes (λ kind. not (begins_stmt kind)) closing_is_no_stmt rest b)

-- statements and what closes them are no declaration
pub no_var_behind : (used rest : List Token) → Begun begins_stmt used → Begun closes rest → Stops (is_key Key.Var) (used ++ rest)
no_var_behind [] rest b c = stops_not (is_key Key.Var) rest (begun_as closes (λ kind. not (is_key Key.Var kind)) closing_is_no_var rest c)
no_var_behind (t ∷ used) rest b c = stops_not (is_key Key.Var) (t ∷ (used ++ rest)) (begun_as begins_stmt (λ kind. not (is_key Key.Var kind)) stmt_is_no_var (t ∷ (used ++ rest)) b)

-- a fresh token is no operator, no bracket and no `=`
fresh_operator : (kind : TokenKind) → fresh kind ≡ true → operator kind ≡ None
fresh_operator (TokenKind.Key Key.And) e = absurd cc
fresh_operator (TokenKind.Key Key.Or) e = absurd cc
fresh_operator (TokenKind.Key _) e = refl
fresh_operator (TokenKind.Name name) e = refl
fresh_operator (TokenKind.Number v) e = absurd cc
fresh_operator (TokenKind.Sign sign) e = absurd cc

pub fresh_sign : (sign : Sign) (kind : TokenKind) → fresh kind ≡ true → is_sign sign kind ≡ false
fresh_sign sign (TokenKind.Key key) e = refl
fresh_sign sign (TokenKind.Name name) e = refl
fresh_sign sign (TokenKind.Number v) e = absurd cc
fresh_sign sign (TokenKind.Sign found) e = absurd cc

pub fresh_ends : (level : ℕ) (rest : List Token) → Begun fresh rest → Ends level rest
fresh_ends level [] b = tt
fresh_ends level (t ∷ rest) b = ends_closed t rest t.kind level refl (fresh_sign Sign.OpenBracket t.kind b) (fresh_operator t.kind b)

-- a keyword, by what it is
pub begun_key : (kind : TokenKind → Bool) (key : Key) (t : Token) (rest : List Token) → IsKey key t → kind (TokenKind.Key key) ≡ true → Begun kind (t ∷ rest)
begun_key kind key t rest e is = ap kind e ∙ is

-- what stands behind the target of a statement is no bracket, and sets in one way
pub changing_opens_nothing : (kind : TokenKind) (op : Binary) → changing kind ≡ Some op → is_sign Sign.OpenBracket kind ≡ false
changing_opens_nothing (TokenKind.Sign Sign.OpenBracket) op e = absurd cc
changing_opens_nothing (TokenKind.Sign _) op e = refl
changing_opens_nothing (TokenKind.Key key) op e = refl
changing_opens_nothing (TokenKind.Name name) op e = refl
changing_opens_nothing (TokenKind.Number v) op e = refl

pub stepping_opens_nothing : (kind : TokenKind) (op : Binary) → stepping kind ≡ Some op → is_sign Sign.OpenBracket kind ≡ false
stepping_opens_nothing (TokenKind.Sign Sign.OpenBracket) op e = absurd cc
stepping_opens_nothing (TokenKind.Sign _) op e = refl
stepping_opens_nothing (TokenKind.Key key) op e = refl
stepping_opens_nothing (TokenKind.Name name) op e = refl
stepping_opens_nothing (TokenKind.Number v) op e = refl

pub changing_is_no_step : (kind : TokenKind) (op : Binary) → changing kind ≡ Some op → stepping kind ≡ None
changing_is_no_step (TokenKind.Sign Sign.PlusPlus) op e = absurd cc
changing_is_no_step (TokenKind.Sign Sign.MinusMinus) op e = absurd cc
changing_is_no_step (TokenKind.Sign _) op e = refl
changing_is_no_step (TokenKind.Key key) op e = refl
changing_is_no_step (TokenKind.Name name) op e = refl
changing_is_no_step (TokenKind.Number v) op e = refl

-- a `=` is no bracket
assign_opens_nothing : (kind : TokenKind) → if_so (is_sign Sign.Assign kind) (not (is_sign Sign.OpenBracket kind)) ≡ true
assign_opens_nothing (TokenKind.Sign Sign.OpenBracket) = refl
assign_opens_nothing (TokenKind.Sign _) = refl
assign_opens_nothing (TokenKind.Key key) = refl
assign_opens_nothing (TokenKind.Name name) = refl
assign_opens_nothing (TokenKind.Number v) = refl

-- neither a value nor what begins afresh is an index
pub unindexed_value : (used rest : List Token) → Begun (is_sign Sign.Assign) used → Begun fresh rest → Unindexed (used ++ rest)
unindexed_value [] [] b c = tt
unindexed_value [] (t ∷ rest) b c = fresh_sign Sign.OpenBracket t.kind c
unindexed_value (t ∷ used) rest b c = not_so (is_sign Sign.OpenBracket t.kind) (then_so (is_sign Sign.Assign t.kind) (not (is_sign Sign.OpenBracket t.kind)) (assign_opens_nothing t.kind) b)
