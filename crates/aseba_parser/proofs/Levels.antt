-- What is read by rising from level to level only where an operator stands is what each level reads behind the tighter one.
use Rattle.std.proofs.Common.{◌≡◌, ◌∙◌, ℕ, zero, suc, ◌+◌, ◌-◌, ◌≤◌, ◌<◌, Bool, true, false, List, [], ◌∷◌, Option, Some, None, refl, sym, ap, subst, arith, zero-add}
use Rattle.std.specs.Prelude.{IfSome, option_map}
use Rattle.aseba_words.specs.declared.operators.Unary.{Unary}
use Rattle.aseba_words.specs.declared.operators.Binary.{Binary}
use Rattle.aseba_tree.specs.declared.token.Token.{Token}
use Rattle.aseba_tree.specs.Code.{Expr}
use Rattle.aseba_tree.specs.Spells.{operator, prefix_operator, level_of, prefix_level}
use Rattle.aseba_parser.specs.declared.fault.Fault.{Fault}
use Rattle.aseba_parser.specs.Reading.{Read, taken, wrong, deep, next, Inside, leaf, at_level, is_there, prefix_at, goes_on, operation, grouped, operations, unprefixed, prefixed_by, level_read, rises, raised, operand_read}
use Rattle.aseba_parser.specs.Reads.{Stops, begins_with, prefix_in_front, infix_in_front}
use Rattle.aseba_parser.proofs.Loops.{next-next, at-start, ends-there, stops-with}
use Rattle.aseba_parser.proofs.OutcomeEnds.{other_level, no_prefix, prefix_there, prefix_above}

-- Of which levels no operator of two operands stands in front.
at-another : (k : ℕ) (o : Option Binary) → IfSome (option_map level_of o) (λ own. own ≡ k → ⊥) → is_there (at_level level_of k o) ≡ false
at-another k None other = refl
at-another k (Some op) other = ap (λ (b : Bool). is_there (elim b as (λ c. Option Binary) [ true ↦ Some op | false ↦ None ])) (other_level (level_of op) k other)

none-at : (k : ℕ) (tokens : List Token) → IfSome (infix_in_front tokens) (λ own. own ≡ k → ⊥) → begins_with (goes_on k) tokens ≡ false
none-at k [] other = refl
none-at k (t ∷ rest) other = at-another k (operator t.kind) other

abbrev HasNone : ℕ → ℕ → List Token → Type 0
HasNone above level tokens = (k : ℕ) → above < k → k ≤ level → begins_with (goes_on k) tokens ≡ false

other-than : (k above level : ℕ) (o : Option ℕ) → above < k → k ≤ level → IfSome o (λ own. above < own → level < own) → IfSome o (λ own. own ≡ k → ⊥)
other-than k above level None over under none = tt
other-than k above level (Some own) over under none = λ same. let far : level < own = none (omega arith) in omega arith

none-up-to : (above level : ℕ) (tokens : List Token) → IfSome (infix_in_front tokens) (λ own. above < own → level < own) → HasNone above level tokens
none-up-to above level tokens none k over under = none-at k tokens (other-than k above level (infix_in_front tokens) over under none)

none-below : (own : ℕ) (tokens : List Token) → infix_in_front tokens ≡ Some own → (k : ℕ) → k < own → begins_with (goes_on k) tokens ≡ false
none-below own tokens found k below = none-at k tokens (subst (λ (o : Option ℕ). IfSome o (λ own. own ≡ k → ⊥)) (sym found) (λ same. omega arith))

no-operations : (k : ℕ) (tighter : List Token → Read Expr) (l : Expr) (tokens : List Token) → begins_with (goes_on k) tokens ≡ false → operations k tighter l tokens ≡ taken l tokens
no-operations k tighter l tokens none =
    ends-there (goes_on k) (operation k tighter) (λ others behind. taken (grouped l others) behind) tokens (operations k tighter l tokens)
    (at-start (goes_on k) (operation k tighter) (λ others behind. taken (grouped l others) behind) tokens) none

-- Levels without an operator in front are passed by.
same-rise : (inside : Inside) (a b m n : ℕ) (l : Expr) (tokens : List Token) → a ≡ b → m ≡ n → rises inside a m l tokens ≡ rises inside b n l tokens
same-rise inside a b m n l tokens p q = ap (λ (k : ℕ). rises inside k m l tokens) p ∙ ap (λ (k : ℕ). rises inside b k l tokens) q

passed-by : (inside : Inside) (n above more : ℕ) (l : Expr) (tokens : List Token) → n ≤ more → HasNone above (above + n) tokens → rises inside above more l tokens ≡ rises inside (above + n) (more - n) l tokens
passed-by inside zero above more l tokens fits none = same-rise inside above (above + zero) more (more - zero) l tokens (omega arith) (omega arith)
passed-by inside (suc n) above zero l tokens fits none = absurd (omega arith)
passed-by inside (suc n) above (suc more) l tokens fits none =
    ap (λ (r : Read Expr). next r (λ e behind. rises inside (suc above) more e behind)) (no-operations (suc above) (level_read inside above) l tokens (none (suc above) (omega arith) (omega arith)))
    ∙ passed-by inside n (suc above) more l tokens (omega arith) (λ k over under. none k (omega arith) (omega arith))
    ∙ same-rise inside (suc above + n) (above + suc n) (more - n) (suc more - suc n) l tokens (omega arith) (omega arith)

first-rise : (inside : Inside) (own more : ℕ) (l : Expr) (tokens : List Token) → 1 ≤ own
    → rises inside (own - 1) (suc more) l tokens ≡ next (operations own (level_read inside (own - 1)) l tokens) (λ e behind. rises inside own more e behind)
first-rise inside zero more l tokens least = absurd (omega arith)
first-rise inside (suc p) more l tokens least =
    let same : p ≡ suc p - 1 = omega arith in
    subst (λ (k : ℕ). rises inside k (suc more) l tokens ≡ next (operations (suc p) (level_read inside k) l tokens) (λ e behind. rises inside (suc p) more e behind)) same refl

rise-to : (inside : Inside) (done own level : ℕ) (l : Expr) (tokens : List Token) → infix_in_front tokens ≡ Some own → done < own → own ≤ level
    → raised inside done level l tokens ≡ next (operations own (level_read inside (own - 1)) l tokens) (λ e behind. raised inside own level e behind)
rise-to inside done own level l tokens found over under =
    passed-by inside (own - 1 - done) done (level - done) l tokens (omega arith) (λ k above below. none-below own tokens found k (omega arith))
    ∙ same-rise inside (done + (own - 1 - done)) (own - 1) (level - done - (own - 1 - done)) (suc (level - own)) l tokens (omega arith) (omega arith)
    ∙ first-rise inside own (level - own) l tokens (omega arith)

-- The loop that rises: from each turn on it goes on as from the start.
pub raised-on : (inside : Inside) (done own level : ℕ) (l grown : Expr) (tokens after : List Token) (whole : Read Expr) → raised inside done level l tokens ≡ whole
    → infix_in_front tokens ≡ Some own → done < own → own ≤ level → operations own (level_read inside (own - 1)) l tokens ≡ taken grown after → raised inside own level grown after ≡ whole
raised-on inside done own level l grown tokens after whole h found over under read =
    sym (rise-to inside done own level l tokens found over under ∙ ap (λ (r : Read Expr). next r (λ e behind. raised inside own level e behind)) read) ∙ h

pub raised-stops : (inside : Inside) (done own level : ℕ) (l : Expr) (tokens : List Token) (whole : Read Expr) (e : Fault) → raised inside done level l tokens ≡ whole
    → infix_in_front tokens ≡ Some own → done < own → own ≤ level → Stops (operations own (level_read inside (own - 1)) l tokens) e → Stops whole e
raised-stops inside done own level l tokens whole e h found over under stop =
    subst (λ (r : Read Expr). Stops r e) (sym (rise-to inside done own level l tokens found over under) ∙ h) (stops-with (operations own (level_read inside (own - 1)) l tokens) _ e stop)

pub raised-ends : (inside : Inside) (done level : ℕ) (l : Expr) (tokens : List Token) (whole : Read Expr) → raised inside done level l tokens ≡ whole
    → done ≤ level → IfSome (infix_in_front tokens) (λ own. done < own → level < own) → whole ≡ taken l tokens
raised-ends inside done level l tokens whole h under none =
    sym h ∙ passed-by inside (level - done) done (level - done) l tokens (omega arith) (λ k above below. none-up-to done level tokens none k above (omega arith))
    ∙ same-rise inside (done + (level - done)) level (level - done - (level - done)) zero l tokens (omega arith) (omega arith)

-- Levels none of whose operators of one operand stands in front.
abbrev IsBare : ℕ → List Token → Type 0
IsBare k [] = Unit {0}
IsBare k (t ∷ rest) = prefix_at k t.kind ≡ None

bare-step : (inside : Inside) (above : ℕ) (tokens : List Token) → IsBare (suc above) tokens → level_read inside (suc above) tokens ≡ unprefixed (suc above) (level_read inside above) tokens
bare-step inside above [] bare = refl
bare-step inside above (t ∷ rest) bare = ap (λ (o : Option Unary). prefixed_by inside (suc above) (level_read inside above) t rest o) bare

next-taken : (r : Read Expr) → r ≡ next r (λ e behind. taken e behind)
next-taken (taken e behind) = refl
next-taken (wrong rest) = refl
next-taken (deep rest) = refl

all-levels : (inside : Inside) (more above : ℕ) (tokens : List Token) → ((k : ℕ) → above < k → k ≤ above + more → IsBare k tokens)
    → level_read inside (above + more) tokens ≡ next (level_read inside above tokens) (λ e behind. rises inside above more e behind)
all-levels inside zero above tokens bare =
    let same : above + zero ≡ above = omega arith in
    ap (λ (k : ℕ). level_read inside k tokens) same ∙ next-taken (level_read inside above tokens)
all-levels inside (suc more) above tokens bare =
    let same : above + suc more ≡ suc above + more = omega arith in
    ap (λ (k : ℕ). level_read inside k tokens) same
    ∙ all-levels inside more (suc above) tokens (λ k over under. bare k (omega arith) (omega arith))
    ∙ ap (λ (r : Read Expr). next r (λ e behind. rises inside (suc above) more e behind)) (bare-step inside above tokens (bare (suc above) (omega arith) (omega arith)))
    ∙ next-next (level_read inside above tokens) (λ l after. operations (suc above) (level_read inside above) l after) (λ e behind. rises inside (suc above) more e behind)

up-to : (inside : Inside) (above level : ℕ) (tokens : List Token) → above ≤ level → ((k : ℕ) → above < k → k ≤ level → IsBare k tokens)
    → level_read inside level tokens ≡ next (level_read inside above tokens) (λ e behind. raised inside above level e behind)
up-to inside above level tokens fits bare =
    let same : level ≡ above + (level - above) = omega arith in
    ap (λ (k : ℕ). level_read inside k tokens) same ∙ all-levels inside (level - above) above tokens (λ k over under. bare k over (omega arith))

bare-up-to : (level : ℕ) (tokens : List Token) → IfSome (prefix_in_front tokens) (λ own. level < own) → (k : ℕ) → k ≤ level → IsBare k tokens
bare-up-to level [] none k under = tt
bare-up-to level (t ∷ rest) none k under = no_prefix t k (λ op is same.
    let far : level < prefix_level op = subst (λ (o : Option Unary). IfSome (option_map prefix_level o) (λ own. level < own)) is none in
    omega arith)

-- an expression of a level that no operator of one operand begins
pub unprefixed-is : (inside : Inside) (level : ℕ) (tokens : List Token) → IfSome (prefix_in_front tokens) (λ own. level < own)
    → level_read inside level tokens ≡ next (leaf inside tokens) (λ e behind. raised inside 0 level e behind)
unprefixed-is inside level tokens none = up-to inside 0 level tokens (omega arith) (λ k over under. bare-up-to level tokens none k under)

bare-above : (t : Token) (op : Unary) (own k : ℕ) → prefix_operator t.kind ≡ Some op → prefix_level op ≡ own → own < k → prefix_at k t.kind ≡ None
bare-above t op own k is at over = no_prefix t k (λ other found same.
    let equal : other ≡ op = cc in
    let level : prefix_level other ≡ prefix_level op = ap prefix_level equal in
    omega arith)

operand-is : (inside : Inside) (own m : ℕ) (t : Token) (rest : List Token) (op : Unary) → own ≡ suc m → prefix_operator t.kind ≡ Some op → prefix_level op ≡ own
    → level_read inside own (t ∷ rest) ≡ operand_read inside own op (t ∷ rest)
operand-is inside own m t rest op e is at =
    subst (λ (k : ℕ). level_read inside k (t ∷ rest) ≡ operand_read inside k op (t ∷ rest)) (sym e)
    (ap (λ (o : Option Unary). prefixed_by inside (suc m) (level_read inside m) t rest o) (prefix_there t op (suc m) is (at ∙ e)))

-- an expression of a level that an operator of one operand begins
pub prefixed-is : (inside : Inside) (own level : ℕ) (tokens : List Token) (t : Token) (rest : List Token) (op : Unary) → tokens ≡ t ∷ rest → prefix_operator t.kind ≡ Some op → prefix_level op ≡ own → own ≤ level
    → level_read inside level tokens ≡ next (operand_read inside own op tokens) (λ e behind. raised inside own level e behind)
prefixed-is inside own level tokens t rest op whole is at fits =
    let above = prefix_above op in
    subst (λ (ts : List Token). level_read inside level ts ≡ next (operand_read inside own op ts) (λ e behind. raised inside own level e behind)) (sym whole)
    (up-to inside own level (t ∷ rest) fits (λ k over under. bare-above t op own k is at over)
    ∙ ap (λ (r : Read Expr). next r (λ e behind. raised inside own level e behind)) (operand-is inside own above.0 t rest op (sym at ∙ above.1) is at))
