-- What is left behind each thing that is read is no longer than the tokens, and so more turns of the one loop change nothing.
use Rattle.std.proofs.Common.{◌≡◌, ℕ, zero, suc, ◌≤◌, Bool, true, false, List, [], ◌∷◌, length, Option, Some, None, refl, arith, le_trans, ap}
use Rattle.aseba_tree.specs.declared.pos.Pos.{Pos}
use Rattle.aseba_tree.specs.declared.token.Token.{Token}
use Rattle.aseba_tree.specs.declared.token.TokenKind.{TokenKind}
use Rattle.aseba_tree.specs.declared.token.Key.{Key}
use Rattle.aseba_tree.specs.declared.token.Sign.{Sign}
use Rattle.aseba_words.specs.declared.operators.Unary.{Unary}
use Rattle.aseba_words.specs.declared.operators.Binary.{Binary}
use Rattle.aseba_tree.specs.Code.{Place, Expr, at, span, Target, no_stmts, Project}
use Rattle.aseba_tree.specs.View.{exprs_of, stmts_of}
use Rattle.aseba_tree.specs.Spells.{place, changing, stepping, any_level, takes_argument}
use denote.Enum.Bare.{sameb}
use Rattle.aseba_tree.specs.contracts.Sign as sign_type
use Rattle.aseba_parser.specs.Reading.{Read, taken, wrong, deep, next, is_sign, is_key, expected, named, many, all_of, Inside, opened, list_read, index_end, part_read, target_read, leaf_by, leaf, infix_at, prefix_at, goes_on, operation_by, operation, operations, unprefixed, prefixed_by, prefixed, level_read, inside_of, expr_read, Block, set_by, set_end, set_read, tested_read, if_read, when_read, while_read, step_read, head_read, for_read, argument_read, emit_read, callsub_read, arguments_read, enclosed_read, call_read, begins_stmt, stmt_by, stmt_read, stmts_read, elseif_read, other_by, other_read, block_of, size_read, value_read, decl_read, part_of}

-- what is left behind a value is no longer than the tokens
pub record Bounded {A : Type 0} (read : List Token → Read A) : Type 0 where
  pub within : (tokens : List Token) (a : A) (rest : List Token) → read tokens ≡ taken a rest → length rest ≤ length tokens

-- the same of what is read behind a first token, where that token may be left too
pub record BoundedAt {A : Type 0} (read : List Token → Read A) : Type 0 where
  pub within : (tokens : List Token) (a : A) (rest : List Token) → read tokens ≡ taken a rest → length rest ≤ suc (length tokens)

-- whatever begins so has a token at least
pub record Takes {A : Type 0} (begins : TokenKind → Bool) (read : List Token → Read A) : Type 0 where
  pub behind : (t : Token) → begins t.kind ≡ true → Bounded (λ rest. read (t ∷ rest))

pub bounded_taken : {A : Type 0} (a : A) → Bounded (λ tokens. taken a tokens)
bounded_taken a = record { within = λ tokens b rest e. le_of_taken tokens b rest e }
  where
    le_of_taken : (tokens : List Token) (b : _) (rest : List Token) → taken a tokens ≡ taken b rest → length rest ≤ length tokens
    le_of_taken tokens b rest e = let q : rest ≡ tokens = cc in omega (arith, ap length q)

pub bounded_wrong : {A : Type 0} → Bounded {A = A} (λ tokens. wrong tokens)
bounded_wrong = record { within = λ tokens b rest e. absurd (cc e) }

pub bounded_deep : {A : Type 0} → Bounded {A = A} (λ tokens. deep tokens)
bounded_deep = record { within = λ tokens b rest e. absurd (cc e) }

pub bounded_next : {A B : Type 0} {read : List Token → Read A} {f : A → List Token → Read B} → Bounded read → ((a : A) → Bounded (f a)) → Bounded (λ tokens. next (read tokens) f)
bounded_next {A} {B} {read} {f} first behind = record { within = λ tokens b rest e. go tokens b rest (read tokens) refl e }
  where
    go : (tokens : List Token) (b : B) (rest : List Token) (r : Read A) → read tokens ≡ r → next r f ≡ taken b rest → length rest ≤ length tokens
    go tokens b rest (taken a after) q e = le_trans ((behind a).within after b rest e) (first.within tokens a after q)
    go tokens b rest (wrong after) q e = absurd (cc e)
    go tokens b rest (deep after) q e = absurd (cc e)

-- tokens by the first of them
pub bounded_by : {A : Type 0} {read : List Token → Read A} → ((a : A) (rest : List Token) → read [] ≡ taken a rest → length rest ≤ 0) → ((t : Token) → BoundedAt (λ rest. read (t ∷ rest))) → Bounded read
bounded_by {A} {read} none some = record { within = go }
  where
    go : (tokens : List Token) (a : A) (rest : List Token) → read tokens ≡ taken a rest → length rest ≤ length tokens
    go [] a rest e = none a rest e
    go (t ∷ tokens) a rest e = (some t).within tokens a rest e

pub kept : {A : Type 0} {read : List Token → Read A} (t : Token) → Bounded read → BoundedAt (λ rest. read (t ∷ rest))
kept t b = record { within = λ tokens a rest e. b.within (t ∷ tokens) a rest e }

pub passed : {A : Type 0} {read : List Token → Read A} → Bounded read → BoundedAt read
passed b = record { within = λ tokens a rest e. let h = b.within tokens a rest e in omega arith }

-- what a turn of the loop gives, where that many more may follow
abbrev turn : {A : Type 0} → (TokenKind → Bool) → (List Token → Read A) → ℕ → Read A → Read (List A)
turn begins read n r = next r (λ a after. next (many begins read n after) (λ others behind. taken (a ∷ others) behind))

same_turn : {A : Type 0} (begins : TokenKind → Bool) (read : List Token → Read A) (n m : ℕ) (tokens : List Token) (r : Read A)
    → ((a : A) (rest : List Token) → r ≡ taken a rest → many begins read n rest ≡ many begins read m rest) → turn begins read n r ≡ turn begins read m r
same_turn {A} begins read n m tokens (taken a rest) same = ap (λ (r : Read (List A)). next r (λ others behind. taken (a ∷ others) behind)) (same a rest refl)
same_turn begins read n m tokens (wrong rest) same = refl
same_turn begins read n m tokens (deep rest) same = refl

abbrev either : {A : Type 0} → Bool → A → A → A
either b x y = elim b [ true ↦ x | false ↦ y ]

same_either : {A : Type 0} (b : Bool) (x y z : A) → (b ≡ true → x ≡ y) → either b x z ≡ either b y z
same_either true x y z same = same refl
same_either false x y z same = refl

-- As many turns as there are tokens are enough.
pub enough : {A : Type 0} {begins : TokenKind → Bool} {read : List Token → Read A} → Takes begins read → (n m : ℕ) (tokens : List Token) → length tokens ≤ n → length tokens ≤ m
    → many begins read n tokens ≡ many begins read m tokens
enough takes zero zero tokens p q = refl
enough takes zero (suc m) [] p q = refl
enough takes (suc n) zero [] p q = refl
enough takes (suc n) (suc m) [] p q = refl
enough takes zero (suc m) (t ∷ rest) p q = absurd (omega arith)
enough takes (suc n) zero (t ∷ rest) p q = absurd (omega arith)
enough {A} {begins} {read} takes (suc n) (suc m) (t ∷ rest) p q = same_either (begins t.kind) _ _ (taken [] (t ∷ rest)) (λ b. same_turn begins read n m (t ∷ rest) (read (t ∷ rest)) (λ a after e.
    let h = (takes.behind t b).within rest a after e in
    enough takes n m after (omega arith) (omega arith)))

-- at a first token one of two ways
at_either : {A : Type 0} (b : Bool) {first second : List Token → Read A} → BoundedAt first → BoundedAt second → BoundedAt (λ rest. elim b [ true ↦ first rest | false ↦ second rest ])
at_either true p q = p
at_either false p q = q

pub behind_either : {A : Type 0} (b : Bool) {first second : List Token → Read A} → Bounded first → Bounded second → Bounded (λ rest. elim b [ true ↦ first rest | false ↦ second rest ])
behind_either true p q = p
behind_either false p q = q

pub behind_wrong : {A : Type 0} (t : Token) → Bounded {A = A} (λ rest. wrong (t ∷ rest))
behind_wrong t = record { within = λ tokens b rest e. absurd (cc e) }

none_taken : {A : Type 0} (b : A) (a : A) (rest : List Token) → taken b [] ≡ taken a rest → length rest ≤ 0
none_taken b a rest e = let q : rest ≡ [] = cc in omega (arith, ap length q)

none_wrong : {A : Type 0} (a : A) (rest : List Token) → wrong [] ≡ taken a rest → length rest ≤ 0
none_wrong a rest e = absurd (cc e)

-- one token
pub behind_expected : (fits : TokenKind → Bool) (t : Token) → Bounded (λ rest. expected fits (t ∷ rest))
behind_expected fits t = behind_either (fits t.kind) (bounded_taken t) (behind_wrong t)

pub bounded_expected : (fits : TokenKind → Bool) → Bounded (expected fits)
bounded_expected fits = bounded_by none_wrong (λ t. passed (behind_expected fits t))

behind_kind : (pos : Pos) (kind : TokenKind) → Bounded (λ rest. named (record { at = pos; kind = kind } ∷ rest))
behind_kind pos (TokenKind.Name name) = bounded_taken _
behind_kind pos _ = behind_wrong _

pub behind_named : (t : Token) → Bounded (λ rest. named (t ∷ rest))
behind_named t = behind_kind t.at t.kind

pub bounded_named : Bounded named
bounded_named = bounded_by none_wrong (λ t. passed (behind_named t))

-- things in a row
pub bounded_many : {A : Type 0} (begins : TokenKind → Bool) {read : List Token → Read A} → Bounded read → (n : ℕ) → Bounded (many begins read n)
bounded_many begins b zero = bounded_taken []
bounded_many begins {read} b (suc n) = bounded_by (none_taken []) (λ t. at_either (begins t.kind) (kept t (bounded_next b (λ a. bounded_next (bounded_many begins b n) (λ others. bounded_taken (a ∷ others))))) (kept t (bounded_taken [])))

pub bounded_all : {A : Type 0} (begins : TokenKind → Bool) {read : List Token → Read A} → Bounded read → Bounded (all_of begins read)
bounded_all begins b = record { within = λ tokens a rest e. (bounded_many begins b (length tokens)).within tokens a rest e }

-- what holds inside, where something may be opened at all
abbrev pub Inwards : {A : Type 0} → (A → Type 0) → Option A → Type 0
Inwards P None = Unit {0}
Inwards P (Some a) = P a

pub behind_opened : {A B : Type 0} (P : A → Type 0) (t : Token) (inside : Option A) {f : A → List Token → Read B} → Inwards P inside → ((a : A) → P a → Bounded (f a))
    → Bounded (λ rest. opened inside (t ∷ rest) (λ a. f a rest))
behind_opened P t None p b = record { within = λ tokens c rest e. absurd (cc e) }
behind_opened P t (Some a) p b = b a p

-- Expressions
abbrev pub BoundedLevels : (ℕ → List Token → Read Expr) → Type 0
BoundedLevels read = (level : ℕ) → Bounded (read level)

bounded_list : (read : ℕ → List Token → Read Expr) → BoundedLevels read → Bounded (list_read read)
bounded_list read b = bounded_next (b any_level) (λ e. bounded_next (bounded_all (is_sign Sign.Comma) (bounded_next (bounded_expected (is_sign Sign.Comma)) (λ comma. b any_level))) (λ others. bounded_taken _))

bounded_index : (read : ℕ → List Token → Read Expr) → BoundedLevels read → (e : Expr) → Bounded (index_end read e)
bounded_index read b e = bounded_by none_wrong (λ t. at_either (is_sign Sign.Colon t.kind) (passed (bounded_next (b any_level) (λ d. bounded_next (bounded_expected (is_sign Sign.CloseBracket)) (λ closing. bounded_taken (span e d)))))
    (kept t (bounded_next (bounded_expected (is_sign Sign.CloseBracket)) (λ closing. bounded_taken (at e)))))

bounded_part : (inside : Inside) → Inwards BoundedLevels inside → Bounded (part_read inside)
bounded_part inside p = bounded_by (none_taken _) (λ t. at_either (is_sign Sign.OpenBracket t.kind) (passed (behind_opened BoundedLevels t inside p (λ read b. bounded_next (b any_level) (λ e. bounded_index read b e)))) (kept t (bounded_taken _)))

behind_target : (inside : Inside) → Inwards BoundedLevels inside → (t : Token) → Bounded (λ rest. target_read inside (t ∷ rest))
behind_target inside p t = bounded_next (behind_named t) (λ n. bounded_next (bounded_part inside p) (λ part. bounded_taken _))

bounded_target : (inside : Inside) → Inwards BoundedLevels inside → Bounded (target_read inside)
bounded_target inside p = bounded_next bounded_named (λ n. bounded_next (bounded_part inside p) (λ part. bounded_taken _))

at_leaf : (inside : Inside) → Inwards BoundedLevels inside → (t : Token) (kind : TokenKind) → BoundedAt (λ rest. leaf_by inside t rest kind)
at_leaf inside p t (TokenKind.Number v) = passed (bounded_taken _)
at_leaf inside p t (TokenKind.Name name) = kept t (bounded_next (bounded_target inside p) (λ target. bounded_taken _))
at_leaf inside p t (TokenKind.Key key) = kept t bounded_wrong
at_leaf inside p t (TokenKind.Sign sign) =
    at_either (sameb sign_type.the_type sign Sign.OpenParen) (passed (behind_opened BoundedLevels t inside p (λ read b. bounded_next (b any_level) (λ e. bounded_next (bounded_expected _) (λ closing. bounded_taken _)))))
    (at_either (sameb sign_type.the_type sign Sign.OpenBracket) (passed (behind_opened BoundedLevels t inside p (λ read b. bounded_next (bounded_list read b) (λ es. bounded_next (bounded_expected _) (λ closing. bounded_taken _)))))
    (kept t bounded_wrong))

bounded_leaf : (inside : Inside) → Inwards BoundedLevels inside → Bounded (leaf inside)
bounded_leaf inside p = bounded_by none_wrong (λ t. at_leaf inside p t t.kind)

behind_operation : (tighter : List Token → Read Expr) → Bounded tighter → (t : Token) (o : Option Binary) → Bounded (λ rest. operation_by tighter t rest o)
behind_operation tighter b t None = behind_wrong t
behind_operation tighter b t (Some op) = bounded_next b (λ r. bounded_taken _)

bounded_operation : (level : ℕ) (tighter : List Token → Read Expr) → Bounded tighter → Bounded (operation level tighter)
bounded_operation level tighter b = bounded_by none_wrong (λ t. passed (behind_operation tighter b t (infix_at level t.kind)))

bounded_operations : (level : ℕ) (tighter : List Token → Read Expr) → Bounded tighter → (l : Expr) → Bounded (operations level tighter l)
bounded_operations level tighter b l = bounded_next (bounded_all (goes_on level) (bounded_operation level tighter b)) (λ others. bounded_taken _)

bounded_unprefixed : (level : ℕ) (tighter : List Token → Read Expr) → Bounded tighter → Bounded (unprefixed level tighter)
bounded_unprefixed level tighter b = bounded_next b (λ l. bounded_operations level tighter b l)

at_prefixed : (inside : Inside) → Inwards BoundedLevels inside → (level : ℕ) (tighter : List Token → Read Expr) → Bounded tighter → (t : Token) (o : Option Unary) → BoundedAt (λ rest. prefixed_by inside level tighter t rest o)
at_prefixed inside p level tighter b t None = kept t (bounded_unprefixed level tighter b)
at_prefixed inside p level tighter b t (Some op) = passed (behind_opened BoundedLevels t inside p (λ read deeper. bounded_next (deeper level) (λ e. bounded_taken _)))

bounded_prefixed : (inside : Inside) → Inwards BoundedLevels inside → (level : ℕ) (tighter : List Token → Read Expr) → Bounded tighter → Bounded (prefixed inside level tighter)
bounded_prefixed inside p level tighter b =
    bounded_by (λ a rest e. (bounded_unprefixed level tighter b).within [] a rest e) (λ t. at_prefixed inside p level tighter b t (prefix_at level t.kind))

bounded_level : (inside : Inside) → Inwards BoundedLevels inside → (level : ℕ) → Bounded (level_read inside level)
bounded_level inside p zero = bounded_leaf inside p
bounded_level inside p (suc tighter) = bounded_prefixed inside p (suc tighter) (level_read inside tighter) (bounded_level inside p tighter)

bounded_inside : (depth : ℕ) → Inwards BoundedLevels (inside_of depth)
bounded_inside zero = tt
bounded_inside (suc depth) = λ level. bounded_level (inside_of depth) (bounded_inside depth) level

pub bounded_expr : (depth level : ℕ) → Bounded (expr_read depth level)
bounded_expr depth level = bounded_level (inside_of depth) (bounded_inside depth) level

-- Statements
record BoundedBlock (block : Block) : Type 0 where
  expr : Bounded block.expr
  stmts : Bounded block.stmts
  other : Bounded block.other

bounded_set_by : (depth : ℕ) (target : Target) (t : Token) (o by : Option Binary) (assigns : Bool) → Bounded (λ rest. set_by depth target t rest o by assigns)
bounded_set_by depth target t (Some op) by assigns = bounded_taken _
bounded_set_by depth target t None (Some op) assigns = bounded_next (bounded_expr depth any_level) (λ e. bounded_taken _)
bounded_set_by depth target t None None true = bounded_next (bounded_expr depth any_level) (λ e. bounded_taken _)
bounded_set_by depth target t None None false = behind_wrong t

bounded_set_end : (depth : ℕ) (target : Target) → Bounded (set_end depth target)
bounded_set_end depth target = bounded_by none_wrong (λ t. passed (bounded_set_by depth target t (stepping t.kind) (changing t.kind) (is_sign Sign.Assign t.kind)))

behind_set : (depth : ℕ) (t : Token) → Bounded (λ rest. set_read depth (t ∷ rest))
behind_set depth t = bounded_next (behind_target (inside_of depth) (bounded_inside depth) t) (λ target. bounded_set_end depth target)

bounded_tested : (block : Block) → BoundedBlock block → (word : Key) → Bounded (tested_read block word)
bounded_tested block b word = bounded_next b.expr (λ c. bounded_next (bounded_expected (is_key word)) (λ do_word. bounded_next b.stmts (λ body. bounded_taken _)))

behind_if : (inside : Option Block) → Inwards BoundedBlock inside → (t : Token) → Bounded (λ rest. if_read inside t rest)
behind_if inside p t = behind_opened BoundedBlock t inside p (λ block b. bounded_next (bounded_tested block b Key.Then) (λ branch. bounded_next b.other (λ other. bounded_next (bounded_expected (is_key Key.End)) (λ end. bounded_taken _))))

behind_when : (inside : Option Block) → Inwards BoundedBlock inside → (t : Token) → Bounded (λ rest. when_read inside t rest)
behind_when inside p t = behind_opened BoundedBlock t inside p (λ block b. bounded_next (bounded_tested block b Key.Do) (λ branch. bounded_next (bounded_expected (is_key Key.End)) (λ end. bounded_taken _)))

behind_while : (inside : Option Block) → Inwards BoundedBlock inside → (t : Token) → Bounded (λ rest. while_read inside t rest)
behind_while inside p t = behind_opened BoundedBlock t inside p (λ block b. bounded_next (bounded_tested block b Key.Do) (λ branch. bounded_next (bounded_expected (is_key Key.End)) (λ end. bounded_taken _)))

bounded_step : (block : Block) → BoundedBlock block → Bounded (step_read block)
bounded_step block b = bounded_by (none_taken None) (λ t. at_either (is_key Key.Step t.kind) (passed (bounded_next b.expr (λ e. bounded_taken (Some e)))) (kept t (bounded_taken None)))

bounded_head : (block : Block) → BoundedBlock block → Bounded (head_read block)
bounded_head block b = bounded_next bounded_named (λ n. bounded_next (bounded_expected (is_key Key.In)) (λ in_word. bounded_next b.expr (λ first. bounded_next (bounded_expected (is_sign Sign.Colon)) (λ colon.
    bounded_next b.expr (λ last. bounded_next (bounded_step block b) (λ step. bounded_taken _))))))

behind_for : (inside : Option Block) → Inwards BoundedBlock inside → (t : Token) → Bounded (λ rest. for_read inside t rest)
behind_for inside p t = behind_opened BoundedBlock t inside p (λ block b. bounded_next (bounded_head block b) (λ counted. bounded_next (bounded_expected (is_key Key.Do)) (λ do_word.
    bounded_next b.stmts (λ body. bounded_next (bounded_expected (is_key Key.End)) (λ end. bounded_taken _)))))

bounded_argument : (depth : ℕ) (takes : Bool) → Bounded (argument_read depth takes)
bounded_argument depth false = bounded_taken None
bounded_argument depth true = bounded_next (bounded_expr depth any_level) (λ e. bounded_taken (Some e))

behind_emit : (project : Project) (depth : ℕ) (t : Token) → Bounded (λ rest. emit_read project depth t rest)
behind_emit project depth t = bounded_next bounded_named (λ n. bounded_next (bounded_argument depth (takes_argument project n.name)) (λ argument. bounded_taken _))

behind_callsub : (t : Token) → Bounded (λ rest. callsub_read t rest)
behind_callsub t = bounded_next bounded_named (λ n. bounded_taken _)

bounded_arguments : (read : ℕ → List Token → Read Expr) → BoundedLevels read → Bounded (arguments_read read)
bounded_arguments read b = bounded_by none_wrong (λ t. at_either (is_sign Sign.CloseParen t.kind) (passed (bounded_taken (exprs_of []))) (kept t (bounded_next (bounded_list read b) (λ es. bounded_next (bounded_expected (is_sign Sign.CloseParen)) (λ closing. bounded_taken es)))))

bounded_enclosed : (inside : Inside) → Inwards BoundedLevels inside → Bounded (enclosed_read inside)
bounded_enclosed inside p = bounded_by none_wrong (λ t. at_either (is_sign Sign.OpenParen t.kind) (passed (behind_opened BoundedLevels t inside p (λ read b. bounded_arguments read b))) (kept t bounded_wrong))

behind_call : (inside : Inside) → Inwards BoundedLevels inside → (t : Token) → Bounded (λ rest. call_read inside t rest)
behind_call inside p t = bounded_next bounded_named (λ n. bounded_next (bounded_enclosed inside p) (λ es. bounded_taken _))

behind_stmt_by : (project : Project) (depth : ℕ) (inside : Option Block) → Inwards BoundedBlock inside → (t : Token) (kind : TokenKind) → Bounded (λ rest. stmt_by project depth inside t rest kind)
behind_stmt_by project depth inside p t (TokenKind.Name name) = behind_set depth t
behind_stmt_by project depth inside p t (TokenKind.Key Key.If) = behind_if inside p t
behind_stmt_by project depth inside p t (TokenKind.Key Key.When) = behind_when inside p t
behind_stmt_by project depth inside p t (TokenKind.Key Key.While) = behind_while inside p t
behind_stmt_by project depth inside p t (TokenKind.Key Key.For) = behind_for inside p t
behind_stmt_by project depth inside p t (TokenKind.Key Key.Emit) = behind_emit project depth t
behind_stmt_by project depth inside p t (TokenKind.Key Key.CallSub) = behind_callsub t
behind_stmt_by project depth inside p t (TokenKind.Key Key.Call) = behind_call (inside_of depth) (bounded_inside depth) t
behind_stmt_by project depth inside p t (TokenKind.Key Key.Return) = bounded_taken _
behind_stmt_by project depth inside p t _ = behind_wrong t

behind_stmt : (project : Project) (depth : ℕ) (inside : Option Block) → Inwards BoundedBlock inside → (t : Token) → Bounded (λ rest. stmt_read project depth inside (t ∷ rest))
behind_stmt project depth inside p t = behind_stmt_by project depth inside p t t.kind

bounded_stmt : (project : Project) (depth : ℕ) (inside : Option Block) → Inwards BoundedBlock inside → Bounded (stmt_read project depth inside)
bounded_stmt project depth inside p = bounded_by none_wrong (λ t. passed (behind_stmt project depth inside p t))

bounded_stmts : (project : Project) (depth : ℕ) (inside : Option Block) → Inwards BoundedBlock inside → Bounded (stmts_read project depth inside)
bounded_stmts project depth inside p = bounded_next (bounded_all begins_stmt (bounded_stmt project depth inside p)) (λ ss. bounded_taken (stmts_of ss))

behind_elseif : (inside : Option Block) → Inwards BoundedBlock inside → (t : Token) → Bounded (λ rest. elseif_read inside t rest)
behind_elseif inside p t = behind_opened BoundedBlock t inside p (λ block b. bounded_next (bounded_tested block b Key.Then) (λ branch. bounded_next b.other (λ more. bounded_taken _)))

at_other : (project : Project) (depth : ℕ) (inside : Option Block) → Inwards BoundedBlock inside → (t : Token) (first second : Bool) → BoundedAt (λ rest. other_by project depth inside t rest first second)
at_other project depth inside p t true second = passed (bounded_stmts project depth inside p)
at_other project depth inside p t false true = passed (behind_elseif inside p t)
at_other project depth inside p t false false = kept t (bounded_taken no_stmts)

bounded_other : (project : Project) (depth : ℕ) (inside : Option Block) → Inwards BoundedBlock inside → Bounded (other_read project depth inside)
bounded_other project depth inside p = bounded_by (none_taken no_stmts) (λ t. at_other project depth inside p t (is_key Key.Else t.kind) (is_key Key.ElseIf t.kind))

bounded_block : (project : Project) (depth : ℕ) → Inwards BoundedBlock (block_of project depth)
bounded_block project zero = tt
bounded_block project (suc depth) = record {
  expr = bounded_expr depth any_level;
  stmts = bounded_stmts project depth (block_of project depth) (bounded_block project depth);
  other = bounded_other project depth (block_of project depth) (bounded_block project depth);
}

-- Declarations and parts
bounded_size : (depth : ℕ) → Bounded (size_read depth)
bounded_size depth = bounded_by (none_taken None) (λ t. at_either (is_sign Sign.OpenBracket t.kind)
    (passed (behind_opened BoundedLevels t (inside_of depth) (bounded_inside depth) (λ read b. bounded_next (b any_level) (λ e. bounded_next (bounded_expected (is_sign Sign.CloseBracket)) (λ closing. bounded_taken (Some e))))))
    (kept t (bounded_taken None)))

bounded_value : (depth : ℕ) (named_at : Place) → Bounded (value_read depth named_at)
bounded_value depth named_at = bounded_by (none_taken _) (λ t. at_either (is_sign Sign.Assign t.kind) (passed (bounded_next (bounded_expr depth any_level) (λ e. bounded_taken _))) (kept t (bounded_taken _)))

behind_decl : (depth : ℕ) (t : Token) → Bounded (λ rest. decl_read depth (t ∷ rest))
behind_decl depth t = bounded_next (behind_expected (is_key Key.Var) t) (λ word. bounded_next bounded_named (λ n. bounded_next (bounded_size depth) (λ size. bounded_next (bounded_value depth (place n.token)) (λ given. bounded_taken _))))

behind_part : (project : Project) (depth : ℕ) (t : Token) → Bounded (λ rest. part_of project depth (t ∷ rest))
behind_part project depth t = bounded_next bounded_named (λ n. bounded_next (bounded_stmts project depth (block_of project depth) (bounded_block project depth)) (λ body. bounded_taken _))

-- Each thing of which there may be many has a token at least.
pub takes_comma_item : (begins : TokenKind → Bool) (fits : TokenKind → Bool) (read : List Token → Read Expr) → Bounded read → Takes begins (λ more. next (expected fits more) (λ comma rest. read rest))
takes_comma_item begins fits read b = record { behind = λ t is. bounded_next (behind_expected fits t) (λ comma. b) }

pub takes_operation : (begins : TokenKind → Bool) (level : ℕ) (tighter : List Token → Read Expr) → Bounded tighter → Takes begins (operation level tighter)
takes_operation begins level tighter b = record { behind = λ t is. behind_operation tighter b t (infix_at level t.kind) }

pub takes_stmt : (begins : TokenKind → Bool) (project : Project) (depth : ℕ) → Takes begins (stmt_read project depth (block_of project depth))
takes_stmt begins project depth = record { behind = λ t is. behind_stmt project depth (block_of project depth) (bounded_block project depth) t }

pub takes_decl : (begins : TokenKind → Bool) (depth : ℕ) → Takes begins (decl_read depth)
takes_decl begins depth = record { behind = λ t is. behind_decl depth t }

pub takes_part : (begins : TokenKind → Bool) (project : Project) (depth : ℕ) → Takes begins (part_of project depth)
takes_part begins project depth = record { behind = λ t is. behind_part project depth t }
