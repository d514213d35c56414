-- The answer at a token doesn't depend on what stands behind it.
use Rattle.std.proofs.Common.{◌≡◌, ℕ, zero, suc, ◌≤◌, ◌+◌, Bool, true, false, List, [], ◌∷◌, ◌++◌, length, Option, Some, None, refl, sym, ap, ◌∙◌, arith, append_assoc, length-append}
use Rattle.std.proofs.lemmas.List.{append_cancel_right}
use Rattle.aseba_tree.specs.declared.pos.Pos.{Pos}
use Rattle.aseba_tree.specs.declared.token.Token.{Token}
use Rattle.aseba_tree.specs.declared.token.TokenKind.{TokenKind}
use Rattle.aseba_tree.specs.declared.token.Key.{Key}
use Rattle.aseba_tree.specs.declared.token.Sign.{Sign}
use Rattle.aseba_words.specs.declared.operators.Unary.{Unary}
use Rattle.aseba_words.specs.declared.operators.Binary.{Binary}
use Rattle.aseba_tree.specs.Code.{Place, Expr, at, span, Target, no_stmts, Source, Project}
use Rattle.aseba_tree.specs.View.{exprs_of, stmts_of}
use Rattle.aseba_tree.specs.Spells.{place, changing, stepping, any_level, takes_argument}
use denote.Enum.Bare.{sameb}
use Rattle.aseba_tree.specs.contracts.Sign as sign_type
use Rattle.aseba_parser.specs.Reading.{Read, taken, wrong, deep, next, is_sign, is_key, expected, named, many, all_of, Inside, opened, list_read, index_end, part_read, target_read, leaf_by, leaf, infix_at, prefix_at, goes_on, operation_by, operation, operations, unprefixed, prefixed_by, prefixed, level_read, inside_of, expr_read, Block, set_by, set_end, set_read, tested_read, if_read, when_read, while_read, step_read, head_read, for_read, argument_read, emit_read, callsub_read, arguments_read, enclosed_read, call_read, begins_stmt, stmt_by, stmt_read, stmts_read, elseif_read, other_by, other_read, block_of, size_read, value_read, decl_read, begins_part, part_of, the_end, program_read}
use Rattle.aseba_parser.proofs.Laws.{IsLocalAt, ReadingIsLocal}
use Rattle.aseba_parser.proofs.Enough.{Bounded, Takes, enough, Inwards, takes_comma_item, takes_operation, takes_stmt, takes_decl, takes_part}

-- what is left behind an answer, and the same answer with something else behind it
abbrev rest_of : {A : Type 0} → Read A → List Token
rest_of (taken a rest) = rest
rest_of (wrong rest) = rest
rest_of (deep rest) = rest

abbrev with_rest : {A : Type 0} → Read A → List Token → Read A
with_rest (taken a rest) other = taken a other
with_rest (wrong rest) other = wrong other
with_rest (deep rest) other = deep other

-- an answer at these tokens: what was used of them, and that it is the same wherever they go on otherwise behind the next token
record Stand {A : Type 0} (read : List Token → Read A) (tokens : List Token) (r : Read A) : Type 0 where
  used : List Token
  split : tokens ≡ used ++ rest_of r
  same : (t : Token) (after other : List Token) → rest_of r ≡ t ∷ after → read (used ++ t ∷ other) ≡ with_rest r (t ∷ other)

record Local {A : Type 0} (read : List Token → Read A) : Type 0 where
  stands : (tokens : List Token) → Stand read tokens (read tokens)

-- the same of what is read behind a first token, where that token may be left too
record StandAt {A : Type 0} (t : Token) (read : List Token → Read A) (tokens : List Token) (r : Read A) : Type 0 where
  used : List Token
  split : t ∷ tokens ≡ used ++ rest_of r
  same : (s : Token) (after other : List Token) → rest_of r ≡ s ∷ after → (more : List Token) × (used ++ s ∷ other ≡ t ∷ more) × (read more ≡ with_rest r (s ∷ other))

record LocalAt {A : Type 0} (t : Token) (read : List Token → Read A) : Type 0 where
  stands : (tokens : List Token) → StandAt t read tokens (read tokens)

-- Tokens that go on otherwise behind a token begin with the same one.
begun : (used : List Token) (t : Token) (after other : List Token) → (h : Token) × (x y : List Token) × (used ++ t ∷ after ≡ h ∷ x) × (used ++ t ∷ other ≡ h ∷ y)
begun [] t after other = (t, after, other, refl, refl)
begun (h ∷ used) t after other = (h, used ++ t ∷ after, used ++ t ∷ other, refl, refl)

local_taken : {A : Type 0} (a : A) → Local (λ tokens. taken a tokens)
local_taken a = record { stands = λ tokens. record { used = []; split = refl; same = λ t after other e. refl } }

local_wrong : {A : Type 0} → Local {A = A} (λ tokens. wrong tokens)
local_wrong = record { stands = λ tokens. record { used = []; split = refl; same = λ t after other e. refl } }

local_deep : {A : Type 0} → Local {A = A} (λ tokens. deep tokens)
local_deep = record { stands = λ tokens. record { used = []; split = refl; same = λ t after other e. refl } }

joined : {A B : Type 0} (read : List Token → Read A) (f : A → List Token → Read B) (tokens : List Token) (a : A) (rest : List Token) (r : Read B) → Stand read tokens (taken a rest) → Stand (f a) rest r
    → Stand (λ tokens. next (read tokens) f) tokens r
joined {A} {B} read f tokens a rest r s d = record { used = s.used ++ d.used; split = s.split ∙ ap (λ x. s.used ++ x) d.split ∙ sym (append_assoc s.used d.used (rest_of r)); same = go }
  where
    go : (t : Token) (after other : List Token) → rest_of r ≡ t ∷ after → next (read ((s.used ++ d.used) ++ t ∷ other)) f ≡ with_rest r (t ∷ other)
    go t after other e =
        let (h, x, y, p, q) = begun d.used t after other in
        let k : read (s.used ++ h ∷ y) ≡ taken a (h ∷ y) = s.same h x y (d.split ∙ ap (λ z. d.used ++ z) e ∙ p) in
        let m : (s.used ++ d.used) ++ t ∷ other ≡ s.used ++ h ∷ y = append_assoc s.used d.used (t ∷ other) ∙ ap (λ z. s.used ++ z) q in
        ap (λ z. next (read z) f) m ∙ ap (λ z. next z f) k ∙ ap (f a) (sym q) ∙ d.same t after other e

local_next : {A B : Type 0} {read : List Token → Read A} {f : A → List Token → Read B} → Local read → ((a : A) → Local (f a)) → Local (λ tokens. next (read tokens) f)
local_next {A} {B} {read} {f} first behind = record { stands = λ tokens. go tokens (read tokens) (first.stands tokens) }
  where
    go : (tokens : List Token) (r : Read A) → Stand read tokens r → Stand (λ tokens. next (read tokens) f) tokens (next r f)
    go tokens (taken a rest) s = joined read f tokens a rest (f a rest) s ((behind a).stands rest)
    go tokens (wrong rest) s = record { used = s.used; split = s.split; same = λ t after other e. ap (λ z. next z f) (s.same t after other e) }
    go tokens (deep rest) s = record { used = s.used; split = s.split; same = λ t after other e. ap (λ z. next z f) (s.same t after other e) }

-- tokens by the first of them
local_by : {A : Type 0} {read : List Token → Read A} → rest_of (read []) ≡ [] → ((t : Token) → LocalAt t (λ rest. read (t ∷ rest))) → Local read
local_by {A} {read} none some = record { stands = go }
  where
    go : (tokens : List Token) → Stand read tokens (read tokens)
    go [] = record { used = []; split = sym none; same = λ t after other e. absurd (cc (none, e)) }
    go (t ∷ tokens) =
        let s = (some t).stands tokens in
        record { used = s.used; split = s.split; same = λ u after other e. let (more, p, q) = s.same u after other e in ap read p ∙ q }

-- of no tokens nothing is left
end_of : {A : Type 0} {read : List Token → Read A} (r : Read A) → Stand read [] r → rest_of r ≡ []
end_of {A} {read} r s = go s.used (rest_of r) s.split
  where
    go : (used rest : List Token) → [] ≡ used ++ rest → rest ≡ []
    go [] rest e = sym e
    go (t ∷ used) rest e = absurd (cc e)

kept : {A : Type 0} {read : List Token → Read A} (t : Token) → Local read → LocalAt t (λ rest. read (t ∷ rest))
kept {A} {read} t b = record { stands = λ tokens. go tokens (read (t ∷ tokens)) (b.stands (t ∷ tokens)) }
  where
    go : (tokens : List Token) (r : Read A) → Stand read (t ∷ tokens) r → StandAt t (λ rest. read (t ∷ rest)) tokens r
    go tokens r s = record {
      used = s.used;
      split = s.split;
      same = λ u after other e.
          let (h, x, y, p, q) = begun s.used u after other in
          let w = s.split in
          let m : t ∷ tokens ≡ h ∷ x = s.split ∙ ap (λ z. s.used ++ z) e ∙ p in
          let k : t ≡ h = cc m in
          let n : s.used ++ u ∷ other ≡ t ∷ y = q ∙ ap (λ z. z ∷ y) (sym k) in
          (y, n, ap read (sym n) ∙ s.same u after other e);
    }

passed : {A : Type 0} {read : List Token → Read A} {t : Token} → Local read → LocalAt t read
passed {A} {read} {t} b = record { stands = λ tokens. let s = b.stands tokens in record { used = t ∷ s.used; split = ap (λ z. t ∷ z) s.split; same = λ u after other e. (s.used ++ u ∷ other, refl, s.same u after other e) } }

at_either : {A : Type 0} {t : Token} (b : Bool) {first second : List Token → Read A} → LocalAt t first → LocalAt t second → LocalAt t (λ rest. elim b [ true ↦ first rest | false ↦ second rest ])
at_either true p q = p
at_either false p q = q

at_opened : {A B : Type 0} (P : A → Type 0) (t : Token) (inside : Option A) {f : A → List Token → Read B} → Inwards P inside → ((a : A) → P a → Local (f a))
    → LocalAt t (λ rest. opened inside (t ∷ rest) (λ a. f a rest))
at_opened P t None p b = kept t local_deep
at_opened P t (Some a) p b = passed (b a p)

-- what is left of tokens is no longer
bounded_of : {A : Type 0} {read : List Token → Read A} → Local read → Bounded read
bounded_of {A} {read} b = record { within = λ tokens a rest e. go tokens a rest (read tokens) (b.stands tokens) e }
  where
    go : (tokens : List Token) (a : A) (rest : List Token) (r : Read A) → Stand read tokens r → r ≡ taken a rest → length rest ≤ length tokens
    go tokens a rest r s e =
        let p = ap length s.split ∙ length-append s.used (rest_of r) in
        let q : rest_of r ≡ rest = ap rest_of e in
        omega (arith, p, ap length q)

-- one token
local_expected : (fits : TokenKind → Bool) → Local (expected fits)
local_expected fits = local_by refl (λ t. at_either (fits t.kind) (passed (local_taken t)) (kept t local_wrong))

at_kind : (pos : Pos) (kind : TokenKind) → LocalAt (record { at = pos; kind = kind }) (λ rest. named (record { at = pos; kind = kind } ∷ rest))
at_kind pos (TokenKind.Name name) = passed (local_taken _)
at_kind pos _ = kept _ local_wrong

local_named : Local named
local_named = local_by refl (λ t. at_kind t.at t.kind)

-- things in a row
local_many : {A : Type 0} (begins : TokenKind → Bool) {read : List Token → Read A} → Local read → (n : ℕ) → Local (many begins read n)
local_many begins b zero = local_taken []
local_many begins {read} b (suc n) = local_by refl (λ t. at_either (begins t.kind) (kept t (local_next b (λ a. local_next (local_many begins b n) (λ others. local_taken (a ∷ others))))) (kept t (local_taken [])))

-- as many turns as there are tokens, at these tokens and at others
turned : {A : Type 0} (begins : TokenKind → Bool) (read : List Token → Read A) → Takes begins read → (n : ℕ) (tokens used : List Token) (t : Token) (after other : List Token)
    → n ≡ length tokens + length (used ++ t ∷ other) → Stand (many begins read n) tokens (many begins read n tokens)
    → tokens ≡ used ++ rest_of (all_of begins read tokens) → rest_of (all_of begins read tokens) ≡ t ∷ after → all_of begins read (used ++ t ∷ other) ≡ with_rest (all_of begins read tokens) (t ∷ other)
turned {A} begins read takes n tokens used t after other long s split e =
    let here : many begins read n tokens ≡ all_of begins read tokens = enough takes n (length tokens) tokens (omega arith) (omega arith) in
    let there : all_of begins read (used ++ t ∷ other) ≡ many begins read n (used ++ t ∷ other) = enough takes (length (used ++ t ∷ other)) n (used ++ t ∷ other) (omega arith) (omega arith) in
    let left : s.used ++ rest_of (all_of begins read tokens) ≡ used ++ rest_of (all_of begins read tokens) = ap (λ r. s.used ++ rest_of r) (sym here) ∙ sym s.split ∙ split in
    let one : s.used ≡ used = append_cancel_right s.used used (rest_of (all_of begins read tokens)) left in
    let q = s.same t after other (ap rest_of here ∙ e) in
    there ∙ ap (λ u. many begins read n (u ++ t ∷ other)) (sym one) ∙ q ∙ ap (λ r. with_rest r (t ∷ other)) here

local_all : {A : Type 0} (begins : TokenKind → Bool) {read : List Token → Read A} → Local read → Takes begins read → Local (all_of begins read)
local_all {A} begins {read} b takes = record { stands = λ tokens. go tokens ((local_many begins b (length tokens)).stands tokens) }
  where
    go : (tokens : List Token) → Stand (many begins read (length tokens)) tokens (all_of begins read tokens) → Stand (all_of begins read) tokens (all_of begins read tokens)
    go tokens s = record {
      used = s.used;
      split = s.split;
      same = λ t after other e.
          let n : ℕ = length tokens + length (s.used ++ t ∷ other) in
          turned begins read takes n tokens s.used t after other refl ((local_many begins b n).stands tokens) s.split e;
    }

-- Expressions
abbrev LocalLevels : (ℕ → List Token → Read Expr) → Type 0
LocalLevels read = (level : ℕ) → Local (read level)

local_list : (read : ℕ → List Token → Read Expr) → LocalLevels read → Local (list_read read)
local_list read b = local_next (b any_level) (λ e. local_next (local_all (is_sign Sign.Comma) (local_next (local_expected (is_sign Sign.Comma)) (λ comma. b any_level))
    (takes_comma_item (is_sign Sign.Comma) (is_sign Sign.Comma) (read any_level) (bounded_of (b any_level)))) (λ others. local_taken _))

local_index : (read : ℕ → List Token → Read Expr) → LocalLevels read → (e : Expr) → Local (index_end read e)
local_index read b e = local_by refl (λ t. at_either (is_sign Sign.Colon t.kind) (passed (local_next (b any_level) (λ d. local_next (local_expected (is_sign Sign.CloseBracket)) (λ closing. local_taken (span e d)))))
    (kept t (local_next (local_expected (is_sign Sign.CloseBracket)) (λ closing. local_taken (at e)))))

local_part : (inside : Inside) → Inwards LocalLevels inside → Local (part_read inside)
local_part inside p = local_by refl (λ t. at_either (is_sign Sign.OpenBracket t.kind) (at_opened LocalLevels t inside p (λ read b. local_next (b any_level) (λ e. local_index read b e))) (kept t (local_taken _)))

local_target : (inside : Inside) → Inwards LocalLevels inside → Local (target_read inside)
local_target inside p = local_next local_named (λ n. local_next (local_part inside p) (λ part. local_taken _))

at_leaf : (inside : Inside) → Inwards LocalLevels inside → (t : Token) (kind : TokenKind) → LocalAt t (λ rest. leaf_by inside t rest kind)
at_leaf inside p t (TokenKind.Number v) = passed (local_taken _)
at_leaf inside p t (TokenKind.Name name) = kept t (local_next (local_target inside p) (λ target. local_taken _))
at_leaf inside p t (TokenKind.Key key) = kept t local_wrong
at_leaf inside p t (TokenKind.Sign sign) =
    at_either (sameb sign_type.the_type sign Sign.OpenParen) (at_opened LocalLevels t inside p (λ read b. local_next (b any_level) (λ e. local_next (local_expected _) (λ closing. local_taken _))))
    (at_either (sameb sign_type.the_type sign Sign.OpenBracket) (at_opened LocalLevels t inside p (λ read b. local_next (local_list read b) (λ es. local_next (local_expected _) (λ closing. local_taken _))))
    (kept t local_wrong))

local_leaf : (inside : Inside) → Inwards LocalLevels inside → Local (leaf inside)
local_leaf inside p = local_by refl (λ t. at_leaf inside p t t.kind)

at_operation : (tighter : List Token → Read Expr) → Local tighter → (t : Token) (o : Option Binary) → LocalAt t (λ rest. operation_by tighter t rest o)
at_operation tighter b t None = kept t local_wrong
at_operation tighter b t (Some op) = passed (local_next b (λ r. local_taken _))

local_operation : (level : ℕ) (tighter : List Token → Read Expr) → Local tighter → Local (operation level tighter)
local_operation level tighter b = local_by refl (λ t. at_operation tighter b t (infix_at level t.kind))

local_operations : (level : ℕ) (tighter : List Token → Read Expr) → Local tighter → (l : Expr) → Local (operations level tighter l)
local_operations level tighter b l = local_next (local_all (goes_on level) (local_operation level tighter b) (takes_operation (goes_on level) level tighter (bounded_of b))) (λ others. local_taken _)

local_unprefixed : (level : ℕ) (tighter : List Token → Read Expr) → Local tighter → Local (unprefixed level tighter)
local_unprefixed level tighter b = local_next b (λ l. local_operations level tighter b l)

at_prefixed : (inside : Inside) → Inwards LocalLevels inside → (level : ℕ) (tighter : List Token → Read Expr) → Local tighter → (t : Token) (o : Option Unary) → LocalAt t (λ rest. prefixed_by inside level tighter t rest o)
at_prefixed inside p level tighter b t None = kept t (local_unprefixed level tighter b)
at_prefixed inside p level tighter b t (Some op) = at_opened LocalLevels t inside p (λ read deeper. local_next (deeper level) (λ e. local_taken _))

local_prefixed : (inside : Inside) → Inwards LocalLevels inside → (level : ℕ) (tighter : List Token → Read Expr) → Local tighter → Local (prefixed inside level tighter)
local_prefixed inside p level tighter b = local_by (end_of _ ((local_unprefixed level tighter b).stands [])) (λ t. at_prefixed inside p level tighter b t (prefix_at level t.kind))

local_level : (inside : Inside) → Inwards LocalLevels inside → (level : ℕ) → Local (level_read inside level)
local_level inside p zero = local_leaf inside p
local_level inside p (suc tighter) = local_prefixed inside p (suc tighter) (level_read inside tighter) (local_level inside p tighter)

local_inside : (depth : ℕ) → Inwards LocalLevels (inside_of depth)
local_inside zero = tt
local_inside (suc depth) = λ level. local_level (inside_of depth) (local_inside depth) level

local_expr : (depth level : ℕ) → Local (expr_read depth level)
local_expr depth level = local_level (inside_of depth) (local_inside depth) level

-- Statements
record LocalBlock (block : Block) : Type 0 where
  expr : Local block.expr
  stmts : Local block.stmts
  other : Local block.other

at_set_by : (depth : ℕ) (target : Target) (t : Token) (o by : Option Binary) (assigns : Bool) → LocalAt t (λ rest. set_by depth target t rest o by assigns)
at_set_by depth target t (Some op) by assigns = passed (local_taken _)
at_set_by depth target t None (Some op) assigns = passed (local_next (local_expr depth any_level) (λ e. local_taken _))
at_set_by depth target t None None true = passed (local_next (local_expr depth any_level) (λ e. local_taken _))
at_set_by depth target t None None false = kept t local_wrong

local_set_end : (depth : ℕ) (target : Target) → Local (set_end depth target)
local_set_end depth target = local_by refl (λ t. at_set_by depth target t (stepping t.kind) (changing t.kind) (is_sign Sign.Assign t.kind))

local_set : (depth : ℕ) → Local (set_read depth)
local_set depth = local_next (local_target (inside_of depth) (local_inside depth)) (λ target. local_set_end depth target)

local_tested : (block : Block) → LocalBlock block → (word : Key) → Local (tested_read block word)
local_tested block b word = local_next b.expr (λ c. local_next (local_expected (is_key word)) (λ do_word. local_next b.stmts (λ body. local_taken _)))

at_if : (inside : Option Block) → Inwards LocalBlock inside → (t : Token) → LocalAt t (λ rest. if_read inside t rest)
at_if inside p t = at_opened LocalBlock t inside p (λ block b. local_next (local_tested block b Key.Then) (λ branch. local_next b.other (λ other. local_next (local_expected (is_key Key.End)) (λ end. local_taken _))))

at_when : (inside : Option Block) → Inwards LocalBlock inside → (t : Token) → LocalAt t (λ rest. when_read inside t rest)
at_when inside p t = at_opened LocalBlock t inside p (λ block b. local_next (local_tested block b Key.Do) (λ branch. local_next (local_expected (is_key Key.End)) (λ end. local_taken _)))

at_while : (inside : Option Block) → Inwards LocalBlock inside → (t : Token) → LocalAt t (λ rest. while_read inside t rest)
at_while inside p t = at_opened LocalBlock t inside p (λ block b. local_next (local_tested block b Key.Do) (λ branch. local_next (local_expected (is_key Key.End)) (λ end. local_taken _)))

local_step : (block : Block) → LocalBlock block → Local (step_read block)
local_step block b = local_by refl (λ t. at_either (is_key Key.Step t.kind) (passed (local_next b.expr (λ e. local_taken (Some e)))) (kept t (local_taken None)))

local_head : (block : Block) → LocalBlock block → Local (head_read block)
local_head block b = local_next local_named (λ n. local_next (local_expected (is_key Key.In)) (λ in_word. local_next b.expr (λ first. local_next (local_expected (is_sign Sign.Colon)) (λ colon.
    local_next b.expr (λ last. local_next (local_step block b) (λ step. local_taken _))))))

at_for : (inside : Option Block) → Inwards LocalBlock inside → (t : Token) → LocalAt t (λ rest. for_read inside t rest)
at_for inside p t = at_opened LocalBlock t inside p (λ block b. local_next (local_head block b) (λ counted. local_next (local_expected (is_key Key.Do)) (λ do_word.
    local_next b.stmts (λ body. local_next (local_expected (is_key Key.End)) (λ end. local_taken _)))))

local_argument : (depth : ℕ) (takes : Bool) → Local (argument_read depth takes)
local_argument depth false = local_taken None
local_argument depth true = local_next (local_expr depth any_level) (λ e. local_taken (Some e))

at_emit : (project : Project) (depth : ℕ) (t : Token) → LocalAt t (λ rest. emit_read project depth t rest)
at_emit project depth t = passed (local_next local_named (λ n. local_next (local_argument depth (takes_argument project n.name)) (λ argument. local_taken _)))

at_callsub : (t : Token) → LocalAt t (λ rest. callsub_read t rest)
at_callsub t = passed (local_next local_named (λ n. local_taken _))

local_arguments : (read : ℕ → List Token → Read Expr) → LocalLevels read → Local (arguments_read read)
local_arguments read b = local_by refl (λ t. at_either (is_sign Sign.CloseParen t.kind) (passed (local_taken (exprs_of []))) (kept t (local_next (local_list read b) (λ es. local_next (local_expected (is_sign Sign.CloseParen)) (λ closing. local_taken es)))))

local_enclosed : (inside : Inside) → Inwards LocalLevels inside → Local (enclosed_read inside)
local_enclosed inside p = local_by refl (λ t. at_either (is_sign Sign.OpenParen t.kind) (at_opened LocalLevels t inside p (λ read b. local_arguments read b)) (kept t local_wrong))

at_call : (inside : Inside) → Inwards LocalLevels inside → (t : Token) → LocalAt t (λ rest. call_read inside t rest)
at_call inside p t = passed (local_next local_named (λ n. local_next (local_enclosed inside p) (λ es. local_taken _)))

at_stmt_by : (project : Project) (depth : ℕ) (inside : Option Block) → Inwards LocalBlock inside → (t : Token) (kind : TokenKind) → LocalAt t (λ rest. stmt_by project depth inside t rest kind)
at_stmt_by project depth inside p t (TokenKind.Name name) = kept t (local_set depth)
at_stmt_by project depth inside p t (TokenKind.Key Key.If) = at_if inside p t
at_stmt_by project depth inside p t (TokenKind.Key Key.When) = at_when inside p t
at_stmt_by project depth inside p t (TokenKind.Key Key.While) = at_while inside p t
at_stmt_by project depth inside p t (TokenKind.Key Key.For) = at_for inside p t
at_stmt_by project depth inside p t (TokenKind.Key Key.Emit) = at_emit project depth t
at_stmt_by project depth inside p t (TokenKind.Key Key.CallSub) = at_callsub t
at_stmt_by project depth inside p t (TokenKind.Key Key.Call) = at_call (inside_of depth) (local_inside depth) t
at_stmt_by project depth inside p t (TokenKind.Key Key.Return) = passed (local_taken _)
at_stmt_by project depth inside p t _ = kept t local_wrong

local_stmt : (project : Project) (depth : ℕ) (inside : Option Block) → Inwards LocalBlock inside → Local (stmt_read project depth inside)
local_stmt project depth inside p = local_by refl (λ t. at_stmt_by project depth inside p t t.kind)

local_stmts : (project : Project) (depth : ℕ) → Inwards LocalBlock (block_of project depth) → Local (stmts_read project depth (block_of project depth))
local_stmts project depth p = local_next (local_all begins_stmt (local_stmt project depth (block_of project depth) p) (takes_stmt begins_stmt project depth)) (λ ss. local_taken (stmts_of ss))

at_elseif : (inside : Option Block) → Inwards LocalBlock inside → (t : Token) → LocalAt t (λ rest. elseif_read inside t rest)
at_elseif inside p t = at_opened LocalBlock t inside p (λ block b. local_next (local_tested block b Key.Then) (λ branch. local_next b.other (λ more. local_taken _)))

at_other : (project : Project) (depth : ℕ) → Inwards LocalBlock (block_of project depth) → (t : Token) (first second : Bool) → LocalAt t (λ rest. other_by project depth (block_of project depth) t rest first second)
at_other project depth p t true second = passed (local_stmts project depth p)
at_other project depth p t false true = at_elseif (block_of project depth) p t
at_other project depth p t false false = kept t (local_taken no_stmts)

local_other : (project : Project) (depth : ℕ) → Inwards LocalBlock (block_of project depth) → Local (other_read project depth (block_of project depth))
local_other project depth p = local_by refl (λ t. at_other project depth p t (is_key Key.Else t.kind) (is_key Key.ElseIf t.kind))

local_block : (project : Project) (depth : ℕ) → Inwards LocalBlock (block_of project depth)
local_block project zero = tt
local_block project (suc depth) = record {
  expr = local_expr depth any_level;
  stmts = local_stmts project depth (local_block project depth);
  other = local_other project depth (local_block project depth);
}

-- Declarations, parts and the program
local_size : (depth : ℕ) → Local (size_read depth)
local_size depth = local_by refl (λ t. at_either (is_sign Sign.OpenBracket t.kind)
    (at_opened LocalLevels t (inside_of depth) (local_inside depth) (λ read b. local_next (b any_level) (λ e. local_next (local_expected (is_sign Sign.CloseBracket)) (λ closing. local_taken (Some e)))))
    (kept t (local_taken None)))

local_value : (depth : ℕ) (named_at : Place) → Local (value_read depth named_at)
local_value depth named_at = local_by refl (λ t. at_either (is_sign Sign.Assign t.kind) (passed (local_next (local_expr depth any_level) (λ e. local_taken _))) (kept t (local_taken _)))

local_decl : (depth : ℕ) → Local (decl_read depth)
local_decl depth = local_next (local_expected (is_key Key.Var)) (λ word. local_next local_named (λ n. local_next (local_size depth) (λ size. local_next (local_value depth (place n.token)) (λ given. local_taken _))))

local_part_of : (project : Project) (depth : ℕ) → Local (part_of project depth)
local_part_of project depth = local_by refl (λ t. passed (local_next local_named (λ n. local_next (local_stmts project depth (local_block project depth)) (λ body. local_taken _))))

local_end : (source : Source) → Local (the_end source)
local_end source = local_by refl (λ t. kept t local_wrong)

local_program : (project : Project) (depth : ℕ) → Local (program_read project depth)
local_program project depth = local_next (local_all (is_key Key.Var) (local_decl depth) (takes_decl (is_key Key.Var) depth)) (λ ds. local_next (local_stmts project depth (local_block project depth)) (λ init.
    local_next (local_all begins_part (local_part_of project depth) (takes_part begins_part project depth)) (λ hs. local_end _)))

local_at : {A : Type 0} (read : List Token → Read A) (tokens : List Token) (r : Read A) → Stand read tokens r → IsLocalAt read tokens r
local_at read tokens (taken a rest) s = (s.used, s.split, s.same)
local_at read tokens (wrong rest) s = (s.used, s.split, s.same)
local_at read tokens (deep rest) s = (s.used, s.split, s.same)

pub reading_is_local : ReadingIsLocal
reading_is_local project depth tokens = local_at (program_read project depth) tokens (program_read project depth tokens) ((local_program project depth).stands tokens)
