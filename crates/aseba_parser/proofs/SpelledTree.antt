-- The tree that tokens spell, none of which is nested too deep, has at most a node for each of them, and is one that can be checked where they are not too many.
use Rattle.std.proofs.Common.{◌≡◌, refl, sym, ◌∙◌, ap, ℕ, zero, suc, ◌+◌, ◌≤◌, ◌<◌, Bool, true, false, not, ◌&&◌, nat_lt, nat_le, List, [], ◌∷◌, ◌++◌, length, arith, Option, Some, None, length-append}
use Rattle.std.specs.Prelude.{sum_by, flat_map, option_to_list, drop}
use Rattle.std.specs.List.{list_all}
use Rattle.std.proofs.lemmas.Bool.{and_from, le-leb, ltb-false}
use Rattle.std.proofs.lemmas.List.Folds.{list_all-append}
use Rattle.std.proofs.lemmas.List.Sums.{sum_by-cons, sum_by-append}
use Rattle.aseba_words.specs.declared.operators.Binary.{Binary}
use Rattle.aseba_tree.specs.declared.pos.Pos.{Pos}
use Rattle.aseba_tree.specs.declared.token.Token.{Token}
use Rattle.aseba_tree.specs.declared.token.TokenKind.{TokenKind}
use Rattle.aseba_tree.specs.declared.token.Sign.{Sign}
use Rattle.aseba_tree.specs.Code.{Name, Place, Expr, expr, two, Exprs, Target, Stmt, stmt, if_then, for_do, Stmts, no_stmts, stmts, Decl, Handler, Source, Project}
use Rattle.aseba_tree.specs.Step.{target_expr}
use Rattle.aseba_tree.specs.Sizes.{is_of_one_cell}
use Rattle.aseba_tree.specs.Shape.{expr_count, list_count, is_some_exprs, is_filled, are_filled, list_depth, exprs_list_depth, to_list, part_exprs, stmt_exprs, stmts_exprs, decl_exprs, source_exprs, stmt_count, stmts_count, source_count, is_step, has_operators, have_operators, IsTree}
use Rattle.aseba_tree.specs.Spells.{changing, stepping, begun_at, SpellsExpr, a_number, a_target, a_list, in_parentheses, a_prefix, an_operation, a_tighter, SpellsList, the_last, one_before, SpellsTarget, all_cells, one_cell, some_cells, SpellsStep, no_step, a_step, SpellsArgument, no_argument, an_argument, SpellsArguments, no_arguments, some_arguments, SpellsStmts, nothing, an_assignment, a_change, a_bump, an_if, a_when, a_while, a_for, an_emit, a_callsub, a_call, a_return, SpellsOther, no_other, an_else, an_elseif, SpellsSize, no_size, a_size, SpellsValue, no_value, a_value, SpellsDecls, no_decls, a_decl, SpellsParts, no_parts, a_handler, a_sub, Spells}
use Rattle.aseba_tree.specs.Nest.{inside, enclosed, expr_nests, list_nests, target_nests, step_nests, argument_nests, arguments_nests, stmts_nests, other_nests, size_nests, value_nests, decls_nests, parts_nests, nests}
use Rattle.aseba_tree.proofs.SizeLaws.{both_left, both_right}
use Rattle.aseba_parser.specs.Parsed as parser
use Rattle.aseba_parser.specs.Reading.{deep, program_read}
use Rattle.aseba_parser.proofs.Laws.{first_above, outcome}
use Rattle.aseba_parser.proofs.Complete.{each_spelled_is_read}
use Rattle.aseba_parser.proofs.Parses.{above_by, parsed_deep}

-- Nests

-- none of the nests is above a depth
abbrev pub Below : ℕ → List ℕ → Type 0
Below n [] = Unit {0}
Below n (k ∷ ks) = (k ≤ n) × Below n ks

below-left : (n : ℕ) (xs ys : List ℕ) → Below n (xs ++ ys) → Below n xs
below-left n [] ys h = tt
below-left n (x ∷ xs) ys h = (h.0, below-left n xs ys h.1)

below-right : (n : ℕ) (xs ys : List ℕ) → Below n (xs ++ ys) → Below n ys
below-right n [] ys h = h
below-right n (x ∷ xs) ys h = below-right n xs ys h.1

lowered : (n : ℕ) (ns : List ℕ) → Below (suc n) (inside ns) → Below n ns
lowered n [] h = tt
lowered n (k ∷ ns) h = ((let high = h.0 in omega arith), lowered n ns h.1)

-- nests that are one level deeper than others
record Deeper (n : ℕ) (ns : List ℕ) : Type 0 where
  outer : ℕ
  less : suc outer ≤ n
  below : Below outer ns

prefixed-below : (n : ℕ) (ns : List ℕ) → Below n (inside (0 ∷ ns)) → Deeper n ns
prefixed-below zero ns h = absurd (let high = h.0 in let no : ⊥ = omega arith in no)
prefixed-below (suc n) ns h = record { outer = n; less = omega arith; below = lowered n ns h.1 }

enclosed-below : (n : ℕ) (ns : List ℕ) → Below n (enclosed ns) → Deeper n ns
enclosed-below n ns h = let d = prefixed-below n (ns ++ 0 ∷ []) h in record { outer = d.outer; less = d.less; below = below-left d.outer ns (0 ∷ []) d.below }

-- Lists of expressions

-- an expression has no empty list, and lists and prefix operators at most so deep
abbrev pub is_good : ℕ → Expr → Bool
is_good most e = is_filled e && nat_le (list_depth e) most

abbrev Good : ℕ → List Expr → Type 0
Good most es = list_all (is_good most) es ≡ true

good-append : (most : ℕ) (xs ys : List Expr) → Good most xs → Good most ys → Good most (xs ++ ys)
good-append most xs ys h k = list_all-append (is_good most) xs ys ∙ and_from (list_all (is_good most) xs) (list_all (is_good most) ys) h k

good-one : (most : ℕ) (e : Expr) → is_good most e ≡ true → Good most (e ∷ [])
good-one most e h = and_from (is_good most e) true h refl

good-cons : (most : ℕ) (e : Expr) (es : List Expr) → is_good most e ≡ true → Good most es → Good most (e ∷ es)
good-cons most e es h k = and_from (is_good most e) (list_all (is_good most) es) h k

abbrev counted : List Expr → ℕ
counted es = sum_by expr_count es

counted-one : (e : Expr) → counted (e ∷ []) ≡ expr_count e
counted-one e = let own = sum_by-cons expr_count e [] in let none : counted [] ≡ 0 = refl in omega (arith, own, none)

counted-cons : (e : Expr) (es : List Expr) → counted (e ∷ es) ≡ expr_count e + counted es
counted-cons e es = sum_by-cons expr_count e es

counted-append : (xs ys : List Expr) → counted (xs ++ ys) ≡ counted xs + counted ys
counted-append xs ys = sum_by-append expr_count xs ys

-- Expressions

-- what spelled expressions are, whose nests are not above a depth
record ExprIs (n : ℕ) (tokens : List Token) (e : Expr) : Type 0 where
  filled : is_filled e ≡ true
  shallow : list_depth e ≤ n
  few : expr_count e ≤ length tokens

record ListIs (n : ℕ) (tokens : List Token) (es : Exprs) : Type 0 where
  some : is_some_exprs es ≡ true
  filled : are_filled es ≡ true
  shallow : exprs_list_depth es ≤ n
  few : list_count es ≤ length tokens
  listed : (most : ℕ) → n ≤ most → Good most (to_list es)
  few_listed : counted (to_list es) ≤ length tokens

record TargetIs (n : ℕ) (tokens : List Token) (target : Target) : Type 0 where
  filled : is_filled (target_expr target) ≡ true
  shallow : list_depth (target_expr target) ≤ n
  few : expr_count (target_expr target) ≤ length tokens
  part : (most : ℕ) → n ≤ most → Good most (part_exprs target.part)
  few_parts : suc (counted (part_exprs target.part)) ≤ length tokens

good-of : {n : ℕ} {tokens : List Token} {e : Expr} (most : ℕ) → n ≤ most → ExprIs n tokens e → is_good most e ≡ true
good-of {n} {tokens} {e} most h i = and_from (is_filled e) (nat_le (list_depth e) most) i.filled (le-leb (list_depth e) most (let low = i.shallow in omega arith))

begun-is : (n : ℕ) (tokens : List Token) (place : Place) (e : Expr) → ExprIs n tokens e → ExprIs n tokens (begun_at place e)
begun-is n tokens place (expr first own form) h = record { filled = h.filled; shallow = h.shallow; few = h.few }

more-tokens : (n m : ℕ) (tokens others : List Token) (e : Expr) → n ≤ m → length tokens ≤ length others → ExprIs n tokens e → ExprIs m others e
more-tokens n m tokens others e h k i = record { filled = i.filled; shallow = (let low = i.shallow in omega arith); few = (let few = i.few in omega arith) }

within-brackets : (opening closing : Token) (inner tokens : List Token) → tokens ≡ opening ∷ (inner ++ closing ∷ []) → suc (suc (length inner)) ≤ length tokens
within-brackets opening closing inner tokens e = let whole = ap length e in let long = length-append inner (closing ∷ []) in omega (arith, whole, long)

two-is : (n : ℕ) (left right tokens : List Token) (t : Token) (first own : Place) (op : Binary) (l r : Expr) → tokens ≡ left ++ t ∷ right → ExprIs n left l → ExprIs n right r → ExprIs n tokens (expr first own (two op l r))
two-is n left right tokens t first own op l r e h k = record {
  filled = and_from (is_filled l) (is_filled r) h.filled k.filled;
  shallow = (let a = h.shallow in let b = k.shallow in omega arith);
  few = (let whole = ap length e in let long = length-append left (t ∷ right) in let a = h.few in let b = k.few in omega (arith, whole, long));
}

mutual
  expr-is : {level : ℕ} {tokens : List Token} {e : Expr} (n : ℕ) (d : SpellsExpr level tokens e) → Below n (expr_nests d) → ExprIs n tokens e
  expr-is {level} {tokens} n (a_number t v is_number all level_is tree) h = rw tree (record { filled = refl; shallow = omega arith; few = (let whole = ap length all in omega (arith, whole)) })
  expr-is {level} {tokens} n (a_target target level_is tree d) h = let i = target-is n d h in rw tree (record { filled = i.filled; shallow = i.shallow; few = i.few })
  expr-is {level} {tokens} n (a_list opening closing inner es is_open is_close all level_is tree d) h =
      let deeper = enclosed-below n (list_nests d) h in
      let i = list-is deeper.outer d deeper.below in
      rw tree (record {
        filled = and_from (is_some_exprs es) (are_filled es) i.some i.filled;
        shallow = (let low = i.shallow in let less = deeper.less in omega arith);
        few = (let few = i.few in let long = within-brackets opening closing inner tokens all in omega arith);
      })
  expr-is {level} {tokens} n (in_parentheses opening closing inner i is_open is_close all level_is tree d) h =
      let deeper = enclosed-below n (expr_nests d) h in
      let is = expr-is deeper.outer d deeper.below in
      rw tree (begun-is n tokens _ i (more-tokens deeper.outer n inner tokens i (let less = deeper.less in omega arith) (let long = within-brackets opening closing inner tokens all in omega arith) is))
  expr-is {level} {tokens} n (a_prefix t op operand i is_prefix all level_is tree d) h =
      let deeper = prefixed-below n (expr_nests d) h in
      let is = expr-is deeper.outer d deeper.below in
      rw tree (record { filled = is.filled; shallow = (let low = is.shallow in let less = deeper.less in omega arith); few = (let few = is.few in let whole = ap length all in omega (arith, whole)) })
  expr-is {level} {tokens} n (an_operation left right t op tighter l r is_operator all level_is below tree dl dr) h =
      rw tree (two-is n left right tokens t _ _ op l r all (expr-is n dl (below-left n (expr_nests dl) _ h)) (expr-is n dr (below-right n (expr_nests dl) (0 ∷ expr_nests dr) h).1))
  expr-is {level} {tokens} n (a_tighter tighter level_is d) h = expr-is n d h

  list-is : {tokens : List Token} {es : Exprs} (n : ℕ) (d : SpellsList tokens es) → Below n (list_nests d) → ListIs n tokens es
  list-is {tokens} n (the_last e tree d) h =
      let i = expr-is n d h in
      rw tree (record {
        some = refl;
        filled = and_from (is_filled e) true i.filled refl;
        shallow = (let low = i.shallow in omega arith);
        few = (let few = i.few in omega arith);
        listed = λ most k. good-one most e (good-of most k i);
        few_listed = (let few = i.few in let own = counted-one e in omega (arith, own));
      })
  list-is {tokens} n (one_before first rest comma e others is_comma all tree d ds) h =
      let i = expr-is n d (below-left n (expr_nests d) _ h) in
      let more = list-is n ds (below-right n (expr_nests d) (0 ∷ list_nests ds) h).1 in
      let whole = ap length all in
      let long = length-append first (comma ∷ rest) in
      rw tree (record {
        some = refl;
        filled = and_from (is_filled e) (are_filled others) i.filled more.filled;
        shallow = (let a = i.shallow in let b = more.shallow in omega arith);
        few = (let a = i.few in let b = more.few in omega (arith, whole, long));
        listed = λ most k. good-cons most e (to_list others) (good-of most k i) (more.listed most k);
        few_listed = (let a = i.few in let b = more.few_listed in let own = counted-cons e (to_list others) in omega (arith, whole, long, own));
      })

  target-is : {tokens : List Token} {target : Target} (n : ℕ) (d : SpellsTarget tokens target) → Below n (target_nests d) → TargetIs n tokens target
  target-is {tokens} n (all_cells t name is_name all_is tree) h =
      let whole_is = ap length all_is in
      rw tree (record { filled = refl; shallow = omega arith; few = omega (arith, whole_is); part = λ most k. refl; few_parts = (let none : counted [] ≡ 0 = refl in omega (arith, whole_is, none)) })
  target-is {tokens} n (one_cell t opening closing name inner i is_name is_open is_close all_is tree d) h =
      let deeper = enclosed-below n (expr_nests d) h.1 in
      let is = expr-is deeper.outer d deeper.below in
      let whole_is = ap length all_is in
      let long = length-append inner (closing ∷ []) in
      rw tree (record {
        filled = is.filled;
        shallow = (let low = is.shallow in let less = deeper.less in omega arith);
        few = (let few = is.few in omega (arith, whole_is, long));
        part = λ most k. good-one most i (good-of most (let less = deeper.less in omega arith) is);
        few_parts = (let few = is.few in let own = counted-one i in omega (arith, whole_is, long, own));
      })
  target-is {tokens} n (some_cells t opening colon closing name low high c d is_name is_open is_colon is_close all_is tree dc dd) h =
      let deeper = enclosed-below n (expr_nests dc ++ 0 ∷ expr_nests dd) h.1 in
      let ic = expr-is deeper.outer dc (below-left deeper.outer (expr_nests dc) _ deeper.below) in
      let id = expr-is deeper.outer dd (below-right deeper.outer (expr_nests dc) (0 ∷ expr_nests dd) deeper.below).1 in
      let whole_is = ap length all_is in
      let long = length-append low (colon ∷ (high ++ closing ∷ [])) in
      let long_high = length-append high (closing ∷ []) in
      rw tree (record {
        filled = and_from (is_filled c) (is_filled d) ic.filled id.filled;
        shallow = (let a = ic.shallow in let b = id.shallow in let less = deeper.less in omega arith);
        few = (let a = ic.few in let b = id.few in omega (arith, whole_is, long, long_high));
        part = λ most k. good-cons most c (d ∷ []) (good-of most (let less = deeper.less in omega arith) ic) (good-one most d (good-of most (let less = deeper.less in omega arith) id));
        few_parts = (let a = ic.few in let b = id.few in let own = counted-cons c (d ∷ []) in let last = counted-one d in omega (arith, whole_is, long, long_high, own, last));
      })

-- Statements

cellwise : Option Binary → Bool
cellwise None = true
cellwise (Some op) = not (is_of_one_cell op)

a-step-or-none : Option Binary → Bool
a-step-or-none None = true
a-step-or-none (Some op) = is_step op

changing-cellwise : (kind : TokenKind) → cellwise (changing kind) ≡ true
unfolding cellwise
changing-cellwise (TokenKind.Sign Sign.PlusAssign) = refl
changing-cellwise (TokenKind.Sign Sign.MinusAssign) = refl
changing-cellwise (TokenKind.Sign Sign.StarAssign) = refl
changing-cellwise (TokenKind.Sign Sign.SlashAssign) = refl
changing-cellwise (TokenKind.Sign Sign.PercentAssign) = refl
changing-cellwise (TokenKind.Sign Sign.ShiftLeftAssign) = refl
changing-cellwise (TokenKind.Sign Sign.ShiftRightAssign) = refl
changing-cellwise (TokenKind.Sign Sign.AmpersandAssign) = refl
changing-cellwise (TokenKind.Sign Sign.BarAssign) = refl
changing-cellwise (TokenKind.Sign Sign.CaretAssign) = refl
changing-cellwise kind = refl

stepping-steps : (kind : TokenKind) → a-step-or-none (stepping kind) ≡ true
unfolding a-step-or-none
stepping-steps (TokenKind.Sign Sign.PlusPlus) = refl
stepping-steps (TokenKind.Sign Sign.MinusMinus) = refl
stepping-steps kind = refl

changed-cellwise : (kind : TokenKind) (op : Binary) → changing kind ≡ Some op → not (is_of_one_cell op) ≡ true
unfolding cellwise
changed-cellwise kind op e = sym (ap cellwise e) ∙ changing-cellwise kind

stepped-step : (kind : TokenKind) (op : Binary) → stepping kind ≡ Some op → is_step op ≡ true
unfolding a-step-or-none
stepped-step kind op e = sym (ap a-step-or-none e) ∙ stepping-steps kind

-- what spelled statements are
record StmtsAre (most : ℕ) (tokens : List Token) (ss : Stmts) : Type 0 where
  good : Good most (stmts_exprs ss)
  operators : have_operators ss ≡ true
  few : stmts_count ss + counted (stmts_exprs ss) ≤ length tokens

-- what one statement is
record StmtIs (most own : ℕ) (s : Stmt) : Type 0 where
  good : Good most (stmt_exprs s)
  operators : has_operators s ≡ true
  few : stmt_count s + counted (stmt_exprs s) ≤ own

in-front : (most own : ℕ) (tokens rest : List Token) (s : Stmt) (others : Stmts) → own + length rest ≤ length tokens → StmtIs most own s → StmtsAre most rest others → StmtsAre most tokens (stmts s others)
in-front most own tokens rest s others long i more = record {
  good = good-append most (stmt_exprs s) (stmts_exprs others) i.good more.good;
  operators = and_from (has_operators s) (have_operators others) i.operators more.operators;
  few = (let a = i.few in let b = more.few in let sum = counted-append (stmt_exprs s) (stmts_exprs others) in omega (arith, long, sum));
}

-- an expression, and statements behind it, in one statement
tested-is : (most n : ℕ) (test inner : List Token) (c : Expr) (body : Stmts) → n ≤ most → ExprIs n test c → StmtsAre most inner body → Good most (c ∷ stmts_exprs body)
tested-is most n test inner c body k i b = good-cons most c (stmts_exprs body) (good-of most k i) b.good

step-is : {tokens : List Token} {step : Option Expr} (most n : ℕ) → n ≤ most → (d : SpellsStep tokens step) → Below n (step_nests d) → Good most (option_to_list step) × (counted (option_to_list step) ≤ length tokens)
step-is {tokens} most n k (no_step all tree) h = rw tree (refl, (let none : counted [] ≡ 0 = refl in omega (arith, none)))
step-is {tokens} most n k (a_step word inner e is_word all tree d) h =
    let i = expr-is n d h.1 in
    let whole_is = ap length all in
    rw tree (good-one most e (good-of most k i), (let few = i.few in let own = counted-one e in omega (arith, whole_is, own)))

argument-is : {project : Project} {name : Name} {tokens : List Token} {argument : Option Expr} (most n : ℕ) → n ≤ most → (d : SpellsArgument project name tokens argument) → Below n (argument_nests d)
    → Good most (option_to_list argument) × (counted (option_to_list argument) ≤ length tokens)
argument-is {project} {name} {tokens} most n k (no_argument takes all tree) h = rw tree (refl, (let none : counted [] ≡ 0 = refl in omega (arith, none)))
argument-is {project} {name} {tokens} most n k (an_argument e takes tree d) h =
    let i = expr-is n d h in
    rw tree (good-one most e (good-of most k i), (let few = i.few in let own = counted-one e in omega (arith, own)))

arguments-are : {tokens : List Token} {es : Exprs} (most n : ℕ) → n ≤ most → (d : SpellsArguments tokens es) → Below n (arguments_nests d) → Good most (to_list es) × (counted (to_list es) ≤ length tokens)
arguments-are {tokens} most n k (no_arguments all tree) h = rw tree (refl, (let none : counted [] ≡ 0 = refl in omega (arith, none)))
arguments-are {tokens} most n k (some_arguments d) h = let i = list-is n d h in (i.listed most k, i.few_listed)

set-is : (most n : ℕ) (left right : List Token) (target : Target) (e : Expr) → n ≤ most → TargetIs n left target → ExprIs n right e
    → Good most (part_exprs target.part ++ e ∷ []) × (suc (counted (part_exprs target.part ++ e ∷ [])) ≤ length left + length right)
set-is most n left right target e k t i = (
  good-append most (part_exprs target.part) (e ∷ []) (t.part most k) (good-one most e (good-of most k i)),
  (let a = t.few_parts in let b = i.few in let sum = counted-append (part_exprs target.part) (e ∷ []) in let own = counted-one e in omega (arith, sum, own)),
)

-- the tokens of a statement with a test and a body
test-tokens : (word then last : Token) (test inner behind rest tokens : List Token) → tokens ≡ word ∷ (test ++ then ∷ (inner ++ (behind ++ last ∷ rest))) → 3 + length test + length inner + length behind + length rest ≡ length tokens
test-tokens word then last test inner behind rest tokens e =
    let whole_is = ap length e in
    let outer = length-append test (then ∷ (inner ++ (behind ++ last ∷ rest))) in
    let middle = length-append inner (behind ++ last ∷ rest) in
    let end = length-append behind (last ∷ rest) in
    omega (arith, whole_is, outer, middle, end)

loop-tokens : (word then last : Token) (test inner rest tokens : List Token) → tokens ≡ word ∷ (test ++ then ∷ (inner ++ last ∷ rest)) → 3 + length test + length inner + length rest ≡ length tokens
loop-tokens word then last test inner rest tokens e =
    let whole_is = ap length e in
    let outer = length-append test (then ∷ (inner ++ last ∷ rest)) in
    let middle = length-append inner (last ∷ rest) in
    omega (arith, whole_is, outer, middle)

set-tokens : (sign : Token) (left right rest tokens : List Token) → tokens ≡ left ++ sign ∷ (right ++ rest) → 1 + length left + length right + length rest ≡ length tokens
set-tokens sign left right rest tokens e =
    let whole_is = ap length e in
    let outer = length-append left (sign ∷ (right ++ rest)) in
    let middle = length-append right rest in
    omega (arith, whole_is, outer, middle)

-- a statement with a test, its branch and what stands behind it
branch-is : (most n : ℕ) (test inner behind : List Token) (line : ℕ) (place : Place) (c : Expr) (body other : Stmts) → n ≤ most → ExprIs n test c → StmtsAre most inner body → StmtsAre most behind other
    → StmtIs most (1 + length test + length inner + length behind) (stmt line place (if_then c body other))
branch-is most n test inner behind line place c body other k i b o = record {
  good = good-cons most c (stmts_exprs body ++ stmts_exprs other) (good-of most k i) (good-append most (stmts_exprs body) (stmts_exprs other) b.good o.good);
  operators = and_from (have_operators body) (have_operators other) b.operators o.operators;
  few = (let x = i.few in let y = b.few in let z = o.few in let own = counted-cons c (stmts_exprs body ++ stmts_exprs other) in let sum = counted-append (stmts_exprs body) (stmts_exprs other) in omega (arith, own, sum));
}

for-is : (most n : ℕ) (low high by inner : List Token) (line : ℕ) (place : Place) (name : Name) (a b : Expr) (step : Option Expr) (body : Stmts) → n ≤ most → ExprIs n low a → ExprIs n high b
    → Good most (option_to_list step) × (counted (option_to_list step) ≤ length by) → StmtsAre most inner body
    → StmtIs most (1 + length low + length high + length by + length inner) (stmt line place (for_do (record { name = name; first = a; last = b; step = step }) body))
for-is most n low high by inner line place name a b step body k ia ib s m = record {
  good = good-cons most a (b ∷ (option_to_list step ++ stmts_exprs body)) (good-of most k ia) (good-cons most b (option_to_list step ++ stmts_exprs body) (good-of most k ib) (good-append most (option_to_list step) (stmts_exprs body) s.0 m.good));
  operators = m.operators;
  few = (
      let x = ia.few in let y = ib.few in let z = s.1 in let w = m.few in
      let first = counted-cons a (b ∷ (option_to_list step ++ stmts_exprs body)) in
      let second = counted-cons b (option_to_list step ++ stmts_exprs body) in
      let sum = counted-append (option_to_list step) (stmts_exprs body) in
      omega (arith, first, second, sum)
      );
}

mutual
  stmts-are : {project : Project} {tokens : List Token} {ss : Stmts} (most n : ℕ) → n ≤ most → (d : SpellsStmts project tokens ss) → Below n (stmts_nests d) → StmtsAre most tokens ss
  stmts-are {project} {tokens} most n k (nothing all_is tree) h = rw tree (record { good = refl; operators = refl; few = (let none : counted [] ≡ 0 = refl in omega (arith, none)) })
  stmts-are {project} {tokens} most n k (an_assignment left right rest sign target e others is_sign all_is tree dt de ds) h =
      let behind = (below-right n (target_nests dt) (0 ∷ (expr_nests de ++ stmts_nests ds)) h).1 in
      let set = set-is most n left right target e k (target-is n dt (below-left n (target_nests dt) _ h)) (expr-is n de (below-left n (expr_nests de) _ behind)) in
      let more = stmts-are most n k ds (below-right n (expr_nests de) (stmts_nests ds) behind) in
      let long = set-tokens sign left right rest tokens all_is in
      rw tree (in-front most (1 + length left + length right) tokens rest _ others (omega (arith, long)) (record { good = set.0; operators = refl; few = (let few = set.1 in omega arith) }) more)
  stmts-are {project} {tokens} most n k (a_change left right rest sign op target e others is_sign all_is tree dt de ds) h =
      let behind = (below-right n (target_nests dt) (0 ∷ (expr_nests de ++ stmts_nests ds)) h).1 in
      let set = set-is most n left right target e k (target-is n dt (below-left n (target_nests dt) _ h)) (expr-is n de (below-left n (expr_nests de) _ behind)) in
      let more = stmts-are most n k ds (below-right n (expr_nests de) (stmts_nests ds) behind) in
      let long = set-tokens sign left right rest tokens all_is in
      rw tree (in-front most (1 + length left + length right) tokens rest _ others (omega (arith, long)) (record { good = set.0; operators = changed-cellwise sign.kind op is_sign; few = (let few = set.1 in omega arith) }) more)
  stmts-are {project} {tokens} most n k (a_bump left rest sign op target others is_sign all_is tree dt ds) h =
      let t = target-is n dt (below-left n (target_nests dt) _ h) in
      let more = stmts-are most n k ds (below-right n (target_nests dt) (0 ∷ stmts_nests ds) h).1 in
      let whole_is = ap length all_is in
      let long = length-append left (sign ∷ rest) in
      rw tree (in-front most (1 + length left) tokens rest _ others (omega (arith, whole_is, long)) (record { good = t.part most k; operators = stepped-step sign.kind op is_sign; few = (let few = t.few_parts in omega arith) }) more)
  stmts-are {project} {tokens} most n k (an_if word then last test inner behind rest c body other others is_word is_then is_last all_is tree dc db dother ds) h =
      let block = expr_nests dc ++ 0 ∷ (stmts_nests db ++ other_nests dother) in
      let deeper = enclosed-below n block (below-left n (enclosed block) _ h) in
      let inside_test = (below-right deeper.outer (expr_nests dc) (0 ∷ (stmts_nests db ++ other_nests dother)) deeper.below).1 in
      let low : deeper.outer ≤ most = (let less = deeper.less in omega arith) in
      let more = stmts-are most n k ds (below-right n (enclosed block) (stmts_nests ds) h) in
      let long = test-tokens word then last test inner behind rest tokens all_is in
      rw tree (in-front most (1 + length test + length inner + length behind) tokens rest _ others (omega (arith, long))
      (branch-is most deeper.outer test inner behind _ _ c body other low (expr-is deeper.outer dc (below-left deeper.outer (expr_nests dc) _ deeper.below))
      (stmts-are most deeper.outer low db (below-left deeper.outer (stmts_nests db) _ inside_test)) (other-is most deeper.outer low dother (below-right deeper.outer (stmts_nests db) (other_nests dother) inside_test))) more)
  stmts-are {project} {tokens} most n k (a_when word do_word last test inner rest c body others is_word is_do is_last all_is tree dc db ds) h =
      let block = expr_nests dc ++ 0 ∷ stmts_nests db in
      let deeper = enclosed-below n block (below-left n (enclosed block) _ h) in
      let low : deeper.outer ≤ most = (let less = deeper.less in omega arith) in
      let i = expr-is deeper.outer dc (below-left deeper.outer (expr_nests dc) _ deeper.below) in
      let b = stmts-are most deeper.outer low db (below-right deeper.outer (expr_nests dc) (0 ∷ stmts_nests db) deeper.below).1 in
      let more = stmts-are most n k ds (below-right n (enclosed block) (stmts_nests ds) h) in
      let long = loop-tokens word do_word last test inner rest tokens all_is in
      rw tree (in-front most (1 + length test + length inner) tokens rest _ others (omega (arith, long))
      (record { good = tested-is most deeper.outer test inner c body low i b; operators = b.operators; few = (let x = i.few in let y = b.few in let own = counted-cons c (stmts_exprs body) in omega (arith, own)) }) more)
  stmts-are {project} {tokens} most n k (a_while word do_word last test inner rest c body others is_word is_do is_last all_is tree dc db ds) h =
      let block = expr_nests dc ++ 0 ∷ stmts_nests db in
      let deeper = enclosed-below n block (below-left n (enclosed block) _ h) in
      let low : deeper.outer ≤ most = (let less = deeper.less in omega arith) in
      let i = expr-is deeper.outer dc (below-left deeper.outer (expr_nests dc) _ deeper.below) in
      let b = stmts-are most deeper.outer low db (below-right deeper.outer (expr_nests dc) (0 ∷ stmts_nests db) deeper.below).1 in
      let more = stmts-are most n k ds (below-right n (enclosed block) (stmts_nests ds) h) in
      let long = loop-tokens word do_word last test inner rest tokens all_is in
      rw tree (in-front most (1 + length test + length inner) tokens rest _ others (omega (arith, long))
      (record { good = tested-is most deeper.outer test inner c body low i b; operators = b.operators; few = (let x = i.few in let y = b.few in let own = counted-cons c (stmts_exprs body) in omega (arith, own)) }) more)
  stmts-are {project} {tokens} most n k (a_for word variable in_word colon do_word last low high by inner rest name a b step body others is_word is_name is_in is_colon is_do is_last all_is tree da db dstep dbody ds) h =
      let behind_high = step_nests dstep ++ 0 ∷ stmts_nests dbody in
      let bounds = expr_nests da ++ 0 ∷ (expr_nests db ++ behind_high) in
      let block = 0 ∷ 0 ∷ bounds in
      let deeper = enclosed-below n block (below-left n (enclosed block) _ h) in
      let low_depth : deeper.outer ≤ most = (let less = deeper.less in omega arith) in
      let in_bounds = deeper.below.1.1 in
      let from_high = (below-right deeper.outer (expr_nests da) (0 ∷ (expr_nests db ++ behind_high)) in_bounds).1 in
      let from_step = below-right deeper.outer (expr_nests db) behind_high from_high in
      let ia = expr-is deeper.outer da (below-left deeper.outer (expr_nests da) _ in_bounds) in
      let ib = expr-is deeper.outer db (below-left deeper.outer (expr_nests db) _ from_high) in
      let s = step-is most deeper.outer low_depth dstep (below-left deeper.outer (step_nests dstep) _ from_step) in
      let m = stmts-are most deeper.outer low_depth dbody (below-right deeper.outer (step_nests dstep) (0 ∷ stmts_nests dbody) from_step).1 in
      let more = stmts-are most n k ds (below-right n (enclosed block) (stmts_nests ds) h) in
      let whole_is = ap length all_is in
      let low_tokens = length-append low (colon ∷ (high ++ (by ++ do_word ∷ (inner ++ last ∷ rest)))) in
      let high_tokens = length-append high (by ++ do_word ∷ (inner ++ last ∷ rest)) in
      let by_tokens = length-append by (do_word ∷ (inner ++ last ∷ rest)) in
      let body_tokens = length-append inner (last ∷ rest) in
      rw tree (in-front most (1 + length low + length high + length by + length inner) tokens rest _ others (omega (arith, whole_is, low_tokens, high_tokens, by_tokens, body_tokens))
      (for-is most deeper.outer low high by inner _ _ name a b step body low_depth ia ib s m) more)
  stmts-are {project} {tokens} most n k (an_emit word event given rest name argument others is_word is_name all_is tree da ds) h =
      let argument_is = argument-is most n k da (below-left n (argument_nests da) _ h.1.1) in
      let more = stmts-are most n k ds (below-right n (argument_nests da) (stmts_nests ds) h.1.1) in
      let whole_is = ap length all_is in
      let long = length-append given rest in
      rw tree (in-front most (1 + length given) tokens rest _ others (omega (arith, whole_is, long)) (record { good = argument_is.0; operators = refl; few = (let few = argument_is.1 in omega arith) }) more)
  stmts-are {project} {tokens} most n k (a_callsub word called rest name others is_word is_name all_is tree ds) h =
      let more = stmts-are most n k ds h.1.1 in
      let whole_is = ap length all_is in
      rw tree (in-front most 1 tokens rest _ others (omega (arith, whole_is)) (record { good = refl; operators = refl; few = (let none : counted [] ≡ 0 = refl in omega (arith, none)) }) more)
  stmts-are {project} {tokens} most n k (a_call word called opening closing given rest name es others is_word is_name is_open is_close all_is tree da ds) h =
      let deeper = enclosed-below n (arguments_nests da) (below-left n (enclosed (arguments_nests da)) _ h.1.1) in
      let low : deeper.outer ≤ most = (let less = deeper.less in omega arith) in
      let arguments = arguments-are most deeper.outer low da deeper.below in
      let more = stmts-are most n k ds (below-right n (enclosed (arguments_nests da)) (stmts_nests ds) h.1.1) in
      let whole_is = ap length all_is in
      let long = length-append given (closing ∷ rest) in
      rw tree (in-front most (1 + length given) tokens rest _ others (omega (arith, whole_is, long)) (record { good = arguments.0; operators = refl; few = (let few = arguments.1 in omega arith) }) more)
  stmts-are {project} {tokens} most n k (a_return word rest others is_word all_is tree ds) h =
      let more = stmts-are most n k ds h.1 in
      let whole_is = ap length all_is in
      rw tree (in-front most 1 tokens rest _ others (omega (arith, whole_is)) (record { good = refl; operators = refl; few = (let none : counted [] ≡ 0 = refl in omega (arith, none)) }) more)

  other-is : {project : Project} {tokens : List Token} {other : Stmts} (most n : ℕ) → n ≤ most → (d : SpellsOther project tokens other) → Below n (other_nests d) → StmtsAre most tokens other
  other-is {project} {tokens} most n k (no_other all_is tree) h = rw tree (record { good = refl; operators = refl; few = (let none : counted [] ≡ 0 = refl in omega (arith, none)) })
  other-is {project} {tokens} most n k (an_else word inner is_word all_is d) h =
      let i = stmts-are most n k d h.1 in
      let whole_is = ap length all_is in
      record { good = i.good; operators = i.operators; few = (let few = i.few in omega (arith, whole_is)) }
  other-is {project} {tokens} most n k (an_elseif word then test inner behind c body more is_word is_then all_is tree dc db dmore) h =
      let block = expr_nests dc ++ 0 ∷ (stmts_nests db ++ other_nests dmore) in
      let deeper = prefixed-below n block h in
      let inside_test = (below-right deeper.outer (expr_nests dc) (0 ∷ (stmts_nests db ++ other_nests dmore)) deeper.below).1 in
      let low : deeper.outer ≤ most = (let less = deeper.less in omega arith) in
      let whole_is = ap length all_is in
      let outer = length-append test (then ∷ (inner ++ behind)) in
      let middle = length-append inner behind in
      rw tree (in-front most (1 + length test + length inner + length behind) tokens [] _ no_stmts (omega (arith, whole_is, outer, middle))
      (branch-is most deeper.outer test inner behind _ _ c body more low (expr-is deeper.outer dc (below-left deeper.outer (expr_nests dc) _ deeper.below))
      (stmts-are most deeper.outer low db (below-left deeper.outer (stmts_nests db) _ inside_test)) (other-is most deeper.outer low dmore (below-right deeper.outer (stmts_nests db) (other_nests dmore) inside_test)))
      (record { good = refl; operators = refl; few = (let none : counted [] ≡ 0 = refl in omega (arith, none)) }))

-- Declarations

size-is : {tokens : List Token} {size : Option Expr} (most n : ℕ) → n ≤ most → (d : SpellsSize tokens size) → Below n (size_nests d) → Good most (option_to_list size) × (counted (option_to_list size) ≤ length tokens)
size-is {tokens} most n k (no_size all_is tree) h = rw tree (refl, (let none : counted [] ≡ 0 = refl in omega (arith, none)))
size-is {tokens} most n k (a_size opening closing inner e is_open is_close all_is tree d) h =
    let deeper = enclosed-below n (expr_nests d) h in
    let i = expr-is deeper.outer d deeper.below in
    let long = within-brackets opening closing inner tokens all_is in
    rw tree (good-one most e (good-of most (let less = deeper.less in omega arith) i), (let few = i.few in let own = counted-one e in omega (arith, own)))

value-is : {named : Place} {tokens : List Token} {equals : Place} {value : Option Expr} (most n : ℕ) → n ≤ most → (d : SpellsValue named tokens equals value) → Below n (value_nests d)
    → Good most (option_to_list value) × (counted (option_to_list value) ≤ length tokens)
value-is {named} {tokens} most n k (no_value all_is equals tree) h = rw tree (refl, (let none : counted [] ≡ 0 = refl in omega (arith, none)))
value-is {named} {tokens} most n k (a_value sign inner e is_sign all_is equals tree d) h =
    let i = expr-is n d h.1 in
    let whole_is = ap length all_is in
    rw tree (good-one most e (good-of most k i), (let few = i.few in let own = counted-one e in omega (arith, whole_is, own)))

record DeclsAre (most : ℕ) (tokens : List Token) (ds : List Decl) : Type 0 where
  good : Good most (flat_map decl_exprs ds)
  few : length ds + counted (flat_map decl_exprs ds) ≤ length tokens

decls-are : {tokens : List Token} {ds : List Decl} (most n : ℕ) → n ≤ most → (d : SpellsDecls tokens ds) → Below n (decls_nests d) → DeclsAre most tokens ds
decls-are {tokens} most n k (no_decls all_is tree) h = rw tree (record { good = refl; few = (let none : counted [] ≡ 0 = refl in omega (arith, none)) })
decls-are {tokens} most n k (a_decl word variable sized given rest name size value equals others is_word is_name all_is tree dsize dvalue ds) h =
    let behind_size = below-right n (size_nests dsize) (value_nests dvalue ++ decls_nests ds) h.1.1 in
    let s = size-is most n k dsize (below-left n (size_nests dsize) _ h.1.1) in
    let v = value-is most n k dvalue (below-left n (value_nests dvalue) _ behind_size) in
    let more = decls-are most n k ds (below-right n (value_nests dvalue) (decls_nests ds) behind_size) in
    let mine = option_to_list size ++ option_to_list value in
    let own = counted-append (option_to_list size) (option_to_list value) in
    let sum = counted-append mine (flat_map decl_exprs others) in
    let whole_is = ap length all_is in
    let long = length-append sized (given ++ rest) in
    let long_given = length-append given rest in
    rw tree (record {
      good = good-append most mine (flat_map decl_exprs others) (good-append most (option_to_list size) (option_to_list value) s.0 v.0) more.good;
      few = (let a = s.1 in let b = v.1 in let c = more.few in omega (arith, own, sum, whole_is, long, long_given));
    })

-- Parts

abbrev body_exprs : Handler → List Expr
body_exprs h = stmts_exprs h.body

record PartsAre (most : ℕ) (tokens : List Token) (hs : List Handler) : Type 0 where
  good : Good most (flat_map (λ h. stmts_exprs h.body) hs)
  operators : list_all (λ h. have_operators h.body) hs ≡ true
  few : length hs + sum_by (λ h. stmts_count h.body) hs + counted (flat_map (λ h. stmts_exprs h.body) hs) ≤ length tokens

part-in-front : (most : ℕ) (word named : Token) (inner rest tokens : List Token) (h : Handler) (others : List Handler) → tokens ≡ word ∷ named ∷ (inner ++ rest) → StmtsAre most inner h.body → PartsAre most rest others → PartsAre most tokens (h ∷ others)
part-in-front most word named inner rest tokens h others e b more = record {
  good = good-append most (stmts_exprs h.body) (flat_map (λ h. stmts_exprs h.body) others) b.good more.good;
  operators = and_from (have_operators h.body) (list_all (λ h. have_operators h.body) others) b.operators more.operators;
  few = (
      let x = b.few in let y = more.few in
      let sum = counted-append (stmts_exprs h.body) (flat_map (λ h. stmts_exprs h.body) others) in
      let counts = sum_by-cons (λ (h : Handler). stmts_count h.body) h others in
      let whole_is = ap length e in
      let long = length-append inner rest in
      omega (arith, sum, counts, whole_is, long)
      );
}

parts-are : {project : Project} {tokens : List Token} {hs : List Handler} (most n : ℕ) → n ≤ most → (d : SpellsParts project tokens hs) → Below n (parts_nests d) → PartsAre most tokens hs
parts-are {project} {tokens} most n k (no_parts all_is tree) h =
    rw tree (record { good = refl; operators = refl; few = (let none : counted [] ≡ 0 = refl in let no_counts : sum_by (λ (h : Handler). stmts_count h.body) [] ≡ 0 = refl in omega (arith, none, no_counts)) })
parts-are {project} {tokens} most n k (a_handler word event inner rest name body others is_word is_name all_is tree db ds) h =
    rw tree (part-in-front most word event inner rest tokens _ others all_is (stmts-are most n k db (below-left n (stmts_nests db) _ h.1.1)) (parts-are most n k ds (below-right n (stmts_nests db) (parts_nests ds) h.1.1)))
parts-are {project} {tokens} most n k (a_sub word named inner rest name body others is_word is_name all_is tree db ds) h =
    rw tree (part-in-front most word named inner rest tokens _ others all_is (stmts-are most n k db (below-left n (stmts_nests db) _ h.1.1)) (parts-are most n k ds (below-right n (stmts_nests db) (parts_nests ds) h.1.1)))

-- Sources

filled-of : (most : ℕ) (es : List Expr) → Good most es → list_all is_filled es ≡ true
filled-of most [] h = refl
filled-of most (e ∷ es) h =
    and_from (is_filled e) (list_all is_filled es) (both_left (is_filled e) (nat_le (list_depth e) most) (both_left (is_good most e) (list_all (is_good most) es) h)) (filled-of most es (both_right (is_good most e) (list_all (is_good most) es) h))

shallow-of : (most : ℕ) (es : List Expr) → Good most es → list_all (λ e. nat_le (list_depth e) most) es ≡ true
shallow-of most [] h = refl
shallow-of most (e ∷ es) h =
    and_from (nat_le (list_depth e) most) (list_all (λ e. nat_le (list_depth e) most) es)
    (both_right (is_filled e) (nat_le (list_depth e) most) (both_left (is_good most e) (list_all (is_good most) es) h)) (shallow-of most es (both_right (is_good most e) (list_all (is_good most) es) h))

-- Tokens with such nests spell no more nodes than they are.
count-below : (project : Project) (source : Source) (tokens : List Token) (d : Spells project source tokens) → Below 64 (nests d) → source_count source ≤ length tokens
count-below project source tokens d h =
    let behind = below-right 64 (decls_nests d.decls) (stmts_nests d.init ++ parts_nests d.parts) h in
    let vars = decls-are 64 64 (omega arith) d.decls (below-left 64 (decls_nests d.decls) _ h) in
    let init = stmts-are 64 64 (omega arith) d.init (below-left 64 (stmts_nests d.init) _ behind) in
    let parts = parts-are 64 64 (omega arith) d.parts (below-right 64 (stmts_nests d.init) (parts_nests d.parts) behind) in
    let var_exprs = flat_map decl_exprs source.vars in
    let part_exprs = flat_map (λ (h : Handler). stmts_exprs h.body) source.parts in
    let sum = counted-append (var_exprs ++ stmts_exprs source.init) part_exprs in
    let inner = counted-append var_exprs (stmts_exprs source.init) in
    let whole_is = ap length d.in_order in
    let long = length-append d.decl_tokens (d.init_tokens ++ d.part_tokens) in
    let long_behind = length-append d.init_tokens d.part_tokens in
    let a = vars.few in
    let b = init.few in
    let c = parts.few in
    omega (arith, sum, inner, whole_is, long, long_behind)

-- what spelled tokens with such nests are
tree-below : (project : Project) (source : Source) (tokens : List Token) (d : Spells project source tokens) → Below 64 (nests d) → length tokens < 4294967295 → IsTree source
tree-below project source tokens d h few =
    let behind = below-right 64 (decls_nests d.decls) (stmts_nests d.init ++ parts_nests d.parts) h in
    let vars = decls-are 64 64 (omega arith) d.decls (below-left 64 (decls_nests d.decls) _ h) in
    let init = stmts-are 64 64 (omega arith) d.init (below-left 64 (stmts_nests d.init) _ behind) in
    let parts = parts-are 64 64 (omega arith) d.parts (below-right 64 (stmts_nests d.init) (parts_nests d.parts) behind) in
    let var_exprs = flat_map decl_exprs source.vars in
    let part_exprs = flat_map (λ (h : Handler). stmts_exprs h.body) source.parts in
    let good = good-append 64 (var_exprs ++ stmts_exprs source.init) part_exprs (good-append 64 var_exprs (stmts_exprs source.init) vars.good init.good) parts.good in
    let count = count-below project source tokens d h in
    record {
      is_small = omega (arith, few, count);
      is_filled = filled-of 64 (source_exprs source) good;
      is_shallow = shallow-of 64 (source_exprs source) good;
      has_operators = and_from (have_operators source.init) (list_all (λ (h : Handler). have_operators h.body) source.parts) init.operators parts.operators;
    }

-- none of the nests is above a depth where none is found that is
none-found : (n : ℕ) (ns : List ℕ) → first_above n ns ≡ None → Below n ns
none-found n [] e = tt
none-found n (k ∷ ns) e = pick (λ q. none-found n ns q) (nat_lt n k) refl (first_above n ns) refl e
  where
    pick : (first_above n ns ≡ None → Below n ns) → (b : Bool) → nat_lt n k ≡ b → (o : Option ℕ) → first_above n ns ≡ o → above_by b o ≡ None → Below n (k ∷ ns)
    pick deeper true t o q f = cc
    pick deeper false t None q f = (ltb-false n k t, deeper q)
    pick deeper false t (Some j) q f = cc

not-deep : (project : Project) (source : Source) (tokens : List Token) (end : Pos) (d : Spells project source tokens) → parser.IsNestedWell project tokens → first_above 64 (nests d) ≡ None
not-deep project source tokens end d well = pick (first_above 64 (nests d)) refl
  where
    pick : (o : Option ℕ) → first_above 64 (nests d) ≡ o → first_above 64 (nests d) ≡ None
    pick None e = e
    pick (Some k) e =
        let read : program_read project 64 tokens ≡ deep (drop k tokens ++ []) = each_spelled_is_read project source tokens d 64 ∙ ap (λ o. outcome o tokens [] source) e in
        absurd (well _ (parsed_deep project tokens end (drop k tokens ++ []) read))

-- the nests of tokens that are nested well
well-below : (project : Project) (source : Source) (tokens : List Token) (is : parser.IsTreeOf project tokens source) → Below 64 (nests is.spelled)
well-below project source tokens is = none-found 64 (nests is.spelled) (not-deep project source tokens (record { line = 1; col = 1 }) is.spelled is.well)

-- The tree of tokens that are nested well has at most a node for each of them.
pub spelled-count : (project : Project) (source : Source) (tokens : List Token) → parser.IsTreeOf project tokens source → source_count source ≤ length tokens
spelled-count project source tokens is = count-below project source tokens is.spelled (well-below project source tokens is)

-- The tree of tokens that are nested well can be checked, where they are not too many.
pub spelled-tree : (project : Project) (source : Source) (tokens : List Token) → parser.IsTreeOf project tokens source → length tokens < 4294967295 → IsTree source
spelled-tree project source tokens is few = tree-below project source tokens is.spelled (well-below project source tokens is) few
