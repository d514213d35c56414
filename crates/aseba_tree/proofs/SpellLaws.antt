-- Laws of spelled trees.
use Rattle.std.proofs.Common.{◌≡◌, ◌∙◌, ap, ℕ, suc, ◌+◌, List, [], ◌∷◌, ◌++◌, length, arith}
use Rattle.std.specs.Prelude.{Option}
use Rattle.std.proofs.lemmas.List.{length-append, length-map}
use Rattle.aseba_tree.specs.declared.token.Token.{Token}
use Rattle.aseba_tree.specs.Code.{Name, Place, Expr, Exprs, Target, Stmts, Decl, Handler, Source, Project}
use Rattle.aseba_tree.specs.Spells.{SpellsExpr, a_number, a_target, a_list, in_parentheses, a_prefix, an_operation, a_tighter, SpellsList, the_last, one_before, SpellsTarget, all_cells, one_cell, some_cells, SpellsStep, no_step, a_step, SpellsArgument, no_argument, an_argument, SpellsArguments, no_arguments, some_arguments, SpellsStmts, nothing, an_assignment, a_change, a_bump, an_if, a_when, a_while, a_for, an_emit, a_callsub, a_call, a_return, SpellsOther, no_other, an_else, an_elseif, SpellsSize, no_size, a_size, SpellsValue, no_value, a_value, SpellsDecls, no_decls, a_decl, SpellsParts, no_parts, a_handler, a_sub, Spells}
use Rattle.aseba_tree.specs.Nest.{enclosed, expr_nests, list_nests, target_nests, step_nests, argument_nests, arguments_nests, stmts_nests, other_nests, size_nests, value_nests, decls_nests, parts_nests, nests}

length_enclosed : (nests : List ℕ) → length (enclosed nests) ≡ suc (suc (length nests))
length_enclosed nests =
    let outer = length-map (nests ++ 0 ∷ []) suc in
    let inner = length-append nests (0 ∷ []) in
    omega (arith, outer, inner)

between : (nests : List ℕ) (tokens : List Token) (opening closing : Token) (all : List Token) → length nests ≡ length tokens → all ≡ opening ∷ (tokens ++ closing ∷ []) → length (enclosed nests) ≡ length all
between nests tokens opening closing all e q =
    let long = length_enclosed nests in
    let inner = length-append tokens (closing ∷ []) in
    let whole = ap length q in
    omega (arith, e, long, inner, whole)

-- each token of an expression has a nest
mutual
  pub expr_nests_are_all : {level : ℕ} {tokens : List Token} {e : Expr} (d : SpellsExpr level tokens e) → length (expr_nests d) ≡ length tokens
  expr_nests_are_all (a_number t v is_number all level tree) = let whole = ap length all in omega (arith, whole)
  expr_nests_are_all (a_target target level tree d) = target_nests_are_all d
  expr_nests_are_all (a_list opening closing inner es is_open is_close all level tree d) = between (list_nests d) inner opening closing _ (list_nests_are_all d) all
  expr_nests_are_all (in_parentheses opening closing inner i is_open is_close all level tree d) = between (expr_nests d) inner opening closing _ (expr_nests_are_all d) all
  expr_nests_are_all (a_prefix t op operand i is_prefix all level tree d) =
      let rest = expr_nests_are_all d in
      let deeper = length-map (expr_nests d) suc in
      let whole = ap length all in
      omega (arith, rest, deeper, whole)
  expr_nests_are_all (an_operation left right t op tighter l r is_operator all level below tree dl dr) =
      let lefts = expr_nests_are_all dl in
      let rights = expr_nests_are_all dr in
      let joined = length-append (expr_nests dl) (0 ∷ expr_nests dr) in
      let whole = ap length all ∙ length-append left (t ∷ right) in
      omega (arith, lefts, rights, joined, whole)
  expr_nests_are_all (a_tighter tighter level d) = expr_nests_are_all d

  list_nests_are_all : {tokens : List Token} {es : Exprs} (d : SpellsList tokens es) → length (list_nests d) ≡ length tokens
  list_nests_are_all (the_last e tree d) = expr_nests_are_all d
  list_nests_are_all (one_before first rest comma e others is_comma all tree d ds) =
      let firsts = expr_nests_are_all d in
      let rests = list_nests_are_all ds in
      let joined = length-append (expr_nests d) (0 ∷ list_nests ds) in
      let whole = ap length all ∙ length-append first (comma ∷ rest) in
      omega (arith, firsts, rests, joined, whole)

  target_nests_are_all : {tokens : List Token} {target : Target} (d : SpellsTarget tokens target) → length (target_nests d) ≡ length tokens
  target_nests_are_all (all_cells t name is_name all tree) = let whole = ap length all in omega (arith, whole)
  target_nests_are_all (one_cell t opening closing name inner i is_name is_open is_close all tree d) =
      let inside = between (expr_nests d) inner opening closing _ (expr_nests_are_all d) (λ i. opening ∷ (inner ++ closing ∷ [])) in
      let whole = ap length all in
      omega (arith, inside, whole)
  target_nests_are_all (some_cells t opening colon closing name low high c d is_name is_open is_colon is_close all tree dl dh) =
      let lows = expr_nests_are_all dl in
      let highs = expr_nests_are_all dh in
      let joined = length-append (expr_nests dl) (0 ∷ expr_nests dh) in
      let long = length_enclosed (expr_nests dl ++ 0 ∷ expr_nests dh) in
      let end = length-append high (closing ∷ []) in
      let whole = ap length all in
      let parts = length-append low (colon ∷ (high ++ closing ∷ [])) in
      omega (arith, lows, highs, joined, long, end, whole, parts)

step_nests_are_all : {tokens : List Token} {step : Option Expr} (d : SpellsStep tokens step) → length (step_nests d) ≡ length tokens
step_nests_are_all (no_step all tree) = let whole = ap length all in omega (arith, whole)
step_nests_are_all (a_step word inner e is_word all tree d) = let rest = expr_nests_are_all d in let whole = ap length all in omega (arith, rest, whole)

argument_nests_are_all : {project : Project} {name : Name} {tokens : List Token} {argument : Option Expr} (d : SpellsArgument project name tokens argument) → length (argument_nests d) ≡ length tokens
argument_nests_are_all (no_argument takes all tree) = let whole = ap length all in omega (arith, whole)
argument_nests_are_all (an_argument e takes tree d) = expr_nests_are_all d

arguments_nests_are_all : {tokens : List Token} {es : Exprs} (d : SpellsArguments tokens es) → length (arguments_nests d) ≡ length tokens
arguments_nests_are_all (no_arguments all tree) = let whole = ap length all in omega (arith, whole)
arguments_nests_are_all (some_arguments d) = list_nests_are_all d

-- the length of three and of four lists in a row
three : {A : Type 0} (xs ys zs : List A) → length (xs ++ (ys ++ zs)) ≡ length xs + length ys + length zs
three xs ys zs = let outer = length-append xs (ys ++ zs) in let inner = length-append ys zs in omega (arith, outer, inner)

-- the tokens of a statement with a test, a body and what stands behind it, and its nests
tested : (word then last : Token) (test inner behind rest all : List Token) (t i b r : List ℕ) → length t ≡ length test → length i ≡ length inner → length b ≡ length behind → length r ≡ length rest
    → all ≡ word ∷ (test ++ then ∷ (inner ++ (behind ++ last ∷ rest))) → length (enclosed (t ++ 0 ∷ (i ++ b)) ++ r) ≡ length all
tested word then last test inner behind rest all t i b r pt pi pb pr q =
    let outer = length-append (enclosed (t ++ 0 ∷ (i ++ b))) r in
    let long = length_enclosed (t ++ 0 ∷ (i ++ b)) in
    let nests = length-append t (0 ∷ (i ++ b)) in
    let inside = length-append i b in
    let whole = ap length q in
    let tokens = length-append test (then ∷ (inner ++ (behind ++ last ∷ rest))) in
    let others = three inner behind (last ∷ rest) in
    omega (arith, pt, pi, pb, pr, outer, long, nests, inside, whole, tokens, others)

looped : (word then last : Token) (test inner rest all : List Token) (t i r : List ℕ) → length t ≡ length test → length i ≡ length inner → length r ≡ length rest
    → all ≡ word ∷ (test ++ then ∷ (inner ++ last ∷ rest)) → length (enclosed (t ++ 0 ∷ i) ++ r) ≡ length all
looped word then last test inner rest all t i r pt pi pr q =
    let outer = length-append (enclosed (t ++ 0 ∷ i)) r in
    let long = length_enclosed (t ++ 0 ∷ i) in
    let nests = length-append t (0 ∷ i) in
    let whole = ap length q in
    let tokens = length-append test (then ∷ (inner ++ last ∷ rest)) in
    let others = length-append inner (last ∷ rest) in
    omega (arith, pt, pi, pr, outer, long, nests, whole, tokens, others)

assigned : (sign : Token) (left right rest all : List Token) (l r o : List ℕ) → length l ≡ length left → length r ≡ length right → length o ≡ length rest → all ≡ left ++ sign ∷ (right ++ rest)
    → length (l ++ 0 ∷ (r ++ o)) ≡ length all
assigned sign left right rest all l r o pl pr po q =
    let outer = length-append l (0 ∷ (r ++ o)) in
    let inner = length-append r o in
    let whole = ap length q ∙ length-append left (sign ∷ (right ++ rest)) in
    let tokens = length-append right rest in
    omega (arith, pl, pr, po, outer, inner, whole, tokens)

-- each token of statements has a nest
mutual
  stmts_nests_are_all : {project : Project} {tokens : List Token} {ss : Stmts} (d : SpellsStmts project tokens ss) → length (stmts_nests d) ≡ length tokens
  stmts_nests_are_all (nothing all tree) = let whole = ap length all in omega (arith, whole)
  stmts_nests_are_all (an_assignment left right rest sign target e others is_sign all tree dt de ds) =
      assigned sign left right rest _ (target_nests dt) (expr_nests de) (stmts_nests ds) (target_nests_are_all dt) (expr_nests_are_all de) (stmts_nests_are_all ds) all
  stmts_nests_are_all (a_change left right rest sign op target e others is_sign all tree dt de ds) =
      assigned sign left right rest _ (target_nests dt) (expr_nests de) (stmts_nests ds) (target_nests_are_all dt) (expr_nests_are_all de) (stmts_nests_are_all ds) all
  stmts_nests_are_all (a_bump left rest sign op target others is_sign all tree dt ds) =
      let lefts = target_nests_are_all dt in
      let rests = stmts_nests_are_all ds in
      let outer = length-append (target_nests dt) (0 ∷ stmts_nests ds) in
      let whole = ap length all ∙ length-append left (sign ∷ rest) in
      omega (arith, lefts, rests, outer, whole)
  stmts_nests_are_all (an_if word then last test inner behind rest c body other others is_word is_then is_last all tree dc db dother ds) =
      tested word then last test inner behind rest _ (expr_nests dc) (stmts_nests db) (other_nests dother) (stmts_nests ds)
      (expr_nests_are_all dc) (stmts_nests_are_all db) (other_nests_are_all dother) (stmts_nests_are_all ds) all
  stmts_nests_are_all (a_when word do_word last test inner rest c body others is_word is_do is_last all tree dc db ds) =
      looped word do_word last test inner rest _ (expr_nests dc) (stmts_nests db) (stmts_nests ds) (expr_nests_are_all dc) (stmts_nests_are_all db) (stmts_nests_are_all ds) all
  stmts_nests_are_all (a_while word do_word last test inner rest c body others is_word is_do is_last all tree dc db ds) =
      looped word do_word last test inner rest _ (expr_nests dc) (stmts_nests db) (stmts_nests ds) (expr_nests_are_all dc) (stmts_nests_are_all db) (stmts_nests_are_all ds) all
  stmts_nests_are_all (a_for word variable in_word colon do_word last low high by inner rest name a b step body others is_word is_name is_in is_colon is_do is_last all tree da db dstep dbody ds) =
      let lows = expr_nests_are_all da in
      let highs = expr_nests_are_all db in
      let steps = step_nests_are_all dstep in
      let bodies = stmts_nests_are_all dbody in
      let rests = stmts_nests_are_all ds in
      let inner_nests = 0 ∷ 0 ∷ (expr_nests da ++ 0 ∷ (expr_nests db ++ (step_nests dstep ++ 0 ∷ stmts_nests dbody))) in
      let outer = length-append (enclosed inner_nests) (stmts_nests ds) in
      let long = length_enclosed inner_nests in
      let of_low = length-append (expr_nests da) (0 ∷ (expr_nests db ++ (step_nests dstep ++ 0 ∷ stmts_nests dbody))) in
      let of_high = three (expr_nests db) (step_nests dstep) (0 ∷ stmts_nests dbody) in
      let whole = ap length all in
      let low_tokens = length-append low (colon ∷ (high ++ (by ++ do_word ∷ (inner ++ last ∷ rest)))) in
      let high_tokens = three high by (do_word ∷ (inner ++ last ∷ rest)) in
      let body_tokens = length-append inner (last ∷ rest) in
      omega (arith, lows, highs, steps, bodies, rests, outer, long, of_low, of_high, whole, low_tokens, high_tokens, body_tokens)
  stmts_nests_are_all (an_emit word event given rest name argument others is_word is_name all tree da ds) =
      let arguments = argument_nests_are_all da in
      let rests = stmts_nests_are_all ds in
      let inner = length-append (argument_nests da) (stmts_nests ds) in
      let whole = ap length all in
      let tokens = length-append given rest in
      omega (arith, arguments, rests, inner, whole, tokens)
  stmts_nests_are_all (a_callsub word called rest name others is_word is_name all tree ds) = let rests = stmts_nests_are_all ds in let whole = ap length all in omega (arith, rests, whole)
  stmts_nests_are_all (a_call word called opening closing given rest name es others is_word is_name is_open is_close all tree da ds) =
      let arguments = arguments_nests_are_all da in
      let rests = stmts_nests_are_all ds in
      let long = length_enclosed (arguments_nests da) in
      let outer = length-append (enclosed (arguments_nests da)) (stmts_nests ds) in
      let whole = ap length all in
      let tokens = length-append given (closing ∷ rest) in
      omega (arith, arguments, rests, long, outer, whole, tokens)
  stmts_nests_are_all (a_return word rest others is_word all tree ds) = let rests = stmts_nests_are_all ds in let whole = ap length all in omega (arith, rests, whole)

  other_nests_are_all : {project : Project} {tokens : List Token} {other : Stmts} (d : SpellsOther project tokens other) → length (other_nests d) ≡ length tokens
  other_nests_are_all (no_other all tree) = let whole = ap length all in omega (arith, whole)
  other_nests_are_all (an_else word inner is_word all d) = let rests = stmts_nests_are_all d in let whole = ap length all in omega (arith, rests, whole)
  other_nests_are_all (an_elseif word then test inner behind c body more is_word is_then all tree dc db dmore) =
      let tests = expr_nests_are_all dc in
      let bodies = stmts_nests_are_all db in
      let others = other_nests_are_all dmore in
      let deeper = length-map (expr_nests dc ++ 0 ∷ (stmts_nests db ++ other_nests dmore)) suc in
      let outer = length-append (expr_nests dc) (0 ∷ (stmts_nests db ++ other_nests dmore)) in
      let inners = length-append (stmts_nests db) (other_nests dmore) in
      let whole = ap length all in
      let tokens = length-append test (then ∷ (inner ++ behind)) in
      let body_tokens = length-append inner behind in
      omega (arith, tests, bodies, others, deeper, outer, inners, whole, tokens, body_tokens)

size_nests_are_all : {tokens : List Token} {size : Option Expr} (d : SpellsSize tokens size) → length (size_nests d) ≡ length tokens
size_nests_are_all (no_size all tree) = let whole = ap length all in omega (arith, whole)
size_nests_are_all (a_size opening closing inner e is_open is_close all tree d) = between (expr_nests d) inner opening closing _ (expr_nests_are_all d) all

value_nests_are_all : {named : Place} {tokens : List Token} {equals : Place} {value : Option Expr} (d : SpellsValue named tokens equals value) → length (value_nests d) ≡ length tokens
value_nests_are_all (no_value all equals tree) = let whole = ap length all in omega (arith, whole)
value_nests_are_all (a_value sign inner e is_sign all equals tree d) = let rest = expr_nests_are_all d in let whole = ap length all in omega (arith, rest, whole)

decls_nests_are_all : {tokens : List Token} {ds : List Decl} (d : SpellsDecls tokens ds) → length (decls_nests d) ≡ length tokens
decls_nests_are_all (no_decls all tree) = let whole = ap length all in omega (arith, whole)
decls_nests_are_all (a_decl word variable sized given rest name size value equals others is_word is_name all tree dsize dvalue ds) =
    let sizes = size_nests_are_all dsize in
    let values = value_nests_are_all dvalue in
    let rests = decls_nests_are_all ds in
    let outer = three (size_nests dsize) (value_nests dvalue) (decls_nests ds) in
    let whole = ap length all in
    let tokens = three sized given rest in
    omega (arith, sizes, values, rests, outer, whole, tokens)

-- a part with its body and the parts behind it
with_body : (word named : Token) (inner rest all : List Token) (b r : List ℕ) → length b ≡ length inner → length r ≡ length rest → all ≡ word ∷ named ∷ (inner ++ rest) → length (0 ∷ 0 ∷ (b ++ r)) ≡ length all
with_body word named inner rest all b r pb pr q =
    let nests = length-append b r in
    let whole = ap length q in
    let tokens = length-append inner rest in
    omega (arith, pb, pr, nests, whole, tokens)

parts_nests_are_all : {project : Project} {tokens : List Token} {hs : List Handler} (d : SpellsParts project tokens hs) → length (parts_nests d) ≡ length tokens
parts_nests_are_all (no_parts all tree) = let whole = ap length all in omega (arith, whole)
parts_nests_are_all (a_handler word event inner rest name body others is_word is_name all tree db ds) = with_body word event inner rest _ (stmts_nests db) (parts_nests ds) (stmts_nests_are_all db) (parts_nests_are_all ds) all
parts_nests_are_all (a_sub word named inner rest name body others is_word is_name all tree db ds) = with_body word named inner rest _ (stmts_nests db) (parts_nests ds) (stmts_nests_are_all db) (parts_nests_are_all ds) all

-- each token of a program has a nest
pub nests_are_all : {project : Project} {source : Source} {tokens : List Token} (d : Spells project source tokens) → length (nests d) ≡ length tokens
nests_are_all d =
    let decls = decls_nests_are_all d.decls in
    let inits = stmts_nests_are_all d.init in
    let parts = parts_nests_are_all d.parts in
    let outer = three (decls_nests d.decls) (stmts_nests d.init) (parts_nests d.parts) in
    let whole = ap length d.in_order ∙ three d.decl_tokens d.init_tokens d.part_tokens in
    omega (arith, decls, inits, parts, outer, whole)
