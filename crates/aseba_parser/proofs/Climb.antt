-- From one token to the next at most one level is opened.
use Rattle.std.proofs.Common.{ℕ, suc, List, [], ◌∷◌, ◌++◌, Option, arith}
use Rattle.aseba_tree.specs.declared.token.Token.{Token}
use Rattle.aseba_tree.specs.Code.{Name, Place, Expr, Exprs, Target, Stmts, Decl, Handler, Project}
use Rattle.aseba_tree.specs.Spells.{SpellsExpr, a_number, a_target, a_list, in_parentheses, a_prefix, an_operation, a_tighter, SpellsList, the_last, one_before, SpellsTarget, all_cells, one_cell, some_cells, SpellsStep, no_step, a_step, SpellsArgument, no_argument, an_argument, SpellsArguments, no_arguments, some_arguments, SpellsStmts, nothing, an_assignment, a_change, a_bump, an_if, a_when, a_while, a_for, an_emit, a_callsub, a_call, a_return, SpellsOther, no_other, an_else, an_elseif, SpellsSize, no_size, a_size, SpellsValue, no_value, a_value, SpellsDecls, no_decls, a_decl, SpellsParts, no_parts, a_handler, a_sub}
use Rattle.aseba_tree.specs.Nest.{inside, enclosed, expr_nests, list_nests, target_nests, step_nests, argument_nests, arguments_nests, stmts_nests, other_nests, size_nests, value_nests, decls_nests, parts_nests}
use Rattle.aseba_parser.proofs.Laws.{Climbs, NestsClimb}

from_any : (k : ℕ) (ns : List ℕ) → Climbs 0 ns → Climbs k ns
from_any k [] c = tt
from_any k (n ∷ ns) c = let low = c.0 in (omega (arith, low), c.1)

from_both : (k : ℕ) (ns ms : List ℕ) → Climbs k ns → Climbs 0 ms → Climbs k (ns ++ ms)
from_both k [] ms c d = from_any k ms d
from_both k (n ∷ ns) ms c d = (c.0, from_both n ns ms c.1 d)

a_level_up : (k : ℕ) (ns : List ℕ) → Climbs k ns → Climbs (suc k) (inside ns)
a_level_up k [] c = tt
a_level_up k (n ∷ ns) c = let low = c.0 in (omega (arith, low), a_level_up n ns c.1)

-- lists of nests in a row, a token at the level outside, and what is nested
both : (ns ms : List ℕ) → Climbs 0 ns → Climbs 0 ms → Climbs 0 (ns ++ ms)
both ns ms c d = from_both 0 ns ms c d

outside : (ns : List ℕ) → Climbs 0 ns → Climbs 0 (0 ∷ ns)
outside ns c = (omega arith, c)

nested : (ns : List ℕ) → Climbs 0 ns → Climbs 0 (inside (0 ∷ ns))
nested ns c = (omega arith, a_level_up 0 ns c)

between : (ns ms : List ℕ) → Climbs 0 ns → Climbs 0 ms → Climbs 0 (ns ++ 0 ∷ ms)
between ns ms c d = both ns (0 ∷ ms) c (outside ms d)

closed : (ns : List ℕ) → Climbs 0 ns → Climbs 0 (enclosed ns)
closed ns c = nested (ns ++ 0 ∷ []) (between ns [] c tt)

mutual
  expr_climbs : {level : ℕ} {tokens : List Token} {e : Expr} (d : SpellsExpr level tokens e) → Climbs 0 (expr_nests d)
  expr_climbs (a_number t v is_number all level tree) = outside [] tt
  expr_climbs (a_target target level tree d) = target_climbs d
  expr_climbs (a_list opening closing inner es is_open is_close all level tree d) = closed (list_nests d) (list_climbs d)
  expr_climbs (in_parentheses opening closing inner i is_open is_close all level tree d) = closed (expr_nests d) (expr_climbs d)
  expr_climbs (a_prefix t op operand i is_prefix all level tree d) = nested (expr_nests d) (expr_climbs d)
  expr_climbs (an_operation left right t op tighter l r is_operator all level below tree dl dr) = between (expr_nests dl) (expr_nests dr) (expr_climbs dl) (expr_climbs dr)
  expr_climbs (a_tighter tighter level d) = expr_climbs d

  list_climbs : {tokens : List Token} {es : Exprs} (d : SpellsList tokens es) → Climbs 0 (list_nests d)
  list_climbs (the_last e tree d) = expr_climbs d
  list_climbs (one_before first rest comma e others is_comma all tree d ds) = between (expr_nests d) (list_nests ds) (expr_climbs d) (list_climbs ds)

  target_climbs : {tokens : List Token} {target : Target} (d : SpellsTarget tokens target) → Climbs 0 (target_nests d)
  target_climbs (all_cells t name is_name all tree) = outside [] tt
  target_climbs (one_cell t opening closing name inner i is_name is_open is_close all tree d) = outside (enclosed (expr_nests d)) (closed (expr_nests d) (expr_climbs d))
  target_climbs (some_cells t opening colon closing name low high c d is_name is_open is_colon is_close all tree dl dh) =
      outside (enclosed (expr_nests dl ++ 0 ∷ expr_nests dh)) (closed (expr_nests dl ++ 0 ∷ expr_nests dh) (between (expr_nests dl) (expr_nests dh) (expr_climbs dl) (expr_climbs dh)))

step_climbs : {tokens : List Token} {step : Option Expr} (d : SpellsStep tokens step) → Climbs 0 (step_nests d)
step_climbs (no_step all tree) = tt
step_climbs (a_step word inner e is_word all tree d) = outside (expr_nests d) (expr_climbs d)

argument_climbs : {project : Project} {name : Name} {tokens : List Token} {argument : Option Expr} (d : SpellsArgument project name tokens argument) → Climbs 0 (argument_nests d)
argument_climbs (no_argument takes all tree) = tt
argument_climbs (an_argument e takes tree d) = expr_climbs d

arguments_climb : {tokens : List Token} {es : Exprs} (d : SpellsArguments tokens es) → Climbs 0 (arguments_nests d)
arguments_climb (no_arguments all tree) = tt
arguments_climb (some_arguments d) = list_climbs d

-- a target with its sign, an expression and the rest
set_climbs : (nt ns ms : List ℕ) → Climbs 0 nt → Climbs 0 ns → Climbs 0 ms → Climbs 0 (nt ++ 0 ∷ (ns ++ ms))
set_climbs nt ns ms c d e = between nt (ns ++ ms) c (both ns ms d e)

-- two tokens in front
behind_two : (ns ms : List ℕ) → Climbs 0 ns → Climbs 0 ms → Climbs 0 (0 ∷ 0 ∷ (ns ++ ms))
behind_two ns ms c d = outside (0 ∷ (ns ++ ms)) (outside (ns ++ ms) (both ns ms c d))

head_climbs : (na nb ns nm : List ℕ) → Climbs 0 na → Climbs 0 nb → Climbs 0 ns → Climbs 0 nm → Climbs 0 (0 ∷ 0 ∷ (na ++ 0 ∷ (nb ++ (ns ++ 0 ∷ nm))))
head_climbs na nb ns nm a b s m =
    let rest = between na (nb ++ (ns ++ 0 ∷ nm)) a (both nb (ns ++ 0 ∷ nm) b (between ns nm s m)) in
    outside (0 ∷ (na ++ 0 ∷ (nb ++ (ns ++ 0 ∷ nm)))) (outside (na ++ 0 ∷ (nb ++ (ns ++ 0 ∷ nm))) rest)

mutual
  stmts_climb : {project : Project} {tokens : List Token} {ss : Stmts} (d : SpellsStmts project tokens ss) → Climbs 0 (stmts_nests d)
  stmts_climb (nothing all tree) = tt
  stmts_climb (an_assignment left right rest sign target e others is_sign all tree dt de ds) = set_climbs (target_nests dt) (expr_nests de) (stmts_nests ds) (target_climbs dt) (expr_climbs de) (stmts_climb ds)
  stmts_climb (a_change left right rest sign op target e others is_sign all tree dt de ds) = set_climbs (target_nests dt) (expr_nests de) (stmts_nests ds) (target_climbs dt) (expr_climbs de) (stmts_climb ds)
  stmts_climb (a_bump left rest sign op target others is_sign all tree dt ds) = between (target_nests dt) (stmts_nests ds) (target_climbs dt) (stmts_climb ds)
  stmts_climb (an_if word then last test inner behind rest c body other others is_word is_then is_last all tree dc db dother ds) =
      both (enclosed (expr_nests dc ++ 0 ∷ (stmts_nests db ++ other_nests dother))) (stmts_nests ds)
      (closed (expr_nests dc ++ 0 ∷ (stmts_nests db ++ other_nests dother)) (set_climbs (expr_nests dc) (stmts_nests db) (other_nests dother) (expr_climbs dc) (stmts_climb db) (other_climbs dother))) (stmts_climb ds)
  stmts_climb (a_when word do_word last test inner rest c body others is_word is_do is_last all tree dc db ds) =
      both (enclosed (expr_nests dc ++ 0 ∷ stmts_nests db)) (stmts_nests ds) (closed (expr_nests dc ++ 0 ∷ stmts_nests db) (between (expr_nests dc) (stmts_nests db) (expr_climbs dc) (stmts_climb db))) (stmts_climb ds)
  stmts_climb (a_while word do_word last test inner rest c body others is_word is_do is_last all tree dc db ds) =
      both (enclosed (expr_nests dc ++ 0 ∷ stmts_nests db)) (stmts_nests ds) (closed (expr_nests dc ++ 0 ∷ stmts_nests db) (between (expr_nests dc) (stmts_nests db) (expr_climbs dc) (stmts_climb db))) (stmts_climb ds)
  stmts_climb (a_for word variable in_word colon do_word last low high by inner rest name a b step body others is_word is_name is_in is_colon is_do is_last all tree da db dstep dbody ds) =
      both (enclosed (0 ∷ 0 ∷ (expr_nests da ++ 0 ∷ (expr_nests db ++ (step_nests dstep ++ 0 ∷ stmts_nests dbody))))) (stmts_nests ds)
      (closed (0 ∷ 0 ∷ (expr_nests da ++ 0 ∷ (expr_nests db ++ (step_nests dstep ++ 0 ∷ stmts_nests dbody))))
      (head_climbs (expr_nests da) (expr_nests db) (step_nests dstep) (stmts_nests dbody) (expr_climbs da) (expr_climbs db) (step_climbs dstep) (stmts_climb dbody)))
      (stmts_climb ds)
  stmts_climb (an_emit word event given rest name argument others is_word is_name all tree da ds) = behind_two (argument_nests da) (stmts_nests ds) (argument_climbs da) (stmts_climb ds)
  stmts_climb (a_callsub word called rest name others is_word is_name all tree ds) = behind_two [] (stmts_nests ds) tt (stmts_climb ds)
  stmts_climb (a_call word called opening closing given rest name es others is_word is_name is_open is_close all tree da ds) =
      behind_two (enclosed (arguments_nests da)) (stmts_nests ds) (closed (arguments_nests da) (arguments_climb da)) (stmts_climb ds)
  stmts_climb (a_return word rest others is_word all tree ds) = outside (stmts_nests ds) (stmts_climb ds)

  other_climbs : {project : Project} {tokens : List Token} {other : Stmts} (d : SpellsOther project tokens other) → Climbs 0 (other_nests d)
  other_climbs (no_other all tree) = tt
  other_climbs (an_else word inner is_word all d) = outside (stmts_nests d) (stmts_climb d)
  other_climbs (an_elseif word then test inner behind c body more is_word is_then all tree dc db dmore) =
      nested (expr_nests dc ++ 0 ∷ (stmts_nests db ++ other_nests dmore)) (set_climbs (expr_nests dc) (stmts_nests db) (other_nests dmore) (expr_climbs dc) (stmts_climb db) (other_climbs dmore))

size_climbs : {tokens : List Token} {size : Option Expr} (d : SpellsSize tokens size) → Climbs 0 (size_nests d)
size_climbs (no_size all tree) = tt
size_climbs (a_size opening closing inner e is_open is_close all tree d) = closed (expr_nests d) (expr_climbs d)

value_climbs : {named : Place} {tokens : List Token} {equals : Place} {value : Option Expr} (d : SpellsValue named tokens equals value) → Climbs 0 (value_nests d)
value_climbs (no_value all equals tree) = tt
value_climbs (a_value sign inner e is_sign all equals tree d) = outside (expr_nests d) (expr_climbs d)

decls_climb : {tokens : List Token} {ds : List Decl} (d : SpellsDecls tokens ds) → Climbs 0 (decls_nests d)
decls_climb (no_decls all tree) = tt
decls_climb (a_decl word variable sized given rest name size value equals others is_word is_name all tree dsize dvalue ds) =
    behind_two (size_nests dsize) (value_nests dvalue ++ decls_nests ds) (size_climbs dsize) (both (value_nests dvalue) (decls_nests ds) (value_climbs dvalue) (decls_climb ds))

parts_climb : {project : Project} {tokens : List Token} {hs : List Handler} (d : SpellsParts project tokens hs) → Climbs 0 (parts_nests d)
parts_climb (no_parts all tree) = tt
parts_climb (a_handler word event inner rest name body others is_word is_name all tree db ds) = behind_two (stmts_nests db) (parts_nests ds) (stmts_climb db) (parts_climb ds)
parts_climb (a_sub word named inner rest name body others is_word is_name all tree db ds) = behind_two (stmts_nests db) (parts_nests ds) (stmts_climb db) (parts_climb ds)

pub nests_climb : NestsClimb
nests_climb project source tokens d =
    both (decls_nests d.decls) (stmts_nests d.init ++ parts_nests d.parts) (decls_climb d.decls) (both (stmts_nests d.init) (parts_nests d.parts) (stmts_climb d.init) (parts_climb d.parts))
