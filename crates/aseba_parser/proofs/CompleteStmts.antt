-- Statements are read as they are spelled.
use Rattle.std.proofs.Common.{◌≡◌, ◌∙◌, ℕ, zero, suc, ◌≤◌, true, List, [], ◌∷◌, ◌++◌, length, Option, refl, sym, ap, subst, arith, append_assoc, length-append}
use Rattle.aseba_tree.specs.declared.token.Token.{Token}
use Rattle.aseba_tree.specs.Code.{Name, Expr, Exprs, Stmt, Stmts, no_stmts, stmts, Project}
use Rattle.aseba_tree.specs.View.{stmts_of}
use Rattle.aseba_tree.specs.Spells.{SpellsStep, no_step, a_step, SpellsArgument, no_argument, an_argument, SpellsArguments, no_arguments, some_arguments, SpellsStmts, nothing, an_assignment, a_change, a_bump, an_if, a_when, a_while, a_for, an_emit, a_callsub, a_call, a_return, SpellsOther, no_other, an_else, an_elseif}
use Rattle.aseba_tree.specs.Nest.{inside, enclosed, expr_nests, list_nests, target_nests, step_nests, argument_nests, arguments_nests, stmts_nests, other_nests}
use Rattle.aseba_parser.specs.Reading.{Read, taken, next, many, begins_stmt, stmt_read, block_of}
use Rattle.aseba_parser.proofs.Outcome.{reply, Fits, fits_both, reply_map}
use Rattle.aseba_parser.proofs.OutcomeSteps.{many_end, many_more}
use Rattle.aseba_parser.proofs.CompleteExprs.{each_expr, each_list, each_target}
use Rattle.aseba_parser.proofs.CompleteBehind.{Begun, fresh, closes, fresh_stmt, fresh_closing, begun_both, closing_stops}
use Rattle.aseba_parser.proofs.CompleteRows.{IsStmtRead, AreStmtsRead, IsOtherRead, assignment_is_read, change_is_read, bump_is_read, looped_tokens, when_is_read, while_is_read}
use Rattle.aseba_parser.proofs.CompleteMoreRows.{if_tokens, if_is_read, no_other_read, else_is_read, elseif_is_read, return_is_read, callsub_is_read, IsArgumentRead, no_argument_read, an_argument_read, emit_is_read, AreArgumentsRead, no_arguments_read, some_arguments_read, call_is_read}
use Rattle.aseba_parser.proofs.CompleteFor.{IsStepRead, no_step_read, a_step_read, for_tokens, for_is_read}

abbrev stmts_listed : Stmts → List Stmt
stmts_listed no_stmts = []
stmts_listed (stmts s ss) = s ∷ stmts_listed ss

stmts_back : (ss : Stmts) → stmts_of (stmts_listed ss) ≡ ss
stmts_back no_stmts = refl
stmts_back (stmts s ss) = ap (λ (os : Stmts). stmts s os) (stmts_back ss)

-- The tokens are read as those statements one by one, if no fewer are allowed than there are tokens.
pub record AreAllRead (project : Project) (used : List Token) (ss : Stmts) (ns : List ℕ) : Type 0 where
  fits : Fits ns used
  begins : Begun begins_stmt used
  loops : (depth fuel : ℕ) (rest : List Token) → length used ≤ fuel → Begun closes rest → many begins_stmt (stmt_read project depth (block_of project depth)) fuel (used ++ rest) ≡ reply depth ns (used ++ rest) (stmts_listed ss)

pub are_read : (project : Project) (used : List Token) (ss : Stmts) (ns : List ℕ) → AreAllRead project used ss ns → AreStmtsRead project used ss ns
are_read project used ss ns d = record {
  fits = d.fits;
  begins = d.begins;
  reads = λ depth rest closed.
      let longer = length-append used rest in
      ap (λ (r : Read (List Stmt)). next r (λ ss behind. taken (stmts_of ss) behind)) (d.loops depth (length (used ++ rest)) rest (omega (arith, longer)) closed)
      ∙ reply_map depth ns (used ++ rest) (stmts_listed ss) ss (λ ss behind. taken (stmts_of ss) behind) (λ rest. ap (λ (os : Stmts). taken os rest) (stmts_back ss));
}

no_stmts_read : (project : Project) → AreAllRead project [] no_stmts []
no_stmts_read project = record { fits = tt; begins = tt; loops = λ depth fuel rest enough closed. many_end begins_stmt (stmt_read project depth (block_of project depth)) fuel rest (closing_stops rest closed) }

-- one statement in front of the rest
first_loops : (project : Project) (first : Token) (mine rest : List Token) (s : Stmt) (others : Stmts) (ns ms : List ℕ) → begins_stmt first.kind ≡ true → Fits ns (first ∷ mine)
    → ((depth : ℕ) (behind : List Token) → Begun fresh behind → stmt_read project depth (block_of project depth) (first ∷ (mine ++ behind)) ≡ reply depth ns (first ∷ (mine ++ behind)) s)
    → AreAllRead project rest others ms → (depth fuel : ℕ) (behind : List Token) → length (first ∷ (mine ++ rest)) ≤ fuel → Begun closes behind
    → many begins_stmt (stmt_read project depth (block_of project depth)) fuel (first ∷ (mine ++ (rest ++ behind))) ≡ reply depth (ns ++ ms) (first ∷ (mine ++ (rest ++ behind))) (s ∷ stmts_listed others)
first_loops project first mine rest s others ns ms begins fits reads ds depth zero behind enough closed = absurd (omega arith)
first_loops project first mine rest s others ns ms begins fits reads ds depth (suc fuel) behind enough closed =
    let longer = length-append mine rest in
    many_more begins_stmt (stmt_read project depth (block_of project depth)) depth fuel ns ms first mine (rest ++ behind) s (stmts_listed others) begins fits
    (reads depth (rest ++ behind) (begun_both begins_stmt fresh rest behind ds.begins fresh_stmt (fresh_closing behind closed)))
    (ds.loops depth fuel behind (omega (arith, longer, enough)) closed)

one_more_at : (project : Project) (first : Token) (mine rest : List Token) (s : Stmt) (others : Stmts) (ns ms : List ℕ) → begins_stmt first.kind ≡ true → Fits ns (first ∷ mine)
    → ((depth : ℕ) (behind : List Token) → Begun fresh behind → stmt_read project depth (block_of project depth) (first ∷ (mine ++ behind)) ≡ reply depth ns (first ∷ (mine ++ behind)) s)
    → AreAllRead project rest others ms → AreAllRead project (first ∷ (mine ++ rest)) (stmts s others) (ns ++ ms)
one_more_at project first mine rest s others ns ms begins fits reads ds = record {
  fits = fits_both ns ms (first ∷ mine) rest fits ds.fits;
  begins = begins;
  loops = λ depth fuel behind enough closed.
      subst (λ (ts : List Token). many begins_stmt (stmt_read project depth (block_of project depth)) fuel (first ∷ ts) ≡ reply depth (ns ++ ms) (first ∷ ts) (s ∷ stmts_listed others)) (sym (append_assoc mine rest behind))
      (first_loops project first mine rest s others ns ms begins fits reads ds depth fuel behind enough closed);
}

one_more : (project : Project) (used rest : List Token) (s : Stmt) (others : Stmts) (ns ms : List ℕ) → IsStmtRead project used s ns → AreAllRead project rest others ms → AreAllRead project (used ++ rest) (stmts s others) (ns ++ ms)
one_more project used rest s others ns ms d ds =
    subst (λ (ts : List Token). AreAllRead project (ts ++ rest) (stmts s others) (ns ++ ms)) (sym d.whole)
    (one_more_at project d.first d.others rest s others ns ms d.begins (subst (λ (ts : List Token). Fits ns ts) d.whole d.fits)
    (λ depth behind begun. subst (λ (ts : List Token). stmt_read project depth (block_of project depth) (ts ++ behind) ≡ reply depth ns (ts ++ behind) s) d.whole (d.reads depth behind begun)) ds)

all_equal : (project : Project) (used tokens : List Token) (ss tree : Stmts) (ns ms : List ℕ) → tokens ≡ used → tree ≡ ss → ms ≡ ns → AreAllRead project used ss ns → AreAllRead project tokens tree ms
all_equal project used tokens ss tree ns ms p q r h =
    subst (λ (ts : List Token). AreAllRead project ts tree ms) (sym p) (subst (λ (x : Stmts). AreAllRead project used x ms) (sym q) (subst (λ (l : List ℕ). AreAllRead project used ss l) (sym r) h))

other_equal : (project : Project) (used tokens : List Token) (other tree : Stmts) (ns : List ℕ) → tokens ≡ used → tree ≡ other → IsOtherRead project used other ns → IsOtherRead project tokens tree ns
other_equal project used tokens other tree ns p q h = subst (λ (ts : List Token). IsOtherRead project ts tree ns) (sym p) (subst (λ (x : Stmts). IsOtherRead project used x ns) (sym q) h)

each_step : {tokens : List Token} {step : Option Expr} (d : SpellsStep tokens step) → IsStepRead tokens step (step_nests d)
each_step {step = wanted} (no_step all tree) = subst (λ (ts : List Token). IsStepRead ts wanted []) (sym all) (subst (λ (s : Option Expr). IsStepRead [] s []) (sym tree) no_step_read)
each_step {step = wanted} (a_step word inner e is_word all tree d) =
    subst (λ (ts : List Token). IsStepRead ts wanted (0 ∷ expr_nests d)) (sym all) (subst (λ (s : Option Expr). IsStepRead (word ∷ inner) s (0 ∷ expr_nests d)) (sym tree) (a_step_read word inner e (expr_nests d) is_word (each_expr d)))

each_argument : {project : Project} {name : Name} {tokens : List Token} {argument : Option Expr} (d : SpellsArgument project name tokens argument) → IsArgumentRead project name tokens argument (argument_nests d)
each_argument {project} {name} {argument = wanted} (no_argument takes all tree) =
    subst (λ (ts : List Token). IsArgumentRead project name ts wanted []) (sym all) (subst (λ (a : Option Expr). IsArgumentRead project name [] a []) (sym tree) (no_argument_read project name takes))
each_argument {project} {name} {tokens = used} (an_argument e takes tree d) = subst (λ (a : Option Expr). IsArgumentRead project name used a (expr_nests d)) (sym tree) (an_argument_read project name used e (expr_nests d) takes (each_expr d))

each_arguments : {tokens : List Token} {es : Exprs} (d : SpellsArguments tokens es) → AreArgumentsRead tokens es (arguments_nests d)
each_arguments {es = wanted} (no_arguments all tree) = subst (λ (ts : List Token). AreArgumentsRead ts wanted []) (sym all) (subst (λ (es : Exprs). AreArgumentsRead [] es []) (sym tree) no_arguments_read)
each_arguments (some_arguments d) = some_arguments_read _ _ (list_nests d) (each_list d)

-- tokens and nests of a statement and of the rest
set_tokens : (left right rest : List Token) (sign : Token) → left ++ sign ∷ (right ++ rest) ≡ (left ++ sign ∷ right) ++ rest
set_tokens left right rest sign = sym (append_assoc left (sign ∷ right) rest)

set_nests : (nt ns ms : List ℕ) → nt ++ 0 ∷ (ns ++ ms) ≡ (nt ++ 0 ∷ ns) ++ ms
set_nests nt ns ms = sym (append_assoc nt (0 ∷ ns) ms)

call_tokens : (word called opening closing : Token) (given rest : List Token) → word ∷ called ∷ opening ∷ (given ++ closing ∷ rest) ≡ (word ∷ called ∷ opening ∷ (given ++ closing ∷ [])) ++ rest
call_tokens word called opening closing given rest = simp append_assoc

mutual
  pub each_stmts : {project : Project} {tokens : List Token} {ss : Stmts} (d : SpellsStmts project tokens ss) → AreAllRead project tokens ss (stmts_nests d)
  each_stmts {project} (nothing all tree) = all_equal project [] _ no_stmts _ [] [] all tree refl (no_stmts_read project)
  each_stmts {project} (an_assignment left right rest sign target e others is_sign all tree dt de ds) =
      all_equal project ((left ++ sign ∷ right) ++ rest) _ _ _ ((target_nests dt ++ 0 ∷ expr_nests de) ++ stmts_nests ds) _ (all ∙ set_tokens left right rest sign) tree (set_nests (target_nests dt) (expr_nests de) (stmts_nests ds))
      (one_more project (left ++ sign ∷ right) rest _ others (target_nests dt ++ 0 ∷ expr_nests de) (stmts_nests ds)
      (assignment_is_read project left right sign target e (target_nests dt) (expr_nests de) is_sign (each_target dt) (each_expr de)) (each_stmts ds))
  each_stmts {project} (a_change left right rest sign op target e others is_sign all tree dt de ds) =
      all_equal project ((left ++ sign ∷ right) ++ rest) _ _ _ ((target_nests dt ++ 0 ∷ expr_nests de) ++ stmts_nests ds) _ (all ∙ set_tokens left right rest sign) tree (set_nests (target_nests dt) (expr_nests de) (stmts_nests ds))
      (one_more project (left ++ sign ∷ right) rest _ others (target_nests dt ++ 0 ∷ expr_nests de) (stmts_nests ds)
      (change_is_read project left right sign op target e (target_nests dt) (expr_nests de) is_sign (each_target dt) (each_expr de)) (each_stmts ds))
  each_stmts {project} (a_bump left rest sign op target others is_sign all tree dt ds) =
      all_equal project ((left ++ sign ∷ []) ++ rest) _ _ _ ((target_nests dt ++ 0 ∷ []) ++ stmts_nests ds) _ (all ∙ set_tokens left [] rest sign) tree (set_nests (target_nests dt) [] (stmts_nests ds))
      (one_more project (left ++ sign ∷ []) rest _ others (target_nests dt ++ 0 ∷ []) (stmts_nests ds) (bump_is_read project left sign op target (target_nests dt) is_sign (each_target dt)) (each_stmts ds))
  each_stmts {project} (an_if word then last test inner behind rest c body other others is_word is_then is_last all tree dc db dother ds) =
      all_equal project ((word ∷ (test ++ then ∷ (inner ++ (behind ++ last ∷ [])))) ++ rest) _ _ _ (enclosed (expr_nests dc ++ 0 ∷ (stmts_nests db ++ other_nests dother)) ++ stmts_nests ds) _ (all ∙ if_tokens word then last test inner behind rest) tree refl
      (one_more project (word ∷ (test ++ then ∷ (inner ++ (behind ++ last ∷ [])))) rest _ others (enclosed (expr_nests dc ++ 0 ∷ (stmts_nests db ++ other_nests dother))) (stmts_nests ds)
      (if_is_read project word then last test inner behind c body other (expr_nests dc) (stmts_nests db) (other_nests dother) is_word is_then is_last (each_expr dc) (are_read project inner body (stmts_nests db) (each_stmts db)) (each_other dother))
      (each_stmts ds))
  each_stmts {project} (a_when word do_word last test inner rest c body others is_word is_do is_last all tree dc db ds) =
      all_equal project ((word ∷ (test ++ do_word ∷ (inner ++ last ∷ []))) ++ rest) _ _ _ (enclosed (expr_nests dc ++ 0 ∷ stmts_nests db) ++ stmts_nests ds) _ (all ∙ looped_tokens word do_word last test inner rest) tree refl
      (one_more project (word ∷ (test ++ do_word ∷ (inner ++ last ∷ []))) rest _ others (enclosed (expr_nests dc ++ 0 ∷ stmts_nests db)) (stmts_nests ds)
      (when_is_read project word do_word last test inner c body (expr_nests dc) (stmts_nests db) is_word is_do is_last (each_expr dc) (are_read project inner body (stmts_nests db) (each_stmts db))) (each_stmts ds))
  each_stmts {project} (a_while word do_word last test inner rest c body others is_word is_do is_last all tree dc db ds) =
      all_equal project ((word ∷ (test ++ do_word ∷ (inner ++ last ∷ []))) ++ rest) _ _ _ (enclosed (expr_nests dc ++ 0 ∷ stmts_nests db) ++ stmts_nests ds) _ (all ∙ looped_tokens word do_word last test inner rest) tree refl
      (one_more project (word ∷ (test ++ do_word ∷ (inner ++ last ∷ []))) rest _ others (enclosed (expr_nests dc ++ 0 ∷ stmts_nests db)) (stmts_nests ds)
      (while_is_read project word do_word last test inner c body (expr_nests dc) (stmts_nests db) is_word is_do is_last (each_expr dc) (are_read project inner body (stmts_nests db) (each_stmts db))) (each_stmts ds))
  each_stmts {project} (a_for word variable in_word colon do_word last low high by inner rest name a b step body others is_word is_name is_in is_colon is_do is_last all tree da db dstep dbody ds) =
      all_equal project ((word ∷ variable ∷ in_word ∷ (low ++ colon ∷ (high ++ (by ++ do_word ∷ (inner ++ last ∷ []))))) ++ rest) _ _ _
      (enclosed (0 ∷ 0 ∷ (expr_nests da ++ 0 ∷ (expr_nests db ++ (step_nests dstep ++ 0 ∷ stmts_nests dbody)))) ++ stmts_nests ds) _ (all ∙ for_tokens word variable in_word colon do_word last low high by inner rest) tree refl
      (one_more project (word ∷ variable ∷ in_word ∷ (low ++ colon ∷ (high ++ (by ++ do_word ∷ (inner ++ last ∷ []))))) rest _ others
      (enclosed (0 ∷ 0 ∷ (expr_nests da ++ 0 ∷ (expr_nests db ++ (step_nests dstep ++ 0 ∷ stmts_nests dbody))))) (stmts_nests ds)
      (for_is_read project word variable in_word colon do_word last low high by inner name a b step body (expr_nests da) (expr_nests db) (step_nests dstep) (stmts_nests dbody) is_word is_name is_in is_colon is_do is_last
      (each_expr da) (each_expr db) (each_step dstep) (are_read project inner body (stmts_nests dbody) (each_stmts dbody)))
      (each_stmts ds))
  each_stmts {project} (an_emit word event given rest name argument others is_word is_name all tree da ds) =
      all_equal project ((word ∷ event ∷ given) ++ rest) _ _ _ ((0 ∷ 0 ∷ argument_nests da) ++ stmts_nests ds) _ all tree refl
      (one_more project (word ∷ event ∷ given) rest _ others (0 ∷ 0 ∷ argument_nests da) (stmts_nests ds) (emit_is_read project word event given name argument (argument_nests da) is_word is_name (each_argument da)) (each_stmts ds))
  each_stmts {project} (a_callsub word called rest name others is_word is_name all tree ds) =
      all_equal project ((word ∷ called ∷ []) ++ rest) _ _ _ ((0 ∷ 0 ∷ []) ++ stmts_nests ds) _ all tree refl
      (one_more project (word ∷ called ∷ []) rest _ others (0 ∷ 0 ∷ []) (stmts_nests ds) (callsub_is_read project word called name is_word is_name) (each_stmts ds))
  each_stmts {project} (a_call word called opening closing given rest name es others is_word is_name is_open is_close all tree da ds) =
      all_equal project ((word ∷ called ∷ opening ∷ (given ++ closing ∷ [])) ++ rest) _ _ _ ((0 ∷ 0 ∷ enclosed (arguments_nests da)) ++ stmts_nests ds) _ (all ∙ call_tokens word called opening closing given rest) tree refl
      (one_more project (word ∷ called ∷ opening ∷ (given ++ closing ∷ [])) rest _ others (0 ∷ 0 ∷ enclosed (arguments_nests da)) (stmts_nests ds)
      (call_is_read project word called opening closing given name es (arguments_nests da) is_word is_name is_open is_close (each_arguments da)) (each_stmts ds))
  each_stmts {project} (a_return word rest others is_word all tree ds) =
      all_equal project ((word ∷ []) ++ rest) _ _ _ ((0 ∷ []) ++ stmts_nests ds) _ all tree refl
      (one_more project (word ∷ []) rest _ others (0 ∷ []) (stmts_nests ds) (return_is_read project word is_word) (each_stmts ds))

  each_other : {project : Project} {tokens : List Token} {other : Stmts} (d : SpellsOther project tokens other) → IsOtherRead project tokens other (other_nests d)
  each_other {project} (no_other all tree) = other_equal project [] _ no_stmts _ [] all tree (no_other_read project)
  each_other {project} (an_else word inner is_word all d) =
      other_equal project (word ∷ inner) _ _ _ (0 ∷ stmts_nests d) all refl (else_is_read project word inner _ (stmts_nests d) is_word (are_read project inner _ (stmts_nests d) (each_stmts d)))
  each_other {project} (an_elseif word then test inner behind c body more is_word is_then all tree dc db dmore) =
      other_equal project (word ∷ (test ++ then ∷ (inner ++ behind))) _ _ _ (inside (0 ∷ (expr_nests dc ++ 0 ∷ (stmts_nests db ++ other_nests dmore)))) all tree
      (elseif_is_read project word then test inner behind c body more (expr_nests dc) (stmts_nests db) (other_nests dmore) is_word is_then (each_expr dc) (are_read project inner body (stmts_nests db) (each_stmts db)) (each_other dmore))
