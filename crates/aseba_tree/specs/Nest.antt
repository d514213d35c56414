-- How deep the tokens of a program are nested, and where its tokens leave the grammar or nest too deep.
use Rattle.std.specs.Prelude.{◌≡◌, ℕ, suc, ◌-◌, ◌≤◌, ◌⊎◌, List, [], ◌∷◌, ◌++◌, map, length, take, slice_get, Option, Some}
use Rattle.aseba_tree.specs.declared.pos.Pos.{Pos}
use Rattle.aseba_tree.specs.declared.token.Token.{Token}
use Rattle.aseba_tree.specs.Code.{Name, Place, Expr, Exprs, Target, Stmts, Decl, Handler, Source, Project}
use Rattle.aseba_tree.specs.Limits.{deepest}
use Rattle.aseba_tree.specs.Spells.{SpellsExpr, a_number, a_target, a_list, in_parentheses, a_prefix, an_operation, a_tighter, SpellsList, the_last, one_before, SpellsTarget, all_cells, one_cell, some_cells, SpellsStep, no_step, a_step, SpellsArgument, no_argument, an_argument, SpellsArguments, no_arguments, some_arguments, SpellsStmts, nothing, an_assignment, a_change, a_bump, an_if, a_when, a_while, a_for, an_emit, a_callsub, a_call, a_return, SpellsOther, no_other, an_else, an_elseif, SpellsSize, no_size, a_size, SpellsValue, no_value, a_value, SpellsDecls, no_decls, a_decl, SpellsParts, no_parts, a_handler, a_sub, Spells, Begins}

-- one level deeper
abbrev pub inside : List ℕ → List ℕ
inside nests = map suc nests

-- what an opening and a closing token stand round
abbrev pub enclosed : List ℕ → List ℕ
enclosed nests = inside (0 ∷ (nests ++ 0 ∷ []))

-- For each token of an expression, how many `(`, `[` and prefix operators are open there. A prefix operator is open over its operand.
abbrev mutual
  pub expr_nests : {level : ℕ} {tokens : List Token} {e : Expr} → SpellsExpr level tokens e → List ℕ
  expr_nests (a_number _ _ _ _ _ _) = 0 ∷ []
  expr_nests (a_target _ _ _ d) = target_nests d
  expr_nests (a_list _ _ _ _ _ _ _ _ _ d) = enclosed (list_nests d)
  expr_nests (in_parentheses _ _ _ _ _ _ _ _ _ d) = enclosed (expr_nests d)
  expr_nests (a_prefix _ _ _ _ _ _ _ _ d) = inside (0 ∷ expr_nests d)
  expr_nests (an_operation _ _ _ _ _ _ _ _ _ _ _ _ dl dr) = expr_nests dl ++ 0 ∷ expr_nests dr
  expr_nests (a_tighter _ _ d) = expr_nests d

  pub list_nests : {tokens : List Token} {es : Exprs} → SpellsList tokens es → List ℕ
  list_nests (the_last _ _ d) = expr_nests d
  list_nests (one_before _ _ _ _ _ _ _ _ d ds) = expr_nests d ++ 0 ∷ list_nests ds

  pub target_nests : {tokens : List Token} {target : Target} → SpellsTarget tokens target → List ℕ
  target_nests (all_cells _ _ _ _ _) = 0 ∷ []
  target_nests (one_cell _ _ _ _ _ _ _ _ _ _ _ d) = 0 ∷ enclosed (expr_nests d)
  target_nests (some_cells _ _ _ _ _ _ _ _ _ _ _ _ _ _ _ dl dh) = 0 ∷ enclosed (expr_nests dl ++ 0 ∷ expr_nests dh)

abbrev pub step_nests : {tokens : List Token} {step : Option Expr} → SpellsStep tokens step → List ℕ
step_nests (no_step _ _) = []
step_nests (a_step _ _ _ _ _ _ d) = 0 ∷ expr_nests d

abbrev pub argument_nests : {project : Project} {name : Name} {tokens : List Token} {argument : Option Expr} → SpellsArgument project name tokens argument → List ℕ
argument_nests (no_argument _ _ _) = []
argument_nests (an_argument _ _ _ d) = expr_nests d

abbrev pub arguments_nests : {tokens : List Token} {es : Exprs} → SpellsArguments tokens es → List ℕ
arguments_nests (no_arguments _ _) = []
arguments_nests (some_arguments d) = list_nests d

-- The same for statements, where `if`, `when`, `while` and `for` are open up to their `end`, and each `elseif` up to the `end` of its `if`.
abbrev mutual
  pub stmts_nests : {project : Project} {tokens : List Token} {ss : Stmts} → SpellsStmts project tokens ss → List ℕ
  stmts_nests (nothing _ _) = []
  stmts_nests (an_assignment _ _ _ _ _ _ _ _ _ _ dt de ds) = target_nests dt ++ 0 ∷ (expr_nests de ++ stmts_nests ds)
  stmts_nests (a_change _ _ _ _ _ _ _ _ _ _ _ dt de ds) = target_nests dt ++ 0 ∷ (expr_nests de ++ stmts_nests ds)
  stmts_nests (a_bump _ _ _ _ _ _ _ _ _ dt ds) = target_nests dt ++ 0 ∷ stmts_nests ds
  stmts_nests (an_if _ _ _ _ _ _ _ _ _ _ _ _ _ _ _ _ dc db dother ds) =
      enclosed (expr_nests dc ++ 0 ∷ (stmts_nests db ++ other_nests dother)) ++ stmts_nests ds
  stmts_nests (a_when _ _ _ _ _ _ _ _ _ _ _ _ _ _ dc db ds) = enclosed (expr_nests dc ++ 0 ∷ stmts_nests db) ++ stmts_nests ds
  stmts_nests (a_while _ _ _ _ _ _ _ _ _ _ _ _ _ _ dc db ds) = enclosed (expr_nests dc ++ 0 ∷ stmts_nests db) ++ stmts_nests ds
  stmts_nests (a_for _ _ _ _ _ _ _ _ _ _ _ _ _ _ _ _ _ _ _ _ _ _ _ _ _ da db dstep dbody ds) =
      enclosed (0 ∷ 0 ∷ (expr_nests da ++ 0 ∷ (expr_nests db ++ (step_nests dstep ++ 0 ∷ stmts_nests dbody)))) ++ stmts_nests ds
  stmts_nests (an_emit _ _ _ _ _ _ _ _ _ _ _ da ds) = 0 ∷ 0 ∷ (argument_nests da ++ stmts_nests ds)
  stmts_nests (a_callsub _ _ _ _ _ _ _ _ _ ds) = 0 ∷ 0 ∷ stmts_nests ds
  stmts_nests (a_call _ _ _ _ _ _ _ _ _ _ _ _ _ _ _ da ds) = 0 ∷ 0 ∷ (enclosed (arguments_nests da) ++ stmts_nests ds)
  stmts_nests (a_return _ _ _ _ _ _ ds) = 0 ∷ stmts_nests ds

  pub other_nests : {project : Project} {tokens : List Token} {other : Stmts} → SpellsOther project tokens other → List ℕ
  other_nests (no_other _ _) = []
  other_nests (an_else _ _ _ _ d) = 0 ∷ stmts_nests d
  other_nests (an_elseif _ _ _ _ _ _ _ _ _ _ _ _ dc db dmore) = inside (0 ∷ (expr_nests dc ++ 0 ∷ (stmts_nests db ++ other_nests dmore)))

abbrev pub size_nests : {tokens : List Token} {size : Option Expr} → SpellsSize tokens size → List ℕ
size_nests (no_size _ _) = []
size_nests (a_size _ _ _ _ _ _ _ _ d) = enclosed (expr_nests d)

abbrev pub value_nests : {named : Place} {tokens : List Token} {equals : Place} {value : Option Expr} → SpellsValue named tokens equals value → List ℕ
value_nests (no_value _ _ _) = []
value_nests (a_value _ _ _ _ _ _ _ d) = 0 ∷ expr_nests d

abbrev pub decls_nests : {tokens : List Token} {ds : List Decl} → SpellsDecls tokens ds → List ℕ
decls_nests (no_decls _ _) = []
decls_nests (a_decl _ _ _ _ _ _ _ _ _ _ _ _ _ _ dsize dvalue ds) = 0 ∷ 0 ∷ (size_nests dsize ++ (value_nests dvalue ++ decls_nests ds))

abbrev pub parts_nests : {project : Project} {tokens : List Token} {hs : List Handler} → SpellsParts project tokens hs → List ℕ
parts_nests (no_parts _ _) = []
parts_nests (a_handler _ _ _ _ _ _ _ _ _ _ _ db ds) = 0 ∷ 0 ∷ (stmts_nests db ++ parts_nests ds)
parts_nests (a_sub _ _ _ _ _ _ _ _ _ _ _ db ds) = 0 ∷ 0 ∷ (stmts_nests db ++ parts_nests ds)

-- the nest of each token of a program
abbrev pub nests : {project : Project} {source : Source} {tokens : List Token} → Spells project source tokens → List ℕ
nests d = decls_nests d.decls ++ (stmts_nests d.init ++ parts_nests d.parts)

-- Each token of a program has a nest.
abbrev pub EachTokenHasNest : Type 0
EachTokenHasNest = (project : Project) (source : Source) (tokens : List Token) (d : Spells project source tokens) → length (nests d) ≡ length tokens

-- in some program that begins with these tokens, one or more, the nest of the last of them is n
abbrev pub Nested : Project → List Token → ℕ → Type 0
Nested project tokens n = (more : List Token) × (source : Source) × (d : Spells project source (tokens ++ more)) × (slice_get (nests d) (length tokens - 1) ≡ Some n)

-- The token at that place opens a level below the deepest one: the tokens up to it begin a program in which its nest is one more, and none before it is nested so deep.
abbrev pub TooDeepAt : Project → List Token → Pos → Type 0
TooDeepAt project tokens at = (before after : List Token) × (t : Token) × (tokens ≡ before ++ t ∷ after) × (t.at ≡ at) × Nested project (before ++ t ∷ []) (suc deepest)
    × ((k n : ℕ) → k ≤ length before → Nested project (take k before) n → n ≤ deepest)

-- The tokens leave the grammar at that place: those before it begin a program and with the token there none does; or all of them begin one and are none, and the place is the text's end.
abbrev pub SyntaxAt : Project → List Token → Pos → Pos → Type 0
SyntaxAt project tokens end at =
    ((before after : List Token) × (t : Token) × (tokens ≡ before ++ t ∷ after) × (t.at ≡ at) × Begins project before × ¬ Begins project (before ++ t ∷ []))
    ⊎ (Begins project tokens × ((source : Source) → ¬ Spells project source tokens) × (at ≡ end))
