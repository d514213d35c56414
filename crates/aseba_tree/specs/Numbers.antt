-- How many words of plain code a source takes, how deep its stack gets, how many temporaries it needs, and fewer than how many ticks pass without an effect.
use Rattle.std.specs.Prelude.{ℕ, zero, suc, ◌+◌, ◌*◌, max, nat_lt, Bool, true, false, not, ◌||◌, if◌then◌else◌, ℤ, pos, negsuc, int_lt, List, [], ◌∷◌, ◌++◌, length, map, sum_by, bytes_eq, find, filter, Option, Some, None, is_some, option_map, unwrap_or}
use Rattle.std.specs.List.{fold, list_any}
use Rattle.std.specs.Ordering.{int_eq}
use Rattle.aseba_words.specs.declared.operators.Binary.TheVariants.{Add, AtLeast, AtMost}
use Rattle.aseba_tree.specs.Code.{Name, Expr, expr, Form, whole, range, Exprs, no_exprs, exprs, ForHead, Stmt, stmt, StmtForm, assign, change, bump, if_then, when_do, while_do, for_do, emit, callsub, call, return, Stmts, no_stmts, stmts, Handler, Project}
use Rattle.aseba_tree.specs.Value.{constant}
use Rattle.aseba_tree.specs.State.{Program, init_code, handlers, subroutines}
use Rattle.aseba_tree.specs.Step.{step_of}
use Rattle.aseba_tree.specs.CoreExpr.{CoreExpr, fixed, cell, indirect, prefix, infix_of}
use Rattle.aseba_tree.specs.Sizes.{is_of_one_cell}
use Rattle.aseba_tree.specs.Templates.{template_lengths}
use Rattle.aseba_tree.specs.Elements.{variable_place, elements_of, changed_elements, bumped_elements, element_of, target_index}

abbrev pub greatest : List ℕ → ℕ
greatest ns = fold max 0 ns

-- Expressions of one cell

-- a number takes one word from -2048 to 2047, else two
abbrev pub number_words : ℤ → ℕ
number_words v = if int_lt v (negsuc 2047) || int_lt (pos 2047) v then 2 else 1

-- the words of an element
abbrev pub words : CoreExpr → ℕ
words (fixed v) = number_words v
words (cell address) = 1
words (indirect base size i) = words i + 2
words (prefix op e) = words e + 1
words (infix_of op l r) = words l + words r + 1

-- the stack cells of an element
abbrev pub depth : CoreExpr → ℕ
depth (fixed v) = 1
depth (cell address) = 1
depth (indirect base size i) = depth i
depth (prefix op e) = depth e
depth (infix_of op l r) = max (depth l) (1 + depth r)

-- the leaves and operators of an element, an index among the operators
abbrev pub nodes : CoreExpr → ℕ
nodes (fixed v) = 1
nodes (cell address) = 1
nodes (indirect base size i) = nodes i + 1
nodes (prefix op e) = nodes e + 1
nodes (infix_of op l r) = nodes l + nodes r + 1

-- The words and stack cells of a condition before its branch: the branch has the operator of a comparison, an `and` or an `or`; any other element is
-- compared with 0.
abbrev pub condition_words : CoreExpr → ℕ
condition_words (infix_of op l r) = if is_of_one_cell op then words l + words r else words (infix_of op l r) + 1
condition_words e = words e + 1

abbrev pub condition_depth : CoreExpr → ℕ
condition_depth (infix_of op l r) = if is_of_one_cell op then max (depth l) (1 + depth r) else max (depth (infix_of op l r)) 2
condition_depth e = max (depth e) 2

abbrev pub all_words : List CoreExpr → ℕ
all_words es = sum_by words es

abbrev pub all_nodes : List CoreExpr → ℕ
all_nodes es = sum_by nodes es

abbrev pub greatest_depth : List CoreExpr → ℕ
greatest_depth es = greatest (map depth es)

-- elements put into temporaries, each computed and stored
abbrev pub kept_words : List CoreExpr → ℕ
kept_words es = all_words es + length es

-- Assignments, by the index of the target and the computed elements: one element in a fixed cell or at an index, and else a vector, whose elements go into
-- temporaries first.
abbrev pub assigned_words : Option CoreExpr → List CoreExpr → ℕ
assigned_words (Some i) es = all_words es + words i + 2
assigned_words None (e ∷ []) = words e + 1
assigned_words None es = kept_words es + 2 * length es

abbrev pub assigned_depth : Option CoreExpr → List CoreExpr → ℕ
assigned_depth (Some i) es = max (greatest_depth es) (1 + depth i)
assigned_depth None es = greatest_depth es

abbrev pub assigned_room : Option CoreExpr → List CoreExpr → ℕ
assigned_room (Some i) es = 0
assigned_room None (e ∷ []) = 0
assigned_room None es = length es

abbrev pub index_nodes : Option CoreExpr → ℕ
index_nodes None = 0
index_nodes (Some i) = nodes i + 1

-- leaves and operators, three for each cell that is stored, emitted or passed, and three
abbrev pub weighed : (nodes cells : ℕ) → ℕ
weighed nodes cells = nodes + 3 * cells + 3

abbrev pub assigned_weight : Option CoreExpr → List CoreExpr → ℕ
assigned_weight i es = weighed (all_nodes es + index_nodes i) (length es)

-- Arguments

-- a whole variable and a range stand for their own cells
abbrev pub is_own_form : Program → Form → Bool
is_own_form program (whole name) = is_some (variable_place program name)
is_own_form program (range name c d) = true
is_own_form program _ = false

abbrev pub is_own : Program → Expr → Bool
is_own program (expr first place form) = is_own_form program form

-- the elements of an argument that go into temporaries
abbrev pub fresh_elements : Program → Expr → List CoreExpr
fresh_elements program e = if is_own program e then [] else elements_of program e

abbrev pub fresh_of_list : Program → Exprs → List CoreExpr
fresh_of_list program no_exprs = []
fresh_of_list program (exprs e es) = fresh_elements program e ++ fresh_of_list program es

-- the numbers of cells of arguments
abbrev pub lengths : Program → Exprs → List ℕ
lengths program no_exprs = []
lengths program (exprs e es) = length (elements_of program e) ∷ lengths program es

abbrev pub param_sizes : Project → Name → List ℤ
param_sizes project name = unwrap_or (option_map (λ native. map (λ p. p.size) native.params) (find (λ native. bytes_eq native.name name) project.node.natives)) []

-- the lengths that a call gives to its templates
abbrev pub given_lengths : Program → Name → Exprs → List ℕ
given_lengths program name es = template_lengths [] (param_sizes program.project name) (lengths program es)

abbrev pub argument_elements : Program → Option Expr → List CoreExpr
argument_elements program None = []
argument_elements program (Some e) = fresh_elements program e

abbrev pub argument_length : Program → Option Expr → ℕ
argument_length program None = 0
argument_length program (Some e) = length (elements_of program e)

-- Words

-- a project with more than 2048 words of code is large
abbrev pub is_large : Project → Bool
is_large project = nat_lt 2048 project.node.code

-- the words of a jump
abbrev pub jump_words : Project → ℕ
jump_words project = if is_large project then 4 else 1

-- the words of a branch that isn't there are none
abbrev pub else_words : Project → Stmts → ℕ → ℕ
else_words project no_stmts words = 0
else_words project (stmts s ss) words = jump_words project + words

abbrev mutual
  pub stmt_words : Program → Stmt → ℕ
  stmt_words program (stmt line place form) = form_words program form

  pub form_words : Program → StmtForm → ℕ
  form_words program (assign target e) = assigned_words (target_index program target.part) (elements_of program e)
  form_words program (change target op e) = assigned_words (target_index program target.part) (changed_elements program target op e)
  form_words program (bump target op) = assigned_words (target_index program target.part) (bumped_elements program target op)
  form_words program (if_then c body other) =
      condition_words (element_of program c) + 2 + stmts_words program body + else_words program.project other (stmts_words program other)
  form_words program (when_do c body) = condition_words (element_of program c) + 2 + stmts_words program body
  form_words program (while_do c body) = condition_words (element_of program c) + 2 + jump_words program.project + stmts_words program body
  form_words program (for_do head body) =
      number_words (constant program.project.consts head.first) + number_words (constant program.project.consts head.last) + number_words (step_of program.project.consts head.step)
      + 7 + jump_words program.project + stmts_words program body
  form_words program (emit name argument) = kept_words (argument_elements program argument) + 3
  form_words program (callsub name) = 1
  form_words program (call name es) = kept_words (fresh_of_list program es) + 2 * length (lengths program es) + sum_by (λ n. number_words (pos n)) (given_lengths program name es) + 1
  form_words program return = 1

  pub stmts_words : Program → Stmts → ℕ
  stmts_words program no_stmts = 0
  stmts_words program (stmts s ss) = stmt_words program s + stmts_words program ss

abbrev pub part_words : Program → Handler → ℕ
part_words program h = stmts_words program h.body + 1

-- the words of the event table
abbrev pub table_words : Program → ℕ
table_words program = 3 + 2 * length (handlers program)

-- The words of a source: the event table, the init code and the parts, each with its last word.
abbrev pub source_words : Program → ℕ
source_words program = table_words program + (stmts_words program (init_code program.source) + 1) + sum_by (part_words program) program.source.parts

-- Stack

abbrev pub argument_depth : Program → Option Expr → ℕ
argument_depth program argument = greatest_depth (argument_elements program argument)

-- the stack cells of statements where each subroutine takes a number of them
abbrev mutual
  pub stmt_depth : Program → (Name → ℕ) → Stmt → ℕ
  stmt_depth program subs (stmt line place form) = form_depth program subs form

  pub form_depth : Program → (Name → ℕ) → StmtForm → ℕ
  form_depth program subs (assign target e) = assigned_depth (target_index program target.part) (elements_of program e)
  form_depth program subs (change target op e) = assigned_depth (target_index program target.part) (changed_elements program target op e)
  form_depth program subs (bump target op) = assigned_depth (target_index program target.part) (bumped_elements program target op)
  form_depth program subs (if_then c body other) = max (condition_depth (element_of program c)) (max (stmts_depth program subs body) (stmts_depth program subs other))
  form_depth program subs (when_do c body) = max (condition_depth (element_of program c)) (stmts_depth program subs body)
  form_depth program subs (while_do c body) = max (condition_depth (element_of program c)) (stmts_depth program subs body)
  form_depth program subs (for_do head body) = max 2 (stmts_depth program subs body)
  form_depth program subs (emit name argument) = argument_depth program argument
  form_depth program subs (callsub name) = 1 + subs name
  form_depth program subs (call name es) = max (length (lengths program es) + length (given_lengths program name es)) (greatest_depth (fresh_of_list program es))
  form_depth program subs return = 0

  pub stmts_depth : Program → (Name → ℕ) → Stmts → ℕ
  stmts_depth program subs no_stmts = 0
  stmts_depth program subs (stmts s ss) = max (stmt_depth program subs s) (stmts_depth program subs ss)

abbrev pub sub_body : Program → Name → Stmts
sub_body program name = body (find (λ h. bytes_eq h.name name) (subroutines program))
  where
    body : Option Handler → Stmts
    body None = no_stmts
    body (Some h) = h.body

-- the stack cells of a subroutine, where calls are at most so many deep
abbrev pub sub_depth : Program → ℕ → Name → ℕ
sub_depth program zero name = 0
sub_depth program (suc n) name = stmts_depth program (sub_depth program n) (sub_body program name)

-- of a subroutine: calls are no deeper than there are parts
abbrev pub depth_of_sub : Program → Name → ℕ
depth_of_sub program name = sub_depth program (length program.source.parts) name

-- The stack cells of a source: the most that its init code or a handler takes.
abbrev pub source_depth : Program → ℕ
source_depth program =
    max (stmts_depth program (depth_of_sub program) (init_code program.source)) (greatest (map (λ h. stmts_depth program (depth_of_sub program) h.body) (handlers program)))

-- Temporaries

abbrev mutual
  pub stmt_room : Program → Stmt → ℕ
  stmt_room program (stmt line place form) = form_room program form

  pub form_room : Program → StmtForm → ℕ
  form_room program (assign target e) = assigned_room (target_index program target.part) (elements_of program e)
  form_room program (change target op e) = assigned_room (target_index program target.part) (changed_elements program target op e)
  form_room program (bump target op) = assigned_room (target_index program target.part) (bumped_elements program target op)
  form_room program (if_then c body other) = max (stmts_room program body) (stmts_room program other)
  form_room program (when_do c body) = stmts_room program body
  form_room program (while_do c body) = stmts_room program body
  form_room program (for_do head body) = stmts_room program body
  form_room program (emit name argument) = length (argument_elements program argument)
  form_room program (callsub name) = 0
  form_room program (call name es) = length (fresh_of_list program es)
  form_room program return = 0

  pub stmts_room : Program → Stmts → ℕ
  stmts_room program no_stmts = 0
  stmts_room program (stmts s ss) = max (stmt_room program s) (stmts_room program ss)

-- The temporaries of a source: the most that a statement takes.
abbrev pub source_room : Program → ℕ
source_room program = max (stmts_room program (init_code program.source)) (greatest (map (λ h. stmts_room program h.body) program.source.parts))

-- Pace

-- A `for` in element form: the store of the first bound, the test, and the store of the next value.
abbrev pub for_weight : Program → ForHead → ℕ
for_weight program head =
    let consts = program.project.consts in
    let variable = cell 0 in
    let step = step_of consts head.step in
    max (assigned_weight None (fixed (constant consts head.first) ∷ []))
    (max (weighed (nodes (infix_of (if int_lt step (pos 0) then AtLeast else AtMost) variable (fixed (constant consts head.last)))) 0)
    (assigned_weight None (infix_of Add variable (fixed step) ∷ [])))

abbrev mutual
  pub stmt_weight : Program → Stmt → ℕ
  stmt_weight program (stmt line place form) = form_weight program form

  pub form_weight : Program → StmtForm → ℕ
  form_weight program (assign target e) = assigned_weight (target_index program target.part) (elements_of program e)
  form_weight program (change target op e) = assigned_weight (target_index program target.part) (changed_elements program target op e)
  form_weight program (bump target op) = assigned_weight (target_index program target.part) (bumped_elements program target op)
  form_weight program (if_then c body other) = max (weighed (nodes (element_of program c)) 0) (max (stmts_weight program body) (stmts_weight program other))
  form_weight program (when_do c body) = max (weighed (nodes (element_of program c)) 0) (stmts_weight program body)
  form_weight program (while_do c body) = max (weighed (nodes (element_of program c)) 0) (stmts_weight program body)
  form_weight program (for_do head body) = max (for_weight program head) (stmts_weight program body)
  form_weight program (emit name argument) = weighed (all_nodes (argument_elements program argument)) (argument_length program argument)
  form_weight program (callsub name) = weighed 0 0
  form_weight program (call name es) = weighed (all_nodes (fresh_of_list program es)) (sum_by (λ n. n) (lengths program es))
  form_weight program return = weighed 0 0

  pub stmts_weight : Program → Stmts → ℕ
  stmts_weight program no_stmts = 3
  stmts_weight program (stmts s ss) = max (stmt_weight program s) (stmts_weight program ss)

-- Of any so many successive ticks in which one handler of the source runs, at least one has an effect.
abbrev pub source_weight : Program → ℕ
source_weight program = max (stmts_weight program (init_code program.source)) (greatest (map (λ h. stmts_weight program h.body) program.source.parts))

-- Subroutines of a large project

-- a subroutine with the address at which its plain code begins in a large project
pub record Start : Type 0 where
  pub sub : Handler
  pub address : ℕ

abbrev pub starts_from : Program → ℕ → List Handler → List Start
starts_from program address [] = []
starts_from program address (h ∷ hs) = record { sub = h; address = address } ∷ starts_from program (address + part_words program h) hs

-- In a large project the subroutines stand behind the event table, one behind the other.
abbrev pub starts : Program → List Start
starts program = starts_from program (table_words program) (subroutines program)
