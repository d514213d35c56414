-- The plain element form of a source: names become addresses, and each statement the statements of one cell that do what it does. A form is given with the
-- statements that stand behind it.
use Rattle.std.specs.Prelude.{ℕ, suc, ◌+◌, pos, ◌&&◌, true, if◌then◌else◌, int_lt, List, [], ◌∷◌, ◌++◌, length, map, bytes_eq, Option, Some, None, unwrap_or}
use Rattle.std.specs.Bool.{beq}
use Rattle.std.specs.List.{range_with_len, position_or_len}
use Rattle.aseba_words.specs.declared.operators.Binary.TheVariants.{Add, AtLeast, AtMost}
use Rattle.aseba_tree.specs.Code.{Name, Expr, expr, Form, whole, range, Exprs, no_exprs, exprs, Part, all, at, span, Target, ForHead, Stmt, stmt, StmtForm, assign, change, bump, if_then, when_do, while_do, for_do, emit, callsub, call, return, Stmts, no_stmts, stmts, Handler}
use Rattle.aseba_tree.specs.Line.{named}
use Rattle.aseba_tree.specs.Value.{as_place, from_to, constant}
use Rattle.aseba_tree.specs.State.{Program, init_code}
use Rattle.aseba_tree.specs.Step.{step_of, native_place}
use Rattle.aseba_tree.specs.CoreExpr.{CoreExpr, fixed, cell, infix_of, CoreTarget, into, into_index}
use Rattle.aseba_tree.specs.Core.{core_stmt, store, branch, on_edge, loop, send, enter, use_native, go_back, CoreStmts, no_core, core_stmts, CorePart, Core}
use Rattle.aseba_tree.specs.CoreStep.{CoreProgram}
use Rattle.aseba_tree.specs.Events.{event_number}
use Rattle.aseba_tree.specs.Layout.{variables, cells_of_variables}
use Rattle.aseba_tree.specs.Elements.{variable_place, elements_of, changed_elements, bumped_elements, element_of, target_index}
use Rattle.aseba_tree.specs.Numbers.{fresh_elements, fresh_of_list, is_own, given_lengths, source_words, source_depth, source_room}

-- Addresses

abbrev pub start_in : Option (ℕ × ℕ) → ℕ
start_in None = 0
start_in (Some v) = v.0

abbrev pub size_in : Option (ℕ × ℕ) → ℕ
size_in None = 0
size_in (Some v) = v.1

-- the address of a variable, and its size
abbrev pub start_of : Program → Name → ℕ
start_of program name = start_in (variable_place program name)

abbrev pub size_of : Program → Name → ℕ
size_of program name = size_in (variable_place program name)

-- the place in a variable that an end of a range names
abbrev pub bound : Program → Expr → ℕ
bound program e = as_place (constant program.project.consts e)

-- the addresses of the cells that a part of a variable names, but for an indexed one
abbrev pub part_addresses : Program → Name → Part → List ℕ
part_addresses program name all = range_with_len (start_of program name) (size_of program name)
part_addresses program name (at e) = []
part_addresses program name (span c d) = map (λ i. start_of program name + i) (from_to (bound program c) (bound program d))

-- Stores

abbrev pub storing : (line : ℕ) → CoreTarget → CoreExpr → CoreStmts → CoreStmts
storing line target e behind = core_stmts (core_stmt line (store target e)) behind

-- elements into the temporaries from an address on
abbrev pub kept : (line from : ℕ) → List CoreExpr → CoreStmts → CoreStmts
kept line from [] behind = behind
kept line from (e ∷ es) behind = storing line (into from) e (kept line (suc from) es behind)

-- the temporaries from an address on into cells
abbrev pub moved : (line from : ℕ) → List ℕ → CoreStmts → CoreStmts
moved line from [] behind = behind
moved line from (to ∷ tos) behind = storing line (into to) (cell from) (moved line (suc from) tos behind)

-- elements into cells: one at once, more by way of the temporaries from an address on
abbrev pub stored_in : (line temporary : ℕ) → List ℕ → List CoreExpr → CoreStmts → CoreStmts
stored_in line temporary (to ∷ tos) (e ∷ []) behind = storing line (into to) e behind
stored_in line temporary tos es behind = kept line temporary es (moved line temporary tos behind)

-- an element into the indexed cell of a variable at an address with its size
abbrev pub stored_by : (line start size : ℕ) → CoreExpr → List CoreExpr → CoreStmts → CoreStmts
stored_by line start size i [] behind = behind
stored_by line start size i (e ∷ es) behind = storing line (into_index start size i) e (stored_by line start size i es behind)

abbrev pub assigned_by : Program → (line : ℕ) → Target → Option CoreExpr → List CoreExpr → CoreStmts → CoreStmts
assigned_by program line target None es behind = stored_in line (cells_of_variables program) (part_addresses program target.name target.part) es behind
assigned_by program line target (Some i) es behind = stored_by line (start_of program target.name) (size_of program target.name) i es behind

-- elements into what a target names
abbrev pub assigning : Program → (line : ℕ) → Target → List CoreExpr → CoreStmts → CoreStmts
assigning program line target es behind = assigned_by program line target (target_index program target.part) es behind

-- Arguments

-- where the own cells of a whole variable or of a range begin
abbrev pub own_start_of_form : Program → Form → ℕ
own_start_of_form program (whole name) = start_of program name
own_start_of_form program (range name c d) = start_of program name + bound program c
own_start_of_form program _ = 0

abbrev pub own_start : Program → Expr → ℕ
own_start program (expr first place form) = own_start_of_form program form

-- where an argument begins, if its elements go into the temporaries from an address on unless it has cells of its own
abbrev pub argument_start : Program → (temporary : ℕ) → Expr → ℕ
argument_start program temporary e = if is_own program e then own_start program e else temporary

-- so it is with arguments in order
abbrev pub argument_starts : Program → (temporary : ℕ) → Exprs → List ℕ
argument_starts program temporary no_exprs = []
argument_starts program temporary (exprs e es) =
    argument_start program temporary e ∷ argument_starts program (temporary + length (fresh_elements program e)) es

-- Events, natives and subroutines

abbrev pub sent_number : Program → Name → ℕ
sent_number program name = unwrap_or (event_number program.project (named name)) 0

-- an event is sent without an argument, or with the cells where its argument begins
abbrev pub sending : Program → (line : ℕ) → Name → Option Expr → CoreStmts → CoreStmts
sending program line name None behind = core_stmts (core_stmt line (send (sent_number program name) 0 0)) behind
sending program line name (Some e) behind =
    kept line (cells_of_variables program) (fresh_elements program e)
    (core_stmts (core_stmt line (send (sent_number program name) (argument_start program (cells_of_variables program) e) (length (elements_of program e)))) behind)

abbrev pub calling : Program → (line : ℕ) → Name → Exprs → CoreStmts → CoreStmts
calling program line name es behind =
    kept line (cells_of_variables program) (fresh_of_list program es)
    (core_stmts (core_stmt line (use_native (native_place program.project name) (argument_starts program (cells_of_variables program) es ++ given_lengths program name es)))
    behind)

-- the place of the first subroutine of a name among the parts
abbrev pub sub_place : Program → Name → ℕ
sub_place program name = position_or_len (λ h. beq h.is_sub true && bytes_eq h.name name) program.source.parts

-- Loops

-- the variable of a `for` has not passed its last bound
abbrev pub for_test : Program → ForHead → CoreExpr
for_test program head =
    let step = step_of program.project.consts head.step in
    infix_of (if int_lt step (pos 0) then AtLeast else AtMost) (cell (start_of program head.name)) (fixed (constant program.project.consts head.last))

abbrev pub for_first : Program → ForHead → CoreExpr
for_first program head = fixed (constant program.project.consts head.first)

abbrev pub for_next : Program → ForHead → CoreExpr
for_next program head = infix_of Add (cell (start_of program head.name)) (fixed (step_of program.project.consts head.step))

-- Statements

abbrev mutual
  pub plain : Program → Stmt → CoreStmts → CoreStmts
  plain program (stmt line place form) behind = plain_form program line form behind

  pub plain_form : Program → (line : ℕ) → StmtForm → CoreStmts → CoreStmts
  plain_form program line (assign target e) behind = assigning program line target (elements_of program e) behind
  plain_form program line (change target op e) behind = assigning program line target (changed_elements program target op e) behind
  plain_form program line (bump target op) behind = assigning program line target (bumped_elements program target op) behind
  plain_form program line (if_then c body other) behind =
      core_stmts (core_stmt line (branch (element_of program c) (all_plain program body no_core) (all_plain program other no_core))) behind
  plain_form program line (when_do c body) behind = core_stmts (core_stmt line (on_edge (element_of program c) (all_plain program body no_core))) behind
  plain_form program line (while_do c body) behind = core_stmts (core_stmt line (loop (element_of program c) (all_plain program body no_core))) behind
  plain_form program line (for_do head body) behind =
      storing line (into (start_of program head.name)) (for_first program head)
      (core_stmts (core_stmt line (loop (for_test program head) (all_plain program body (storing line (into (start_of program head.name)) (for_next program head) no_core))))
      behind)
  plain_form program line (emit name argument) behind = sending program line name argument behind
  plain_form program line (callsub name) behind = core_stmts (core_stmt line (enter (sub_place program name))) behind
  plain_form program line (call name es) behind = calling program line name es behind
  plain_form program line return behind = core_stmts (core_stmt line go_back) behind

  pub all_plain : Program → Stmts → CoreStmts → CoreStmts
  all_plain program no_stmts behind = behind
  all_plain program (stmts s ss) behind = plain program s (all_plain program ss behind)

-- Sources

-- the number of the event that a part handles, none where it is a subroutine
abbrev pub handled_event : Program → Handler → Option ℕ
handled_event program h = if h.is_sub then None else event_number program.project (named h.name)

abbrev pub plain_part : Program → Handler → CorePart
plain_part program h = record { line = h.line; event = handled_event program h; body = all_plain program h.body no_core }

abbrev pub plain_core : Program → Core
plain_core program = record {
  init = all_plain program (init_code program.source) no_core;
  parts = map (plain_part program) program.source.parts;
  cells = cells_of_variables program;
  room = source_room program;
  size = source_words program;
  depth = source_depth program;
}

-- a core of a source, with what its steps need beside it
abbrev pub core_program : Program → Core → CoreProgram
core_program program core = record { project = program.project; variables = variables program; core = core }

abbrev pub plain_program : Program → CoreProgram
plain_program program = core_program program (plain_core program)
