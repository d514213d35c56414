-- The numbers of a core's own statements, each counted as the row of plain code that it is.
use Rattle.std.specs.Prelude.{ℕ, zero, suc, ◌+◌, ◌*◌, max, nat_le, is_some, Bool, not, if◌then◌else◌, pos, List, [], ◌∷◌, length, map, take, drop, sum_by, filter, slice_get, Option, Some, None, option_map, unwrap_or}
use Rattle.aseba_tree.specs.Code.{Project}
use Rattle.aseba_tree.specs.CoreExpr.{CoreExpr, CoreTarget, into, into_index}
use Rattle.aseba_tree.specs.Core.{CoreStmt, core_stmt, CoreForm, store, branch, on_edge, loop, send, enter, use_native, go_back, CoreStmts, no_core, core_stmts, CorePart, Core}
use Rattle.aseba_tree.specs.Numbers.{greatest, number_words, words, depth, nodes, condition_words, condition_depth, jump_words}

-- the number of parameters of a native
abbrev pub param_count : Project → ℕ → ℕ
param_count project id = unwrap_or (option_map (λ native. length native.params) (slice_get project.node.natives id)) 0

-- Words

abbrev pub store_words : CoreTarget → CoreExpr → ℕ
store_words (into address) e = words e + 1
store_words (into_index base size i) e = words e + words i + 2

-- addresses are large numbers, and lengths are numbers as they come
abbrev pub native_words : Project → ℕ → List ℕ → ℕ
native_words project id values =
    2 * length (take (param_count project id) values) + sum_by (λ n. number_words (pos n)) (drop (param_count project id) values) + 1

abbrev pub core_else_words : Project → CoreStmts → ℕ → ℕ
core_else_words project no_core words = 0
core_else_words project (core_stmts s ss) words = jump_words project + words

abbrev mutual
  pub core_stmt_words : Project → CoreStmt → ℕ
  core_stmt_words project (core_stmt line form) = core_form_words project form

  pub core_form_words : Project → CoreForm → ℕ
  core_form_words project (store target e) = store_words target e
  core_form_words project (branch c body other) = condition_words c + 2 + core_list_words project body + core_else_words project other (core_list_words project other)
  core_form_words project (on_edge c body) = condition_words c + 2 + core_list_words project body
  core_form_words project (loop c body) = condition_words c + 2 + jump_words project + core_list_words project body
  core_form_words project (send event address length) = 3
  core_form_words project (enter which) = 1
  core_form_words project (use_native id values) = native_words project id values
  core_form_words project go_back = 1

  pub core_list_words : Project → CoreStmts → ℕ
  core_list_words project no_core = 0
  core_list_words project (core_stmts s ss) = core_stmt_words project s + core_list_words project ss

abbrev pub is_handler : CorePart → Bool
is_handler part = is_some part.event

-- the handlers of a core, and its subroutines
abbrev pub core_handlers : Core → List CorePart
core_handlers core = filter is_handler core.parts

abbrev pub core_subs : Core → List CorePart
core_subs core = filter (λ part. not (is_handler part)) core.parts

abbrev pub core_part_words : Project → CorePart → ℕ
core_part_words project part = core_list_words project part.body + 1

abbrev pub core_table_words : Core → ℕ
core_table_words core = 3 + 2 * length (core_handlers core)

-- the words of a core's statements with the event table and the last word of each part
abbrev pub core_words : Project → Core → ℕ
core_words project core = core_table_words core + (core_list_words project core.init + 1) + sum_by (core_part_words project) core.parts

-- Stack

abbrev pub store_depth : CoreTarget → CoreExpr → ℕ
store_depth (into address) e = depth e
store_depth (into_index base size i) e = max (depth e) (1 + depth i)

-- the stack cells of statements where the subroutine of each place among the parts takes a number of them
abbrev mutual
  pub core_stmt_depth : (ℕ → ℕ) → CoreStmt → ℕ
  core_stmt_depth subs (core_stmt line form) = core_form_depth subs form

  pub core_form_depth : (ℕ → ℕ) → CoreForm → ℕ
  core_form_depth subs (store target e) = store_depth target e
  core_form_depth subs (branch c body other) = max (condition_depth c) (max (core_list_depth subs body) (core_list_depth subs other))
  core_form_depth subs (on_edge c body) = max (condition_depth c) (core_list_depth subs body)
  core_form_depth subs (loop c body) = max (condition_depth c) (core_list_depth subs body)
  core_form_depth subs (send event address length) = 0
  core_form_depth subs (enter which) = 1 + subs which
  core_form_depth subs (use_native id values) = length values
  core_form_depth subs go_back = 0

  pub core_list_depth : (ℕ → ℕ) → CoreStmts → ℕ
  core_list_depth subs no_core = 0
  core_list_depth subs (core_stmts s ss) = max (core_stmt_depth subs s) (core_list_depth subs ss)

abbrev pub core_body : Core → ℕ → CoreStmts
core_body core which = unwrap_or (option_map (λ part. part.body) (slice_get core.parts which)) no_core

-- the stack cells of a subroutine, where calls are at most so many deep
abbrev pub core_sub_depth : Core → ℕ → ℕ → ℕ
core_sub_depth core zero which = 0
core_sub_depth core (suc n) which = core_list_depth (core_sub_depth core n) (core_body core which)

-- the most stack cells that the init code or a handler takes
abbrev pub core_depth : Core → ℕ
core_depth core =
    let subs = core_sub_depth core (length core.parts) in
    max (core_list_depth subs core.init) (greatest (map (λ part. core_list_depth subs part.body) (core_handlers core)))

-- Subroutines of a large project

abbrev pub core_starts_from : Project → ℕ → List CorePart → List ℕ
core_starts_from project address [] = []
core_starts_from project address (part ∷ parts) = address ∷ core_starts_from project (address + core_part_words project part) parts

-- the addresses at which the plain code of the subroutines begins in a large project
abbrev pub core_starts : Project → Core → List ℕ
core_starts project core = core_starts_from project (core_table_words core) (core_subs core)

-- Pace

-- the leaves and operators of the store into a temporary, and one
abbrev pub kept_nodes : (cells : ℕ) → CoreForm → Option ℕ
kept_nodes cells (store (into address) e) = if nat_le cells address then Some (nodes e + 1) else None
kept_nodes cells _ = None

abbrev pub target_nodes : CoreTarget → ℕ
target_nodes (into address) = 0
target_nodes (into_index base size i) = nodes i + 1

-- the leaves and operators of a statement, of its condition alone where it has one, and the values of a call
abbrev pub own_nodes : CoreForm → ℕ
own_nodes (store target e) = target_nodes target + nodes e
own_nodes (branch c body other) = nodes c
own_nodes (on_edge c body) = nodes c
own_nodes (loop c body) = nodes c
own_nodes (send event address count) = 0
own_nodes (enter which) = 0
own_nodes (use_native id values) = length values
own_nodes go_back = 0

-- A statement weighs its leaves and operators, the values of a call, what the stores into temporaries directly before it have together, and three; such
-- a store itself weighs no more than three.
abbrev pub weight_behind : (kept : ℕ) → Option ℕ → CoreForm → ℕ
weight_behind kept (Some more) form = 3
weight_behind kept None form = kept + own_nodes form + 3

-- what the stores directly before the next statement have together
abbrev pub kept_with : (kept : ℕ) → Option ℕ → ℕ
kept_with kept (Some more) = kept + more
kept_with kept None = 0

abbrev pub kept_behind : (cells kept : ℕ) → CoreStmt → ℕ
kept_behind cells kept (core_stmt line form) = kept_with kept (kept_nodes cells form)

-- The greatest weight of a statement with the stores directly before it, at least 3, where the stores directly before the first one have so much.
abbrev mutual
  pub inner_weight : (cells : ℕ) → CoreForm → ℕ
  inner_weight cells (branch c body other) = max (core_list_weight cells body 0) (core_list_weight cells other 0)
  inner_weight cells (on_edge c body) = core_list_weight cells body 0
  inner_weight cells (loop c body) = core_list_weight cells body 0
  inner_weight cells _ = 3

  pub core_stmt_weight : (cells kept : ℕ) → CoreStmt → ℕ
  core_stmt_weight cells kept (core_stmt line form) = max (weight_behind kept (kept_nodes cells form) form) (inner_weight cells form)

  pub core_list_weight : (cells : ℕ) → CoreStmts → (kept : ℕ) → ℕ
  core_list_weight cells no_core kept = 3
  core_list_weight cells (core_stmts s ss) kept = max (core_stmt_weight cells kept s) (core_list_weight cells ss (kept_behind cells kept s))

-- Of any so many successive ticks in which one handler of the core's code runs, at least one has an effect.
abbrev pub core_weight : Core → ℕ
core_weight core = max (core_list_weight core.cells core.init 0) (greatest (map (λ part. core_list_weight core.cells part.body 0) core.parts))
