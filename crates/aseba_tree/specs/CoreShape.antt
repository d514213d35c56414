-- What holds of the core of each sound source that fits its node, and what the generation of code asks for.
use Rattle.std.specs.Prelude.{ℕ, zero, suc, ◌+◌, ◌-◌, ◌≤◌, nat_eq, nat_lt, nat_le, is_some, Bool, true, false, not, ◌&&◌, ◌||◌, if◌then◌else◌, IsTrue, ℤ, pos, negsuc, int_lt, List, [], ◌∷◌, ◌++◌, length, map, drop, slice_get, slice_index, Option, Some, None, option_map, option_to_list, unwrap_or, flat_map}
use Rattle.std.specs.List.{list_all, list_any, position_or_len, range_with_len}
use Rattle.std.specs.Ordering.{int_eq}
use Rattle.aseba_tree.specs.Code.{Project}
use Rattle.aseba_tree.specs.CoreExpr.{CoreExpr, fixed, cell, indirect, prefix, infix_of, CoreTarget, into, into_index}
use Rattle.aseba_tree.specs.Core.{CoreStmt, core_stmt, CoreForm, store, branch, on_edge, loop, send, enter, use_native, go_back, CoreStmts, no_core, core_stmts, CorePart, Core}
use Rattle.aseba_tree.specs.Events.{is_event_number}
use Rattle.aseba_tree.specs.CoreCells.{core_has_cells}
use Rattle.aseba_tree.specs.CoreLines.{core_is_lined}
use Rattle.aseba_tree.specs.NativeName.{native_named}
use Rattle.aseba_tree.specs.Step.{native_place}
use Rattle.aseba_tree.specs.Templates.{templates, cells_of_param}
use Rattle.aseba_tree.specs.Limits.{farthest}
use Rattle.aseba_tree.specs.Numbers.{is_large}
use Rattle.aseba_tree.specs.CoreNumbers.{core_words, core_depth, core_starts}

-- a number stands in a list
abbrev pub stands_in : List ℕ → ℕ → Bool
stands_in ns n = list_any (nat_eq n) ns

-- Addresses, where values have been stored in some temporaries

-- An address is inside, and a temporary, which stands above the variables, has been stored into.
abbrev pub is_readable : Core → List ℕ → ℕ → Bool
is_readable core stored address = nat_lt address (core.cells + core.room) && (nat_lt address core.cells || stands_in stored address)

-- so are all of a range
abbrev pub is_readable_range : Core → List ℕ → (address count : ℕ) → Bool
is_readable_range core stored address count = nat_le (address + count) (core.cells + core.room) && list_all (is_readable core stored) (range_with_len address count)

-- the cells that an index reaches are those of variables
abbrev pub is_indexed : Core → (base size : ℕ) → Bool
is_indexed core base size = nat_le (base + size) core.cells

abbrev pub is_good_expr : Core → List ℕ → CoreExpr → Bool
is_good_expr core stored (fixed v) = true
is_good_expr core stored (cell address) = is_readable core stored address
is_good_expr core stored (indirect base size i) = is_indexed core base size && is_good_expr core stored i
is_good_expr core stored (prefix op e) = is_good_expr core stored e
is_good_expr core stored (infix_of op l r) = is_good_expr core stored l && is_good_expr core stored r

abbrev pub is_good_target : Core → List ℕ → CoreTarget → Bool
is_good_target core stored (into address) = nat_lt address (core.cells + core.room)
is_good_target core stored (into_index base size i) = is_indexed core base size && is_good_expr core stored i

-- Natives

-- the parameters of a native by their sizes; since a source calls natives by their names, only the first of a name is called
abbrev pub sizes_of_native : Project → ℕ → Option (List ℤ)
sizes_of_native project id =
    if nat_eq (native_place project (native_named project id)) id then option_map (λ native. map (λ p. p.size) native.params) (slice_get project.node.natives id) else None

-- each parameter reads its cells from its address on
abbrev pub are_readable_params : Core → List ℕ → List ℤ → List ℕ → List ℤ → List ℕ → Bool
are_readable_params core stored all lengths (p ∷ ps) (address ∷ addresses) =
    is_readable_range core stored address (cells_of_param all lengths p) && are_readable_params core stored all lengths ps addresses
are_readable_params core stored all lengths _ _ = true

-- an address for each parameter, and then a length of at least 1 for each template
abbrev pub is_good_call : Core → List ℕ → Option (List ℤ) → List ℕ → Bool
is_good_call core stored None values = false
is_good_call core stored (Some params) values =
    nat_eq (length values) (length params + length (templates [] params)) && list_all (nat_lt 0) (drop (length params) values)
    && are_readable_params core stored (templates [] params) (drop (length params) values) params values

-- Statements

abbrev pub is_sub_part : Option CorePart → Bool
is_sub_part None = false
is_sub_part (Some part) = not (is_some part.event)

-- the temporary into which a statement stores
abbrev pub kept_at : Core → CoreForm → Option ℕ
kept_at core (store (into address) e) = if nat_le core.cells address then Some address else None
kept_at core _ = None

abbrev pub is_last : CoreStmts → Bool
is_last no_core = true
is_last (core_stmts s ss) = false

-- A list of statements reads a temporary only behind a store into it in the same list, and doesn't end with such a store.
abbrev mutual
  pub is_good_form : Project → Core → List ℕ → CoreForm → Bool
  is_good_form project core stored (store target e) = is_good_target core stored target && is_good_expr core stored e
  is_good_form project core stored (branch c body other) = is_good_expr core stored c && is_good_list project core [] body && is_good_list project core [] other
  is_good_form project core stored (on_edge c body) = is_good_expr core stored c && is_good_list project core [] body
  is_good_form project core stored (loop c body) = is_good_expr core stored c && is_good_list project core [] body
  is_good_form project core stored (send event address count) = nat_lt event (length project.events) && nat_le count 256 && is_readable_range core stored address count
  is_good_form project core stored (enter which) = is_sub_part (slice_get core.parts which)
  is_good_form project core stored (use_native id values) = is_good_call core stored (sizes_of_native project id) values
  is_good_form project core stored go_back = true

  pub is_good_first : Project → Core → List ℕ → CoreStmt → CoreStmts → (List ℕ → Bool) → Bool
  is_good_first project core stored (core_stmt line form) rest rest_is_good =
      is_good_form project core stored form && not (is_last rest && is_some (kept_at core form)) && rest_is_good (option_to_list (kept_at core form) ++ stored)

  pub is_good_list : Project → Core → List ℕ → CoreStmts → Bool
  is_good_list project core stored no_core = true
  is_good_list project core stored (core_stmts s ss) = is_good_first project core stored s ss (λ more. is_good_list project core more ss)

-- Parts

-- the numbers of the events that a core handles
abbrev pub handled : Core → List ℕ
handled core = flat_map (λ part. option_to_list part.event) core.parts

abbrev pub are_distinct : List ℕ → Bool
are_distinct [] = true
are_distinct (n ∷ ns) = not (stands_in ns n) && are_distinct ns

-- the subroutines that statements call, by their places among the parts
abbrev mutual
  pub entered_by : CoreStmt → List ℕ
  entered_by (core_stmt line form) = entered_by_form form

  pub entered_by_form : CoreForm → List ℕ
  entered_by_form (branch c body other) = entered_by_list body ++ entered_by_list other
  entered_by_form (on_edge c body) = entered_by_list body
  entered_by_form (loop c body) = entered_by_list body
  entered_by_form (enter which) = which ∷ []
  entered_by_form _ = []

  pub entered_by_list : CoreStmts → List ℕ
  entered_by_list no_core = []
  entered_by_list (core_stmts s ss) = entered_by s ++ entered_by_list ss

abbrev pub entered_from : Core → ℕ → List ℕ
entered_from core which = unwrap_or (option_map (λ part. entered_by_list part.body) (slice_get core.parts which)) []

-- whether at least one and at most so many calls lead from a part to another
abbrev pub leads_to : Core → ℕ → (from to : ℕ) → Bool
leads_to core zero from to = false
leads_to core (suc n) from to = list_any (λ which. nat_eq which to || leads_to core n which to) (entered_from core from)

-- no part leads to itself
abbrev pub has_no_cycle : Core → Bool
has_no_cycle core = list_all (λ which. not (leads_to core (length core.parts) which which)) (range_with_len 0 (length core.parts))

-- A core that can be turned into code for the project's node.
pub record IsCore (project : Project) (core : Core) : Type 0 where
  pub has_size : core_words project core ≤ core.size
  pub has_depth : core_depth core ≤ core.depth
  pub has_room : core.cells + core.room ≤ project.node.cells
  pub is_good : IsTrue (is_good_list project core [] core.init && list_all (λ part. is_good_list project core [] part.body) core.parts)
  pub numbers : IsTrue (core_has_cells core)
  pub lined : IsTrue (core_is_lined core)
  pub handles_events : IsTrue (list_all (is_event_number project) (handled core) && are_distinct (handled core))
  pub ends : IsTrue (has_no_cycle core)
  pub is_near : IsTrue (is_large project) → IsTrue (list_all (λ start. nat_le start farthest) (core_starts project core))
