-- The statements of the plain form as they are made, in lists, one behind the other.
use Rattle.std.specs.Prelude.{ℕ, suc, List, [], ◌∷◌, ◌++◌, length, Option, Some, None}
use Rattle.aseba_tree.specs.Code.{Name, Expr, Exprs, Part, Target, ForHead, Stmt, stmt, StmtForm, assign, change, bump, if_then, when_do, while_do, for_do, emit, callsub, call, return, Stmts, no_stmts, stmts, Decl, all}
use Rattle.aseba_tree.specs.State.{Program}
use Rattle.aseba_tree.specs.Step.{native_place}
use Rattle.aseba_tree.specs.CoreExpr.{CoreExpr, cell, CoreTarget, into, into_index}
use Rattle.aseba_tree.specs.Core.{CoreStmt, core_stmt, store, branch, on_edge, loop, send, enter, use_native, go_back}
use Rattle.aseba_tree.specs.View.{core_stmts_of}
use Rattle.aseba_tree.specs.Layout.{cells_of_variables}
use Rattle.aseba_tree.specs.Elements.{elements_of, changed_elements, bumped_elements, element_of, target_index}
use Rattle.aseba_tree.specs.Numbers.{fresh_elements, fresh_of_list, given_lengths}
use Rattle.aseba_expand.specs.Plain.{start_of, size_of, part_addresses, argument_start, argument_starts, sent_number, sub_place, for_test, for_first, for_next}

abbrev pub store_of : (line : ℕ) → CoreTarget → CoreExpr → CoreStmt
store_of line target e = core_stmt line (store target e)

-- elements into the temporaries from an address on
abbrev pub listed_kept : (line from : ℕ) → List CoreExpr → List CoreStmt
listed_kept line from [] = []
listed_kept line from (e ∷ es) = store_of line (into from) e ∷ listed_kept line (suc from) es

-- the temporaries from an address on into cells
abbrev pub listed_moved : (line from : ℕ) → List ℕ → List CoreStmt
listed_moved line from [] = []
listed_moved line from (to ∷ tos) = store_of line (into to) (cell from) ∷ listed_moved line (suc from) tos

-- elements into one cell
abbrev pub listed_into : (line address : ℕ) → List CoreExpr → List CoreStmt
listed_into line address [] = []
listed_into line address (e ∷ es) = store_of line (into address) e ∷ listed_into line address es

-- elements into cells
abbrev pub listed_in : (line temporary : ℕ) → List ℕ → List CoreExpr → List CoreStmt
listed_in line temporary (to ∷ tos) (e ∷ []) = store_of line (into to) e ∷ []
listed_in line temporary tos es = listed_kept line temporary es ++ listed_moved line temporary tos

-- elements into the indexed cell of a variable
abbrev pub listed_by : (line start size : ℕ) → CoreExpr → List CoreExpr → List CoreStmt
listed_by line start size i [] = []
listed_by line start size i (e ∷ es) = store_of line (into_index start size i) e ∷ listed_by line start size i es

abbrev pub listed_assigned : Program → (line : ℕ) → Name → Part → Option CoreExpr → List CoreExpr → List CoreStmt
listed_assigned program line name part None es = listed_in line (cells_of_variables program) (part_addresses program name part) es
listed_assigned program line name part (Some i) es = listed_by line (start_of program name) (size_of program name) i es

-- elements into a part of a variable
abbrev pub listed_part : Program → (line : ℕ) → Name → Part → List CoreExpr → List CoreStmt
listed_part program line name part es = listed_assigned program line name part (target_index program part) es

abbrev pub listed_target : Program → (line : ℕ) → Target → List CoreExpr → List CoreStmt
listed_target program line target es = listed_part program line target.name target.part es

abbrev pub listed_sending : Program → (line : ℕ) → Name → Option Expr → List CoreStmt
listed_sending program line name None = core_stmt line (send (sent_number program name) 0 0) ∷ []
listed_sending program line name (Some e) =
    listed_kept line (cells_of_variables program) (fresh_elements program e)
    ++ core_stmt line (send (sent_number program name) (argument_start program (cells_of_variables program) e) (length (elements_of program e))) ∷ []

abbrev pub listed_calling : Program → (line : ℕ) → Name → Exprs → List CoreStmt
listed_calling program line name es =
    listed_kept line (cells_of_variables program) (fresh_of_list program es)
    ++ core_stmt line (use_native (native_place program.project name) (argument_starts program (cells_of_variables program) es ++ given_lengths program name es)) ∷ []

abbrev pub next_store : Program → (line : ℕ) → ForHead → CoreStmt
next_store program line head = store_of line (into (start_of program head.name)) (for_next program head)

-- a loop with a variable, over the statements of its body
abbrev pub listed_loop : Program → (line : ℕ) → ForHead → List CoreStmt → List CoreStmt
listed_loop program line head body =
    store_of line (into (start_of program head.name)) (for_first program head)
    ∷ core_stmt line (loop (for_test program head) (core_stmts_of (body ++ next_store program line head ∷ []))) ∷ []

-- the statements of a statement, of a form of it, and of statements
abbrev mutual
  pub listed : Program → Stmt → List CoreStmt
  listed program (stmt line place form) = listed_form program line form

  pub listed_form : Program → (line : ℕ) → StmtForm → List CoreStmt
  listed_form program line (assign target e) = listed_target program line target (elements_of program e)
  listed_form program line (change target op e) = listed_target program line target (changed_elements program target op e)
  listed_form program line (bump target op) = listed_target program line target (bumped_elements program target op)
  listed_form program line (if_then c body other) =
      core_stmt line (branch (element_of program c) (core_stmts_of (listed_all program body)) (core_stmts_of (listed_all program other))) ∷ []
  listed_form program line (when_do c body) = core_stmt line (on_edge (element_of program c) (core_stmts_of (listed_all program body))) ∷ []
  listed_form program line (while_do c body) = core_stmt line (loop (element_of program c) (core_stmts_of (listed_all program body))) ∷ []
  listed_form program line (for_do head body) = listed_loop program line head (listed_all program body)
  listed_form program line (emit name argument) = listed_sending program line name argument
  listed_form program line (callsub name) = core_stmt line (enter (sub_place program name)) ∷ []
  listed_form program line (call name es) = listed_calling program line name es
  listed_form program line return = core_stmt line go_back ∷ []

  pub listed_all : Program → Stmts → List CoreStmt
  listed_all program no_stmts = []
  listed_all program (stmts s ss) = listed program s ++ listed_all program ss

-- the stores of a declaration's value
abbrev pub listed_value : Program → Decl → List CoreStmt
listed_value program d = of d.value
  where
    of : Option Expr → List CoreStmt
    of None = []
    of (Some e) = listed_part program d.line d.name all (elements_of program e)

abbrev pub listed_values : Program → List Decl → List CoreStmt
listed_values program [] = []
listed_values program (d ∷ ds) = listed_value program d ++ listed_values program ds
