-- The plain form is its statements in lists, one behind the other.
use Rattle.std.proofs.Common.{◌≡◌, refl, sym, ◌∙◌, ap, ℕ, suc, ◌+◌, ◌≤◌, ◌<◌, max, List, [], ◌∷◌, ◌++◌, append_assoc, length, map, drop, get_or, Option, Some, None, arith}
use Rattle.std.specs.Prelude.{option_map, filter_map}
use Rattle.std.specs.List.{cons_option}
use Rattle.aseba_tree.specs.Code.{Name, Expr, Exprs, Target, Stmt, stmt, StmtForm, assign, change, bump, if_then, when_do, while_do, for_do, emit, callsub, call, return, Stmts, no_stmts, stmts, Handler, Decl, all}
use Rattle.aseba_tree.specs.State.{Program, assignment, in_front, init_code}
use Rattle.aseba_tree.specs.Step.{native_place}
use Rattle.aseba_tree.specs.CoreExpr.{CoreExpr, cell, into, into_index}
use Rattle.aseba_tree.specs.Core.{Core, CorePart, CoreStmt, core_stmt, branch, on_edge, loop, send, use_native, CoreStmts, no_core, core_stmts}
use Rattle.aseba_tree.specs.declared.source.Handler as code_source
use Rattle.aseba_tree.specs.declared.core_tree.CorePart as code_core
use Rattle.aseba_tree.specs.View.{core_part_view, core_stmts_of, handler_view, stmts_view}
use Rattle.aseba_check.proofs.NumbersHeld.{greatest-cons}
use Rattle.aseba_tree.specs.Layout.{cells_of_variables}
use Rattle.aseba_tree.specs.Elements.{elements_of, changed_elements, bumped_elements, element_of, target_index}
use Rattle.aseba_tree.specs.Numbers.{fresh_elements, fresh_of_list, given_lengths, greatest, stmts_room, source_room, source_words, source_depth}
use Rattle.aseba_expand.specs.Listed.{store_of, next_store, listed_kept, listed_moved, listed_in, listed_by, listed_assigned, listed_target, listed_part, listed_sending, listed_calling, listed, listed_form, listed_all, listed_value, listed_values}
use Rattle.aseba_expand.specs.Plain.{start_of, size_of, part_addresses, argument_start, argument_starts, sent_number, kept, moved, stored_in, stored_by, assigned_by, assigning, sending, calling, for_test, for_first, plain, plain_form, all_plain, handled_event, plain_part, plain_core}
use Rattle.aseba_expand.specs.Rooms.{value_room, values_room}
use Rattle.aseba_expand.proofs.Lists.{next_item, told-next, mapped-next}

-- statements of a list in front of others
abbrev pub in_front_of : List CoreStmt → CoreStmts → CoreStmts
in_front_of [] behind = behind
in_front_of (s ∷ ss) behind = core_stmts s (in_front_of ss behind)

front-append : (ss ts : List CoreStmt) (behind : CoreStmts) → in_front_of (ss ++ ts) behind ≡ in_front_of ss (in_front_of ts behind)
front-append [] ts behind = refl
front-append (s ∷ ss) ts behind = ap (core_stmts s) (front-append ss ts behind)

front-none : (ss : List CoreStmt) → in_front_of ss no_core ≡ core_stmts_of ss
front-none [] = refl
front-none (s ∷ ss) = ap (core_stmts s) (front-none ss)

front-one : (ss : List CoreStmt) (s : CoreStmt) → in_front_of ss (core_stmts s no_core) ≡ core_stmts_of (ss ++ s ∷ [])
front-one ss s = sym (front-append ss (s ∷ []) no_core) ∙ front-none (ss ++ s ∷ [])

-- Stores

kept-listed : (line from : ℕ) (es : List CoreExpr) (behind : CoreStmts) → kept line from es behind ≡ in_front_of (listed_kept line from es) behind
kept-listed line from [] behind = refl
kept-listed line from (e ∷ es) behind = ap (core_stmts (store_of line (into from) e)) (kept-listed line (suc from) es behind)

moved-listed : (line from : ℕ) (tos : List ℕ) (behind : CoreStmts) → moved line from tos behind ≡ in_front_of (listed_moved line from tos) behind
moved-listed line from [] behind = refl
moved-listed line from (to ∷ tos) behind = ap (core_stmts (store_of line (into to) (cell from))) (moved-listed line (suc from) tos behind)

kept-moved : (line from : ℕ) (tos : List ℕ) (es : List CoreExpr) (behind : CoreStmts) → kept line from es (moved line from tos behind) ≡ in_front_of (listed_kept line from es ++ listed_moved line from tos) behind
kept-moved line from tos es behind =
    ap (kept line from es) (moved-listed line from tos behind) ∙ kept-listed line from es (in_front_of (listed_moved line from tos) behind) ∙ sym (front-append (listed_kept line from es) (listed_moved line from tos) behind)

in-listed : (line from : ℕ) (tos : List ℕ) (es : List CoreExpr) (behind : CoreStmts) → stored_in line from tos es behind ≡ in_front_of (listed_in line from tos es) behind
in-listed line from [] es behind = kept-moved line from [] es behind
in-listed line from (to ∷ tos) [] behind = kept-moved line from (to ∷ tos) [] behind
in-listed line from (to ∷ tos) (e ∷ []) behind = refl
in-listed line from (to ∷ tos) (e ∷ f ∷ es) behind = kept-moved line from (to ∷ tos) (e ∷ f ∷ es) behind

by-listed : (line start size : ℕ) (i : CoreExpr) (es : List CoreExpr) (behind : CoreStmts) → stored_by line start size i es behind ≡ in_front_of (listed_by line start size i es) behind
by-listed line start size i [] behind = refl
by-listed line start size i (e ∷ es) behind = ap (core_stmts (store_of line (into_index start size i) e)) (by-listed line start size i es behind)

assigned-listed : (program : Program) (line : ℕ) (target : Target) (i : Option CoreExpr) (es : List CoreExpr) (behind : CoreStmts)
    → assigned_by program line target i es behind ≡ in_front_of (listed_assigned program line target.name target.part i es) behind
assigned-listed program line target None es behind = in-listed line (cells_of_variables program) (part_addresses program target.name target.part) es behind
assigned-listed program line target (Some i) es behind = by-listed line (start_of program target.name) (size_of program target.name) i es behind

assigning-listed : (program : Program) (line : ℕ) (target : Target) (es : List CoreExpr) (behind : CoreStmts) → assigning program line target es behind ≡ in_front_of (listed_target program line target es) behind
assigning-listed program line target es behind = assigned-listed program line target (target_index program target.part) es behind

-- Effects

then-one : (line from : ℕ) (es : List CoreExpr) (s : CoreStmt) (behind : CoreStmts) → kept line from es (core_stmts s behind) ≡ in_front_of (listed_kept line from es ++ s ∷ []) behind
then-one line from es s behind = kept-listed line from es (core_stmts s behind) ∙ sym (front-append (listed_kept line from es) (s ∷ []) behind)

sending-listed : (program : Program) (line : ℕ) (name : Name) (argument : Option Expr) (behind : CoreStmts) → sending program line name argument behind ≡ in_front_of (listed_sending program line name argument) behind
sending-listed program line name None behind = refl
sending-listed program line name (Some e) behind =
    then-one line (cells_of_variables program) (fresh_elements program e) (core_stmt line (send (sent_number program name) (argument_start program (cells_of_variables program) e) (length (elements_of program e)))) behind

calling-listed : (program : Program) (line : ℕ) (name : Name) (es : Exprs) (behind : CoreStmts) → calling program line name es behind ≡ in_front_of (listed_calling program line name es) behind
calling-listed program line name es behind =
    then-one line (cells_of_variables program) (fresh_of_list program es) (core_stmt line (use_native (native_place program.project name) (argument_starts program (cells_of_variables program) es ++ given_lengths program name es))) behind

-- Statements

mutual
  plain-listed : (program : Program) (s : Stmt) (behind : CoreStmts) → plain program s behind ≡ in_front_of (listed program s) behind
  plain-listed program (stmt line place form) behind = form-listed program line form behind

  form-listed : (program : Program) (line : ℕ) (form : StmtForm) (behind : CoreStmts) → plain_form program line form behind ≡ in_front_of (listed_form program line form) behind
  form-listed program line (assign target e) behind = assigning-listed program line target (elements_of program e) behind
  form-listed program line (change target op e) behind = assigning-listed program line target (changed_elements program target op e) behind
  form-listed program line (bump target op) behind = assigning-listed program line target (bumped_elements program target op) behind
  form-listed program line (if_then c body other) behind =
      ap (λ ss. core_stmts (core_stmt line (branch (element_of program c) ss (all_plain program other no_core))) behind) (all-listed program body no_core ∙ front-none (listed_all program body))
      ∙ ap (λ ss. core_stmts (core_stmt line (branch (element_of program c) (core_stmts_of (listed_all program body)) ss)) behind) (all-listed program other no_core ∙ front-none (listed_all program other))
  form-listed program line (when_do c body) behind =
      ap (λ ss. core_stmts (core_stmt line (on_edge (element_of program c) ss)) behind) (all-listed program body no_core ∙ front-none (listed_all program body))
  form-listed program line (while_do c body) behind =
      ap (λ ss. core_stmts (core_stmt line (loop (element_of program c) ss)) behind) (all-listed program body no_core ∙ front-none (listed_all program body))
  form-listed program line (for_do head body) behind =
      ap (λ ss. core_stmts (store_of line (into (start_of program head.name)) (for_first program head)) (core_stmts (core_stmt line (loop (for_test program head) ss)) behind))
      (all-listed program body (core_stmts (next_store program line head) no_core) ∙ front-one (listed_all program body) (next_store program line head))
  form-listed program line (emit name argument) behind = sending-listed program line name argument behind
  form-listed program line (callsub name) behind = refl
  form-listed program line (call name es) behind = calling-listed program line name es behind
  form-listed program line return behind = refl

  all-listed : (program : Program) (ss : Stmts) (behind : CoreStmts) → all_plain program ss behind ≡ in_front_of (listed_all program ss) behind
  all-listed program no_stmts behind = refl
  all-listed program (stmts s ss) behind =
      ap (plain program s) (all-listed program ss behind) ∙ plain-listed program s (in_front_of (listed_all program ss) behind) ∙ sym (front-append (listed program s) (listed_all program ss) behind)

pub body-listed : (program : Program) (ss : Stmts) → core_stmts_of (listed_all program ss) ≡ all_plain program ss no_core
body-listed program ss = sym (all-listed program ss no_core ∙ front-none (listed_all program ss))

-- Declared values

abbrev given_value : Program → Decl → Option Expr → List CoreStmt
given_value program d None = []
given_value program d (Some e) = listed_part program d.line d.name all (elements_of program e)

same-value : (program : Program) (d : Decl) (value : Option Expr) → d.value ≡ value → given_value program d value ≡ listed_value program d
same-value program d None q = rw q refl
same-value program d (Some e) q = rw q refl

-- the statements in front are the values' assignments
abbrev decl_stmt : Decl → Option Expr → Option Stmt
decl_stmt d value = option_map (λ e. stmt d.line d.equals (assign (record { place = d.place; name = d.name; part = all }) e)) value

front-listed : (program : Program) (d : Decl) (value : Option Expr) (rest : List Stmt) (ss : Stmts)
    → listed_all program (in_front (cons_option (decl_stmt d value) rest) ss) ≡ given_value program d value ++ listed_all program (in_front rest ss)
front-listed program d None rest ss = refl
front-listed program d (Some e) rest ss = refl

values-listed : (program : Program) (ds : List Decl) (ss : Stmts) → listed_all program (in_front (filter_map assignment ds) ss) ≡ listed_values program ds ++ listed_all program ss
values-listed program [] ss = refl
values-listed program (d ∷ ds) ss =
    front-listed program d d.value (filter_map assignment ds) ss
    ∙ ap (λ xs. xs ++ listed_all program (in_front (filter_map assignment ds) ss)) (same-value program d d.value refl)
    ∙ ap (λ xs. listed_value program d ++ xs) (values-listed program ds ss)
    ∙ sym (append_assoc (listed_value program d) (listed_values program ds) (listed_all program ss))

-- the init code is the values' stores and then the statements
pub init-listed : (program : Program) → core_stmts_of (listed_values program program.source.vars ++ listed_all program program.source.init) ≡ all_plain program (init_code program.source) no_core
init-listed program = ap core_stmts_of (sym (values-listed program program.source.vars program.source.init)) ∙ body-listed program (init_code program.source)

front-room : (program : Program) (d : Decl) (value : Option Expr) (rest : List Stmt) (ss : Stmts) → stmts_room program (in_front (cons_option (decl_stmt d value) rest) ss) ≡ max (value_room program value) (stmts_room program (in_front rest ss))
front-room program d None rest ss = omega arith
front-room program d (Some e) rest ss = refl

pub init-room : (program : Program) (ds : List Decl) (ss : Stmts) → stmts_room program (in_front (filter_map assignment ds) ss) ≡ max (values_room program ds) (stmts_room program ss)
init-room program [] ss = omega arith
init-room program (d ∷ ds) ss = let p = front-room program d d.value (filter_map assignment ds) ss in let q = init-room program ds ss in omega (arith, p, q)

-- What is made

pub part-made : (program : Program) (h : Handler) (line : ℕ) (event : Option ℕ) (body : List CoreStmt) → line ≡ h.line → event ≡ handled_event program h → body ≡ listed_all program h.body
    → (let made : CorePart = record { line = line; event = event; body = core_stmts_of body } in made) ≡ plain_part program h
part-made program h line event body l e b = λ i. record { line = l i; event = e i; body = (ap core_stmts_of b ∙ body-listed program h.body) i }

pub init-made : (program : Program) (values more whole : List CoreStmt) → values ≡ listed_values program program.source.vars → more ≡ listed_all program program.source.init → whole ≡ values ++ more
    → core_stmts_of whole ≡ all_plain program (init_code program.source) no_core
init-made program values more whole v m w = ap core_stmts_of (w ∙ (λ i. v i ++ m i)) ∙ init-listed program

pub core-made : (program : Program) (init : CoreStmts) (parts : List CorePart) (cells room size depth : ℕ) → init ≡ all_plain program (init_code program.source) no_core → parts ≡ map (plain_part program) program.source.parts
    → cells ≡ cells_of_variables program → room ≡ source_room program → size ≡ source_words program → depth ≡ source_depth program
    → (let made : Core = record { init = init; parts = parts; cells = cells; room = room; size = size; depth = depth } in made) ≡ plain_core program
core-made program init parts cells room size depth a b c d e f = λ i. record { init = a i; parts = b i; cells = c i; room = d i; size = e i; depth = f i }

-- The temporaries

init-room-of : (program : Program) → stmts_room program (init_code program.source) ≡ max (values_room program program.source.vars) (stmts_room program program.source.init)
init-room-of program = init-room program program.source.vars program.source.init

left-fits : (cells a b room : ℕ) → room ≡ max a b → cells + room ≤ 65535 → cells + a ≤ 65535
left-fits cells a b room e h = omega arith

right-fits : (cells a b room : ℕ) → room ≡ max a b → cells + room ≤ 65535 → cells + b ≤ 65535
right-fits cells a b room e h = omega arith

pub values-fit : (program : Program) (vars : List Decl) → vars ≡ program.source.vars → cells_of_variables program + stmts_room program (init_code program.source) ≤ 65535 → cells_of_variables program + values_room program vars ≤ 65535
values-fit program vars e h = left-fits (cells_of_variables program) (values_room program vars) (stmts_room program program.source.init) (stmts_room program (init_code program.source))
    (init-room-of program ∙ ap (λ vs. max (values_room program vs) (stmts_room program program.source.init)) (sym e)) h

pub init-fits : (program : Program) → cells_of_variables program + stmts_room program (init_code program.source) ≤ 65535 → cells_of_variables program + stmts_room program program.source.init ≤ 65535
init-fits program h = right-fits (cells_of_variables program) (values_room program program.source.vars) (stmts_room program program.source.init) (stmts_room program (init_code program.source)) (init-room-of program) h

-- Parts in order

fits-both : (cells a b room : ℕ) → room ≡ max a b → cells + room ≤ 65535 → (cells + a ≤ 65535) × (cells + b ≤ 65535)
fits-both cells a b room e h = (left-fits cells a b room e h, right-fits cells a b room e h)

pub next-fits : (program : Program) (hs : List code_source.Handler) (i : ℕ) (h : code_source.Handler) → i < length hs → h ≡ get_or hs i h
    → cells_of_variables program + greatest (map (λ h. stmts_room program h.body) (map handler_view (drop i hs))) ≤ 65535
    → (cells_of_variables program + stmts_room program (stmts_view h.body) ≤ 65535) × (cells_of_variables program + greatest (map (λ h. stmts_room program h.body) (map handler_view (drop (i + 1) hs))) ≤ 65535)
next-fits program hs i h inside is fit =
    let here = ap (λ xs. greatest (map (λ h. stmts_room program h.body) (map handler_view xs))) (next_item hs i h inside is) in
    let first = greatest-cons (stmts_room program (stmts_view h.body)) (map (λ h. stmts_room program h.body) (map handler_view (drop (i + 1) hs))) in
    fits-both (cells_of_variables program) (stmts_room program (stmts_view h.body)) (greatest (map (λ h. stmts_room program h.body) (map handler_view (drop (i + 1) hs)))) _ (here ∙ first) fit

pub parts-made : (program : Program) (hs : List code_source.Handler) (i : ℕ) (h : code_source.Handler) (built more : List code_core.CorePart) (x : code_core.CorePart) (whole : List CorePart) → i < length hs → h ≡ get_or hs i h
    → more ≡ built ++ x ∷ [] → core_part_view x ≡ plain_part program (handler_view h) → map core_part_view built ++ map (plain_part program) (map handler_view (drop i hs)) ≡ whole
    → map core_part_view more ++ map (plain_part program) (map handler_view (drop (i + 1) hs)) ≡ whole
parts-made program hs i h built more x whole inside is added made before =
    let rest = map (plain_part program) (map handler_view (drop (i + 1) hs)) in
    let left = map (plain_part program) (map handler_view (drop i hs)) in
    let here = ap (λ xs. map (plain_part program) (map handler_view xs)) (next_item hs i h inside is) in
    let one = mapped-next core_part_view more built x added ∙ ap (λ (p : CorePart). map core_part_view built ++ p ∷ []) made in
    told-next (map core_part_view more) (map core_part_view built) (plain_part program (handler_view h)) rest left whole one here before
