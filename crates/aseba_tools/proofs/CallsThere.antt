-- A sound source calls only natives that its project has.
use Rattle.std.proofs.Common.{◌≡◌, refl, sym, ◌∙◌, List, [], ◌∷◌, ◌++◌, Option, None, Some, bytes_eq, slice_get, filter_map}
use Rattle.std.proofs.lemmas.List.Folds.{find_at}
use Rattle.aseba_tree.specs.Code.{Name, Place, Expr, Exprs, Stmt, stmt, StmtForm, assign, change, bump, if_then, when_do, while_do, for_do, emit, callsub, call, return, Stmts, no_stmts, stmts, Decl, Handler, Native, Project}
use Rattle.aseba_tree.specs.Faults.{World, world_of, first_scope, decls_faults, parts_faults, part_name_faults, recursion_faults, sub_calls, stmt_faults, stmt_form_faults, stmts_faults, cell_faults, head_faults, list_faults, native_faults, native_of}
use Rattle.aseba_tree.specs.Sizes.{Scope}
use Rattle.aseba_tree.specs.Soundness.{Sound}
use Rattle.aseba_tree.specs.State.{Program, assignment, in_front}
use Rattle.aseba_tree.specs.Step.{native_place}
use Rattle.aseba_tree.proofs.SizeLaws.{nil_left, nil_right}
use Rattle.aseba_tree.proofs.SoundProofs.{sound_is_faultless}
use Rattle.aseba_tools.proofs.CallsMade.{CallsStmt, CallsForm, CallsStmts, CallsParts, Calls}

-- the project has a native of a name
pub record IsThere (project : Project) (name : Name) : Type 0 where
  pub native : Native
  pub found : slice_get project.node.natives (native_place project name) ≡ Some native

call-there : (scope : Scope) (place : Place) (project : Project) (name : Name) (es : Exprs) → native_faults scope place (native_of project name) es ≡ [] → IsThere project name
call-there scope place project name es d = by (native_of project name) refl d
  where
    by : (o : Option Native) → native_of project name ≡ o → native_faults scope place o es ≡ [] → IsThere project name
    by None e d = cc
    by (Some native) e d = record { native = native; found = sym (find_at (λ (n : Native). bytes_eq n.name name) project.node.natives) ∙ e }

mutual
  stmt-calls : (world : World) (s : Stmt) → stmt_faults world s ≡ [] → CallsStmt (IsThere world.project) s
  stmt-calls world (stmt line place form) d = form-calls world place form d

  form-calls : (world : World) (place : Place) (form : StmtForm) → stmt_form_faults world place form ≡ [] → CallsForm (IsThere world.project) form
  form-calls world place (assign target e) d = tt
  form-calls world place (change target op e) d = tt
  form-calls world place (bump target op) d = tt
  form-calls world place (if_then c body other) d = (
    stmts-call world body (nil_right (cell_faults world.scope c) _ (nil_left (cell_faults world.scope c ++ stmts_faults world body) _ d)),
    stmts-call world other (nil_right (cell_faults world.scope c ++ stmts_faults world body) _ d),
  )
  form-calls world place (when_do c body) d = stmts-call world body (nil_right (cell_faults world.scope c) _ d)
  form-calls world place (while_do c body) d = stmts-call world body (nil_right (cell_faults world.scope c) _ d)
  form-calls world place (for_do head body) d = stmts-call world body (nil_right (head_faults world.scope place head) _ d)
  form-calls world place (emit name argument) d = tt
  form-calls world place (callsub name) d = tt
  form-calls world place (call name es) d = call-there world.scope place world.project name es (nil_right (list_faults world.scope es) _ d)
  form-calls world place return d = tt

  stmts-call : (world : World) (ss : Stmts) → stmts_faults world ss ≡ [] → CallsStmts (IsThere world.project) ss
  stmts-call world no_stmts d = tt
  stmts-call world (stmts s ss) d = (stmt-calls world s (nil_left (stmt_faults world s) _ d), stmts-call world ss (nil_right (stmt_faults world s) _ d))

parts-call : (world : World) (before hs : List Handler) → parts_faults world before hs ≡ [] → CallsParts (IsThere world.project) hs
parts-call world before [] d = tt
parts-call world before (h ∷ hs) d = (
  stmts-call world h.body (nil_right (part_name_faults world.project before h) _ (nil_left (part_name_faults world.project before h ++ stmts_faults world h.body) _ d)),
  parts-call world (before ++ h ∷ []) hs (nil_right (part_name_faults world.project before h ++ stmts_faults world h.body) _ d),
)

-- the assignments of declarations call nothing
front-calls : (P : Name → Type 0) (ds : List Decl) (ss : Stmts) → CallsStmts P ss → CallsStmts P (in_front (filter_map assignment ds) ss)
front-calls P [] ss g = g
front-calls P (d ∷ ds) ss g = by d.value refl (front-calls P ds ss g)
  where
    by : (o : Option Expr) → d.value ≡ o → CallsStmts P (in_front (filter_map assignment ds) ss) → CallsStmts P (in_front (filter_map assignment (d ∷ ds)) ss)
    by None v rest = rw v rest
    by (Some e) v rest = rw v (tt, rest)

pub sound-calls : (program : Program) → Sound program → Calls (IsThere program.project) program
sound-calls program sound =
    let none = ((sound_is_faultless program).0 sound).0 in
    let source = program.source in
    let world = world_of program in
    let before_calls = nil_left _ (recursion_faults [] (sub_calls source.parts)) none in
    let init = nil_right (decls_faults (first_scope program.project) source.vars) _ (nil_left _ (parts_faults world [] source.parts) before_calls) in
    record {
      init = front-calls (IsThere program.project) source.vars source.init (stmts-call world source.init init);
      parts = parts-call world [] source.parts (nil_right _ (parts_faults world [] source.parts) before_calls);
    }
