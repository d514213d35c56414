-- Each subroutine that a source without a fault calls stands among its parts.
use Rattle.std.proofs.Common.{◌≡◌, refl, ◌∙◌, ap, ℕ, suc, ◌+◌, Bool, true, false, not, ◌&&◌, ◌||◌, List, [], ◌∷◌, ◌++◌, arith, Option, Some, None, map}
use Rattle.std.specs.Prelude.{cond, filter, slice_get, bytes_eq, filter_map}
use Rattle.std.specs.List.{position_or_len}
use Rattle.std.specs.Bool.{beq}
use Rattle.aseba_tree.specs.Code.{Name, Place, Expr, Stmt, stmt, StmtForm, assign, change, bump, if_then, when_do, while_do, for_do, emit, callsub, call, return, Stmts, no_stmts, stmts, Decl, Handler}
use Rattle.aseba_tree.specs.State.{Program, assignment, in_front, init_code}
use Rattle.aseba_tree.specs.Faults.{unknown, has_name, World, cell_faults, head_faults, stmt_faults, stmt_form_faults, stmts_faults, part_name_faults, parts_faults, world_of}
use Rattle.aseba_tree.specs.CoreShape.{is_sub_part}
use Rattle.aseba_tree.proofs.SizeLaws.{nil_left, nil_right, no_fault, not_false}
use Rattle.aseba_expand.specs.Plain.{plain_part}
use Rattle.aseba_expand.proofs.Shaped.{FindsSub, Finds, FindsIn, FindsAll}

sub-there : (program : Program) (name : Name) (hs : List Handler) → has_name (map (λ h. h.name) (filter (λ h. h.is_sub) hs)) name ≡ true
    → is_sub_part (slice_get (map (plain_part program) hs) (position_or_len (λ h. beq h.is_sub true && bytes_eq h.name name) hs)) ≡ true
sub-there program name [] e = cc
sub-there program name (h ∷ hs) e = pick h.is_sub refl e (sub-there program name hs)
  where
    place : ℕ
    place = position_or_len (λ (h : Handler). beq h.is_sub true && bytes_eq h.name name) hs

    later : is_sub_part (slice_get (map (plain_part program) (h ∷ hs)) (1 + place)) ≡ is_sub_part (slice_get (map (plain_part program) hs) place)
    later = let up : 1 + place ≡ suc place = omega arith in ap (λ k. is_sub_part (slice_get (map (plain_part program) (h ∷ hs)) k)) up

    own : h.is_sub ≡ true → is_sub_part (Some (plain_part program h)) ≡ true
    own es = rw es refl

    named_one : (b : Bool) → h.is_sub ≡ true → (b || has_name (map (λ h. h.name) (filter (λ h. h.is_sub) hs)) name) ≡ true
        → (has_name (map (λ h. h.name) (filter (λ h. h.is_sub) hs)) name ≡ true → is_sub_part (slice_get (map (plain_part program) hs) place) ≡ true)
        → is_sub_part (slice_get (map (plain_part program) (h ∷ hs)) (cond (not b) (1 + place) 0)) ≡ true
    named_one true es e deeper = own es
    named_one false es e deeper = later ∙ deeper e

    pick : (s : Bool) → h.is_sub ≡ s → has_name (map (λ h. h.name) (cond s (h ∷ filter (λ h. h.is_sub) hs) (filter (λ h. h.is_sub) hs))) name ≡ true
        → (has_name (map (λ h. h.name) (filter (λ h. h.is_sub) hs)) name ≡ true → is_sub_part (slice_get (map (plain_part program) hs) place) ≡ true)
        → is_sub_part (slice_get (map (plain_part program) (h ∷ hs)) (cond (not (beq s true && bytes_eq h.name name)) (1 + place) 0)) ≡ true
    pick true es e deeper = named_one (bytes_eq h.name name) es e deeper
    pick false es e deeper = later ∙ deeper e

-- the world knows the subroutines of the program
abbrev Knows : Program → World → Type 0
Knows program world = (name : Name) → has_name world.subs name ≡ true → FindsSub program name

mutual
  finds : (program : Program) (world : World) → Knows program world → (s : Stmt) → stmt_faults world s ≡ [] → Finds program s
  finds program world w (stmt line place form) e = finds-in program world w place form e

  finds-in : (program : Program) (world : World) → Knows program world → (place : Place) (form : StmtForm) → stmt_form_faults world place form ≡ [] → FindsIn program form
  finds-in program world w place (assign target i) e = tt
  finds-in program world w place (change target op i) e = tt
  finds-in program world w place (bump target op) e = tt
  finds-in program world w place (if_then c body other) e =
      (finds-all program world w body (nil_right (cell_faults world.scope c) _ (nil_left (cell_faults world.scope c ++ stmts_faults world body) _ e)), finds-all program world w other (nil_right (cell_faults world.scope c ++ stmts_faults world body) _ e))
  finds-in program world w place (when_do c body) e = finds-all program world w body (nil_right (cell_faults world.scope c) _ e)
  finds-in program world w place (while_do c body) e = finds-all program world w body (nil_right (cell_faults world.scope c) _ e)
  finds-in program world w place (for_do head body) e = finds-all program world w body (nil_right (head_faults world.scope place head) _ e)
  finds-in program world w place (emit name argument) e = tt
  finds-in program world w place (callsub name) e = w name (not_false (has_name world.subs name) (no_fault (not (has_name world.subs name)) place unknown e))
  finds-in program world w place (call name es) e = tt
  finds-in program world w place return e = tt

  finds-all : (program : Program) (world : World) → Knows program world → (ss : Stmts) → stmts_faults world ss ≡ [] → FindsAll program ss
  finds-all program world w no_stmts e = tt
  finds-all program world w (stmts s ss) e = (finds program world w s (nil_left (stmt_faults world s) _ e), finds-all program world w ss (nil_right (stmt_faults world s) _ e))

knows : (program : Program) → Knows program (world_of program)
knows program name e = sub-there program name program.source.parts e

init-finds : (program : Program) (ds : List Decl) (ss : Stmts) → FindsAll program ss → FindsAll program (in_front (filter_map assignment ds) ss)
init-finds program [] ss f = f
init-finds program (d ∷ ds) ss f = by d.value refl (init-finds program ds ss f)
  where
    by : (o : Option Expr) → d.value ≡ o → FindsAll program (in_front (filter_map assignment ds) ss) → FindsAll program (in_front (filter_map assignment (d ∷ ds)) ss)
    by None v rest = rw v rest
    by (Some i) v rest = rw v (tt, rest)

-- in the init code, and in the parts
pub init-code-finds : (program : Program) → stmts_faults (world_of program) program.source.init ≡ [] → FindsAll program (init_code program.source)
init-code-finds program e = init-finds program program.source.vars program.source.init (finds-all program (world_of program) (knows program) program.source.init e)

abbrev pub PartsFind : Program → List Handler → Type 0
PartsFind program [] = Unit {0}
PartsFind program (h ∷ hs) = FindsAll program h.body × PartsFind program hs

pub parts-find : (program : Program) (before hs : List Handler) → parts_faults (world_of program) before hs ≡ [] → PartsFind program hs
parts-find program before [] e = tt
parts-find program before (h ∷ hs) e =
    let world = world_of program in
    let front = nil_left (part_name_faults world.project before h ++ stmts_faults world h.body) _ e in
    (finds-all program world (knows program) h.body (nil_right (part_name_faults world.project before h) _ front), parts-find program (before ++ h ∷ []) hs (nil_right (part_name_faults world.project before h ++ stmts_faults world h.body) _ e))
