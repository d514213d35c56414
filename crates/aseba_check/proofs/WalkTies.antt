-- The walk over all statements tells the least of their faults.
use Rattle.std.proofs.Common.{◌≡◌, refl, sym, ◌∙◌, ap, subst, ℕ, ◌+◌, ◌≤◌, pos, List, [], ◌∷◌, ◌++◌, length, map, Option, Some, None, arith, append_assoc, zero-add}
use Rattle.std.proofs.lemmas.List.{append-nil, length-map}
use Rattle.std.proofs.lemmas.List.Sums.{sum_by-append}
use Rattle.std.specs.Prelude.{nat_eq, not, IfSome, option_map, option_to_list, sum_by}
use Rattle.aseba_tree.specs.declared.description.Native as code_native
use Rattle.aseba_tree.specs.Code as tree_code
use Rattle.aseba_tree.specs.Code.{Name, Place, Expr, expr, Exprs, no_exprs, exprs, Part, all, at, span, Stmt, stmt, StmtForm, assign, change, bump, if_then, when_do, while_do, for_do, emit, callsub, call, return, Stmts, no_stmts, stmts}
use Rattle.aseba_tree.specs.View.{native_view, param_view}
use Rattle.aseba_tree.specs.Sizes.{Scope}
use Rattle.aseba_tree.specs.Faults as tree
use Rattle.aseba_tree.specs.Shape.{expr_count, list_count, to_list, part_exprs, stmt_exprs, form_exprs, stmts_exprs}
use Rattle.aseba_check.specs.declared.fault.Rule.TheVariants as code
use Rattle.aseba_check.specs.declared.fault.Fault.{Fault}
use Rattle.aseba_check.specs.declared.facts.Meaning.{Meaning}
use Rattle.aseba_tree.specs.Each.{EachItem, EachOption, EachPart, EachStmt, EachForm, EachStmts}
use Rattle.aseba_check.specs.Fits.{Fits}
use Rattle.aseba_check.specs.Told as told
use Rattle.aseba_check.specs.Told.{pos_of}
use Rattle.aseba_check.specs.Statements as walk
use Rattle.aseba_check.specs.Statements.{Known}
use Rattle.aseba_check.proofs.ExprTies.{Tells, join, silent, if-tells, one-tells, limit, signed-is, tied}
use Rattle.aseba_check.proofs.StatementTies.{Usable, regroup, cell-told, aimed, assigned-tells, head-tells, DescribesWorld, emit-tells, AllTied, all-tied, inside-tells, count-given, lengths-tell}

-- How many expressions there are

abbrev pub total : List Expr → ℕ
total es = sum_by expr_count es

pub under-append : (xs ys : List Expr) → total (xs ++ ys) ≤ limit → (total xs ≤ limit) × (total ys ≤ limit)
under-append xs ys h = let e = sum_by-append expr_count xs ys in (omega arith, omega arith)

pub cons-total : (x : Expr) (xs : List Expr) → total (x ∷ xs) ≡ expr_count x + total xs
cons-total x xs = sum_by-append expr_count (x ∷ []) xs ∙ ap (λ n. n + total xs) (zero-add (expr_count x))

pub under-cons : (x : Expr) (xs : List Expr) → total (x ∷ xs) ≤ limit → (expr_count x ≤ limit) × (total xs ≤ limit)
under-cons x xs h = let e = cons-total x xs in (omega arith, omega arith)

listed : (es : Exprs) → total (to_list es) ≡ list_count es
listed no_exprs = refl
listed (exprs e es) = cons-total e (to_list es) ∙ ap (λ n. expr_count e + n) (listed es)

counted : (es : Exprs) → tree.argument_count es ≤ list_count es
counted no_exprs = omega arith
counted (exprs (expr first place form) es) = let k = counted es in omega arith

usable-items : (es : Exprs) → EachItem Fits es → list_count es ≤ limit → EachItem Usable es
usable-items no_exprs h s = tt
usable-items (exprs e es) h s = ((h.0, omega arith), usable-items es h.1 (omega arith))

pub usable-option : (o : Option Expr) → EachOption Fits o → total (option_to_list o) ≤ limit → EachOption Usable o
usable-option None h s = tt
usable-option (Some e) h s = (h, (under-cons e [] s).0)

usable-part : (part : Part) → EachPart Fits part → total (part_exprs part) ≤ limit → EachPart Usable part
usable-part all h s = tt
usable-part (at e) h s = (h, (under-cons e [] s).0)
usable-part (span c d) h s = ((h.0, (under-cons c (d ∷ []) s).0), (h.1, (under-cons d [] (under-cons c (d ∷ []) s).1).0))

-- Natives

count-tells : (names : Name → Option Meaning) (place : Place) (native : code_native.Native) (es : Exprs) → length native.params ≤ limit → tree.argument_count es ≤ limit
    → Tells (told.fault_if (not (nat_eq (length native.params) (length (walk.given names es)))) (pos_of place) (code.ArgCount (told.signed (length native.params)) (told.signed (length (walk.given names es)))))
    (tree.fault_if (not (nat_eq (length (map param_view native.params)) (tree.argument_count es))) place (tree.arg_count (pos (length (map param_view native.params))) (pos (tree.argument_count es))))
count-tells names place native es h k =
    rw (count-given names es, signed-is (length native.params) (omega arith), signed-is (tree.argument_count es) (omega arith), length-map native.params param_view)
    (if-tells (not (nat_eq (length native.params) (tree.argument_count es))) place (code.ArgCount (pos (length native.params)) (pos (tree.argument_count es))))

native-tells : (names : Name → Option Meaning) (scope : Scope) (place : Place) (native : Option code_native.Native) (es : Exprs) → AllTied names scope es → IfSome native (λ n. length n.params ≤ limit) → tree.argument_count es ≤ limit
    → Tells (walk.native_told (pos_of place) native (walk.given names es)) (tree.native_faults scope place (option_map native_view native) es)
native-tells names scope place None es a h k = one-tells place code.Unknown
native-tells names scope place (Some native) es a h k =
    join (count-tells names place native es h k) (lengths-tell names scope native.params es a None [] native.params es a silent)

pub call-tells : (known : Known) (world : tree.World) → DescribesWorld known world → (place : Place) (name : Name) (es : Exprs) → EachItem Fits es → total (to_list es) ≤ limit
    → Tells (walk.call_told known (pos_of place) name es) (tree.list_faults world.scope es ++ tree.native_faults world.scope place (tree.native_of world.project name) es)
call-tells known world w place name es h s =
    let few : list_count es ≤ limit = subst (λ (n : ℕ). n ≤ limit) (listed es) s in
    let k = counted es in
    let a = all-tied known.meaning world.scope w.names es (usable-items es h few) in
    let last : Tells (walk.native_told (pos_of place) (known.native name) (walk.given known.meaning es)) (tree.native_faults world.scope place (tree.native_of world.project name) es) =
    subst (λ (o : Option tree_code.Native). Tells (walk.native_told (pos_of place) (known.native name) (walk.given known.meaning es)) (tree.native_faults world.scope place o es)) (w.native name)
    (native-tells known.meaning world.scope place (known.native name) es a (w.params name) (omega arith)) in
    join (inside-tells known.meaning world.scope None [] es a silent) last

-- Statements

regroup-two : {a : Option Fault} (xs ys zs vs : List tree.Fault) → Tells a (((xs ++ ys) ++ zs) ++ vs) → Tells a (xs ++ ((ys ++ zs) ++ vs))
regroup-two {a} xs ys zs vs t = regroup xs (ys ++ zs) vs (subst (λ (fs : List tree.Fault). Tells a (fs ++ vs)) (append_assoc xs ys zs) t)

sub-tells : (known : Known) (world : tree.World) → DescribesWorld known world → (place : Place) (name : Name)
    → Tells (told.fault_if (not (known.is_sub name)) (pos_of place) code.Unknown) (tree.fault_if (not (tree.has_name world.subs name)) place tree.unknown)
sub-tells known world w place name = rw (w.is_sub name) (if-tells (not (tree.has_name world.subs name)) place code.Unknown)

test-tells : (known : Known) (world : tree.World) → DescribesWorld known world → {before : Option Fault} {xs : List tree.Fault} (e : Expr) → Fits e → expr_count e ≤ limit → Tells before xs
    → Tells (walk.tested known.meaning before e) (xs ++ tree.cell_faults world.scope e)
test-tells known world w e h s t = join t (cell-told known.meaning (tied known.meaning world.scope w.names e h s))

mutual
  pub stmt-tells : (known : Known) (world : tree.World) → DescribesWorld known world → (before : Option Fault) (xs : List tree.Fault) (s : Stmt) → EachStmt Fits s → total (stmt_exprs s) ≤ limit → Tells before xs
      → Tells (walk.stmt_told known before s) (xs ++ tree.stmt_faults world s)
  stmt-tells known world w before xs (stmt line place form) h s t = form-tells known world w before xs place form h s t

  form-tells : (known : Known) (world : tree.World) → DescribesWorld known world → (before : Option Fault) (xs : List tree.Fault) (place : Place) (form : StmtForm) → EachForm Fits form → total (form_exprs form) ≤ limit → Tells before xs
      → Tells (walk.form_told known before (pos_of place) form) (xs ++ tree.stmt_form_faults world place form)
  form-tells known world w before xs place (assign target e) h s t =
      let u = under-append (part_exprs target.part) (e ∷ []) s in
      join t (assigned-tells place (aimed known.meaning world.scope w.names target (usable-part target.part h.0 u.0)) (tied known.meaning world.scope w.names e h.1 (under-cons e [] u.1).0))
  form-tells known world w before xs place (change target op e) h s t =
      let u = under-append (part_exprs target.part) (e ∷ []) s in
      join t (assigned-tells place (aimed known.meaning world.scope w.names target (usable-part target.part h.0 u.0)) (tied known.meaning world.scope w.names e h.1 (under-cons e [] u.1).0))
  form-tells known world w before xs place (bump target op) h s t = join t (aimed known.meaning world.scope w.names target (usable-part target.part h s)).fault
  form-tells known world w before xs place (if_then c body other) h s t =
      let u = under-cons c (stmts_exprs body ++ stmts_exprs other) s in
      let v = under-append (stmts_exprs body) (stmts_exprs other) u.1 in
      let first = test-tells known world w c h.0 u.0 t in
      let second = stmts-tell known world w (walk.tested known.meaning before c) (xs ++ tree.cell_faults world.scope c) body h.1 v.0 first in
      regroup-two xs (tree.cell_faults world.scope c) (tree.stmts_faults world body) (tree.stmts_faults world other)
      (stmts-tell known world w (walk.stmts_told known (walk.tested known.meaning before c) body) ((xs ++ tree.cell_faults world.scope c) ++ tree.stmts_faults world body) other h.2 v.1 second)
  form-tells known world w before xs place (when_do c body) h s t =
      let u = under-cons c (stmts_exprs body) s in
      regroup xs (tree.cell_faults world.scope c) (tree.stmts_faults world body)
      (stmts-tell known world w (walk.tested known.meaning before c) (xs ++ tree.cell_faults world.scope c) body h.1 u.1 (test-tells known world w c h.0 u.0 t))
  form-tells known world w before xs place (while_do c body) h s t =
      let u = under-cons c (stmts_exprs body) s in
      regroup xs (tree.cell_faults world.scope c) (tree.stmts_faults world body)
      (stmts-tell known world w (walk.tested known.meaning before c) (xs ++ tree.cell_faults world.scope c) body h.1 u.1 (test-tells known world w c h.0 u.0 t))
  form-tells known world w before xs place (for_do head body) h s t =
      let u = under-cons head.first (head.last ∷ (option_to_list head.step ++ stmts_exprs body)) s in
      let v = under-cons head.last (option_to_list head.step ++ stmts_exprs body) u.1 in
      let x = under-append (option_to_list head.step) (stmts_exprs body) v.1 in
      regroup xs (tree.head_faults world.scope place head) (tree.stmts_faults world body)
      (stmts-tell known world w (walk.headed known.meaning before (pos_of place) head) (xs ++ tree.head_faults world.scope place head) body h.1 x.1
      (join t (head-tells known.meaning world.scope w.names place head ((h.0.0, u.0), (h.0.1, v.0), usable-option head.step h.0.2 x.0))))
  form-tells known world w before xs place (emit name value) h s t = join t (emit-tells known world w place name value (usable-option value h s))
  form-tells known world w before xs place (callsub name) h s t = join t (sub-tells known world w place name)
  form-tells known world w before xs place (call name es) h s t = join t (call-tells known world w place name es h s)
  form-tells known world w before xs place return h s t = subst (λ (fs : List tree.Fault). Tells before fs) (sym (append-nil xs)) t

  pub stmts-tell : (known : Known) (world : tree.World) → DescribesWorld known world → (before : Option Fault) (xs : List tree.Fault) (ss : Stmts) → EachStmts Fits ss → total (stmts_exprs ss) ≤ limit → Tells before xs
      → Tells (walk.stmts_told known before ss) (xs ++ tree.stmts_faults world ss)
  stmts-tell known world w before xs no_stmts h s t = subst (λ (fs : List tree.Fault). Tells before fs) (sym (append-nil xs)) t
  stmts-tell known world w before xs (stmts one ss) h s t =
      let u = under-append (stmt_exprs one) (stmts_exprs ss) s in
      regroup xs (tree.stmt_faults world one) (tree.stmts_faults world ss)
      (stmts-tell known world w (walk.stmt_told known before one) (xs ++ tree.stmt_faults world one) ss h.1 u.1 (stmt-tells known world w before xs one h.0 u.0 t))
