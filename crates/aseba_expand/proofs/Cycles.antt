-- No part of the element form leads to itself.
use Rattle.std.proofs.Common.{◌≡◌, refl, sym, ◌∙◌, ap, subst, ℕ, zero, suc, ◌+◌, Bool, true, false, not, ◌&&◌, ◌||◌, if◌then◌else◌, List, [], ◌∷◌, ◌++◌, arith, Option, Some, None, length, map, append_assoc, append-nil, ◌⊎◌, inl, inr, nat_eq}
use Rattle.std.specs.Prelude.{cond, slice_get, option_map, unwrap_or, bytes_eq}
use Rattle.std.specs.List.{list_all, list_any, range_with_len, position_or_len}
use Rattle.std.specs.Bool.{beq}
use Rattle.std.proofs.lemmas.Bool.{eqb-true}
use Rattle.std.proofs.lemmas.List.{map-append}
use Rattle.std.proofs.lemmas.Slice.Eq.{bytes_eq-Decides}
use Rattle.aseba_tree.specs.Code.{Name, Place, Expr, Part, all, at, span, Stmt, stmt, StmtForm, assign, change, bump, if_then, when_do, while_do, for_do, emit, callsub, call, return, Stmts, no_stmts, stmts, Handler}
use Rattle.aseba_tree.specs.State.{Program}
use Rattle.aseba_tree.specs.Faults.{Call, stmt_calls, form_calls, stmts_calls, sub_calls, recursion_faults}
use Rattle.aseba_tree.specs.CoreExpr.{CoreExpr, into}
use Rattle.aseba_tree.specs.Core.{CoreStmts, no_core}
use Rattle.aseba_tree.specs.CoreShape.{entered_by_list, entered_from, leads_to, has_no_cycle, is_sub_part}
use Rattle.aseba_tree.specs.Numbers.{fresh_elements, fresh_of_list}
use Rattle.aseba_tree.specs.Elements.{elements_of, changed_elements, bumped_elements, element_of}
use Rattle.aseba_tree.specs.Layout.{cells_of_variables}
use Rattle.aseba_expand.specs.Plain.{start_of, size_of, part_addresses, storing, kept, moved, stored_in, stored_by, assigning, sending, for_next, sub_place, plain, plain_form, all_plain, plain_part, plain_core}
use Rattle.aseba_expand.proofs.Graph.{IsIn, Way, NoCycle, no-cycle, stay, go}
use Rattle.aseba_expand.proofs.Shaped.{FindsSub, Finds, FindsIn, FindsAll}
use Rattle.aseba_expand.proofs.Found.{PartsFind}
use Rattle.aseba_expand.proofs.Called.{sent_row, called_row}
use Rattle.aseba_check.proofs.CycleLaws.{either, and-left, and-right, cases, not-true}

-- The subroutines that statements enter

kept-enter : (line from : ℕ) (es : List CoreExpr) (behind : CoreStmts) → entered_by_list (kept line from es behind) ≡ entered_by_list behind
kept-enter line from [] behind = refl
kept-enter line from (x ∷ es) behind = kept-enter line (suc from) es behind

moved-enter : (line from : ℕ) (cs : List ℕ) (behind : CoreStmts) → entered_by_list (moved line from cs behind) ≡ entered_by_list behind
moved-enter line from [] behind = refl
moved-enter line from (c ∷ cs) behind = moved-enter line (suc from) cs behind

stored-enter : (line t : ℕ) (cs : List ℕ) (es : List CoreExpr) (behind : CoreStmts) → entered_by_list (stored_in line t cs es behind) ≡ entered_by_list behind
stored-enter line t [] es behind = kept-enter line t es behind
stored-enter line t (c ∷ cs) [] behind = moved-enter line t (c ∷ cs) behind
stored-enter line t (c ∷ cs) (x ∷ []) behind = refl
stored-enter line t (c ∷ cs) (x ∷ y ∷ es) behind = kept-enter line t (x ∷ y ∷ es) (moved line t (c ∷ cs) behind) ∙ moved-enter line t (c ∷ cs) behind

indexed-enter : (line a n : ℕ) (i : CoreExpr) (es : List CoreExpr) (behind : CoreStmts) → entered_by_list (stored_by line a n i es behind) ≡ entered_by_list behind
indexed-enter line a n i [] behind = refl
indexed-enter line a n i (e ∷ es) behind = indexed-enter line a n i es behind

assigned-enter : (program : Program) (line : ℕ) (here : Place) (name : Name) (part : Part) (es : List CoreExpr) (behind : CoreStmts) → entered_by_list (assigning program line (record { place = here; name = name; part = part }) es behind) ≡ entered_by_list behind
assigned-enter program line here name all es behind = stored-enter line (cells_of_variables program) (part_addresses program name all) es behind
assigned-enter program line here name (at i) es behind = indexed-enter line (start_of program name) (size_of program name) (element_of program i) es behind
assigned-enter program line here name (span c d) es behind = stored-enter line (cells_of_variables program) (part_addresses program name (span c d)) es behind

sent-enter : (program : Program) (line : ℕ) (name : Name) (argument : Option Expr) (behind : CoreStmts) → entered_by_list (sending program line name argument behind) ≡ entered_by_list behind
sent-enter program line name None behind = refl
sent-enter program line name (Some e) behind = kept-enter line (cells_of_variables program) (fresh_elements program e) (sent_row program line name e behind)

-- the places of the subroutines that are called
abbrev places_called : Program → List Call → List ℕ
places_called program cs = map (λ c. sub_place program c.called) cs

places-append : (program : Program) (xs ys : List Call) (behind : List ℕ) → places_called program (xs ++ ys) ++ behind ≡ places_called program xs ++ (places_called program ys ++ behind)
places-append program xs ys behind = ap (λ l. l ++ behind) (map-append (λ (c : Call). sub_place program c.called) xs ys) ∙ append_assoc (places_called program xs) (places_called program ys) behind

mutual
  stmt-enter : (program : Program) (caller : Name) (s : Stmt) (behind : CoreStmts) → entered_by_list (plain program s behind) ≡ places_called program (stmt_calls caller s) ++ entered_by_list behind
  stmt-enter program caller (stmt line place form) behind = form-enter program caller line place form behind

  form-enter : (program : Program) (caller : Name) (line : ℕ) (place : Place) (form : StmtForm) (behind : CoreStmts) → entered_by_list (plain_form program line form behind) ≡ places_called program (form_calls caller place form) ++ entered_by_list behind
  form-enter program caller line place (assign target e) behind = assigned-enter program line target.place target.name target.part (elements_of program e) behind
  form-enter program caller line place (change target op e) behind = assigned-enter program line target.place target.name target.part (changed_elements program target op e) behind
  form-enter program caller line place (bump target op) behind = assigned-enter program line target.place target.name target.part (bumped_elements program target op) behind
  form-enter program caller line place (if_then c body other) behind =
      ap (λ l. l ++ entered_by_list (all_plain program other no_core) ++ entered_by_list behind) (whole-enter program caller body)
      ∙ ap (λ l. places_called program (stmts_calls caller body) ++ l ++ entered_by_list behind) (whole-enter program caller other)
      ∙ ap (λ l. l ++ entered_by_list behind) (sym (map-append (λ (c : Call). sub_place program c.called) (stmts_calls caller body) (stmts_calls caller other)))
  form-enter program caller line place (when_do c body) behind = ap (λ l. l ++ entered_by_list behind) (whole-enter program caller body)
  form-enter program caller line place (while_do c body) behind = ap (λ l. l ++ entered_by_list behind) (whole-enter program caller body)
  form-enter program caller line place (for_do head body) behind =
      let next = storing line (into (start_of program head.name)) (for_next program head) no_core in
      ap (λ l. l ++ entered_by_list behind) (list-enter program caller body next ∙ append-nil (places_called program (stmts_calls caller body)))
  form-enter program caller line place (emit name argument) behind = sent-enter program line name argument behind
  form-enter program caller line place (callsub name) behind = refl
  form-enter program caller line place (call name es) behind = kept-enter line (cells_of_variables program) (fresh_of_list program es) (called_row program line name es behind)
  form-enter program caller line place return behind = refl

  list-enter : (program : Program) (caller : Name) (ss : Stmts) (behind : CoreStmts) → entered_by_list (all_plain program ss behind) ≡ places_called program (stmts_calls caller ss) ++ entered_by_list behind
  list-enter program caller no_stmts behind = refl
  list-enter program caller (stmts s ss) behind =
      stmt-enter program caller s (all_plain program ss behind) ∙ ap (λ l. places_called program (stmt_calls caller s) ++ l) (list-enter program caller ss behind)
      ∙ sym (places-append program (stmt_calls caller s) (stmts_calls caller ss) (entered_by_list behind))

  whole-enter : (program : Program) (caller : Name) (ss : Stmts) → entered_by_list (all_plain program ss no_core) ≡ places_called program (stmts_calls caller ss)
  whole-enter program caller no_stmts = refl
  whole-enter program caller (stmts s ss) =
      stmt-enter program caller s (all_plain program ss no_core) ∙ ap (λ l. places_called program (stmt_calls caller s) ++ l) (whole-enter program caller ss)
      ∙ sym (map-append (λ (c : Call). sub_place program c.called) (stmt_calls caller s) (stmts_calls caller ss))

-- The calls of a body

-- each has that caller, and its subroutine is there
abbrev AllFine : Program → Name → List Call → Type 0
AllFine program caller [] = Unit {0}
AllFine program caller (c ∷ cs) = (c.caller ≡ caller) × FindsSub program c.called × AllFine program caller cs

fine-append : (program : Program) (caller : Name) (xs ys : List Call) → AllFine program caller xs → AllFine program caller ys → AllFine program caller (xs ++ ys)
fine-append program caller [] ys h k = k
fine-append program caller (x ∷ xs) ys h k = (h.0, h.1, fine-append program caller xs ys h.2 k)

mutual
  stmt-fine : (program : Program) (caller : Name) (s : Stmt) → Finds program s → AllFine program caller (stmt_calls caller s)
  stmt-fine program caller (stmt line place form) f = form-fine program caller place form f

  form-fine : (program : Program) (caller : Name) (place : Place) (form : StmtForm) → FindsIn program form → AllFine program caller (form_calls caller place form)
  form-fine program caller place (assign target e) f = tt
  form-fine program caller place (change target op e) f = tt
  form-fine program caller place (bump target op) f = tt
  form-fine program caller place (if_then c body other) f = fine-append program caller (stmts_calls caller body) (stmts_calls caller other) (list-fine program caller body f.0) (list-fine program caller other f.1)
  form-fine program caller place (when_do c body) f = list-fine program caller body f
  form-fine program caller place (while_do c body) f = list-fine program caller body f
  form-fine program caller place (for_do head body) f = list-fine program caller body f
  form-fine program caller place (emit name argument) f = tt
  form-fine program caller place (callsub name) f = (refl, f, tt)
  form-fine program caller place (call name es) f = tt
  form-fine program caller place return f = tt

  list-fine : (program : Program) (caller : Name) (ss : Stmts) → FindsAll program ss → AllFine program caller (stmts_calls caller ss)
  list-fine program caller no_stmts f = tt
  list-fine program caller (stmts s ss) f = fine-append program caller (stmt_calls caller s) (stmts_calls caller ss) (stmt-fine program caller s f.0) (list-fine program caller ss f.1)

is-true : (a : Bool) → beq a true ≡ true → a ≡ true
is-true true e = refl
is-true false e = cc

-- a subroutine that is there, at its place
pub record SubAt (program : Program) (name : Name) : Type 0 where
  pub sub : Handler
  pub here : slice_get program.source.parts (sub_place program name) ≡ Some sub
  pub is_sub : sub.is_sub ≡ true
  pub named : sub.name ≡ name

sub-at : (program : Program) (name : Name) → FindsSub program name → SubAt program name
sub-at program name f = of (by program.source.parts f)
  where
    place : List Handler → ℕ
    place hs = position_or_len (λ h. beq h.is_sub true && bytes_eq h.name name) hs

    by : (hs : List Handler) → is_sub_part (slice_get (map (plain_part program) hs) (place hs)) ≡ true → (h : Handler) × (slice_get hs (place hs) ≡ Some h) × (h.is_sub ≡ true) × (h.name ≡ name)
    by [] e = cc
    by (h ∷ hs) e = pick (beq h.is_sub true && bytes_eq h.name name) refl e (λ g. by hs g)
      where
        next : (k : ℕ) → (x : Handler) × (slice_get hs k ≡ Some x) × (x.is_sub ≡ true) × (x.name ≡ name) → (x : Handler) × (slice_get (h ∷ hs) (1 + k) ≡ Some x) × (x.is_sub ≡ true) × (x.name ≡ name)
        next k r = let up : 1 + k ≡ suc k = omega arith in (r.0, ap (slice_get (h ∷ hs)) up ∙ r.1, r.2, r.3)

        pick : (b : Bool) → (beq h.is_sub true && bytes_eq h.name name) ≡ b → is_sub_part (slice_get (map (plain_part program) (h ∷ hs)) (cond (not b) (1 + place hs) 0)) ≡ true
            → (is_sub_part (slice_get (map (plain_part program) hs) (place hs)) ≡ true → (x : Handler) × (slice_get hs (place hs) ≡ Some x) × (x.is_sub ≡ true) × (x.name ≡ name))
            → (x : Handler) × (slice_get (h ∷ hs) (cond (not b) (1 + place hs) 0) ≡ Some x) × (x.is_sub ≡ true) × (x.name ≡ name)
        pick true t e deeper = (h, refl, is-true h.is_sub (and-left (beq h.is_sub true) (bytes_eq h.name name) t), (bytes_eq-Decides h.name name).0 (and-right (beq h.is_sub true) (bytes_eq h.name name) t))
        pick false t e deeper =
            let up : 1 + place hs ≡ suc (place hs) = omega arith in
            next (place hs) (deeper (ap (λ k. is_sub_part (slice_get (map (plain_part program) (h ∷ hs)) k)) (sym up) ∙ e))

    of : (h : Handler) × (slice_get program.source.parts (sub_place program name) ≡ Some h) × (h.is_sub ≡ true) × (h.name ≡ name) → SubAt program name
    of r = record { sub = r.0; here = r.1; is_sub = r.2; named = r.3 }

in-left : (xs ys : List Call) (c : Call) → IsIn c xs → IsIn c (xs ++ ys)
in-left [] ys c i = absurd i
in-left (x ∷ xs) ys c (inl e) = inl e
in-left (x ∷ xs) ys c (inr i) = inr (in-left xs ys c i)

in-right : (xs ys : List Call) (c : Call) → IsIn c ys → IsIn c (xs ++ ys)
in-right [] ys c i = i
in-right (x ∷ xs) ys c i = inr (in-right xs ys c i)

-- the calls of a subroutine are among those of the source
calls-in : (hs : List Handler) (k : ℕ) (h : Handler) → slice_get hs k ≡ Some h → h.is_sub ≡ true → (c : Call) → IsIn c (stmts_calls h.name h.body) → IsIn c (sub_calls hs)
calls-in [] k h e s c i = cc
calls-in (x ∷ xs) zero h e s c i = let same : x ≡ h = cc in in-left (if x.is_sub then stmts_calls x.name x.body else []) (sub_calls xs) c (rw (same, s) i)
calls-in (x ∷ xs) (suc k) h e s c i = in-right (if x.is_sub then stmts_calls x.name x.body else []) (sub_calls xs) c (calls-in xs k h e s c i)

parts-at : (program : Program) (hs : List Handler) (k : ℕ) (h : Handler) → PartsFind program hs → slice_get hs k ≡ Some h → FindsAll program h.body
parts-at program [] k h f e = cc
parts-at program (x ∷ xs) zero h f e = let same : x ≡ h = cc in subst (λ y. FindsAll program y.body) same f.0
parts-at program (x ∷ xs) (suc k) h f e = parts-at program xs k h f.1 e

-- Leading

get-map : {A B : Type 0} (f : A → B) (xs : List A) (k : ℕ) → slice_get (map f xs) k ≡ option_map f (slice_get xs k)
get-map f [] k = refl
get-map f (x ∷ xs) zero = refl
get-map f (x ∷ xs) (suc k) = get-map f xs k

any-call : (program : Program) (p : ℕ → Bool) (cs : List Call) → list_any p (places_called program cs) ≡ true → (c : Call) × IsIn c cs × (p (sub_place program c.called) ≡ true)
any-call program p [] e = cc
any-call program p (c ∷ cs) e =
    cases (either (p (sub_place program c.called)) (list_any p (places_called program cs)) e) (λ g. (c, inl refl, g)) (λ g. let r = any-call program p cs g in (r.0, inr r.1, r.2))

fine-in : (program : Program) (caller : Name) (cs : List Call) (c : Call) → AllFine program caller cs → IsIn c cs → (c.caller ≡ caller) × FindsSub program c.called
fine-in program caller [] c f i = absurd i
fine-in program caller (d ∷ ds) c f (inl e) = rw e (f.0, f.1)
fine-in program caller (d ∷ ds) c f (inr i) = fine-in program caller ds c f.2 i

-- a call of a part, by which it leads to another
record Led (program : Program) (h : Handler) (to : ℕ) : Type 0 where
  pub call : Call
  pub caller : call.caller ≡ h.name
  pub inside : h.is_sub ≡ true → IsIn call (sub_calls program.source.parts)
  pub goal : Handler
  pub there : slice_get program.source.parts to ≡ Some goal
  pub is_sub : goal.is_sub ≡ true
  pub way : Way (sub_calls program.source.parts) call.called goal.name

led : (program : Program) → PartsFind program program.source.parts → (n from to : ℕ) (h : Handler) → slice_get program.source.parts from ≡ Some h → leads_to (plain_core program) n from to ≡ true → Led program h to
led program f zero from to h e k = cc
led program f (suc n) from to h e k =
    let enters : entered_from (plain_core program) from ≡ places_called program (stmts_calls h.name h.body) =
    ap (λ o. unwrap_or (option_map (λ part. entered_by_list part.body) o) []) (get-map (plain_part program) program.source.parts from ∙ ap (option_map (plain_part program)) e) ∙ whole-enter program h.name h.body in
    let found = any-call program (λ which. nat_eq which to || leads_to (plain_core program) n which to) (stmts_calls h.name h.body) (ap (list_any (λ which. nat_eq which to || leads_to (plain_core program) n which to)) (sym enters) ∙ k) in
    let fine = fine-in program h.name (stmts_calls h.name h.body) found.0 (list-fine program h.name h.body (parts-at program program.source.parts from h f e)) found.1 in
    let g = sub-at program (found.0).called fine.1 in
    of found.0 found.1 fine.0 g (either (nat_eq (sub_place program (found.0).called) to) (leads_to (plain_core program) n (sub_place program (found.0).called) to) found.2)
    (λ l. led program f n (sub_place program (found.0).called) to g.sub g.here l)
  where
    of : (c : Call) → IsIn c (stmts_calls h.name h.body) → c.caller ≡ h.name → (g : SubAt program c.called) → (nat_eq (sub_place program c.called) to ≡ true) ⊎ (leads_to (plain_core program) n (sub_place program c.called) to ≡ true)
        → (leads_to (plain_core program) n (sub_place program c.called) to ≡ true → Led program g.sub to) → Led program h to
    of c i caller g (inl q) deeper = record {
      call = c;
      caller = caller;
      inside = λ s. calls-in program.source.parts from h e s c i;
      goal = g.sub;
      there = ap (slice_get program.source.parts) (sym (eqb-true (sub_place program c.called) to q)) ∙ g.here;
      is_sub = g.is_sub;
      way = subst (λ x. Way (sub_calls program.source.parts) c.called x) (sym g.named) (stay (sub_calls program.source.parts) c.called);
    }
    of c i caller g (inr q) deeper =
        let rest = deeper q in
        record {
          call = c;
          caller = caller;
          inside = λ s. calls-in program.source.parts from h e s c i;
          goal = rest.goal;
          there = rest.there;
          is_sub = rest.is_sub;
          way = subst (λ x. Way (sub_calls program.source.parts) x rest.goal.name) (rest.caller ∙ g.named) (go (sub_calls program.source.parts) rest.call rest.goal.name (rest.inside g.is_sub) rest.way);
        }

leads-nowhere : (program : Program) → NoCycle (sub_calls program.source.parts) → PartsFind program program.source.parts → (n which : ℕ) → leads_to (plain_core program) n which which ≡ false
leads-nowhere program none f n which = not-true (leads_to (plain_core program) n which which) (λ k. of (slice_get program.source.parts which) refl n k)
  where
    nothing-from : (n : ℕ) → slice_get program.source.parts which ≡ None → leads_to (plain_core program) n which which ≡ true → ⊥
    nothing-from zero e k = cc
    nothing-from (suc n) e k =
        let enters : entered_from (plain_core program) which ≡ [] = ap (λ o. unwrap_or (option_map (λ part. entered_by_list part.body) o) []) (get-map (plain_part program) program.source.parts which ∙ ap (option_map (plain_part program)) e) in
        let bad : false ≡ true = ap (list_any (λ x. nat_eq x which || leads_to (plain_core program) n x which)) (sym enters) ∙ k in cc

    of : (o : Option Handler) → slice_get program.source.parts which ≡ o → (n : ℕ) → leads_to (plain_core program) n which which ≡ true → ⊥
    of None e n k = nothing-from n e k
    of (Some h) e n k =
        let l = led program f n which which h e k in
        let same : h ≡ l.goal = some-same h l.goal (sym e ∙ l.there) in
        let is_sub : h.is_sub ≡ true = ap (λ x. x.is_sub) same ∙ l.is_sub in
        none l.call (l.inside is_sub) (subst (λ x. Way (sub_calls program.source.parts) (l.call).called x) (ap (λ x. x.name) (sym same) ∙ sym l.caller) l.way)
      where
        some-same : (a b : Handler) → Some a ≡ Some b → a ≡ b
        some-same a b e = cc

pub ends : (program : Program) → recursion_faults [] (sub_calls program.source.parts) ≡ [] → PartsFind program program.source.parts → has_no_cycle (plain_core program) ≡ true
ends program e f = by (range_with_len 0 (length (plain_core program).parts))
  where
    by : (ks : List ℕ) → list_all (λ which. not (leads_to (plain_core program) (length (plain_core program).parts) which which)) ks ≡ true
    by [] = refl
    by (k ∷ ks) = rw (leads-nowhere program (no-cycle (sub_calls program.source.parts) e) f (length (plain_core program).parts) k) (by ks)
