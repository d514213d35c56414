-- Stack cells of subroutines that are counted one behind the other are those that rounds give.
use Rattle.std.proofs.Common.{◌≡◌, refl, sym, ◌∙◌, ap, ℕ, zero, suc, ◌+◌, ◌≤◌, Bool, true, false, cond, if◌then◌else◌, List, [], ◌∷◌, ◌++◌, length, map, Option, Some, None, arith, append_assoc, true≢false}
use mathlib.Core.Path.{fun_ext}
use mathlib.Core.Logic.{◌⊎◌, inl, inr}
use Rattle.std.specs.Prelude.{nat_eq, not, ◌&&◌, ◌||◌, is_some, option_map, bytes_eq, find, filter, slice_get, unwrap_or}
use Rattle.std.specs.Option.{option_or}
use Rattle.std.specs.Cmp.Lexicographic.{same_text}
use Rattle.std.proofs.lemmas.Bool.{eqb-true}
use Rattle.std.proofs.lemmas.List.{length-append}
use Rattle.aseba_tree.specs.declared.source.Handler as code_handler
use Rattle.aseba_tree.specs.Code.{Name, Handler, stmt, StmtForm, assign, change, bump, if_then, when_do, while_do, for_do, emit, callsub, call, return, Stmts, no_stmts, stmts}
use Rattle.aseba_tree.specs.View.{handler_view}
use Rattle.aseba_check.specs.declared.counting.taken.Taken.{Taken}
use Rattle.aseba_check.specs.Looked.{nothing, first_value}
use Rattle.aseba_check.specs.Parts.{with_place, with_subs}
use Rattle.aseba_check.specs.Statements.{Known as Meanings}
use Rattle.aseba_check.specs.CountedStatements as told
use Rattle.aseba_check.specs.CountedParts as whole
use Rattle.aseba_check.proofs.WorldTies.{or-none, first-at}
use Rattle.aseba_check.proofs.NumbersTotal.{sub_named, depth_in, depths-at}

-- the same stack cells, and perhaps more
abbrev pub Holds : whole.Depths → whole.Depths → Type 0
Holds subs more = (name : Name) (depth : ℕ) → subs name ≡ Some depth → more name ≡ Some depth

both-first : (a b : Bool) → (a && b) ≡ true → a ≡ true
both-first true b e = refl
both-first false b e = e

both-second : (a b : Bool) → (a && b) ≡ true → b ≡ true
both-second true b e = e
both-second false b e = cc

is-there : (o p : Option ℕ) → is_some o ≡ true → ((d : ℕ) → o ≡ Some d → p ≡ Some d) → p ≡ o
is-there (Some d) p e h = h d refl
is-there None p e h = cc

ready-before : (subs : whole.Depths) (before : Bool) (ss : Stmts) → whole.are_ready subs before ss ≡ true → before ≡ true
ready-before subs before no_stmts e = e
ready-before subs before (stmts s ss) e = both-first before (whole.is_ready subs s) (ready-before subs (before && whole.is_ready subs s) ss e)

-- statements that call only what is there take the same
mutual
  same-form : (known : Meanings) (subs more : whole.Depths) → Holds subs more → (jump : ℕ) (form : StmtForm) → whole.is_form_ready subs form ≡ true → told.form_taken known more jump form ≡ told.form_taken known subs jump form
  same-form known subs more h jump (assign target e) r = refl
  same-form known subs more h jump (change target op e) r = refl
  same-form known subs more h jump (bump target op) r = refl
  same-form known subs more h jump (if_then c body other) r =
      let first = same-stmts known subs more h jump told.none_taken true body (both-first (whole.are_ready subs true body) _ r) in
      let second = same-stmts known subs more h jump told.none_taken true other (both-second (whole.are_ready subs true body) _ r) in
      λ i. told.behind (told.behind (told.test_taken known.meaning c) (first i)) (told.with_jump jump other (second i))
  same-form known subs more h jump (when_do c body) r = ap (told.behind (told.test_taken known.meaning c)) (same-stmts known subs more h jump told.none_taken true body r)
  same-form known subs more h jump (while_do c body) r = ap (told.behind (told.longer (told.test_taken known.meaning c) jump)) (same-stmts known subs more h jump told.none_taken true body r)
  same-form known subs more h jump (for_do head body) r = ap (told.behind (told.head_taken known.meaning jump head)) (same-stmts known subs more h jump told.none_taken true body r)
  same-form known subs more h jump (emit name argument) r = refl
  same-form known subs more h jump (callsub name) r = ap told.callsub_taken (is-there (subs name) (more name) r (h name))
  same-form known subs more h jump (call name es) r = refl
  same-form known subs more h jump return r = refl

  pub same-stmts : (known : Meanings) (subs more : whole.Depths) → Holds subs more → (jump : ℕ) (before : Taken) (b : Bool) (ss : Stmts) → whole.are_ready subs b ss ≡ true → told.stmts_taken known more jump before ss ≡ told.stmts_taken known subs jump before ss
  same-stmts known subs more h jump before b no_stmts r = refl
  same-stmts known subs more h jump before b (stmts (stmt line place form) ss) r =
      let own = same-form known subs more h jump form (both-second b _ (ready-before subs (b && whole.is_form_ready subs form) ss r)) in
      ap (λ t. told.stmts_taken known more jump (told.behind before t) ss) own ∙ same-stmts known subs more h jump (told.behind before (told.form_taken known subs jump form)) (b && whole.is_form_ready subs form) ss r

-- The first subroutine of a name

-- the place of the first subroutine of a name, where so many parts stand before these
abbrev place_of : ℕ → List Handler → Name → Option ℕ
place_of k [] name = None
place_of k (h ∷ hs) name = if h.is_sub && bytes_eq h.name name then Some k else place_of (suc k) hs name

or-or : (o : Option ℕ) (b : Bool) (k : ℕ) (r : Option ℕ) → option_or (option_or o (cond b (Some k) None)) r ≡ option_or o (if b then Some k else r)
or-or (Some v) b k r = refl
or-or None true k r = refl
or-or None false k r = refl

subs-place : (places : Name → Option ℕ) (k : ℕ) (hs : List Handler) (name : Name) → with_subs places k hs name ≡ option_or (places name) (place_of k hs name)
subs-place places k [] name = or-none (places name)
subs-place places k (h ∷ hs) name = subs-place (with_place places k h) (suc k) hs name ∙ chosen h.is_sub
  where
    chosen : (b : Bool) → option_or ((cond b (first_value places h.name k) places) name) (place_of (suc k) hs name) ≡ option_or (places name) (if b && bytes_eq h.name name then Some k else place_of (suc k) hs name)
    chosen true = ap (λ o. option_or o (place_of (suc k) hs name)) (first-at places h.name name k) ∙ or-or (places name) (bytes_eq h.name name) k (place_of (suc k) hs name)
    chosen false = refl

at-seam : (pre : List Handler) (h : Handler) (hs : List Handler) → slice_get (pre ++ h ∷ hs) (length pre) ≡ Some h
at-seam [] h hs = refl
at-seam (p ∷ pre) h hs = at-seam pre h hs

named-cond : (name : Name) (b : Bool) (h : Handler) (hs : List Handler) → find (λ g. bytes_eq g.name name) (cond b (h ∷ hs) hs) ≡ cond b (cond (bytes_eq h.name name) (Some h) (find (λ g. bytes_eq g.name name) hs)) (find (λ g. bytes_eq g.name name) hs)
named-cond name true h hs = refl
named-cond name false h hs = refl

place-step : (pre : List Handler) (h : Handler) (hs : List Handler) (r : Option Handler) (later : Option ℕ) (i : ℕ) (b c : Bool) → (if b && c then Some (length pre) else later) ≡ Some i → (later ≡ Some i → slice_get (pre ++ h ∷ hs) i ≡ r)
    → slice_get (pre ++ h ∷ hs) i ≡ cond b (cond c (Some h) r) r
place-step pre h hs r later i true true e next = ap (slice_get (pre ++ h ∷ hs)) (sym (ap (λ o. unwrap_or o 0) e)) ∙ at-seam pre h hs
place-step pre h hs r later i true false e next = next e
place-step pre h hs r later i false c e next = next e

place-named : (pre hs : List Handler) (name : Name) (i : ℕ) → place_of (length pre) hs name ≡ Some i → slice_get (pre ++ hs) i ≡ sub_named hs name
place-named pre [] name i e = cc
place-named pre (h ∷ hs) name i e =
    let long : suc (length pre) ≡ length (pre ++ h ∷ []) = let l = length-append pre (h ∷ []) in omega arith in
    place-step pre h hs (sub_named hs name) (place_of (suc (length pre)) hs name) i h.is_sub (bytes_eq h.name name) e
    (λ q. ap (λ l. slice_get l i) (sym (append_assoc pre (h ∷ []) hs)) ∙ place-named (pre ++ h ∷ []) hs name i (ap (λ k. place_of k hs name) (sym long) ∙ q))
    ∙ sym (named-cond name h.is_sub h (filter (λ g. g.is_sub) hs))

first-named : (hs : List Handler) (name : Name) (i : ℕ) → with_subs nothing 0 hs name ≡ Some i → slice_get hs i ≡ sub_named hs name
first-named hs name i e = place-named [] hs name i (sym (subs-place nothing 0 hs name) ∙ e)

got-view : (hs : List code_handler.Handler) (i : ℕ) (h : code_handler.Handler) → slice_get hs i ≡ Some h → slice_get (map handler_view hs) i ≡ Some (handler_view h)
got-view [] i h e = cc
got-view (x ∷ hs) zero h e = ap (option_map handler_view) e
got-view (x ∷ hs) (suc i) h e = got-view hs i h e

-- the part of a place is the first subroutine of its name
first-is : (parts : List code_handler.Handler) (places : Name → Option ℕ) → places ≡ with_subs nothing 0 (map handler_view parts) → (place : ℕ) (h : code_handler.Handler) → slice_get parts place ≡ Some h → whole.is_first places place (handler_view h) ≡ true
    → sub_named (map handler_view parts) h.name ≡ Some (handler_view h)
first-is parts places e place h got first =
    let at : places h.name ≡ Some place = by-case (places h.name) refl first in
    sym (first-named (map handler_view parts) h.name place (ap (λ f. f h.name) (sym e) ∙ at)) ∙ got-view parts place h got
  where
    by-case : (o : Option ℕ) → places h.name ≡ o → whole.is_first places place (handler_view h) ≡ true → o ≡ Some place
    by-case None q f = absurd (let wrong : false ≡ true = (let r : whole.is_first places place (handler_view h) ≡ false = rw q refl in sym r ∙ f) in cc)
    by-case (Some n) q f = ap Some (eqb-true n place (both-second h.is_sub (nat_eq n place) (let r : whole.is_first places place (handler_view h) ≡ (h.is_sub && nat_eq n place) = rw q refl in sym r ∙ f)))

-- One more

with-new : (S : whole.Depths) (key name : Name) (d e : ℕ) → first_value S key d name ≡ Some e → (S name ≡ Some e) ⊎ ((key ≡ name) × (d ≡ e))
with-new S key name d e q = chosen (S name) refl (bytes_eq key name) refl (sym (first-at S key name d) ∙ q)
  where
    chosen : (o : Option ℕ) → S name ≡ o → (b : Bool) → bytes_eq key name ≡ b → option_or (S name) (cond (bytes_eq key name) (Some d) None) ≡ Some e → (S name ≡ Some e) ⊎ ((key ≡ name) × (d ≡ e))
    chosen (Some v) p b r x = inl (p ∙ (let y : option_or (Some v) (cond (bytes_eq key name) (Some d) None) ≡ Some e = ap (λ o. option_or o (cond (bytes_eq key name) (Some d) None)) (sym p) ∙ x in y))
    chosen None p true r x = inr (same_text key name (sym r), (let y : option_or None (cond true (Some d) None) ≡ Some e = sym (λ i. option_or (p i) (cond (r i) (Some d) None)) ∙ x in ap (λ o. unwrap_or o 0) y))
    chosen None p false r x = absurd (let y : option_or None (cond false (Some d) None) ≡ Some e = sym (λ i. option_or (p i) (cond (r i) (Some d) None)) ∙ x in cc)

-- where a subroutine calls only what is settled, its own stack cells are settled one deeper
settled-one : (known : Meanings) (jump : ℕ) (parts : List Handler) (S : whole.Depths) (deep : ℕ) → whole.AreSettled known jump parts S deep → (h : Handler) → sub_named parts h.name ≡ Some h → whole.are_ready S true h.body ≡ true
    → (n : ℕ) → suc deep ≤ n → whole.depths_after known jump parts n h.name ≡ Some (depth_in known jump S h)
settled-one known jump parts S deep settled h named ready zero le = absurd (omega arith)
settled-one known jump parts S deep settled h named ready (suc n) le =
    depths-at known jump (whole.depths_after known jump parts n) nothing parts h.name ∙ ap (option_map (depth_in known jump (whole.depths_after known jump parts n))) named
    ∙ ap (λ (t : Taken). Some t.depth) (same-stmts known S (whole.depths_after known jump parts n) (λ name d q. settled name d q n (omega arith)) jump told.none_taken true h.body ready)

pub settles-one : (known : Meanings) (jump : ℕ) (parts : List Handler) (S : whole.Depths) (h : Handler) → sub_named parts h.name ≡ Some h → whole.are_ready S true h.body ≡ true → whole.Settles known jump parts S (first_value S h.name (depth_in known jump S h))
settles-one known jump parts S h named ready deep settled name d q n le = by-case (with-new S h.name name (depth_in known jump S h) d q)
  where
    by-case : (S name ≡ Some d) ⊎ ((h.name ≡ name) × (depth_in known jump S h ≡ d)) → whole.depths_after known jump parts n name ≡ Some d
    by-case (inl p) = settled name d p n (omega arith)
    by-case (inr p) = ap (whole.depths_after known jump parts n) (sym p.0) ∙ settled-one known jump parts S deep settled h named ready n le ∙ ap Some p.1

pub settles-none : (known : Meanings) (jump : ℕ) (parts : List Handler) (S : whole.Depths) → whole.Settles known jump parts S S
settles-none known jump parts S deep settled name d q n le = settled name d q n (omega arith)

pub settles-first : (known : Meanings) (jump : ℕ) (parts : List code_handler.Handler) (places : Name → Option ℕ) → places ≡ with_subs nothing 0 (map handler_view parts) → (S : whole.Depths) (place : ℕ) (h : code_handler.Handler) → slice_get parts place ≡ Some h
    → whole.is_first places place (handler_view h) ≡ true → whole.are_ready S true (handler_view h).body ≡ true → whole.Settles known jump (map handler_view parts) S (first_value S h.name (depth_in known jump S (handler_view h)))
settles-first known jump parts places e S place h got first ready = settles-one known jump (map handler_view parts) S (handler_view h) (first-is parts places e place h got first) ready

-- All of them

settled-before : (S : whole.Depths) (before : Bool) (hs : List Handler) → whole.all_settled S before hs ≡ true → before ≡ true
settled-before S before [] e = e
settled-before S before (h ∷ hs) e = both-first before (whole.is_settled S h) (settled-before S (before && whole.is_settled S h) hs e)

or-left : (a b : Bool) → (a || b) ≡ true → a ≡ false → b ≡ true
or-left true b e f = cc
or-left false b e f = e

not-true : (a : Bool) → a ≡ true → not a ≡ false
not-true true e = refl
not-true false e = cc

-- a name that has no stack cells where all are there is no subroutine's
no-sub : (S : whole.Depths) (before : Bool) (hs : List Handler) → whole.all_settled S before hs ≡ true → (name : Name) → S name ≡ None → sub_named hs name ≡ None
no-sub S before [] e name none = refl
no-sub S before (h ∷ hs) e name none =
    let rest = no-sub S (before && whole.is_settled S h) hs e name none in
    let own = both-second before (whole.is_settled S h) (settled-before S (before && whole.is_settled S h) hs e) in
    named-cond name h.is_sub h (filter (λ g. g.is_sub) hs) ∙ chosen h.is_sub refl (bytes_eq h.name name) refl own rest
  where
    chosen : (b : Bool) → h.is_sub ≡ b → (c : Bool) → bytes_eq h.name name ≡ c → (not h.is_sub || is_some (S h.name)) ≡ true → sub_named hs name ≡ None → cond b (cond c (Some h) (sub_named hs name)) (sub_named hs name) ≡ None
    chosen false p c r own rest = rest
    chosen true p false r own rest = rest
    chosen true p true r own rest =
        let there = or-left (not h.is_sub) (is_some (S h.name)) own (not-true h.is_sub p) in
        let gone : S h.name ≡ None = ap S (same_text h.name name (sym r)) ∙ none in
        absurd (true≢false (sym there ∙ ap is_some gone))

after-none : (known : Meanings) (jump : ℕ) (parts : List Handler) (n : ℕ) (name : Name) → sub_named parts name ≡ None → whole.depths_after known jump parts n name ≡ None
after-none known jump parts zero name e = refl
after-none known jump parts (suc n) name e =
    depths-at known jump (whole.depths_after known jump parts n) nothing parts name ∙ ap (option_map (depth_in known jump (whole.depths_after known jump parts n))) e

pub all-settled : (known : Meanings) (jump : ℕ) (parts : List Handler) (S : whole.Depths) (deep n : ℕ) → whole.AreSettled known jump parts S deep → deep ≤ n → whole.all_settled S true parts ≡ true → S ≡ whole.depths_after known jump parts n
all-settled known jump parts S deep n settled le all = fun_ext (λ name. by-case name (S name) refl)
  where
    by-case : (name : Name) (o : Option ℕ) → S name ≡ o → S name ≡ whole.depths_after known jump parts n name
    by-case name None q = q ∙ sym (after-none known jump parts n name (no-sub S true parts all name q))
    by-case name (Some d) q = q ∙ sym (settled name d q n le)
