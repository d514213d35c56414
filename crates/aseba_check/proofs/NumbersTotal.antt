-- What is counted of a whole source without a fault is what the definitions say of it.
use Rattle.std.proofs.Common.{◌≡◌, refl, sym, ◌∙◌, ap, ℕ, zero, suc, ◌+◌, ◌*◌, ◌-◌, ◌≤◌, max, Bool, true, false, cond, if◌then◌else◌, List, [], ◌∷◌, ◌++◌, length, map, Option, Some, None, arith}
use Rattle.std.specs.Prelude.{not, option_map, option_to_list, unwrap_or, IfSome, bytes_eq, find, filter, filter_map, flat_map, sum_by}
use Rattle.std.specs.List.{list_all, cons_option, AllByRecursion}
use Rattle.std.specs.Option.{option_or}
use Rattle.std.proofs.lemmas.List.Sums.{sum_by-cons}
use Rattle.aseba_tree.specs.Code.{Name, Expr, Decl, Handler, Stmts, Stmt, stmt, assign, all}
use Rattle.aseba_tree.specs.State.{Program, in_front, assignment}
use Rattle.aseba_tree.specs.Faults.{World, expr_faults, stmts_faults, parts_faults, part_name_faults}
use Rattle.aseba_tree.specs.Elements.{elements_of}
use Rattle.aseba_tree.specs.Shape.{is_filled, decl_exprs, stmts_exprs, stmts_count}
use Rattle.aseba_tree.specs.Numbers.{greatest, jump_words, stmts_words, stmts_depth, stmts_room, part_words, source_words, source_depth, source_room, sub_body, sub_depth, depth_of_sub}
use Rattle.aseba_tree.proofs.SizeLaws.{nil_left, nil_right}
use Rattle.aseba_tree.proofs.ElementLaws.{laid_scope}
use Rattle.aseba_check.specs.declared.counting.taken.Taken.{Taken}
use Rattle.aseba_check.specs.Looked.{nothing, first_value}
use Rattle.aseba_check.specs.Statements.{Known as Meanings}
use Rattle.aseba_check.specs.Places.{sum_up}
use Rattle.aseba_check.specs.CountedStatements as told
use Rattle.aseba_check.specs.CountedParts as whole
use Rattle.aseba_check.proofs.WorldTies.{or-none, first-at, one-more}
use Rattle.aseba_check.proofs.WalkTies.{total}
use Rattle.aseba_check.proofs.NumbersHeld.{held, greatest-cons}
use Rattle.aseba_check.proofs.NumbersExprs.{expr-many}
use Rattle.aseba_check.proofs.NumbersStatements.{Ready, laid_world, taken_of, same-taken, behind-is, longer-is, behind-both, stored-is, counted-here, stmts-are, alone-filled}
use Rattle.aseba_check.proofs.NumbersLimits.{IsFine, fine-left, fine-right, under-stmts, value_words, value_depth, value_room}
use Rattle.aseba_check.proofs.NumbersValues.{ValuesHaveNone}

-- Parts

-- no part's statements have a fault
abbrev pub PartsHaveNone : World → List Handler → Type 0
PartsHaveNone world [] = Unit {0}
PartsHaveNone world (h ∷ hs) = (stmts_faults world h.body ≡ []) × PartsHaveNone world hs

pub parts-have-none : (world : World) (before hs : List Handler) → parts_faults world before hs ≡ [] → PartsHaveNone world hs
parts-have-none world before [] none = tt
parts-have-none world before (h ∷ hs) none =
    let own = nil_left (part_name_faults world.project before h ++ stmts_faults world h.body) _ none in
    (nil_right (part_name_faults world.project before h) _ own, parts-have-none world (before ++ h ∷ []) hs (nil_right (part_name_faults world.project before h ++ stmts_faults world h.body) _ none))

-- the expressions of parts
abbrev pub parts_exprs : List Handler → List Expr
parts_exprs hs = flat_map (λ h. stmts_exprs h.body) hs

-- A part of which all is known that is needed: no fault, no deep nesting, and no more statements and expressions than this.
pub record IsFit (program : Program) (called : List Name) (most : ℕ) (h : Handler) : Type 0 where
  pub fine : IsFine (stmts_exprs h.body)
  pub none : stmts_faults (laid_world program called) h.body ≡ []
  pub few : stmts_count h.body + total (stmts_exprs h.body) ≤ most

found-cond : (P : Handler → Type 0) (b : Bool) (h : Handler) (o : Option Handler) → P h → IfSome o P → IfSome (cond b (Some h) o) P
found-cond P true h o p q = p
found-cond P false h o p q = q

pub found-has : (P : Handler → Type 0) (is-it : Handler → Bool) (hs : List Handler) → AllByRecursion P hs → IfSome (find is-it (filter (λ h. h.is_sub) hs)) P
found-has P is-it [] a = tt
found-has P is-it (h ∷ hs) a = chosen h.is_sub (found-has P is-it hs a.1)
  where
    chosen : (b : Bool) → IfSome (find is-it (filter (λ g. g.is_sub) hs)) P → IfSome (find is-it (cond b (h ∷ filter (λ g. g.is_sub) hs) (filter (λ g. g.is_sub) hs))) P
    chosen true r = found-cond P (is-it h) h (find is-it (filter (λ g. g.is_sub) hs)) a.0 r
    chosen false r = r

-- the subroutine of a name
abbrev pub sub_named : List Handler → Name → Option Handler
sub_named hs name = find (λ h. bytes_eq h.name name) (filter (λ h. h.is_sub) hs)

-- the stack cells that are found behind parts
abbrev pub depth_in : Meanings → ℕ → whole.Depths → Handler → ℕ
depth_in known jump old h = (told.stmts_taken known old jump told.none_taken h.body).depth

pub depths-at : (known : Meanings) (jump : ℕ) (old new : whole.Depths) (hs : List Handler) (name : Name) → whole.next_depths known jump old new hs name ≡ option_or (new name) (option_map (depth_in known jump old) (sub_named hs name))
depths-at known jump old new [] name = or-none (new name)
depths-at known jump old new (h ∷ hs) name = depths-at known jump old (whole.with_depth known jump old new h) hs name ∙ chosen h.is_sub
  where
    chosen : (b : Bool) → option_or ((cond b (first_value new h.name (depth_in known jump old h)) new) name) (option_map (depth_in known jump old) (sub_named hs name))
        ≡ option_or (new name) (option_map (depth_in known jump old) (find (λ g. bytes_eq g.name name) (cond b (h ∷ filter (λ g. g.is_sub) hs) (filter (λ g. g.is_sub) hs))))
    chosen true =
        ap (λ o. option_or o (option_map (depth_in known jump old) (sub_named hs name))) (first-at new h.name name (depth_in known jump old h))
        ∙ one-more (depth_in known jump old) (new name) (bytes_eq h.name name) h (sub_named hs name)
    chosen false = refl

-- the stack cells of the body of a subroutine that may not be there
abbrev found_depth : Program → (Name → ℕ) → Option Handler → ℕ
found_depth program depths None = 0
found_depth program depths (Some h) = stmts_depth program depths h.body

body-depth : (program : Program) (depths : Name → ℕ) (name : Name) (o : Option Handler) → sub_named program.source.parts name ≡ o → stmts_depth program depths (sub_body program name) ≡ found_depth program depths o
body-depth program depths name None q = rw q refl
body-depth program depths name (Some h) q = rw q refl

-- Subroutines

module _ (program : Program) (known : Meanings) (ready : Ready program known) (called : List Name) where
  -- what one part takes
  part-is : (subs : whole.Depths) (depths : Name → ℕ) → ((name : Name) → unwrap_or (subs name) 0 ≡ held (depths name)) → (h : Handler) → list_all is_filled (stmts_exprs h.body) ≡ true → stmts_faults (laid_world program called) h.body ≡ []
      → told.stmts_taken known subs (jump_words program.project) told.none_taken h.body ≡ taken_of (stmts_words program h.body) (stmts_depth program depths h.body) (stmts_room program h.body)
  part-is subs depths deep h f none = stmts-are program known ready called subs depths deep 0 0 0 h.body f none ∙ same-taken (omega arith) (omega arith) (omega arith)

  -- the words of a part with its last one
  pub part-words : (h : Handler) → list_all is_filled (stmts_exprs h.body) ≡ true → stmts_faults (laid_world program called) h.body ≡ [] → whole.part_words known (jump_words program.project) h ≡ held (part_words program h)
  part-words h f none = ap (λ (t : Taken). sum_up t.words 1) (part-is nothing (λ name. 0) (λ name. refl) h f none) ∙ plus (stmts_words program h.body)
    where
      plus : (n : ℕ) → sum_up (held n) 1 ≡ held (n + 1)
      plus n = omega arith

  -- what a subroutine takes where calls are so many deep
  found-depth : (n : ℕ) (subs : whole.Depths) (most : ℕ) → ((name : Name) → unwrap_or (subs name) 0 ≡ held (sub_depth program n name)) → (name : Name) (o : Option Handler) → sub_named program.source.parts name ≡ o → IfSome o (IsFit program called most)
      → unwrap_or (option_map (depth_in known (jump_words program.project) subs) o) 0 ≡ held (sub_depth program (suc n) name)
  found-depth n subs most deep name None q f = ap held (sym (body-depth program (sub_depth program n) name None q))
  found-depth n subs most deep name (Some h) q f =
      ap (λ (t : Taken). t.depth) (part-is subs (sub_depth program n) deep h f.fine.0 f.none) ∙ ap held (sym (body-depth program (sub_depth program n) name (Some h) q))

  pub depths-are : (most : ℕ) → AllByRecursion (IsFit program called most) program.source.parts → (n : ℕ) (name : Name) → unwrap_or (whole.depths_after known (jump_words program.project) program.source.parts n name) 0 ≡ held (sub_depth program n name)
  depths-are most f zero name = refl
  depths-are most f (suc n) name =
      ap (λ o. unwrap_or o 0) (depths-at known (jump_words program.project) (whole.depths_after known (jump_words program.project) program.source.parts n) nothing program.source.parts name)
      ∙ found-depth n (whole.depths_after known (jump_words program.project) program.source.parts n) most (depths-are most f n) name (sub_named program.source.parts name) refl
      (found-has (IsFit program called most) (λ h. bytes_eq h.name name) program.source.parts f)

  -- a subroutine's stack cells are few
  found-low : (n most : ℕ) → ((name : Name) → sub_depth program n name ≤ 2 * most + n) → (name : Name) (o : Option Handler) → sub_named program.source.parts name ≡ o → IfSome o (IsFit program called most) → sub_depth program (suc n) name ≤ 2 * most + suc n
  found-low n most low name None q f = let d = body-depth program (sub_depth program n) name None q in omega (arith, d)
  found-low n most low name (Some h) q f =
      let d = body-depth program (sub_depth program n) name (Some h) q in
      let u = under-stmts program known ready called (sub_depth program n) (2 * most + suc n) (λ m. let l = low m in omega (arith, l)) h.body f.fine f.none in
      let few = f.few in
      let k = u.depth (omega (arith, few)) in
      omega (arith, d, k)

  pub depths-low : (most : ℕ) → AllByRecursion (IsFit program called most) program.source.parts → (n : ℕ) (name : Name) → sub_depth program n name ≤ 2 * most + n
  depths-low most f zero name = omega arith
  depths-low most f (suc n) name = found-low n most (depths-low most f n) name (sub_named program.source.parts name) refl (found-has (IsFit program called most) (λ h. bytes_eq h.name name) program.source.parts f)

-- Declared values

abbrev pub values_words : Program → List Decl → ℕ
values_words program [] = 0
values_words program (d ∷ ds) = value_words program d.value + values_words program ds

abbrev pub values_depth : Program → List Decl → ℕ
values_depth program [] = 0
values_depth program (d ∷ ds) = max (value_depth program d.value) (values_depth program ds)

abbrev pub values_room : Program → List Decl → ℕ
values_room program [] = 0
values_room program (d ∷ ds) = max (value_room program d.value) (values_room program ds)

-- the statements in front are the values' assignments
abbrev decl_stmt : Decl → Option Expr → Option Stmt
decl_stmt d value = option_map (λ e. stmt d.line d.equals (assign (record { place = d.place; name = d.name; part = all }) e)) value

front-words : (program : Program) (d : Decl) (value : Option Expr) (rest : List Stmt) (ss : Stmts) → stmts_words program (in_front (cons_option (decl_stmt d value) rest) ss) ≡ value_words program value + stmts_words program (in_front rest ss)
front-words program d None rest ss = omega arith
front-words program d (Some e) rest ss = refl

front-depth : (program : Program) (depths : Name → ℕ) (d : Decl) (value : Option Expr) (rest : List Stmt) (ss : Stmts) → stmts_depth program depths (in_front (cons_option (decl_stmt d value) rest) ss) ≡ max (value_depth program value) (stmts_depth program depths (in_front rest ss))
front-depth program depths d None rest ss = omega arith
front-depth program depths d (Some e) rest ss = refl

front-room : (program : Program) (d : Decl) (value : Option Expr) (rest : List Stmt) (ss : Stmts) → stmts_room program (in_front (cons_option (decl_stmt d value) rest) ss) ≡ max (value_room program value) (stmts_room program (in_front rest ss))
front-room program d None rest ss = omega arith
front-room program d (Some e) rest ss = refl

pub init-words : (program : Program) (ds : List Decl) (ss : Stmts) → stmts_words program (in_front (filter_map assignment ds) ss) ≡ values_words program ds + stmts_words program ss
init-words program [] ss = omega arith
init-words program (d ∷ ds) ss = let p = front-words program d d.value (filter_map assignment ds) ss in let q = init-words program ds ss in omega (arith, p, q)

pub init-depth : (program : Program) (depths : Name → ℕ) (ds : List Decl) (ss : Stmts) → stmts_depth program depths (in_front (filter_map assignment ds) ss) ≡ max (values_depth program ds) (stmts_depth program depths ss)
init-depth program depths [] ss = omega arith
init-depth program depths (d ∷ ds) ss = let p = front-depth program depths d d.value (filter_map assignment ds) ss in let q = init-depth program depths ds ss in omega (arith, p, q)

pub init-room : (program : Program) (ds : List Decl) (ss : Stmts) → stmts_room program (in_front (filter_map assignment ds) ss) ≡ max (values_room program ds) (stmts_room program ss)
init-room program [] ss = omega arith
init-room program (d ∷ ds) ss = let p = front-room program d d.value (filter_map assignment ds) ss in let q = init-room program ds ss in omega (arith, p, q)

-- the handlers' words in the event table
abbrev pub entries : List Handler → ℕ
entries hs = 2 * length (filter (λ h. not h.is_sub) hs)

abbrev pub handlers_depth : Program → (Name → ℕ) → List Handler → ℕ
handlers_depth program depths hs = greatest (map (λ h. stmts_depth program depths h.body) (filter (λ h. not h.is_sub) hs))

abbrev pub all_room : Program → List Handler → ℕ
all_room program hs = greatest (map (λ h. stmts_room program h.body) hs)

module _ (program : Program) (known : Meanings) (ready : Ready program known) (called : List Name) where
  value-is : (value : Option Expr) → IsFine (option_to_list value) → ((e : Expr) → value ≡ Some e → expr_faults (laid_scope program) e ≡ [])
      → whole.value_taken known.meaning value ≡ taken_of (value_words program value) (value_depth program value) (value_room program value)
  value-is None f none = refl
  value-is (Some e) f none =
      let filled = alone-filled e f.0 in
      ap told.stored (counted-here program known ready e filled (none e refl)) ∙ stored-is (elements_of program e) (expr-many program ready.cells e filled (none e refl))

  vars-are : (ds : List Decl) → IsFine (flat_map decl_exprs ds) → ValuesHaveNone (laid_scope program) ds → (w d r : ℕ)
      → whole.vars_taken known.meaning (taken_of w d r) ds ≡ taken_of (w + values_words program ds) (max d (values_depth program ds)) (max r (values_room program ds))
  vars-are [] f none w d r = same-taken (omega arith) (omega arith) (omega arith)
  vars-are (x ∷ xs) f none w d r =
      let own = fine-right (option_to_list x.size) (option_to_list x.value) (fine-left (decl_exprs x) (flat_map decl_exprs xs) f) in
      ap (λ t. whole.vars_taken known.meaning (told.behind (taken_of w d r) t) xs) (value-is x.value own none.0)
      ∙ ap (λ t. whole.vars_taken known.meaning t xs) (behind-is w d r (value_words program x.value) (value_depth program x.value) (value_room program x.value))
      ∙ vars-are xs (fine-right (decl_exprs x) (flat_map decl_exprs xs) f) none.1 (w + value_words program x.value) (max d (value_depth program x.value)) (max r (value_room program x.value))
      ∙ same-taken (omega arith) (omega arith) (omega arith)

  -- one part with its last word
  ended : (depths : Name → ℕ) (h : Handler) (b : Bool) → h.is_sub ≡ b
      → whole.with_end (taken_of (stmts_words program h.body) (stmts_depth program depths h.body) (stmts_room program h.body)) h ≡ taken_of (part_words program h + (if b then 0 else 2)) (if b then 0 else stmts_depth program depths h.body) (stmts_room program h.body)
  ended depths h true q = rw q (λ i. record { words = (let p : sum_up (held (stmts_words program h.body)) 1 ≡ held (stmts_words program h.body + 1 + 0) = omega arith in p) i; depth = 0; room = held (stmts_room program h.body) })
  ended depths h false q = rw q (longer-is (stmts_words program h.body) (stmts_depth program depths h.body) (stmts_room program h.body) 3 ∙ same-taken (omega arith) refl refl)

  entries-more : (h : Handler) (hs : List Handler) (b : Bool) → h.is_sub ≡ b → entries (h ∷ hs) ≡ (if b then 0 else 2) + entries hs
  entries-more h hs true q = rw q (omega arith)
  entries-more h hs false q = rw q (omega arith)

  pub deeper : (depths : Name → ℕ) (h : Handler) (hs : List Handler) (b : Bool) → h.is_sub ≡ b → handlers_depth program depths (h ∷ hs) ≡ max (if b then 0 else stmts_depth program depths h.body) (handlers_depth program depths hs)
  deeper depths h hs true q = rw q (omega arith)
  deeper depths h hs false q = rw q (greatest-cons (stmts_depth program depths h.body) (map (λ g. stmts_depth program depths g.body) (filter (λ g. not g.is_sub) hs)))

  parts-are : (subs : whole.Depths) (depths : Name → ℕ) → ((name : Name) → unwrap_or (subs name) 0 ≡ held (depths name)) → (most : ℕ) (hs : List Handler) → AllByRecursion (IsFit program called most) hs → (w d r : ℕ)
      → whole.parts_taken known subs (jump_words program.project) (taken_of w d r) hs ≡ taken_of (w + (sum_by (part_words program) hs + entries hs)) (max d (handlers_depth program depths hs)) (max r (all_room program hs))
  parts-are subs depths deep most [] f w d r = same-taken (omega arith) (omega arith) (omega arith)
  parts-are subs depths deep most (h ∷ hs) f w d r =
      let own = ap (λ t. whole.with_end t h) (part-is program known ready called subs depths deep h f.0.fine.0 f.0.none) ∙ ended depths h h.is_sub refl in
      let sum = sum_by-cons (part_words program) h hs in
      let table = entries-more h hs h.is_sub refl in
      let deep-one = deeper depths h hs h.is_sub refl in
      let room-one = greatest-cons (stmts_room program h.body) (map (λ g. stmts_room program g.body) hs) in
      ap (λ t. whole.parts_taken known subs (jump_words program.project) (told.behind (taken_of w d r) t) hs) own
      ∙ ap (λ t. whole.parts_taken known subs (jump_words program.project) t hs) (behind-is w d r (part_words program h + (if h.is_sub then 0 else 2)) (if h.is_sub then 0 else stmts_depth program depths h.body) (stmts_room program h.body))
      ∙ parts-are subs depths deep most hs f.1 (w + (part_words program h + (if h.is_sub then 0 else 2))) (max d (if h.is_sub then 0 else stmts_depth program depths h.body)) (max r (stmts_room program h.body))
      ∙ same-taken (omega (arith, sum, table)) (omega (arith, deep-one)) (omega (arith, room-one))

  -- what is counted of the whole source
  pub source-is : (subs : whole.Depths) → ((name : Name) → unwrap_or (subs name) 0 ≡ held (depth_of_sub program name)) → (most : ℕ) → AllByRecursion (IsFit program called most) program.source.parts → IsFine (flat_map decl_exprs program.source.vars)
      → ValuesHaveNone (laid_scope program) program.source.vars → IsFine (stmts_exprs program.source.init) → stmts_faults (laid_world program called) program.source.init ≡ []
      → whole.source_taken known subs (jump_words program.project) program.source ≡ taken_of (source_words program) (source_depth program) (source_room program)
  source-is subs deep most fit fine-vars values fine-init none =
      let source = program.source in
      let depths = depth_of_sub program in
      let vars = vars-are source.vars fine-vars values 0 0 0 in
      let init = stmts-are program known ready called subs depths deep 0 0 0 source.init fine-init.0 none in
      let parts = parts-are subs depths deep most source.parts fit 0 0 0 in
      let words = init-words program source.vars source.init in
      let depth = init-depth program depths source.vars source.init in
      let room = init-room program source.vars source.init in
      behind-both _ _ _ _
      (ap (λ t. told.longer t 4) (behind-both _ _ _ _ vars init ∙ behind-is (0 + values_words program source.vars) (max 0 (values_depth program source.vars)) (max 0 (values_room program source.vars)) (0 + stmts_words program source.init) (max 0 (stmts_depth program depths source.init)) (max 0 (stmts_room program source.init)))
      ∙ longer-is (0 + values_words program source.vars + (0 + stmts_words program source.init)) (max (max 0 (values_depth program source.vars)) (max 0 (stmts_depth program depths source.init))) (max (max 0 (values_room program source.vars)) (max 0 (stmts_room program source.init))) 4)
      parts
      ∙ behind-is (0 + values_words program source.vars + (0 + stmts_words program source.init) + 4) (max (max 0 (values_depth program source.vars)) (max 0 (stmts_depth program depths source.init))) (max (max 0 (values_room program source.vars)) (max 0 (stmts_room program source.init)))
      (0 + (sum_by (part_words program) source.parts + entries source.parts)) (max 0 (handlers_depth program depths source.parts)) (max 0 (all_room program source.parts))
      ∙ same-taken (omega (arith, words)) (omega (arith, depth)) (omega (arith, room))
