-- Events that arrive, and writes, on both sides.
use Rattle.std.proofs.Common.{◌≡◌, refl, sym, ◌∙◌, ap, subst, ℕ, ◌+◌, true, false, Bool, ◌&&◌, ◌||◌, ℤ, pos, List, [], ◌∷◌, ◌++◌, Option, Some, None, map}
use Rattle.std.specs.List.{list_any}
use Rattle.std.specs.Prelude.{if◌then◌else◌, bytes_eq, codes}
use Rattle.aseba_words.specs.Cell.{wrapped}
use Rattle.aseba_tree.specs.Arrival.{put_cells, write, in_node, begun, handler_of, arrived, arrive}
use Rattle.aseba_tree.specs.Code.{Name, Sized, Handler}
use Rattle.aseba_tree.specs.Core.{CorePart}
use Rattle.aseba_tree.specs.CoreStep.{CoreState, CoreTask, finish_core, core_tasks, core_ended, core_next_line, core_work_line, put_into, core_write, core_begun, core_handler_of, core_arrived, core_arrive}
use Rattle.aseba_tree.specs.Events.{event_number}
use Rattle.aseba_tree.specs.Layout.{address_from, address_of, variables}
use Rattle.aseba_tree.specs.Line.{Event}
use Rattle.aseba_tree.specs.Run.{Met, refused, kills, begins}
use Rattle.aseba_tree.specs.State.{Program, State, Task, perform, put, leave, turn, try, next, back, finish, tasks, node_variables, declared}
use Rattle.aseba_tree.specs.Step.{applied_cells, ended, next_line, work_line}
use Rattle.aseba_tree.specs.Value.{Cells}
use Rattle.aseba_expand.specs.Expands.{all_cells_of}
use Rattle.aseba_expand.specs.Plain.{plain_part, plain_program}
use Rattle.aseba_expand.proofs.Alike.{Alike, WorkAlike}
use Rattle.aseba_expand.proofs.Cells.{Laid}
use Rattle.aseba_expand.proofs.Ends.{twin, Sturdy, alike-twin, ended-twin, ended-sturdy, nothing, is-twin, sturdy}
use Rattle.aseba_expand.proofs.Ready.{ReadyStmts}
use Rattle.aseba_expand.proofs.Rows.{ready-tasks, ready-line}
use Rattle.aseba_expand.proofs.Steps.{settled, ready-append}
use Rattle.aseba_expand.proofs.Tasks.{work_core, work-append, body-onto}
use Rattle.aseba_expand.proofs.Writes.{puts-alike, laid-puts}

-- Writes

twin-write : (program : Program) (s : State) (temporaries : List ℤ) (held_behind : List (Option ℤ)) (work : List CoreTask) (name : Name) (first : ℕ) (values : List ℤ) → Sturdy program s temporaries → WorkAlike program temporaries s.work work
    → (b : Bool) → Alike program (if b then record s { held = put_cells s.held name first (map Some values) } else record s { cells = put_cells s.cells name first values })
    (let c = twin s temporaries held_behind work in if b then record c { held = put_into (address_of (variables program) name) first (map Some values) c.held } else record c { cells = put_into (address_of (variables program) name) first values c.cells })
twin-write program s temporaries held_behind work name first values h w true =
    rw (puts-alike s.held (variables program) held_behind name first (map Some values) h.held_laid)
    (alike-twin program (record s { held = put_cells s.held name first (map Some values) }) temporaries held_behind work
    (record { laid = h.laid; held_laid = laid-puts s.held (variables program) name first (map Some values) h.held_laid; room = h.room }) w)
twin-write program s temporaries held_behind work name first values h w false =
    rw (puts-alike s.cells (variables program) temporaries name first values h.laid)
    (alike-twin program (record s { cells = put_cells s.cells name first values }) temporaries held_behind work
    (record { laid = laid-puts s.cells (variables program) name first values h.laid; held_laid = h.held_laid; room = h.room }) w)

pub write-alike : (program : Program) (s : State) (c : CoreState) (name : Name) (first : ℕ) (values : List ℤ) → Alike program s c → Alike program (write s name first values) (core_write (plain_program program) c name first values)
write-alike program s c name first values a =
    rw (is-twin program s c a) (twin-write program s a.temporaries a.held_behind c.work name first values (sturdy program s c a) a.work s.active)

-- Variables of the node

abbrev pub IsHere : Bool → Option (ℕ × ℕ) → Type 0
IsHere true None = ⊥
IsHere true (Some p) = Unit {0}
IsHere false None = Unit {0}
IsHere false (Some p) = ⊥

pub known-address : (ds : List Sized) (base : ℕ) (name : Name) → IsHere (list_any (λ v. bytes_eq v.name name) ds) (address_from base ds name)
known-address [] base name = tt
known-address (d ∷ ds) base name = pick (bytes_eq d.name name) (known-address ds (base + d.size) name)
  where
    pick : (b : Bool) → IsHere (list_any (λ v. bytes_eq v.name name) ds) (address_from (base + d.size) ds name)
        → IsHere (b || list_any (λ v. bytes_eq v.name name) ds) (if b then Some (base, d.size) else address_from (base + d.size) ds name)
    pick true deeper = tt
    pick false deeper = deeper

pub front-address : (xs ys : List Sized) (base : ℕ) (name : Name) (p : ℕ × ℕ) → address_from base xs name ≡ Some p → address_from base (xs ++ ys) name ≡ Some p
front-address [] ys base name p e = cc
front-address (x ∷ xs) ys base name p e = pick (front-address xs ys (base + x.size) name p) (bytes_eq x.name name) e
  where
    pick : (address_from (base + x.size) xs name ≡ Some p → address_from (base + x.size) (xs ++ ys) name ≡ Some p) → (b : Bool) → (if b then Some (base, x.size) else address_from (base + x.size) xs name) ≡ Some p
        → (if b then Some (base, x.size) else address_from (base + x.size) (xs ++ ys) name) ≡ Some p
    pick deeper true e = e
    pick deeper false e = deeper e

in_node-alike : (program : Program) (cells : Cells) (tail : List ℤ) (name : Name) (values : List ℤ) → Laid cells (variables program)
    → put_into (address_of (node_variables program.project) name) 0 values (all_cells_of cells ++ tail) ≡ all_cells_of (in_node program.project name values cells) ++ tail
in_node-alike program cells tail name values h = pick (list_any (λ v. bytes_eq v.name name) (node_variables program.project)) (address_of (node_variables program.project) name) refl (known-address (node_variables program.project) 0 name)
  where
    pick : (b : Bool) (o : Option (ℕ × ℕ)) → address_of (node_variables program.project) name ≡ o → IsHere b o
        → put_into o 0 values (all_cells_of cells ++ tail) ≡ all_cells_of (if b then put_cells cells name 0 values else cells) ++ tail
    pick true None e k = absurd k
    pick true (Some p) e k =
        let whole : address_of (variables program) name ≡ Some p = front-address (node_variables program.project) (declared program) 0 name p e in
        ap (λ o. put_into o 0 values (all_cells_of cells ++ tail)) (sym whole) ∙ puts-alike cells (variables program) tail name 0 values h
    pick false None e k = refl
    pick false (Some p) e k = absurd k

in_node-laid : (program : Program) (cells : Cells) (name : Name) (values : List ℤ) → Laid cells (variables program) → Laid (in_node program.project name values cells) (variables program)
in_node-laid program cells name values h = pick (list_any (λ v. bytes_eq v.name name) (node_variables program.project))
  where
    pick : (b : Bool) → Laid (if b then put_cells cells name 0 values else cells) (variables program)
    pick true = laid-puts cells (variables program) name 0 values h
    pick false = h

-- Beginnings

-- both found a handler of the event, or none
abbrev pub FoundAlike : Program → Option (ℕ × Handler) → Option (ℕ × CorePart) → Type 0
FoundAlike program None None = Unit {0}
FoundAlike program None (Some g) = ⊥
FoundAlike program (Some f) None = ⊥
FoundAlike program (Some f) (Some g) = (g.0 ≡ f.0) × (g.1 ≡ plain_part program f.1) × ReadyStmts program (f.1).body

begun-twin : (program : Program) (s : State) (temporaries : List ℤ) (held_behind : List (Option ℤ)) (work : List CoreTask) (f : ℕ × Handler) (g : ℕ × CorePart) (source : ℕ) (args : List ℤ)
    → Sturdy program s temporaries → FoundAlike program (Some f) (Some g) → Alike program (begun program s f source args) (core_begun (plain_program program) (twin s temporaries held_behind work) g source args)
begun-twin program s temporaries held_behind work f g source args h k =
    let inner = in_node program.project (codes "event.source") (wrapped (pos source) ∷ []) s.cells in
    let inner_laid = in_node-laid program s.cells (codes "event.source") (wrapped (pos source) ∷ []) h.laid in
    let ts : List Task = tasks f.0 (f.1).body ++ finish (f.1).line ∷ [] in
    let same : core_tasks g.0 (g.1).body ++ finish_core (g.1).line ∷ [] ≡ work_core program ts =
    ap (λ n. core_tasks n (g.1).body ++ finish_core (g.1).line ∷ []) k.0 ∙ ap (λ p. core_tasks f.0 p.body ++ finish_core p.line ∷ []) k.1
    ∙ body-onto program f.0 (f.1).body (finish_core (f.1).line ∷ []) ∙ sym (work-append program (tasks f.0 (f.1).body) (finish (f.1).line ∷ []) []) in
    rw (in_node-alike program s.cells temporaries (codes "event.source") (wrapped (pos source) ∷ []) h.laid, in_node-alike program inner temporaries (codes "event.args") args inner_laid, same)
    (alike-twin program (begun program s f source args) temporaries held_behind (work_core program ts)
    (record { laid = in_node-laid program inner (codes "event.args") args inner_laid; held_laid = h.held_laid; room = h.room })
    (settled program temporaries ts (ready-append program (tasks f.0 (f.1).body) (finish (f.1).line ∷ []) (ready-tasks program f.0 (f.1).body k.2) (tt, tt))))

-- Arrivals

-- the states behind an arrival are alike, and both met the event alike
pub record ArrivedAlike (program : Program) (a : Met State) (b : Met CoreState) : Type 0 where
  pub states : Alike program a.state b.state
  pub meeting : b.meeting ≡ a.meeting

-- the line of the effect that is next
pub next-line : (program : Program) (temporaries : List ℤ) (ts : List Task) (work : List CoreTask) → WorkAlike program temporaries ts work → core_work_line work ≡ work_line ts
next-line program temporaries [] work w = ap core_work_line w.0
next-line program temporaries (put line name place v ∷ ts) work w = ap core_work_line w.first
next-line program temporaries (perform before s ∷ ts) work w = ap core_work_line w.0 ∙ ready-line program (perform before s ∷ ts) w.1
next-line program temporaries (leave line ∷ ts) work w = ap core_work_line w.0
next-line program temporaries (turn t ∷ ts) work w = ap core_work_line w.0 ∙ ready-line program (turn t ∷ ts) w.1
next-line program temporaries (try line before head body ∷ ts) work w = ap core_work_line w.0
next-line program temporaries (next line before head body ∷ ts) work w = ap core_work_line w.0
next-line program temporaries (back line ∷ ts) work w = ap core_work_line w.0
next-line program temporaries (finish line ∷ ts) work w = ap core_work_line w.0

arrived-twin : (program : Program) (s : State) (temporaries : List ℤ) (held_behind : List (Option ℤ)) (work : List CoreTask) (source : ℕ) (args : List ℤ) (f : Option (ℕ × Handler)) (g : Option (ℕ × CorePart))
    → Sturdy program s temporaries → WorkAlike program temporaries s.work work → FoundAlike program f g
    → ArrivedAlike program (arrived program s source args f) (core_arrived (plain_program program) (twin s temporaries held_behind work) source args g)
arrived-twin program s temporaries held_behind work source args None None h w k = record { states = alike-twin program s temporaries held_behind work h w; meeting = refl }
arrived-twin program s temporaries held_behind work source args None (Some g) h w k = absurd k
arrived-twin program s temporaries held_behind work source args (Some f) None h w k = absurd k
arrived-twin program s temporaries held_behind work source args (Some f) (Some g) h w k = pick (s.paused && s.active) s.active
  where
    pick : (a b : Bool)
        → ArrivedAlike program (if a then record { state = s; meeting = refused } else (if b then record { state = begun program (ended s) f source args; meeting = kills (next_line s) }
        else record { state = begun program s f source args; meeting = begins }))
        (let c = twin s temporaries held_behind work in if a then record { state = c; meeting = refused } else (if b then record { state = core_begun (plain_program program) (core_ended c) g source args; meeting = kills (core_next_line c) }
        else record { state = core_begun (plain_program program) c g source args; meeting = begins }))
    pick true b = record { states = alike-twin program s temporaries held_behind work h w; meeting = refl }
    pick false true = record {
      states = subst (λ c. Alike program (begun program (ended s) f source args) (core_begun (plain_program program) c g source args)) (sym (ended-twin program s temporaries held_behind work h))
          (begun-twin program (ended s) (applied_cells temporaries held_behind) (map nothing temporaries) [] f g source args (ended-sturdy program s temporaries held_behind h) k);
      meeting = ap kills (next-line program temporaries s.work work w);
    }
    pick false false = record { states = begun-twin program s temporaries held_behind work f g source args h k; meeting = refl }

pub arrive-alike : (program : Program) (s : State) (c : CoreState) (event : Event) (source : ℕ) (args : List ℤ) → FoundAlike program (handler_of program event) (core_handler_of (plain_program program) (event_number program.project event)) → Alike program s c
    → ArrivedAlike program (arrive program s event source args) (core_arrive (plain_program program) c event source args)
arrive-alike program s c event source args k a =
    rw (is-twin program s c a)
    (arrived-twin program s a.temporaries a.held_behind c.work source args (handler_of program event) (core_handler_of (plain_program program) (event_number program.project event)) (sturdy program s c a) a.work k)
