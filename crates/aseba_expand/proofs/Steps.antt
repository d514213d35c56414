-- Single tasks, done on both sides.
use Rattle.std.proofs.Common.{◌∙◌, ◌≡◌, refl, sym, ap, ℕ, true, false, Bool, not, ◌&&◌, ℤ, List, [], ◌∷◌, ◌++◌, Option, map}
use Rattle.std.specs.Prelude.{Ok, Err, if◌then◌else◌, slice_index_or, slice_set}
use Rattle.aseba_words.specs.Cell.{is_true}
use Rattle.aseba_tree.specs.Code.{Expr}
use Rattle.aseba_tree.specs.CoreExpr.{CoreExpr, core_value}
use Rattle.aseba_tree.specs.CoreStep.{core_going_on, core_tested, core_edge, CoreTask}
use Rattle.aseba_tree.specs.Elements.{elements_of, element_of}
use Rattle.aseba_tree.specs.State.{Program, State, Task, perform, put, leave, turn, try, next, back, finish}
use Rattle.aseba_tree.specs.Step.{going_on, tested, edge}
use Rattle.aseba_tree.specs.Value.{Element, value, elements, first_stop}
use Rattle.aseba_expand.proofs.Alike.{SteppedAlike, WorkAlike}
use Rattle.aseba_expand.proofs.Ends.{twin, Sturdy, alike-twin, with-work, stopped-alike}
use Rattle.aseba_expand.proofs.Ready.{IsAlone, ReadyTest, ReadyTasks}
use Rattle.aseba_expand.proofs.Tasks.{work_core, work-append, Onto}
use Rattle.aseba_expand.proofs.Values.{with_room, values-alike}

-- work that stores nothing that was computed
pub settled : (program : Program) (temporaries : List ℤ) (ts : List Task) → ReadyTasks program ts → WorkAlike program temporaries ts (work_core program ts)
settled program temporaries [] g = (refl, tt)
settled program temporaries (perform before s ∷ ts) g = (refl, g)
settled program temporaries (put line name place v ∷ ts) g = absurd g.0
settled program temporaries (leave line ∷ ts) g = (refl, g)
settled program temporaries (turn t ∷ ts) g = (refl, g)
settled program temporaries (try line before head body ∷ ts) g = (refl, g)
settled program temporaries (next line before head body ∷ ts) g = (refl, g)
settled program temporaries (back line ∷ ts) g = (refl, g)
settled program temporaries (finish line ∷ ts) g = (refl, g)

pub ready-append : (program : Program) (xs ys : List Task) → ReadyTasks program xs → ReadyTasks program ys → ReadyTasks program (xs ++ ys)
ready-append program [] ys g h = h
ready-append program (x ∷ xs) ys g h = (g.0, ready-append program xs ys g.1 h)

-- both go on with tasks in front of their work
pub going-alike : (program : Program) (s : State) (temporaries : List ℤ) (held_behind : List (Option ℤ)) (rest first : List Task) (core_first : List CoreTask)
    → Sturdy program s temporaries → Onto program first core_first → ReadyTasks program first → ReadyTasks program rest
    → SteppedAlike program (going_on (record s { work = rest }) first) (core_going_on (twin s temporaries held_behind (work_core program rest)) core_first)
going-alike program s temporaries held_behind rest first core_first h onto g k =
    let same : core_first ++ work_core program rest ≡ work_core program (first ++ rest) = onto (work_core program rest) ∙ sym (work-append program first rest []) in
    rw same (record {
      states = alike-twin program (record s { work = first ++ rest }) temporaries held_behind (work_core program (first ++ rest)) (with-work program s temporaries (first ++ rest) h)
          (settled program temporaries (first ++ rest) (ready-append program first rest g k));
      reports = refl;
    })

-- Tests

-- tasks with those of the element form
pub record Ahead (program : Program) (ts : List Task) (core_ts : List CoreTask) : Type 0 where
  pub onto : Onto program ts core_ts
  pub ready : ReadyTasks program ts

pub nothing-ahead : (program : Program) → Ahead program [] []
nothing-ahead program = record { onto = λ rest. refl; ready = tt }

either-ahead : (program : Program) (b : Bool) (xs ys : List Task) (cx cy : List CoreTask) → Ahead program xs cx → Ahead program ys cy → Ahead program (if b then xs else ys) (if b then cx else cy)
either-ahead program true xs ys cx cy h k = h
either-ahead program false xs ys cx cy h k = k

pub tested-alike : (program : Program) (s : State) (temporaries : List ℤ) (held_behind : List (Option ℤ)) (rest : List Task) (line : ℕ) (r : Element) (xs ys : List Task) (cx cy : List CoreTask)
    → Sturdy program s temporaries → Ahead program xs cx → Ahead program ys cy → ReadyTasks program rest
    → SteppedAlike program (tested line (record s { work = rest }) (first_stop (r ∷ [])) xs ys) (core_tested line (twin s temporaries held_behind (work_core program rest)) r cx cy)
tested-alike program s temporaries held_behind rest line (Err stop) xs ys cx cy h x y k =
    stopped-alike program (record s { work = rest }) temporaries held_behind (work_core program rest) line stop (with-work program s temporaries rest h)
tested-alike program s temporaries held_behind rest line (Ok v) xs ys cx cy h x y k =
    let next = either-ahead program (is_true v) xs ys cx cy x y in
    going-alike program s temporaries held_behind rest (if is_true v then xs else ys) (if is_true v then cx else cy) h next.onto next.ready k

pub edge-alike : (program : Program) (s : State) (temporaries : List ℤ) (held_behind : List (Option ℤ)) (rest : List Task) (line which : ℕ) (r : Element) (xs : List Task) (cx : List CoreTask)
    → Sturdy program s temporaries → Ahead program xs cx → ReadyTasks program rest
    → SteppedAlike program (edge line (record s { work = rest }) which (first_stop (r ∷ [])) xs) (core_edge line (twin s temporaries held_behind (work_core program rest)) which r cx)
edge-alike program s temporaries held_behind rest line which (Err stop) xs cx h x k =
    stopped-alike program (record s { work = rest }) temporaries held_behind (work_core program rest) line stop (with-work program s temporaries rest h)
edge-alike program s temporaries held_behind rest line which (Ok v) xs cx h x k =
    let rises = is_true v && not (slice_index_or s.bits which false) in
    let next = either-ahead program rises xs [] cx [] x (nothing-ahead program) in
    going-alike program (record s { bits = slice_set s.bits which (is_true v) }) temporaries held_behind rest (if rises then xs else []) (if rises then cx else [])
    (record { laid = h.laid; held_laid = h.held_laid; room = h.room }) next.onto next.ready k

-- the one element of a condition
pub record Condition (program : Program) (s : State) (temporaries : List ℤ) (c : Expr) : Type 0 where
  pub r : Element
  pub computed : value program.project.consts s.cells c ≡ first_stop (r ∷ [])
  pub same : core_value (with_room s.cells temporaries) (element_of program c) ≡ r

alone-value : (cells : List ℤ) (es : List CoreExpr) (vs : List Element) → IsAlone es → map (core_value cells) es ≡ vs → (e : CoreExpr) × (r : Element) × (es ≡ e ∷ []) × (vs ≡ r ∷ []) × (core_value cells e ≡ r)
alone-value cells [] vs g k = absurd g
alone-value cells (e ∷ []) vs g k = (e, core_value cells e, refl, sym k, refl)
alone-value cells (e ∷ f ∷ es) vs g k = absurd g

pub condition : (program : Program) (s : State) (temporaries : List ℤ) (c : Expr) → Sturdy program s temporaries → ReadyTest program c → Condition program s temporaries c
condition program s temporaries c h g =
    let one = alone-value (with_room s.cells temporaries) (elements_of program c) (elements program.project.consts s.cells c) g.1 (values-alike program s.cells temporaries c h.laid g.0) in
    of one.0 one.1 one.2 one.3 one.4
  where
    of : (e : CoreExpr) (r : Element) → elements_of program c ≡ e ∷ [] → elements program.project.consts s.cells c ≡ r ∷ [] → core_value (with_room s.cells temporaries) e ≡ r → Condition program s temporaries c
    of e r he hv same = record { r = r; computed = ap first_stop hv; same = rw he same }
