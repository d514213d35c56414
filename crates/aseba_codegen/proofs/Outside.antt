-- What comes from outside keeps machine and core together: values that are written, and events, also those that kill a handler.
use Rattle.std.proofs.Common.{◌≡◌, ℕ, zero, ◌+◌, ◌<◌, ◌≤◌, ◌≢◌, ◌||◌, Bool, true, false, if◌then◌else◌, nat_lt, nat_le, ℤ, pos, List, [], ◌∷◌, ◌++◌, length, map, take, slice_index_or, Option, Some, None, refl, sym, ap, ◌∙◌, subst, arith, true≢false, ltb-true, leb-true, le-leb}
use Rattle.std.proofs.lemmas.List.{length-map}
use Rattle.std.proofs.lemmas.List.Sums.{sum_by-take-le}
use Rattle.std.specs.Prelude.{option_map, sum_by, codes}
use Rattle.aseba_words.specs.Cell.{wrapped}
use Rattle.aseba_tree.specs.Code.{Name, Sized}
use Rattle.aseba_tree.specs.Core.{CorePart}
use Rattle.aseba_tree.specs.CoreShape.{is_readable}
use Rattle.aseba_tree.specs.CoreStep.{CoreTask, finish_core, CoreState, CoreProgram, core_tasks, core_ended, put_from, put_into, core_write, core_begun, core_handler_of, core_arrived, core_next_line}
use Rattle.aseba_tree.specs.GoodScript.{is_inside}
use Rattle.aseba_tree.specs.Layout.{Placed, placed_from, placed_named, address_of, HasPlaces}
use Rattle.aseba_tree.specs.Run.{unheard, refused, kills, begins, is_begun, Met}
use Rattle.aseba_tree.specs.Tied.{meeting_by}
use Rattle.aseba_vm.specs.declared.shape.Shape.{Shape}
use Rattle.aseba_vm.specs.State.{State, ended}
use Rattle.aseba_vm.specs.Arrival.{told, begun, arrived_at, arrived}
use Rattle.aseba_vm.specs.Control.{written, hold_written}
use Rattle.aseba_vm.specs.Lists.{overwritten, handler_of}
use Rattle.aseba_target.specs.MachineRun.{meeting_of, arriving, writing}
use Rattle.aseba_target.specs.Node.{shape_of}
use Rattle.aseba_codegen.specs.Agrees.{line_at}
use Rattle.aseba_codegen.proofs.Apart.{holding}
use Rattle.aseba_codegen.proofs.Bases.{ended-base}
use Rattle.aseba_codegen.proofs.Placed.{Plan, Does, Base, Working}
use Rattle.aseba_codegen.proofs.Puts.{put_from-long, put_into-long, overwritten-put, put_from-alike, put_into-alike, put_into-all, SamePlace, same-place, address-size, address-inside, named-put, args-put}
use Rattle.aseba_codegen.proofs.Reach.{Holds}
use Rattle.aseba_codegen.proofs.Silences.{silent-held}
use Rattle.aseba_codegen.proofs.Standing.{lifted, Behind, Standing, OnLine, standing-start, standing-line}
use Rattle.aseba_codegen.proofs.Values.{and-right}

module _ (plan : Plan) where
  abbrev program : CoreProgram
  program = plan.program

  abbrev cells : ℕ
  cells = plan.program.core.cells

  -- Writes

  -- values put at an address of the core: held where a handler is active
  abbrev core_put : ℕ → List ℤ → CoreState → CoreState
  core_put at values s = if s.active then record s { held = put_from s.held at (map Some values) } else record s { cells = put_from s.cells at values }

  held-base : (at : ℕ) (values : List ℤ) (m : State) (s : CoreState) → at + length values ≤ cells → Base plan m s
      → Base plan (holding (overwritten at (map Some values) m.held) m) (record s { held = put_from s.held at (map Some values) })
  held-base at values m s fits h =
      let many : length (map Some values) ≡ length values = length-map {A = ℤ} {B = Option ℤ} values Some in
      let in_m : at + length (map Some values) ≤ length m.held = let l = h.long in let k = h.held_long in omega arith in
      let in_s : at + length (map Some values) ≤ length s.held = let l = h.core_long in let k = h.core_held_long in omega arith in
      let put : overwritten at (map Some values) m.held ≡ put_from m.held at (map Some values) = overwritten-put at (map Some values) m.held in_m in
      record {
        shape = h.shape;
        same_cells = h.same_cells;
        same_held = λ a below. ap (λ held. slice_index_or held a None) put ∙ put_from-alike (map Some values) m.held s.held at a None in_m in_s (h.same_held a below);
        many = h.many;
        long = h.long;
        few = h.few;
        held_long = ap length put ∙ put_from-long m.held at (map Some values) ∙ h.held_long;
        core_long = h.core_long;
        core_held_long = put_from-long s.held at (map Some values) ∙ h.core_held_long;
        memory = h.memory;
        same_bits = h.same_bits;
        holds = h.holds;
        same_active = h.same_active;
        same_paused = h.same_paused;
      }

  cells-base : (at : ℕ) (values : List ℤ) (m : State) (s : CoreState) → at + length values ≤ cells → Base plan m s
      → Base plan (record m { cells = overwritten at values m.cells }) (record s { cells = put_from s.cells at values })
  cells-base at values m s fits h =
      let in_m : at + length values ≤ length m.cells = let l = h.long in omega arith in
      let in_s : at + length values ≤ length s.cells = let l = h.core_long in omega arith in
      let put : overwritten at values m.cells ≡ put_from m.cells at values = overwritten-put at values m.cells in_m in
      let same : length (overwritten at values m.cells) ≡ length m.cells = ap length put ∙ put_from-long m.cells at values in
      record {
        shape = h.shape;
        same_cells = λ a below. ap (λ cells. slice_index_or cells a (pos 0)) put ∙ put_from-alike values m.cells s.cells at a (pos 0) in_m in_s (h.same_cells a below);
        same_held = h.same_held;
        many = same ∙ h.many;
        long = let l = h.long in omega arith;
        few = let l = h.few in omega arith;
        held_long = h.held_long ∙ sym same;
        core_long = put_from-long s.cells at values ∙ h.core_long;
        core_held_long = h.core_held_long ∙ sym (put_from-long s.cells at values);
        memory = h.memory;
        same_bits = h.same_bits;
        holds = h.holds;
        same_active = h.same_active;
        same_paused = h.same_paused;
      }

  -- where a handler is active, both hold the values, and so did the start of the statement
  write-held : (at : ℕ) (values : List ℤ) (k : ℕ) (m : State) (s : CoreState) → at + length values ≤ cells → s.active ≡ true → Standing plan k m s
      → Standing plan k (holding (overwritten at (map Some values) m.held) m) (record s { held = put_from s.held at (map Some values) })
  write-held at values k m s fits active h =
      let held : List (Option ℤ) = overwritten at (map Some values) m.held in
      record {
        base = held-base at values m s fits h.base;
        behind = λ on. let b : Behind plan k m s = h.behind on in let w : Working plan b.start s = b.working in
            record {
              start = holding held b.start;
              working = record { kept = w.kept; frames = w.frames; nested = w.nested; reads = w.reads; placed = w.placed; empty = w.empty };
              silent = silent-held plan.code cells held k (lifted b.start) (lifted m) b.silent;
            };
        spent = h.spent;
      }

  write-idle : (at : ℕ) (values : List ℤ) (k : ℕ) (m : State) (s : CoreState) → at + length values ≤ cells → s.active ≡ false → Standing plan k m s
      → Standing plan k (record m { cells = overwritten at values m.cells }) (record s { cells = put_from s.cells at values })
  write-idle at values k m s fits rests h = record {
    base = cells-base at values m s fits h.base;
    behind = λ on. absurd (true≢false (sym on ∙ rests));
    spent = h.spent;
  }

  -- by a flag that both have
  either : (k : ℕ) (a b : Bool) (x y : State) (z w : CoreState) → b ≡ a → (a ≡ true → Standing plan k x z) → (a ≡ false → Standing plan k y w) → Standing plan k (if b then x else y) (if a then z else w)
  either k true b x y z w same h g = subst (λ c. Standing plan k (if c then x else y) z) (sym same) (h refl)
  either k false b x y z w same h g = subst (λ c. Standing plan k (if c then x else y) w) (sym same) (g refl)

  write-by : (at : ℕ) (values : List ℤ) (k : ℕ) (m : State) (s : CoreState) → at + length values ≤ cells → Standing plan k m s → Standing plan k (written at values m) (core_put at values s)
  write-by at values k m s fits h =
      either k s.active m.active (holding (overwritten at (map Some values) m.held) m) (record m { cells = overwritten at values m.cells })
      (record s { held = put_from s.held at (map Some values) }) (record s { cells = put_from s.cells at values }) (h.base).same_active
      (λ active. write-held at values k m s fits active h) (λ rests. write-idle at values k m s fits rests h)

  -- the values of a write have their cells
  hold-written-is : (at : ℕ) (values : List ℤ) (m : State) → at + length values ≤ m.shape.cells → (hold_written at values m).1 ≡ written at values m
  unfolding hold_written
  hold-written-is at values m fits = let inside : nat_le (at + length values) m.shape.cells ≡ true = le-leb _ _ fits in rw inside refl

  core-write-is : (s : CoreState) (name : Name) (x : ℕ × ℕ) (first : ℕ) (values : List ℤ) → address_of program.variables name ≡ Some x → first + length values ≤ x.1
      → core_write program s name first values ≡ core_put (x.0 + first) values s
  core-write-is s name x first values found fits =
      let many : length (map Some values) ≡ length values = length-map {A = ℤ} {B = Option ℤ} values Some in
      ap (λ (o : Option (ℕ × ℕ)). if s.active then record s { held = put_into o first (map Some values) s.held } else record s { cells = put_into o first values s.cells }) found
      ∙ ap (λ held. if s.active then record s { held = held } else record s { cells = put_into (Some x) first values s.cells }) (put_into-all x first (map Some values) s.held (omega arith))
      ∙ ap (λ cells. if s.active then record s { held = put_from s.held (x.0 + first) (map Some values) } else record s { cells = cells }) (put_into-all x first values s.cells fits)

  write-placed : (o : Option Placed) (name : Name) (first : ℕ) (values : List ℤ) (a : Option (ℕ × ℕ)) → SamePlace o a → address_of program.variables name ≡ a
      → ((x : ℕ × ℕ) → a ≡ Some x → x.0 + x.1 ≤ cells) → is_inside a first (length values) ≡ true
      → (k : ℕ) (m : State) (s : CoreState) → Standing plan k m s → Standing plan k (writing o first values m) (core_write program s name first values)
  write-placed None name first values None same found inside good k m s h = absurd (true≢false (sym good))
  write-placed (Some v) name first values None same found inside good k m s h = absurd same
  write-placed None name first values (Some x) same found inside good k m s h = absurd same
  write-placed (Some v) name first values (Some x) same found inside good k m s h =
      let fits : first + length values ≤ x.1 = leb-true _ _ good in
      let within : x.0 + x.1 ≤ cells = inside x refl in
      let start : v.start ≡ x.0 = same.0 in
      let place : v.start + first ≡ x.0 + first = omega arith in
      let base : Base plan m s = h.base in
      let room : x.0 + first + length values ≤ m.shape.cells = let l = base.long in let k = base.many in let e = ap (λ (shape : Shape). shape.cells) base.shape in omega arith in
      let m_is : writing (Some v) first values m ≡ written (x.0 + first) values m = ap (λ at. (hold_written at values m).1) place ∙ hold-written-is (x.0 + first) values m room in
      subst (λ n. Standing plan k n (core_write program s name first values)) (sym m_is)
      (subst (λ t. Standing plan k (written (x.0 + first) values m) t) (sym (core-write-is s name x first values found fits)) (write-by (x.0 + first) values k m s (omega arith) h))

  -- values for cells of a variable
  pub standing-write : (places : List Placed) → HasPlaces program.project program.variables cells places → (name : Name) (first : ℕ) (values : List ℤ)
      → is_inside (address_of program.variables name) first (length values) ≡ true
      → (k : ℕ) (m : State) (s : CoreState) → Standing plan k m s → Standing plan k (writing (placed_named places name) first values m) (core_write program s name first values)
  standing-write places laid name first values good k m s h =
      let inside : (x : ℕ × ℕ) → address_of program.variables name ≡ Some x → x.0 + x.1 ≤ cells =
      λ x found. let l = laid.inside in let a = address-inside program.variables name 0 x found in omega arith in
      subst (λ all. Standing plan k (writing (placed_named all name) first values m) (core_write program s name first values)) (sym laid.laid)
      (write-placed (placed_named (placed_from 0 program.variables) name) name first values (address_of program.variables name) (same-place program.variables name 0) refl inside good k m s h)

  -- Events

  -- a variable of the node lies inside the cells of variables
  node-inside : (places : List Placed) → HasPlaces program.project program.variables cells places → (name : Name) (x : ℕ × ℕ)
      → address_of program.project.node.variables name ≡ Some x → x.0 + x.1 ≤ cells
  node-inside places laid name x found =
      let node : List Sized = program.project.node.variables in
      let a : x.0 + x.1 ≤ 0 + sum_by (λ v. v.size) node = address-inside node name 0 x found in
      let part : sum_by (λ v. v.size) (take (length node) program.variables) ≤ sum_by (λ v. v.size) program.variables = sum_by-take-le (λ (v : Sized). v.size) program.variables (length node) in
      let same : sum_by (λ v. v.size) (take (length node) program.variables) ≡ sum_by (λ v. v.size) node = ap (sum_by (λ (v : Sized). v.size)) laid.first in
      let all : sum_by (λ v. v.size) program.variables ≤ cells = laid.inside in
      omega (arith, a, part, same, all)

  abbrev source_place : Option (ℕ × ℕ)
  source_place = address_of program.project.node.variables (codes "event.source")

  abbrev args_place : Option (ℕ × ℕ)
  args_place = address_of program.project.node.variables (codes "event.args")

  -- cells with a source and arguments
  abbrev core_told : ℕ → List ℤ → List ℤ → List ℤ
  core_told source args cells = put_into args_place 0 args (put_into source_place 0 (wrapped (pos source) ∷ []) cells)

  told-is : (places : List Placed) → HasPlaces program.project program.variables cells places → (source : ℕ) (args memory : List ℤ) → source < 65536 → cells ≤ length memory
      → told (shape_of program.project) source args memory ≡ core_told source args memory
  told-is places laid source args memory low long =
      let node : List Sized = program.project.node.variables in
      let source_found : Option Placed = placed_named (placed_from 0 node) (codes "event.source") in
      let args_found : Option Placed = placed_named (placed_from 0 node) (codes "event.args") in
      let first : List ℤ = put_into source_place 0 (wrapped (pos source) ∷ []) memory in
      let sourced : (shape_of program.project).source ≡ option_map (λ v. v.start) source_found = refl in
      let number = named-put source_found source_place source memory (same-place node (codes "event.source") 0) (λ x found. address-size node (codes "event.source") 0 x laid.sizes found) low in
      let fits : (x : ℕ × ℕ) → args_place ≡ Some x → x.0 + x.1 ≤ length first =
      λ x found. let a = node-inside places laid (codes "event.args") x found in let l : length first ≡ length memory = put_into-long source_place 0 (wrapped (pos source) ∷ []) memory in omega arith in
      ap (λ cells. overwritten (shape_of program.project).args_at (take (shape_of program.project).args_len args) cells) number
      ∙ args-put args_found args_place args first (same-place node (codes "event.args") 0) fits

  core_told-long : (source : ℕ) (args memory : List ℤ) → length (core_told source args memory) ≡ length memory
  core_told-long source args memory = put_into-long args_place 0 args (put_into source_place 0 (wrapped (pos source) ∷ []) memory) ∙ put_into-long source_place 0 (wrapped (pos source) ∷ []) memory

  -- a handler of the core begins
  abbrev begun_core : ℕ × CorePart → ℕ → List ℤ → CoreState → CoreState
  begun_core found source args s = core_begun program s found source args

  begun-base : (places : List Placed) → HasPlaces program.project program.variables cells places → (found : ℕ × CorePart) (address source : ℕ) (args : List ℤ) (m : State) (s : CoreState)
      → source < 65536 → Base plan m s → Base plan (begun address source args m) (begun_core found source args s)
  begun-base places laid found address source args m s low h =
      let long : cells ≤ length m.cells = let l = h.long in omega arith in
      let core_long : cells ≤ length s.cells = let l = h.core_long in omega arith in
      let cells_are : told m.shape source args m.cells ≡ core_told source args m.cells = ap (λ shape. told shape source args m.cells) h.shape ∙ told-is places laid source args m.cells low long in
      let same : length (told m.shape source args m.cells) ≡ length m.cells = ap length cells_are ∙ core_told-long source args m.cells in
      let first : List ℤ → List ℤ = put_into source_place 0 (wrapped (pos source) ∷ []) in
      let inside : (memory : List ℤ) → cells ≤ length memory → (name : Name) (x : ℕ × ℕ) → address_of program.project.node.variables name ≡ Some x → x.0 + x.1 ≤ length memory =
      λ memory enough name x at. let a = node-inside places laid name x at in omega arith in
      let alike : (a : ℕ) → a < cells → slice_index_or (core_told source args m.cells) a (pos 0) ≡ slice_index_or (core_told source args s.cells) a (pos 0) =
      λ a below. put_into-alike args_place args (first m.cells) (first s.cells) a (pos 0)
      (λ x at. inside (first m.cells) (let e = put_into-long source_place 0 (wrapped (pos source) ∷ []) m.cells in omega arith) (codes "event.args") x at)
      (λ x at. inside (first s.cells) (let e = put_into-long source_place 0 (wrapped (pos source) ∷ []) s.cells in omega arith) (codes "event.args") x at)
      (put_into-alike source_place (wrapped (pos source) ∷ []) m.cells s.cells a (pos 0)
      (λ x at. inside m.cells long (codes "event.source") x at) (λ x at. inside s.cells core_long (codes "event.source") x at) (h.same_cells a below)) in
      record {
        shape = h.shape;
        same_cells = λ a below. ap (λ cells. slice_index_or cells a (pos 0)) cells_are ∙ alike a below;
        same_held = h.same_held;
        many = same ∙ h.many;
        long = let l = h.long in omega arith;
        few = let l = h.few in omega arith;
        held_long = h.held_long ∙ sym same;
        core_long = core_told-long source args s.cells ∙ h.core_long;
        core_held_long = h.core_held_long ∙ sym (core_told-long source args s.cells);
        memory = h.memory;
        same_bits = h.same_bits;
        holds = h.holds;
        same_active = refl;
        same_paused = h.same_paused;
      }

  -- without temporaries a statement may read variables alone
  unkept : (a : ℕ) → is_readable program.core [] a ≡ true → a < cells
  unkept a readable = by_test (nat_lt a cells) refl (and-right (nat_lt a (cells + program.core.room)) (nat_lt a cells || false) readable)
    where
      by_test : (b : Bool) → nat_lt a cells ≡ b → (b || false) ≡ true → a < cells
      by_test true e h = ltb-true a cells e
      by_test false e h = absurd (true≢false (sym h))

  -- at the begin of a work without temporaries
  pub first-working : (m : State) (s : CoreState) → Base plan m s → m.stack ≡ [] → Does plan s.work m.pc [] 0 [] → Working plan m s
  first-working m s base empty placed = record { kept = []; frames = []; nested = tt; reads = λ a readable. base.same_cells a (unkept a readable); placed = placed; empty = empty }

  abbrev pub handler_work : ℕ × CorePart → List CoreTask
  handler_work found = core_tasks found.0 (found.1).body ++ finish_core (found.1).line ∷ []

  begun-standing : (places : List Placed) → HasPlaces program.project program.variables cells places → (found : ℕ × CorePart) (address source : ℕ) (args : List ℤ) (m : State) (s : CoreState)
      → source < 65536 → Base plan m s → m.stack ≡ [] → Does plan (handler_work found) address [] 0 [] → Standing plan zero (begun address source args m) (begun_core found source args s)
  begun-standing places laid found address source args m s low h empty placed =
      let base : Base plan (begun address source args m) (begun_core found source args s) = begun-base places laid found address source args m s low h in
      standing-start plan (begun address source args m) (begun_core found source args s) (record {
        base = base;
        works = λ active. first-working (begun address source args m) (begun_core found source args s) base empty placed;
        spent = λ rests. absurd (true≢false rests);
      })

  -- The event has no handler, or one whose work stands at the address that the memory has for it.
  abbrev pub Handled : ℕ → List ℕ → Option (ℕ × CorePart) → Type 0
  Handled event memory None = handler_of event memory ≡ None
  Handled event memory (Some found) = (address : ℕ) × (handler_of event memory ≡ Some address) × Does plan (handler_work found) address [] 0 []

  -- so it is with each event that isn't the init code's
  abbrev pub Handling : Type 0
  Handling = (event : ℕ) (memory : List ℕ) → event ≢ 65535 → Holds plan.code memory → Handled event memory (core_handler_of program (Some event))

  -- Both meet an event alike; where no handler begins, the ticks that are done stay.
  pub record Answers (k : ℕ) (a : Met State) (c : Met CoreState) : Type 0 where
    pub meeting : meeting_by (line_at plan.code) a.meeting ≡ c.meeting
    pub done : ℕ
    pub tied : Standing plan done a.state c.state
    pub few : done ≤ k
    pub kept : is_begun a.meeting ≡ false → done ≡ k

  arriving-is : (event source : ℕ) (args : List ℤ) (m : State) (o : Option ℕ) → handler_of event m.code ≡ o
      → arriving (Some event) source args m ≡ record { state = (arrived_at o source args m).1; meeting = meeting_of (arrived_at o source args m).0 }
  unfolding arrived
  arriving-is event source args m o found = ap (λ (x : Option ℕ). record { state = (arrived_at x source args m).1; meeting = meeting_of (arrived_at x source args m).0 }) found

  -- an event with a handler at an address
  met : (places : List Placed) → HasPlaces program.project program.variables cells places → OnLine plan → (found : ℕ × CorePart) (address source : ℕ) (args : List ℤ) (k : ℕ) (m : State) (s : CoreState)
      → source < 65536 → Standing plan k m s → Does plan (handler_work found) address [] 0 []
      → Answers k (record { state = (arrived_at (Some address) source args m).1; meeting = meeting_of (arrived_at (Some address) source args m).0 }) (core_arrived program s source args (Some found))
  met places laid on_line found address source args k m s low h placed = by_active s.active s.paused refl refl
    where
      same : (a : Met State) (c : Met CoreState) → (record { state = (arrived_at (Some address) source args m).1; meeting = meeting_of (arrived_at (Some address) source args m).0 }) ≡ a
          → core_arrived program s source args (Some found) ≡ c → Answers k a c
          → Answers k (record { state = (arrived_at (Some address) source args m).1; meeting = meeting_of (arrived_at (Some address) source args m).0 }) (core_arrived program s source args (Some found))
      same a c one two goal = subst (λ x. Answers k x (core_arrived program s source args (Some found))) (sym one) (subst (λ y. Answers k a y) (sym two) goal)

      by_active : (x p : Bool) → s.active ≡ x → s.paused ≡ p
          → Answers k (record { state = (arrived_at (Some address) source args m).1; meeting = meeting_of (arrived_at (Some address) source args m).0 }) (core_arrived program s source args (Some found))
      by_active true true active paused =
          let on : m.active ≡ true = (h.base).same_active ∙ active in
          let held : m.paused ≡ true = (h.base).same_paused ∙ paused in
          same (record { state = m; meeting = refused }) (record { state = s; meeting = refused }) (rw (on, held) refl) (rw (active, paused) refl)
          (record { meeting = refl; done = k; tied = h; few = omega arith; kept = λ none. refl })
      by_active true false active unpaused =
          let on : m.active ≡ true = (h.base).same_active ∙ active in
          let free : m.paused ≡ false = (h.base).same_paused ∙ unpaused in
          same (record { state = begun address source args (ended m); meeting = kills m.pc }) (record { state = begun_core found source args (core_ended s); meeting = kills (core_next_line s) })
          (rw (on, free) refl) (rw (active, unpaused) refl)
          (record {
            meeting = ap kills (standing-line plan on_line k m s h active);
            done = zero;
            tied = begun-standing places laid found address source args (ended m) (core_ended s) low (ended-base plan m s h.base) refl placed;
            few = omega arith;
            kept = λ none. absurd (true≢false none);
          })
      by_active false p rests paused =
          let off : m.active ≡ false = (h.base).same_active ∙ rests in
          let idle : core_arrived program s source args (Some found) ≡ record { state = begun_core found source args s; meeting = begins } = idle-core p rests paused in
          same (record { state = begun address source args m; meeting = begins }) (record { state = begun_core found source args s; meeting = begins }) (rw off refl) idle
          (record {
            meeting = refl;
            done = zero;
            tied = begun-standing places laid found address source args m s low h.base (h.spent rests) placed;
            few = omega arith;
            kept = λ none. absurd (true≢false none);
          })
        where
          idle-core : (q : Bool) → s.active ≡ false → s.paused ≡ q → core_arrived program s source args (Some found) ≡ record { state = begun_core found source args s; meeting = begins }
          idle-core true rests paused = rw (rests, paused) refl
          idle-core false rests paused = rw (rests, paused) refl

  pub standing-arrive : (places : List Placed) → HasPlaces program.project program.variables cells places → OnLine plan → (event source : ℕ) (args : List ℤ) → source < 65536 → (k : ℕ) (m : State) (s : CoreState)
      → Standing plan k m s → (o : Option (ℕ × CorePart)) → Handled event m.code o → Answers k (arriving (Some event) source args m) (core_arrived program s source args o)
  standing-arrive places laid on_line event source args low k m s h None none =
      subst (λ a. Answers k a (record { state = s; meeting = unheard })) (sym (arriving-is event source args m None none))
      (record { meeting = refl; done = k; tied = h; few = omega arith; kept = λ never. refl })
  standing-arrive places laid on_line event source args low k m s h (Some found) handled =
      subst (λ a. Answers k a (core_arrived program s source args (Some found))) (sym (arriving-is event source args m (Some handled.0) handled.1))
      (met places laid on_line found handled.0 source args k m s low h handled.2)
