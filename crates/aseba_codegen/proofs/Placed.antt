-- Where the code of a work stands, with its jumps, its calls and what returns find: what ties a machine to its core at the starts of statements.
use Rattle.std.specs.Prelude.{◌≡◌, ℕ, ◌+◌, ◌<◌, ◌≤◌, ◌⊎◌, ◌≢◌, Bool, true, false, ℤ, pos, ◌+ℤ◌, List, [], ◌∷◌, ◌++◌, length, map, slice_get, slice_index, slice_index_or, Option, Some, None, option_map, option_to_list}
use Rattle.std.specs.Int.{cast_signed, w16}
use Rattle.aseba_words.specs.Natives.{native_params}
use Rattle.aseba_tree.specs.Code.{Name, Project}
use Rattle.aseba_tree.specs.Line.{report_by}
use Rattle.aseba_tree.specs.NativeName.{native_named}
use Rattle.aseba_tree.specs.CoreExpr.{CoreExpr}
use Rattle.aseba_tree.specs.Core.{core_stmt, CoreForm, CorePart}
use Rattle.aseba_tree.specs.CoreCells.{form_has_cells, list_has_cells}
use Rattle.aseba_tree.specs.CoreLines.{form_is_lined, list_is_lined}
use Rattle.aseba_tree.specs.CoreNumbers.{core_form_depth, core_list_depth, core_list_weight, kept_nodes, own_nodes, inner_weight, is_handler}
use Rattle.aseba_tree.specs.CoreRun.{work_call}
use Rattle.aseba_tree.specs.CoreShape.{is_readable, kept_at, stands_in, sizes_of_native, is_good_form, is_good_list}
use Rattle.aseba_tree.specs.CoreStep.{CoreTask, perform_core, leave_core, turn_core, back_core, finish_core, CoreState, CoreProgram, CoreStepped, behind_back_core, core_first_done, core_task_line, core_work_line, whens_before}
use Rattle.aseba_tree.specs.Numbers.{is_large}
use Rattle.aseba_tree.specs.Run.{Knows}
use Rattle.aseba_tree.specs.Step.{IsKnown}
use Rattle.aseba_vm.specs.State.{State}
use Rattle.aseba_vm.specs.Tick.{ticked}
use Rattle.aseba_vm.specs.Words.{end_word, sub_return_word, native_word}
use Rattle.aseba_target.specs.Node.{shape_of}
use Rattle.aseba_target.specs.MachineRun.{is_effect, is_error, tick_report, next_call}
use Rattle.aseba_codegen.specs.declared.coded.Coded.{Coded}
use Rattle.aseba_codegen.specs.Places.{HasBits}
use Rattle.aseba_codegen.specs.Words.{Site, site_of, condition_code, jump_code, test_code, form_code, list_code}
use Rattle.aseba_codegen.specs.Agrees.{line_at}
use Rattle.aseba_codegen.proofs.TickRows.{put}
use Rattle.aseba_codegen.proofs.Reach.{Holds, Lined, Stands, Reaches}

-- Calls

-- a call that is under way: the address to return to, and the temporaries that the statements there may read
pub record Frame : Type 0 where
  pub address : ℕ
  pub kept : List ℕ

-- whether the code that runs is a subroutine's
abbrev pub is_inside : List Frame → Bool
is_inside [] = false
is_inside (f ∷ fs) = true

-- the stack at the start of a statement
abbrev pub stack_of : List Frame → List ℤ
stack_of frames = map (λ f. cast_signed w16 f.address) frames

-- all of the one list stand in the other
abbrev pub Within : List ℕ → List ℕ → Type 0
Within inner outer = (a : ℕ) → stands_in inner a ≡ true → stands_in outer a ≡ true

-- what is kept holds what each call keeps
abbrev pub Nested : List ℕ → List Frame → Type 0
Nested kept [] = Unit {0}
Nested kept (f ∷ fs) = Within f.kept kept × Nested f.kept fs

-- what the stores into temporaries directly before the next statement weigh together
abbrev pub heavier : Option ℕ → ℕ → ℕ
heavier None weighs = 0
heavier (Some more) weighs = weighs + more

-- Branch words

abbrev pub mark : Bool → ℕ
mark true = 1
mark false = 0

-- a word that remembers stands in the list of places
abbrev pub MarkedOne : List ℕ → Bool → (at k : ℕ) → Type 0
MarkedOne places true at k = slice_get places k ≡ Some at
MarkedOne places false at k = Unit {0}

-- so do all of a piece of code at a place, from the k-th place of the list on
abbrev pub Marked : List ℕ → (at k : ℕ) → List Coded → Type 0
Marked places at k [] = Unit {0}
Marked places at k (c ∷ cs) = MarkedOne places c.is_edge at k × Marked places (at + 1) (k + mark c.is_edge) cs

-- Only a loop is turned to again.
abbrev pub is_statement : CoreTask → Bool
is_statement (perform_core before s) = true
is_statement _ = false

-- A program and its code: the most ticks to an effect, the address of each part, the places of the branch words of `when`s in the order of the text, and the
-- stack cells that each subroutine takes.
pub record Plan : Type 0 where
  pub program : CoreProgram
  pub code : List Coded
  pub weight : ℕ
  pub starts : List ℕ
  pub places : List ℕ
  pub subs : ℕ → ℕ

-- what is asked of a place of the code, with the temporaries that were stored into, what those directly before it weigh, and the calls that are under way
abbrev pub Place : Type 1
Place = (at : ℕ) → (kept : List ℕ) → (weighs : ℕ) → (frames : List Frame) → Type 0

module _ (plan : Plan) where
  abbrev pub project : Project
  project = plan.program.project

  -- the cells of variables, and the most values on the stack
  abbrev pub cells : ℕ
  cells = plan.program.core.cells

  abbrev pub limit : ℕ
  limit = plan.program.project.node.stack

  abbrev pub site : List Frame → Site
  site frames = site_of plan.program.project plan.starts (is_inside frames)

  abbrev pub placed_code : List Frame → ℕ → CoreForm → List Coded
  placed_code frames line form = form_code (site frames) line form

  -- The whole code of a statement stands here, and the statement is as it should be.
  pub record Whole (before line : ℕ) (form : CoreForm) (at : ℕ) (kept : List ℕ) (weighs : ℕ) (frames : List Frame) : Type 0 where
    pub stands : Stands plan.code at (placed_code frames line form)
    pub marked : Marked plan.places at before (placed_code frames line form)
    pub good : is_good_form plan.program.project plan.program.core kept form ≡ true
    pub numbers : form_has_cells form ≡ true
    pub lined : form_is_lined plan.program.core.cells form ≡ true
    pub room : length frames + core_form_depth plan.subs form ≤ limit
    pub light : weighs + own_nodes form + 3 ≤ plan.weight
    pub inner : inner_weight plan.program.core.cells form ≤ plan.weight

  -- A jump that leads from one place to another. In a large project it takes two places of the stack.
  pub record Jumps (line at target weighs : ℕ) (frames : List Frame) : Type 0 where
    pub by : ℤ
    pub leads : pos at +ℤ by ≡ pos target
    pub stands : Lined plan.code line at (jump_code plan.program.project by)
    pub light : weighs + 3 ≤ plan.weight
    pub room : length frames + 2 ≤ limit

  -- what a return leads to
  abbrev pub Back : Place → List Frame → Type 0
  Back behind [] = ⊥
  Back behind (f ∷ fs) = (f.address < 32768) × behind f.address f.kept 0 fs

  -- The code at a place does a task of a work, and behind it what is asked there.
  abbrev pub DoesTask : CoreTask → List CoreTask → Place → Place
  DoesTask (perform_core before (core_stmt line form)) rest behind at kept weighs frames =
      Whole before line form at kept weighs frames
      × (kept_at plan.program.core form ≢ None → core_work_line rest ≡ line)
      × behind (at + length (placed_code frames line form)) (option_to_list (kept_at plan.program.core form) ++ kept) (heavier (kept_nodes plan.program.core.cells form) weighs) frames
  DoesTask (leave_core line) rest behind at kept weighs frames = (target : ℕ) × Jumps line at target weighs frames × behind target kept 0 frames
  DoesTask (turn_core again) rest behind at kept weighs frames =
      (start : ℕ) × Jumps (core_task_line again) at start weighs frames × (is_statement again ≡ true) × DoesTask again rest behind start kept 0 frames
  DoesTask (back_core line) rest behind at kept weighs frames = Lined plan.code line at (sub_return_word ∷ []) × (weighs + 3 ≤ plan.weight) × Back behind frames
  DoesTask (finish_core line) rest behind at kept weighs frames = Lined plan.code line at (end_word ∷ []) × (weighs + 3 ≤ plan.weight) × (frames ≡ []) × (rest ≡ [])

  -- The code at a place does a work, from the start of a statement on.
  abbrev pub Does : List CoreTask → Place
  Does [] at kept weighs frames = ⊥
  Does (task ∷ rest) at kept weighs frames = DoesTask task rest (Does rest) at kept weighs frames

  -- the test of a condition stands here, and behind it, both ways, the code of what is done then
  pub record Tests (is_edge : Bool) (line : ℕ) (c : CoreExpr) (at : ℕ) (if_so if_not : List CoreTask) (kept : List ℕ) (frames : List Frame) : Type 0 where
    pub otherwise : ℕ
    pub stands : Stands plan.code at (test_code line is_edge (condition_code c) otherwise)
    pub so : Does if_so (at + (length (condition_code c).words + 2)) kept 0 frames
    pub not_so : Does if_not (at + length (condition_code c).words + otherwise) kept 0 frames

  -- what a `return` finds: the rest of the caller's work at the address of the call that is under way, or no caller
  abbrev pub Returned : List CoreTask → List Frame → Type 0
  Returned work [] = behind_back_core work ≡ None
  Returned work (f ∷ fs) = (rest : List CoreTask) × (behind_back_core work ≡ Some rest) × (f.address < 32768) × Does rest f.address f.kept 0 fs

  -- a subroutine and its code
  pub record LaidSub (which : ℕ) (part : CorePart) : Type 0 where
    pub near : slice_index plan.starts which < 4096
    pub stands : Stands plan.code (slice_index plan.starts which) (list_code (site_of plan.program.project plan.starts true) part.body)
    pub marked : Marked plan.places (slice_index plan.starts which) (whens_before plan.program.core which) (list_code (site_of plan.program.project plan.starts true) part.body)
    pub last : Lined plan.code part.line (slice_index plan.starts which + length (list_code (site_of plan.program.project plan.starts true) part.body)) (sub_return_word ∷ [])
    pub good : is_good_list plan.program.project plan.program.core [] part.body ≡ true
    pub numbers : list_has_cells part.body ≡ true
    pub lined : list_is_lined plan.program.core.cells part.body ≡ true
    pub light : core_list_weight plan.program.core.cells part.body 0 ≤ plan.weight
    pub deep : core_list_depth plan.subs part.body ≤ plan.subs which

  -- The code is laid out: jumps and calls reach what they name, each branch word of a `when` has a place of its own, and the subroutines stand where calls lead.
  pub record Laid : Type 0 where
    pub few_events : length plan.program.project.events ≤ 4096
    pub few_natives : length plan.program.project.node.natives ≤ 4096
    pub heavy : 3 ≤ plan.weight
    pub short : length plan.code ≤ 32767
    pub near : is_large plan.program.project ≡ false → length plan.code ≤ 2048
    pub apart : (i j at : ℕ) → slice_get plan.places i ≡ Some at → slice_get plan.places j ≡ Some at → i ≡ j
    pub subs_at : (which : ℕ) (part : CorePart) → slice_get plan.program.core.parts which ≡ Some part → is_handler part ≡ false → LaidSub which part

  -- What machine and core have in common at every moment: variables, bits, held values and flags.
  pub record Base (m : State) (s : CoreState) : Type 0 where
    pub shape : m.shape ≡ shape_of plan.program.project
    pub same_cells : (a : ℕ) → a < plan.program.core.cells → slice_index_or m.cells a (pos 0) ≡ slice_index_or s.cells a (pos 0)
    pub same_held : (a : ℕ) → a < plan.program.core.cells → slice_index_or m.held a None ≡ slice_index_or s.held a None
    pub many : length m.cells ≡ plan.program.project.node.cells
    pub long : plan.program.core.cells + plan.program.core.room ≤ length m.cells
    pub few : length m.cells ≤ 4096
    pub held_long : length m.held ≡ length m.cells
    pub core_long : length s.cells ≡ plan.program.core.cells + plan.program.core.room
    pub core_held_long : length s.held ≡ length s.cells
    pub memory : length plan.code ≤ length m.code
    pub same_bits : HasBits plan.code m.code plan.places s.bits
    pub holds : Holds plan.code m.code
    pub same_active : m.active ≡ s.active
    pub same_paused : m.paused ≡ s.paused

  -- the cells that the next statements may read are the same
  abbrev pub Reads : List ℕ → State → CoreState → Type 0
  Reads kept m s = (a : ℕ) → is_readable plan.program.core kept a ≡ true → slice_index_or m.cells a (pos 0) ≡ slice_index_or s.cells a (pos 0)

  -- A machine at the start of a statement, with nothing on the stack but return addresses. Whether it is paused isn't said.
  pub record Working (m : State) (s : CoreState) : Type 0 where
    pub kept : List ℕ
    pub frames : List Frame
    pub nested : Nested kept frames
    pub reads : Reads kept m s
    pub placed : Does s.work m.pc kept 0 frames
    pub empty : m.stack ≡ stack_of frames

  -- A machine between two effects, at the start of a statement where a handler is active.
  pub record Aligned (m : State) (s : CoreState) : Type 0 where
    pub base : Base m s
    pub works : s.active ≡ true → Working m s
    pub spent : s.active ≡ false → m.stack ≡ []

  -- the next tick is the effect that a step is, tells what it tells and calls what it calls, which is known
  pub record Lands (after : CoreStepped) (call : Option Name) (m : State) : Type 0 where
    pub counts : is_effect plan.program.core.cells (ticked m).0 ≡ true
    pub sound : is_error (ticked m).0 ≡ false
    pub told : option_map (report_by (line_at plan.code)) (tick_report plan.program.project ((ticked m).1).cells (ticked m).0) ≡ after.report
    pub called : next_call plan.program.project m ≡ call
    pub known : Knows (IsKnown plan.program.project) call
    pub next : Aligned (ticked m).1 after.state

  -- The next tick calls a native that isn't known, as the core does: none has this place with these parameters.
  pub record Meets (call : Option Name) (m : State) : Type 0 where
    pub id : ℕ
    pub sized : (params : List ℤ) × (sizes_of_native plan.program.project id ≡ Some params)
    pub unknown : native_params id ≢ sizes_of_native plan.program.project id
    pub word : slice_get m.code m.pc ≡ Some (native_word id)
    pub counts : is_effect plan.program.core.cells (ticked m).0 ≡ true
    pub called : next_call plan.program.project m ≡ Some (native_named plan.program.project id)
    pub named : call ≡ Some (native_named plan.program.project id)

  -- how the ticks of a statement end
  abbrev pub Ends : CoreStepped → Option Name → State → Type 0
  Ends after call m = Lands after call m ⊎ Meets call m

  -- a machine that runs with this core
  pub record Going (m : State) (t : CoreState) (kept : List ℕ) (frames : List Frame) : Type 0 where
    pub base : Base m t
    pub nested : Nested kept frames
    pub reads : Reads kept m t
    pub active : m.active ≡ true
    pub unpaused : m.paused ≡ false

  -- a work that is placed is run up to its next effect
  abbrev pub RunsUp : List CoreTask → Type 0
  RunsUp work =
      (m : State) (t : CoreState) (at : ℕ) (kept : List ℕ) (weighs n : ℕ) (frames : List Frame) → Does work at kept weighs frames → weighs + n + 1 ≡ plan.weight
      → Going m t kept frames
      → Reaches plan.code plan.program.core.cells (Ends (core_first_done plan.program t work) (work_call plan.program work t.cells)) n (put m (stack_of frames) at)
