-- When a state of the element form is alike one of its source.
use Rattle.std.proofs.Common.{◌≡◌, ℕ, ◌+◌, ◌<◌, ℤ, pos, List, ◌∷◌, ◌++◌, Option, Some, length}
use Rattle.std.specs.Prelude.{slice_index_or}
use Rattle.aseba_tree.specs.Code.{Name}
use Rattle.aseba_tree.specs.Core.{core_stmt, store}
use Rattle.aseba_tree.specs.CoreExpr.{cell, into}
use Rattle.aseba_tree.specs.CoreStep.{CoreState, CoreStepped, CoreTask, perform_core}
use Rattle.aseba_tree.specs.Elements.{variable_place}
use Rattle.aseba_tree.specs.Layout.{variables, cells_of_variables}
use Rattle.aseba_tree.specs.Numbers.{source_room}
use Rattle.aseba_tree.specs.State.{Program, Task, put, State}
use Rattle.aseba_tree.specs.Step.{Stepped}
use Rattle.aseba_expand.specs.Expands.{all_cells_of}
use Rattle.aseba_expand.proofs.Cells.{Laid}
use Rattle.aseba_expand.proofs.Ready.{ReadyTasks}
use Rattle.aseba_expand.proofs.Tasks.{work_core}
use Rattle.aseba_expand.proofs.Values.{with_room}

-- A computed cell that is to be stored in a variable waits in a temporary.
pub record PutAlike (program : Program) (temporaries : List ℤ) (line : ℕ) (name : Name) (place : ℕ) (v : ℤ) (work : List CoreTask) (Behind : List CoreTask → Type 0) : Type 0 where
  pub before : ℕ
  pub k : ℕ
  pub base : ℕ
  pub size : ℕ
  pub rest : List CoreTask
  pub at : variable_place program name ≡ Some (base, size)
  pub inside : place < size
  pub kept : k < length temporaries
  pub value : slice_index_or temporaries k (pos 0) ≡ v
  pub first : work ≡ perform_core before (core_stmt line (store (into (base + place)) (cell (cells_of_variables program + k)))) ∷ rest
  pub behind : Behind rest

abbrev pub Settled : Program → List Task → List CoreTask → Type 0
Settled program ts work = (work ≡ work_core program ts) × ReadyTasks program ts

-- The work of the element form is that of the source, task by task.
abbrev pub WorkAlike : Program → List ℤ → List Task → List CoreTask → Type 0
WorkAlike program temporaries (put line name place v ∷ ts) work = PutAlike program temporaries line name place v work (WorkAlike program temporaries ts)
WorkAlike program temporaries ts work = Settled program ts work

-- The cells of the variables, what is held for them, the bits and the flags are the same, and so is the work.
pub record Alike (program : Program) (s : State) (c : CoreState) : Type 0 where
  pub temporaries : List ℤ
  pub held_behind : List (Option ℤ)
  pub laid : Laid s.cells (variables program)
  pub held_laid : Laid s.held (variables program)
  pub cells : c.cells ≡ with_room s.cells temporaries
  pub held : c.held ≡ all_cells_of s.held ++ held_behind
  pub room : length temporaries ≡ source_room program
  pub bits : c.bits ≡ s.bits
  pub active : c.active ≡ s.active
  pub paused : c.paused ≡ s.paused
  pub work : WorkAlike program temporaries s.work c.work

-- the states behind a step are alike, and it told the same
pub record SteppedAlike (program : Program) (s : Stepped) (c : CoreStepped) : Type 0 where
  pub states : Alike program s.state c.state
  pub reports : s.report ≡ c.report
