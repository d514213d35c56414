-- Whatever is done to a machine, it has as many cells as before.
use Rattle.std.proofs.Common.{◌≡◌, ℕ, ◌+◌, nat_le, Bool, true, false, if◌then◌else◌, ◌&&◌, ℤ, List, length, Option, Some, None, refl, ap, ◌∙◌}
use Rattle.aseba_vm.specs.declared.arrival.Arrival.TheVariants.{Dropped, Killed, Started}
use Rattle.aseba_vm.specs.declared.shape.Shape.{Shape}
use Rattle.aseba_vm.specs.State.{State as Machine, ended}
use Rattle.aseba_vm.specs.Lists.{handler_of}
use Rattle.aseba_vm.specs.Arrival.{arrived, arrived_at, begun}
use Rattle.aseba_vm.specs.Control.{hold_written, written}
use Rattle.aseba_vm.specs.Loaded.{made, loaded, started, reset_state, init_event}
use Rattle.aseba_vm.specs.Tick.{ticked}
use Rattle.aseba_vm.proofs.Sizes.{ticked-same}
use Rattle.aseba_debug.specs.declared.command.Command.{Command}
use Rattle.aseba_debug.specs.declared.command.Command.TheVariants.{Reset, Run, Pause, Step, Stop, State, Set, Clear, ClearAll}
use Rattle.aseba_debug.specs.declared.reply.Reply.{Reply}
use Rattle.aseba_tree.specs.declared.description.Description.{Description}
use Rattle.aseba_node.specs.NodeState.{IsDescribed}
use Rattle.aseba_debug.specs.Commanded.{commanded, checked, standing, step_reply, stepped, stops_at}

-- one of two machines, each of which has so many
either : {R : Type 0} (b : Bool) (x y : R × Machine) {cells : ℕ} → x.1.shape.cells ≡ cells → y.1.shape.cells ≡ cells → (if b then x else y).1.shape.cells ≡ cells
either true x y first second = first
either false x y first second = second

pub made_cells : (shape : Shape) (id : ℕ) → (made shape id).shape.cells ≡ shape.cells
unfolding made
made_cells shape id = refl

ticked_cells : (m : Machine) → (ticked m).1.shape.cells ≡ m.shape.cells
ticked_cells m = ap (λ (sizes : Shape × ℕ × ℕ × ℕ × ℕ). sizes.0.cells) (ticked-same m)

arrived_at_cells : (address : Option ℕ) (source : ℕ) (args : List ℤ) (m : Machine) → (arrived_at address source args m).1.shape.cells ≡ m.shape.cells
arrived_at_cells None source args m = refl
arrived_at_cells (Some address) source args m =
    either m.active (if m.paused then (Dropped, m) else (Killed m.pc, begun address source args (ended m))) (Started, begun address source args m)
    (either m.paused (Dropped, m) (Killed m.pc, begun address source args (ended m)) refl refl) refl

written_cells : (start : ℕ) (values : List ℤ) (m : Machine) (active : Bool) → m.active ≡ active → (written start values m).shape.cells ≡ m.shape.cells
written_cells start values m true is = rw is refl
written_cells start values m false is = rw is refl

started_cells : (address : Option ℕ) (m : Machine) → (started address m).shape.cells ≡ m.shape.cells
started_cells None m = refl
started_cells (Some address) m = refl

reset_cells : (paused : Bool) (m : Machine) → (reset_state paused m).shape.cells ≡ m.shape.cells
unfolding reset_state
reset_cells paused m = started_cells (handler_of init_event m.code) _

stepped_cells : (m : Machine) → (step_reply m).1.shape.cells ≡ m.shape.cells
stepped_cells m = by m.active m.paused
  where
    by : (active paused : Bool) → (if active && paused then stepped m else (standing m, m)).1.shape.cells ≡ m.shape.cells
    by true true = ticked_cells (record m { paused = false })
    by true false = refl
    by false paused = refl

-- what is done to it gives `t`
pub tick_keeps : (m t : Machine) → t ≡ (ticked m).1 → t.shape.cells ≡ m.shape.cells
tick_keeps m t is = ap (λ (s : Machine). s.shape.cells) is ∙ ticked_cells m

pub arrive_keeps : (event source : ℕ) (args : List ℤ) (m t : Machine) → t ≡ (arrived event source args m).1 → t.shape.cells ≡ m.shape.cells
unfolding arrived
arrive_keeps event source args m t is = ap (λ (s : Machine). s.shape.cells) is ∙ arrived_at_cells (handler_of event m.code) source args m

pub load_keeps : (start : ℕ) (words : List ℕ) (m t : Machine) → t ≡ (loaded start words m).1 → t.shape.cells ≡ m.shape.cells
unfolding loaded
load_keeps start words m t is = ap (λ (s : Machine). s.shape.cells) is ∙ either (nat_le (start + length words) m.shape.code) _ _ refl refl

pub write_keeps : (start : ℕ) (values : List ℤ) (m t : Machine) → t ≡ (hold_written start values m).1 → t.shape.cells ≡ m.shape.cells
unfolding hold_written
write_keeps start values m t is =
    ap (λ (s : Machine). s.shape.cells) is ∙ either (nat_le (start + length values) m.shape.cells) _ _ (written_cells start values m m.active refl) refl

commanded_cells : (command : Command) (m : Machine) (breaks : List ℕ) → (commanded command m breaks).1.shape.cells ≡ m.shape.cells
commanded_cells Reset m breaks = reset_cells true m
commanded_cells Run m breaks = refl
commanded_cells Pause m breaks = refl
commanded_cells Step m breaks = stepped_cells m
commanded_cells Stop m breaks = refl
commanded_cells State m breaks = refl
commanded_cells (Set pc) m breaks = refl
commanded_cells (Clear pc) m breaks = refl
commanded_cells ClearAll m breaks = refl

pub command_keeps : (command : Command) (m : Machine) (breaks : List ℕ) (reply : Reply) (t : Machine) (after : List ℕ) → (reply, t, after) ≡ commanded command m breaks → t.shape.cells ≡ m.shape.cells
command_keeps command m breaks reply t after is = ap (λ (done : Reply × Machine × List ℕ). done.1.shape.cells) is ∙ commanded_cells command m breaks

checked_cells : (breaks : List ℕ) (m : Machine) → (checked breaks m).1.shape.cells ≡ m.shape.cells
checked_cells breaks m = either (stops_at breaks m) _ _ refl refl

pub check_keeps : (breaks : List ℕ) (m : Machine) (stops : Bool) (t : Machine) → (stops, t) ≡ checked breaks m → t.shape.cells ≡ m.shape.cells
check_keeps breaks m stops t is = ap (λ (done : Bool × Machine). done.1.shape.cells) is ∙ checked_cells breaks m

-- so a node's machine has the cells that the node tells of
pub still_described : {description : Description} {m t : Machine} → IsDescribed description m → t.shape.cells ≡ m.shape.cells → IsDescribed description t
still_described is same = record { inside = is.inside; cells = same ∙ is.cells }
