-- The tick that calls a native.
use Rattle.std.proofs.Common.{◌≡◌, ℕ, ◌+◌, ◌<◌, ◌≤◌, Bool, true, false, if◌then◌else◌, nat_le, ℤ, List, length, drop, Option, Some, None, refl, ap, ◌∙◌, arith, le-leb}
use Rattle.std.specs.Prelude.{option_map}
use Rattle.aseba_words.specs.Natives.{native_params}
use Rattle.aseba_natives.specs.declared.end.NativeEnd.{NativeEnd}
use Rattle.aseba_natives.specs.declared.end.NativeEnd.TheVariants.{Done, BadCall, Division}
use Rattle.aseba_natives.specs.Call.{arg_count, end_of, is_call, called, call_end, call_cells}
use Rattle.aseba_tree.specs.Code.{Project}
use Rattle.aseba_tree.specs.NativeName.{native_named}
use Rattle.aseba_vm.specs.declared.opcode.Opcode.TheVariants as opcode
use Rattle.aseba_vm.specs.declared.tick.NodeFault.TheVariants.{Stack, Native as NativeFault}
use Rattle.aseba_vm.specs.declared.tick.Notice.TheVariants as notice
use Rattle.aseba_vm.specs.declared.tick.Tick.{Tick}
use Rattle.aseba_vm.specs.declared.tick.Tick.TheVariants.{Effect, Sent}
use Rattle.aseba_vm.specs.State.{State}
use Rattle.aseba_vm.specs.Instructions.{operand_of}
use Rattle.aseba_vm.specs.Outcome.{Outcome, faulting, given}
use Rattle.aseba_vm.specs.Rows.{arguments, native_ended, calling}
use Rattle.aseba_vm.specs.Tick.{ticked, settled}
use Rattle.aseba_vm.specs.Words.{native_word}
use Rattle.aseba_target.specs.MachineRun.{is_effect, opcode_call, next_call}
use Rattle.aseba_codegen.proofs.TickRows.{Ready, halted, opcode-read, low-of, row-tick}
use Rattle.aseba_codegen.proofs.NativeValues.{onto, AllShort, arguments-are, rest-is, onto-long}

-- what an instruction comes to, as a tick
abbrev tick_of : Outcome Tick → Tick × State
tick_of outcome = settled outcome.0 outcome.1

-- the call of the native of a number, which takes so many values where there is such a native
abbrev calls_with : State → ℕ → Option ℕ → Outcome Tick
calls_with m id count = given count (faulting NativeFault m) (λ k. if nat_le k (length m.stack) then calling id k m else faulting Stack m)

call-tick : (m : State) (id : ℕ) → id < 4096 → Ready m (native_word id) → ticked m ≡ tick_of (calls_with m id (option_map arg_count (native_params id)))
call-tick m id below ready =
    row-tick m opcode.NativeCall id below ready
    ∙ ap (λ n. tick_of (calls_with m n (option_map arg_count (native_params n)))) (low-of opcode.NativeCall id below)

-- the word names its native
pub call-named : (project : Project) (m : State) (id : ℕ) → id < 4096 → Ready m (native_word id) → next_call project m ≡ Some (native_named project id)
call-named project m id below ready =
    rw (ready.active, ready.unpaused, ready.at)
    (ap (opcode_call project (operand_of (native_word id))) (opcode-read opcode.NativeCall id) ∙ ap (λ n. Some (native_named project n)) (low-of opcode.NativeCall id below))

-- whatever comes of it, the tick is an effect
pub call-counts : (cells : ℕ) (m : State) (id : ℕ) → id < 4096 → Ready m (native_word id) → is_effect cells (ticked m).0 ≡ true
call-counts cells m id below ready = ap (λ (r : Tick × State). is_effect cells r.0) (call-tick m id below ready) ∙ by_count (option_map arg_count (native_params id))
  where
    by_end : (end : NativeEnd) (s : State) → is_effect cells (tick_of (native_ended end s)).0 ≡ true
    by_end Done s = refl
    by_end Division s = refl
    by_end BadCall s = refl

    by_room : (b : Bool) (k : ℕ) → is_effect cells (tick_of (if b then calling id k m else faulting Stack m)).0 ≡ true
    by_room true k = by_end (call_end id (arguments k m.stack) m.cells) (record m { cells = call_cells id (arguments k m.stack) m.cells; stack = drop k m.stack })
    by_room false k = refl

    by_count : (o : Option ℕ) → is_effect cells (tick_of (calls_with m id o)).0 ≡ true
    by_count None = refl
    by_count (Some k) = by_room (nat_le k (length m.stack)) k

-- the machine behind a call that took these values from above a stack
abbrev pub after_call : State → ℕ → List ℕ → List ℤ → State
after_call m id values stack = record m { cells = (called id values m.cells).1; stack = stack }

-- a call that fits finds its values
pub called-tick : (m : State) (id : ℕ) (values : List ℕ) (stack : List ℤ) → id < 4096 → m.stack ≡ onto values stack → Ready m (native_word id)
    → option_map arg_count (native_params id) ≡ Some (length values) → AllShort values → is_call (length m.cells) id values ≡ true
    → ticked m ≡ tick_of (native_ended (end_of (called id values m.cells).0) (after_call m id values stack))
called-tick m id values stack below top ready count short fits =
    let enough : length values ≤ length m.stack = let e = ap length top in let l = onto-long values stack in omega arith in
    let args : arguments (length values) m.stack ≡ values = ap (arguments (length values)) top ∙ arguments-are values stack short in
    let rest : drop (length values) m.stack ≡ stack = ap (drop (length values)) top ∙ rest-is values stack in
    call-tick m id below ready
    ∙ ap (λ o. tick_of (calls_with m id o)) count
    ∙ ap (λ (b : Bool). tick_of (if b then calling id (length values) m else faulting Stack m)) (le-leb _ _ enough)
    ∙ ap (λ xs. tick_of (native_ended (call_end id xs m.cells) (record m { cells = call_cells id xs m.cells; stack = drop (length values) m.stack }))) args
    ∙ ap (λ xs. tick_of (native_ended (call_end id values m.cells) (record m { cells = call_cells id values m.cells; stack = xs }))) rest
    ∙ ap (λ (b : Bool). tick_of (native_ended (if b then end_of (called id values m.cells).0 else BadCall) (record m { cells = if b then (called id values m.cells).1 else m.cells; stack = stack }))) fits

-- such a call is done, or a zero divisor stops it
pub done-tick : (m : State) (id : ℕ) (values : List ℕ) (stack : List ℤ) → ticked m ≡ tick_of (native_ended (end_of (called id values m.cells).0) (after_call m id values stack)) → (called id values m.cells).0 ≡ false
    → ticked m ≡ (Effect, record (after_call m id values stack) { pc = m.pc + 1 })
done-tick m id values stack tick goes = tick ∙ ap (λ (b : Bool). tick_of (native_ended (end_of b) (after_call m id values stack))) goes

pub divided-tick : (m : State) (id : ℕ) (values : List ℕ) (stack : List ℤ) → ticked m ≡ tick_of (native_ended (end_of (called id values m.cells).0) (after_call m id values stack)) → (called id values m.cells).0 ≡ true
    → ticked m ≡ (Sent (notice.Division m.pc), halted (after_call m id values stack))
divided-tick m id values stack tick stops = tick ∙ ap (λ (b : Bool). tick_of (native_ended (end_of b) (after_call m id values stack))) stops
