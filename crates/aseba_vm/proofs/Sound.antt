-- What holds of every state that a machine comes to: its code, its cells and the list of held values are as long as its shape says.
use Rattle.std.proofs.Common.{◌≡◌, ℕ, zero, suc, ◌+◌, ◌<◌, ◌≤◌, nat_le, Bool, true, false, if◌then◌else◌, ℤ, pos, List, length, map, take, replicate, Option, Some, None, refl, ap, ◌∙◌, arith}
use Rattle.std.proofs.lemmas.List.{length-set, length-replicate, length-map, length-take, length-drop, length-append}
use Rattle.aseba_vm.specs.declared.shape.Shape.{Shape}
use Rattle.aseba_vm.specs.State.{State, NamesInside, named, ended}
use Rattle.aseba_vm.specs.Lists.{overwritten, handler_of}
use Rattle.aseba_vm.specs.Arrival.{arrived, arrived_at, begun}
use Rattle.aseba_vm.specs.Control.{hold_written, stopped}
use Rattle.aseba_vm.specs.Loaded.{made, loaded, started, reset_state, init_event}
use Rattle.aseba_vm.specs.Tick.{ticked}
use borrow.Author.Tests.{leb-true}
use Rattle.aseba_vm.proofs.Overwrites.{overwritten-nothing}
use Rattle.aseba_vm.proofs.Sizes.{sizes, ended-same, ticked-same}

pub record IsSound (s : State) : Type 0 where
  pub names : NamesInside s.shape
  pub code : length s.code ≡ s.shape.code
  pub cells : length s.cells ≡ s.shape.cells
  pub held : length s.held ≡ s.shape.cells

-- what has the sizes of a sound state is sound
sound-same : (s t : State) → sizes t ≡ sizes s → IsSound s → IsSound t
sound-same s t e h =
    let shape : t.shape ≡ s.shape = ap (λ x. x.0) e in
    record {
      names = rw shape h.names;
      code = rw shape (ap (λ x. x.2) e ∙ h.code);
      cells = rw shape (ap (λ x. x.3) e ∙ h.cells);
      held = rw shape (ap (λ x. x.4) e ∙ h.held);
    }

pub ticked-sound : (s : State) → IsSound s → IsSound (ticked s).1
ticked-sound s h = sound-same s (ticked s).1 (ticked-same s) h

pub ended-sound : (s : State) → IsSound s → IsSound (ended s)
ended-sound s h = sound-same s (ended s) (ended-same s) h

pub stopped-sound : (s : State) → IsSound s → IsSound (stopped s)
stopped-sound s h = let e : IsSound (ended s) = ended-sound s h in record { names = e.names; code = e.code; cells = e.cells; held = e.held }

-- a number in a named cell makes none
named-length : (name : Option ℕ) (number : ℕ) (cells : List ℤ) → length (named name number cells) ≡ length cells
named-length None number cells = refl
named-length (Some address) number cells = length-set cells address _

pub made-sound : (shape : Shape) (id : ℕ) → NamesInside shape → IsSound (made shape id)
unfolding made
made-sound shape id h = record {
  names = h;
  code = length-replicate shape.code 0;
  cells = named-length shape.id id (replicate shape.cells (pos 0)) ∙ length-replicate shape.cells (pos 0);
  held = length-replicate shape.cells None;
}

-- to overwrite inside a list leaves it as long
overwritten-length : {A : Type 0} (start : ℕ) (new old : List A) → start + length new ≤ length old → length (overwritten start new old) ≡ length old
overwritten-length {A} start new old h = simp (length-append, length-take, length-drop) (omega arith)

if-sound : {R : Type 0} (b : Bool) (x y : R × State) → (b ≡ true → IsSound x.1) → (b ≡ false → IsSound y.1) → IsSound (if b then x else y).1
if-sound true x y h g = h refl
if-sound false x y h g = g refl

pub loaded-sound : (start : ℕ) (words : List ℕ) (s : State) → IsSound s → IsSound (loaded start words s).1
unfolding loaded
loaded-sound start words s h =
    if-sound (nat_le (start + length words) s.shape.code) _ _
    (λ fits. let inside : start + length words ≤ length s.code = omega (arith, leb-true, fits, h.code) in
    record { names = h.names; code = overwritten-length start words s.code inside ∙ h.code; cells = h.cells; held = h.held })
    (λ _. h)

written-sound : (start : ℕ) (values : List ℤ) (s : State) (active : Bool) → start + length values ≤ s.shape.cells → IsSound s → IsSound (if active then record s { held = overwritten start (map Some values) s.held } else record s { cells = overwritten start values s.cells })
written-sound start values s true fits h =
    let inside : start + length (map Some values) ≤ length s.held = omega (arith, length-map {A = ℤ} {B = Option ℤ} values Some, h.held) in
    record { names = h.names; code = h.code; cells = h.cells; held = overwritten-length start (map Some values) s.held inside ∙ h.held }
written-sound start values s false fits h =
    let inside : start + length values ≤ length s.cells = omega (arith, h.cells) in
    record { names = h.names; code = h.code; cells = overwritten-length start values s.cells inside ∙ h.cells; held = h.held }

pub hold_written-sound : (start : ℕ) (values : List ℤ) (s : State) → IsSound s → IsSound (hold_written start values s).1
unfolding hold_written
hold_written-sound start values s h =
    if-sound (nat_le (start + length values) s.shape.cells) _ _
    (λ fits. written-sound start values s s.active (omega (arith, leb-true, fits)) h)
    (λ _. h)

started-sound : (address : Option ℕ) (s : State) → IsSound s → IsSound (started address s)
started-sound None s h = record { names = h.names; code = h.code; cells = h.cells; held = h.held }
started-sound (Some address) s h = record { names = h.names; code = h.code; cells = h.cells; held = h.held }

pub reset_state-sound : (paused : Bool) (s : State) → IsSound s → IsSound (reset_state paused s)
unfolding reset_state
reset_state-sound paused s h =
    started-sound (handler_of init_event s.code) _
    (record {
      names = h.names;
      code = h.code;
      cells = named-length s.shape.id s.id (replicate s.shape.cells (pos 0)) ∙ length-replicate s.shape.cells (pos 0);
      held = length-replicate (length s.held) None ∙ h.held;
    })

-- arguments that are cut at their cells make none
told-length : (at len : ℕ) (args cells : List ℤ) → (0 < len → at + len ≤ length cells) → length (overwritten at (take len args) cells) ≡ length cells
told-length at zero args cells h = ap length (overwritten-nothing at cells)
told-length at (suc len) args cells h =
    let inside : at + suc len ≤ length cells = h (omega arith) in
    overwritten-length at (take (suc len) args) cells (omega (arith, length-take (suc len) args))

begun-sound : (address source : ℕ) (args : List ℤ) (s : State) → IsSound s → IsSound (begun address source args s)
begun-sound address source args s h =
    let named_as_before : length (named s.shape.source source s.cells) ≡ length s.cells = named-length s.shape.source source s.cells in
    record {
      names = h.names;
      code = h.code;
      cells =
          told-length s.shape.args_at s.shape.args_len args (named s.shape.source source s.cells) (λ some. let inside = h.names.args some in omega (arith, h.cells)) ∙ named_as_before ∙ h.cells;
      held = h.held;
    }

arrived_at-sound : (address : Option ℕ) (source : ℕ) (args : List ℤ) (s : State) → IsSound s → IsSound (arrived_at address source args s).1
arrived_at-sound None source args s h = h
arrived_at-sound (Some address) source args s h =
    if-sound s.active _ _
    (λ _. if-sound s.paused _ _ (λ _. h) (λ _. begun-sound address source args (ended s) (ended-sound s h)))
    (λ _. begun-sound address source args s h)

pub arrived-sound : (event source : ℕ) (args : List ℤ) (s : State) → IsSound s → IsSound (arrived event source args s).1
unfolding arrived
arrived-sound event source args s h = arrived_at-sound (handler_of event s.code) source args s h
