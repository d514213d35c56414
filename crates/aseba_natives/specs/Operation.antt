-- What the code's natives are, and what they give on a flat list of cells.
use Rattle.std.specs.Prelude.{ℕ, ◌+◌, ◌<◌, ◌≤◌, Bool, ◌&&◌, nat_eq, List, [], ◌∷◌, length, slice_index, Option, Some, ℤ, ◌+ℤ◌, ◌-ℤ◌, ◌*ℤ◌, int_div}
use Rattle.std.specs.Int.{int_min, int_max}
use Rattle.aseba_words.specs.Cell.{wrapped, divided}
use Rattle.aseba_words.specs.declared.native.Native.TheVariants as natives
use Rattle.aseba_words.specs.declared.native.Native.{Native}
use Rattle.aseba_words.specs.Natives.{clamped, param_cells}
use Rattle.aseba_natives.specs.Call.{cell, is_valid_len, all_inside}
use Rattle.aseba_natives.specs.declared.cellwise.Cellwise.{Cellwise}
use Rattle.aseba_natives.specs.declared.cellwise.Cellwise.TheVariants.{Copy, Fill, AddScalar, Add, Sub, Mul, Div, Min, Max, Clamp, MulDiv}
use Rattle.aseba_natives.specs.declared.operation.Operation.{Operation}
use Rattle.aseba_natives.specs.declared.operation.Operation.TheVariants.{Each, Dot, Stat, ArgBounds}

-- the native that the code means
abbrev pub native_of_cellwise : Cellwise → Native
native_of_cellwise Copy = natives.Copy
native_of_cellwise Fill = natives.Fill
native_of_cellwise AddScalar = natives.AddScalar
native_of_cellwise Add = natives.Add
native_of_cellwise Sub = natives.Sub
native_of_cellwise Mul = natives.Mul
native_of_cellwise Div = natives.Div
native_of_cellwise Min = natives.Min
native_of_cellwise Max = natives.Max
native_of_cellwise Clamp = natives.Clamp
native_of_cellwise MulDiv = natives.MulDiv

abbrev pub native_of : Operation → Native
native_of (Each cellwise) = native_of_cellwise cellwise
native_of Dot = natives.Dot
native_of Stat = natives.Stat
native_of ArgBounds = natives.ArgBounds

-- the cell k of the parameter i
abbrev pub param : List ℕ → ℕ → List ℤ → ℕ → ℤ
param starts i cells k = cell cells (slice_index starts i) k

-- the value of the destination's cell k, of the cells of the parameters behind it
abbrev pub cellwise_value : Cellwise → List ℕ → List ℤ → ℕ → Option ℤ
cellwise_value Copy s t k = Some (param s 1 t k)
cellwise_value Fill s t k = Some (param s 1 t 0)
cellwise_value AddScalar s t k = Some (wrapped (param s 1 t k +ℤ param s 2 t 0))
cellwise_value Add s t k = Some (wrapped (param s 1 t k +ℤ param s 2 t k))
cellwise_value Sub s t k = Some (wrapped (param s 1 t k -ℤ param s 2 t k))
cellwise_value Mul s t k = Some (wrapped (param s 1 t k *ℤ param s 2 t k))
cellwise_value Div s t k = divided (param s 2 t k) (int_div (param s 1 t k) (param s 2 t k))
cellwise_value Min s t k = Some (int_min (param s 1 t k) (param s 2 t k))
cellwise_value Max s t k = Some (int_max (param s 1 t k) (param s 2 t k))
cellwise_value Clamp s t k = Some (clamped (param s 2 t k) (param s 3 t k) (param s 1 t k))
cellwise_value MulDiv s t k = divided (param s 3 t k) (int_div (param s 1 t k *ℤ param s 2 t k) (param s 3 t k))

-- the parameter i has as many cells as `len` says, among as many as `count` says
abbrev pub HasRange : List ℕ → ℕ → ℕ → ℕ → Type 0
HasRange starts i len count = (i < length starts) × (slice_index starts i + len ≤ count)

-- so have all parameters from i on, whose sizes are these
abbrev pub RangesInside : ℕ → List ℤ → List ℕ → ℕ → ℕ → Type 0
RangesInside i [] starts len count = Unit {0}
RangesInside i (size ∷ sizes) starts len count = HasRange starts i (param_cells len size) count × RangesInside (i + 1) sizes starts len count

-- a call with this length can be made at these addresses
abbrev pub starts_fit : (count : ℕ) → List ℤ → ℕ → List ℕ → Bool
starts_fit count params len starts = nat_eq (length starts) (length params) && is_valid_len len && all_inside count len params starts
