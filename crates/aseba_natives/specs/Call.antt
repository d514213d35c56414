-- A call of a native on a flat list of cells, where a parameter's cells begin at an address.
use Rattle.std.specs.Prelude.{◌≡◌, ℕ, ◌+◌, ◌<◌, Bool, true, false, ◌&&◌, if◌then◌else◌, nat_eq, nat_le, List, [], ◌∷◌, length, take, slice_index, slice_index_or, slice_set, Option, Some, None, IsSomeAnd, ℤ, pos, IsTrue, IsFalse}
use Rattle.std.specs.Option.{unwrap_or}
use Rattle.aseba_words.specs.declared.native.Native.{Native}
use Rattle.aseba_words.specs.declared.native.Native.TheVariants.{Div, MulDiv}
use Rattle.aseba_words.specs.Natives.{native_numbered, native_params, has_template, param_cells, native_run}
use Rattle.aseba_natives.specs.declared.end.NativeEnd.{NativeEnd}
use Rattle.aseba_natives.specs.declared.end.NativeEnd.TheVariants.{Done, BadCall, Division}

-- the cell k from an address on
abbrev pub cell : List ℤ → ℕ → ℕ → ℤ
cell cells at k = slice_index_or cells (at + k) (pos 0)

abbrev pub with_cell : List ℤ → ℕ → ℕ → ℤ → List ℤ
with_cell cells at k v = slice_set cells (at + k) v

-- The arguments are the addresses in order and then, where a parameter is a template, the length.
abbrev pub arg_count : List ℤ → ℕ
arg_count params = length params + (if has_template params then 1 else 0)

abbrev pub addresses : List ℤ → List ℕ → List ℕ
addresses params args = take (length params) args

abbrev pub call_len : List ℤ → List ℕ → ℕ
call_len params args = if has_template params then slice_index args (length params) else 1

-- a length is from 1 to 4096
abbrev pub is_valid_len : ℕ → Bool
is_valid_len len = nat_le 1 len && nat_le len 4096

-- every parameter's cells lie among as many as `count` says
abbrev pub all_inside : (count len : ℕ) → List ℤ → List ℕ → Bool
all_inside count len [] starts = true
all_inside count len (size ∷ params) [] = false
all_inside count len (size ∷ params) (start ∷ starts) = nat_le (start + param_cells len size) count && all_inside count len params starts

-- the arguments fit a native with these parameters, on as many cells as `count` says
abbrev pub args_fit : (count : ℕ) → List ℤ → List ℕ → Bool
args_fit count params args =
    nat_eq (length args) (arg_count params) && is_valid_len (call_len params args) && all_inside count (call_len params args) params (addresses params args)

abbrev pub fit_option : (count : ℕ) → Option (List ℤ) → List ℕ → Bool
fit_option count None args = false
fit_option count (Some params) args = args_fit count params args

-- there is a native with this number, and the arguments fit it
abbrev pub is_call : (count id : ℕ) → List ℕ → Bool
is_call count id args = fit_option count (native_params id) args

-- the parameters of the native with this number
abbrev pub params_of : ℕ → List ℤ
params_of id = unwrap_or (native_params id) []

-- what a call whose arguments fit does: whether a zero divisor stopped it, and the cells then
abbrev pub called : ℕ → List ℕ → List ℤ → Bool × List ℤ
called id args cells = native_run cell with_cell id (addresses (params_of id) args) (call_len (params_of id) args) cells

abbrev pub end_of : Bool → NativeEnd
end_of stopped = if stopped then Division else Done

-- how a call ends, and the cells after it; what is no call changes none
abbrev pub call_end : ℕ → List ℕ → List ℤ → NativeEnd
call_end id args cells = if is_call (length cells) id args then end_of (called id args cells).0 else BadCall

abbrev pub call_cells : ℕ → List ℕ → List ℤ → List ℤ
call_cells id args cells = if is_call (length cells) id args then (called id args cells).1 else cells

-- where the divisors of a native that divides begin
abbrev pub divisors : Option Native → List ℕ → Option ℕ
divisors (Some Div) (dest ∷ a ∷ b ∷ []) = Some b
divisors (Some MulDiv) (dest ∷ a ∷ b ∷ c ∷ []) = Some c
divisors _ _ = None

-- the same call for its first cells alone
abbrev pub first_cells : ℕ → List ℕ → List ℤ → ℕ → Bool × List ℤ
first_cells id args cells k = native_run cell with_cell id (addresses (params_of id) args) k cells

-- a divisor is 0: one that is so when the cells before it have been stored
abbrev pub DividesByZero : ℕ → List ℕ → List ℤ → Type 0
DividesByZero id args cells =
    IsSomeAnd (divisors (native_numbered id) (addresses (params_of id) args))
    (λ at. (k : ℕ) × (k < call_len (params_of id) args) × ((first_cells id args cells k).0 ≡ false) × (cell (first_cells id args cells k).1 at k ≡ pos 0))

-- when a call ends so
abbrev pub EndCause : NativeEnd → ℕ → List ℕ → List ℤ → Type 0
EndCause Done id args cells = IsTrue (is_call (length cells) id args) × ¬ DividesByZero id args cells
EndCause BadCall id args cells = IsFalse (is_call (length cells) id args)
EndCause Division id args cells = IsTrue (is_call (length cells) id args) × DividesByZero id args cells
