-- The natives: what each of the fourteen reads and stores, wherever its ranges lie.
use Rattle.std.specs.Prelude.{ℕ, zero, suc, ◌+◌, ◌^◌, Bool, true, false, if◌then◌else◌, List, [], ◌∷◌, map, length, slice_get, Option, Some, None, ℤ, pos, negsuc, ◌+ℤ◌, ◌-ℤ◌, ◌*ℤ◌, unsigned_abs, int_lt, int_div}
use Rattle.std.specs.Option.{option_map}
use Rattle.std.specs.List.{fold, range_with_len, position_or_len, list_any}
use Rattle.std.specs.Int.{int_min, int_max, int_rem_euclid, int_div_euclid}
use Rattle.std.specs.Ordering.{int_eq}
use Rattle.aseba_words.specs.Cell.{wrapped, divided}
use Rattle.aseba_words.specs.declared.native.Native.{Native}
use Rattle.aseba_words.specs.declared.native.Native.TheVariants.{Copy, Fill, AddScalar, Add, Sub, Mul, Div, Min, Max, Clamp, Dot, MulDiv, Stat, ArgBounds}

-- the natives in the order of their numbers
abbrev pub natives : List Native
natives = Copy ∷ Fill ∷ AddScalar ∷ Add ∷ Sub ∷ Mul ∷ Div ∷ Min ∷ Max ∷ Clamp ∷ Dot ∷ MulDiv ∷ Stat ∷ ArgBounds ∷ []

-- the native of a number, where there is one
abbrev pub native_numbered : ℕ → Option Native
native_numbered id = slice_get natives id

-- the size of a template, whose cells are as many as the call's length says
abbrev pub template : ℤ
template = negsuc 0

-- the sizes of a native's parameters in order
abbrev pub sizes : Native → List ℤ
sizes Copy = template ∷ template ∷ []
sizes Fill = template ∷ pos 1 ∷ []
sizes AddScalar = template ∷ template ∷ pos 1 ∷ []
sizes Add = template ∷ template ∷ template ∷ []
sizes Sub = template ∷ template ∷ template ∷ []
sizes Mul = template ∷ template ∷ template ∷ []
sizes Div = template ∷ template ∷ template ∷ []
sizes Min = template ∷ template ∷ template ∷ []
sizes Max = template ∷ template ∷ template ∷ []
sizes Clamp = template ∷ template ∷ template ∷ template ∷ []
sizes Dot = pos 1 ∷ template ∷ template ∷ pos 1 ∷ []
sizes MulDiv = template ∷ template ∷ template ∷ template ∷ []
sizes Stat = template ∷ pos 1 ∷ pos 1 ∷ pos 1 ∷ []
sizes ArgBounds = template ∷ pos 1 ∷ pos 1 ∷ []

-- the same by a native's number, none where no native has it
abbrev pub native_params : ℕ → Option (List ℤ)
native_params id = option_map sizes (native_numbered id)

-- one of the parameters is a template
abbrev pub has_template : List ℤ → Bool
has_template params = list_any (λ size. int_eq size template) params

-- how many cells a parameter has in a call with this length
abbrev pub param_cells : ℕ → ℤ → ℕ
param_cells len size = if int_eq size template then len else unsigned_abs size

-- low where the value is below it, else high where the value is above it, else the value
abbrev pub clamped : ℤ → ℤ → ℤ → ℤ
clamped low high v = if int_lt v low then low else (if int_lt high v then high else v)

-- the exact sum of the products, first with first and so on
abbrev pub product_sum : List ℤ → List ℤ → ℤ
product_sum (x ∷ xs) (y ∷ ys) = (x *ℤ y) +ℤ product_sum xs ys
product_sum _ _ = pos 0

-- an exact number shifted right, towards minus infinity, by the low five bits of another
abbrev pub shifted : ℤ → ℤ → ℤ
shifted v by = int_div_euclid v (pos (2 ^ unsigned_abs (int_rem_euclid by (pos 32))))

-- the least and the greatest of the cells
abbrev pub least : List ℤ → ℤ
least [] = pos 0
least (x ∷ xs) = fold int_min x xs

abbrev pub greatest : List ℤ → ℤ
greatest [] = pos 0
greatest (x ∷ xs) = fold int_max x xs

-- the mean of the cells, truncated towards zero
abbrev pub mean : List ℤ → ℤ
mean xs = int_div (fold ◌+ℤ◌ (pos 0) xs) (pos (length xs))

-- the first place at which the cell stands
abbrev pub first_place : ℤ → List ℤ → ℤ
first_place v xs = pos (position_or_len (λ x. int_eq x v) xs)

-- S is a store of cells, and R is where a parameter of a call finds its own: `get s r k` is the cell k of r, and `put s r k v` the store in which it is v.
module _ {S R : Type 0} (get : S → R → ℕ → ℤ) (put : S → R → ℕ → ℤ → S) where
  -- the first cells of a parameter, in order
  abbrev pub cells_of : S → R → ℕ → List ℤ
  cells_of s r len = map (get s r) (range_with_len 0 len)

  -- goes on with a value stored as the cell k of r; without a value it is a zero divisor, and nothing goes on
  abbrev pub stored : Option ℤ → R → ℕ → S → (S → Bool × S) → Bool × S
  stored None r k s go_on = (true, s)
  stored (Some v) r k s go_on = go_on (put s r k v)

  -- As many cells of `dest` as `left` says, from the cell k on: one after the other becomes its value of the store as it stands then.
  abbrev pub each : R → (S → ℕ → Option ℤ) → (left k : ℕ) → S → Bool × S
  each dest value zero k s = (false, s)
  each dest value (suc left) k s = stored (value s k) dest k s (each dest value left (k + 1))

  -- what a native does in a call with this length: whether a zero divisor stopped it, and the store then
  abbrev pub run_native : Native → List R → ℕ → S → Bool × S
  run_native Copy (dest ∷ src ∷ []) len s = each dest (λ t k. Some (get t src k)) len 0 s
  run_native Fill (dest ∷ value ∷ []) len s = each dest (λ t k. Some (get t value 0)) len 0 s
  run_native AddScalar (dest ∷ src ∷ scalar ∷ []) len s = each dest (λ t k. Some (wrapped (get t src k +ℤ get t scalar 0))) len 0 s
  run_native Add (dest ∷ a ∷ b ∷ []) len s = each dest (λ t k. Some (wrapped (get t a k +ℤ get t b k))) len 0 s
  run_native Sub (dest ∷ a ∷ b ∷ []) len s = each dest (λ t k. Some (wrapped (get t a k -ℤ get t b k))) len 0 s
  run_native Mul (dest ∷ a ∷ b ∷ []) len s = each dest (λ t k. Some (wrapped (get t a k *ℤ get t b k))) len 0 s
  run_native Div (dest ∷ a ∷ b ∷ []) len s = each dest (λ t k. divided (get t b k) (int_div (get t a k) (get t b k))) len 0 s
  run_native Min (dest ∷ a ∷ b ∷ []) len s = each dest (λ t k. Some (int_min (get t a k) (get t b k))) len 0 s
  run_native Max (dest ∷ a ∷ b ∷ []) len s = each dest (λ t k. Some (int_max (get t a k) (get t b k))) len 0 s
  run_native Clamp (dest ∷ src ∷ low ∷ high ∷ []) len s = each dest (λ t k. Some (clamped (get t low k) (get t high k) (get t src k))) len 0 s
  run_native MulDiv (dest ∷ a ∷ b ∷ c ∷ []) len s = each dest (λ t k. divided (get t c k) (int_div (get t a k *ℤ get t b k) (get t c k))) len 0 s
  run_native Dot (dest ∷ a ∷ b ∷ shift ∷ []) len s = (false, put s dest 0 (wrapped (shifted (product_sum (cells_of s a len) (cells_of s b len)) (get s shift 0))))
  run_native Stat (src ∷ min ∷ max ∷ middle ∷ []) len s =
      let xs = cells_of s src len in (false, put (put (put s min 0 (least xs)) max 0 (greatest xs)) middle 0 (mean xs))
  run_native ArgBounds (src ∷ argmin ∷ argmax ∷ []) len s =
      let xs = cells_of s src len in (false, put (put s argmin 0 (first_place (least xs) xs)) argmax 0 (first_place (greatest xs) xs))
  run_native _ _ len s = (false, s)

  abbrev pub numbered_run : Option Native → List R → ℕ → S → Bool × S
  numbered_run None ranges len s = (false, s)
  numbered_run (Some native) ranges len s = run_native native ranges len s

  -- the same by a native's number; nothing happens where no native has it
  abbrev pub native_run : ℕ → List R → ℕ → S → Bool × S
  native_run id ranges len s = numbered_run (native_numbered id) ranges len s
