-- Breakpoints stay a set of at most sixteen.
use Rattle.std.proofs.Common.{◌≡◌, ℕ, ◌+◌, ◌<◌, ◌≤◌, ◌==◌, ◌&&◌, ◌||◌, not, nat_eq, nat_lt, Bool, true, false, cond, List, [], ◌∷◌, ◌++◌, length, filter, refl, ap, sym, ◌∙◌, length-append, arith}
use Rattle.std.specs.List.{IsDistinct, AllByRecursion, list_any}
use Rattle.std.proofs.lemmas.Bool.{ltb-true}
use Rattle.std.proofs.lemmas.List.Sums.{length-filter}
use Rattle.aseba_vm.specs.State.{State as Machine}
use Rattle.aseba_debug.specs.declared.command.Command.{Command}
use Rattle.aseba_debug.specs.declared.command.Command.TheVariants.{Reset, Run, Pause, Step, Stop, State, Set, Clear, ClearAll}
use Rattle.aseba_debug.specs.Breaks.{AreBreaks, is_set, without, may_stand, with_break}
use Rattle.aseba_debug.specs.Commanded.{commanded, set_break}

-- none is taken away where none stands
pub without_unset : (pc : ℕ) (breaks : List ℕ) → is_set pc breaks ≡ false → without pc breaks ≡ breaks
without_unset pc [] unset = refl
without_unset pc (at ∷ breaks) unset = pick (at == pc) (without_unset pc breaks) unset
  where
    pick : (here : Bool) → (is_set pc breaks ≡ false → without pc breaks ≡ breaks) → (here || is_set pc breaks) ≡ false → cond (not here) (at ∷ without pc breaks) (without pc breaks) ≡ at ∷ breaks
    pick true later unset = absurd cc
    pick false later unset = ap (λ rest. at ∷ rest) (later unset)

-- an address that differs from all differs from those that are kept
differs_kept : (x pc : ℕ) (breaks : List ℕ) → AllByRecursion (λ y. nat_eq x y ≡ false) breaks → AllByRecursion (λ y. nat_eq x y ≡ false) (without pc breaks)
differs_kept x pc [] all = tt
differs_kept x pc (at ∷ breaks) all = pick (at == pc) all.0 (differs_kept x pc breaks all.1)
  where
    pick : (here : Bool) → nat_eq x at ≡ false → AllByRecursion (λ y. nat_eq x y ≡ false) (without pc breaks)
        → AllByRecursion (λ y. nat_eq x y ≡ false) (cond (not here) (at ∷ without pc breaks) (without pc breaks))
    pick true first later = later
    pick false first later = (first, later)

apart_kept : (pc : ℕ) (breaks : List ℕ) → IsDistinct nat_eq breaks → IsDistinct nat_eq (without pc breaks)
unfolding IsDistinct
apart_kept pc [] apart = tt
apart_kept pc (at ∷ breaks) apart = pick (at == pc) (differs_kept at pc breaks apart.0) (apart_kept pc breaks apart.1)
  where
    pick : (here : Bool) → AllByRecursion (λ y. nat_eq at y ≡ false) (without pc breaks) → IsDistinct nat_eq (without pc breaks)
        → IsDistinct nat_eq (cond (not here) (at ∷ without pc breaks) (without pc breaks))
    pick true first later = later
    pick false first later = (first, later)

fewer_kept : (pc : ℕ) (breaks : List ℕ) → length (without pc breaks) ≤ length breaks
fewer_kept pc [] = omega arith
fewer_kept pc (at ∷ breaks) = pick (at == pc) (fewer_kept pc breaks)
  where
    pick : (here : Bool) → length (without pc breaks) ≤ length breaks → length (cond (not here) (at ∷ without pc breaks) (without pc breaks)) ≤ length (at ∷ breaks)
    pick true fewer = omega arith
    pick false fewer = omega arith

-- one is taken away
pub breaks_without : (pc : ℕ) (breaks : List ℕ) → AreBreaks breaks → AreBreaks (without pc breaks)
breaks_without pc breaks are = record { few = omega (arith, fewer_kept pc breaks, are.few); apart = apart_kept pc breaks are.apart }

differs_last : (x pc : ℕ) (breaks : List ℕ) → AllByRecursion (λ y. nat_eq x y ≡ false) breaks → nat_eq x pc ≡ false → AllByRecursion (λ y. nat_eq x y ≡ false) (breaks ++ pc ∷ [])
differs_last x pc [] all last = (last, tt)
differs_last x pc (at ∷ breaks) all last = (all.0, differs_last x pc breaks all.1 last)

neither : (a b : Bool) → (a || b) ≡ false → (a ≡ false) × (b ≡ false)
neither true b e = absurd cc
neither false b e = (refl, e)

apart_last : (pc : ℕ) (breaks : List ℕ) → IsDistinct nat_eq breaks → is_set pc breaks ≡ false → IsDistinct nat_eq (breaks ++ pc ∷ [])
unfolding IsDistinct
apart_last pc [] apart unset = (tt, tt)
apart_last pc (at ∷ breaks) apart unset =
    let both = neither (at == pc) (is_set pc breaks) unset in
    (differs_last at pc breaks apart.0 both.0, apart_last pc breaks apart.1 both.1)

both_hold : (a b : Bool) → (a && b) ≡ true → b ≡ true
both_hold true b e = e
both_hold false b e = absurd cc

-- there is room for another one
pub room_behind : (pc : ℕ) (code breaks : List ℕ) → may_stand pc code breaks ≡ true → is_set pc breaks ≡ false → length breaks < 16
room_behind pc code breaks may unset =
    let fewer = ltb-true (length (without pc breaks)) 16 (both_hold (nat_lt pc (length code)) (nat_lt (length (without pc breaks)) 16) may) in
    omega (arith, fewer, ap length (without_unset pc breaks unset))

-- one is set
pub breaks_with : (pc : ℕ) (code breaks : List ℕ) → AreBreaks breaks → may_stand pc code breaks ≡ true → is_set pc breaks ≡ false → AreBreaks (breaks ++ pc ∷ [])
breaks_with pc code breaks are may unset =
    record { few = omega (arith, room_behind pc code breaks may unset, length-append breaks (pc ∷ [])); apart = apart_last pc breaks are.apart unset }

-- where there are none
pub breaks_none : (breaks : List ℕ) → breaks ≡ [] → AreBreaks breaks
unfolding IsDistinct
breaks_none breaks none = rw none (record { few = omega arith; apart = tt })

-- Those at other addresses are counted: `may_stand` names this set.
pub ruleset counts = (length-filter)

-- A command.

set_kept : (pc : ℕ) (code breaks : List ℕ) → AreBreaks breaks → AreBreaks (set_break pc code breaks).1
set_kept pc code breaks are = by_room (may_stand pc code breaks) refl
  where
    by_place : may_stand pc code breaks ≡ true → (there : Bool) → is_set pc breaks ≡ there → AreBreaks (cond there breaks (breaks ++ pc ∷ []))
    by_place may true there = are
    by_place may false there = breaks_with pc code breaks are may there

    by_room : (may : Bool) → may_stand pc code breaks ≡ may → AreBreaks (cond may (with_break pc breaks) breaks)
    by_room true may = by_place may (is_set pc breaks) refl
    by_room false may = are

pub breaks_kept : (command : Command) (machine : Machine) (breaks : List ℕ) → AreBreaks breaks → AreBreaks (commanded command machine breaks).2
breaks_kept (Set pc) machine breaks are = set_kept pc machine.code breaks are
breaks_kept (Clear pc) machine breaks are = breaks_without pc breaks are
breaks_kept ClearAll machine breaks are = breaks_none [] refl
breaks_kept Reset machine breaks are = are
breaks_kept Run machine breaks are = are
breaks_kept Pause machine breaks are = are
breaks_kept Step machine breaks are = are
breaks_kept Stop machine breaks are = are
breaks_kept State machine breaks are = are
