-- What machine and core show: a tick without an effect tells nothing, memories that are alike in their first cells show the same variables, and no step of a core
-- is an error of the node.
use Rattle.std.proofs.Common.{◌≡◌, ℕ, zero, suc, ◌+◌, ◌<◌, ◌≤◌, not, Bool, true, false, ℤ, List, [], ◌∷◌, length, take, drop, slice_index_or, None, refl, sym, ap, ◌∙◌, arith, true≢false, ext_get_or, get_or-take, length-take-le}
use Rattle.std.proofs.lemmas.List.Sums.{sum_by-cons}
use Rattle.std.specs.List.{list_all}
use Rattle.std.specs.Prelude.{sum_by}
use Rattle.aseba_tree.specs.Code.{Project, Sized}
use Rattle.aseba_tree.specs.Script.{Script}
use Rattle.aseba_tree.specs.Layout.{placed_from, cells_at}
use Rattle.aseba_tree.specs.CoreStep.{CoreProgram, CoreState}
use Rattle.aseba_tree.specs.CoreRun.{core_system}
use Rattle.aseba_tree.specs.Run.{Run, ticking, moments_from}
use Rattle.aseba_vm.specs.declared.tick.Tick.{Tick}
use Rattle.aseba_vm.specs.declared.tick.Tick.TheVariants.{Idle, Paused, Quiet, Stored, Effect, Sent}
use Rattle.aseba_target.specs.MachineRun.{is_effect, is_error, tick_report}

-- a tick without an effect tells nothing
pub silent-report : (project : Project) (cells : List ℤ) (n : ℕ) (tick : Tick) → is_effect n tick ≡ false → tick_report project cells tick ≡ None
silent-report project cells n Idle h = refl
silent-report project cells n Paused h = refl
silent-report project cells n Quiet h = refl
silent-report project cells n (Stored address) h = refl
silent-report project cells n Effect h = refl
silent-report project cells n (Sent notice) h = absurd (true≢false h)

pub silent-sound : (n : ℕ) (tick : Tick) → is_effect n tick ≡ false → is_error tick ≡ false
silent-sound n Idle h = refl
silent-sound n Paused h = refl
silent-sound n Quiet h = refl
silent-sound n (Stored address) h = refl
silent-sound n Effect h = refl
silent-sound n (Sent notice) h = absurd (true≢false h)

-- a piece of a list inside its first part
piece-inside : (c k n : ℕ) (xs : List ℤ) → k + n ≤ c → take n (drop k (take c xs)) ≡ take n (drop k xs)
piece-inside c zero zero xs h = refl
piece-inside zero zero (suc n) xs h = absurd (omega arith)
piece-inside (suc c) zero (suc n) [] h = refl
piece-inside (suc c) zero (suc n) (x ∷ xs) h = ap (λ rest. x ∷ rest) (piece-inside c zero n xs (omega arith))
piece-inside zero (suc k) n xs h = absurd (omega arith)
piece-inside (suc c) (suc k) n [] h = refl
piece-inside (suc c) (suc k) n (x ∷ xs) h = piece-inside c k n xs (omega arith)

-- memories that are alike in their first cells show the same of the variables there
pub shown-alike : (xs ys : List ℤ) (c start : ℕ) (vs : List Sized) → take c xs ≡ take c ys → start + sum_by (λ v. v.size) vs ≤ c → cells_at xs (placed_from start vs) ≡ cells_at ys (placed_from start vs)
shown-alike xs ys c start [] same inside = refl
shown-alike xs ys c start (v ∷ vs) same inside =
    let sums = sum_by-cons (λ (s : Sized). s.size) v vs in
    let here : start + v.size ≤ c = omega (arith, inside, sums) in
    let there : start + v.size + sum_by (λ s. s.size) vs ≤ c = omega (arith, inside, sums) in
    let piece : take v.size (drop start xs) ≡ take v.size (drop start ys) =
    sym (piece-inside c start v.size xs here) ∙ ap (λ zs. take v.size (drop start zs)) same ∙ piece-inside c start v.size ys here in
    λ i. (v.name, piece i) ∷ shown-alike xs ys c (start + v.size) vs same there i

pub taken-alike : {X : Type 0} (d : X) (n : ℕ) (xs ys : List X) → n ≤ length xs → n ≤ length ys → ((a : ℕ) → a < n → slice_index_or xs a d ≡ slice_index_or ys a d) → take n xs ≡ take n ys
taken-alike d n xs ys in_x in_y h =
    let long : length (take n xs) ≡ n = length-take-le n xs in_x in
    let long_too : length (take n ys) ≡ n = length-take-le n ys in_y in
    ext_get_or d (take n xs) (take n ys) (long ∙ sym long_too)
    (λ i below. let small : i < n = omega arith in get_or-take n xs i d small ∙ h i small ∙ sym (get_or-take n ys i d small))

-- no step of a core is an error of the node
pub core-sound : (program : CoreProgram) (script : Script) (beats : List Bool) (r : Run CoreState) → list_all (λ m. not m.fails) (moments_from (core_system program) script r beats) ≡ true
core-sound program script [] r = refl
core-sound program script (true ∷ beats) r = core-sound program script beats (ticking (core_system program) script r true)
core-sound program script (false ∷ beats) r = core-sound program script beats (ticking (core_system program) script r false)
