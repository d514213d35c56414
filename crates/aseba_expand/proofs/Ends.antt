-- Ends and stops of a handler, on both sides.
use Rattle.std.proofs.Common.{◌≡◌, refl, sym, ◌∙◌, ap, subst, ℕ, true, ℤ, List, [], ◌∷◌, ◌++◌, arith, Option, Some, None, length, map, append_assoc}
use Rattle.std.specs.Prelude.{unwrap_or}
use Rattle.std.proofs.lemmas.List.{map-append, length-map}
use Rattle.aseba_tree.specs.Code.{Sized}
use Rattle.aseba_tree.specs.CoreStep.{CoreState, CoreTask, core_ended, core_stopped}
use Rattle.aseba_tree.specs.Layout.{variables}
use Rattle.aseba_tree.specs.Numbers.{source_room}
use Rattle.aseba_tree.specs.State.{Program, State, Task, none_held}
use Rattle.aseba_tree.specs.Step.{applied_cells, applied, ended, stopped, stop_report}
use Rattle.aseba_tree.specs.Value.{Named, Cells, Stop}
use Rattle.aseba_expand.specs.Expands.{all_cells_of}
use Rattle.aseba_expand.proofs.Alike.{Alike, SteppedAlike, WorkAlike}
use Rattle.aseba_expand.proofs.Cells.{Laid}
use Rattle.aseba_expand.proofs.Values.{with_room}

-- the state of the element form that stands at one of the source
abbrev pub twin : State → List ℤ → List (Option ℤ) → List CoreTask → CoreState
twin s temporaries held_behind work = record {
  cells = with_room s.cells temporaries;
  bits = s.bits;
  held = all_cells_of s.held ++ held_behind;
  active = s.active;
  paused = s.paused;
  work = work;
}

-- what is known of a state of the source, and of the temporaries beside it
pub record Sturdy (program : Program) (s : State) (temporaries : List ℤ) : Type 0 where
  pub laid : Laid s.cells (variables program)
  pub held_laid : Laid s.held (variables program)
  pub room : length temporaries ≡ source_room program

pub with-work : (program : Program) (s : State) (temporaries : List ℤ) (work : List Task) → Sturdy program s temporaries → Sturdy program (record s { work = work }) temporaries
with-work program s temporaries work h = record { laid = h.laid; held_laid = h.held_laid; room = h.room }

pub alike-twin : (program : Program) (s : State) (temporaries : List ℤ) (held_behind : List (Option ℤ)) (work : List CoreTask) → Sturdy program s temporaries → WorkAlike program temporaries s.work work
    → Alike program s (twin s temporaries held_behind work)
alike-twin program s temporaries held_behind work h w = record {
  temporaries = temporaries;
  held_behind = held_behind;
  laid = h.laid;
  held_laid = h.held_laid;
  cells = refl;
  held = refl;
  room = h.room;
  bits = refl;
  active = refl;
  paused = refl;
  work = w;
}

-- a state that is alike is the twin
pub is-twin : (program : Program) (s : State) (c : CoreState) (a : Alike program s c) → c ≡ twin s a.temporaries a.held_behind c.work
is-twin program s c a =
    ap (λ x. record c { cells = x }) a.cells
    ∙ ap (λ x. record c { cells = with_room s.cells a.temporaries; held = x }) a.held
    ∙ ap (λ x. record c { cells = with_room s.cells a.temporaries; held = all_cells_of s.held ++ a.held_behind; bits = x }) a.bits
    ∙ ap (λ x. record c { cells = with_room s.cells a.temporaries; held = all_cells_of s.held ++ a.held_behind; bits = s.bits; active = x }) a.active
    ∙ ap (λ x. record c { cells = with_room s.cells a.temporaries; held = all_cells_of s.held ++ a.held_behind; bits = s.bits; active = s.active; paused = x }) a.paused

pub sturdy : (program : Program) (s : State) (c : CoreState) (a : Alike program s c) → Sturdy program s a.temporaries
sturdy program s c a = record { laid = a.laid; held_laid = a.held_laid; room = a.room }

pub applied-length : (cells : List ℤ) (held : List (Option ℤ)) → length (applied_cells cells held) ≡ length cells
applied-length [] [] = refl
applied-length [] (h ∷ hs) = refl
applied-length (v ∷ vs) [] = refl
applied-length (v ∷ vs) (h ∷ hs) = let inner = applied-length vs hs in omega (arith, inner)

applied-append : (xs ys : List ℤ) (hs gs : List (Option ℤ)) → length xs ≡ length hs → applied_cells (xs ++ ys) (hs ++ gs) ≡ applied_cells xs hs ++ applied_cells ys gs
applied-append [] ys [] gs e = refl
applied-append [] ys (h ∷ hs) gs e = absurd (omega (arith, e))
applied-append (x ∷ xs) ys [] gs e = absurd (omega (arith, e))
applied-append (x ∷ xs) ys (h ∷ hs) gs e = ap (λ l. unwrap_or h x ∷ l) (applied-append xs ys hs gs (omega (arith, e)))

applied-flat : (cells : Cells) (held : Named (Option ℤ)) (ds : List Sized) (t : List ℤ) (hb : List (Option ℤ)) → Laid cells ds → Laid held ds
    → applied_cells (all_cells_of cells ++ t) (all_cells_of held ++ hb) ≡ all_cells_of (applied cells held) ++ applied_cells t hb
applied-flat [] [] [] t hb h g = refl
applied-flat [] (p ∷ held) [] t hb h g = absurd g
applied-flat [] held (d ∷ ds) t hb h g = absurd h
applied-flat (v ∷ vs) held [] t hb h g = absurd h
applied-flat (v ∷ vs) [] (d ∷ ds) t hb h g = absurd g
applied-flat (v ∷ vs) (p ∷ held) (d ∷ ds) t hb h g =
    let inner = applied-flat vs held ds t hb h.2 g.2 in
    let same : length v.1 ≡ length p.1 = h.1 ∙ sym g.1 in
    rw (
      append_assoc v.1 (all_cells_of vs) t,
      append_assoc p.1 (all_cells_of held) hb,
      applied-append v.1 (all_cells_of vs ++ t) p.1 (all_cells_of held ++ hb) same,
      inner,
      append_assoc (applied_cells v.1 p.1) (all_cells_of (applied vs held)) (applied_cells t hb),
    ) refl

pub laid-applied : (cells : Cells) (held : Named (Option ℤ)) (ds : List Sized) → Laid cells ds → Laid held ds → Laid (applied cells held) ds
laid-applied [] [] [] h g = tt
laid-applied [] (p ∷ held) [] h g = absurd g
laid-applied [] held (d ∷ ds) h g = absurd h
laid-applied (v ∷ vs) held [] h g = absurd h
laid-applied (v ∷ vs) [] (d ∷ ds) h g = absurd g
laid-applied (v ∷ vs) (p ∷ held) (d ∷ ds) h g = (h.0, applied-length v.1 p.1 ∙ h.1, laid-applied vs held ds h.2 g.2)

abbrev pub nothing : ℤ → Option ℤ
nothing v = None

pub none-flat : (cells : Cells) (t : List ℤ) → map nothing (all_cells_of cells ++ t) ≡ all_cells_of (none_held cells) ++ map nothing t
none-flat [] t = refl
none-flat (v ∷ vs) t =
    rw (append_assoc v.1 (all_cells_of vs) t, map-append nothing v.1 (all_cells_of vs ++ t), none-flat vs t, append_assoc (map nothing v.1) (all_cells_of (none_held vs)) (map nothing t)) refl

pub laid-none : (cells : Cells) (ds : List Sized) → Laid cells ds → Laid (none_held cells) ds
laid-none [] [] h = tt
laid-none [] (d ∷ ds) h = absurd h
laid-none (v ∷ vs) [] h = absurd h
laid-none (v ∷ vs) (d ∷ ds) h = (h.0, length-map v.1 nothing ∙ h.1, laid-none vs ds h.2)

-- the end of a handler
pub ended-twin : (program : Program) (s : State) (temporaries : List ℤ) (held_behind : List (Option ℤ)) (work : List CoreTask) → Sturdy program s temporaries
    → core_ended (twin s temporaries held_behind work) ≡ twin (ended s) (applied_cells temporaries held_behind) (map nothing temporaries) []
ended-twin program s temporaries held_behind work h =
    rw (applied-flat s.cells s.held (variables program) temporaries held_behind h.laid h.held_laid, none-flat s.cells temporaries) refl

pub ended-sturdy : (program : Program) (s : State) (temporaries : List ℤ) (held_behind : List (Option ℤ)) → Sturdy program s temporaries → Sturdy program (ended s) (applied_cells temporaries held_behind)
ended-sturdy program s temporaries held_behind h = record {
  laid = laid-applied s.cells s.held (variables program) h.laid h.held_laid;
  held_laid = laid-none s.cells (variables program) h.laid;
  room = applied-length temporaries held_behind ∙ h.room;
}

pub ended-alike : (program : Program) (s : State) (temporaries : List ℤ) (held_behind : List (Option ℤ)) (work : List CoreTask) → Sturdy program s temporaries
    → Alike program (ended s) (core_ended (twin s temporaries held_behind work))
ended-alike program s temporaries held_behind work h =
    rw (ended-twin program s temporaries held_behind work h)
    (alike-twin program (ended s) (applied_cells temporaries held_behind) (map nothing temporaries) [] (ended-sturdy program s temporaries held_behind h) (refl, tt))

pub stopped-alike : (program : Program) (s : State) (temporaries : List ℤ) (held_behind : List (Option ℤ)) (work : List CoreTask) (line : ℕ) (stop : Stop) → Sturdy program s temporaries
    → SteppedAlike program (stopped line s stop) (core_stopped line (twin s temporaries held_behind work) stop)
stopped-alike program s temporaries held_behind work line stop h =
    let sturdy = ended-sturdy program s temporaries held_behind h in
    subst (λ e. SteppedAlike program (stopped line s stop) (record { state = record e { paused = true }; report = Some (stop_report line stop) })) (sym (ended-twin program s temporaries held_behind work h)) (record {
      states = alike-twin program (record (ended s) { paused = true }) (applied_cells temporaries held_behind) (map nothing temporaries) [] (record { laid = sturdy.laid; held_laid = sturdy.held_laid; room = sturdy.room }) (refl, tt);
      reports = refl;
    })
