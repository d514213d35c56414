-- Ticks that have no effect: where words stand, and what is reached behind such ticks.
use Rattle.std.proofs.Common.{◌≡◌, ℕ, zero, suc, ◌+◌, ◌<◌, ◌⊎◌, inl, inr, false, ℤ, pos, List, [], ◌∷◌, ◌++◌, length, map, slice_get, slice_index_or, Some, refl, sym, ap, ◌∙◌, subst, arith, append_assoc, length-append}
use Rattle.std.proofs.lemmas.Option.{slice_get-map, get_or_from_slice_get}
use Rattle.std.specs.Option.{option_map}
use Rattle.aseba_vm.specs.declared.tick.Tick.{Tick}
use Rattle.aseba_vm.specs.declared.tick.Tick.TheVariants.{Quiet}
use Rattle.aseba_vm.specs.State.{State}
use Rattle.aseba_vm.specs.Tick.{ticked}
use Rattle.aseba_target.specs.MachineRun.{is_effect}
use Rattle.aseba_codegen.specs.declared.coded.Coded.{Coded}
use Rattle.aseba_codegen.specs.Words.{on_line}
use Rattle.aseba_codegen.specs.Agrees.{line_at}
use Rattle.aseba_codegen.proofs.TickRows.{put}

-- what a memory with this code has, but for the words that change as they run
abbrev pub Holds : List Coded → List ℕ → Type 0
Holds code memory = (at : ℕ) (c : Coded) → slice_get code at ≡ Some c → c.is_edge ≡ false → slice_get memory at ≡ Some c.word

-- these words of a line, which stay as they are, stand at this place
abbrev pub Lined : List Coded → ℕ → ℕ → List ℕ → Type 0
Lined code line at [] = Unit {0}
Lined code line at (w ∷ ws) = (slice_get code at ≡ Some (record { word = w; line = line; is_edge = false })) × Lined code line (at + 1) ws

-- a piece of code stands at this place
abbrev pub Stands : List Coded → ℕ → List Coded → Type 0
Stands code at [] = Unit {0}
Stands code at (c ∷ cs) = (slice_get code at ≡ Some c) × Stands code (at + 1) cs

-- a word stands where it was put
got-at : (front : List Coded) (c : Coded) (back : List Coded) → slice_get (front ++ c ∷ back) (length front) ≡ Some c
got-at [] c back = refl
got-at (x ∷ front) c back = got-at front c back

pub stands-at : (front xs back : List Coded) → Stands (front ++ (xs ++ back)) (length front) xs
stands-at front [] back = tt
stands-at front (x ∷ xs) back =
    let more : List Coded = front ++ x ∷ [] in
    let place : length more ≡ length front + 1 = length-append front (x ∷ []) in
    let same : more ++ (xs ++ back) ≡ front ++ (x ∷ (xs ++ back)) = append_assoc front (x ∷ []) (xs ++ back) in
    (got-at front x (xs ++ back), subst (λ code. Stands code (length front + 1) xs) same (subst (λ n. Stands (more ++ (xs ++ back)) n xs) place (stands-at more xs back)))

pub stands-split : (code : List Coded) (at : ℕ) (xs ys : List Coded) → Stands code at (xs ++ ys) → Stands code at xs × Stands code (at + length xs) ys
stands-split code at [] ys h = let e : at ≡ at + 0 = omega arith in (tt, subst (λ n. Stands code n ys) e h)
stands-split code at (x ∷ xs) ys h =
    let rest = stands-split code (at + 1) xs ys h.1 in
    let e : at + 1 + length xs ≡ at + suc (length xs) = omega arith in
    ((h.0, rest.0), subst (λ n. Stands code n ys) e rest.1)

pub stands-lined : (code : List Coded) (line at : ℕ) (ws : List ℕ) → Stands code at (on_line line ws) → Lined code line at ws
stands-lined code line at [] h = tt
stands-lined code line at (w ∷ ws) h = (h.0, stands-lined code line (at + 1) ws h.1)

pub lined-split : (code : List Coded) (line at : ℕ) (xs ys : List ℕ) → Lined code line at (xs ++ ys) → Lined code line at xs × Lined code line (at + length xs) ys
lined-split code line at [] ys h = let e : at ≡ at + 0 = omega arith in (tt, subst (λ n. Lined code line n ys) e h)
lined-split code line at (x ∷ xs) ys h =
    let rest = lined-split code line (at + 1) xs ys h.1 in
    let e : at + 1 + length xs ≡ at + suc (length xs) = omega arith in
    ((h.0, rest.0), subst (λ n. Lined code line n ys) e rest.1)

-- the line of a word
pub line-of : (code : List Coded) (at : ℕ) (c : Coded) → slice_get code at ≡ Some c → line_at code at ≡ c.line
line-of code at c found =
    get_or_from_slice_get (map (λ x. x.line) code) at c.line 0 (slice_get-map (λ (x : Coded). x.line) code at ∙ ap (option_map (λ (x : Coded). x.line)) found)

-- words of a line with such a line behind them begin on it
pub lined-line : (code : List Coded) (line at end : ℕ) (ws : List ℕ) → end ≡ at + length ws → Lined code line at ws → line_at code end ≡ line → line_at code at ≡ line
lined-line code line at end [] e h behind = let same : at ≡ end = omega arith in subst (λ n. line_at code n ≡ line) (sym same) behind
lined-line code line at end (w ∷ ws) e h behind = line-of code at (record { word = w; line = line; is_edge = false }) h.0

module _ (code : List Coded) (cells : ℕ) where
  -- a tick changes only the stack, the counter inside its line, and temporaries
  pub record Same (m n : State) : Type 0 where
    pub memory : n.code ≡ m.code
    pub shape : n.shape ≡ m.shape
    pub active : n.active ≡ m.active
    pub paused : n.paused ≡ m.paused
    pub held : n.held ≡ m.held
    pub many : length n.cells ≡ length m.cells
    pub each : (a : ℕ) → a < cells → slice_index_or n.cells a (pos 0) ≡ slice_index_or m.cells a (pos 0)
    pub line : line_at code n.pc ≡ line_at code m.pc

  -- the next tick has no effect
  pub record Hidden (m : State) : Type 0 where
    pub silent : is_effect cells (ticked m).0 ≡ false
    pub same : Same m (ticked m).1

  -- behind at most so many ticks without an effect this holds
  abbrev pub Reaches : (State → Type 0) → ℕ → State → Type 0
  Reaches G zero m = G m
  Reaches G (suc b) m = G m ⊎ (Hidden m × Reaches G b (ticked m).1)

  pub reached : (G : State → Type 0) (n : ℕ) (m : State) → G m → Reaches G n m
  reached G zero m h = h
  reached G (suc n) m h = inl h

  -- one tick that pushes, pops or computes
  pub one-quiet : (G : State → Type 0) (n b : ℕ) (m : State) (stack : List ℤ) (pc : ℕ) → n ≡ suc b → ticked m ≡ (Quiet, put m stack pc) → line_at code pc ≡ line_at code m.pc
      → Reaches G b (put m stack pc) → Reaches G n m
  one-quiet G n b m stack pc e tick line rest =
      let hidden : Hidden m = record {
        silent = ap (λ r. is_effect cells r.0) tick;
        same = subst (λ (r : Tick × State). Same m r.1) (sym tick) (record {
          memory = refl;
          shape = refl;
          active = refl;
          paused = refl;
          held = refl;
          many = refl;
          each = λ a below. refl;
          line = line;
        });
      } in
      subst (λ k. Reaches G k m) (sym e) (inr (hidden, subst (λ (r : Tick × State). Reaches G b r.1) (sym tick) rest))
