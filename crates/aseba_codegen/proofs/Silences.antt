-- Ticks without an effect that a machine has behind it: they are counted, and go alike whatever is held.
use Rattle.std.proofs.Common.{◌≡◌, ℕ, zero, suc, ◌+◌, inl, inr, true, false, ℤ, List, Option, refl, sym, ap, ◌∙◌, subst, arith, true≢false}
use Rattle.aseba_vm.specs.declared.tick.Tick.{Tick}
use Rattle.aseba_vm.specs.declared.tick.Tick.TheVariants.{Idle, Paused, Quiet, Stored, Effect, Sent}
use Rattle.aseba_vm.specs.State.{State}
use Rattle.aseba_vm.specs.Tick.{ticked}
use Rattle.aseba_target.specs.MachineRun.{is_effect}
use Rattle.aseba_codegen.specs.declared.coded.Coded.{Coded}
use Rattle.aseba_codegen.proofs.Apart.{holding, is_silent, apart}
use Rattle.aseba_codegen.proofs.Reach.{Same, Hidden, Reaches}

-- what is no effect is silent
silent-is : (cells : ℕ) (tick : Tick) → is_effect cells tick ≡ false → is_silent tick ≡ true
silent-is cells Idle h = refl
silent-is cells Paused h = refl
silent-is cells Quiet h = refl
silent-is cells (Stored address) h = refl
silent-is cells Effect h = absurd (true≢false h)
silent-is cells (Sent notice) h = absurd (true≢false h)

module _ (code : List Coded) (cells : ℕ) where
  -- the second machine is the first one, so many ticks without an effect later
  abbrev pub Silent : ℕ → State → State → Type 0
  Silent zero a m = a ≡ m
  Silent (suc k) a m = Hidden code cells a × Silent k (ticked a).1 m

  same-self : (m : State) → Same code cells m m
  same-self m = record { memory = refl; shape = refl; active = refl; paused = refl; held = refl; many = refl; each = λ a below. refl; line = refl }

  same-then : (m n o : State) → Same code cells m n → Same code cells n o → Same code cells m o
  same-then m n o h g = record {
    memory = g.memory ∙ h.memory;
    shape = g.shape ∙ h.shape;
    active = g.active ∙ h.active;
    paused = g.paused ∙ h.paused;
    held = g.held ∙ h.held;
    many = g.many ∙ h.many;
    each = λ a below. g.each a below ∙ h.each a below;
    line = g.line ∙ h.line;
  }

  -- such ticks keep what one of them keeps
  pub silent-same : (k : ℕ) (a m : State) → Silent k a m → Same code cells a m
  silent-same zero a m h = subst (λ n. Same code cells a n) h (same-self a)
  silent-same (suc k) a m h = same-then a (ticked a).1 m (h.0).same (silent-same k (ticked a).1 m h.1)

  -- one more
  pub silent-more : (k : ℕ) (a m : State) → Silent k a m → Hidden code cells m → Silent (suc k) a (ticked m).1
  silent-more zero a m h next = (subst (λ n. Hidden code cells n) (sym h) next, ap (λ (n : State). (ticked n).1) h)
  silent-more (suc k) a m h next = (h.0, silent-more k (ticked a).1 m h.1 next)

  hidden-held : (held : List (Option ℤ)) (a : State) → Hidden code cells a → ticked (holding held a) ≡ ((ticked a).0, holding held (ticked a).1) → Hidden code cells (holding held a)
  hidden-held held a h tick =
      let same : Same code cells (holding held a) (holding held (ticked a).1) = record {
        memory = (h.same).memory;
        shape = (h.same).shape;
        active = (h.same).active;
        paused = (h.same).paused;
        held = refl;
        many = (h.same).many;
        each = (h.same).each;
        line = (h.same).line;
      } in
      record {
        silent = ap (λ (x : Tick × State). is_effect cells x.0) tick ∙ h.silent;
        same = subst (λ (x : Tick × State). Same code cells (holding held a) x.1) (sym tick) same;
      }

  -- with other held values
  pub silent-held : (held : List (Option ℤ)) (k : ℕ) (a m : State) → Silent k a m → Silent k (holding held a) (holding held m)
  silent-held held zero a m h = ap (holding held) h
  silent-held held (suc k) a m h =
      let tick : ticked (holding held a) ≡ ((ticked a).0, holding held (ticked a).1) = apart held a (silent-is cells (ticked a).0 (h.0).silent) in
      (hidden-held held a h.0 tick, subst (λ (x : Tick × State). Silent k x.1 (holding held m)) (sym tick) (silent-held held k (ticked a).1 m h.1))

  -- What is reached behind at most n ticks, of which k are done, is reached behind those that are left.
  abbrev pub Left : (State → Type 0) → (k n : ℕ) → State → Type 0
  Left G k n m = (left : ℕ) × (n ≡ k + left) × Reaches code cells G left m

  pub silent-left : (G : State → Type 0) → ((x : State) → G x → is_effect cells (ticked x).0 ≡ true) → (k n : ℕ) (a m : State) → Silent k a m → Reaches code cells G n a → Left G k n m
  silent-left G loud zero n a m h r = (n, omega arith, subst (λ x. Reaches code cells G n x) h r)
  silent-left G loud (suc k) zero a m h r = absurd (true≢false (sym (loud a r) ∙ (h.0).silent))
  silent-left G loud (suc k) (suc n) a m h r = elim r [
    | inl now ↦ absurd (true≢false (sym (loud a now) ∙ (h.0).silent))
    | inr next ↦ let deeper : Left G k n m = silent-left G loud k n (ticked a).1 m h.1 next.1 in (deeper.0, (let e : n ≡ k + deeper.0 = deeper.1 in omega arith), deeper.2)
  ]
