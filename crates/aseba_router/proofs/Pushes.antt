-- Pushes, one after the other.
use Rattle.std.proofs.Common.{◌≡◌, ◌∙◌, ℕ, ◌+◌, ◌<◌, ◌≤◌, Bool, true, false, List, [], ◌∷◌, ◌++◌, length, drop, get_or, refl, sym, ap, subst, arith, append-nil, length-append}
use Rattle.std.proofs.lemmas.List.{append_assoc, map-append, nil_from_length}
use Rattle.aseba_message.specs.Message.{Message}
use Rattle.aseba_edge.specs.Counts.{Rose}
use Rattle.aseba_router.specs.declared.session.Session.{Session}
use Rattle.aseba_router.specs.Hub.{frame, end}
use Rattle.aseba_router.specs.Port.{ends}
use Rattle.aseba_router.specs.Queue.{Queue, Counted, Push, Drained}
use Rattle.aseba_router.specs.Handed.{Gave}

-- what was done so far, where nothing came back
pub record Going (waiting : List Session) (old : Queue) (waiting' : List Session) (new : Queue) : Type 0 where
  pub given : new.list ++ ends waiting' ≡ old.list ++ ends waiting
  pub grew : length old.list ≤ length new.list
  pub all : length new.list + length waiting' ≡ length old.list + length waiting
  pub counted : Counted false old new

pub no-count : (queue : Queue) → Counted false queue queue
no-count queue = record { refusals = record { never_fell = omega arith; cause = refl }; full = tt; capacity = refl }

pub going-none : (waiting : List Session) (queue : Queue) → Going waiting queue waiting queue
going-none waiting queue = record { given = refl; grew = omega arith; all = refl; counted = no-count queue }

-- counting goes on
pub count-on : (back : Bool) (one two three : Queue) → Counted false one two → Counted back two three → Counted back one three
count-on true one two three before now = record {
  refusals = record {
    never_fell = omega (arith, before.refusals.never_fell, now.refusals.never_fell);
    cause = subst (λ (n : ℕ). Rose n three.refusals) before.refusals.cause now.refusals.cause;
  };
  full = subst (λ (n : ℕ). n ≤ length three.list) before.capacity now.full;
  capacity = now.capacity ∙ before.capacity;
}
count-on false one two three before now = record {
  refusals = record {
    never_fell = omega (arith, before.refusals.never_fell, now.refusals.never_fell);
    cause = now.refusals.cause ∙ before.refusals.cause;
  };
  full = tt;
  capacity = now.capacity ∙ before.capacity;
}

-- one End more was taken
pub going-step : (waiting : List Session) (old : Queue) (s : Session) (later : List Session) (mid new : Queue) → Going waiting old (s ∷ later) mid → Push false (end s) mid new → Going waiting old later new
going-step waiting old s later mid new so_far push =
    let longer : length new.list ≡ length mid.list + 1 = ap length push.list ∙ length-append mid.list (end s ∷ []) in
    record {
      given = ap (λ l. l ++ ends later) push.list ∙ append_assoc mid.list (end s ∷ []) (ends later) ∙ so_far.given;
      grew = omega (arith, so_far.grew, longer);
      all = omega (arith, so_far.all, longer);
      counted = count-on false old mid new so_far.counted push.counted;
    }

-- the first of a list, and the rest
front-of : (waiting : List Session) (s : Session) → 0 < length waiting → s ≡ get_or waiting 0 s → waiting ≡ s ∷ drop 1 waiting
front-of [] s some is = absurd (omega (arith, some))
front-of (t ∷ later) s some is = ap (λ u. u ∷ later) (sym is)

pub going-on : (waiting : List Session) (old : Queue) (waiting' : List Session) (mid : Queue) (s : Session) (waiting'' : List Session) (new : Queue) → Going waiting old waiting' mid → 0 < length waiting' → s ≡ get_or waiting' 0 s → waiting'' ≡ drop 1 waiting'
    → Push false (end s) mid new → Going waiting old waiting'' new
going-on waiting old waiting' mid s waiting'' new so_far some is rest push =
    subst (λ (w : List Session). Going waiting old w new) (sym rest)
    (going-step waiting old s (drop 1 waiting') mid new (subst (λ (w : List Session). Going waiting old w mid) (front-of waiting' s some is) so_far) push)

pub going-stuck : (waiting : List Session) (old : Queue) (waiting' : List Session) (mid : Queue) (s : Session) (new : Queue) → Going waiting old waiting' mid → 0 < length waiting' → Push true (end s) mid new → Drained true waiting old waiting' new
going-stuck waiting old waiting' mid s new so_far some push = record {
  given = ap (λ l. l ++ ends waiting') push.list ∙ so_far.given;
  grew = omega (arith, so_far.grew, ap length push.list);
  left = some;
  counted = count-on true old mid new so_far.counted push.counted;
}

pub going-done : (waiting : List Session) (old : Queue) (waiting' : List Session) (new : Queue) → Going waiting old waiting' new → length waiting' ≡ 0 → Drained false waiting old waiting' new
going-done waiting old waiting' new so_far none = record {
  given = so_far.given;
  grew = so_far.grew;
  left = nil_from_length waiting' none;
  counted = so_far.counted;
}

-- an End came back, so the frame is lost
pub gave-stuck : (f : Message) (waiting : List Session) (old : Queue) (waiting' : List Session) (new : Queue) → Drained true waiting old waiting' new → Gave (frame f) true waiting old waiting' new
gave-stuck f waiting old waiting' new drained = record { given = (drained.given ∙ sym (append-nil _), drained.grew, tt); counted = drained.counted }

drained-all : (waiting : List Session) (old : Queue) (waiting' : List Session) (mid : Queue) → Drained false waiting old waiting' mid → mid.list ≡ old.list ++ ends waiting
drained-all waiting old waiting' mid drained = sym (append-nil mid.list) ∙ ap (λ w. mid.list ++ ends w) (sym drained.left) ∙ drained.given

-- the frame was pushed behind all Ends
pub gave-after : (back : Bool) (f : Message) (waiting : List Session) (old : Queue) (waiting' : List Session) (mid new : Queue) → Drained false waiting old waiting' mid → Push back (frame f) mid new → Gave (frame f) back waiting old waiting' new
gave-after false f waiting old waiting' mid new drained push = record {
  given = (push.list ∙ ap (λ l. l ++ frame f ∷ []) (drained-all waiting old waiting' mid drained), drained.left);
  counted = count-on false old mid new drained.counted push.counted;
}
gave-after true f waiting old waiting' mid new drained push = record {
  given = (
    ap (λ l. l ++ ends waiting') push.list ∙ drained.given ∙ sym (append-nil _),
    omega (arith, drained.grew, ap length push.list),
    tt,
  );
  counted = count-on true old mid new drained.counted push.counted;
}

-- an End that was put behind those that wait
pub gave-end : (back : Bool) (s : Session) (waiting : List Session) (old : Queue) (waiting' : List Session) (new : Queue) → Drained back (waiting ++ s ∷ []) old waiting' new → Gave (end s) back waiting old waiting' new
gave-end true s waiting old waiting' new drained = record {
  given = (
    drained.given ∙ ap (λ l. old.list ++ l) (map-append end waiting (s ∷ [])) ∙ sym (append_assoc old.list (ends waiting) (end s ∷ [])),
    drained.grew,
    drained.left,
  );
  counted = drained.counted;
}
gave-end false s waiting old waiting' new drained = record {
  given = (
    drained-all (waiting ++ s ∷ []) old waiting' new drained ∙ ap (λ l. old.list ++ l) (map-append end waiting (s ∷ [])) ∙ sym (append_assoc old.list (ends waiting) (end s ∷ [])),
    drained.left,
  );
  counted = drained.counted;
}
