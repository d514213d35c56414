-- A loop over the rows: those below an index are done, and the others are as they were.
use Rattle.std.proofs.Common.{◌≡◌, ◌∙◌, ℕ, zero, suc, ◌+◌, ◌<◌, ◌≤◌, ◌==◌, Bool, true, false, List, [], ◌∷◌, length, get_or, set, refl, sym, ap, subst, arith, length-set, eqb-true, eq-eqb, inl, inr, ◌⊎◌}
use Rattle.std.proofs.lemmas.Bool.{cases_lt}
use borrow.Author.Count.{below_more}
use Rattle.aseba_message.specs.Message.{Message}
use Rattle.aseba_router.specs.declared.place.Place.{Place}
use Rattle.aseba_router.specs.declared.session.Session.{Session}
use Rattle.aseba_router.specs.Handed.{shared, Hands, AllShared, AllHanded, AllTried, KeptPorts, HaveRoom}
use Rattle.aseba_router.specs.Queue.{Queue, OthersStay}
use Rattle.aseba_router.specs.Routed.{Tries}
use Rattle.aseba_router.specs.Rows.{Row, row, row_at}

-- what is done to a row and to its port's queue
abbrev pub Deals : Type 1
Deals = ℕ → Row → Queue → Row → Queue → Type 0

pub record Done (deals : Deals) (old : List Place) (before : ℕ → Queue) (new : List Place) (after : ℕ → Queue) (index : ℕ) : Type 0 where
  pub count : length new ≡ length old
  pub below : (p : ℕ) → p < index → deals p (row_at old p) (before p) (row_at new p) (after p)
  pub row_stays : (p : ℕ) → index ≤ p → row_at new p ≡ row_at old p
  pub queue_stays : (p : ℕ) → index ≤ p → after p ≡ before p

pub none-done : (deals : Deals) (places : List Place) (queues : ℕ → Queue) → Done deals places queues places queues 0
none-done deals places queues = record {
  count = refl;
  below = λ p h. absurd (omega arith);
  row_stays = λ p h. refl;
  queue_stays = λ p h. refl;
}

-- the row of a place that was written, and the rows of the others
pub row-written : (places : List Place) (i : ℕ) (place : Place) → i < length places → row_at (set places i place) i ≡ row place
row-written [] i place h = absurd (omega (arith, h))
row-written (first ∷ later) zero place h = refl
row-written (first ∷ later) (suc i) place h = row-written later i place (omega (arith, h))

pub row-others : (places : List Place) (i q : ℕ) (place : Place) → (q ≡ i → ⊥) → row_at (set places i place) q ≡ row_at places q
row-others [] i q place other = refl
row-others (first ∷ later) zero zero place other = absurd (other refl)
row-others (first ∷ later) zero (suc q) place other = refl
row-others (first ∷ later) (suc i) zero place other = refl
row-others (first ∷ later) (suc i) (suc q) place other = row-others later i q place (λ e. other (ap (λ n. suc n) e))

pub row-read : (places : List Place) (i : ℕ) (default : Place) → i < length places → row (get_or places i default) ≡ row_at places i
row-read [] i default h = absurd (omega (arith, h))
row-read (first ∷ later) zero default h = refl
row-read (first ∷ later) (suc i) default h = row-read later i default (omega (arith, h))

-- one row more
pub done-more : (deals : Deals) (old mid new : List Place) (before between after : ℕ → Queue) (i : ℕ) (place : Place) → i < length mid → new ≡ set mid i place → deals i (row_at mid i) (between i) (row place) (after i)
    → OthersStay i between after → Done deals old before mid between i → Done deals old before new after (i + 1)
done-more deals old mid new before between after i place within is deal others done = record {
  count = ap length is ∙ length-set mid i place ∙ done.count;
  below =
      below_more (λ p. deals p (row_at old p) (before p) (row_at new p) (after p)) i
      (λ p h.
      let other : p ≡ i → ⊥ = λ e. omega (arith, e, h) in
      let same_row : row_at new p ≡ row_at mid p = ap (λ places. row_at places p) is ∙ row-others mid i p place other in
      subst (λ (r : Row). deals p (row_at old p) (before p) r (after p)) (sym same_row)
      (subst (λ (q : Queue). deals p (row_at old p) (before p) (row_at mid p) q) (sym (others p other)) (done.below p h)))
      (let here : row_at new i ≡ row place = ap (λ places. row_at places i) is ∙ row-written mid i place within in
      subst (λ (r : Row). deals i (row_at old i) (before i) r (after i)) (sym here)
      (subst (λ (r : Row). deals i r (before i) (row place) (after i)) (done.row_stays i (omega arith))
      (subst (λ (q : Queue). deals i (row_at mid i) q (row place) (after i)) (done.queue_stays i (omega arith)) deal)));
  row_stays = λ p h.
      let other : p ≡ i → ⊥ = λ e. omega (arith, e, h) in
      ap (λ places. row_at places p) is ∙ row-others mid i p place other ∙ done.row_stays p (omega (arith, h));
  queue_stays = λ p h.
      let other : p ≡ i → ⊥ = λ e. omega (arith, e, h) in
      others p other ∙ done.queue_stays p (omega (arith, h));
}

-- the deals of the three loops
abbrev pub nowhere : ℕ → Queue
nowhere p = record { list = []; refusals = 0; capacity = 0 }

abbrev pub shares : Bool → Session → Message → Deals
shares echo sayer f p old before new after = new ≡ shared echo sayer f old

abbrev pub hands : ℕ → Deals
hands at p old before new after = (back : Bool) × Hands back at old before new after

abbrev pub tried : Deals
tried p old before new after = Tries old.port before new.port after

pub share-more : (echo : Bool) (sayer : Session) (f : Message) (old mid new : List Place) (i : ℕ) (default place : Place) → i < length mid → new ≡ set mid i place → row place ≡ shared echo sayer f (row (get_or mid i default))
    → Done (shares echo sayer f) old nowhere mid nowhere i → Done (shares echo sayer f) old nowhere new nowhere (i + 1)
share-more echo sayer f old mid new i default place within written deal done =
    done-more (shares echo sayer f) old mid new nowhere nowhere nowhere i place within written (deal ∙ ap (shared echo sayer f) (row-read mid i default within)) (λ q other. refl) done

pub hand-more : (at : ℕ) (old mid new : List Place) (before between after : ℕ → Queue) (i : ℕ) (default place : Place) (back : Bool) → i < length mid → new ≡ set mid i place → Hands back at (row (get_or mid i default)) (between i) (row place) (after i)
    → OthersStay i between after → Done (hands at) old before mid between i → Done (hands at) old before new after (i + 1)
hand-more at old mid new before between after i default place back within written deal others done =
    done-more (hands at) old mid new before between after i place within written (back, subst (λ (r : Row). Hands back at r (between i) (row place) (after i)) (row-read mid i default within) deal) others done

pub try-more : (old mid new : List Place) (before between after : ℕ → Queue) (i : ℕ) (default place : Place) → i < length mid → new ≡ set mid i place → Tries (row (get_or mid i default)).port (between i) (row place).port (after i)
    → OthersStay i between after → Done tried old before mid between i → Done tried old before new after (i + 1)
try-more old mid new before between after i default place within written deal others done =
    done-more tried old mid new before between after i place within written (subst (λ (r : Row). Tries r.port (between i) (row place).port (after i)) (row-read mid i default within) deal) others done

-- at the end of the loops
pub all-shared : (echo : Bool) (sayer : Session) (f : Message) (old new : List Place) (i : ℕ) → length old ≤ i → Done (shares echo sayer f) old nowhere new nowhere i → AllShared echo sayer f old new
all-shared echo sayer f old new i all done = record { count = done.count; each = λ p h. done.below p (omega (arith, h, all)) }

pub all-handed : (at : ℕ) (old new : List Place) (before after : ℕ → Queue) (i : ℕ) → i ≡ length old → Done (hands at) old before new after i → AllHanded at old before new after
all-handed at old new before after i all done = record { count = done.count; each = λ p h. done.below p (omega (arith, h, all)); others = λ p h. done.queue_stays p (omega (arith, h, all)) }

pub all-tried : (old new : List Place) (before after : ℕ → Queue) (i : ℕ) → i ≡ length old → Done tried old before new after i → AllTried old before new after
all-tried old new before after i all done = record { count = done.count; each = λ p h. done.below p (omega (arith, h, all)); others = λ p h. done.queue_stays p (omega (arith, h, all)) }

-- shares apart, the rows stay all the while
pub kept-while : (echo : Bool) (sayer : Session) (f : Message) (old new : List Place) (i : ℕ) → Done (shares echo sayer f) old nowhere new nowhere i → KeptPorts old new
kept-while echo sayer f old new i done = record { count = done.count; each = λ p. by_place p (cases_lt p i) }
  where
    by_place : (p : ℕ) → (p < i) ⊎ (i ≤ p) → (row_at new p).port ≡ (row_at old p).port
    by_place p (inl h) = ap (λ (r : Row). r.port) (done.below p h)
    by_place p (inr h) = ap (λ (r : Row). r.port) (done.row_stays p h)

-- the room of the row that is next
pub room-next : (deals : Deals) (items : ℕ) (old mid : List Place) (before between : ℕ → Queue) (i : ℕ) (default : Place) → i < length mid → HaveRoom items old before → Done deals old before mid between i
    → length (between i).list + length (row (get_or mid i default)).port.waiting ≤ items
room-next deals items old mid before between i default within room done =
    subst (λ (q : Queue). length q.list + length (row (get_or mid i default)).port.waiting ≤ items) (sym (done.queue_stays i (omega arith)))
    (subst (λ (r : Row). length (before i).list + length r.port.waiting ≤ items) (sym (row-read mid i default within ∙ done.row_stays i (omega arith))) (room i (omega (arith, within, done.count))))

kept-both : (old mid new : List Place) → KeptPorts old mid → KeptPorts mid new → KeptPorts old new
kept-both old mid new one two = record { count = two.count ∙ one.count; each = λ p. two.each p ∙ one.each p }

-- a row that stays, but for its share
pub kept-at : (old new : List Place) (i : ℕ) (place : Place) → i < length old → new ≡ set old i place → (row place).port ≡ (row_at old i).port → KeptPorts old new
kept-at old new i place within is same = record { count = ap length is ∙ length-set old i place; each = λ p. by_place p (p == i) refl }
  where
    by_place : (p : ℕ) (c : Bool) → (p == i) ≡ c → (row_at new p).port ≡ (row_at old p).port
    by_place p true e =
        let there : p ≡ i = eqb-true p i e in
        subst (λ (q : ℕ). (row_at new q).port ≡ (row_at old q).port) (sym there)
        (ap (λ (r : Row). r.port) (ap (λ places. row_at places i) is ∙ row-written old i place within) ∙ same)
    by_place p false e =
        let other : p ≡ i → ⊥ = λ eq. let wrong : (p == i) ≡ true = eq-eqb p i eq in absurd cc in
        ap (λ (r : Row). r.port) (ap (λ places. row_at places p) is ∙ row-others old i p place other)

-- no share could be taken for the row that is next
pub kept-then : (echo : Bool) (sayer : Session) (f : Message) (old mid new : List Place) (i : ℕ) (default place : Place) → i < length mid → new ≡ set mid i place → (row place).port ≡ (row (get_or mid i default)).port
    → Done (shares echo sayer f) old nowhere mid nowhere i → KeptPorts old new
kept-then echo sayer f old mid new i default place within written same done =
    kept-both old mid new (kept-while echo sayer f old mid i done) (kept-at mid new i place within written (same ∙ ap (λ (r : Row). r.port) (row-read mid i default within)))
