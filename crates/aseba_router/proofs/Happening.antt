-- What an item does to the rows and queues of all ports, from what it does to each.
use Rattle.std.proofs.Common.{◌≡◌, ◌∙◌, ℕ, zero, suc, ◌+◌, ◌<◌, ◌≤◌, ◌==◌, Bool, true, false, ◌&&◌, if◌then◌else◌, List, [], ◌∷◌, ◌++◌, length, set, get_or, Option, None, Some, option_map, refl, sym, ap, subst, arith, length-set, length-append, eqb-true, eq-eqb}
use Rattle.std.proofs.lemmas.List.{length-map}
use Rattle.aseba_message.specs.Message.{Message}
use Rattle.aseba_router.specs.declared.place.Place.{Place}
use Rattle.aseba_router.specs.declared.session.Session.{Session}
use Rattle.aseba_router.specs.Handed.{shared, Gave, Hands, Happened, AllHanded, AllTried, AllShared, KeptPorts, HaveRoom}
use Rattle.aseba_router.specs.Hub.{Act, joins, says, leaves, Put, frame, end}
use Rattle.aseba_router.specs.Left.{Left}
use Rattle.aseba_router.specs.Port.{Port, is_session, hears, asks, marked, ends, Given}
use Rattle.aseba_router.specs.Queue.{Queue, Drained, OthersStay}
use Rattle.aseba_router.specs.Routed.{Happens, Tries, Table, Routed, Retried, IsRoomy}
use Rattle.aseba_router.specs.Rows.{Row, row, row_at, ports_of, port_at}
use Rattle.aseba_router.proofs.Loops.{row-written, row-others, row-read, kept-at}
use Rattle.aseba_router.proofs.Pushes.{no-count}
use Rattle.aseba_router.proofs.Standing.{gain, given-gains}

apart : (a b : ℕ) → (a ≡ b → ⊥) → (a == b) ≡ false
apart a b other = pick (a == b) refl
  where
    pick : (c : Bool) → (a == b) ≡ c → c ≡ false
    pick false e = refl
    pick true e = absurd (other (eqb-true a b e))

-- an item of a session of another port changes nothing
elsewhere-joins : (echo : Bool) (p place : ℕ) (s : Session) (port : Port) (queue : Queue) → (s.port ≡ p → ⊥) → Happens echo p place (joins s) port queue port queue
elsewhere-joins echo p place s port queue other =
    let e : (s.port == p) ≡ false = apart s.port p other in
    record {
      back = false;
      step = record {
        session = sym (ap (λ (b : Bool). if b then Some s else port.session) e);
        full = sym (ap (λ (b : Bool). if b then None else port.full) e);
        given = (refl, refl, refl);
      };
      counted = no-count queue;
    }

elsewhere-leaves : (echo : Bool) (p place : ℕ) (s : Session) (port : Port) (queue : Queue) → (s.port ≡ p → ⊥) → Happens echo p place (leaves s) port queue port queue
elsewhere-leaves echo p place s port queue other =
    let e : (s.port == p) ≡ false = apart s.port p other in
    let nothing : asks echo p port (leaves s) ≡ None = ap (λ (b : Bool). if b && is_session s port.session then Some (end s) else None) e in
    record {
      back = false;
      step = record {
        session = sym (ap (λ (b : Bool). if b && is_session s port.session then None else port.session) e);
        full = refl;
        given = subst (λ (a : Option Put). Given a false queue.list port.waiting queue.list port.waiting) (sym nothing) (refl, refl, refl);
      };
      counted = no-count queue;
    }

-- a session joins at its port
pub joins-here : (echo : Bool) (place : ℕ) (s : Session) (old new : Port) (queue : Queue) → new ≡ record old { session = Some s; full = None } → Happens echo s.port place (joins s) old queue new queue
joins-here echo place s old new queue is =
    let e : (s.port == s.port) ≡ true = eq-eqb s.port s.port refl in
    record {
      back = false;
      step = record {
        session = ap (λ (port : Port). port.session) is ∙ sym (ap (λ (b : Bool). if b then Some s else old.session) e);
        full = ap (λ (port : Port). port.full) is ∙ sym (ap (λ (b : Bool). if b then None else old.full) e);
        given = (refl, refl, ap (λ (port : Port). port.waiting) is);
      };
      counted = no-count queue;
    }

-- a session that isn't the port's leaves
pub left-none : (s : Session) (place : ℕ) (old new : Row) (queue : Queue) → is_session s old.port.session ≡ false → new ≡ old → Left s place old queue new queue
left-none s place old new queue other is echo =
    let here : (s.port == s.port) ≡ true = eq-eqb s.port s.port refl in
    let e : ((s.port == s.port) && is_session s old.port.session) ≡ false = ap (λ (b : Bool). b && is_session s old.port.session) here ∙ other in
    let nothing : asks echo s.port old.port (leaves s) ≡ None = ap (λ (b : Bool). if b then Some (end s) else None) e in
    subst (λ (r : Row). Happens echo s.port place (leaves s) old.port queue r.port queue) (sym is)
    record {
      back = false;
      step = record {
        session = sym (ap (λ (b : Bool). if b then None else old.port.session) e);
        full = refl;
        given = subst (λ (a : Option Put). Given a false queue.list old.port.waiting queue.list old.port.waiting) (sym nothing) (refl, refl, refl);
      };
      counted = no-count queue;
    }

-- the port's session leaves
pub left-gone : (s : Session) (place : ℕ) (old new : Row) (before after : Queue) (back : Bool) → is_session s old.port.session ≡ true → new.port.session ≡ None → new.port.full ≡ marked place back old.port.full
    → Gave (end s) back old.port.waiting before new.port.waiting after → Left s place old before new after
left-gone s place old new before after back is gone full gave echo =
    let here : (s.port == s.port) ≡ true = eq-eqb s.port s.port refl in
    let e : ((s.port == s.port) && is_session s old.port.session) ≡ true = ap (λ (b : Bool). b && is_session s old.port.session) here ∙ is in
    let its_end : asks echo s.port old.port (leaves s) ≡ Some (end s) = ap (λ (b : Bool). if b then Some (end s) else None) e in
    record {
      back = back;
      step = record {
        session = gone ∙ sym (ap (λ (b : Bool). if b then None else old.port.session) e);
        full = full;
        given = subst (λ (a : Option Put). Given a back before.list old.port.waiting after.list new.port.waiting) (sym its_end) gave.given;
      };
      counted = gave.counted;
    }

-- a row without a share gets nothing
pub hands-none : (place : ℕ) (old new : Row) (queue : Queue) → old.share ≡ None → new.port ≡ old.port → Hands false place old queue new queue
hands-none place old new queue none is = record {
  session = ap (λ (port : Port). port.session) is;
  full = ap (λ (port : Port). port.full) is;
  given = subst (λ (share : Option Message). Given (option_map frame share) false queue.list old.port.waiting queue.list new.port.waiting) (sym none) (refl, refl, ap (λ (port : Port). port.waiting) is);
  counted = no-count queue;
}

pub hands-gave : (back : Bool) (place : ℕ) (f : Message) (old new : Row) (before after : Queue) → old.share ≡ Some f → new.port.session ≡ old.port.session → new.port.full ≡ marked place back old.port.full
    → Gave (frame f) back old.port.waiting before new.port.waiting after → Hands back place old before new after
hands-gave back place f old new before after some session full gave = record {
  session = session;
  full = full;
  given = subst (λ (share : Option Message). Given (option_map frame share) back before.list old.port.waiting after.list new.port.waiting) (sym some) gave.given;
  counted = gave.counted;
}

-- Ends that wait are tried
pub tries : (back : Bool) (old new : Port) (before after : Queue) → new.session ≡ old.session → new.full ≡ old.full → Drained back old.waiting before new.waiting after → Tries old before new after
tries back old new before after session full drained = record {
  back = back;
  again = record { session = session; full = full; given = drained.given; grew = drained.grew; left = drained.left };
  counted = drained.counted;
}

-- an item at one place, where it changes nothing at the others
at-one : (x : Act) (echo : Bool) (at : ℕ) (old new : List Place) (before after : ℕ → Queue) (i : ℕ) (place : Place) → i < length old → new ≡ set old i place → OthersStay i before after
    → Happens echo i at x (row_at old i).port (before i) (row place).port (after i) → ((p : ℕ) (port : Port) (queue : Queue) → (i ≡ p → ⊥) → Happens echo p at x port queue port queue)
    → Happened x echo at old before new after
at-one x echo at old new before after i place within is others here elsewhere = record {
  count = ap length is ∙ length-set old i place;
  each = λ p h. by_place p (i == p) refl;
  others = λ p h. others p (λ e. omega (arith, e, h, within));
}
  where
    by_place : (p : ℕ) (c : Bool) → (i == p) ≡ c → Happens echo p at x (row_at old p).port (before p) (row_at new p).port (after p)
    by_place p true e =
        let there : i ≡ p = eqb-true i p e in
        subst (λ (q : ℕ). Happens echo q at x (row_at old q).port (before q) (row_at new q).port (after q)) there
        (subst (λ (r : Row). Happens echo i at x (row_at old i).port (before i) r.port (after i)) (sym (ap (λ places. row_at places i) is ∙ row-written old i place within)) here)
    by_place p false e =
        let other : i ≡ p → ⊥ = λ eq. let wrong : (i == p) ≡ true = eq-eqb i p eq in absurd cc in
        let turned : p ≡ i → ⊥ = λ eq. other (sym eq) in
        subst (λ (r : Row). Happens echo p at x (row_at old p).port (before p) r.port (after p)) (sym (ap (λ places. row_at places p) is ∙ row-others old i p place turned))
        (subst (λ (q : Queue). Happens echo p at x (row_at old p).port (before p) (row_at old p).port q) (sym (others p turned)) (elsewhere p (row_at old p).port (before p) other))

pub joined-at : (s : Session) (old new : List Place) (place : Place) → s.port < length old → new ≡ set old s.port place → (row place).port ≡ record (row_at old s.port).port { session = Some s; full = None }
    → (echo : Bool) (at : ℕ) (queues : ℕ → Queue) → Happened (joins s) echo at old queues new queues
joined-at s old new place within is now echo at queues =
    at-one (joins s) echo at old new queues queues s.port place within is (λ q other. refl) (joins-here echo at s (row_at old s.port).port (row place).port (queues s.port) now)
    (λ p port queue other. elsewhere-joins echo p at s port queue other)

pub left-at : (s : Session) (at : ℕ) (old new : List Place) (before after : ℕ → Queue) (place : Place) → s.port < length old → new ≡ set old s.port place → OthersStay s.port before after
    → Left s at (row_at old s.port) (before s.port) (row place) (after s.port) → (echo : Bool) → Happened (leaves s) echo at old before new after
left-at s at old new before after place within is others left echo =
    at-one (leaves s) echo at old new before after s.port place within is others (left echo) (λ p port queue other. elsewhere-leaves echo p at s port queue other)

-- the same, as the code writes the row of an index
pub joined-index : (s : Session) (old : List Place) (i : ℕ) (default place : Place) → i ≡ s.port → s.port < length old
    → row place ≡ record (row (get_or old i default)) { port = record (row (get_or old i default)).port { session = Some s; full = None } } → (echo : Bool) (at : ℕ) (queues : ℕ → Queue) → Happened (joins s) echo at old queues (set old i place) queues
joined-index s old i default place same within now =
    let here : i < length old = omega arith in
    let was : row (get_or old i default) ≡ row_at old s.port = row-read old i default here ∙ ap (row_at old) same in
    joined-at s old (set old i place) place within (ap (λ n. set old n place) same)
    (ap (λ (r : Row). r.port) now ∙ ap (λ (r : Row). record r.port { session = Some s; full = None }) was)

pub left-index : (s : Session) (at : ℕ) (old : List Place) (before after : ℕ → Queue) (i : ℕ) (default place : Place) → i ≡ s.port → s.port < length old → OthersStay s.port before after
    → Left s at (row (get_or old i default)) (before s.port) (row place) (after s.port) → (echo : Bool) → Happened (leaves s) echo at old before (set old i place) after
left-index s at old before after i default place same within others left =
    let here : i < length old = omega arith in
    let was : row (get_or old i default) ≡ row_at old s.port = row-read old i default here ∙ ap (row_at old) same in
    left-at s at old (set old i place) before after place within (ap (λ n. set old n place) same) others
    (subst (λ (r : Row). Left s at r (before s.port) (row place) (after s.port)) was left)

pub kept-index : (old : List Place) (i : ℕ) (default place : Place) → i < length old → row place ≡ row (get_or old i default) → KeptPorts old (set old i place)
kept-index old i default place within same = kept-at old (set old i place) i place within refl (ap (λ (r : Row). r.port) (same ∙ row-read old i default within))

-- a frame was said, once each row had its share and each share was pushed
share-asks : (c : Bool) (f : Message) → option_map frame (if c then Some f else None) ≡ (if c then Some (frame f) else None)
share-asks true f = refl
share-asks false f = refl

said-one : (echo : Bool) (p at : ℕ) (s : Session) (f : Message) (old mid new : Row) (before after : Queue) (back : Bool) → mid ≡ shared echo s f old → Hands back at mid before new after → Happens echo p at (says s f) old.port before new.port after
said-one echo p at s f old mid new before after back is hands =
    let port : mid.port ≡ old.port = ap (λ (r : Row). r.port) is in
    let asked : option_map frame mid.share ≡ asks echo p old.port (says s f) = ap (λ (r : Row). option_map frame r.share) is ∙ share-asks (hears echo s old.port.session old.port.full) f in
    record {
      back = back;
      step = record {
        session = hands.session ∙ ap (λ (r : Port). r.session) port;
        full = hands.full ∙ ap (λ (r : Port). marked at back r.full) port;
        given = subst (λ (a : Option Put). Given a back before.list old.port.waiting after.list new.port.waiting) asked
            (subst (λ (r : Port). Given (option_map frame mid.share) back before.list r.waiting after.list new.port.waiting) port hands.given);
      };
      counted = hands.counted;
    }

pub said-all : (echo : Bool) (at : ℕ) (s : Session) (f : Message) (old mid new : List Place) (before after : ℕ → Queue) → AllShared echo s f old mid → AllHanded at mid before new after → Happened (says s f) echo at old before new after
said-all echo at s f old mid new before after shares handed = record {
  count = handed.count ∙ shares.count;
  each = λ p h.
      let hands = handed.each p (omega (arith, h, shares.count)) in
      said-one echo p at s f (row_at old p) (row_at mid p) (row_at new p) (before p) (after p) hands.0 (shares.each p h) hands.1;
  others = λ p h. handed.others p (omega (arith, h, shares.count));
}

-- the table has the rows' ports
pub port-of-row : (places : List Place) (p : ℕ) → port_at (ports_of places) p ≡ (row_at places p).port
port-of-row [] p = refl
port-of-row (first ∷ later) zero = refl
port-of-row (first ∷ later) (suc p) = port-of-row later p

pub kept-table : (new old : List Place) → KeptPorts old new → ports_of new ≡ ports_of old
kept-table [] [] kept = refl
kept-table [] (first ∷ later) kept = absurd (omega (arith, kept.count))
kept-table (now ∷ more) [] kept = absurd (omega (arith, kept.count))
kept-table (now ∷ more) (first ∷ later) kept =
    ap (λ port. port ∷ ports_of more) (kept.each 0)
    ∙ ap (λ ports. (row first).port ∷ ports) (kept-table more later (record { count = omega (arith, kept.count); each = λ p. kept.each (suc p) }))

pub ports-length : (places : List Place) → length (ports_of places) ≡ length places
ports-length places = length-map places (λ place. (row place).port)

-- room in the table is room in the rows
pub room-in : (places : List Place) (items : ℕ) (echo : Bool) (queues : ℕ → Queue) → IsRoomy (record { ports = ports_of places; items = items; echo = echo }) queues → HaveRoom items places queues
room-in places items echo queues roomy p h =
    subst (λ (port : Port). length (queues p).list + length port.waiting ≤ items) (port-of-row places p) (roomy p (omega (arith, ports-length places, h)))

-- an item at all rows is one at the table
pub routed : (x : Act) (echo : Bool) (at : ℕ) (old new : List Place) (before after : ℕ → Queue) → Happened x echo at old before new after
    → Routed x (record { ports = ports_of old; items = at; echo = echo }) before (record { ports = ports_of new; items = at + 1; echo = echo }) after
routed x echo at old new before after happened = record {
  items = refl;
  echo = refl;
  count = ports-length new ∙ happened.count ∙ sym (ports-length old);
  each = λ p h.
      subst (λ (port : Port). Happens echo p at x port (before p) (port_at (ports_of new) p) (after p)) (sym (port-of-row old p))
      (subst (λ (port : Port). Happens echo p at x (row_at old p).port (before p) port (after p)) (sym (port-of-row new p)) (happened.each p (omega (arith, h, ports-length old))));
  others = λ p h. happened.others p (omega (arith, h, ports-length old));
}

pub retried : (echo : Bool) (at : ℕ) (old new : List Place) (before after : ℕ → Queue) → AllTried old before new after
    → Retried (record { ports = ports_of old; items = at; echo = echo }) before (record { ports = ports_of new; items = at; echo = echo }) after
retried echo at old new before after tried = record {
  items = refl;
  echo = refl;
  count = ports-length new ∙ tried.count ∙ sym (ports-length old);
  each = λ p h.
      subst (λ (port : Port). Tries port (before p) (port_at (ports_of new) p) (after p)) (sym (port-of-row old p))
      (subst (λ (port : Port). Tries (row_at old p).port (before p) port (after p)) (sym (port-of-row new p)) (tried.each p (omega (arith, h, ports-length old))));
  others = λ p h. tried.others p (omega (arith, h, ports-length old));
}

-- an item adds one entry at most to a list and the Ends that wait behind it
gain-one : (asked : Option Put) (back : Bool) → length (gain asked back) ≤ 1
gain-one None back = omega arith
gain-one (Some put) false = omega arith
gain-one (Some (frame f)) true = omega arith
gain-one (Some (end s)) true = omega arith

pub room-after : (x : Act) (old new : Table) (before after : ℕ → Queue) → Routed x old before new after → IsRoomy old before → IsRoomy new after
room-after x old new before after all roomy p h =
    let here : p < length old.ports = omega (arith, h, all.count) in
    let one = all.each p here in
    let gained = gain (asks old.echo p (port_at old.ports p) x) one.back in
    let whole = given-gains (asks old.echo p (port_at old.ports p) x) one.back (before p).list (after p).list (port_at old.ports p).waiting (port_at new.ports p).waiting one.step.given in
    let lengths : length (after p).list + length (port_at new.ports p).waiting ≡ length (before p).list + length (port_at old.ports p).waiting + length gained =
    omega (
      arith,
      ap length whole,
      length-append (after p).list (ends (port_at new.ports p).waiting),
      length-append ((before p).list ++ ends (port_at old.ports p).waiting) gained,
      length-append (before p).list (ends (port_at old.ports p).waiting),
      length-map (port_at new.ports p).waiting end,
      length-map (port_at old.ports p).waiting end,
    ) in
    omega (arith, lengths, roomy p here, gain-one (asks old.echo p (port_at old.ports p) x) one.back, all.items)

pub room-retried : (old new : Table) (before after : ℕ → Queue) → Retried old before new after → IsRoomy old before → IsRoomy new after
room-retried old new before after all roomy p h =
    let here : p < length old.ports = omega (arith, h, all.count) in
    let one = all.each p here in
    let lengths : length (after p).list + length (port_at new.ports p).waiting ≡ length (before p).list + length (port_at old.ports p).waiting =
    omega (
      arith,
      ap length one.again.given,
      length-append (after p).list (ends (port_at new.ports p).waiting),
      length-append (before p).list (ends (port_at old.ports p).waiting),
      length-map (port_at new.ports p).waiting end,
      length-map (port_at old.ports p).waiting end,
    ) in
    omega (arith, lengths, roomy p here, all.items)

-- the same, as the code opens and closes the router
pub room-open : (places now : List Place) (items : ℕ) (echo : Bool) (self : Table) (queues : ℕ → Queue) → now ≡ places → record { ports = ports_of places; items = items; echo = echo } ≡ self → IsRoomy self queues → HaveRoom items now queues
room-open places now items echo self queues same view roomy =
    subst (λ (l : List Place). HaveRoom items l queues) (sym same) (room-in places items echo queues (subst (λ (t : Table). IsRoomy t queues) (sym view) roomy))

pub room-more : (items most : ℕ) (places : List Place) (queues : ℕ → Queue) → items ≤ most → HaveRoom items places queues → HaveRoom most places queues
room-more items most places queues fewer room p h = omega (arith, fewer, room p h)

pub routed-open : (x : Act) (echo : Bool) (at : ℕ) (places now new last : List Place) (self : Table) (before after : ℕ → Queue) → now ≡ places → record { ports = ports_of places; items = at; echo = echo } ≡ self → last ≡ new
    → Happened x echo at now before new after → Routed x self before (record { ports = ports_of last; items = at + 1; echo = echo }) after
routed-open x echo at places now new last self before after same view written happened =
    subst (λ (t : Table). Routed x t before (record { ports = ports_of last; items = at + 1; echo = echo }) after) view
    (subst (λ (l : List Place). Routed x (record { ports = ports_of places; items = at; echo = echo }) before (record { ports = ports_of l; items = at + 1; echo = echo }) after) (sym written)
    (subst (λ (l : List Place). Routed x (record { ports = ports_of l; items = at; echo = echo }) before (record { ports = ports_of new; items = at + 1; echo = echo }) after) same
    (routed x echo at now new before after happened)))

pub kept-open : (echo : Bool) (at : ℕ) (places now new last : List Place) (self : Table) → now ≡ places → record { ports = ports_of places; items = at; echo = echo } ≡ self → last ≡ new → KeptPorts now new
    → record { ports = ports_of last; items = at; echo = echo } ≡ self
kept-open echo at places now new last self same view written kept =
    ap (λ (l : List Port). record { ports = l; items = at; echo = echo }) (ap ports_of written ∙ kept-table new now kept ∙ ap ports_of same) ∙ view

pub retried-open : (echo : Bool) (at : ℕ) (places now new last : List Place) (self : Table) (before after : ℕ → Queue) → now ≡ places → record { ports = ports_of places; items = at; echo = echo } ≡ self → last ≡ new → AllTried now before new after
    → Retried self before (record { ports = ports_of last; items = at; echo = echo }) after
retried-open echo at places now new last self before after same view written tried =
    subst (λ (t : Table). Retried t before (record { ports = ports_of last; items = at; echo = echo }) after) view
    (subst (λ (l : List Place). Retried (record { ports = ports_of places; items = at; echo = echo }) before (record { ports = ports_of l; items = at; echo = echo }) after) (sym written)
    (subst (λ (l : List Place). Retried (record { ports = ports_of l; items = at; echo = echo }) before (record { ports = ports_of new; items = at; echo = echo }) after) same
    (retried echo at now new before after tried)))

pub room-table : (places last : List Place) (items : ℕ) (echo : Bool) (queues : ℕ → Queue) (self : Table) → record { ports = ports_of last; items = items; echo = echo } ≡ self → IsRoomy self queues → IsRoomy (record { ports = ports_of last; items = items; echo = echo }) queues
room-table places last items echo queues self view roomy = subst (λ (t : Table). IsRoomy t queues) (sym view) roomy
