-- What follows from the turns of the switch, whatever turns they are.
use Rattle.std.proofs.Common.{◌≡◌, ◌∙◌, ◌⊎◌, inl, inr, ℕ, zero, suc, ◌+◌, ◌<◌, ◌≤◌, ◌==◌, Bool, true, false, ◌&&◌, ◌||◌, not, if◌then◌else◌, List, [], ◌∷◌, ◌++◌, length, replicate, Option, None, Some, MatchBool, nat_lt, refl, sym, ap, subst, arith, append-nil, length-append, eqb-true, eq-eqb}
use Rattle.std.proofs.lemmas.Bool.{cases_lt, ltb-true}
use Rattle.std.proofs.lemmas.List.{append_assoc, length-map}
use Rattle.aseba_message.specs.Message.{Message}
use Rattle.aseba_router.specs.declared.session.Session.{Session}
use Rattle.aseba_router.specs.declared.stage.Stage.{Stage}
use Rattle.aseba_router.specs.declared.stage.Stage.TheVariants.{Away, There, Gone}
use Rattle.aseba_router.specs.declared.turn.Turn.{Turn}
use Rattle.aseba_router.specs.declared.turn.Turn.TheVariants.{Open, Read, Route, Write}
use Rattle.aseba_router.specs.Hub.{Act, joins, says, leaves, Put, same}
use Rattle.aseba_router.specs.Memory.{queue_at}
use Rattle.aseba_router.specs.Port.{Port, unused, asks, ends, kept, Given, Steps, Retries}
use Rattle.aseba_router.specs.Queue.{Queue}
use Rattle.aseba_router.specs.Routed.{Happens, Tries}
use Rattle.aseba_router.specs.Rows.{port_at}
use Rattle.aseba_router.specs.Told.{Deed, items, joined, came, Fits, Follows, nothing, stepped, retried}
use Rattle.aseba_router.specs.Turns.{HasRead, HasRouted, HasWritten, Line, Middle, Pops, Ran, Routes, Switch, Turned, admitted, begun, heard_as, is_away, is_there, has_room, may_open, may_read, may_write, nothing_yet, opened, pop_more, session_of, stage_after, untouched, went_on, with_line}
use Rattle.aseba_router.proofs.LinkLines.{no-clash}
use Rattle.aseba_router.proofs.Rooms.{empty-first, unused-at}
use Rattle.aseba_router.proofs.Shares.{not-come, same-other}
use Rattle.aseba_router.proofs.Snoc.{items-more, joined-more}

-- The same happens to a port with the same entries put in front of both its lists.
given-behind : (asked : Option Put) (back : Bool) (front list list' : List Put) (waiting waiting' : List Session) → Given asked back list waiting list' waiting' → Given asked back (front ++ list) waiting (front ++ list') waiting'
given-behind None back front list list' waiting waiting' g = (g.0, ap (λ l. front ++ l) g.1, g.2)
given-behind (Some put) false front list list' waiting waiting' g = (ap (λ l. front ++ l) g.0 ∙ sym (append_assoc front (list ++ ends waiting) (put ∷ [])) ∙ ap (λ l. l ++ put ∷ []) (sym (append_assoc front list (ends waiting))), g.1)
given-behind (Some put) true front list list' waiting waiting' g = (
  append_assoc front list' (ends waiting') ∙ ap (λ l. front ++ l) g.0 ∙ sym (append_assoc front (list ++ ends waiting) (kept put)) ∙ ap (λ l. l ++ kept put) (sym (append_assoc front list (ends waiting))),
  omega (arith, g.1, length-append front list, length-append front list'),
  g.2,
)

steps-behind : (echo : Bool) (p place : ℕ) (x : Act) (back : Bool) (old new : Port) (front list list' : List Put) → Steps echo p place x back old list new list' → Steps echo p place x back old (front ++ list) new (front ++ list')
steps-behind echo p place x back old new front list list' step = record {
  session = step.session;
  full = step.full;
  given = given-behind (asks echo p old x) back front list list' old.waiting new.waiting step.given;
}

retries-behind : (back : Bool) (old new : Port) (front list list' : List Put) → Retries back old list new list' → Retries back old (front ++ list) new (front ++ list')
retries-behind back old new front list list' again = record {
  session = again.session;
  full = again.full;
  given = append_assoc front list' (ends new.waiting) ∙ ap (λ l. front ++ l) again.given ∙ sym (append_assoc front list (ends old.waiting));
  grew = omega (arith, again.grew, length-append front list, length-append front list');
  left = again.left;
}

-- each of the items that wait fits what stands before it
abbrev pub Orderly : List Act → List Act → Type 0
Orderly before [] = Unit {0}
Orderly before (x ∷ later) = Fits before x × Orderly (before ++ x ∷ []) later

orderly-more : (before waiting : List Act) (x : Act) → Orderly before waiting → Fits (before ++ waiting) x → Orderly before (waiting ++ x ∷ [])
orderly-more before [] x all fits = (subst (λ (l : List Act). Fits l x) (append-nil before) fits, tt)
orderly-more before (y ∷ waiting) x all fits =
    (all.0, orderly-more (before ++ y ∷ []) waiting x all.1 (subst (λ (l : List Act). Fits l x) (sym (append_assoc before (y ∷ []) waiting)) fits))

-- a port's sessions that have joined, as far as its link has come
abbrev pub sessions_by : ℕ → Stage → List Session
sessions_by p stage = if is_away stage then [] else session_of p ∷ []

-- of what was routed, and of what was taken out of a port's queue, its row and what is left in the queue follow
pub record HasFollowed (echo : Bool) (p : ℕ) (m : Middle) (popped : List Put) : Type 0 where
  pub deeds : List Deed
  pub routed : items deeds ≡ m.routed
  pub follows : Follows echo p deeds (port_at m.table.ports p) (popped ++ (queue_at m.queues p).list)

-- what holds between two turns
pub record Holds (echo : Bool) (ports places : ℕ) (m : Middle) (lines : ℕ → Line) : Type 0 where
  pub echo_is : m.table.echo ≡ echo
  pub rows : length m.table.ports ≡ ports
  pub count : length m.routed ≡ m.table.items
  pub orderly : Orderly m.routed m.waiting
  pub once : (p : ℕ) → joined p (m.routed ++ m.waiting) ≡ sessions_by p (lines p).stage
  pub followed : (p : ℕ) → p < ports → HasFollowed echo p m (lines p).popped
  pub past : (p : ℕ) → places ≤ p → lines p ≡ untouched

pub holds-first : (echo : Bool) (ports places queue : ℕ) → Holds echo ports places (nothing_yet ports queue echo) (λ p. untouched)
holds-first echo ports places queue = record {
  echo_is = refl;
  rows = count ports;
  count = refl;
  orderly = tt;
  once = λ p. refl;
  followed = λ p h. record { deeds = []; routed = refl; follows = nothing refl (unused-at ports p) (empty-first ports queue p) };
  past = λ p h. refl;
}
  where
    count : (n : ℕ) → length (replicate n unused) ≡ n
    count zero = refl
    count (suc n) = ap suc (count n)

-- where no session of a port has joined
pub none-came : (s : Session) (p : ℕ) (acts : List Act) → s.port ≡ p → joined p acts ≡ [] → came s acts ≡ false
none-came s p [] at none = refl
none-came s p (joins t ∷ acts) at none = pick (t.port == p) refl none (none-came s p acts at)
  where
    other : (t.port == p) ≡ false → same s t ≡ false
    other e = same-other s t (ap (λ n. n == t.port) at ∙ turned (p == t.port) refl)
      where
        turned : (c : Bool) → (p == t.port) ≡ c → c ≡ false
        turned false h = refl
        turned true h = absurd (no-clash (eq-eqb t.port p (sym (eqb-true p t.port h))) e)

    pick : (c : Bool) → (t.port == p) ≡ c → (if c then t ∷ joined p acts else joined p acts) ≡ [] → (joined p acts ≡ [] → came s acts ≡ false) → (same s t || came s acts) ≡ false
    pick true e h rest = absurd cc
    pick false e h rest = ap (λ b. b || came s acts) (other e) ∙ rest h
none-came s p (says t f ∷ acts) at none = none-came s p acts at none
none-came s p (leaves t ∷ acts) at none = none-came s p acts at none

-- the first session of a port joins
fits-first : (p : ℕ) (acts : List Act) → joined p acts ≡ [] → Fits acts (joins (session_of p))
fits-first p acts none = (none-came (session_of p) p acts refl none, λ t at. not-come t acts (none-came t p acts at none))

-- one link is changed
line-here : (p : ℕ) (line : Line) (lines : ℕ → Line) → with_line p line lines p ≡ line
line-here p line lines = ap (λ (c : Bool). if c then line else lines p) (eq-eqb p p refl)

line-else : (p q : ℕ) (line : Line) (lines : ℕ → Line) → (q == p) ≡ false → with_line p line lines q ≡ lines q
line-else p q line lines other = ap (λ (c : Bool). if c then line else lines q) other

abbrev pub PopsSame : ℕ → Line → (ℕ → Line) → Type 0
PopsSame p line lines = line.popped ≡ (lines p).popped

same-popped : (p q : ℕ) (line : Line) (lines : ℕ → Line) → PopsSame p line lines → (with_line p line lines q).popped ≡ (lines q).popped
same-popped p q line lines is = pick (q == p) refl
  where
    pick : (c : Bool) → (q == p) ≡ c → (if c then line else lines q).popped ≡ (lines q).popped
    pick true e = is ∙ ap (λ (n : ℕ). (lines n).popped) (sym (eqb-true q p e))
    pick false e = refl

still-past : (places p q : ℕ) (line : Line) (lines : ℕ → Line) → p < places → places ≤ q → lines q ≡ untouched → with_line p line lines q ≡ untouched
still-past places p q line lines placed h is = pick (q == p) refl
  where
    pick : (c : Bool) → (q == p) ≡ c → (if c then line else lines q) ≡ untouched
    pick true e = absurd (omega (arith, h, placed, eqb-true q p e))
    pick false e = is

-- a link whose session has joined has a port
has-port : (places p : ℕ) (lines : ℕ → Line) → ((q : ℕ) → places ≤ q → lines q ≡ untouched) → is_away (lines p).stage ≡ false → p < places
has-port places p lines past there = by_order (cases_lt p places)
  where
    by_order : (p < places) ⊎ (places ≤ p) → p < places
    by_order (inl h) = h
    by_order (inr h) = absurd (no-clash (ap (λ (line : Line). is_away line.stage) (past p h)) there)

-- One item more waits, and its link is changed.
holds-admitted : (echo : Bool) (ports places p : ℕ) (m : Middle) (lines : ℕ → Line) (x : Act) (line : Line) → p < places → Fits (m.routed ++ m.waiting) x → PopsSame p line lines
    → ((q : ℕ) → sessions_by q (lines q).stage ++ joined q (x ∷ []) ≡ sessions_by q (with_line p line lines q).stage) → Holds echo ports places m lines → Holds echo ports places (admitted x m) (with_line p line lines)
holds-admitted echo ports places p m lines x line placed fits popped stages holds = record {
  echo_is = holds.echo_is;
  rows = holds.rows;
  count = holds.count;
  orderly = orderly-more m.routed m.waiting x holds.orderly fits;
  once = λ q. ap (joined q) (sym (append_assoc m.routed m.waiting (x ∷ []))) ∙ joined-more q (m.routed ++ m.waiting) x ∙ ap (λ l. l ++ joined q (x ∷ [])) (holds.once q) ∙ stages q;
  followed = λ q h. subst (HasFollowed echo q (admitted x m)) (sym (same-popped p q line lines popped))
      (record { deeds = (holds.followed q h).deeds; routed = (holds.followed q h).routed; follows = (holds.followed q h).follows });
  past = λ q h. still-past places p q line lines placed h (holds.past q h);
}

-- Open
opened-stages : (p q : ℕ) (lines : ℕ → Line) → is_away (lines p).stage ≡ true → sessions_by q (lines q).stage ++ joined q (joins (session_of p) ∷ []) ≡ sessions_by q (with_line p (record (lines p) { stage = There }) lines q).stage
opened-stages p q lines away = pick (q == p) refl
  where
    turned : (q == p) ≡ false → (p == q) ≡ false
    turned e = by_test (p == q) refl
      where
        by_test : (c : Bool) → (p == q) ≡ c → c ≡ false
        by_test false h = refl
        by_test true h = absurd (no-clash (eq-eqb q p (sym (eqb-true p q h))) e)

    pick : (c : Bool) → (q == p) ≡ c → sessions_by q (lines q).stage ++ joined q (joins (session_of p) ∷ []) ≡ sessions_by q (if c then record (lines p) { stage = There } else lines q).stage
    pick true e =
        let here : q ≡ p = eqb-true q p e in
        subst (λ (n : ℕ). sessions_by n (lines n).stage ++ joined n (joins (session_of p) ∷ []) ≡ session_of n ∷ []) (sym here)
        (ap (λ (b : Bool). (if b then [] else session_of p ∷ []) ++ joined p (joins (session_of p) ∷ [])) away ∙ ap (λ (b : Bool). if b then session_of p ∷ [] else []) (eq-eqb p p refl))
    pick false e = ap (λ (b : Bool). sessions_by q (lines q).stage ++ (if b then session_of p ∷ [] else [])) (turned e) ∙ append-nil _

both-first : (a b : Bool) → (a && b) ≡ true → a ≡ true
both-first true b e = refl
both-first false b e = absurd cc

both-second : (a b : Bool) → (a && b) ≡ true → b ≡ true
both-second true b e = e
both-second false b e = absurd cc

holds-opened : (echo : Bool) (ports places p : ℕ) (m : Middle) (lines : ℕ → Line) → (nat_lt p places && is_away (lines p).stage && has_room m) ≡ true → Holds echo ports places m lines
    → Holds echo ports places (admitted (joins (session_of p)) m) (with_line p (record (lines p) { stage = There }) lines)
holds-opened echo ports places p m lines may holds =
    let placed_away : (nat_lt p places && is_away (lines p).stage) ≡ true = both-first (nat_lt p places && is_away (lines p).stage) (has_room m) may in
    let away : is_away (lines p).stage ≡ true = both-second (nat_lt p places) (is_away (lines p).stage) placed_away in
    let none : joined p (m.routed ++ m.waiting) ≡ [] = holds.once p ∙ ap (λ (b : Bool). if b then [] else session_of p ∷ []) away in
    holds-admitted echo ports places p m lines (joins (session_of p)) (record (lines p) { stage = There }) (ltb-true p places (both-first (nat_lt p places) (is_away (lines p).stage) placed_away))
    (fits-first p (m.routed ++ m.waiting) none) refl (λ q. opened-stages p q lines away) holds

-- Read
there-not-away : (stage : Stage) → is_there stage ≡ true → stage ≡ There
there-not-away Away e = absurd cc
there-not-away There e = refl
there-not-away Gone e = absurd cc

heard-away : (heard : Option Message) → is_away (stage_after heard There) ≡ false
heard-away (Some m) = refl
heard-away None = refl

heard-fits : (p : ℕ) (before : List Act) (heard : Option Message) → Fits before (heard_as (session_of p) heard)
heard-fits p before (Some m) = tt
heard-fits p before None = tt

heard-joins : (p q : ℕ) (heard : Option Message) → joined q (heard_as (session_of p) heard ∷ []) ≡ []
heard-joins p q (Some m) = refl
heard-joins p q None = refl

holds-read : (echo : Bool) (ports places p : ℕ) (m : Middle) (lines : ℕ → Line) (heard : Option Message) (bytes : List ℕ) → (is_there (lines p).stage && has_room m) ≡ true → Holds echo ports places m lines
    → Holds echo ports places (admitted (heard_as (session_of p) heard) m) (with_line p (record (lines p) { stage = stage_after heard (lines p).stage; read = (lines p).read ++ bytes }) lines)
holds-read echo ports places p m lines heard bytes may holds =
    let there : (lines p).stage ≡ There = there-not-away (lines p).stage (both-first (is_there (lines p).stage) (has_room m) may) in
    let line : Line = record (lines p) { stage = stage_after heard (lines p).stage; read = (lines p).read ++ bytes } in
    let before : is_away (lines p).stage ≡ false = ap is_away there in
    let after : is_away (stage_after heard (lines p).stage) ≡ false = ap (λ (s : Stage). is_away (stage_after heard s)) there ∙ heard-away heard in
    holds-admitted echo ports places p m lines (heard_as (session_of p) heard) line (has-port places p lines holds.past before)
    (heard-fits p (m.routed ++ m.waiting) heard) refl
    (λ q. ap (λ l. sessions_by q (lines q).stage ++ l) (heard-joins p q heard) ∙ append-nil _ ∙ sym (stages q line after before (q == p) refl)) holds
  where
    stages : (q : ℕ) (line : Line) → is_away line.stage ≡ false → is_away (lines p).stage ≡ false → (c : Bool) → (q == p) ≡ c → sessions_by q (if c then line else lines q).stage ≡ sessions_by q (lines q).stage
    stages q line after before true e =
        let here : q ≡ p = eqb-true q p e in
        ap (λ (b : Bool). if b then [] else session_of q ∷ []) (after ∙ sym before ∙ ap (λ (n : ℕ). is_away (lines n).stage) (sym here))
    stages q line after before false e = refl

-- Route
deeds-count : (deeds : List Deed) (routed : List Act) (items_so_far : ℕ) → items deeds ≡ routed → length routed ≡ items_so_far → length deeds ≡ items_so_far
deeds-count deeds routed n is count = sym (length-map deeds (λ d. d.item)) ∙ ap length is ∙ count

followed-route : (echo : Bool) (p : ℕ) (x : Act) (later : List Act) (m m' : Middle) (popped : List Put) → p < length m.table.ports → m.table.echo ≡ echo → length m.routed ≡ m.table.items → Fits m.routed x → Routes x later m m'
    → HasFollowed echo p m popped → HasFollowed echo p m' popped
followed-route echo p x later m m' popped placed echo_is count fits routes so_far =
    let happens : Happens m.table.echo p m.table.items x (port_at m.table.ports p) (queue_at m.queues p) (port_at m'.table.ports p) (queue_at m'.queues p) = routes.event.each p placed in
    let step : Steps echo p (length so_far.deeds) x happens.back (port_at m.table.ports p) (queue_at m.queues p).list (port_at m'.table.ports p) (queue_at m'.queues p).list =
    subst (λ (e : Bool). Steps e p (length so_far.deeds) x happens.back (port_at m.table.ports p) (queue_at m.queues p).list (port_at m'.table.ports p) (queue_at m'.queues p).list) echo_is
    (subst (λ (n : ℕ). Steps m.table.echo p n x happens.back (port_at m.table.ports p) (queue_at m.queues p).list (port_at m'.table.ports p) (queue_at m'.queues p).list) (sym (deeds-count so_far.deeds m.routed m.table.items so_far.routed count)) happens.step) in
    record {
      deeds = so_far.deeds ++ record { item = x; back = happens.back } ∷ [];
      routed = items-more so_far.deeds (record { item = x; back = happens.back }) ∙ ap (λ l. l ++ x ∷ []) so_far.routed ∙ sym (ap (λ (n : Middle). n.routed) routes.rest);
      follows = stepped so_far.deeds x happens.back (port_at m.table.ports p) (popped ++ (queue_at m.queues p).list) so_far.follows (subst (λ (l : List Act). Fits l x) (sym so_far.routed) fits) refl
          (steps-behind echo p (length so_far.deeds) x happens.back (port_at m.table.ports p) (port_at m'.table.ports p) popped (queue_at m.queues p).list (queue_at m'.queues p).list step);
    }

holds-routed : (echo : Bool) (ports places : ℕ) (m m' : Middle) (lines : ℕ → Line) (waiting : List Act) → waiting ≡ m.waiting → HasRouted waiting m m' → Holds echo ports places m lines → Holds echo ports places m' lines
holds-routed echo ports places m m' lines [] is same holds = subst (λ (n : Middle). Holds echo ports places n lines) (sym same) holds
holds-routed echo ports places m m' lines (x ∷ later) is routes holds =
    let fit : Fits m.routed x × Orderly (m.routed ++ x ∷ []) later = subst (Orderly m.routed) (sym is) holds.orderly in
    let routed : m'.routed ≡ m.routed ++ x ∷ [] = ap (λ (n : Middle). n.routed) routes.rest in
    let waits : m'.waiting ≡ later = ap (λ (n : Middle). n.waiting) routes.rest in
    record {
      echo_is = routes.event.echo ∙ holds.echo_is;
      rows = routes.event.count ∙ holds.rows;
      count = ap length routed ∙ length-append m.routed (x ∷ []) ∙ ap (λ n. n + 1) holds.count ∙ sym routes.event.items;
      orderly = subst (λ (l : List Act). Orderly l m'.waiting) (sym routed) (subst (Orderly (m.routed ++ x ∷ [])) (sym waits) fit.1);
      once = λ p. ap (λ l. joined p (l ++ m'.waiting)) routed ∙ ap (λ l. joined p ((m.routed ++ x ∷ []) ++ l)) waits ∙ ap (joined p) (append_assoc m.routed (x ∷ []) later) ∙ ap (λ l. joined p (m.routed ++ l)) is ∙ holds.once p;
      followed = λ p h. followed-route echo p x later m m' (lines p).popped (omega (arith, h, holds.rows)) holds.echo_is holds.count fit.0 routes (holds.followed p h);
      past = holds.past;
    }

-- Write
followed-retried : (echo : Bool) (q p : ℕ) (later : List Put) (m m' : Middle) (popped : List Put) (between : List Queue) → q < length m.table.ports → Pops p later m m' → m'.routed ≡ m.routed
    → (deeds : List Deed) → items deeds ≡ m.routed → Follows echo q deeds (port_at m.table.ports q) (popped ++ (queue_at between q).list) → Tries (port_at m.table.ports q) (queue_at between q) (port_at m'.table.ports q) (queue_at m'.queues q)
    → HasFollowed echo q m' popped
followed-retried echo q p later m m' popped between placed pops routed deeds is follows tries = record {
  deeds = deeds;
  routed = is ∙ sym routed;
  follows = retried tries.back (port_at m.table.ports q) (popped ++ (queue_at between q).list) follows
      (retries-behind tries.back (port_at m.table.ports q) (port_at m'.table.ports q) popped (queue_at between q).list (queue_at m'.queues q).list tries.again);
}

followed-pops : (echo : Bool) (p q : ℕ) (put : Put) (later : List Put) (m m' : Middle) (lines : ℕ → Line) → q < length m.table.ports → (queue_at m.queues p).list ≡ put ∷ later → Pops p later m m' → HasFollowed echo q m (lines q).popped
    → HasFollowed echo q m' (with_line p (pop_more put (lines p)) lines q).popped
followed-pops echo p q put later m m' lines placed queue pops so_far = pick (q == p) refl
  where
    routed : m'.routed ≡ m.routed
    routed = ap (λ (n : Middle). n.routed) pops.rest

    on : (popped : List Put) → Follows echo q so_far.deeds (port_at m.table.ports q) (popped ++ (queue_at pops.between q).list) → HasFollowed echo q m' popped
    on popped follows = followed-retried echo q p later m m' popped pops.between placed pops routed so_far.deeds so_far.routed follows (pops.again.each q placed)

    pick : (c : Bool) → (q == p) ≡ c → HasFollowed echo q m' (if c then pop_more put (lines p) else lines q).popped
    pick true e =
        let here : q ≡ p = eqb-true q p e in
        let taken : (queue_at pops.between q).list ≡ later = ap (λ (n : ℕ). (queue_at pops.between n).list) here ∙ ap (λ (w : Queue). w.list) pops.taken in
        let was : (lines q).popped ++ (queue_at m.queues q).list ≡ ((lines p).popped ++ put ∷ []) ++ (queue_at pops.between q).list =
        ap (λ (n : ℕ). (lines n).popped ++ (queue_at m.queues n).list) here ∙ ap (λ l. (lines p).popped ++ l) queue ∙ sym (append_assoc (lines p).popped (put ∷ []) later) ∙ ap (λ l. ((lines p).popped ++ put ∷ []) ++ l) (sym taken) in
        on ((lines p).popped ++ put ∷ []) (subst (Follows echo q so_far.deeds (port_at m.table.ports q)) was so_far.follows)
    pick false e =
        let other : q ≡ p → ⊥ = λ eq. no-clash (eq-eqb q p eq) e in
        let stays : (queue_at m.queues q).list ≡ (queue_at pops.between q).list = sym (ap (λ (w : Queue). w.list) (pops.others q other)) in
        on (lines q).popped (subst (Follows echo q so_far.deeds (port_at m.table.ports q)) (ap (λ l. (lines q).popped ++ l) stays) so_far.follows)

popped-stages : (p q : ℕ) (put : Put) (lines : ℕ → Line) → sessions_by q (lines q).stage ≡ sessions_by q (with_line p (pop_more put (lines p)) lines q).stage
popped-stages p q put lines = pick (q == p) refl
  where
    pick : (c : Bool) → (q == p) ≡ c → sessions_by q (lines q).stage ≡ sessions_by q (if c then pop_more put (lines p) else lines q).stage
    pick true e = ap (λ (n : ℕ). sessions_by q (lines n).stage) (eqb-true q p e)
    pick false e = refl

holds-popped : (echo : Bool) (ports places p : ℕ) (m m' : Middle) (lines : ℕ → Line) (put : Put) (later : List Put) → is_away (lines p).stage ≡ false → (queue_at m.queues p).list ≡ put ∷ later → Pops p later m m' → Holds echo ports places m lines
    → Holds echo ports places m' (with_line p (pop_more put (lines p)) lines)
holds-popped echo ports places p m m' lines put later there queue pops holds =
    let routed : m'.routed ≡ m.routed = ap (λ (n : Middle). n.routed) pops.rest in
    let waits : m'.waiting ≡ m.waiting = ap (λ (n : Middle). n.waiting) pops.rest in
    record {
      echo_is = pops.again.echo ∙ holds.echo_is;
      rows = pops.again.count ∙ holds.rows;
      count = ap length routed ∙ holds.count ∙ sym pops.again.items;
      orderly = subst (λ (l : List Act). Orderly l m'.waiting) (sym routed) (subst (Orderly m.routed) (sym waits) holds.orderly);
      once = λ q. ap (λ l. joined q (l ++ m'.waiting)) routed ∙ ap (λ l. joined q (m.routed ++ l)) waits ∙ holds.once q ∙ popped-stages p q put lines;
      followed = λ q h. followed-pops echo p q put later m m' lines (omega (arith, h, holds.rows)) queue pops (holds.followed q h);
      past = λ q h. still-past places p q (pop_more put (lines p)) lines (has-port places p lines holds.past there) h (holds.past q h);
    }

-- any turn
abbrev pub HoldsAt : Bool → ℕ → ℕ → Switch → Type 0
HoldsAt echo ports places s = Holds echo ports places s.middle s.lines

holds-open : (echo : Bool) (ports places p : ℕ) (old new : Switch) (c : Bool) → may_open places p old ≡ c → new ≡ (if c then opened p old else old) → HoldsAt echo ports places old → HoldsAt echo ports places new
holds-open echo ports places p old new true may is holds = subst (HoldsAt echo ports places) (sym is) (holds-opened echo ports places p old.middle old.lines may holds)
holds-open echo ports places p old new false may is holds = subst (HoldsAt echo ports places) (sym is) holds

holds-hear : (echo : Bool) (ports places p : ℕ) (old new : Switch) (c : Bool) → may_read p old ≡ c → MatchBool c (HasRead p old new) (new ≡ old) → HoldsAt echo ports places old → HoldsAt echo ports places new
holds-hear echo ports places p old new true may h holds = subst (HoldsAt echo ports places) (sym h.now) (holds-read echo ports places p old.middle old.lines h.heard h.bytes may holds)
holds-hear echo ports places p old new false may is holds = subst (HoldsAt echo ports places) (sym is) holds

not-not : (b : Bool) → not b ≡ true → b ≡ false
not-not true e = absurd cc
not-not false e = refl

holds-written : (echo : Bool) (ports places p : ℕ) (old new : Switch) (queue : List Put) → is_away (old.lines p).stage ≡ false → (queue_at old.middle.queues p).list ≡ queue → HasWritten p queue old new → HoldsAt echo ports places old
    → HoldsAt echo ports places new
holds-written echo ports places p old new [] there is same holds = subst (HoldsAt echo ports places) (sym same) holds
holds-written echo ports places p old new (put ∷ later) there is writes holds =
    subst (Holds echo ports places new.middle) (sym writes.1) (holds-popped echo ports places p old.middle new.middle old.lines put later there is writes.0 holds)

holds-write : (echo : Bool) (ports places p : ℕ) (old new : Switch) (c : Bool) → may_write p old ≡ c → MatchBool c (HasWritten p (queue_at old.middle.queues p).list old new) (new ≡ old) → HoldsAt echo ports places old → HoldsAt echo ports places new
holds-write echo ports places p old new true may writes holds = holds-written echo ports places p old new (queue_at old.middle.queues p).list (not-not (is_away (old.lines p).stage) may) refl writes holds
holds-write echo ports places p old new false may is holds = subst (HoldsAt echo ports places) (sym is) holds

holds-turned : (echo : Bool) (ports places : ℕ) (turn : Turn) (old new : Switch) → Turned places turn old new → HoldsAt echo ports places old → HoldsAt echo ports places new
holds-turned echo ports places (Open p) old new turned holds = holds-open echo ports places p old new (may_open places p old) refl turned holds
holds-turned echo ports places (Read p) old new turned holds = holds-hear echo ports places p old new (may_read p old) refl turned holds
holds-turned echo ports places Route old new turned holds = subst (Holds echo ports places new.middle) (sym turned.1) (holds-routed echo ports places old.middle new.middle old.lines old.middle.waiting refl turned.0 holds)
holds-turned echo ports places (Write p) old new turned holds = holds-write echo ports places p old new (may_write p old) refl turned holds

-- all turns
pub ran-holds : (echo : Bool) (ports places : ℕ) (start now : Switch) (turns : List Turn) → Ran places start turns now → HoldsAt echo ports places start → HoldsAt echo ports places now
ran-holds echo ports places start now turns (begun none is) holds = subst (HoldsAt echo ports places) (sym is) holds
ran-holds echo ports places start now turns (went_on before turn old earlier all turned) holds = holds-turned echo ports places turn old now turned (ran-holds echo ports places start old before earlier holds)
