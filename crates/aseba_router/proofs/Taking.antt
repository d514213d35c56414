-- Turns, from what was done to the links and to the middle.
use Rattle.std.proofs.Common.{◌≡◌, ◌∙◌, ◌⊎◌, inl, inr, ℕ, zero, suc, ◌+◌, ◌<◌, ◌≤◌, Bool, true, false, ◌&&◌, not, nat_lt, if◌then◌else◌, List, [], ◌∷◌, ◌++◌, length, set, get_or, Option, None, Some, MatchBool, refl, sym, ap, subst, arith, length-set}
use Rattle.std.specs.List.{AllByRecursion}
use Rattle.std.proofs.lemmas.Bool.{cases_lt, ltb-true, lt-ltb}
use Rattle.aseba_message.specs.Message.{Message}
use Rattle.aseba_edge.specs.Link.{Input}
use Rattle.aseba_router.specs.declared.stage.Stage.{Stage}
use Rattle.aseba_router.specs.declared.stage.Stage.TheVariants.{Away, There, Gone}
use Rattle.aseba_router.specs.declared.turn.Turn.{Turn}
use Rattle.aseba_router.specs.declared.turn.Turn.TheVariants.{Open, Read, Route, Write}
use Rattle.aseba_router.specs.Ends.{Ends, IsHeard, WireState, WireHeard}
use Rattle.aseba_router.specs.Hub.{Act, joins, Put}
use Rattle.aseba_router.specs.Memory.{queue_at}
use Rattle.aseba_router.specs.Middle.{IsSound, PopDone}
use Rattle.aseba_router.specs.Routed.{port_of}
use Rattle.aseba_router.specs.Taken.{AllLines, IsLine, TookAt, TookTurn, ends_at, switch, wire_at}
use Rattle.aseba_router.specs.Turns.{AreHeard, HasRead, HasRouted, HasWritten, Line, Middle, Turned, admitted, has_room, heard_as, is_away, is_there, may_open, may_read, may_write, opened, pop_more, session_of, stage_after, with_line}
use Rattle.aseba_router.proofs.LinkLines.{line-heard, line-opened, line-took, lines-set, no-clash}

-- a test of a link is one of what became of it
tested : (test : Stage → Bool) (room : Bool) (places p : ℕ) (before : List Ends) (wires : List WireState) (lines : ℕ → Line) → places ≤ length wires → test Away ≡ false → AllLines places before wires lines
    → (test (lines p).stage && room) ≡ (nat_lt p places && test (wire_at wires p).stage && room)
tested test room places p before wires lines fits away all = pick (nat_lt p places) refl
  where
    past : (p places : ℕ) → nat_lt p places ≡ false → places ≤ p
    past p places e = by_order (cases_lt p places)
      where
        by_order : (p < places) ⊎ (places ≤ p) → places ≤ p
        by_order (inl h) = absurd (no-clash (lt-ltb p places h) e)
        by_order (inr h) = h

    pick : (c : Bool) → nat_lt p places ≡ c → (test (lines p).stage && room) ≡ (c && test (wire_at wires p).stage && room)
    pick true e = ap (λ (s : Stage). test s && room) (sym (all.each p (omega (arith, ltb-true p places e, fits))).stage)
    pick false e = ap (λ (s : Stage). test s && room) (all.others p (past p places e)) ∙ ap (λ (b : Bool). b && room) away

opens-if : (room : Bool) (places p : ℕ) (before : List Ends) (wires : List WireState) (lines : ℕ → Line) → places ≤ length wires → AllLines places before wires lines
    → (nat_lt p places && is_away (lines p).stage && room) ≡ (nat_lt p places && is_away (wire_at wires p).stage && room)
opens-if room places p before wires lines fits all = pick (nat_lt p places) refl
  where
    pick : (c : Bool) → nat_lt p places ≡ c → (c && is_away (lines p).stage && room) ≡ (c && is_away (wire_at wires p).stage && room)
    pick true e = ap (λ (s : Stage). is_away s && room) (sym (all.each p (omega (arith, ltb-true p places e, fits))).stage)
    pick false e = refl

both-first : (a b : Bool) → (a && b) ≡ true → a ≡ true
both-first true b e = refl
both-first false b e = absurd cc

both-second : (a b : Bool) → (a && b) ≡ true → b ≡ true
both-second true b e = e
both-second false b e = absurd cc

is-away : (s : Stage) → is_away s ≡ true → s ≡ Away
is-away Away e = refl
is-away There e = absurd cc
is-away Gone e = absurd cc

is-there : (s : Stage) → is_there s ≡ true → s ≡ There
is-there Away e = absurd cc
is-there There e = refl
is-there Gone e = absurd cc

-- a turn that changes nothing
stays : (places : ℕ) (turn : Turn) (m : Middle) (wires : List WireState) → ((before : List Ends) (lines : ℕ → Line) → AllLines places before wires lines → Turned places turn (switch m lines) (switch m lines)) → TookTurn places turn m wires m wires
stays places turn m wires turned = record {
  turned = λ before lines all. (lines, turned before lines all, all);
  sound = λ n h sound. sound;
  few = omega arith;
  count = refl;
}

-- one item more waits
all-end : (n : ℕ) (x : Act) (waiting : List Act) → AllByRecursion (λ y. port_of y < n) waiting → port_of x < n → AllByRecursion (λ y. port_of y < n) (waiting ++ x ∷ [])
all-end n x [] all fits = (fits, tt)
all-end n x (y ∷ waiting) all fits = (all.0, all-end n x waiting all.1 fits)

sound-admitted : (n : ℕ) (x : Act) (m : Middle) → port_of x < n → IsSound n m → IsSound n (admitted x m)
sound-admitted n x m fits sound = record { count = sound.count; queues = sound.queues; there = all-end n x m.waiting sound.there fits; roomy = sound.roomy }

-- a link and its wire
wire-is : (wires : List WireState) (i p : ℕ) (default : WireState) → i ≡ p → p < length wires → get_or wires i default ≡ wire_at wires p
wire-is [] i p default same within = absurd (omega (arith, within))
wire-is (w ∷ wires) i zero default same within = ap (λ n. get_or (w ∷ wires) n default) same
wire-is (w ∷ wires) i (suc p) default same within = ap (λ n. get_or (w ∷ wires) n default) same ∙ wire-is wires p p default refl (omega (arith, within))

-- Open
pub open-stays : (places p : ℕ) (m : Middle) (wires : List WireState) → places ≤ length wires → (nat_lt p places && is_away (wire_at wires p).stage && has_room m) ≡ false → TookTurn places (Open p) m wires m wires
open-stays places p m wires fits may_not =
    stays places (Open p) m wires
    (λ before lines all.
    let none : may_open places p (switch m lines) ≡ false = opens-if (has_room m) places p before wires lines fits all ∙ may_not in
    sym (ap (λ (b : Bool). if b then opened p (switch m lines) else switch m lines) none))

pub open-opens : (places p i : ℕ) (m m' : Middle) (wires : List WireState) (default wire : WireState) → places ≤ length wires → (nat_lt p places && is_away (wire_at wires p).stage && has_room m) ≡ true → i ≡ p
    → m' ≡ admitted (joins (session_of p)) m → wire ≡ record (get_or wires i default) { stage = There } → TookTurn places (Open p) m wires m' (set wires i wire)
open-opens places p i m m' wires default wire fits may_be same admits opens =
    let placed : p < places = ltb-true p places (both-first (nat_lt p places) _ (both-first (nat_lt p places && is_away (wire_at wires p).stage) (has_room m) may_be)) in
    let within : p < length wires = omega (arith, placed, fits) in
    let away : is_away (wire_at wires p).stage ≡ true = both-second (nat_lt p places) _ (both-first (nat_lt p places && is_away (wire_at wires p).stage) (has_room m) may_be) in
    let now : wire ≡ record (wire_at wires p) { stage = There } = opens ∙ ap (λ (w : WireState). record w { stage = There }) (wire-is wires i p default same within) in
    record {
      turned = λ before lines all.
          let is = all.each p within in
          let line_away : (lines p).stage ≡ Away = sym is.stage ∙ is-away (wire_at wires p).stage away in
          let may : may_open places p (switch m lines) ≡ true = opens-if (has_room m) places p before wires lines fits all ∙ may_be in (
            with_line p (record (lines p) { stage = There }) lines,
            ap (λ (n : Middle). switch n (with_line p (record (lines p) { stage = There }) lines)) admits ∙ sym (ap (λ (b : Bool). if b then opened p (switch m lines) else switch m lines) may),
            subst (λ (n : ℕ). AllLines places before (set wires n wire) (with_line p (record (lines p) { stage = There }) lines)) (sym same)
                (lines-set places p before wires lines wire (record (lines p) { stage = There }) placed within all
                (subst (λ (w : WireState). IsLine (ends_at before p) w (record (lines p) { stage = There })) (sym now) (line-opened (ends_at before p) (wire_at wires p) (lines p) is line_away))),
          );
      sound = λ n h sound. subst (IsSound n) (sym admits) (sound-admitted n (joins (session_of p)) m (omega (arith, h, placed)) sound);
      few = omega (arith, ap (λ (n : Middle). n.table.items) admits);
      count = length-set wires i wire;
    }

-- Read
pub read-stays : (places p : ℕ) (m : Middle) (wires : List WireState) → places ≤ length wires → (nat_lt p places && is_there (wire_at wires p).stage && has_room m) ≡ false → TookTurn places (Read p) m wires m wires
read-stays places p m wires fits may_not =
    stays places (Read p) m wires
    (λ before lines all.
    let none : may_read p (switch m lines) ≡ false = tested is_there (has_room m) places p before wires lines fits refl all ∙ may_not in
    subst (λ (b : Bool). MatchBool b (HasRead p (switch m lines) (switch m lines)) (switch m lines ≡ switch m lines)) (sym none) refl)

are-heard : (heard : Option Message) (failed : Bool) (bytes : List ℕ) (input : Option (Input (List ℕ))) → IsHeard heard failed bytes input → AreHeard heard bytes
are-heard (Some m) failed bytes input what = what.1
are-heard None failed bytes input what = what.0

heard-port : (p : ℕ) (heard : Option Message) → port_of (heard_as (session_of p) heard) ≡ p
heard-port p (Some m) = refl
heard-port p None = refl

pub read-reads : (places p i : ℕ) (m m' : Middle) (wires : List WireState) (default wire : WireState) (heard : Option Message) → places ≤ length wires → (nat_lt p places && is_there (wire_at wires p).stage && has_room m) ≡ true → i ≡ p
    → m' ≡ admitted (heard_as (session_of p) heard) m → WireHeard heard (get_or wires i default) wire → TookTurn places (Read p) m wires m' (set wires i wire)
read-reads places p i m m' wires default wire heard fits may_be same admits hears =
    let placed : p < places = ltb-true p places (both-first (nat_lt p places) _ (both-first (nat_lt p places && is_there (wire_at wires p).stage) (has_room m) may_be)) in
    let within : p < length wires = omega (arith, placed, fits) in
    let there : is_there (wire_at wires p).stage ≡ true = both-second (nat_lt p places) _ (both-first (nat_lt p places && is_there (wire_at wires p).stage) (has_room m) may_be) in
    let h : WireHeard heard (wire_at wires p) wire = subst (λ (w : WireState). WireHeard heard w wire) (wire-is wires i p default same within) hears in
    record {
      turned = λ before lines all.
          let is = all.each p within in
          let line_there : (lines p).stage ≡ There = sym is.stage ∙ is-there (wire_at wires p).stage there in
          let line' : Line = record (lines p) { stage = stage_after heard (lines p).stage; read = (lines p).read ++ h.read.bytes } in
          let may : may_read p (switch m lines) ≡ true = tested is_there (has_room m) places p before wires lines fits refl all ∙ may_be in (
            with_line p line' lines,
            subst (λ (b : Bool). MatchBool b (HasRead p (switch m lines) (switch m' (with_line p line' lines))) (switch m' (with_line p line' lines) ≡ switch m lines)) (sym may)
                (record { bytes = h.read.bytes; heard = heard; are_heard = are-heard heard h.read.failed h.read.bytes wire.ends.input h.read.what; now = ap (λ (n : Middle). switch n (with_line p line' lines)) admits }),
            subst (λ (n : ℕ). AllLines places before (set wires n wire) (with_line p line' lines)) (sym same)
                (lines-set places p before wires lines wire line' placed within all (line-heard (ends_at before p) (wire_at wires p) wire (lines p) heard is line_there h)),
          );
      sound = λ n hn sound. subst (IsSound n) (sym admits) (sound-admitted n (heard_as (session_of p) heard) m (omega (arith, hn, placed, heard-port p heard)) sound);
      few = omega (arith, ap (λ (n : Middle). n.table.items) admits);
      count = length-set wires i wire;
    }

-- Write
turned-not : (b : Bool) → (not b && true) ≡ not b
turned-not true = refl
turned-not false = refl

may-write : (places p : ℕ) (m : Middle) (before : List Ends) (wires : List WireState) (lines : ℕ → Line) → places ≤ length wires → AllLines places before wires lines
    → may_write p (switch m lines) ≡ (nat_lt p places && not (is_away (wire_at wires p).stage))
may-write places p m before wires lines fits all =
    sym (and-true (not (is_away (lines p).stage))) ∙ tested (λ s. not (is_away s)) true places p before wires lines fits refl all ∙ and-true (nat_lt p places && not (is_away (wire_at wires p).stage))
  where
    and-true : (b : Bool) → (b && true) ≡ b
    and-true true = refl
    and-true false = refl

pub write-stays : (places p : ℕ) (m : Middle) (wires : List WireState) → places ≤ length wires → (nat_lt p places && not (is_away (wire_at wires p).stage)) ≡ false → TookTurn places (Write p) m wires m wires
write-stays places p m wires fits may_not =
    stays places (Write p) m wires
    (λ before lines all.
    let none : may_write p (switch m lines) ≡ false = may-write places p m before wires lines fits all ∙ may_not in
    subst (λ (b : Bool). MatchBool b (HasWritten p (queue_at m.queues p).list (switch m lines) (switch m lines)) (switch m lines ≡ switch m lines)) (sym none) refl)

pub write-empty : (places p : ℕ) (m m' : Middle) (wires : List WireState) → places ≤ length wires → (nat_lt p places && not (is_away (wire_at wires p).stage)) ≡ true → PopDone p None m m' → TookTurn places (Write p) m wires m' wires
write-empty places p m m' wires fits may_be done =
    subst (λ (n : Middle). TookTurn places (Write p) m wires n wires) (sym done.1)
    (stays places (Write p) m wires
    (λ before lines all.
    let may : may_write p (switch m lines) ≡ true = may-write places p m before wires lines fits all ∙ may_be in
    subst (λ (b : Bool). MatchBool b (HasWritten p (queue_at m.queues p).list (switch m lines) (switch m lines)) (switch m lines ≡ switch m lines)) (sym may)
    (subst (λ (l : List Put). HasWritten p l (switch m lines) (switch m lines)) (sym done.0) refl)))

pub write-writes : (places p : ℕ) (m m' : Middle) (wires wires' : List WireState) (put : Put) → places ≤ length wires → (nat_lt p places && not (is_away (wire_at wires p).stage)) ≡ true → PopDone p (Some put) m m'
    → ((n : ℕ) → IsSound n m → IsSound n m') → TookAt p put wires wires' → TookTurn places (Write p) m wires m' wires'
write-writes places p m m' wires wires' put fits may_be done sound took =
    let placed : p < places = ltb-true p places (both-first (nat_lt p places) _ may_be) in
    let within : p < length wires = omega (arith, placed, fits) in
    record {
      turned = λ before lines all.
          let line' : Line = pop_more put (lines p) in
          let may : may_write p (switch m lines) ≡ true = may-write places p m before wires lines fits all ∙ may_be in (
            with_line p line' lines,
            subst (λ (b : Bool). MatchBool b (HasWritten p (queue_at m.queues p).list (switch m lines) (switch m' (with_line p line' lines))) (switch m' (with_line p line' lines) ≡ switch m lines)) (sym may)
                (subst (λ (l : List Put). HasWritten p l (switch m lines) (switch m' (with_line p line' lines))) (sym done.1) (done.2, refl)),
            subst (λ (ws : List WireState). AllLines places before ws (with_line p line' lines)) (sym took.rest)
                (lines-set places p before wires lines took.wire line' placed within all (line-took (ends_at before p) (wire_at wires p) took.wire (lines p) put (all.each p within) took.took)),
          );
      sound = λ n h s. sound n s;
      few = omega (arith, ap (λ (n : Middle). n.table.items) done.2.rest, done.2.again.items);
      count = ap length took.rest ∙ length-set wires p took.wire;
    }

-- Route
routed-few : (waiting : List Act) (m m' : Middle) → HasRouted waiting m m' → m'.table.items ≤ m.table.items + 1
routed-few [] m m' same = omega (arith, ap (λ (n : Middle). n.table.items) same)
routed-few (x ∷ later) m m' routes = omega (arith, routes.event.items)

pub route-routes : (places : ℕ) (m m' : Middle) (wires : List WireState) → HasRouted m.waiting m m' → ((n : ℕ) → IsSound n m → IsSound n m') → TookTurn places Route m wires m' wires
route-routes places m m' wires routed sound = record {
  turned = λ before lines all. (lines, (routed, refl), all);
  sound = λ n h s. sound n s;
  few = routed-few m.waiting m m' routed;
  count = refl;
}
