-- What the laws come to where nothing comes back, and what is missed where something does.
use Rattle.std.proofs.Common.{◌≡◌, ◌∙◌, ℕ, ◌+◌, Bool, true, false, ◌&&◌, if◌then◌else◌, List, [], ◌∷◌, ◌++◌, length, map, take, drop, Option, None, Some, refl, sym, ap, subst, arith, append-nil, length-append, take-append-drop}
use Rattle.std.proofs.lemmas.List.{append_assoc, nil_from_length, length-map}
use Rattle.std.specs.List.{flat_map, AllByRecursion}
use Rattle.aseba_message.specs.Message.{Message}
use Rattle.aseba_router.specs.declared.session.Session.{Session}
use Rattle.aseba_router.specs.Hub.{Act, Put, frame, end, in_after, heard_if, inside_from, inside, since_from, since, owed}
use Rattle.aseba_router.specs.Port.{Port, asks, ends, Given}
use Rattle.aseba_router.specs.Told.{Deed, items, refused_from, refused, joined, share, whole_share, Follows, nothing, stepped, retried}
use Rattle.aseba_router.proofs.Shares.{closing}
use Rattle.aseba_router.proofs.ToldLaw.{told-law}

never-refused : (s : Session) (b : Bool) (place : ℕ) (deeds : List Deed) → AllByRecursion (λ d. d.back ≡ false) deeds → refused_from s b place deeds ≡ None
never-refused s b place [] all = refl
never-refused s b place (d ∷ later) all =
    ap (λ (c : Bool). if b && c then Some place else refused_from s (in_after s b d.item) (place + 1) later) all.0
    ∙ pick b (refused_from s (in_after s b d.item) (place + 1) later)
    ∙ never-refused s (in_after s b d.item) (place + 1) later all.1
  where
    pick : (c : Bool) (rest : Option ℕ) → (if c && false then Some place else rest) ≡ rest
    pick true rest = refl
    pick false rest = refl

-- where nothing comes back, a session is owed all that was said since it joined
pub owed-all : (echo : Bool) (s : Session) (deeds : List Deed) → AllByRecursion (λ d. d.back ≡ false) deeds → owed echo s (refused s deeds) (items deeds) ≡ since echo s (items deeds)
owed-all echo s deeds all = ap (λ r. owed echo s r (items deeds)) (never-refused s false 0 deeds all)

since_from-append : (echo : Bool) (s : Session) (b : Bool) (front back : List Act) → since_from echo s b (front ++ back) ≡ since_from echo s b front ++ since_from echo s (inside_from s b front) back
since_from-append echo s b [] back = refl
since_from-append echo s b (x ∷ front) back =
    ap (λ l. heard_if b echo s x ++ l) (since_from-append echo s (in_after s b x) front back)
    ∙ sym (append_assoc (heard_if b echo s x) (since_from echo s (in_after s b x) front) (since_from echo s (inside_from s (in_after s b x) front) back))

-- what a session is owed is the front of what was said since it joined
pub owed-front : (echo : Bool) (s : Session) (place : Option ℕ) (acts : List Act) → (missed : List Message) × (since echo s acts ≡ owed echo s place acts ++ missed)
owed-front echo s None acts = ([], sym (append-nil _))
owed-front echo s (Some place) acts = (
  since_from echo s (inside_from s false (take place acts)) (drop place acts),
  ap (since echo s) (sym (take-append-drop place acts)) ∙ since_from-append echo s false (take place acts) (drop place acts),
)

-- all but the last of a list, and the last
all-front : (P : Deed → Type 0) (front : List Deed) (d : Deed) → AllByRecursion P (front ++ d ∷ []) → AllByRecursion P front × P d
all-front P [] d all = (tt, all.0)
all-front P (e ∷ front) d all = let rest = all-front P front d all.1 in ((all.0, rest.0), rest.1)

given-none : (asked : Option Put) (back : Bool) (list list' : List Put) (waiting waiting' : List Session) → back ≡ false → waiting ≡ [] → Given asked back list waiting list' waiting' → waiting' ≡ []
given-none None back list list' waiting waiting' no_back no_wait g = g.2 ∙ no_wait
given-none (Some put) false list list' waiting waiting' no_back no_wait g = g.1
given-none (Some put) true list list' waiting waiting' no_back no_wait g = absurd cc

-- where nothing comes back, no End waits
pub none-waits : (echo : Bool) (p : ℕ) (deeds : List Deed) (port : Port) (list : List Put) → Follows echo p deeds port list → AllByRecursion (λ d. d.back ≡ false) deeds → port.waiting ≡ []
none-waits echo p deeds port list (nothing no_deeds no_row no_list) all = ap (λ (r : Port). r.waiting) no_row
none-waits echo p deeds port list (stepped before item back old list_before earlier fits deeds_are step) all =
    let split = all-front (λ d. d.back ≡ false) before (record { item = item; back = back }) (subst (AllByRecursion (λ d. d.back ≡ false)) deeds_are all) in
    given-none (asks echo p old item) back list_before list old.waiting port.waiting split.1 (none-waits echo p before old list_before earlier split.0) step.given
none-waits echo p deeds port list (retried back old list_before earlier again) all =
    let no_wait : old.waiting ≡ [] = none-waits echo p deeds old list_before earlier all in
    let lengths : length list + length port.waiting ≡ length list_before + length old.waiting =
    omega (arith, ap length again.given, length-append list (ends port.waiting), length-append list_before (ends old.waiting), length-map port.waiting end, length-map old.waiting end) in
    nil_from_length port.waiting (omega (arith, lengths, again.grew, ap length no_wait))

shares-whole : (echo : Bool) (deeds : List Deed) (sessions : List Session) → AllByRecursion (λ d. d.back ≡ false) deeds → flat_map (share echo deeds) sessions ≡ flat_map (whole_share echo (items deeds)) sessions
shares-whole echo deeds [] all = refl
shares-whole echo deeds (s ∷ later) all =
    ap (λ l. (map frame l ++ closing (inside s (items deeds)) s) ++ flat_map (share echo deeds) later) (owed-all echo s deeds all)
    ∙ ap (λ l. whole_share echo (items deeds) s ++ l) (shares-whole echo deeds later all)

-- where nothing comes back, a port's list is what was said since each of its sessions joined, one behind the other
pub whole-law : (echo : Bool) (p : ℕ) (deeds : List Deed) (port : Port) (list : List Put) → Follows echo p deeds port list → AllByRecursion (λ d. d.back ≡ false) deeds
    → list ≡ flat_map (whole_share echo (items deeds)) (joined p (items deeds))
whole-law echo p deeds port list follows all =
    sym (append-nil list) ∙ ap (λ w. list ++ ends w) (sym (none-waits echo p deeds port list follows all)) ∙ told-law echo p deeds port list follows
    ∙ shares-whole echo deeds (joined p (items deeds)) all
