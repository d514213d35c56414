-- What one item more changes.
use Rattle.std.proofs.Common.{◌≡◌, ◌∙◌, ℕ, ◌+◌, ◌<◌, ◌==◌, Bool, true, false, ◌&&◌, not, if◌then◌else◌, List, [], ◌∷◌, ◌++◌, length, take, Option, None, Some, refl, sym, ap, arith, append-nil}
use Rattle.std.proofs.lemmas.List.{append_assoc, map-append, length-map, take-append-le, take_at}
use Rattle.aseba_message.specs.Message.{Message}
use Rattle.aseba_router.specs.declared.session.Session.{Session}
use Rattle.aseba_router.specs.Hub.{Act, joins, says, leaves, in_after, heard, heard_if, inside_from, inside, since_from, since, owed}
use Rattle.aseba_router.specs.Told.{Deed, items, refused_from, refused, joined}

pub inside_from-more : (s : Session) (b : Bool) (before : List Act) (x : Act) → inside_from s b (before ++ x ∷ []) ≡ in_after s (inside_from s b before) x
inside_from-more s b [] x = refl
inside_from-more s b (y ∷ before) x = inside_from-more s (in_after s b y) before x

pub since_from-more : (echo : Bool) (s : Session) (b : Bool) (before : List Act) (x : Act) → since_from echo s b (before ++ x ∷ []) ≡ since_from echo s b before ++ heard_if (inside_from s b before) echo s x
since_from-more echo s b [] x = append-nil (heard_if b echo s x)
since_from-more echo s b (y ∷ before) x =
    ap (λ l. heard_if b echo s y ++ l) (since_from-more echo s (in_after s b y) before x)
    ∙ sym (append_assoc (heard_if b echo s y) (since_from echo s (in_after s b y) before) (heard_if (inside_from s (in_after s b y) before) echo s x))

-- the first of two
abbrev pub either : Option ℕ → Option ℕ → Option ℕ
either None other = other
either (Some place) other = Some place

abbrev pub here : Bool → ℕ → Option ℕ
here b place = if b then Some place else None

pub items-more : (before : List Deed) (d : Deed) → items (before ++ d ∷ []) ≡ items before ++ d.item ∷ []
items-more before d = map-append (λ d. d.item) before (d ∷ [])

pub refused_from-more : (s : Session) (b : Bool) (place : ℕ) (before : List Deed) (d : Deed) →
    refused_from s b place (before ++ d ∷ []) ≡ either (refused_from s b place before) (here (inside_from s b (items before) && d.back) (place + length before))
refused_from-more s b place [] d = pick (b && d.back)
  where
    pick : (c : Bool) → (if c then Some place else None) ≡ here c (place + 0)
    pick true = let e : place ≡ place + 0 = omega arith in ap Some e
    pick false = refl
refused_from-more s b place (e ∷ before) d =
    let same_place : place + 1 + length before ≡ place + length (e ∷ before) = omega arith in
    pick (b && e.back)
    (refused_from-more s (in_after s b e.item) (place + 1) before d
    ∙ ap (λ n. either (refused_from s (in_after s b e.item) (place + 1) before) (here (inside_from s (in_after s b e.item) (items before) && d.back) n)) same_place)
  where
    pick : (c : Bool) → refused_from s (in_after s b e.item) (place + 1) (before ++ d ∷ [])
        ≡ either (refused_from s (in_after s b e.item) (place + 1) before) (here (inside_from s (in_after s b e.item) (items before) && d.back) (place + length (e ∷ before)))
        → (if c then Some place else refused_from s (in_after s b e.item) (place + 1) (before ++ d ∷ []))
        ≡ either (if c then Some place else refused_from s (in_after s b e.item) (place + 1) before)
        (here (inside_from s (in_after s b e.item) (items before) && d.back) (place + length (e ∷ before)))
    pick true h = refl
    pick false h = h

-- a push that came back did so at one of the items
pub refused_from-below : (s : Session) (b : Bool) (place first : ℕ) (deeds : List Deed) → refused_from s b place deeds ≡ Some first → first < place + length deeds
refused_from-below s b place first [] h = absurd cc
refused_from-below s b place first (d ∷ later) h = pick (b && d.back) (refused_from-below s (in_after s b d.item) (place + 1) first later) h
  where
    pick : (c : Bool) → (refused_from s (in_after s b d.item) (place + 1) later ≡ Some first → first < place + 1 + length later)
        → (if c then Some place else refused_from s (in_after s b d.item) (place + 1) later) ≡ Some first → first < place + length (d ∷ later)
    pick true below e = let at : place ≡ first = cc in omega arith
    pick false below e = omega (arith, below e)

pub joined-more : (p : ℕ) (before : List Act) (x : Act) → joined p (before ++ x ∷ []) ≡ joined p before ++ joined p (x ∷ [])
joined-more p [] x = refl
joined-more p (joins s ∷ before) x = pick (s.port == p) (joined-more p before x)
  where
    pick : (c : Bool) → joined p (before ++ x ∷ []) ≡ joined p before ++ joined p (x ∷ []) → (if c then s ∷ joined p (before ++ x ∷ []) else joined p (before ++ x ∷ [])) ≡ (if c then s ∷ joined p before else joined p before) ++ joined p (x ∷ [])
    pick true h = ap (λ l. s ∷ l) h
    pick false h = h
joined-more p (says s f ∷ before) x = joined-more p before x
joined-more p (leaves s ∷ before) x = joined-more p before x

-- what a session is owed more by one item
abbrev pub gained : Bool → Session → Option ℕ → Bool → Deed → List Message
gained echo s (Some place) b d = []
gained echo s None b d = if b && not d.back then heard echo s d.item else []

owed-same : (echo : Bool) (s : Session) (first : ℕ) (before : List Act) (x : Act) → first < length before → owed echo s (Some first) (before ++ x ∷ []) ≡ owed echo s (Some first) before ++ []
owed-same echo s first before x h =
    let e : take first (before ++ x ∷ []) ≡ take first before = take-append-le first before (x ∷ []) (omega arith) in
    ap (since echo s) e ∙ sym (append-nil _)

pub owed-more : (echo : Bool) (s : Session) (before : List Deed) (d : Deed) →
    owed echo s (refused s (before ++ d ∷ [])) (items (before ++ d ∷ [])) ≡ owed echo s (refused s before) (items before) ++ gained echo s (refused s before) (inside s (items before)) d
owed-more echo s before d =
    ap (λ r. owed echo s r (items (before ++ d ∷ []))) (refused_from-more s false 0 before d)
    ∙ ap (λ l. owed echo s (either (refused s before) (here (inside s (items before) && d.back) (0 + length before))) l) (items-more before d)
    ∙ by_first (refused s before) (λ first h. refused_from-below s false 0 first before h)
  where
    len : length (items before) ≡ 0 + length before
    len = length-map before (λ d. d.item) ∙ omega arith

    none : (b back : Bool) → inside s (items before) ≡ b →
        owed echo s (here (b && back) (0 + length before)) (items before ++ d.item ∷ []) ≡ since echo s (items before) ++ (if b && not back then heard echo s d.item else [])
    none true true e =
        let all : take (0 + length before) (items before ++ d.item ∷ []) ≡ items before = take_at (items before) (d.item ∷ []) (0 + length before) len in
        ap (since echo s) all ∙ sym (append-nil _)
    none true false e = since_from-more echo s false (items before) d.item ∙ ap (λ (b : Bool). since echo s (items before) ++ heard_if b echo s d.item) e
    none false back e = since_from-more echo s false (items before) d.item ∙ ap (λ (b : Bool). since echo s (items before) ++ heard_if b echo s d.item) e

    by_first : (r : Option ℕ) → ((first : ℕ) → r ≡ Some first → first < 0 + length before) →
        owed echo s (either r (here (inside s (items before) && d.back) (0 + length before))) (items before ++ d.item ∷ [])
        ≡ owed echo s r (items before) ++ gained echo s r (inside s (items before)) d
    by_first None below = none (inside s (items before)) d.back refl
    by_first (Some first) below = owed-same echo s first (items before) d.item (omega (arith, below first refl, len))
