-- What a link's session got is what it is owed.
use Rattle.std.proofs.Common.{◌≡◌, ◌∙◌, ℕ, ◌<◌, ◌==◌, Bool, true, false, if◌then◌else◌, List, [], ◌∷◌, ◌++◌, map, Option, None, Some, refl, sym, ap, append-nil}
use Rattle.std.specs.List.{flat_map}
use Rattle.aseba_message.specs.Message.{Message}
use Rattle.aseba_router.specs.declared.session.Session.{Session}
use Rattle.aseba_router.specs.Hub.{Act, joins, says, leaves, Put, frame, inside, since, owed}
use Rattle.aseba_router.specs.Memory.{queue_at}
use Rattle.aseba_router.specs.Port.{ends}
use Rattle.aseba_router.specs.Relayed.{Served}
use Rattle.aseba_router.specs.Routed.{full_of}
use Rattle.aseba_router.specs.Rows.{port_at}
use Rattle.aseba_router.specs.Taken.{frames_in}
use Rattle.aseba_router.specs.Told.{Deed, items, refused, joined, came, share, told}
use Rattle.aseba_router.specs.Turns.{Line, Middle, is_away, session_of}
use Rattle.aseba_router.proofs.LinkLines.{frames_in-both}
use Rattle.aseba_router.proofs.RanLaw.{HasFollowed, Holds, none-came}
use Rattle.aseba_router.proofs.Shares.{closing, none-refused, none-since}
use Rattle.aseba_router.proofs.Standing.{one, first_back, Stands}
use Rattle.aseba_router.proofs.ToldLaw.{follows-stands}

joined-both : (p : ℕ) (before later : List Act) → joined p (before ++ later) ≡ joined p before ++ joined p later
joined-both p [] later = refl
joined-both p (joins s ∷ before) later = pick (s.port == p) (joined-both p before later)
  where
    pick : (c : Bool) → joined p (before ++ later) ≡ joined p before ++ joined p later → (if c then s ∷ joined p (before ++ later) else joined p (before ++ later)) ≡ (if c then s ∷ joined p before else joined p before) ++ joined p later
    pick true h = ap (λ l. s ∷ l) h
    pick false h = h
joined-both p (says s f ∷ before) later = joined-both p before later
joined-both p (leaves s ∷ before) later = joined-both p before later

-- the frames of a share are those that are owed, and Ends are no frames
frames-of-frames : (fs : List Message) → frames_in (map frame fs) ≡ fs
frames-of-frames [] = refl
frames-of-frames (f ∷ fs) = ap (λ l. f ∷ l) (frames-of-frames fs)

frames-of-ends : (waiting : List Session) → frames_in (ends waiting) ≡ []
frames-of-ends [] = refl
frames-of-ends (s ∷ waiting) = frames-of-ends waiting

frames-of-closing : (b : Bool) (s : Session) → frames_in (closing b s) ≡ []
frames-of-closing true s = refl
frames-of-closing false s = refl

frames-of-share : (echo : Bool) (deeds : List Deed) (s : Session) → frames_in (share echo deeds s) ≡ owed echo s (refused s deeds) (items deeds)
frames-of-share echo deeds s =
    frames_in-both (map frame (owed echo s (refused s deeds) (items deeds))) (closing (inside s (items deeds)) s)
    ∙ ap (λ l. frames_in (map frame (owed echo s (refused s deeds) (items deeds))) ++ l) (frames-of-closing (inside s (items deeds)) s) ∙ append-nil _
    ∙ frames-of-frames (owed echo s (refused s deeds) (items deeds))

-- what a port was told, told as frames
frames-told : (echo : Bool) (deeds : List Deed) (popped queue all : List Put) (waiting : List Session) → (popped ++ queue) ++ ends waiting ≡ all → frames_in popped ++ frames_in queue ≡ frames_in all
frames-told echo deeds popped queue all waiting is =
    sym (frames_in-both popped queue) ∙ sym (append-nil _) ∙ ap (λ l. frames_in (popped ++ queue) ++ l) (sym (frames-of-ends waiting)) ∙ sym (frames_in-both (popped ++ queue) (ends waiting)) ∙ ap frames_in is

-- A port none of whose sessions has joined.
last-none : (past : List Session) (last : Option Session) → past ++ one last ≡ [] → last ≡ None
last-none [] None is = refl
last-none [] (Some s) is = absurd cc
last-none (t ∷ past) last is = absurd cc

-- A port of which one session has joined.
last-one : (s : Session) (past : List Session) (last : Option Session) → (last ≡ None → past ≡ []) → past ++ one last ≡ s ∷ [] → last ≡ Some s
last-one s [] None none is = absurd cc
last-one s [] (Some t) none is = let same : t ≡ s = cc in ap Some same
last-one s (t ∷ past) None none is = let wrong : t ∷ past ≡ [] = none refl in absurd cc
last-one s (t ∷ []) (Some u) none is = absurd cc
last-one s (t ∷ u ∷ past) (Some v) none is = absurd cc

served-none : (echo : Bool) (p : ℕ) (m : Middle) (popped : List Put) (so_far : HasFollowed echo p m popped) → joined p m.routed ≡ [] → Stands echo p so_far.deeds (port_at m.table.ports p) (popped ++ (queue_at m.queues p).list) → Served echo p m popped
served-none echo p m popped so_far none st =
    let no_join : joined p (items so_far.deeds) ≡ [] = ap (joined p) so_far.routed ∙ none in
    let no_last : st.last ≡ None = last-none st.past st.last (sym st.sessions ∙ no_join) in
    let no_full : full_of m.table p ≡ None = st.full ∙ ap (λ l. first_back l so_far.deeds) no_last in
    let not_come : came (session_of p) (items so_far.deeds) ≡ false = none-came (session_of p) p (items so_far.deeds) refl no_join in
    let nothing_told : told echo p so_far.deeds ≡ [] = ap (flat_map (share echo so_far.deeds)) no_join in
    record {
      deeds = so_far.deeds;
      routed = so_far.routed;
      follows = so_far.follows;
      first = no_full ∙ sym (none-refused (session_of p) 0 so_far.deeds not_come);
      got =
          frames-told echo so_far.deeds popped (queue_at m.queues p).list [] (port_at m.table.ports p).waiting (st.shares ∙ nothing_told)
          ∙ sym (none-since echo (session_of p) (items so_far.deeds) not_come) ∙ ap (since echo (session_of p)) so_far.routed
          ∙ ap (λ r. owed echo (session_of p) r m.routed) (sym no_full);
    }

served-one : (echo : Bool) (p : ℕ) (m : Middle) (popped : List Put) (so_far : HasFollowed echo p m popped) → joined p m.routed ≡ session_of p ∷ [] → Stands echo p so_far.deeds (port_at m.table.ports p) (popped ++ (queue_at m.queues p).list)
    → Served echo p m popped
served-one echo p m popped so_far one_join st =
    let joins_one : joined p (items so_far.deeds) ≡ session_of p ∷ [] = ap (joined p) so_far.routed ∙ one_join in
    let last_is : st.last ≡ Some (session_of p) = last-one (session_of p) st.past st.last st.first (sym st.sessions ∙ joins_one) in
    let full_is : full_of m.table p ≡ refused (session_of p) so_far.deeds = st.full ∙ ap (λ l. first_back l so_far.deeds) last_is in
    let told_is : told echo p so_far.deeds ≡ share echo so_far.deeds (session_of p) = ap (flat_map (share echo so_far.deeds)) joins_one ∙ append-nil _ in
    record {
      deeds = so_far.deeds;
      routed = so_far.routed;
      follows = so_far.follows;
      first = full_is;
      got =
          frames-told echo so_far.deeds popped (queue_at m.queues p).list (share echo so_far.deeds (session_of p)) (port_at m.table.ports p).waiting (st.shares ∙ told_is)
          ∙ frames-of-share echo so_far.deeds (session_of p)
          ∙ ap (λ r. owed echo (session_of p) r (items so_far.deeds)) (sym full_is)
          ∙ ap (owed echo (session_of p) (full_of m.table p)) so_far.routed;
    }

pub served : (echo : Bool) (ports places p : ℕ) (m : Middle) (lines : ℕ → Line) → Holds echo ports places m lines → p < ports → Served echo p m (lines p).popped
served echo ports places p m lines holds placed =
    pick (joined p m.routed) (joined p m.waiting) (is_away (lines p).stage) refl (sym (joined-both p m.routed m.waiting) ∙ holds.once p)
  where
    so_far : HasFollowed echo p m (lines p).popped
    so_far = holds.followed p placed

    st : Stands echo p so_far.deeds (port_at m.table.ports p) ((lines p).popped ++ (queue_at m.queues p).list)
    st = follows-stands echo p so_far.deeds (port_at m.table.ports p) ((lines p).popped ++ (queue_at m.queues p).list) so_far.follows

    pick : (front back : List Session) (c : Bool) → joined p m.routed ≡ front → front ++ back ≡ (if c then [] else session_of p ∷ []) → Served echo p m (lines p).popped
    pick [] back c is all = served-none echo p m (lines p).popped so_far is st
    pick (s ∷ front) back true is all = absurd cc
    pick (s ∷ []) back false is all =
        let same : s ≡ session_of p = cc in
        served-one echo p m (lines p).popped so_far (is ∙ ap (λ t. t ∷ []) same) st
    pick (s ∷ t ∷ front) back false is all = absurd cc
