-- Turns follow each other.
use Rattle.std.proofs.Common.{◌≡◌, ℕ, ◌+◌, ◌*◌, ◌<◌, ◌≤◌, ◌⊎◌, inl, inr, Bool, true, false, List, [], ◌∷◌, ◌++◌, length, take, Option, None, Some, IfSome, Ok, refl, sym, ap, ◌∙◌, subst, append-nil, append_assoc, length-append, zero-add, option_map, arith}
use Rattle.std.specs.List.{flat_map}
use Rattle.std.proofs.lemmas.List.Concat.{flat_map-cons}
use Rattle.std.proofs.lemmas.Grind.{flat_map-append}
use Rattle.aseba_edge.specs.Link.{Input, IsPolled, after_poll, as_given, left_behind_poll, next_given, polled_on}
use Rattle.aseba_edge.specs.Sink.{Took, TookFirst}
use Rattle.aseba_edge.specs.declared.poll.PollAnswer.{PollAnswer}
use Rattle.aseba_edge.specs.declared.poll.PollAnswer.TheVariants.{Bytes, Later}
use Rattle.aseba_edge.specs.declared.poll.Polled.TheVariants.{Piece, NotYet, Ended}
use Rattle.aseba_edge.proofs.Puts.{took_after, took_empty, took_nothing, first_after}
use Rattle.aseba_message.specs.Message.{Message}
use Rattle.aseba_message.specs.Frames.{spelling, is_bad}
use Rattle.aseba_message.specs.Cut.{IsBadAt, IsGoodStream, StandsAt}
use Rattle.aseba_node.specs.NodeState.{NodeState}
use Rattle.aseba_node.specs.Delivered.{ran}
use Rattle.aseba_node.specs.Session.{Ends, DidAll, DidSome, DidTurns, EndedBy, Gave, GaveAnswers, IsAtEnd, MetBadFrame, TakenFrom, WrotePart, bytes_in, bytes_of, delivered_all, ended_in, quiet, room, turn_ticks, turned, turns, turns_from, turns_text}
use Rattle.aseba_node.specs.Turns.{Behind, CameIn, CameToEnd, HeardBad, IsUnspoken, Polls, TurnDone, TurnEnded, turn_text}
use Rattle.aseba_node.specs.declared.link.SessionEnd.{SessionEnd}
use Rattle.aseba_node.specs.declared.link.SessionEnd.TheVariants.{BadFrame, ReadFault, WriteFault, Mem}
use Rattle.aseba_node.proofs.Hearing.{good_stream}

-- One turn more

abbrev Did : Type 0
Did = List Message × NodeState

abbrev in_front : List Message → Did → Did
in_front said did = (said ++ did.0, did.1)

abbrev and_then : (NodeState → NodeState) → Did → Did
and_then step did = (did.0 ++ (step did.1).waiting, quiet (step did.1))

turns-last_from : (before : List ℕ) (answers : List PollAnswer) (last : PollAnswer) (n : NodeState) (all : List ℕ) → all ≡ before ++ bytes_of answers
    → turns_from before (answers ++ last ∷ []) n ≡ and_then (turned all (bytes_in last)) (turns_from before answers n)
turns-last_from before [] last n all is =
    let same : before ≡ all = sym (append-nil before) ∙ sym is in
    let after = turned before (bytes_in last) n in
    ap (λ (said : List Message). (said, quiet after)) (append-nil after.waiting)
    ∙ ap (λ (b : List ℕ). ((turned b (bytes_in last) n).waiting, quiet (turned b (bytes_in last) n))) same
turns-last_from before (answer ∷ answers) last n all is =
    let after = turned before (bytes_in answer) n in
    let longer : all ≡ (before ++ bytes_in answer) ++ bytes_of answers =
    is ∙ ap (λ (b : List ℕ). before ++ b) (flat_map-cons bytes_in answer answers) ∙ sym (append_assoc before (bytes_in answer) (bytes_of answers)) in
    let others = turns_from (before ++ bytes_in answer) answers (quiet after) in
    let step = turned all (bytes_in last) others.1 in
    ap (in_front after.waiting) (turns-last_from (before ++ bytes_in answer) answers last (quiet after) all longer)
    ∙ ap (λ (said : List Message). (said, quiet step)) (sym (append_assoc after.waiting others.0 step.waiting))

pub turns-last : (answers : List PollAnswer) (last : PollAnswer) (n : NodeState) → turns (answers ++ last ∷ []) n ≡ and_then (turned (bytes_of answers) (bytes_in last)) (turns answers n)
turns-last answers last n = turns-last_from [] answers last n (bytes_of answers) refl

bytes-last : (answers : List PollAnswer) (last : PollAnswer) → bytes_of (answers ++ last ∷ []) ≡ bytes_of answers ++ bytes_in last
bytes-last answers last =
    flat_map-append bytes_in answers (last ∷ [])
    ∙ ap (λ (b : List ℕ). bytes_of answers ++ b) (flat_map-cons bytes_in last [] ∙ append-nil (bytes_in last))

text-last : (answers : List PollAnswer) (last : PollAnswer) (n now : NodeState) → now ≡ (turns answers n).1
    → turns_text (answers ++ last ∷ []) n ≡ turns_text answers n ++ turn_text now (bytes_of answers) (bytes_in last)
text-last answers last n now is =
    ap (λ (did : Did). flat_map spelling did.0) (turns-last answers last n)
    ∙ flat_map-append spelling (turns answers n).0 (turned (bytes_of answers) (bytes_in last) (turns answers n).1).waiting
    ∙ ap (λ (m : NodeState). turns_text answers n ++ turn_text m (bytes_of answers) (bytes_in last)) (sym is)

-- What a link gave

some_same : {A : Type 0} {x y : A} → Some x ≡ Some y → x ≡ y
some_same e = cc

none_given : (room : ℕ) (answer : PollAnswer) → next_given room [] ≡ Some answer → ⊥
none_given room answer e = cc

gave-nothing : (input : Option (Input PollAnswer)) → Gave input [] input
gave-nothing None = refl
gave-nothing (Some input) = record { given = sym (append-nil input.given); left = refl }

polled-one : (input : Input PollAnswer) (answer : PollAnswer) (left : List PollAnswer) → input.left ≡ left → next_given 4096 left ≡ Some answer → GaveAnswers input (answer ∷ []) (polled_on 4096 left input)
unfolding room
polled-one input answer [] is next = absurd (none_given 4096 answer next)
polled-one input answer (first ∷ later) is next =
    let same : as_given 4096 first ≡ answer = some_same next in
    record {
      given = ap (λ (a : PollAnswer). input.given ++ a ∷ []) same;
      left = subst (λ (l : List PollAnswer). TakenFrom (answer ∷ []) l (left_behind_poll 4096 first later)) (sym is) (sym same, refl);
    }

gave-one : (before after : Option (Input PollAnswer)) (answer : PollAnswer) → after ≡ option_map (λ (input : Input PollAnswer). polled_on 4096 input.left input) before
    → IfSome before (λ input. next_given 4096 input.left ≡ Some answer) → Gave before (answer ∷ []) after
gave-one None after answer is next = is
gave-one (Some input) after answer is next = subst (λ (a : Option (Input PollAnswer)). Gave (Some input) (answer ∷ []) a) (sym is) (polled-one input answer input.left refl next)

-- a piece came
pub came_piece : (before after : Option (Input PollAnswer)) (count : ℕ) (buffer : List ℕ) → after ≡ option_map (after_poll 4096 (Piece count)) before
    → IfSome before (λ input. IsPolled (next_given 4096 input.left) (Piece count) buffer) → CameIn before count buffer after
came_piece before after count buffer is next =
    record { answer = Bytes (take count buffer); bytes = refl; gave = gave-one before after (Bytes (take count buffer)) is next }

-- nothing has come yet
pub came_later : (before after : Option (Input PollAnswer)) (buffer : List ℕ) → after ≡ option_map (after_poll 4096 NotYet) before
    → IfSome before (λ input. IsPolled (next_given 4096 input.left) NotYet buffer) → CameIn before 0 buffer after
came_later before after buffer is next = record { answer = Later; bytes = refl; gave = gave-one before after Later is next }

at-end : (input : Input PollAnswer) (left : List PollAnswer) → input.left ≡ left → next_given 4096 left ≡ None → (polled_on 4096 left input ≡ record input { has_ended = true }) × (left ≡ [])
at-end input [] is next = (refl, refl)
at-end input (first ∷ later) is next = absurd cc

-- nothing will come any more
pub came_to_end : (before after : Option (Input PollAnswer)) (buffer : List ℕ) → after ≡ option_map (after_poll 4096 Ended) before
    → IfSome before (λ input. IsPolled (next_given 4096 input.left) Ended buffer) → CameToEnd before after
came_to_end None after buffer is next = record { gave = is; ended = subst (λ (a : Option (Input PollAnswer)). IfSome a IsAtEnd) (sym is) tt }
came_to_end (Some input) after buffer is next =
    let end = at-end input input.left refl next in
    let here : after ≡ Some (record input { has_ended = true }) = is ∙ ap Some end.0 in
    record {
      gave = subst (λ (a : Option (Input PollAnswer)). Gave (Some input) [] a) (sym here) (record { given = sym (append-nil input.given); left = refl });
      ended = subst (λ (a : Option (Input PollAnswer)). IfSome a IsAtEnd) (sym here) (record { left = end.1; said = refl });
    }

taken-then : (xs ys before mid after : List PollAnswer) → TakenFrom xs before mid → TakenFrom ys mid after → TakenFrom (xs ++ ys) before after
taken-then [] ys before mid after t u = subst (λ (l : List PollAnswer). TakenFrom ys l after) t u
taken-then (x ∷ xs) ys [] mid after t u = absurd t
taken-then (x ∷ xs) ys (first ∷ before) mid after t u = (t.0, taken-then xs ys (left_behind_poll room first before) mid after t.1 u)

pub gave-then : (before mid after : Option (Input PollAnswer)) (xs ys : List PollAnswer) → Gave before xs mid → Gave mid ys after → Gave before (xs ++ ys) after
gave-then None mid after xs ys g h = let all = subst (λ (m : Option (Input PollAnswer)). Gave m ys after) g h in all
gave-then (Some before) None after xs ys g h = absurd g
gave-then (Some before) (Some mid) None xs ys g h = absurd h
gave-then (Some before) (Some mid) (Some after) xs ys g h =
    record { given = h.given ∙ ap (λ (a : List PollAnswer). a ++ ys) g.given ∙ append_assoc before.given xs ys; left = taken-then xs ys before.left mid.left after.left g.left h.left }

-- the number of bytes that came is told
pub came_in : {before after : Option (Input PollAnswer)} {buffer : List ℕ} (answer : Option ℕ) (count : ℕ) → answer ≡ Some count → Polls before (Ok answer) buffer after → (count ≤ 4096) × CameIn before count buffer after
unfolding room
came_in {before} {after} {buffer} answer count is polls = subst (λ (a : Option ℕ). Polls before (Ok a) buffer after) is polls

-- What came of a poll: `poll` names this set.
pub ruleset came = (came_piece, came_later, came_to_end)

-- A turn in its parts

-- nothing that was said in it was written
pub turn_unheard : (n : NodeState) (before piece : List ℕ) (taken : Option (List ℕ)) (end : SessionEnd) → HeardBad (before ++ piece) end → TurnEnded n before piece taken end taken
turn_unheard n before piece taken (BadFrame place) bad = (bad, refl)
turn_unheard n before piece taken ReadFault bad = absurd bad
turn_unheard n before piece taken WriteFault bad = absurd bad
turn_unheard n before piece taken Mem bad = took_nothing taken (turn_text n before piece)

-- the piece was heard, and the ticks were done
module _ (n heard behind : NodeState) (before piece : List ℕ) (hears : heard ≡ delivered_all (ended_in before piece) n) (ticks : behind ≡ ran 100 heard) where
  is_turned : behind ≡ turned before piece n
  unfolding turn_ticks
  is_turned = ticks ∙ ap (ran 100) hears

  is_text : flat_map spelling behind.waiting ≡ turn_text n before piece
  is_text = ap (λ (m : NodeState). flat_map spelling m.waiting) is_turned

  pub turn_done : {place : ℕ} {held : List ℕ} {taken after : Option (List ℕ)} {now : NodeState} → Behind (before ++ piece) (place + length piece) held → now ≡ quiet behind
      → Took taken (flat_map spelling behind.waiting) after → TurnDone n before piece place taken held now after
  turn_done {taken = taken} {after = after} reader silent wrote =
      record { reader = reader; node = silent ∙ ap quiet is_turned; wrote = subst (λ (t : List ℕ). Took taken t after) is_text wrote }

  pub turn_unspoken : (taken after : Option (List ℕ)) (end : SessionEnd) → IsUnspoken end → TookFirst taken (flat_map spelling behind.waiting) after → TurnEnded n before piece taken end after
  turn_unspoken taken after (BadFrame place) why wrote = absurd why
  turn_unspoken taken after ReadFault why wrote = absurd why
  turn_unspoken taken after WriteFault why wrote = subst (λ (t : List ℕ). TookFirst taken t after) is_text wrote
  turn_unspoken taken after Mem why wrote = subst (λ (t : List ℕ). TookFirst taken t after) is_text wrote

-- In a session

-- so many turns were done
pub record InSession (n : NodeState) (before : Ends) (count place : ℕ) (held : List ℕ) (now : NodeState) (after : Ends) : Type 0 where
  pub answers : List PollAnswer
  pub did : DidTurns n before answers after
  pub many : length answers ≡ count
  pub reader : Behind (bytes_of answers) place held
  pub node : now ≡ (turns answers n).1
  pub quiet : now.waiting ≡ []
  pub bound : place ≤ 4096 * count

pub session_begins : (n : NodeState) (before : Ends) (held : List ℕ) → n.waiting ≡ [] → held ≡ [] → StandsAt [] held → InSession n before 0 0 held n before
session_begins n before held silent none stands =
    record {
      answers = [];
      did = record { gave = gave-nothing before.input; good = refl; wrote = took_empty before.taken };
      many = refl;
      reader = record { stands = stands; good = ap is_bad none; many = refl };
      node = refl;
      quiet = silent;
      bound = omega arith;
    }

module _ {n : NodeState} {before : Ends} {count place : ℕ} {held : List ℕ} {now : NodeState} {after : Ends} (s : InSession n before count place held now after) where
  -- the link has ended
  pub session_ended : (total : ℕ) (input : Option (Input PollAnswer)) → count ≤ total → CameToEnd after.input input → DidAll n total before (record after { input = input }) now
  session_ended total input few end =
      let gave = gave-then before.input after.input input s.answers [] s.did.gave end.gave in
      record {
        answers = s.answers;
        did = record { gave = subst (λ (a : List PollAnswer). Gave before.input a input) (append-nil s.answers) gave; good = s.did.good; wrote = s.did.wrote };
        few = omega (arith, s.many, few);
        all = inr end.ended;
        node = s.node;
      }

  -- all turns were done
  pub session_done : DidAll n count before after now
  session_done = record { answers = s.answers; did = s.did; few = omega (arith, s.many); all = inl s.many; node = s.node }

  -- the input failed
  pub session_unread : (total : ℕ) → count < total → DidSome n total before after
  session_unread total few = record { answers = s.answers; did = s.did; few = omega (arith, s.many, few) }

  -- an answer came
  module _ (size : ℕ) (buffer : List ℕ) (input : Option (Input PollAnswer)) (came : CameIn after.input size buffer input) (piece : List ℕ) (is_piece : piece ≡ take size buffer) where
    answers : List PollAnswer
    answers = s.answers ++ came.answer ∷ []

    same : piece ≡ bytes_in came.answer
    same = is_piece ∙ sym came.bytes

    gave : Gave before.input (s.answers ++ came.answer ∷ []) input
    gave = gave-then before.input after.input input s.answers (came.answer ∷ []) s.did.gave came.gave

    bytes : bytes_of (s.answers ++ came.answer ∷ []) ≡ bytes_of s.answers ++ piece
    bytes = bytes-last s.answers came.answer ∙ ap (λ (b : List ℕ). bytes_of s.answers ++ b) (sym same)

    text : turns_text (s.answers ++ came.answer ∷ []) n ≡ turns_text s.answers n ++ turn_text now (bytes_of s.answers) piece
    text = text-last s.answers came.answer n now s.node ∙ ap (λ (b : List ℕ). turns_text s.answers n ++ turn_text now (bytes_of s.answers) b) (sym same)

    many : length (s.answers ++ came.answer ∷ []) ≡ count + 1
    many = omega (arith, s.many, length-append s.answers (came.answer ∷ []))

    -- its turn was done
    module _ (next : List ℕ) (behind : NodeState) (taken : Option (List ℕ)) (done : TurnDone now (bytes_of s.answers) piece place after.taken next behind taken) (short : length piece ≤ 4096) where
      reader : Behind (bytes_of (s.answers ++ came.answer ∷ [])) (place + length piece) next
      reader = subst (λ (b : List ℕ). Behind b (place + length piece) next) (sym bytes) done.reader

      node : behind ≡ (turns (s.answers ++ came.answer ∷ []) n).1
      node =
          done.node ∙ ap (λ (b : List ℕ). quiet (turned (bytes_of s.answers) b now)) same
          ∙ ap (λ (m : NodeState). quiet (turned (bytes_of s.answers) (bytes_in came.answer) m)) s.node
          ∙ ap (λ (did : Did). did.1) (sym (turns-last s.answers came.answer n))

      went_on : InSession n before (count + 1) (place + length piece) next behind (record { input = input; taken = taken })
      went_on =
          record {
            answers = s.answers ++ came.answer ∷ [];
            did = record {
              gave = gave;
              good = good_stream (bytes_of (s.answers ++ came.answer ∷ [])) (place + length piece) next reader;
              wrote = subst (λ (t : List ℕ). Took before.taken t taken) (sym text)
                  (took_after before.taken after.taken taken (turns_text s.answers n) (turn_text now (bytes_of s.answers) piece) s.did.wrote done.wrote);
            };
            many = many;
            reader = reader;
            node = node;
            quiet = ap (λ (m : NodeState). m.waiting) done.node;
            bound = omega (arith, s.bound, short);
          }

      pub session_goes_on : (at : ℕ) → at ≡ place + length piece → InSession n before (count + 1) at next behind (record { input = input; taken = taken })
      session_goes_on at is = subst (λ (p : ℕ). InSession n before (count + 1) p next behind (record { input = input; taken = taken })) (sym is) went_on

    -- only the first bytes of what is said in its turn were written
    part : (total : ℕ) (taken : Option (List ℕ)) → count < total → TookFirst after.taken (turn_text now (bytes_of s.answers) piece) taken
        → WrotePart n total before (record { input = input; taken = taken })
    part total taken few first =
        record {
          answers = s.answers ++ came.answer ∷ [];
          gave = gave;
          few = omega (arith, many, few);
          wrote = subst (λ (t : List ℕ). TookFirst before.taken t taken) (sym text)
              (first_after before.taken after.taken taken (turns_text s.answers n) (turn_text now (bytes_of s.answers) piece) s.did.wrote first);
        }

    -- its turn ended early
    pub session_broken : (total : ℕ) (taken : Option (List ℕ)) (end : SessionEnd) → count < total → TurnEnded now (bytes_of s.answers) piece after.taken end taken
        → EndedBy n total before (record { input = input; taken = taken }) end
    session_broken total taken (BadFrame bad) few ended =
        record {
          answers = s.answers;
          last = came.answer;
          gave = gave;
          good = s.did.good;
          bad = subst (λ (b : List ℕ). IsBadAt b bad) (sym bytes) ended.0;
          wrote = subst (λ (t : Option (List ℕ)). Took before.taken (turns_text s.answers n) t) (sym ended.1) s.did.wrote;
          few = omega (arith, s.many, few);
        }
    session_broken total taken ReadFault few ended = absurd ended
    session_broken total taken WriteFault few ended = part total taken few ended
    session_broken total taken Mem few ended = part total taken few ended
