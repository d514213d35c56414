-- Turns that are given one after the other.
use Rattle.std.proofs.Common.{◌≡◌, ℕ, ◌+◌, ◌-◌, ◌<◌, ◌≤◌, ◌==◌, min, Bool, List, [], ◌∷◌, ◌++◌, length, take, drop, false, refl, sym, ap, ◌∙◌, arith, if◌then◌else◌, length-drop, length-append, append-nil, get_or, subst, zero, suc}
use Rattle.std.proofs.lemmas.Grind.{common_steps}
use Rattle.std.proofs.lemmas.List.{drop-take, drop-drop, take-append-le, drop-append-le, take_more}
use Rattle.aseba_edge.specs.declared.poll.PollAnswer.{PollAnswer}
use Rattle.aseba_edge.specs.declared.poll.PollAnswer.TheVariants.{Bytes, Later}
use Rattle.aseba_edge.specs.declared.turn.Turn.{Turn}
use Rattle.aseba_edge.specs.declared.turn.Turn.TheVariants.{Piece, Wait}
use Rattle.aseba_edge.specs.Link.{Input, polled_on, left_behind_poll}
use Rattle.aseba_edge.specs.PollTape.{bytes_in, most_answers, answers_of, pending, input_of, IsTape, NoneEmpty, Laid, full, turn_of, bytes_of}

-- one turn more
answers-piece : (turns : List Turn) (size : ℕ) (bytes : List ℕ) → answers_of (turns ++ Piece size ∷ []) bytes ≡ answers_of turns bytes ++ Bytes (take size (drop (bytes_in turns) bytes)) ∷ []
answers-piece [] size bytes = refl
answers-piece (Piece first ∷ later) size bytes =
    ap (λ l. Bytes (take first bytes) ∷ l)
    (answers-piece later size (drop first bytes) ∙ ap (λ t. answers_of later (drop first bytes) ++ Bytes (take size t) ∷ []) (drop-drop (bytes_in later) first bytes))
answers-piece (Wait ∷ later) size bytes = ap (λ l. Later ∷ l) (answers-piece later size bytes)

answers-wait : (turns : List Turn) (bytes : List ℕ) → answers_of (turns ++ Wait ∷ []) bytes ≡ answers_of turns bytes ++ Later ∷ []
answers-wait [] bytes = refl
answers-wait (Piece first ∷ later) bytes = ap (λ l. Bytes (take first bytes) ∷ l) (answers-wait later (drop first bytes))
answers-wait (Wait ∷ later) bytes = ap (λ l. Later ∷ l) (answers-wait later bytes)

bytes_in-piece : (turns : List Turn) (size : ℕ) → bytes_in (turns ++ Piece size ∷ []) ≡ bytes_in turns + size
bytes_in-piece [] size = omega arith
bytes_in-piece (Piece first ∷ later) size = omega (arith, bytes_in-piece later size)
bytes_in-piece (Wait ∷ later) size = bytes_in-piece later size

bytes_in-wait : (turns : List Turn) → bytes_in (turns ++ Wait ∷ []) ≡ bytes_in turns
bytes_in-wait [] = refl
bytes_in-wait (Piece first ∷ later) = omega (arith, bytes_in-wait later)
bytes_in-wait (Wait ∷ later) = bytes_in-wait later

-- what is left of a piece, and the later turns
pending-some : (rest : ℕ) (later : List Turn) → 0 < rest → pending rest later ≡ Piece rest ∷ later
pending-some rest later some = let e : (rest == 0) ≡ false = grind arith in ap (λ b. if b then later else Piece rest ∷ later) e

bytes_in-pending : (rest : ℕ) (later : List Turn) → bytes_in (pending rest later) ≡ rest + bytes_in later
bytes_in-pending zero later = omega arith
bytes_in-pending (suc rest) later = ap bytes_in (pending-some (suc rest) later (omega arith))

most-pending : (rest : ℕ) (later : List Turn) → most_answers (pending rest later) ≡ rest + most_answers later
most-pending zero later = omega arith
most-pending (suc rest) later = ap most_answers (pending-some (suc rest) later (omega arith))

pending-NoneEmpty : (rest : ℕ) (later : List Turn) → NoneEmpty later → NoneEmpty (pending rest later)
pending-NoneEmpty zero later all = all
pending-NoneEmpty (suc rest) later all = let some : 0 < suc rest = omega arith in subst NoneEmpty (sym (pending-some (suc rest) later some)) (some, all)

-- what is left behind a piece of which there is room for the first bytes
answers-behind : (size : ℕ) (later : List Turn) (room : ℕ) (bytes : List ℕ) → size ≤ length bytes → 0 < room
    → answers_of (pending (size - min size room) later) (drop (min size room) bytes) ≡ left_behind_poll room (Bytes (take size bytes)) (answers_of later (drop size bytes))
answers-behind size later room bytes fits some = grind (arith, common_steps, drop-take)

-- a poll gives the first bytes of the next piece, as many as there is room for
piece-step : (bytes : List ℕ) (given : List Turn) (at size : ℕ) (later : List Turn) (room : ℕ) (has_ended : Bool) → bytes_in given ≡ at → at + (size + bytes_in later) ≡ length bytes → 0 < room →
    let input = input_of bytes given at (Piece size ∷ later) has_ended in
    input_of bytes (given ++ Piece (min size room) ∷ []) (at + min size room) (pending (size - min size room) later) has_ended ≡ polled_on room input.left input
piece-step bytes given at size later room has_ended so_far whole some =
    let rest = drop at bytes in
    let fits : size ≤ length rest = omega (arith, length-drop at bytes) in
    let part : take (min size room) (drop (bytes_in given) bytes) ≡ take room (take size rest) = grind (arith, common_steps) in
    let gave : answers_of (given ++ Piece (min size room) ∷ []) bytes ≡ answers_of given bytes ++ Bytes (take room (take size rest)) ∷ [] =
    answers-piece given (min size room) bytes ∙ ap (λ t. answers_of given bytes ++ Bytes t ∷ []) part in
    let left : answers_of (pending (size - min size room) later) (drop (at + min size room) bytes) ≡ left_behind_poll room (Bytes (take size rest)) (answers_of later (drop size rest)) =
    ap (answers_of (pending (size - min size room) later)) (sym (drop-drop (min size room) at bytes)) ∙ answers-behind size later room rest fits some in
    ap (λ (g : List PollAnswer). record { given = g; left = answers_of (pending (size - min size room) later) (drop (at + min size room) bytes); has_ended = has_ended }) gave
    ∙ ap (λ (l : List PollAnswer). record { given = answers_of given bytes ++ Bytes (take room (take size rest)) ∷ []; left = l; has_ended = has_ended }) left

-- a tape with a turn left
pub begun : {size_of_bytes at : ℕ} {turn : Turn} {given left later : List Turn} → turn ∷ later ≡ left → IsTape size_of_bytes given at left → IsTape size_of_bytes given at (turn ∷ later)
begun {size_of_bytes} {at} {given = given} is tape = subst (IsTape size_of_bytes given at) (sym is) tape

-- there is room for a turn that is left
pub room-piece : (given capacity size : ℕ) (later left : List Turn) → Piece size ∷ later ≡ left → 0 < size → given + most_answers left ≤ capacity → given < capacity
room-piece given capacity size later left is some room = omega (arith, ap most_answers is)

pub room-wait : (given capacity : ℕ) (later left : List Turn) → Wait ∷ later ≡ left → given + most_answers left ≤ capacity → given < capacity
room-wait given capacity later left is room = omega (arith, ap most_answers is)

-- what holds of a tape behind a poll
pub piece-holds : (length_of_bytes at size count : ℕ) (given given_then later left : List Turn) (len len_then capacity capacity_then : ℕ) → Piece size ∷ later ≡ left → count ≤ size → 0 < count → given_then ≡ given ++ Piece count ∷ []
    → len_then ≡ len + 1 → capacity ≤ capacity_then → len + most_answers left ≤ capacity → IsTape length_of_bytes given at left
    → (len_then + most_answers (pending (size - count) later) ≤ capacity_then) × IsTape length_of_bytes given_then (at + count) (pending (size - count) later)
piece-holds length_of_bytes at size count given given_then later left len len_then capacity capacity_then is within some gave longer more room whole =
    let tape = begun is whole in (
      omega (arith, ap most_answers is, most-pending (size - count) later),
      subst (λ (g : List Turn). IsTape length_of_bytes g (at + count) (pending (size - count) later)) (sym gave) record {
        given_so_far = omega (arith, bytes_in-piece given count, tape.given_so_far);
        whole = omega (arith, bytes_in-pending (size - count) later, tape.whole);
        not_empty = pending-NoneEmpty (size - count) later tape.not_empty.1;
      },
    )

pub wait-holds : (length_of_bytes at : ℕ) (given given_then later left : List Turn) (len len_then capacity capacity_then : ℕ) → Wait ∷ later ≡ left → given_then ≡ given ++ Wait ∷ []
    → len_then ≡ len + 1 → capacity ≤ capacity_then → len + most_answers left ≤ capacity → IsTape length_of_bytes given at left
    → (len_then + most_answers later ≤ capacity_then) × IsTape length_of_bytes given_then at later
wait-holds length_of_bytes at given given_then later left len len_then capacity capacity_then is gave longer more room whole =
    let tape = begun is whole in (
      omega (arith, ap most_answers is),
      subst (λ (g : List Turn). IsTape length_of_bytes g at later) (sym gave) record {
        given_so_far = bytes_in-wait given ∙ tape.given_so_far;
        whole = tape.whole;
        not_empty = tape.not_empty;
      },
    )

-- the view of a tape behind a poll
pub piece-view : (bytes : List ℕ) (given given_then : List Turn) (at size count : ℕ) (later left : List Turn) (room : ℕ) (has_ended : Bool) (old : Input PollAnswer) → given_then ≡ given ++ Piece count ∷ [] → count ≡ min size room
    → Piece size ∷ later ≡ left → input_of bytes given at left has_ended ≡ old → IsTape (length bytes) given at left → 0 < room
    → input_of bytes given_then (at + count) (pending (size - count) later) has_ended ≡ polled_on room old.left old
piece-view bytes given given_then at size count later left room has_ended old gave is_count is_left is_old whole some =
    let tape = begun is_left whole in
    ap (λ (g : List Turn). input_of bytes g (at + count) (pending (size - count) later) has_ended) gave
    ∙ ap (λ (n : ℕ). input_of bytes (given ++ Piece n ∷ []) (at + n) (pending (size - n) later) has_ended) is_count
    ∙ piece-step bytes given at size later room has_ended tape.given_so_far tape.whole some
    ∙ ap (λ (l : List Turn). polled_on room (answers_of l (drop at bytes)) (input_of bytes given at l has_ended)) is_left
    ∙ ap (λ (i : Input PollAnswer). polled_on room i.left i) is_old

pub wait-view : (bytes : List ℕ) (given given_then : List Turn) (at : ℕ) (later left : List Turn) (room : ℕ) (has_ended : Bool) (old : Input PollAnswer) → given_then ≡ given ++ Wait ∷ []
    → Wait ∷ later ≡ left → input_of bytes given at left has_ended ≡ old
    → input_of bytes given_then at later has_ended ≡ polled_on room old.left old
wait-view bytes given given_then at later left room has_ended old gave is_left is_old =
    ap (λ (g : List Turn). input_of bytes g at later has_ended) gave
    ∙ ap (λ (g : List PollAnswer). record { given = g; left = answers_of later (drop at bytes); has_ended = has_ended }) (answers-wait given bytes)
    ∙ ap (λ (l : List Turn). polled_on room (answers_of l (drop at bytes)) (input_of bytes given at l has_ended)) is_left
    ∙ ap (λ (i : Input PollAnswer). polled_on room i.left i) is_old

-- bytes behind the answers
answers-more : (turns : List Turn) (bytes more : List ℕ) → bytes_in turns ≤ length bytes → answers_of turns (bytes ++ more) ≡ answers_of turns bytes
answers-more [] bytes more within = refl
answers-more (Piece size ∷ later) bytes more within =
    let first : take size (bytes ++ more) ≡ take size bytes = take-append-le size bytes more (omega arith) in
    let rest : drop size (bytes ++ more) ≡ drop size bytes ++ more = drop-append-le size bytes more (omega arith) in
    ap (λ p. Bytes p ∷ answers_of later (drop size (bytes ++ more))) first
    ∙ ap (λ b. Bytes (take size bytes) ∷ answers_of later b) rest
    ∙ ap (λ l. Bytes (take size bytes) ∷ l) (answers-more later (drop size bytes) more (omega (arith, length-drop size bytes)))
answers-more (Wait ∷ later) bytes more within = ap (λ l. Later ∷ l) (answers-more later bytes more within)

NoneEmpty-piece : (turns : List Turn) (size : ℕ) → NoneEmpty turns → 0 < size → NoneEmpty (turns ++ Piece size ∷ [])
NoneEmpty-piece [] size all some = (some, tt)
NoneEmpty-piece (Piece first ∷ later) size all some = (all.0, NoneEmpty-piece later size all.1 some)
NoneEmpty-piece (Wait ∷ later) size all some = NoneEmpty-piece later size all some

NoneEmpty-wait : (turns : List Turn) → NoneEmpty turns → NoneEmpty (turns ++ Wait ∷ [])
NoneEmpty-wait [] all = tt
NoneEmpty-wait (Piece first ∷ later) all = (all.0, NoneEmpty-wait later all.1)
NoneEmpty-wait (Wait ∷ later) all = NoneEmpty-wait later all

-- an answer laid behind the others
laid-piece : (bytes piece : List ℕ) (turns : List Turn) (answers : List PollAnswer) → 0 < length piece → Laid bytes turns answers → Laid (bytes ++ piece) (turns ++ Piece (length piece) ∷ []) (answers ++ Bytes piece ∷ [])
laid-piece bytes piece turns answers some laid = record {
  answers_are =
      answers-piece turns (length piece) (bytes ++ piece)
      ∙ ap (λ l. l ++ Bytes (take (length piece) (drop (bytes_in turns) (bytes ++ piece))) ∷ []) (answers-more turns bytes piece (omega (arith, laid.whole)) ∙ laid.answers_are)
      ∙ ap (λ p. answers ++ Bytes p ∷ []) (grind (arith, common_steps, laid.whole));
  whole = omega (arith, bytes_in-piece turns (length piece), length-append bytes piece, laid.whole);
  not_empty = NoneEmpty-piece turns (length piece) laid.not_empty some;
}

laid-more : (bytes : List ℕ) (turns : List Turn) (answer : PollAnswer) (answers : List PollAnswer) → Laid bytes turns answers → Laid (bytes ++ bytes_of answer) (turns ++ turn_of answer) (answers ++ full (answer ∷ []))
laid-more bytes turns (Bytes []) answers laid = subst (λ (b : List ℕ). Laid b (turns ++ []) (answers ++ [])) (sym (append-nil bytes))
    (subst (λ (s : List Turn). Laid bytes s (answers ++ [])) (sym (append-nil turns)) (subst (Laid bytes turns) (sym (append-nil answers)) laid))
laid-more bytes turns (Bytes (byte ∷ more)) answers laid = laid-piece bytes (byte ∷ more) turns answers (omega arith) laid
laid-more bytes turns Later answers laid = subst (λ (b : List ℕ). Laid b (turns ++ Wait ∷ []) (answers ++ Later ∷ [])) (sym (append-nil bytes)) record {
  answers_are = answers-wait turns bytes ∙ ap (λ l. l ++ Later ∷ []) laid.answers_are;
  whole = bytes_in-wait turns ∙ laid.whole;
  not_empty = NoneEmpty-wait turns laid.not_empty;
}

-- the turn of an empty piece, and of one that isn't
pub turn_of_empty : (piece : List ℕ) → length piece ≡ 0 → turn_of (Bytes piece) ≡ []
turn_of_empty [] none = refl
turn_of_empty (byte ∷ more) none = absurd (omega (arith, none))

pub turn_of_some : (piece : List ℕ) → 0 < length piece → turn_of (Bytes piece) ≡ Piece (length piece) ∷ []
turn_of_some [] some = absurd (omega (arith, some))
turn_of_some (byte ∷ more) some = refl

-- the answers of two lists that have a byte
full-append : (answers more : List PollAnswer) → full (answers ++ more) ≡ full answers ++ full more
full-append [] more = refl
full-append (Bytes [] ∷ later) more = full-append later more
full-append (Bytes (byte ∷ bytes) ∷ later) more = ap (λ l. Bytes (byte ∷ bytes) ∷ l) (full-append later more)
full-append (Later ∷ later) more = ap (λ l. Later ∷ l) (full-append later more)

-- the answers laid so far, and one more
pub laid-step : (bytes bytes_then : List ℕ) (turns turns_then : List Turn) (item : PollAnswer) (answers : List PollAnswer) (index : ℕ) → index < length answers → item ≡ get_or answers index item
    → bytes_then ≡ bytes ++ bytes_of item → turns_then ≡ turns ++ turn_of item → Laid bytes turns (full (take index answers)) → Laid bytes_then turns_then (full (take (index + 1) answers))
laid-step bytes bytes_then turns turns_then item answers index below is_item is_bytes is_turns laid =
    let more : full (take index answers) ++ full (item ∷ []) ≡ full (take (index + 1) answers) =
    ap (λ p. full (take index answers) ++ full (p ∷ [])) is_item ∙ sym (full-append (take index answers) (get_or answers index item ∷ []))
    ∙ ap full (sym (take_more answers index item below)) in
    subst (λ (b : List ℕ). Laid b turns_then (full (take (index + 1) answers))) (sym is_bytes)
    (subst (λ (s : List Turn). Laid (bytes ++ bytes_of item) s (full (take (index + 1) answers))) (sym is_turns)
    (subst (Laid (bytes ++ bytes_of item) (turns ++ turn_of item)) more (laid-more bytes turns item (full (take index answers)) laid)))

-- a tape that has given nothing
most-within : (turns : List Turn) → most_answers turns ≤ bytes_in turns + length turns
most-within [] = omega arith
most-within (Piece size ∷ later) = omega (arith, most-within later)
most-within (Wait ∷ later) = omega (arith, most-within later)

pub new-holds : (bytes : List ℕ) (given turns : List Turn) (answers : List PollAnswer) (len capacity : ℕ) → Laid bytes turns answers → given ≡ [] → len ≡ 0 → capacity ≡ length bytes + length turns
    → (len + most_answers turns ≤ capacity) × IsTape (length bytes) given 0 turns
new-holds bytes given turns answers len capacity laid none empty room = (
  omega (arith, most-within turns, laid.whole),
  subst (λ (g : List Turn). IsTape (length bytes) g 0 turns) (sym none) record {
    given_so_far = refl;
    whole = omega (arith, laid.whole);
    not_empty = laid.not_empty;
  },
)
