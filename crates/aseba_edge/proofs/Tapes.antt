-- Pieces that are given one after the other.
use Rattle.std.proofs.Common.{◌≡◌, ℕ, ◌+◌, ◌-◌, ◌<◌, ◌≤◌, ◌==◌, min, Bool, List, [], ◌∷◌, ◌++◌, length, take, drop, false, refl, sym, ap, ◌∙◌, arith, if◌then◌else◌, length-drop, length-append, append-nil, get_or, subst, zero, suc}
use Rattle.std.proofs.lemmas.Grind.{common_steps}
use Rattle.std.proofs.lemmas.List.{drop-take, drop-drop, take-append-le, drop-append-le, take_more}
use Rattle.aseba_edge.specs.Link.{Input, after_read, read_on, left_behind}
use Rattle.aseba_edge.specs.Tape.{bytes_in, pieces_of, pending, input_of, IsTape, NoneEmpty, Laid, full, size_of}

-- one piece more
pub pieces-more : (sizes : List ℕ) (size : ℕ) (bytes : List ℕ) → pieces_of (sizes ++ size ∷ []) bytes ≡ pieces_of sizes bytes ++ take size (drop (bytes_in sizes) bytes) ∷ []
pieces-more [] size bytes = refl
pieces-more (first ∷ later) size bytes =
    ap (λ l. take first bytes ∷ l)
    (pieces-more later size (drop first bytes) ∙ ap (λ t. pieces_of later (drop first bytes) ++ take size t ∷ []) (drop-drop (bytes_in later) first bytes))

-- what is left behind a piece of which there is room for the first bytes
pieces-behind : (size : ℕ) (later : List ℕ) (room : ℕ) (bytes : List ℕ) → size ≤ length bytes → 0 < room → pieces_of (pending (size - min size room) later) (drop (min size room) bytes) ≡ left_behind room (take size bytes) (pieces_of later (drop size bytes))
pieces-behind size later room bytes fits some = grind (arith, common_steps, drop-take)

-- a read gives the first bytes of the next piece, as many as there is room for
pub read-step : (bytes given : List ℕ) (at size : ℕ) (later : List ℕ) (room : ℕ) (has_ended : Bool) → bytes_in given ≡ at → at + (size + bytes_in later) ≡ length bytes → 0 < room →
    input_of bytes (given ++ min size room ∷ []) (at + min size room) (pending (size - min size room) later) has_ended ≡ after_read room (input_of bytes given at (size ∷ later) has_ended)
read-step bytes given at size later room has_ended so_far whole some =
    let rest = drop at bytes in
    let fits : size ≤ length rest = omega (arith, length-drop at bytes) in
    let part : take (min size room) (drop (bytes_in given) bytes) ≡ take room (take size rest) = grind (arith, common_steps) in
    let gave : pieces_of (given ++ min size room ∷ []) bytes ≡ pieces_of given bytes ++ take room (take size rest) ∷ [] =
    pieces-more given (min size room) bytes ∙ ap (λ t. pieces_of given bytes ++ t ∷ []) part in
    let left : pieces_of (pending (size - min size room) later) (drop (at + min size room) bytes) ≡ left_behind room (take size rest) (pieces_of later (drop size rest)) =
    ap (pieces_of (pending (size - min size room) later)) (sym (drop-drop (min size room) at bytes)) ∙ pieces-behind size later room rest fits some in
    let no_end : (room == 0) ≡ false = grind arith in
    let input = input_of bytes given at (size ∷ later) has_ended in
    ap (λ (g : List (List ℕ)). record { given = g; left = pieces_of (pending (size - min size room) later) (drop (at + min size room) bytes); has_ended = has_ended }) gave
    ∙ ap (λ (l : List (List ℕ)). record { given = pieces_of given bytes ++ take room (take size rest) ∷ []; left = l; has_ended = has_ended }) left
    ∙ sym (ap (λ b. if b then input else read_on room input.left input) no_end)

-- a length more
bytes_in-more : (sizes : List ℕ) (size : ℕ) → bytes_in (sizes ++ size ∷ []) ≡ bytes_in sizes + size
bytes_in-more [] size = omega arith
bytes_in-more (first ∷ later) size = omega (arith, bytes_in-more later size)

-- what is left of a piece, and the later ones
pending-some : (rest : ℕ) (later : List ℕ) → 0 < rest → pending rest later ≡ rest ∷ later
pending-some rest later some = let e : (rest == 0) ≡ false = grind arith in ap (λ b. if b then later else rest ∷ later) e

bytes_in-pending : (rest : ℕ) (later : List ℕ) → bytes_in (pending rest later) ≡ rest + bytes_in later
bytes_in-pending zero later = omega arith
bytes_in-pending (suc rest) later = ap bytes_in (pending-some (suc rest) later (omega arith))

pending-NoneEmpty : (rest : ℕ) (later : List ℕ) → NoneEmpty later → NoneEmpty (pending rest later)
pending-NoneEmpty zero later all = all
pending-NoneEmpty (suc rest) later all = let some : 0 < suc rest = omega arith in subst NoneEmpty (sym (pending-some (suc rest) later some)) (some, all)

-- a tape with a piece left
pub begun : {size_of_bytes at size : ℕ} {given left later : List ℕ} → size ∷ later ≡ left → IsTape size_of_bytes given at left → IsTape size_of_bytes given at (size ∷ later)
begun {size_of_bytes} {at} {given = given} is tape = subst (IsTape size_of_bytes given at) (sym is) tape

-- a tape behind a read
pub read-IsTape : (size_of_bytes at size count : ℕ) (given later : List ℕ) → count ≤ size → IsTape size_of_bytes given at (size ∷ later) → IsTape size_of_bytes (given ++ count ∷ []) (at + count) (pending (size - count) later)
read-IsTape size_of_bytes at size count given later within tape = record {
  given_so_far = omega (arith, bytes_in-more given count, tape.given_so_far);
  whole = omega (arith, bytes_in-pending (size - count) later, tape.whole);
  not_empty = pending-NoneEmpty (size - count) later tape.not_empty.1;
}

-- the view of a tape behind a read
pub read-view : (bytes given given_then : List ℕ) (at size count : ℕ) (later left : List ℕ) (room : ℕ) (has_ended : Bool) (old : Input (List ℕ)) → given_then ≡ given ++ count ∷ [] → count ≡ min size room → size ∷ later ≡ left
    → input_of bytes given at left has_ended ≡ old → IsTape (length bytes) given at (size ∷ later) → 0 < room → input_of bytes given_then (at + count) (pending (size - count) later) has_ended ≡ after_read room old
read-view bytes given given_then at size count later left room has_ended old gave is_count is_left is_old tape some =
    ap (λ (g : List ℕ). input_of bytes g (at + count) (pending (size - count) later) has_ended) gave
    ∙ ap (λ (n : ℕ). input_of bytes (given ++ n ∷ []) (at + n) (pending (size - n) later) has_ended) is_count
    ∙ read-step bytes given at size later room has_ended tape.given_so_far tape.whole some
    ∙ ap (λ (l : List ℕ). after_read room (input_of bytes given at l has_ended)) is_left
    ∙ ap (after_read room) is_old

-- bytes behind the pieces
pieces_of-behind : (sizes bytes more : List ℕ) → bytes_in sizes ≤ length bytes → pieces_of sizes (bytes ++ more) ≡ pieces_of sizes bytes
pieces_of-behind [] bytes more within = refl
pieces_of-behind (size ∷ later) bytes more within =
    let first : take size (bytes ++ more) ≡ take size bytes = take-append-le size bytes more (omega arith) in
    let rest : drop size (bytes ++ more) ≡ drop size bytes ++ more = drop-append-le size bytes more (omega arith) in
    ap (λ p. p ∷ pieces_of later (drop size (bytes ++ more))) first
    ∙ ap (λ b. take size bytes ∷ pieces_of later b) rest
    ∙ ap (λ l. take size bytes ∷ l) (pieces_of-behind later (drop size bytes) more (omega (arith, length-drop size bytes)))

NoneEmpty-more : (sizes : List ℕ) (size : ℕ) → NoneEmpty sizes → 0 < size → NoneEmpty (sizes ++ size ∷ [])
NoneEmpty-more [] size all some = (some, tt)
NoneEmpty-more (first ∷ later) size all some = (all.0, NoneEmpty-more later size all.1 some)

-- a piece laid behind the others
laid-piece : (bytes sizes piece : List ℕ) (pieces : List (List ℕ)) → 0 < length piece → Laid bytes sizes pieces → Laid (bytes ++ piece) (sizes ++ length piece ∷ []) (pieces ++ piece ∷ [])
laid-piece bytes sizes piece pieces some laid = record {
  pieces_are =
      pieces-more sizes (length piece) (bytes ++ piece)
      ∙ ap (λ l. l ++ take (length piece) (drop (bytes_in sizes) (bytes ++ piece)) ∷ []) (pieces_of-behind sizes bytes piece (omega (arith, laid.whole)) ∙ laid.pieces_are)
      ∙ ap (λ p. pieces ++ p ∷ []) (grind (arith, common_steps, laid.whole));
  whole = omega (arith, bytes_in-more sizes (length piece), length-append bytes piece, laid.whole);
  not_empty = NoneEmpty-more sizes (length piece) laid.not_empty some;
}

pub laid-more : (bytes sizes piece : List ℕ) (pieces : List (List ℕ)) → Laid bytes sizes pieces → Laid (bytes ++ piece) (sizes ++ size_of piece) (pieces ++ full (piece ∷ []))
laid-more bytes sizes [] pieces laid = subst (λ (b : List ℕ). Laid b (sizes ++ []) (pieces ++ [])) (sym (append-nil bytes))
    (subst (λ (s : List ℕ). Laid bytes s (pieces ++ [])) (sym (append-nil sizes)) (subst (Laid bytes sizes) (sym (append-nil pieces)) laid))
laid-more bytes sizes (byte ∷ more) pieces laid = laid-piece bytes sizes (byte ∷ more) pieces (omega arith) laid

-- the lengths of an empty piece, and of one that isn't
pub size_of_empty : (piece : List ℕ) → length piece ≡ 0 → size_of piece ≡ []
size_of_empty [] none = refl
size_of_empty (byte ∷ more) none = absurd (omega (arith, none))

pub size_of_some : (piece : List ℕ) → 0 < length piece → size_of piece ≡ length piece ∷ []
size_of_some [] some = absurd (omega (arith, some))
size_of_some (byte ∷ more) some = refl

-- the pieces of two lists that have a byte
pub full-append : (pieces more : List (List ℕ)) → full (pieces ++ more) ≡ full pieces ++ full more
full-append [] more = refl
full-append ([] ∷ later) more = full-append later more
full-append ((byte ∷ bytes) ∷ later) more = ap (λ l. (byte ∷ bytes) ∷ l) (full-append later more)

-- the pieces laid so far, and one more
pub laid-step : (bytes sizes bytes_then sizes_then piece item : List ℕ) (pieces : List (List ℕ)) (index : ℕ) → index < length pieces → item ≡ get_or pieces index item → piece ≡ item
    → bytes_then ≡ bytes ++ piece → sizes_then ≡ sizes ++ size_of piece → Laid bytes sizes (full (take index pieces)) → Laid bytes_then sizes_then (full (take (index + 1) pieces))
laid-step bytes sizes bytes_then sizes_then piece item pieces index below is_item is_piece is_bytes is_sizes laid =
    let more : full (take index pieces) ++ full (piece ∷ []) ≡ full (take (index + 1) pieces) =
    ap (λ p. full (take index pieces) ++ full (p ∷ [])) (is_piece ∙ is_item) ∙ sym (full-append (take index pieces) (get_or pieces index item ∷ []))
    ∙ ap full (sym (take_more pieces index item below)) in
    subst (λ (b : List ℕ). Laid b sizes_then (full (take (index + 1) pieces))) (sym is_bytes)
    (subst (λ (s : List ℕ). Laid (bytes ++ piece) s (full (take (index + 1) pieces))) (sym is_sizes)
    (subst (Laid (bytes ++ piece) (sizes ++ size_of piece)) more (laid-more bytes sizes piece (full (take index pieces)) laid)))
