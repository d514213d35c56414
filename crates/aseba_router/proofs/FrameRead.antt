-- A frame that is read in pieces.
use Rattle.std.proofs.Common.{◌≡◌, ◌∙◌, inl, inr, ℕ, zero, suc, ◌<◌, Bool, true, false, if◌then◌else◌, List, [], ◌∷◌, ◌++◌, Option, None, Some, IfSome, option_map, take, refl, sym, ap, subst, arith, append-nil, append_assoc, ◌==◌, eqb-true}
use Rattle.std.proofs.lemmas.Grind.{flat_map-append}
use Rattle.aseba_edge.specs.Counts.{Counts}
use Rattle.aseba_edge.specs.Link.{Input, Gave, told_bytes, bytes_given, after_read, read_on, next_bytes}
use Rattle.aseba_edge.specs.Sink.{and_then}
use Rattle.aseba_message.specs.Frames.{is_bad, is_frame, length_word, message_of}
use Rattle.aseba_message.specs.Reader.{answer, begun_len}
use Rattle.aseba_message.specs.Cut.{StandsAt, ended, frames_of, is_too_long, rest_of}
use Rattle.aseba_message.specs.declared.reader.Fed.{Fed}
use Rattle.aseba_message.specs.declared.reader.Fed.TheVariants.{More, Whole, TooLong}
use Rattle.aseba_message.proofs.Streams.{rest-held}
use Rattle.aseba_router.specs.declared.step.Step.TheVariants as step
use Rattle.aseba_message.specs.Message.{Message}
use Rattle.aseba_router.specs.Ends.{Heard, IsAtEnd, IsOneFrame}
use Rattle.aseba_router.specs.Pieces.{IsBegun, PieceRead}

-- what came so far
pub record Begun (before after : Option (Input (List ℕ))) (held : List ℕ) : Type 0 where
  pub bytes : List ℕ
  pub came : Gave before bytes after
  pub begun : IsBegun bytes held

abbrev Contents : Type 0
Contents = Option (Input (List ℕ))

-- nothing came
pub gave-nothing : (before after : Contents) → after ≡ before → Gave before [] after
gave-nothing None after same = record { bytes_are = ap told_bytes same }
gave-nothing (Some input) after same = record { bytes_are = ap told_bytes same ∙ ap Some (sym (append-nil (bytes_given input))) }

not-zero : (n : ℕ) (input : Input (List ℕ)) → after_read (suc n) input ≡ read_on (suc n) input.left input
not-zero n input = ap (λ (b : Bool). if b then input else read_on (suc n) input.left input) none
  where
    none : (suc n == 0) ≡ false
    none = pick (suc n == 0) refl
      where
        pick : (b : Bool) → (suc n == 0) ≡ b → b ≡ false
        pick false e = refl
        pick true e = absurd (omega (arith, eqb-true (suc n) 0 e))

-- the input is at its end, and says so
pub ended-now : (room count : ℕ) (before after : Contents) → IfSome before (λ input. count ≡ 0 → 0 < room → input.left ≡ []) → after ≡ option_map (after_read room) before → count ≡ 0 → 0 < room → Gave before [] after × IfSome after IsAtEnd
ended-now room count None after end given none some = (gave-nothing None after given, subst (λ (c : Contents). IfSome c IsAtEnd) (sym given) tt)
ended-now room count (Some input) after end given none some =
    let is : after_read room input ≡ record input { has_ended = true } = at-end room input some (end none some) in
    let now : after ≡ Some (record input { has_ended = true }) = given ∙ ap Some is in (
      record { bytes_are = ap told_bytes now ∙ ap Some (sym (append-nil (bytes_given input))) },
      subst (λ (c : Contents). IfSome c IsAtEnd) (sym now) (record { left = end none some; said = refl }),
    )
  where
    at-end : (room : ℕ) (input : Input (List ℕ)) → 0 < room → input.left ≡ [] → after_read room input ≡ record input { has_ended = true }
    at-end zero input some end = absurd (omega (arith, some))
    at-end (suc n) input some end = not-zero n input ∙ ap (λ (l : List (List ℕ)). read_on (suc n) l input) end

-- a piece came
pub gave-piece : (room count : ℕ) (buffer : List ℕ) (before after : Contents) → IfSome before (λ input. take count buffer ≡ next_bytes room input.left) → after ≡ option_map (after_read room) before → 0 < room → Gave before (take count buffer) after
gave-piece room count buffer None after bytes given some = record { bytes_are = ap told_bytes given }
gave-piece room count buffer (Some input) after bytes given some =
    record { bytes_are = ap told_bytes given ∙ ap Some (grown room input some ∙ ap (λ l. bytes_given input ++ l) (sym bytes)) }
  where
    by-left : (n : ℕ) (input : Input (List ℕ)) (left : List (List ℕ)) → bytes_given (read_on (suc n) left input) ≡ bytes_given input ++ next_bytes (suc n) left
    by-left n input [] = sym (append-nil (bytes_given input))
    by-left n input (answer ∷ later) = flat_map-append (λ (piece : List ℕ). piece) input.given (take (suc n) answer ∷ []) ∙ ap (λ l. bytes_given input ++ l) (append-nil (take (suc n) answer))

    grown : (room : ℕ) (input : Input (List ℕ)) → 0 < room → bytes_given (after_read room input) ≡ bytes_given input ++ next_bytes room input.left
    grown zero input some = absurd (omega (arith, some))
    grown (suc n) input some = ap bytes_given (not-zero n input) ∙ by-left n input input.left

-- two pieces, one behind the other
pub gave-on : (before mid after : Contents) (one two : List ℕ) → Gave before one mid → Gave mid two after → Gave before (one ++ two) after
gave-on before mid after one two first second =
    record { bytes_are = second.bytes_are ∙ ap (λ t. and_then t two) first.bytes_are ∙ then_then (told_bytes before) one two }
  where
    then_then : (taken : Option (List ℕ)) (one two : List ℕ) → and_then (and_then taken one) two ≡ and_then taken (one ++ two)
    then_then None one two = refl
    then_then (Some bytes) one two = ap Some (append_assoc bytes one two)

-- the link failed
pub read-failed : (bytes held : List ℕ) (before after : Contents) (faults faults' : ℕ) → IsBegun bytes held → after ≡ before → Counts true faults faults' → PieceRead step.Over bytes before after faults faults' held held
read-failed bytes held before after faults faults' begun same count = record {
  piece = [];
  came = gave-nothing before after same;
  failed = true;
  count = count;
  did = (ap frames_of (append-nil bytes) ∙ begun.frames, tt);
}

-- the link is at its end
pub read-ended : (bytes held : List ℕ) (before after : Contents) (faults faults' : ℕ) → IsBegun bytes held → Gave before [] after × IfSome after IsAtEnd → Counts false faults faults' → PieceRead step.Over bytes before after faults faults' held held
read-ended bytes held before after faults faults' begun ended count = record {
  piece = [];
  came = ended.0;
  failed = false;
  count = count;
  did = (ap frames_of (append-nil bytes) ∙ begun.frames, inl ended.1);
}

-- what a piece did that a reader has taken
module _ (bytes held held' piece : List ℕ) (fed : Fed) (before after : Contents) (faults faults' : ℕ) (begun : IsBegun bytes held) (came : Gave before piece after) (count : Counts false faults faults')
    (answers : fed ≡ answer held') (stream : StandsAt (bytes ++ piece) held' × (frames_of (bytes ++ piece) ≡ frames_of bytes ++ ended fed held')) where
  good-of : (f : Fed) → f ≡ answer held' → is_too_long f ≡ false → is_bad held' ≡ false
  good-of f is fine = pick (is_bad held') refl
    where
      pick : (b : Bool) → is_bad held' ≡ b → b ≡ false
      pick false e = refl
      pick true e =
          let long : answer held' ≡ TooLong (length_word held') = ap (λ (b : Bool). if b then TooLong (length_word held') else (if is_frame held' then Whole else More)) e in
          let wrong : true ≡ false = ap is_too_long (sym (is ∙ long)) ∙ fine in absurd cc

  pub piece-more : fed ≡ More → begun_len held < begun_len held' → begun_len held' < 1030 → PieceRead step.More bytes before after faults faults' held held'
  piece-more is longer short = record {
    piece = piece;
    came = came;
    failed = false;
    count = count;
    did = (
      refl,
      record {
        stands = stream.0;
        frames = stream.1 ∙ ap (λ f. frames_of bytes ++ ended f held') is ∙ append-nil (frames_of bytes) ∙ begun.frames;
        good = good-of fed answers (ap is_too_long is);
      },
      longer,
      short,
    );
  }

  pub piece-whole : fed ≡ Whole → PieceRead step.Whole bytes before after faults faults' held held'
  piece-whole is =
      let frame : is_frame held' ≡ true = whole-is (is_bad held') (is_frame held') (sym (sym is ∙ answers)) in
      record {
        piece = piece;
        came = came;
        failed = false;
        count = count;
        did = (
          refl,
          record {
            frames = stream.1 ∙ ap (λ f. frames_of bytes ++ ended f held') is ∙ ap (λ l. l ++ message_of held' ∷ []) begun.frames;
            rest = rest-held (bytes ++ piece) held' stream.0 (good-of fed answers (ap is_too_long is)) ∙ ap (λ (b : Bool). if b then [] else held') frame;
          },
          frame,
        );
      }
    where
      whole-is : (bad frame : Bool) → (if bad then TooLong (length_word held') else (if frame then Whole else More)) ≡ Whole → frame ≡ true
      whole-is true frame e = absurd cc
      whole-is false true e = refl
      whole-is false false e = absurd cc

  pub piece-bad : is_too_long fed ≡ true → is_bad (rest_of (bytes ++ piece)) ≡ is_too_long fed → PieceRead step.Over bytes before after faults faults' held held'
  piece-bad is bad = record {
    piece = piece;
    came = came;
    failed = false;
    count = count;
    did = (stream.1 ∙ ap (λ l. frames_of bytes ++ l) (none fed is) ∙ append-nil (frames_of bytes) ∙ begun.frames, inr (bad ∙ is));
  }
    where
      none : (f : Fed) → is_too_long f ≡ true → ended f held' ≡ []
      none More e = refl
      none Whole e = absurd cc
      none (TooLong len) e = refl

-- without a fault the count stays
still : (failed : Bool) (faults faults' : ℕ) → failed ≡ false → Counts failed faults faults' → faults' ≡ faults
still false faults faults' fine count = count.cause
still true faults faults' fine count = absurd cc

counted-from : (failed : Bool) (first faults faults' : ℕ) → faults ≡ first → Counts failed faults faults' → Counts failed first faults'
counted-from failed first faults faults' same count = subst (λ (n : ℕ). Counts failed n faults') same count

-- the reading of a frame, from its beginning
module _ (before mid after : Contents) (held held' : List ℕ) (first faults faults' : ℕ) (so_far : Begun before mid held) (same : faults ≡ first) where
  pub begun-more : PieceRead step.More so_far.bytes mid after faults faults' held held' → Begun before after held'
  begun-more read = record {
    bytes = so_far.bytes ++ read.piece;
    came = gave-on before mid after so_far.bytes read.piece so_far.came read.came;
    begun = read.did.1;
  }

  pub faults-more : PieceRead step.More so_far.bytes mid after faults faults' held held' → faults' ≡ first
  faults-more read = still read.failed faults faults' read.did.0 read.count ∙ same

  pub begun-whole : (frame : Message) → frame ≡ message_of held' → PieceRead step.Whole so_far.bytes mid after faults faults' held held' → Heard (Some frame) before after first faults'
  begun-whole frame is read = record {
    bytes = so_far.bytes ++ read.piece;
    came = gave-on before mid after so_far.bytes read.piece so_far.came read.came;
    failed = read.failed;
    count = counted-from read.failed first faults faults' same read.count;
    what = (read.did.0, subst (IsOneFrame (so_far.bytes ++ read.piece)) (sym is) read.did.1);
  }

  pub begun-over : PieceRead step.Over so_far.bytes mid after faults faults' held held' → Heard None before after first faults'
  begun-over read = record {
    bytes = so_far.bytes ++ read.piece;
    came = gave-on before mid after so_far.bytes read.piece so_far.came read.came;
    failed = read.failed;
    count = counted-from read.failed first faults faults' same read.count;
    what = read.did;
  }
