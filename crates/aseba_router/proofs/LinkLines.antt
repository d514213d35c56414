-- What becomes of a link: it is read, and it takes entries.
use Rattle.std.proofs.Common.{◌≡◌, ◌∙◌, inl, inr, ℕ, ◌<◌, ◌≤◌, ◌==◌, Bool, true, false, if◌then◌else◌, List, [], ◌∷◌, ◌++◌, length, set, Option, None, Some, is_some, MatchBool, refl, sym, ap, subst, arith, append-nil, length-set, eqb-true, eq-eqb}
use Rattle.std.specs.List.{flat_map}
use Rattle.std.proofs.lemmas.Grind.{flat_map-append}
use Rattle.std.proofs.lemmas.List.{get_or-set_same, get_or-set_other}
use Rattle.aseba_edge.specs.Counts.{Counts}
use Rattle.aseba_edge.specs.Link.{Input, Gave}
use Rattle.aseba_edge.proofs.Puts.{took_after, first_after, first_of_more}
use Rattle.aseba_message.specs.Message.{Message}
use Rattle.aseba_message.specs.Frames.{spelling, is_bad}
use Rattle.aseba_message.specs.Cut.{frames_of, rest_of}
use Rattle.aseba_message.proofs.Cuts.{cut-append}
use Rattle.aseba_router.specs.declared.stage.Stage.{Stage}
use Rattle.aseba_router.specs.declared.stage.Stage.TheVariants.{Away, There, Gone}
use Rattle.aseba_router.specs.Ends.{Ends, Heard, IsOver, Wrote, WireState, WireHeard, WireWrote}
use Rattle.aseba_router.specs.Hub.{Put, frame, end}
use Rattle.aseba_router.specs.Taken.{AllLines, IsLine, ReadSoFar, WireTook, ends_at, frames_in, wire_at}
use Rattle.aseba_router.specs.Turns.{Line, pop_more, stage_after, with_line}
use Rattle.aseba_router.proofs.FrameRead.{gave-on}

-- behind whole frames, what remains of a stream is what remains of its last bytes
pub rest-behind : (read bytes : List ℕ) → rest_of read ≡ [] → rest_of (read ++ bytes) ≡ rest_of bytes
rest-behind read bytes none = ap (λ c. c.1) (cut-append read bytes) ∙ ap (λ r. rest_of (r ++ bytes)) none

pub frames-behind : (read bytes : List ℕ) → rest_of read ≡ [] → frames_of (read ++ bytes) ≡ frames_of read ++ frames_of bytes
frames-behind read bytes none = ap (λ c. c.0) (cut-append read bytes) ∙ ap (λ r. frames_of read ++ frames_of (r ++ bytes)) none

-- what a link was read
over-behind : (failed : Bool) (read bytes : List ℕ) (input : Option (Input (List ℕ))) → rest_of read ≡ [] → IsOver failed bytes input → IsOver failed (read ++ bytes) input
over-behind true read bytes input none over = tt
over-behind false read bytes input none (inl ended) = inl ended
over-behind false read bytes input none (inr bad) = inr (ap is_bad (rest-behind read bytes none) ∙ bad)

counts-from : (failed : Bool) (first faults faults' : ℕ) → faults ≡ first → Counts failed faults faults' → Counts failed first faults'
counts-from failed first faults faults' same count = subst (λ (n : ℕ). Counts failed n faults') same count

counts-still : (failed : Bool) (faults faults' : ℕ) → failed ≡ false → Counts failed faults faults' → faults' ≡ faults
counts-still false faults faults' fine count = count.cause
counts-still true faults faults' fine count = absurd cc

reads-on : (heard : Option Message) (read : List ℕ) (before mid after : Ends) (h : Heard heard mid.input after.input mid.read_faults after.read_faults) → ReadSoFar There read before mid
    → ReadSoFar (stage_after heard There) (read ++ h.bytes) before after
reads-on (Some m) read before mid after h so_far =
    (rest-behind read h.bytes so_far.0 ∙ h.what.1.rest, counts-still h.failed mid.read_faults after.read_faults h.what.0 h.count ∙ so_far.1)
reads-on None read before mid after h so_far =
    (h.failed, counts-from h.failed before.read_faults mid.read_faults after.read_faults so_far.1 h.count, over-behind h.failed read h.bytes after.input so_far.0 h.what.1)

stage-then : (heard : Option Message) (stage : Stage) → (if is_some heard then stage else Gone) ≡ stage_after heard stage
stage-then (Some m) stage = refl
stage-then None stage = refl

pub line-heard : (before : Ends) (wire wire' : WireState) (line : Line) (heard : Option Message) → IsLine before wire line → line.stage ≡ There → (h : WireHeard heard wire wire')
    → IsLine before wire' (record line { stage = stage_after heard line.stage; read = line.read ++ h.read.bytes })
line-heard before wire wire' line heard is there h = record {
  stage = ap (λ (w : WireState). w.stage) h.rest ∙ stage-then heard wire.stage ∙ ap (stage_after heard) is.stage;
  came = gave-on before.input wire.ends.input wire'.ends.input line.read h.read.bytes is.came h.read.came;
  reads = subst (λ (s : Stage). ReadSoFar (stage_after heard s) (line.read ++ h.read.bytes) before wire'.ends) (sym there)
      (reads-on heard line.read before wire.ends wire'.ends h.read (subst (λ (s : Stage). ReadSoFar s line.read before wire.ends) there is.reads));
  wrote = subst (λ (w : WireState). Wrote (flat_map spelling (frames_in line.popped)) w.broken before.taken w.ends.taken before.put_faults w.ends.put_faults) (sym h.rest) is.wrote;
  input_mark = ap (λ (w : WireState). w.ends.input_mark) h.rest ∙ is.input_mark;
  output_mark = ap (λ (w : WireState). w.ends.output_mark) h.rest ∙ is.output_mark;
}

-- what a link took
frames_in-append : (xs ys : List Put) → frames_in (xs ++ ys) ≡ frames_in xs ++ frames_in ys
frames_in-append [] ys = refl
frames_in-append (frame f ∷ xs) ys = ap (λ l. f ∷ l) (frames_in-append xs ys)
frames_in-append (end s ∷ xs) ys = frames_in-append xs ys

pub frames_in-both : (xs ys : List Put) → frames_in (xs ++ ys) ≡ frames_in xs ++ frames_in ys
frames_in-both = frames_in-append

text-frame : (popped : List Put) (f : Message) → flat_map spelling (frames_in (popped ++ frame f ∷ [])) ≡ flat_map spelling (frames_in popped) ++ spelling f
text-frame popped f =
    ap (flat_map spelling) (frames_in-append popped (frame f ∷ [])) ∙ flat_map-append spelling (frames_in popped) (f ∷ [])
    ∙ ap (λ l. flat_map spelling (frames_in popped) ++ l) (append-nil (spelling f))

abbrev Bytes : Type 0
Bytes = Option (List ℕ)

wrote-on : (broken' : Bool) (text more : List ℕ) (before mid after : Bytes) (f0 f1 f2 : ℕ) → Wrote text false before mid f0 f1 → Wrote more broken' mid after f1 f2 → Wrote (text ++ more) broken' before after f0 f2
wrote-on false text more before mid after f0 f1 f2 first next = record {
  took = took_after before mid after text more first.took next.took;
  count = counts-from false f0 f1 f2 first.count.cause next.count;
}
wrote-on true text more before mid after f0 f1 f2 first next = record {
  took = first_after before mid after text more first.took next.took;
  count = counts-from true f0 f1 f2 first.count.cause next.count;
}

wrote-broken : (text more : List ℕ) (before after : Bytes) (f0 f1 : ℕ) → Wrote text true before after f0 f1 → Wrote (text ++ more) true before after f0 f1
wrote-broken text more before after f0 f1 first = record { took = first_of_more before text more after first.took; count = first.count }

-- what a link has written, behind a frame that it is given
wrote-frame : (broken : Bool) (before : Ends) (wire wire' : WireState) (text more : List ℕ) → wire.broken ≡ broken → Wrote text broken before.taken wire.ends.taken before.put_faults wire.ends.put_faults
    → MatchBool broken (wire' ≡ wire) (Wrote more wire'.broken wire.ends.taken wire'.ends.taken wire.ends.put_faults wire'.ends.put_faults)
    → Wrote (text ++ more) wire'.broken before.taken wire'.ends.taken before.put_faults wire'.ends.put_faults
wrote-frame true before wire wire' text more is so_far same =
    subst (λ (w : WireState). Wrote (text ++ more) w.broken before.taken w.ends.taken before.put_faults w.ends.put_faults) (sym same)
    (subst (λ (b : Bool). Wrote (text ++ more) b before.taken wire.ends.taken before.put_faults wire.ends.put_faults) (sym is)
    (wrote-broken text more before.taken wire.ends.taken before.put_faults wire.ends.put_faults so_far))
wrote-frame false before wire wire' text more is so_far put =
    wrote-on wire'.broken text more before.taken wire.ends.taken wire'.ends.taken before.put_faults wire.ends.put_faults wire'.ends.put_faults so_far put

still-read : (stage : Stage) (read : List ℕ) (before : Ends) (wire wire' : WireState) → wire'.ends.read_faults ≡ wire.ends.read_faults → wire'.ends.input ≡ wire.ends.input → ReadSoFar stage read before wire.ends → ReadSoFar stage read before wire'.ends
still-read Away read before wire wire' faults input so_far = (so_far.0, so_far.1, faults ∙ so_far.2)
still-read There read before wire wire' faults input so_far = (so_far.0, faults ∙ so_far.1)
still-read Gone read before wire wire' faults input so_far = (
  so_far.0,
  subst (λ (n : ℕ). Counts so_far.0 before.read_faults n) (sym faults) so_far.1,
  subst (λ i. IsOver so_far.0 read i) (sym input) so_far.2,
)

line-frame : (before : Ends) (wire wire' : WireState) (line : Line) (f : Message) → IsLine before wire line → WireWrote f wire wire' → IsLine before wire' (pop_more (frame f) line)
line-frame before wire wire' line f is w = record {
  stage = ap (λ (v : WireState). v.stage) w.rest ∙ is.stage;
  came = subst (Gave before.input line.read) (sym (ap (λ (v : WireState). v.ends.input) w.rest)) is.came;
  reads = still-read line.stage line.read before wire wire' (ap (λ (v : WireState). v.ends.read_faults) w.rest) (ap (λ (v : WireState). v.ends.input) w.rest) is.reads;
  wrote = subst (λ (t : List ℕ). Wrote t wire'.broken before.taken wire'.ends.taken before.put_faults wire'.ends.put_faults) (sym (text-frame line.popped f))
      (wrote-frame wire.broken before wire wire' (flat_map spelling (frames_in line.popped)) (spelling f) refl is.wrote w.put);
  input_mark = ap (λ (v : WireState). v.ends.input_mark) w.rest ∙ is.input_mark;
  output_mark = ap (λ (v : WireState). v.ends.output_mark) w.rest ∙ is.output_mark;
}

pub line-took : (before : Ends) (wire wire' : WireState) (line : Line) (put : Put) → IsLine before wire line → WireTook put wire wire' → IsLine before wire' (pop_more put line)
line-took before wire wire' line (frame f) is took = line-frame before wire wire' line f is took
line-took before wire wire' line (end s) is same =
    subst (λ (w : WireState). IsLine before w (pop_more (end s) line)) (sym same)
    (record {
      stage = is.stage;
      came = is.came;
      reads = is.reads;
      wrote = subst (λ (fs : List Message). Wrote (flat_map spelling fs) wire.broken before.taken wire.ends.taken before.put_faults wire.ends.put_faults) (sym (frames_in-append line.popped (end s ∷ []) ∙ append-nil (frames_in line.popped))) is.wrote;
      input_mark = is.input_mark;
      output_mark = is.output_mark;
    })

-- the session of a link joins
pub line-opened : (before : Ends) (wire : WireState) (line : Line) → IsLine before wire line → line.stage ≡ Away → IsLine before (record wire { stage = There }) (record line { stage = There })
line-opened before wire line is away =
    let so_far : ReadSoFar Away line.read before wire.ends = subst (λ (s : Stage). ReadSoFar s line.read before wire.ends) away is.reads in
    record { stage = refl; came = is.came; reads = (so_far.1, so_far.2); wrote = is.wrote; input_mark = is.input_mark; output_mark = is.output_mark }

pub no-clash : {b : Bool} → b ≡ true → b ≡ false → ⊥
no-clash is isnt = clash (sym is ∙ isnt)
  where
    clash : true ≡ false → ⊥
    clash e = absurd cc

-- one link is changed, and the others stay
pub lines-set : (places p : ℕ) (before : List Ends) (wires : List WireState) (lines : ℕ → Line) (wire : WireState) (line : Line) → p < places → p < length wires → AllLines places before wires lines → IsLine (ends_at before p) wire line
    → AllLines places before (set wires p wire) (with_line p line lines)
lines-set places p before wires lines wire line placed within all is = record {
  count = length-set wires p wire ∙ all.count;
  each = λ q h. by_place q (q == p) refl (omega (arith, h, length-set wires p wire));
  others = λ q h. past q (q == p) refl h;
}
  where
    by_place : (q : ℕ) (c : Bool) → (q == p) ≡ c → q < length wires → IsLine (ends_at before q) (wire_at (set wires p wire) q) (if c then line else lines q)
    by_place q true e h =
        let same : q ≡ p = eqb-true q p e in
        subst (λ (n : ℕ). IsLine (ends_at before n) (wire_at (set wires p wire) n) line) (sym same)
        (subst (λ (w : WireState). IsLine (ends_at before p) w line) (sym (get_or-set_same wires p wire _ within)) is)
    by_place q false e h =
        let other : q ≡ p → ⊥ = λ eq. no-clash (eq-eqb q p eq) e in
        subst (λ (w : WireState). IsLine (ends_at before q) w (lines q)) (sym (get_or-set_other wires p q wire _ other)) (all.each q h)

    past : (q : ℕ) (c : Bool) → (q == p) ≡ c → places ≤ q → (if c then line else lines q).stage ≡ Away
    past q true e h = absurd (omega (arith, h, placed, eqb-true q p e))
    past q false e h = all.others q h
