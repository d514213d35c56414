-- What is read of a payload's bytes is what the definitions say of them.
use Rattle.std.proofs.Common.{◌≡◌, ◌≢◌, ℕ, ◌+◌, ◌-◌, ◌%◌, ◌<◌, ◌≤◌, Bool, true, false, eqb, cond, List, [], ◌∷◌, length, drop, Result, Ok, Err, refl, sym, ap, subst, ◌∙◌, ◌⊎◌, inl, inr, arith}
use Rattle.std.proofs.lemmas.Bool.{cases_lt, eqb-false, ne_eqb}
use Rattle.std.proofs.lemmas.List.{length-drop}
use Rattle.aseba_payload.specs.declared.payload.Payload.{Payload}
use Rattle.aseba_payload.specs.declared.fault.Fault.{Fault}
use Rattle.aseba_payload.specs.declared.fault.Fault.TheVariants.{Short, Long, NotWords, UnknownType, Mem}
use Rattle.aseba_payload.specs.declared.error.PayloadError.{PayloadError}
use Rattle.aseba_payload.specs.declared.error.PayloadError.TheVariants as errors
use Rattle.aseba_payload.specs.Layout.{Layout, fields_len, has_words}
use Rattle.aseba_payload.specs.Rows.{Maker, row_of, kind_of, bytes_of, HasKind, IsPayload}
use Rattle.aseba_payload.specs.Decoding.{Says, HaveFields, GoesOn, HasHalfWord, Tells, Decodes}
use Rattle.aseba_payload.specs.Reading.{◌>>=◌, Fails, fields_at, row_at, payload_at, error_of}
use Rattle.aseba_payload.proofs.Fields.{AreBytes, done, done-is}
use Rattle.aseba_payload.proofs.Layouts.{rest_at, fields-short, fields-fits, fields-found}
use Rattle.aseba_payload.proofs.Short.{can-from, can-short, can-few}
use Rattle.aseba_payload.proofs.RowLaws.{fields-is, row-again, row-makes, Known, row-either, unknown-none, have-read}

abbrev ended : ℕ → Payload × List ℕ → Result Payload Fault
ended len x = cond (eqb (length x.1) 0) (Ok x.0) (Err (Long (len - length x.1)))

payload-from : (kind : ℕ) (bytes : List ℕ) (read : Result (Payload × List ℕ) Fault) → row_at kind bytes ≡ read → payload_at kind bytes ≡ (read >>= ended (length bytes))
payload-from kind bytes read e = ap (λ (r : Result (Payload × List ℕ) Fault). r >>= ended (length bytes)) e

-- ---- what fields come to, by their length

abbrev Reads : ℕ → (l : Layout) → Maker l → Type 0
Reads kind l make = (bytes : List ℕ) → row_at kind bytes ≡ fields_at l make bytes

short-is : (kind : ℕ) (l : Layout) (make : Maker l) → Reads kind l make → (bytes : List ℕ) → length bytes < fields_len l bytes → payload_at kind bytes ≡ Err Short
short-is kind l make read bytes few = payload-from kind bytes (Err Short) (read bytes ∙ fields-short l make bytes few)

-- the payload that is read where the fields are all there, and what comes of the bytes behind them
abbrev come_to : Bool → ℕ → Payload → List ℕ → Result Payload Fault
come_to b len p rest = rest_at b p rest >>= ended len

fits-is : (kind : ℕ) (l : Layout) (make : Maker l) → Reads kind l make → (bytes : List ℕ) → fields_len l bytes ≤ length bytes
    → (p : Payload) × (row_at kind bytes ≡ rest_at (has_words l) p (drop (fields_len l bytes) bytes)) × (payload_at kind bytes ≡ come_to (has_words l) (length bytes) p (drop (fields_len l bytes) bytes))
fits-is kind l make read bytes le =
    let fits = fields-fits l make bytes le in
    (fits.0, read bytes ∙ fits.1, payload-from kind bytes (rest_at (has_words l) fits.0 (drop (fields_len l bytes) bytes)) (read bytes ∙ fits.1))

long-is : (len : ℕ) (p : Payload) (rest : List ℕ) → 0 < length rest → come_to false len p rest ≡ Err (Long (len - length rest))
long-is len p rest some = let behind : eqb (length rest) 0 ≡ false = ne_eqb (length rest) 0 (λ e. omega (arith, e)) in rw behind refl

odd-is : (len : ℕ) (p : Payload) (rest : List ℕ) → length rest % 2 ≡ 1 → come_to true len p rest ≡ Err (NotWords (length rest))
odd-is len p rest odd = rw odd refl

-- ---- a payload

pub says-read : (kind : ℕ) (bytes : List ℕ) (p : Payload) → Says kind bytes p → IsPayload p → payload_at kind bytes ≡ Ok p
says-read kind bytes p says value =
    ap (λ (k : ℕ). payload_at k bytes) says.kind_is
    ∙ (ap (payload_at (kind_of p)) says.spelled
    ∙ payload-from (kind_of p) (bytes_of p) (Ok (p, [])) (row-again p says.named (can-from p says.texts says.few) value))

pub record Told (kind : ℕ) (bytes : List ℕ) (p : Payload) : Type 0 where
  pub says : Says kind bytes p
  pub value : IsPayload p

found-told : (kind : ℕ) (known : Known (row_at kind) kind) (bytes : List ℕ) (p : Payload) → AreBytes bytes → row_at kind bytes ≡ Ok (p, []) → Told kind bytes p
found-told kind known bytes p all e =
    let found = fields-found (row_of known.one).fields (row_of known.one).variant bytes p all (sym (known.read_is bytes) ∙ e) in
    let makes = row-makes known.one known.named found.values found.can found.are in
    subst (Told kind bytes) found.made_is
    (record {
      says = record {
        named = makes.named;
        kind_is = sym known.kind_is ∙ sym makes.kind;
        texts = can-short _ makes.texts;
        few = can-few _ makes.texts;
        spelled = found.spelled ∙ sym makes.spelled;
      };
      value = makes.value;
    })

-- ---- the one verdict

pub data Verdict (kind : ℕ) (bytes : List ℕ) : Type 0 where
  told : (p : Payload) → payload_at kind bytes ≡ Ok p → Told kind bytes p → Verdict kind bytes
  wrong : (f : Fault) → payload_at kind bytes ≡ Err f → f ≢ Mem → Tells kind bytes (error_of kind (length bytes) f) → Verdict kind bytes

known-have : (kind : ℕ) (known : Known (row_at kind) kind) → HaveFields kind (row_of known.one).fields
known-have kind known = record { one = known.one; named = known.named; kind_is = known.kind_is; fields = sym (fields-is known.one) }

verdict-closed : (kind : ℕ) (known : Known (row_at kind) kind) (bytes : List ℕ) (p : Payload) (rest : List ℕ) → AreBytes bytes
    → has_words (row_of known.one).fields ≡ false → fields_len (row_of known.one).fields bytes + length rest ≡ length bytes
    → row_at kind bytes ≡ rest_at false p rest → payload_at kind bytes ≡ come_to false (length bytes) p rest → Verdict kind bytes
verdict-closed kind known bytes p [] all closed len row is = told p is (found-told kind known bytes p all row)
verdict-closed kind known bytes p (b ∷ rest) all closed len row is =
    wrong (Long (length bytes - length (b ∷ rest))) (is ∙ long-is (length bytes) p (b ∷ rest) (omega arith))
    (λ e. cc)
    ((row_of known.one).fields, known-have kind known, record { whole = closed; place = omega arith; more = omega arith })

verdict-open : (kind : ℕ) (known : Known (row_at kind) kind) (bytes : List ℕ) (p : Payload) (rest : List ℕ) (even : Bool) → AreBytes bytes
    → has_words (row_of known.one).fields ≡ true → fields_len (row_of known.one).fields bytes + length rest ≡ length bytes → eqb (length rest % 2) 0 ≡ even
    → row_at kind bytes ≡ rest_at true p rest → payload_at kind bytes ≡ come_to true (length bytes) p rest → Verdict kind bytes
verdict-open kind known bytes p rest true all open_ len test row is =
    let read : row_at kind bytes ≡ Ok (p, []) = row ∙ rw test refl in
    told p (payload-from kind bytes (Ok (p, [])) read) (found-told kind known bytes p all read)
verdict-open kind known bytes p rest false all open_ len test row is =
    let odd : length rest % 2 ≡ 1 = omega (arith, eqb-false (length rest % 2) 0 test) in
    wrong (NotWords (length rest)) (is ∙ odd-is (length bytes) p rest odd)
    (λ e. cc)
    ((row_of known.one).fields, known-have kind known, record { listed = open_; rest = len; odd = odd })

verdict-fits : (kind : ℕ) (known : Known (row_at kind) kind) (bytes : List ℕ) (p : Payload) (words_behind : Bool) → AreBytes bytes
    → has_words (row_of known.one).fields ≡ words_behind → fields_len (row_of known.one).fields bytes ≤ length bytes
    → row_at kind bytes ≡ rest_at words_behind p (drop (fields_len (row_of known.one).fields bytes) bytes)
    → payload_at kind bytes ≡ come_to words_behind (length bytes) p (drop (fields_len (row_of known.one).fields bytes) bytes) → Verdict kind bytes
verdict-fits kind known bytes p true all is le row come =
    verdict-open kind known bytes p (drop (fields_len (row_of known.one).fields bytes) bytes) _ all is (omega (arith, length-drop (fields_len (row_of known.one).fields bytes) bytes)) refl row come
verdict-fits kind known bytes p false all is le row come =
    verdict-closed kind known bytes p (drop (fields_len (row_of known.one).fields bytes) bytes) all is (omega (arith, length-drop (fields_len (row_of known.one).fields bytes) bytes)) row come

pub verdict : (kind : ℕ) (bytes : List ℕ) → AreBytes bytes → Verdict kind bytes
verdict kind bytes all =
    elim (row-either kind) [
      | inl known ↦
          let l = (row_of known.one).fields in
          elim (cases_lt (length bytes) (fields_len l bytes)) [
            | inl few ↦
                wrong Short (short-is kind l (row_of known.one).variant known.read_is bytes few) (λ e. cc) (l, known-have kind known, record { missing = few; place = refl })
            | inr le ↦
                let fits = fits-is kind l (row_of known.one).variant known.read_is bytes le in
                verdict-fits kind known bytes fits.0 (has_words l) all refl le fits.1 fits.2
          ]
      | inr unknown ↦ wrong UnknownType (payload-from kind bytes (Err UnknownType) (unknown bytes)) (λ e. cc) (refl, unknown-none kind unknown)
    ]

-- ---- what is wrong is found

pub record Finds (kind : ℕ) (bytes : List ℕ) (e : PayloadError) : Type 0 where
  pub fault : Fault
  pub read : payload_at kind bytes ≡ Err fault
  pub error : error_of kind (length bytes) fault ≡ e

long-found : (kind : ℕ) (bytes : List ℕ) (l : Layout) (at : ℕ) → HaveFields kind l → GoesOn l bytes at → Finds kind bytes (errors.Long at)
long-found kind bytes l at have goes =
    let make = have-read kind l have in
    let fits = fits-is kind l make.0 make.1 bytes (omega (arith, goes.place, goes.more)) in
    let rest : length (drop (fields_len l bytes) bytes) ≡ length bytes - fields_len l bytes = length-drop (fields_len l bytes) bytes in
    let come = subst (λ (b : Bool). payload_at kind bytes ≡ come_to b (length bytes) fits.0 (drop (fields_len l bytes) bytes)) goes.whole fits.2 in
    record {
      fault = Long (length bytes - length (drop (fields_len l bytes) bytes));
      read = come ∙ long-is (length bytes) fits.0 (drop (fields_len l bytes) bytes) (omega (arith, rest, goes.place, goes.more));
      error = ap (λ (n : ℕ). errors.Long n) (omega (arith, rest, goes.place, goes.more));
    }

odd-found : (kind : ℕ) (bytes : List ℕ) (l : Layout) (len : ℕ) → HaveFields kind l → HasHalfWord l bytes len → Finds kind bytes (errors.NotWords len)
odd-found kind bytes l len have half =
    let make = have-read kind l have in
    let fits = fits-is kind l make.0 make.1 bytes (omega (arith, half.rest)) in
    let rest : length (drop (fields_len l bytes) bytes) ≡ len = omega (arith, length-drop (fields_len l bytes) bytes, half.rest) in
    let come = subst (λ (b : Bool). payload_at kind bytes ≡ come_to b (length bytes) fits.0 (drop (fields_len l bytes) bytes)) half.listed fits.2 in
    record {
      fault = NotWords (length (drop (fields_len l bytes) bytes));
      read = come ∙ odd-is (length bytes) fits.0 (drop (fields_len l bytes) bytes) (rw rest half.odd);
      error = ap (λ (n : ℕ). errors.NotWords n) rest;
    }

unknown-found : (kind : ℕ) (bytes : List ℕ) (other : ℕ) → other ≡ kind → ((p : Payload) → HasKind p → kind_of p ≢ kind) → Finds kind bytes (errors.UnknownType other)
unknown-found kind bytes other same none =
    elim (row-either kind) [
      | inl known ↦ absurd (none known.one known.named known.kind_is)
      | inr unknown ↦
          record {
            fault = UnknownType;
            read = payload-from kind bytes (Err UnknownType) (unknown bytes);
            error = ap (λ (n : ℕ). errors.UnknownType n) (sym same);
          }
    ]

pub tells-found : (kind : ℕ) (bytes : List ℕ) (e : PayloadError) → e ≢ errors.Mem → Tells kind bytes e → Finds kind bytes e
tells-found kind bytes (errors.Short at) some (l, have, ends) =
    let make = have-read kind l have in
    record { fault = Short; read = short-is kind l make.0 make.1 bytes ends.missing; error = ap (λ (n : ℕ). errors.Short n) (sym ends.place) }
tells-found kind bytes (errors.Long at) some (l, have, goes) = long-found kind bytes l at have goes
tells-found kind bytes (errors.NotWords len) some (l, have, half) = odd-found kind bytes l len have half
tells-found kind bytes (errors.UnknownType other) some (same, none) = unknown-found kind bytes other same none
tells-found kind bytes errors.Mem some h = absurd (some refl)

-- ---- what a call answers

abbrev err : Fault → Result Payload Fault
err f = Err f

ok-told : (kind : ℕ) (bytes : List ℕ) (p : Payload) → AreBytes bytes → payload_at kind bytes ≡ Ok p → Told kind bytes p
ok-told kind bytes p all e =
    elim (verdict kind bytes all) [
      | told q is t ↦ subst (Told kind bytes) (done-is q p (sym is ∙ e)) t
      | wrong f is some t ↦ absurd cc
    ]

ok-each : (kind : ℕ) (bytes : List ℕ) (p q : Payload) → payload_at kind bytes ≡ Ok p → IsPayload q → Says kind bytes q → p ≡ q
ok-each kind bytes p q e value says = done-is p q (sym e ∙ says-read kind bytes q says value)

ok-right : (kind : ℕ) (bytes : List ℕ) (p : Payload) (e : PayloadError) → payload_at kind bytes ≡ Ok p → e ≢ errors.Mem → Tells kind bytes e → ⊥
ok-right kind bytes p e is some tells = let found = tells-found kind bytes e some tells in let both : done p ≡ err found.fault = sym is ∙ found.read in cc

err-is : (f g : Fault) → err f ≡ err g → f ≡ g
err-is f g e = cc

fault-tells : (kind : ℕ) (bytes : List ℕ) (f : Fault) → AreBytes bytes → payload_at kind bytes ≡ Err f → Tells kind bytes (error_of kind (length bytes) f)
fault-tells kind bytes f all e =
    elim (verdict kind bytes all) [
      | told q is t ↦ let both : done q ≡ err f = sym is ∙ e in absurd cc
      | wrong g is some t ↦ subst (λ (h : Fault). Tells kind bytes (error_of kind (length bytes) h)) (err-is g f (sym is ∙ e)) t
    ]

err-tells : (kind : ℕ) (bytes : List ℕ) (f : Fault) → AreBytes bytes → Fails f (payload_at kind bytes) → Tells kind bytes (error_of kind (length bytes) f)
err-tells kind bytes Mem all e = tt
err-tells kind bytes Short all e = fault-tells kind bytes Short all e
err-tells kind bytes (Long at) all e = fault-tells kind bytes (Long at) all e
err-tells kind bytes (NotWords len) all e = fault-tells kind bytes (NotWords len) all e
err-tells kind bytes UnknownType all e = fault-tells kind bytes UnknownType all e

fault-never : (kind : ℕ) (bytes : List ℕ) (f : Fault) (q : Payload) → payload_at kind bytes ≡ Err f → IsPayload q → Says kind bytes q → ⊥
fault-never kind bytes f q e value says = let both : done q ≡ err f = sym (says-read kind bytes q says value) ∙ e in cc

err-each : (kind : ℕ) (bytes : List ℕ) (f : Fault) (q : Payload) → Fails f (payload_at kind bytes) → IsPayload q → Says kind bytes q → error_of kind (length bytes) f ≡ errors.Mem
err-each kind bytes Mem q e value says = refl
err-each kind bytes Short q e value says = absurd (fault-never kind bytes Short q e value says)
err-each kind bytes (Long at) q e value says = absurd (fault-never kind bytes (Long at) q e value says)
err-each kind bytes (NotWords len) q e value says = absurd (fault-never kind bytes (NotWords len) q e value says)
err-each kind bytes UnknownType q e value says = absurd (fault-never kind bytes UnknownType q e value says)

fault-same : (kind : ℕ) (bytes : List ℕ) (f : Fault) (e : PayloadError) → payload_at kind bytes ≡ Err f → e ≢ errors.Mem → Tells kind bytes e → error_of kind (length bytes) f ≡ e
fault-same kind bytes f e is some tells =
    let found = tells-found kind bytes e some tells in
    ap (error_of kind (length bytes)) (err-is f found.fault (sym is ∙ found.read)) ∙ found.error

err-fault : (kind : ℕ) (bytes : List ℕ) (f : Fault) (e : PayloadError) → Fails f (payload_at kind bytes) → e ≢ errors.Mem → Tells kind bytes e
    → (error_of kind (length bytes) f ≡ e) ⊎ (error_of kind (length bytes) f ≡ errors.Mem)
err-fault kind bytes Mem e is some tells = inr refl
err-fault kind bytes Short e is some tells = inl (fault-same kind bytes Short e is some tells)
err-fault kind bytes (Long at) e is some tells = inl (fault-same kind bytes (Long at) e is some tells)
err-fault kind bytes (NotWords len) e is some tells = inl (fault-same kind bytes (NotWords len) e is some tells)
err-fault kind bytes UnknownType e is some tells = inl (fault-same kind bytes UnknownType e is some tells)

pub ok-decodes : (kind : ℕ) (bytes : List ℕ) (p : Payload) → AreBytes bytes → payload_at kind bytes ≡ Ok p → Decodes kind bytes (Ok p)
ok-decodes kind bytes p all e = record {
  payload = (ok-told kind bytes p all e).says;
  value = (ok-told kind bytes p all e).value;
  fault = tt;
  each_payload = λ q value says. ok-each kind bytes p q e value says;
  each_fault = λ wrong some tells. ok-right kind bytes p wrong e some tells;
}

pub err-decodes : (kind : ℕ) (bytes : List ℕ) (f : Fault) → AreBytes bytes → Fails f (payload_at kind bytes) → Decodes kind bytes (Err (error_of kind (length bytes) f))
err-decodes kind bytes f all e = record {
  payload = tt;
  value = tt;
  fault = err-tells kind bytes f all e;
  each_payload = λ q value says. err-each kind bytes f q e value says;
  each_fault = λ wrong some tells. err-fault kind bytes f wrong e some tells;
}

-- ---- the laws

pub fault-some : (kind : ℕ) (bytes : List ℕ) (f : Fault) → payload_at kind bytes ≡ Err f → f ≢ Mem → error_of kind (length bytes) f ≢ errors.Mem
fault-some kind bytes Mem read some e = some refl
fault-some kind bytes Short read some e = cc
fault-some kind bytes (Long at) read some e = cc
fault-some kind bytes (NotWords len) read some e = cc
fault-some kind bytes UnknownType read some e = cc

pub some-meaning : (kind : ℕ) (bytes : List ℕ) → AreBytes bytes
    → ((p : Payload) × IsPayload p × Says kind bytes p) ⊎ ((e : PayloadError) × (e ≢ errors.Mem) × Tells kind bytes e)
some-meaning kind bytes all =
    elim (verdict kind bytes all) [
      | told p is t ↦ inl (p, t.value, t.says)
      | wrong f is some t ↦ inr (error_of kind (length bytes) f, fault-some kind bytes f is some, t)
    ]

pub one-payload : (kind : ℕ) (bytes : List ℕ) (p q : Payload) → IsPayload p → IsPayload q → Says kind bytes p → Says kind bytes q → p ≡ q
one-payload kind bytes p q p-value q-value p-says q-says = done-is p q (sym (says-read kind bytes p p-says p-value) ∙ says-read kind bytes q q-says q-value)

pub one-fault : (kind : ℕ) (bytes : List ℕ) (e f : PayloadError) → e ≢ errors.Mem → f ≢ errors.Mem → Tells kind bytes e → Tells kind bytes f → e ≡ f
one-fault kind bytes e f e-some f-some e-tells f-tells =
    let one = tells-found kind bytes e e-some e-tells in
    let other = tells-found kind bytes f f-some f-tells in
    sym one.error ∙ (ap (error_of kind (length bytes)) (err-is one.fault other.fault (sym one.read ∙ other.read)) ∙ other.error)

pub never-both : (kind : ℕ) (bytes : List ℕ) (p : Payload) (e : PayloadError) → IsPayload p → e ≢ errors.Mem → Says kind bytes p → Tells kind bytes e → ⊥
never-both kind bytes p e value some says tells = ok-right kind bytes p e (says-read kind bytes p says value) some tells

-- ---- the rest lies within the bytes

rest-within : (b : Bool) (p : Payload) (rest : List ℕ) (x : Payload × List ℕ) (even : Bool) → eqb (length rest % 2) 0 ≡ even → rest_at b p rest ≡ Ok x → length x.1 ≤ length rest
rest-within false p rest x even test e = let is = done-is (p, rest) x e in let len = ap (λ (y : Payload × List ℕ). length y.1) is in omega (arith, len)
rest-within true p rest x true test e =
    let read : done (p, []) ≡ Ok x = sym (rw test refl) ∙ e in
    let is = done-is (p, []) x read in let len = ap (λ (y : Payload × List ℕ). length y.1) is in omega (arith, len)
rest-within true p rest x false test e = let bad : rest_at true p rest ≡ Err (NotWords (length rest)) = rw test refl in absurd cc

pub row-within : (kind : ℕ) (bytes : List ℕ) (p : Payload) (rest : List ℕ) → row_at kind bytes ≡ Ok (p, rest) → length rest ≤ length bytes
row-within kind bytes p rest e =
    elim (row-either kind) [
      | inl known ↦
          let l = (row_of known.one).fields in
          elim (cases_lt (length bytes) (fields_len l bytes)) [
            | inl few ↦ let short = known.read_is bytes ∙ fields-short l (row_of known.one).variant bytes few in absurd cc
            | inr le ↦
                let fits = fields-fits l (row_of known.one).variant bytes le in
                let within = rest-within (has_words l) fits.0 (drop (fields_len l bytes) bytes) (p, rest) _ refl (sym (known.read_is bytes ∙ fits.1) ∙ e) in
                omega (arith, within, length-drop (fields_len l bytes) bytes)
          ]
      | inr unknown ↦ let none = unknown bytes in absurd cc
    ]
