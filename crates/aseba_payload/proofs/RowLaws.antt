-- The rows: which one is read for a type, and that a payload is read from its own bytes. A law of all rows is one line for the event and one for the others.
use Rattle.std.proofs.Common.{◌≡◌, ℕ, Bool, true, false, eqb, cond, List, [], ◌∷◌, map, drop, Result, Ok, Err, refl, sym, ap, subst, ◌∙◌, ◌⊎◌, inl, inr, arith}
use Rattle.std.proofs.lemmas.Bool.{cases_lt, lt-ltb, le-ltb, eqb-true}
use Rattle.aseba_payload.specs.declared.payload.Payload.{Payload}
use Rattle.aseba_payload.specs.declared.payload.Payload.TheVariants.{User}
use Rattle.aseba_payload.specs.declared.fault.Fault.{Fault}
use Rattle.aseba_payload.specs.declared.fault.Fault.TheVariants.{UnknownType}
use Rattle.aseba_payload.specs.Layout.{Layout, words, Values, spelling, CanSpell, AreValues, fields_len, has_words}
use Rattle.aseba_payload.specs.Rows.{Maker, Row, by_row, row_of, samples, kind_of, fields_of, bytes_of, HasKind, CanBeSpelled, IsPayload}
use Rattle.aseba_payload.specs.Decoding.{HaveFields}
use Rattle.aseba_payload.specs.Reading.{fields_at, row_among, row_at}
use Rattle.aseba_payload.proofs.Layouts.{made, rest_at, fields-short, fields-fits, fields-again}

-- a payload's row and values
pub record Said : Type 0 where
  pub row : Row
  pub values : Values row.fields

abbrev pub said : Payload → Said
said = by_row (λ kind l variant vs. record { row = record { kind = kind; fields = l; variant = variant }; values = vs })

abbrev is_named : Payload → Bool
is_named (User kind ws) = false
is_named p = true

named-has_kind : (p : Payload) → is_named p ≡ true → HasKind p
named-has_kind (User kind ws) e = absurd cc
named-has_kind p e = tt

kind-is : (p : Payload) → (row_of p).kind ≡ kind_of p
kind-is (User kind ws) = refl
kind-is p = refl

pub fields-is : (p : Payload) → (row_of p).fields ≡ fields_of p
fields-is (User kind ws) = refl
fields-is p = refl

-- of each payload's type its row is read
pub row-known : (p : Payload) → HasKind p → (bytes : List ℕ) → row_at (kind_of p) bytes ≡ fields_at (row_of p).fields (row_of p).variant bytes
row-known (User kind ws) small bytes = rw (lt-ltb kind 0x8000 small) refl
row-known p named bytes = refl

-- a payload is read from its bytes
pub row-again : (p : Payload) → HasKind p → CanBeSpelled p → IsPayload p → row_at (kind_of p) (bytes_of p) ≡ Ok (p, [])
row-again (User kind ws) small texts value = row-known (User kind ws) small (bytes_of (User kind ws)) ∙ fields-again words (User kind) ws texts value
row-again p named texts value = fields-again (said p).row.fields (said p).row.variant (said p).values texts value

-- what a row makes of values
pub record Makes (q : Payload) (vs : Values (row_of q).fields) (p : Payload) : Type 0 where
  pub named : HasKind p
  pub kind : kind_of p ≡ kind_of q
  pub texts : CanBeSpelled p
  pub value : IsPayload p
  pub spelled : bytes_of p ≡ spelling (row_of q).fields vs

pub row-makes : (q : Payload) → HasKind q → (vs : Values (row_of q).fields) → CanSpell (row_of q).fields vs → AreValues (row_of q).fields vs → Makes q vs (made (row_of q).fields (row_of q).variant vs)
row-makes (User kind ws) small vs can are = record { named = small; kind = refl; texts = can; value = are; spelled = refl }
row-makes q named vs can are = record { named = tt; kind = refl; texts = can; value = are; spelled = refl }

-- ---- which row a type has

-- a payload of a type, whose row is read by the function
pub record Known (read : List ℕ → Result (Payload × List ℕ) Fault) (kind : ℕ) : Type 0 where
  pub one : Payload
  pub named : HasKind one
  pub kind_is : kind_of one ≡ kind
  pub read_is : (bytes : List ℕ) → read bytes ≡ fields_at (row_of one).fields (row_of one).variant bytes

abbrev Unknown : (List ℕ → Result (Payload × List ℕ) Fault) → Type 0
Unknown read = (bytes : List ℕ) → read bytes ≡ Err UnknownType

abbrev among : List Payload → ℕ → List ℕ → Result (Payload × List ℕ) Fault
among qs kind bytes = row_among (map row_of qs) kind bytes

and-both : (a b : Bool) → cond a b false ≡ true → (a ≡ true) × (b ≡ true)
and-both true b e = (refl, e)
and-both false b e = absurd cc

among-step : (q : Payload) (qs : List Payload) (kind : ℕ) (test : Bool) → is_named q ≡ true → eqb kind (row_of q).kind ≡ test → Known (among qs kind) kind ⊎ Unknown (among qs kind) → Known (among (q ∷ qs) kind) kind ⊎ Unknown (among (q ∷ qs) kind)
among-step q qs kind true named e others =
    inl (record {
      one = q;
      named = named-has_kind q named;
      kind_is = sym (kind-is q) ∙ sym (eqb-true kind (row_of q).kind e);
      read_is = λ bytes. rw e refl;
    })
among-step q qs kind false named e (inl known) =
    inl (record {
      one = known.one;
      named = known.named;
      kind_is = known.kind_is;
      read_is = λ bytes. rw e (known.read_is bytes);
    })
among-step q qs kind false named e (inr unknown) = inr (λ bytes. rw e (unknown bytes))

abbrev all_named : List Payload → Bool
all_named [] = true
all_named (q ∷ qs) = cond (is_named q) (all_named qs) false

among-either : (qs : List Payload) (kind : ℕ) → all_named qs ≡ true → Known (among qs kind) kind ⊎ Unknown (among qs kind)
among-either [] kind all = inr (λ bytes. refl)
among-either (q ∷ qs) kind all =
    let both = and-both (is_named q) (all_named qs) all in
    among-step q qs kind (eqb kind (row_of q).kind) both.0 refl (among-either qs kind both.1)

pub row-either : (kind : ℕ) → Known (row_at kind) kind ⊎ Unknown (row_at kind)
row-either kind =
    elim (cases_lt kind 0x8000) [
      | inl small ↦ inl (record { one = User kind []; named = small; kind_is = refl; read_is = row-known (User kind []) small })
      | inr le ↦ let large = le-ltb kind 0x8000 le in
          elim (among-either samples kind refl) [
            | inl known ↦ inl (record { one = known.one; named = known.named; kind_is = known.kind_is; read_is = λ bytes. rw large (known.read_is bytes) })
            | inr unknown ↦ inr (λ bytes. rw large (unknown bytes))
          ]
    ]

-- fields are never of an unknown type
rest-known : (b : Bool) (p : Payload) → rest_at b p [] ≡ Err UnknownType → ⊥
rest-known true p e = cc
rest-known false p e = cc

fields-known : (l : Layout) (make : Maker l) → fields_at l make [] ≡ Err UnknownType → ⊥
fields-known l make e =
    elim (cases_lt 0 (fields_len l [])) [
      | inl few ↦ let short = fields-short l make [] few in cc
      | inr le ↦
          let fits = fields-fits l make [] le in
          let none : fields_len l [] ≡ 0 = omega arith in
          let here = subst (λ (n : ℕ). fields_at l make [] ≡ rest_at (has_words l) fits.0 (drop n [])) none fits.1 in
          rest-known (has_words l) fits.0 (sym here ∙ e)
    ]

pub unknown-none : (kind : ℕ) → Unknown (row_at kind) → (p : Payload) → HasKind p → kind_of p ≡ kind → ⊥
unknown-none kind unknown p named e =
    fields-known (row_of p).fields (row_of p).variant (sym (row-known p named []) ∙ (ap (λ (k : ℕ). row_at k []) e ∙ unknown []))

-- how the fields of a type are read
pub have-read : (kind : ℕ) (l : Layout) → HaveFields kind l → (make : Maker l) × ((bytes : List ℕ) → row_at kind bytes ≡ fields_at l make bytes)
have-read kind l have =
    subst (λ (k : ℕ). (make : Maker l) × ((bytes : List ℕ) → row_at k bytes ≡ fields_at l make bytes)) have.kind_is
    (subst (λ (m : Layout). (make : Maker m) × ((bytes : List ℕ) → row_at (kind_of have.one) bytes ≡ fields_at m make bytes)) (fields-is have.one ∙ have.fields)
    ((row_of have.one).variant, row-known have.one have.named))
