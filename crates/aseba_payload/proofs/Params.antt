-- Parameters as a field.
use Rattle.std.proofs.Common.{◌≡◌, ℕ, zero, suc, ◌<◌, ◌≤◌, List, [], ◌∷◌, ◌++◌, length, drop, Result, Ok, Err, refl, sym, ap, subst, ◌∙◌, append_assoc, arith, inl, inr}
use Rattle.std.specs.List.{AllByRecursion, flat_map}
use Rattle.std.specs.Int.{w16, cast_signed, cast_unsigned}
use mir.Val.{Fits}
use Rattle.std.proofs.Math.Facts.{of_z-to_z, to_z-of_z, Fits-of_z, sfits_to_z}
use Rattle.std.proofs.lemmas.Bool.{cases_lt}
use Rattle.std.proofs.lemmas.List.{length-drop, drop-drop}
use Rattle.std.proofs.lemmas.List.Concat.{flat_map-cons}
use Rattle.byteorder.specs.Endian.{little_number}
use Rattle.aseba_tree.specs.declared.description.Param.{Param}
use Rattle.aseba_payload.specs.declared.fault.Fault.{Fault}
use Rattle.aseba_payload.specs.declared.fault.Fault.TheVariants.{Short}
use Rattle.aseba_payload.specs.Layout.{word_bytes, text_bytes, param_bytes, params_bytes, IsParam, HasShortName, AreCounted, text_len, param_len, param_list_len, params_len}
use Rattle.aseba_payload.specs.Reading.{◌>>=◌, word_at, text_at, param_at, list_of_params_at, params_at}
use Rattle.aseba_payload.proofs.Fields.{AreBytes, Took, Took-then, done, done-is, bind_ok, Codec, word-fits, word-codec, text-codec}

abbrev param_of : ℕ → List ℕ → Param
param_of size name = record { size = cast_signed w16 size; name = name }

abbrev name-then : ℕ → List ℕ × List ℕ → Result (Param × List ℕ) Fault
name-then size name = Ok (param_of size name.0, name.1)

abbrev size-then : ℕ × List ℕ → Result (Param × List ℕ) Fault
size-then size = text_at size.1 >>= name-then size.0

-- a parameter that can be spelled
pub record IsGood (p : Param) : Type 0 where
  pub short : HasShortName p
  pub value : IsParam p

param-is : (bytes : List ℕ) → param_at bytes ≡ (word_at bytes >>= size-then)
unfolding param_at
param-is bytes = refl

param-from : (bytes : List ℕ) (size : ℕ) (rest : List ℕ) → word_at bytes ≡ Ok (size, rest) → param_at bytes ≡ (text_at rest >>= name-then size)
param-from bytes size rest e = param-is bytes ∙ ap (λ (r : Result (ℕ × List ℕ) Fault). r >>= size-then) e

param-short : (bytes : List ℕ) → length bytes < param_len bytes → param_at bytes ≡ Err Short
param-short bytes lt =
    elim (cases_lt (length bytes) 2) [
      | inl few ↦ param-is bytes ∙ ap (λ (r : Result (ℕ × List ℕ) Fault). r >>= size-then) (word-codec.short bytes few)
      | inr le ↦
          let size = word-codec.fits bytes le in
          param-from bytes size.0 (drop 2 bytes) size.1
          ∙ ap (λ (r : Result (List ℕ × List ℕ) Fault). r >>= name-then size.0) (text-codec.short (drop 2 bytes) (omega (arith, length-drop 2 bytes)))
    ]

param-fits : (bytes : List ℕ) → param_len bytes ≤ length bytes → (p : Param) × (param_at bytes ≡ Ok (p, drop (param_len bytes) bytes))
param-fits bytes le =
    let size = word-codec.fits bytes (omega arith) in
    let name = text-codec.fits (drop 2 bytes) (omega (arith, length-drop 2 bytes)) in (
      param_of size.0 name.0,
      param-from bytes size.0 (drop 2 bytes) size.1
          ∙ (ap (λ (r : Result (List ℕ × List ℕ) Fault). r >>= name-then size.0) name.1
          ∙ ap (λ (x : List ℕ). done (param_of size.0 name.0, x)) (drop-drop (text_len (drop 2 bytes)) 2 bytes)),
    )

param-again : (p : Param) (rest : List ℕ) → IsGood p → param_at (param_bytes p ++ rest) ≡ Ok (p, rest)
param-again p rest good =
    let size = Fits-of_z {w = w16} {z = p.size} good.value.size in
    let regrouped : param_bytes p ++ rest ≡ word_bytes (cast_unsigned w16 p.size) ++ (text_bytes p.name ++ rest) = append_assoc (word_bytes (cast_unsigned w16 p.size)) (text_bytes p.name) rest in
    ap param_at regrouped
    ∙ (param-from (word_bytes (cast_unsigned w16 p.size) ++ (text_bytes p.name ++ rest)) (cast_unsigned w16 p.size) (text_bytes p.name ++ rest) (word-codec.again (cast_unsigned w16 p.size) (text_bytes p.name ++ rest) size.fits)
    ∙ (ap (λ (r : Result (List ℕ × List ℕ) Fault). r >>= name-then (cast_unsigned w16 p.size)) (text-codec.again p.name rest (record { short = good.short; bytes = good.value.name }))
    ∙ ap (λ (z : _). done (let q : Param = record { size = z; name = p.name } in q, rest)) (to_z-of_z {w = w16} {z = p.size} good.value.size)))

param-found : (bytes : List ℕ) (p : Param) (rest : List ℕ) → AreBytes bytes → param_at bytes ≡ Ok (p, rest) → Took bytes (param_bytes p) rest × IsGood p
param-found bytes p rest all e =
    let size = bind_ok (word_at bytes) size-then (p, rest) (sym (param-is bytes) ∙ e) in
    let name = bind_ok (text_at size.0.1) (name-then size.0.0) (p, rest) size.2 in
    let first = word-codec.found bytes size.0.0 size.0.1 all size.1 in
    let second = text-codec.found size.0.1 name.0.0 name.0.1 first.0.rest_bytes name.1 in
    let both = Took-then bytes (word_bytes size.0.0) size.0.1 (text_bytes name.0.0) name.0.1 first.0 second.0 in
    let small : Fits w16 size.0.0 = record { fits = first.1 } in
    let back : cast_unsigned w16 (cast_signed w16 size.0.0) ≡ size.0.0 = of_z-to_z {w = w16} {n = size.0.0} small in
    let spelled = subst (λ (n : ℕ). Took bytes (word_bytes n ++ text_bytes name.0.0) name.0.1) (sym back) both in
    subst (λ (y : Param × List ℕ). Took bytes (param_bytes y.0) y.1 × IsGood y.0) (done-is (param_of size.0.0 name.0.0, name.0.1) (p, rest) name.2)
    (spelled, record { short = second.1.short; value = record { size = sfits_to_z {w = w16} {n = size.0.0} small; name = second.1.bytes } })

-- ---- lists of them

abbrev others-then : Param → List Param × List ℕ → Result (List Param × List ℕ) Fault
others-then p others = Ok (p ∷ others.0, others.1)

abbrev first-then : ℕ → Param × List ℕ → Result (List Param × List ℕ) Fault
first-then count first = list_of_params_at count first.1 >>= others-then first.0

list-is : (count : ℕ) (bytes : List ℕ) → list_of_params_at (suc count) bytes ≡ (param_at bytes >>= first-then count)
unfolding list_of_params_at
list-is count bytes = refl

list-none : (bytes : List ℕ) → list_of_params_at zero bytes ≡ Ok ([], bytes)
unfolding list_of_params_at
list-none bytes = refl

list-from : (count : ℕ) (bytes : List ℕ) (p : Param) (rest : List ℕ) → param_at bytes ≡ Ok (p, rest) → list_of_params_at (suc count) bytes ≡ (list_of_params_at count rest >>= others-then p)
list-from count bytes p rest e = list-is count bytes ∙ ap (λ (r : Result (Param × List ℕ) Fault). r >>= first-then count) e

list-short : (count : ℕ) (bytes : List ℕ) → length bytes < param_list_len count bytes → list_of_params_at count bytes ≡ Err Short
list-short zero bytes lt = absurd (omega arith)
list-short (suc count) bytes lt =
    elim (cases_lt (length bytes) (param_len bytes)) [
      | inl few ↦ list-is count bytes ∙ ap (λ (r : Result (Param × List ℕ) Fault). r >>= first-then count) (param-short bytes few)
      | inr le ↦
          let first = param-fits bytes le in
          list-from count bytes first.0 (drop (param_len bytes) bytes) first.1
          ∙ ap (λ (r : Result (List Param × List ℕ) Fault). r >>= others-then first.0) (list-short count (drop (param_len bytes) bytes) (omega (arith, length-drop (param_len bytes) bytes)))
    ]

list-fits : (count : ℕ) (bytes : List ℕ) → param_list_len count bytes ≤ length bytes → (ps : List Param) × (list_of_params_at count bytes ≡ Ok (ps, drop (param_list_len count bytes) bytes))
list-fits zero bytes le = ([], list-none bytes)
list-fits (suc count) bytes le =
    let first = param-fits bytes (omega arith) in
    let others = list-fits count (drop (param_len bytes) bytes) (omega (arith, length-drop (param_len bytes) bytes)) in (
      first.0 ∷ others.0,
      list-from count bytes first.0 (drop (param_len bytes) bytes) first.1
          ∙ (ap (λ (r : Result (List Param × List ℕ) Fault). r >>= others-then first.0) others.1
          ∙ ap (λ (x : List ℕ). done (first.0 ∷ others.0, x)) (drop-drop (param_list_len count (drop (param_len bytes) bytes)) (param_len bytes) bytes)),
    )

list-again : (ps : List Param) (rest : List ℕ) → AllByRecursion IsGood ps → list_of_params_at (length ps) (flat_map param_bytes ps ++ rest) ≡ Ok (ps, rest)
list-again [] rest all = list-none rest
list-again (p ∷ ps) rest all =
    let regrouped : flat_map param_bytes (p ∷ ps) ++ rest ≡ param_bytes p ++ (flat_map param_bytes ps ++ rest) =
    ap (λ (x : List ℕ). x ++ rest) (flat_map-cons param_bytes p ps) ∙ append_assoc (param_bytes p) (flat_map param_bytes ps) rest in
    ap (list_of_params_at (suc (length ps))) regrouped
    ∙ (list-from (length ps) (param_bytes p ++ (flat_map param_bytes ps ++ rest)) p (flat_map param_bytes ps ++ rest) (param-again p (flat_map param_bytes ps ++ rest) all.0)
    ∙ ap (λ (r : Result (List Param × List ℕ) Fault). r >>= others-then p) (list-again ps rest all.1))

pub record Listed (count : ℕ) (ps : List Param) : Type 0 where
  pub counted : length ps ≡ count
  pub good : AllByRecursion IsGood ps

list-found : (count : ℕ) (bytes : List ℕ) (ps : List Param) (rest : List ℕ) → AreBytes bytes → list_of_params_at count bytes ≡ Ok (ps, rest) → Took bytes (flat_map param_bytes ps) rest × Listed count ps
list-found zero bytes ps rest all e =
    subst (λ (y : List Param × List ℕ). Took bytes (flat_map param_bytes y.0) y.1 × Listed 0 y.0) (done-is ([], bytes) (ps, rest) (sym (list-none bytes) ∙ e))
    (record { parts = refl; rest_bytes = all }, record { counted = refl; good = tt })
list-found (suc count) bytes ps rest all e =
    let first = bind_ok (param_at bytes) (first-then count) (ps, rest) (sym (list-is count bytes) ∙ e) in
    let others = bind_ok (list_of_params_at count first.0.1) (others-then first.0.0) (ps, rest) first.2 in
    let one = param-found bytes first.0.0 first.0.1 all first.1 in
    let more = list-found count first.0.1 others.0.0 others.0.1 one.0.rest_bytes others.1 in
    let both = Took-then bytes (param_bytes first.0.0) first.0.1 (flat_map param_bytes others.0.0) others.0.1 one.0 more.0 in
    let spelled = subst (λ (x : List ℕ). Took bytes x others.0.1) (sym (flat_map-cons param_bytes first.0.0 others.0.0)) both in
    subst (λ (y : List Param × List ℕ). Took bytes (flat_map param_bytes y.0) y.1 × Listed (suc count) y.0) (done-is (first.0.0 ∷ others.0.0, others.0.1) (ps, rest) others.2)
    (spelled, record { counted = ap suc more.1.counted; good = (one.1, more.1.good) })

-- ---- their count, and the list

pub record AreGood (ps : List Param) : Type 0 where
  pub counted : AreCounted ps
  pub values : AllByRecursion IsParam ps

good-each : (ps : List Param) → AllByRecursion HasShortName ps → AllByRecursion IsParam ps → AllByRecursion IsGood ps
good-each [] short values = tt
good-each (p ∷ ps) short values = (record { short = short.0; value = values.0 }, good-each ps short.1 values.1)

good-short : (ps : List Param) → AllByRecursion IsGood ps → AllByRecursion HasShortName ps
good-short [] good = tt
good-short (p ∷ ps) good = (good.0.short, good-short ps good.1)

good-values : (ps : List Param) → AllByRecursion IsGood ps → AllByRecursion IsParam ps
good-values [] good = tt
good-values (p ∷ ps) good = (good.0.value, good-values ps good.1)

abbrev count-then : ℕ × List ℕ → Result (List Param × List ℕ) Fault
count-then count = list_of_params_at count.0 count.1

params-is : (bytes : List ℕ) → params_at bytes ≡ (word_at bytes >>= count-then)
unfolding params_at
params-is bytes = refl

params-from : (bytes : List ℕ) (count : ℕ) (rest : List ℕ) → word_at bytes ≡ Ok (count, rest) → params_at bytes ≡ list_of_params_at count rest
params-from bytes count rest e = params-is bytes ∙ ap (λ (r : Result (ℕ × List ℕ) Fault). r >>= count-then) e

params-short : (bytes : List ℕ) → length bytes < params_len bytes → params_at bytes ≡ Err Short
params-short bytes lt =
    elim (cases_lt (length bytes) 2) [
      | inl few ↦ params-is bytes ∙ ap (λ (r : Result (ℕ × List ℕ) Fault). r >>= count-then) (word-codec.short bytes few)
      | inr le ↦
          params-from bytes (little_number 2 bytes) (drop 2 bytes) (word-fits bytes le)
          ∙ list-short (little_number 2 bytes) (drop 2 bytes) (omega (arith, length-drop 2 bytes))
    ]

params-fits : (bytes : List ℕ) → params_len bytes ≤ length bytes → (ps : List Param) × (params_at bytes ≡ Ok (ps, drop (params_len bytes) bytes))
params-fits bytes le =
    let list = list-fits (little_number 2 bytes) (drop 2 bytes) (omega (arith, length-drop 2 bytes)) in (
      list.0,
      params-from bytes (little_number 2 bytes) (drop 2 bytes) (word-fits bytes (omega arith))
          ∙ (list.1 ∙ ap (λ (x : List ℕ). done (list.0, x)) (drop-drop (param_list_len (little_number 2 bytes) (drop 2 bytes)) 2 bytes)),
    )

params-again : (ps : List Param) (rest : List ℕ) → AreGood ps → params_at (params_bytes ps ++ rest) ≡ Ok (ps, rest)
params-again ps rest good =
    let regrouped : params_bytes ps ++ rest ≡ word_bytes (length ps) ++ (flat_map param_bytes ps ++ rest) = append_assoc (word_bytes (length ps)) (flat_map param_bytes ps) rest in
    ap params_at regrouped
    ∙ (params-from (word_bytes (length ps) ++ (flat_map param_bytes ps ++ rest)) (length ps) (flat_map param_bytes ps ++ rest) (word-codec.again (length ps) (flat_map param_bytes ps ++ rest) good.counted.few)
    ∙ list-again ps rest (good-each ps good.counted.short good.values))

params-found : (bytes : List ℕ) (ps : List Param) (rest : List ℕ) → AreBytes bytes → params_at bytes ≡ Ok (ps, rest) → Took bytes (params_bytes ps) rest × AreGood ps
params-found bytes ps rest all e =
    let count = bind_ok (word_at bytes) count-then (ps, rest) (sym (params-is bytes) ∙ e) in
    let first = word-codec.found bytes count.0.0 count.0.1 all count.1 in
    let list = list-found count.0.0 count.0.1 ps rest first.0.rest_bytes count.2 in
    let both = Took-then bytes (word_bytes count.0.0) count.0.1 (flat_map param_bytes ps) rest first.0 list.0 in
    let spelled = subst (λ (n : ℕ). Took bytes (word_bytes n ++ flat_map param_bytes ps) rest) (sym list.1.counted) both in
    (spelled, record { counted = record { few = omega (arith, list.1.counted, first.1); short = good-short ps list.1.good }; values = good-values ps list.1.good })

pub params-codec : Codec params_at params_len params_bytes AreGood
params-codec = record { short = params-short; fits = params-fits; again = params-again; found = params-found }
