-- What `clap` finds in the words of a tool.
use Rattle.std.proofs.Common.{◌≡◌, ◌∙◌, ◌&&◌, ℕ, Bool, true, false, refl, sym, ap, subst, List, [], ◌∷◌, length, Option, Some, None, Result, Ok, Err, inl, inr, nat_lt, lt-ltb, ltb-true, true≢false}
use Rattle.std.specs.Prelude.{option_and_then}
use Rattle.std.specs.Char.{digit_value}
use Rattle.std.specs.List.{list_all}
use Rattle.std.specs.Str.Parse.{AllDigits, ParsesUnsigned, digits_value, without_leading_plus}
use Rattle.clap.specs.Words.{App, HasKind, IsAmong, ReadsOne, Row, Text, fault_of, is_simple, is_simple_and_free, kind_of, matches_of}
use Rattle.clap.specs.declared.error.kind.ErrorKind.{ErrorKind}
use Rattle.clap.specs.declared.error.kind.ErrorKind.TheVariants.{OutOfMemory}
use Rattle.clap.specs.declared.error.Error.{Error}
use Rattle.clap.specs.Kinds.{Kinds}
use Rattle.aseba_tools.specs.Words.{Word, app, found, number_in, without_fault}

both : (a b : Bool) → (a && b) ≡ true → (a ≡ true) × (b ≡ true)
both true b e = (refl, e)
both false b e = absurd (true≢false (sym e))

-- words without a fault are found
found_rows : (wanted : List Word) (given : List Text) (rows : List Row) → fault_of (app wanted) given ≡ [] → rows ≡ matches_of (app wanted) given → found wanted given ≡ Some rows
unfolding found
found_rows wanted given rows none are = ap (λ kinds. without_fault kinds (matches_of (app wanted) given)) none ∙ ap Some (sym are)

-- and words with one aren't
faulty : (kinds : Kinds) (rows : List Row) (kind : ErrorKind) → IsAmong kind kinds → without_fault kinds rows ≡ None
faulty [] rows kind among = absurd among
faulty (k ∷ ks) rows kind among = refl

not_found : (wanted : List Word) (given : List Text) (kind : ErrorKind) → IsAmong kind (fault_of (app wanted) given) → found wanted given ≡ None
unfolding found
not_found wanted given kind among = faulty (fault_of (app wanted) given) (matches_of (app wanted) given) kind among

-- an error that isn't want of memory tells that the words are none of those
pub not_taken : (wanted : List Word) (given : List Text) (command : App) (error : Error) → is_simple_and_free (app wanted) ≡ true → command ≡ app wanted
    → (is_simple_and_free command ≡ true → HasKind (fault_of command given) error) → (kind_of error ≡ OutOfMemory → ⊥) → found wanted given ≡ None
not_taken wanted given command error simple same kinds other = elim (kinds (ap is_simple_and_free same ∙ simple)) [
  | inl memory ↦ absurd (other memory)
  | inr among ↦ not_found wanted given (kind_of error) (subst (λ (a : App). IsAmong (kind_of error) (fault_of a given)) same among)
]

-- where there is none, they are
pub is_taken : (wanted : List Word) (given : List Text) (command : App) (rows : List Row) → is_simple_and_free (app wanted) ≡ true → command ≡ app wanted
    → (is_simple_and_free command ≡ true → fault_of command given ≡ []) → (is_simple command ≡ true → rows ≡ matches_of command given) → found wanted given ≡ Some rows
is_taken wanted given command rows simple same none are =
    found_rows wanted given rows (ap (λ a. fault_of a given) (sym same) ∙ none (ap is_simple_and_free same ∙ simple)) (are (ap is_simple same ∙ (both _ _ simple).0) ∙ ap (λ a. matches_of a given) same)

digits_pass : (ds : List ℕ) → AllDigits 10 ds → list_all (λ d. nat_lt (digit_value d) 10) ds ≡ true
digits_pass [] h = refl
digits_pass (d ∷ ds) h = rw (lt-ltb (digit_value d) 10 h.0) (digits_pass ds h.1)

digits_from : (ds : List ℕ) → list_all (λ d. nat_lt (digit_value d) 10) ds ≡ true → AllDigits 10 ds
digits_from [] e = tt
digits_from (d ∷ ds) e =
    let parts = both _ _ e in
    (ltb-true _ _ parts.0, digits_from ds parts.1)

abbrev is_number : List ℕ → Bool
is_number ds = nat_lt 0 (length ds) && list_all (λ d. nat_lt (digit_value d) 10) ds && nat_lt (digits_value 10 ds) 4294967296

-- a text that is read as a number spells it
number_ok : (E : Type 0) (text : Text) (n : ℕ) → ParsesUnsigned {E = E} 32 10 text (Ok n) → Some n ≡ number_in text
number_ok E text n h =
    let ds = without_leading_plus text in
    rw (lt-ltb 0 (length ds) h.0.0.0, digits_pass ds h.0.0.1, lt-ltb (digits_value 10 ds) 4294967296 h.0.1) (ap Some h.1)

-- and one that isn't spells none
number_err : (E : Type 0) (text : Text) (e : E) → ParsesUnsigned {E = E} 32 10 text (Err e) → None ≡ number_in text
number_err E text e h = go (is_number (without_leading_plus text)) refl
  where
    go : (b : Bool) → is_number (without_leading_plus text) ≡ b → None ≡ number_in text
    go false t = rw t refl
    go true t =
        let outer = both _ _ t in
        let inner = both _ _ outer.0 in
        absurd (h ((ltb-true _ _ inner.0, digits_from (without_leading_plus text) inner.1), ltb-true _ _ outer.1))

read_text : (E : Type 0) (G : Text → Result ℕ E → Type 0) → ((u : Text) (x : Result ℕ E) → G u x → ParsesUnsigned 32 10 u x) → (text : Text) (r : Option ℕ) → ReadsOne G text r → r ≡ number_in text
read_text E G only text (Some n) h = number_ok E text n (only text (Ok n) h)
read_text E G only text None h = number_err E text h.0 (only text (Err h.0) h.1)

-- a number that is read of a text that may be there
pub read_number : (E : Type 0) (G : Text → Result ℕ E → Type 0) → ((u : Text) (x : Result ℕ E) → G u x → ParsesUnsigned 32 10 u x) → (text : Option Text) (r : Option ℕ) → (text ≡ None → r ≡ None)
    → ((t : Text) → text ≡ Some t → ReadsOne G t r) → r ≡ option_and_then number_in text
read_number E G only None r none value = none refl
read_number E G only (Some t) r none value = read_text E G only t r (value t refl)
