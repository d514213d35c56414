-- What one token, a level that it opens and a closing token add to an answer.
use Rattle.std.proofs.Common.{◌≡◌, ◌∙◌, ℕ, zero, suc, Bool, true, false, List, [], ◌∷◌, ◌++◌, Option, Some, None, refl, sym, ap, subst}
use denote.Enum.Bare.{true_same}
use Rattle.aseba_tree.specs.declared.token.Token.{Token}
use Rattle.aseba_tree.specs.declared.token.TokenKind.{TokenKind}
use Rattle.aseba_tree.specs.declared.token.Key.{Key}
use Rattle.aseba_tree.specs.declared.token.Sign.{Sign}
use Rattle.aseba_tree.specs.contracts.Key as key_type
use Rattle.aseba_tree.specs.contracts.Sign as sign_type
use Rattle.aseba_tree.specs.Code.{Name}
use Rattle.aseba_tree.specs.Spells.{IsName, IsKey, IsSign}
use Rattle.aseba_tree.specs.Nest.{inside}
use Rattle.aseba_parser.specs.Reading.{Read, taken, wrong, next, opened, expected, is_sign, is_key, Named, named, many}
use Rattle.aseba_parser.proofs.Outcome.{reply, Fits, reply_first, reply_inside, reply_next, reply_map}

pub sign_is : (s : Sign) (t : Token) → IsSign s t → is_sign s t.kind ≡ true
sign_is s t e = ap (λ (k : TokenKind). is_sign s k) e ∙ true_same sign_type.the_type s s refl

pub key_is : (k : Key) (t : Token) → IsKey k t → is_key k t.kind ≡ true
key_is k t e = ap (λ (j : TokenKind). is_key k j) e ∙ true_same key_type.the_type k k refl

-- a token that is wanted
pub reply_expected : {B : Type 0} (fits : TokenKind → Bool) (depth : ℕ) (ns : List ℕ) (t : Token) (tokens : List Token) (b : B) (f : Token → List Token → Read B) → fits t.kind ≡ true → f t tokens ≡ reply depth ns tokens b
    → next (expected fits (t ∷ tokens)) f ≡ reply depth (0 ∷ ns) (t ∷ tokens) b
reply_expected fits depth ns t tokens b f e g =
    ap (λ (q : Bool). next (elim q as (λ c. Read Token) [ true ↦ taken t tokens | false ↦ wrong (t ∷ tokens) ]) f) e ∙ g ∙ sym (reply_first depth ns t tokens b)

named_taken : (t : Token) (tokens : List Token) (name : Name) → IsName name t → named (t ∷ tokens) ≡ taken (record { token = t; name = name }) tokens
named_taken t tokens name e =
    subst (λ (u : Token). named (u ∷ tokens) ≡ taken (record { token = u; name = name }) tokens) (λ i. record { at = t.at; kind = sym e i }) refl

-- a name
pub reply_named : {B : Type 0} (depth : ℕ) (ns : List ℕ) (t : Token) (tokens : List Token) (name : Name) (b : B) (f : Named → List Token → Read B) → IsName name t
    → f (record { token = t; name = name }) tokens ≡ reply depth ns tokens b → next (named (t ∷ tokens)) f ≡ reply depth (0 ∷ ns) (t ∷ tokens) b
reply_named depth ns t tokens name b f e g = ap (λ (r : Read Named). next r f) (named_taken t tokens name e) ∙ g ∙ sym (reply_first depth ns t tokens b)

-- a token that opens a level
pub reply_opened : {A B : Type 0} (pick : ℕ → Option A) (inner : ℕ → A) → pick 0 ≡ None → ((d : ℕ) → pick (suc d) ≡ Some (inner d)) → (depth : ℕ) (ns : List ℕ) (t : Token) (tokens : List Token) (b : B) (f : A → Read B)
    → ((d : ℕ) → f (inner d) ≡ reply d ns tokens b) → opened (pick depth) (t ∷ tokens) f ≡ reply depth (inside (0 ∷ ns)) (t ∷ tokens) b
reply_opened pick inner none some zero ns t tokens b f e = ap (λ (o : Option _). opened o (t ∷ tokens) f) none
reply_opened pick inner none some (suc d) ns t tokens b f e =
    ap (λ (o : Option _). opened o (t ∷ tokens) f) (some d) ∙ e d ∙ sym (reply_first d ns t tokens b) ∙ sym (reply_inside d (0 ∷ ns) (t ∷ tokens) b)

-- a value and the sign that closes what stands round it
pub reply_closed : {A B : Type 0} (sign : Sign) (depth : ℕ) (ns : List ℕ) (used rest : List Token) (closing : Token) (r : Read A) (a : A) (g : A → B) → IsSign sign closing → Fits ns used
    → r ≡ reply depth ns (used ++ closing ∷ rest) a
    → next r (λ e after. next (expected (is_sign sign) after) (λ last behind. taken (g e) behind)) ≡ reply depth (ns ++ 0 ∷ []) (used ++ closing ∷ rest) (g a)
reply_closed sign depth ns used rest closing r a g is_closing fits e =
    ap (λ (x : Read _). next x (λ e after. next (expected (is_sign sign) after) (λ last behind. taken (g e) behind))) e
    ∙ reply_next depth ns (0 ∷ []) used (closing ∷ rest) a (g a) (λ e after. next (expected (is_sign sign) after) (λ last behind. taken (g e) behind)) fits
    (reply_expected (is_sign sign) depth [] closing rest (g a) (λ last behind. taken (g a) behind) (sign_is sign closing is_closing) refl)

-- nothing more of the kind
abbrev pub Stops : (TokenKind → Bool) → List Token → Type 0
Stops begins [] = Unit {0}
Stops begins (t ∷ rest) = begins t.kind ≡ false

pub many_end : {A : Type 0} (begins : TokenKind → Bool) (read : List Token → Read A) (fuel : ℕ) (rest : List Token) → Stops begins rest → many begins read fuel rest ≡ taken [] rest
many_end begins read zero rest stops = refl
many_end begins read (suc fuel) [] stops = refl
many_end {A} begins read (suc fuel) (t ∷ rest) stops =
    ap (λ (q : Bool). elim q as (λ c. Read (List A)) [ true ↦ next (read (t ∷ rest)) (λ a after. next (many begins read fuel after) (λ others behind. taken (a ∷ others) behind)) | false ↦ taken [] (t ∷ rest) ]) stops

-- one more of the kind
pub many_more : {A : Type 0} (begins : TokenKind → Bool) (read : List Token → Read A) (depth fuel : ℕ) (ns ms : List ℕ) (t : Token) (mine after : List Token) (a : A) (others : List A) → begins t.kind ≡ true → Fits ns (t ∷ mine)
    → read (t ∷ (mine ++ after)) ≡ reply depth ns (t ∷ (mine ++ after)) a → many begins read fuel after ≡ reply depth ms after others
    → many begins read (suc fuel) (t ∷ (mine ++ after)) ≡ reply depth (ns ++ ms) (t ∷ (mine ++ after)) (a ∷ others)
many_more {A} begins read depth fuel ns ms t mine after a others begun fits one rest =
    let behind = λ (b : A) (left : List Token). next (many begins read fuel left) (λ more last. taken (b ∷ more) last) in
    ap (λ (q : Bool). elim q as (λ c. Read (List A)) [ true ↦ next (read (t ∷ (mine ++ after))) behind | false ↦ taken [] (t ∷ (mine ++ after)) ]) begun
    ∙ ap (λ (r : Read A). next r behind) one
    ∙ reply_next depth ns ms (t ∷ mine) after a (a ∷ others) behind fits
    (ap (λ (r : Read (List A)). next r (λ more last. taken (a ∷ more) last)) rest ∙ reply_map depth ms after others (a ∷ others) (λ more last. taken (a ∷ more) last) (λ last. refl))
