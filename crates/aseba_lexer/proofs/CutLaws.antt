-- A text is cut in one way, up to where nothing begins.
use Rattle.std.proofs.Common.{◌≡◌, ◌∙◌, ℕ, zero, suc, ◌≤◌, ◌⊎◌, inl, inr, List, [], ◌∷◌, ◌++◌, length, take, drop, Ok, Err, refl, sym, ap, subst, arith, length-drop, take-append-drop}
use Rattle.std.proofs.Math.Seq.{take-append_seam, drop-append_seam}
use Rattle.aseba_tree.specs.declared.pos.Pos.{Pos}
use Rattle.aseba_tree.specs.declared.token.Token.{Token}
use Rattle.aseba_tree.specs.declared.token.TokenKind.{TokenKind}
use Rattle.aseba_tree.specs.Tokens.{first_place, behind, Gap, blank, line_comment, closed_comment, Spelling, Cut, nothing, gap, token, Tokens, LexFault, bad_byte, bad_number, open_comment, Stuck, LexFaultAt}
use Rattle.aseba_lexer.specs.declared.error.LexError.{LexError}
use Rattle.aseba_lexer.specs.Found.{Found, gap_of, token_of, wrong, found, error_of, IsStep}
use Rattle.aseba_lexer.specs.Lexed.{TellsFault, IsDecided}
use Rattle.aseba_lexer.proofs.FoundLaws.{gap-found, token-found, stuck-found, Begins, found-begins}

-- A cut goes on at its end.
cut-gap : {at : Pos} {text : List ℕ} {tokens : List Token} {end : Pos} {rest : List ℕ} → Cut at text tokens end rest → (bytes more : List ℕ) → rest ≡ bytes ++ more → Gap bytes more
    → Cut at text tokens (behind end bytes) more
cut-gap (nothing ek ee er) bytes more e g = gap bytes more (sym er ∙ e) g (nothing ek (ap (λ (p : Pos). behind p bytes) ee) refl)
cut-gap (gap b m f h c) bytes more e g = gap b m f h (cut-gap c bytes more e g)
cut-gap (token b m kind others f s ek c) bytes more e g = token b m kind others f s ek (cut-gap c bytes more e g)

cut-token : {at : Pos} {text : List ℕ} {tokens : List Token} {end : Pos} {rest : List ℕ} → Cut at text tokens end rest → (bytes more : List ℕ) (kind : TokenKind) → rest ≡ bytes ++ more → Spelling bytes more kind
    → Cut at text (tokens ++ record { at = end; kind = kind } ∷ []) (behind end bytes) more
cut-token {end = end} (nothing ek ee er) bytes more kind e g =
    token bytes more kind [] (sym er ∙ e) g (ap (λ (k : List Token). k ++ record { at = end; kind = kind } ∷ []) ek ∙ ap (λ (p : Pos). record { at = p; kind = kind } ∷ []) ee) (nothing refl (ap (λ (p : Pos). behind p bytes) ee) refl)
cut-token (gap b m f h c) bytes more kind e g = gap b m f h (cut-token c bytes more kind e g)
cut-token {end = end} (token b m k others f s ek c) bytes more kind e g =
    token b m k (others ++ record { at = end; kind = kind } ∷ []) f s (ap (λ (l : List Token). l ++ record { at = end; kind = kind } ∷ []) ek) (cut-token c bytes more kind e g)

-- Its end is the place behind what it cut.
behind-append : (at : Pos) (bytes more : List ℕ) → behind at (bytes ++ more) ≡ behind (behind at bytes) more
behind-append at [] more = refl
behind-append at (b ∷ bytes) more = behind-append (behind at (b ∷ [])) bytes more

cut-place : {at : Pos} {text : List ℕ} {tokens : List Token} {end : Pos} {rest : List ℕ} → Cut at text tokens end rest → behind end rest ≡ behind at text
cut-place (nothing ek ee er) = cc
cut-place {at = at} (gap b m f h c) = cut-place c ∙ sym (ap (λ (t : List ℕ). behind at t) f ∙ behind-append at b m)
cut-place {at = at} (token b m k others f s ek c) = cut-place c ∙ sym (ap (λ (t : List ℕ). behind at t) f ∙ behind-append at b m)

-- Nothing begins at the end of a text, nor where nothing is found.
abbrev Ends : Found → Type 0
Ends (gap_of n) = n ≡ 0
Ends (token_of n kind) = ⊥
Ends (wrong fault) = Unit {0}

gap-positive : (bytes rest : List ℕ) → Gap bytes rest → 1 ≤ length bytes
gap-positive bytes rest (blank b w e) = subst (λ (t : List ℕ). 1 ≤ length t) (sym e) (omega arith)
gap-positive bytes rest (line_comment said e n all end) = subst (λ (t : List ℕ). 1 ≤ length t) (sym e) (omega arith)
gap-positive bytes rest (closed_comment said e n) = subst (λ (t : List ℕ). 1 ≤ length t) (sym e) (omega arith)

no-gap : (rest : List ℕ) → Ends (found rest) → (bytes more : List ℕ) → rest ≡ bytes ++ more → Gap bytes more → ⊥
no-gap rest s bytes more e g =
    let empty : length bytes ≡ 0 = subst (λ (f : Found). Ends f) (ap (λ (t : List ℕ). found t) e ∙ gap-found bytes more g) s in
    omega (arith, empty, gap-positive bytes more g)

no-token : (rest : List ℕ) → Ends (found rest) → (bytes more : List ℕ) (kind : TokenKind) → rest ≡ bytes ++ more → Spelling bytes more kind → ⊥
no-token rest s bytes more kind e g = subst (λ (f : Found). Ends f) (ap (λ (t : List ℕ). found t) e ∙ token-found bytes more kind g) s

fault-ends : (rest : List ℕ) (fault : LexFault) → Stuck rest fault → Ends (found rest)
fault-ends rest fault s = subst (λ (f : Found). Ends f) (sym (stuck-found rest fault s)) tt

record IsSame (end end' : Pos) (rest rest' : List ℕ) (tokens tokens' : List Token) : Type 0 where
  ends : end ≡ end'
  rests : rest ≡ rest'
  lists : tokens ≡ tokens'

-- two pieces of one text with as many bytes are the same
same-front : (text bytes more bytes' more' : List ℕ) → text ≡ bytes ++ more → text ≡ bytes' ++ more' → length bytes ≡ length bytes' → (bytes' ≡ bytes) × (more' ≡ more)
same-front text bytes more bytes' more' e f h = (
  sym (take-append_seam bytes' more') ∙ ap (λ (t : List ℕ). take (length bytes') t) (sym f ∙ e) ∙ ap (λ (n : ℕ). take n (bytes ++ more)) (sym h) ∙ take-append_seam bytes more,
  sym (drop-append_seam bytes' more') ∙ ap (λ (t : List ℕ). drop (length bytes') t) (sym f ∙ e) ∙ ap (λ (n : ℕ). drop n (bytes ++ more)) (sym h) ∙ drop-append_seam bytes more,
)

moved : (at : Pos) (bytes bytes' more more' : List ℕ) (tokens : List Token) (end : Pos) (rest : List ℕ) → (bytes' ≡ bytes) × (more' ≡ more) → Cut (behind at bytes') more' tokens end rest → Cut (behind at bytes) more tokens end rest
moved at bytes bytes' more more' tokens end rest e c =
    subst (λ (b : List ℕ). Cut (behind at b) more tokens end rest) (e.0) (subst (λ (m : List ℕ). Cut (behind at bytes') m tokens end rest) (e.1) c)

one-cut : {end end' : Pos} {rest rest' : List ℕ} → Ends (found rest) → Ends (found rest') → {at : Pos} {text : List ℕ} {tokens tokens' : List Token}
    → Cut at text tokens end rest → Cut at text tokens' end' rest' → IsSame end end' rest rest' tokens tokens'
one-cut s s' (nothing ek ee er) (nothing ek' ee' er') = record { ends = cc; rests = cc; lists = cc }
one-cut {rest = rest} s s' (nothing ek ee er) (gap b m f g c) = absurd (no-gap rest s b m (er ∙ f) g)
one-cut {rest = rest} s s' (nothing ek ee er) (token b m k o f g e c) = absurd (no-token rest s b m k (er ∙ f) g)
one-cut {rest' = rest'} s s' (gap b m f g c) (nothing ek ee er) = absurd (no-gap rest' s' b m (er ∙ f) g)
one-cut {rest' = rest'} s s' (token b m k o f g e c) (nothing ek ee er) = absurd (no-token rest' s' b m k (er ∙ f) g)
one-cut s s' {at = at} {text = text} {tokens' = tokens'} (gap b m f g c) (gap b' m' f' g' c') =
    let both : gap_of (length b) ≡ gap_of (length b') = sym (ap (λ (t : List ℕ). found t) f ∙ gap-found b m g) ∙ (ap (λ (t : List ℕ). found t) f' ∙ gap-found b' m' g') in
    let count : length b ≡ length b' = cc in
    one-cut s s' c (moved at b b' m m' _ _ _ (same-front text b m b' m' f f' count) c')
one-cut s s' (gap b m f g c) (token b' m' k' o' f' g' e' c') =
    let both : gap_of (length b) ≡ token_of (length b') k' = sym (ap (λ (t : List ℕ). found t) f ∙ gap-found b m g) ∙ (ap (λ (t : List ℕ). found t) f' ∙ token-found b' m' k' g') in
    cc
one-cut s s' (token b m k o f g e c) (gap b' m' f' g' c') =
    let both : token_of (length b) k ≡ gap_of (length b') = sym (ap (λ (t : List ℕ). found t) f ∙ token-found b m k g) ∙ (ap (λ (t : List ℕ). found t) f' ∙ gap-found b' m' g') in
    cc
one-cut s s' {at = at} {text = text} (token b m k o f g e c) (token b' m' k' o' f' g' e' c') =
    let both : token_of (length b) k ≡ token_of (length b') k' = sym (ap (λ (t : List ℕ). found t) f ∙ token-found b m k g) ∙ (ap (λ (t : List ℕ). found t) f' ∙ token-found b' m' k' g') in
    let count : length b ≡ length b' = cc in
    let kinds : k ≡ k' = cc in
    let same = one-cut s s' c (moved at b b' m m' _ _ _ (same-front text b m b' m' f f' count) c') in
    record {
      ends = same.ends;
      rests = same.rests;
      lists = e ∙ ap (λ (l : List Token). record { at = at; kind = k } ∷ l) same.lists ∙ ap (λ (q : TokenKind). record { at = at; kind = q } ∷ o') kinds ∙ sym e';
    }

-- A text is cut to its end, or up to a fault.
data IsEnded (at : Pos) (text : List ℕ) : Type 0 where
  whole : (end : Pos) (tokens : List Token) → Cut at text tokens end [] → IsEnded at text
  broken : (end : Pos) (rest : List ℕ) (tokens : List Token) (fault : LexFault) → Cut at text tokens end rest → Stuck rest fault → IsEnded at text

ended-gap : (at : Pos) (text bytes more : List ℕ) → text ≡ bytes ++ more → Gap bytes more → IsEnded (behind at bytes) more → IsEnded at text
ended-gap at text bytes more e g (whole end tokens c) = whole end tokens (gap bytes more e g c)
ended-gap at text bytes more e g (broken end rest tokens fault c s) = broken end rest tokens fault (gap bytes more e g c) s

ended-token : (at : Pos) (text bytes more : List ℕ) (kind : TokenKind) → text ≡ bytes ++ more → Spelling bytes more kind → IsEnded (behind at bytes) more → IsEnded at text
ended-token at text bytes more kind e g (whole end tokens c) = whole end (record { at = at; kind = kind } ∷ tokens) (token bytes more kind tokens e g refl c)
ended-token at text bytes more kind e g (broken end rest tokens fault c s) = broken end rest (record { at = at; kind = kind } ∷ tokens) fault (token bytes more kind tokens e g refl c) s

ended-by : (at : Pos) (text : List ℕ) → ((n : ℕ) → 1 ≤ n → IsEnded (behind at (take n text)) (drop n text)) → (f : Found) → Begins text f → IsEnded at text
ended-by at text more (gap_of n) b = ended-gap at text (take n text) (drop n text) (sym (take-append-drop n text)) (b.1) (more n (b.0))
ended-by at text more (token_of n kind) b = ended-token at text (take n text) (drop n text) kind (sym (take-append-drop n text)) (b.1) (more n (b.0))
ended-by at text more (wrong fault) b = broken at text [] fault (nothing refl refl refl) b

ended : (fuel : ℕ) (at : Pos) (text : List ℕ) → length text ≤ fuel → IsEnded at text
ended fuel at [] h = whole at [] (nothing refl refl refl)
ended zero at (b ∷ rest) h = absurd (omega arith)
ended (suc fuel) at (b ∷ rest) h =
    ended-by at (b ∷ rest) (λ n l. ended fuel (behind at (take n (b ∷ rest))) (drop n (b ∷ rest)) (omega (arith, length-drop n (b ∷ rest)))) (found (b ∷ rest)) (found-begins (b ∷ rest) (omega arith))

pub as-tokens : (text : List ℕ) (tokens : List Token) (end : Pos) → Cut first_place text tokens end [] → Tokens text tokens
as-tokens text tokens end c = subst (λ (p : Pos). Cut first_place text tokens p []) (cut-place c) c

some-end : (text : List ℕ) → IsEnded first_place text → ((tokens : List Token) × Tokens text tokens) ⊎ ((fault : LexFault) × (at : Pos) × LexFaultAt text fault at)
some-end text (whole end tokens c) = inl (tokens, as-tokens text tokens end c)
some-end text (broken end rest tokens fault c s) = inr (fault, end, (tokens, rest, c, s))

one-list : (text : List ℕ) (tokens others : List Token) → Tokens text tokens → Tokens text others → tokens ≡ others
one-list text tokens others a b = (one-cut refl refl a b).lists

one-fault : (text : List ℕ) (fault other : LexFault) (at place : Pos) → LexFaultAt text fault at → LexFaultAt text other place → (fault ≡ other) × (at ≡ place)
one-fault text fault other at place a b =
    let same = one-cut (fault-ends a.1 fault a.3) (fault-ends b.1 other b.3) a.2 b.2 in
    let faults : wrong fault ≡ wrong other = sym (stuck-found a.1 fault a.3) ∙ ap (λ (t : List ℕ). found t) same.rests ∙ stuck-found b.1 other b.3 in
    (cc, same.ends)

never-both : (text : List ℕ) (tokens : List Token) (fault : LexFault) (at : Pos) → Tokens text tokens → LexFaultAt text fault at → ⊥
never-both text tokens fault at a b =
    let same = one-cut refl (fault-ends b.1 fault b.3) a b.2 in
    let faults : gap_of 0 ≡ wrong fault = ap (λ (t : List ℕ). found t) same.rests ∙ stuck-found b.1 fault b.3 in
    cc

pub is-decided : (text : List ℕ) → IsDecided text
is-decided text = record {
  some = some-end text (ended (length text) first_place text (omega arith));
  one_list = one-list text;
  one_fault = one-fault text;
  never_both = never-both text;
}

-- The loop of the lexer: a step goes on with the cut, or ends it at a fault.
as-begins : (text : List ℕ) (f : Found) → 1 ≤ length text → found text ≡ f → Begins text f
as-begins text f h e = subst (λ (g : Found). Begins text g) e (found-begins text h)

pub step-cuts : (text : List ℕ) (at : Pos) (rest : List ℕ) (before after : List Token) (n : ℕ) → 1 ≤ length rest → Cut first_place text before at rest → IsStep at (found rest) before after (Ok n)
    → Cut first_place text after (behind at (take n rest)) (drop n rest)
step-cuts text at rest before after n h c (inl s) =
    subst (λ (k : List Token). Cut first_place text k (behind at (take n rest)) (drop n rest)) (sym (s.1)) (cut-gap c (take n rest) (drop n rest) (sym (take-append-drop n rest)) ((as-begins rest (gap_of n) h (s.0)).1))
step-cuts text at rest before after n h c (inr s) =
    subst (λ (k : List Token). Cut first_place text k (behind at (take n rest)) (drop n rest)) (sym (s.2))
    (cut-token c (take n rest) (drop n rest) (s.0) (sym (take-append-drop n rest)) ((as-begins rest (token_of n (s.0)) h (s.1)).1))

fault-told : (text : List ℕ) (at : Pos) (rest : List ℕ) (before : List Token) (fault : LexFault) → Cut first_place text before at rest → Stuck rest fault → TellsFault text (error_of fault at)
fault-told text at rest before bad_byte c s = (before, rest, c, s)
fault-told text at rest before bad_number c s = (before, rest, c, s)
fault-told text at rest before open_comment c s = (before, rest, c, s)

pub step-faults : (text : List ℕ) (at : Pos) (rest : List ℕ) (before after : List Token) (error : LexError) → 1 ≤ length rest → Cut first_place text before at rest → IsStep at (found rest) before after (Err error)
    → TellsFault text error
step-faults text at rest before after error h c (inl e) = subst (λ (e : LexError). TellsFault text e) (sym e) tt
step-faults text at rest before after error h c (inr e) =
    subst (λ (e : LexError). TellsFault text e) (sym (e.2)) (fault-told text at rest before (e.0) c (as-begins rest (wrong (e.0)) h (e.1)))

pub all-cut : (text : List ℕ) (tokens : List Token) (at : Pos) (rest : List ℕ) → length rest ≤ 0 → Cut first_place text tokens at rest → Tokens text tokens
all-cut text tokens at [] h c = as-tokens text tokens at c
all-cut text tokens at (b ∷ rest) h c = absurd (omega arith)
