-- What is found at the front of a text is what begins there, and nothing else does.
use Rattle.std.proofs.Common.{◌≡◌, ◌∙◌, ℕ, suc, ◌+◌, ◌≤◌, ◌==◌, Bool, true, false, not, ◌&&◌, ◌||◌, cond, List, [], ◌∷◌, ◌++◌, length, take, drop, Option, Some, None, is_some, codes, refl, sym, ap, subst, arith, length-append, take-append-drop}
use Rattle.std.specs.Option.{option_map}
use Rattle.std.specs.List.{list_all, prefix_len, starts_with}
use Rattle.std.proofs.lemmas.Bool.{eqb-true}
use Rattle.std.proofs.lemmas.List.Folds.{list_all-append}
use Rattle.std.proofs.Math.Seq.{take-append_seam, drop-append_seam}
use lib.Dec.{eqb}
use Rattle.aseba_tree.specs.declared.token.TokenKind.{TokenKind}
use Rattle.aseba_tree.specs.declared.token.Sign.{Sign}
use Rattle.aseba_tree.specs.Tokens.{is_blank, is_word_byte, spelled_in, symbols, is_word, is_lexeme, word_kind, kind_of, none_longer, closes, ends_line, Gap, blank, line_comment, closed_comment, Spelling, LexFault, bad_byte, open_comment, Stuck, never_closed, no_number, no_lexeme}
use Rattle.aseba_lexer.specs.Comments.{begins_with_star, line_len, block_len}
use Rattle.aseba_lexer.specs.Found.{Found, gap_of, token_of, wrong, begins_word, word_rest, word_found, sign_or, one_found, two_found, sign_found, block_found, comment_found, word_at, found}
use Rattle.aseba_lexer.proofs.Spelled.{first-true, second-true, absent, too-long, eqb-sym}

-- Runs: as long as each byte passes, and the byte behind them doesn't.
abbrev stops : (ℕ → Bool) → List ℕ → Bool
stops p [] = true
stops p (c ∷ rest) = not (p c)

run-len : (p : ℕ → Bool) (xs rest : List ℕ) → list_all p xs ≡ true → stops p rest ≡ true → prefix_len p (xs ++ rest) ≡ length xs
run-len p [] [] h s = refl
run-len p [] (c ∷ rest) h s = run-none (p c) (1 + prefix_len p rest) s where
  run-none : (v : Bool) (n : ℕ) → not v ≡ true → cond v n 0 ≡ 0
  run-none true n s = cc
  run-none false n s = refl
run-len p (x ∷ xs) rest h s =
    let more : prefix_len p (xs ++ rest) ≡ length xs = run-len p xs rest (second-true (p x) (list_all p xs) h) s in
    rw (first-true (p x) (list_all p xs) h) (omega (arith, more))

run-one : (p : ℕ → Bool) (x : ℕ) (xs : List ℕ) (n : ℕ) (v : Bool) → p x ≡ v → list_all p (take n xs) ≡ true → list_all p (take (cond v (1 + n) 0) (x ∷ xs)) ≡ true
run-one p x xs n true e h = let s : 1 + n ≡ suc n = omega arith in rw (s, e) h
run-one p x xs n false e h = refl

run-passes : (p : ℕ → Bool) (xs : List ℕ) → list_all p (take (prefix_len p xs) xs) ≡ true
run-passes p [] = refl
run-passes p (x ∷ xs) = run-one p x xs (prefix_len p xs) (p x) refl (run-passes p xs)

stop-one : (p : ℕ → Bool) (x : ℕ) (xs : List ℕ) (n : ℕ) (v : Bool) → p x ≡ v → stops p (drop n xs) ≡ true → stops p (drop (cond v (1 + n) 0) (x ∷ xs)) ≡ true
stop-one p x xs n true e h = let s : 1 + n ≡ suc n = omega arith in rw s h
stop-one p x xs n false e h = rw e refl

run-stops : (p : ℕ → Bool) (xs : List ℕ) → stops p (drop (prefix_len p xs) xs) ≡ true
run-stops p [] = refl
run-stops p (x ∷ xs) = stop-one p x xs (prefix_len p xs) (p x) refl (run-stops p xs)

-- A word or a symbol begins with no blank and no `#`, and a symbol as no word does.
unlike : (p q : ℕ → Bool) (b : ℕ) → (q b ≡ true → p b ≡ false) → p b ≡ true → (v : Bool) → q b ≡ v → v ≡ false
unlike p q b h y false e = refl
unlike p q b h y true e = let never : p b ≡ false = h e in cc

hash-false : (p : ℕ → Bool) (k b : ℕ) → p k ≡ false → p b ≡ true → (b == k) ≡ false
hash-false p k b n y = unlike p (λ x. x == k) b (λ e. subst (λ (x : ℕ). p x ≡ false) (sym (eqb-true b k e)) n) y (b == k) refl

word-blank : (b : ℕ) → begins_word b ≡ true → is_blank b ≡ false
word-blank b h =
    rw (hash-false begins_word 32 b refl h, hash-false begins_word 9 b refl h, hash-false begins_word 13 b refl h, hash-false begins_word 10 b refl h) refl

sign-unlike : (q : ℕ → Bool) (a : ℕ) (xs : List ℕ) (s : Sign) → spelled_in symbols (a ∷ xs) ≡ Some s → (q a ≡ true → spelled_in symbols (a ∷ xs) ≡ None) → (v : Bool) → q a ≡ v → v ≡ false
sign-unlike q a xs s e h false f = refl
sign-unlike q a xs s e h true f = let never : spelled_in symbols (a ∷ xs) ≡ None = h f in let both : Some s ≡ None = sym e ∙ never in cc

unlexed : (w : Bool) (o : Option Sign) → not (w || is_some o) ≡ true → o ≡ None
unlexed w None h = refl
unlexed true (Some s) h = cc
unlexed false (Some s) h = cc

unworded : (w u : Bool) → not (w || u) ≡ true → w ≡ false
unworded true u h = cc
unworded false u h = refl

-- Comments.
star-false : (said rest : List ℕ) → starts_with eqb said (codes "*") ≡ false → ends_line rest ≡ true → begins_with_star (said ++ rest) ≡ false
star-false [] [] n e = refl
star-false [] (c ∷ rest) n e = hash-false (λ x. x == 10) 42 c refl e
star-false (c ∷ said) rest n e = eqb-sym c 42 ∙ and-first (eqb 42 c) n where
  and-first : (v : Bool) → (v && true) ≡ false → v ≡ false
  and-first true h = h
  and-first false h = refl

line-stops : (rest : List ℕ) → ends_line rest ≡ true → stops (λ b. not (b == 10)) rest ≡ true
line-stops [] e = refl
line-stops (c ∷ rest) e = rw e refl

or-first : (v u : Bool) → (v || u) ≡ false → v ≡ false
or-first true u h = h
or-first false u h = refl

or-second : (v u : Bool) → (v || u) ≡ false → u ≡ false
or-second true u h = cc
or-second false u h = h

-- whether `*#` stands at the front doesn't turn on what follows an end that begins with `*`
front-same : (c : ℕ) (said rest : List ℕ) → starts_with eqb (c ∷ (said ++ codes "*")) (codes "*#") ≡ starts_with eqb (c ∷ ((said ++ codes "*#") ++ rest)) (codes "*#")
front-same c [] rest = refl
front-same c (d ∷ said) rest = refl

block-closed : (said rest : List ℕ) → closes (said ++ codes "*") ≡ false → block_len ((said ++ codes "*#") ++ rest) ≡ Some (length said + 2)
block-closed [] rest n = refl
block-closed (c ∷ said) rest n =
    let front : starts_with eqb (c ∷ ((said ++ codes "*#") ++ rest)) (codes "*#") ≡ false = sym (front-same c said rest) ∙ or-first (starts_with eqb (c ∷ (said ++ codes "*")) (codes "*#")) (closes (said ++ codes "*")) n in
    let more : block_len ((said ++ codes "*#") ++ rest) ≡ Some (length said + 2) = block-closed said rest (or-second (starts_with eqb (c ∷ (said ++ codes "*")) (codes "*#")) (closes (said ++ codes "*")) n) in
    let count : (length said + 2) + 1 ≡ suc (length said) + 2 = omega arith in
    rw (front, more) (ap (λ (n : ℕ). Some n) count)

block-open : (rest : List ℕ) → closes rest ≡ false → block_len rest ≡ None
block-open [] n = refl
block-open (a ∷ rest) n =
    rw (or-first (starts_with eqb (a ∷ rest) (codes "*#")) (closes rest) n, block-open rest (or-second (starts_with eqb (a ∷ rest) (codes "*#")) (closes rest) n)) refl

-- A blank or a comment is found.
pub gap-found : (bytes rest : List ℕ) → Gap bytes rest → found (bytes ++ rest) ≡ gap_of (length bytes)
gap-found bytes rest (blank b w e) = subst (λ (t : List ℕ). found (t ++ rest) ≡ gap_of (length t)) (sym e) (rw w refl)
gap-found bytes rest (line_comment said e n all end) =
    let len : line_len (said ++ rest) ≡ length said = run-len (λ b. not (b == 10)) said rest all (line-stops rest end) in
    let count : 1 + length said ≡ suc (length said) = omega arith in
    subst (λ (t : List ℕ). found (t ++ rest) ≡ gap_of (length t)) (sym e) (rw (star-false said rest n end, len, count) refl)
gap-found bytes rest (closed_comment said e n) =
    let len : block_len ((said ++ codes "*#") ++ rest) ≡ Some (length said + 2) = block-closed said rest n in
    let count : 2 + (length said + 2) ≡ suc (suc (length (said ++ codes "*#"))) = omega (arith, length-append said (codes "*#")) in
    subst (λ (t : List ℕ). found (t ++ rest) ≡ gap_of (length t)) (sym e) (rw (len, count) refl)

-- A word is found: it goes on as long as the bytes behind it don't spell a longer lexeme.
word-goes-on : (b c : ℕ) (xs : List ℕ) → begins_word b ≡ true → list_all is_word_byte xs ≡ true → is_word (b ∷ (xs ++ c ∷ [])) ≡ false → (v : Bool) → is_word_byte c ≡ v → v ≡ false
word-goes-on b c xs w all n false e = refl
word-goes-on b c xs w all n true e =
    let whole : is_word (b ∷ (xs ++ c ∷ [])) ≡ true = rw (w, list_all-append is_word_byte xs (c ∷ []), all, e) refl in
    cc

word-stops : (b : ℕ) (xs rest : List ℕ) → begins_word b ≡ true → list_all is_word_byte xs ≡ true → none_longer (b ∷ xs) rest ≡ true → stops is_word_byte rest ≡ true
word-stops b xs [] w all n = refl
word-stops b xs (c ∷ rest) w all n =
    let lexeme : not (is_lexeme (b ∷ (xs ++ c ∷ []))) ≡ true = first-true (not (is_lexeme (b ∷ (xs ++ c ∷ [])))) (none_longer (b ∷ (xs ++ c ∷ [])) rest) n in
    let longer : is_word (b ∷ (xs ++ c ∷ [])) ≡ false = unworded (is_word (b ∷ (xs ++ c ∷ []))) (is_some (spelled_in symbols (b ∷ (xs ++ c ∷ [])))) lexeme in
    rw (word-goes-on b c xs w all longer (is_word_byte c) refl) refl

word-finds : (b : ℕ) (xs rest : List ℕ) → begins_word b ≡ true → list_all is_word_byte xs ≡ true → none_longer (b ∷ xs) rest ≡ true
    → found ((b ∷ xs) ++ rest) ≡ word_found (length (b ∷ xs)) (word_kind (b ∷ xs))
word-finds b xs rest w all n =
    let run : word_rest (xs ++ rest) ≡ length xs = run-len is_word_byte xs rest all (word-stops b xs rest w all n) in
    let count : 1 + length xs ≡ suc (length xs) = omega arith in
    let at : found ((b ∷ xs) ++ rest) ≡ word_at (b ∷ (xs ++ rest)) = rw (word-blank b w, hash-false begins_word 35 b refl w, w) refl in
    at ∙ ap (λ (n : ℕ). word_found (1 + n) (word_kind (take (1 + n) (b ∷ (xs ++ rest))))) run
    ∙ ap (λ (n : ℕ). word_found n (word_kind (take n (b ∷ (xs ++ rest))))) count
    ∙ ap (λ (t : List ℕ). word_found (suc (length xs)) (word_kind (b ∷ t))) (take-append_seam xs rest)

-- A symbol is found: none of the longer ones stands there.
none-next : (bytes : List ℕ) (c : ℕ) (rest : List ℕ) → none_longer bytes (c ∷ rest) ≡ true → spelled_in symbols (bytes ++ c ∷ []) ≡ None
none-next bytes c rest n =
    unlexed (is_word (bytes ++ c ∷ [])) (spelled_in symbols (bytes ++ c ∷ [])) (first-true (not (is_lexeme (bytes ++ c ∷ []))) (none_longer (bytes ++ c ∷ []) rest) n)

none-later : (bytes : List ℕ) (c : ℕ) (rest : List ℕ) → none_longer bytes (c ∷ rest) ≡ true → none_longer (bytes ++ c ∷ []) rest ≡ true
none-later bytes c rest n = second-true (not (is_lexeme (bytes ++ c ∷ []))) (none_longer (bytes ++ c ∷ []) rest) n

sign-len : (a : ℕ) (xs rest : List ℕ) (s : Sign) → spelled_in symbols (a ∷ xs) ≡ Some s → none_longer (a ∷ xs) rest ≡ true
    → sign_found (a ∷ (xs ++ rest)) ≡ token_of (suc (length xs)) (TokenKind.Sign s)
sign-len a [] [] s e n = rw e refl
sign-len a [] (b ∷ []) s e n = rw (none-next (a ∷ []) b [] n, e) refl
sign-len a [] (b ∷ c ∷ rest) s e n = rw (none-next (a ∷ b ∷ []) c rest (none-later (a ∷ []) b (c ∷ rest) n), none-next (a ∷ []) b (c ∷ rest) n, e) refl
sign-len a (b ∷ []) [] s e n = rw e refl
sign-len a (b ∷ []) (c ∷ rest) s e n = rw (none-next (a ∷ b ∷ []) c rest n, e) refl
sign-len a (b ∷ c ∷ []) rest s e n = rw e refl
sign-len a (b ∷ c ∷ d ∷ xs) rest s e n =
    let never : spelled_in symbols (a ∷ b ∷ c ∷ d ∷ xs) ≡ None = too-long symbols (a ∷ b ∷ c ∷ d ∷ xs) refl (omega arith) in
    let both : Some s ≡ None = sym e ∙ never in
    cc

sign-finds : (bytes rest : List ℕ) (s : Sign) → spelled_in symbols bytes ≡ Some s → none_longer bytes rest ≡ true → found (bytes ++ rest) ≡ token_of (length bytes) (TokenKind.Sign s)
sign-finds [] rest s e n = let both : None ≡ Some s = e in cc
sign-finds (a ∷ xs) rest s e n =
    let blank : is_blank a ≡ false = sign-unlike is_blank a xs s e (λ h. absent is_blank symbols a xs refl h) (is_blank a) refl in
    let hash : (a == 35) ≡ false = sign-unlike (λ b. b == 35) a xs s e (λ h. absent (λ b. b == 35) symbols a xs refl h) (a == 35) refl in
    let word : begins_word a ≡ false = sign-unlike begins_word a xs s e (λ h. absent begins_word symbols a xs refl h) (begins_word a) refl in
    let at : found ((a ∷ xs) ++ rest) ≡ sign_found (a ∷ (xs ++ rest)) = rw (blank, hash, word) refl in
    at ∙ sign-len a xs rest s e n

word-spelled : (bytes rest : List ℕ) (o : Option TokenKind) → is_word bytes ≡ true → none_longer bytes rest ≡ true → word_kind bytes ≡ o → found (bytes ++ rest) ≡ word_found (length bytes) o
word-spelled [] rest o w n k = cc
word-spelled (b ∷ xs) rest o w n k =
    word-finds b xs rest (first-true (begins_word b) (list_all is_word_byte xs) w) (second-true (begins_word b) (list_all is_word_byte xs) w) n ∙ ap (λ p. word_found (suc (length xs)) p) k

sign-spelled : (bytes rest : List ℕ) (kind : TokenKind) → none_longer bytes rest ≡ true → (o : Option Sign) → spelled_in symbols bytes ≡ o → option_map TokenKind.Sign o ≡ Some kind
    → found (bytes ++ rest) ≡ token_of (length bytes) kind
sign-spelled bytes rest kind n None e k = cc
sign-spelled bytes rest kind n (Some s) e k = let same : TokenKind.Sign s ≡ kind = cc in sign-finds bytes rest s e n ∙ ap (λ t. token_of (length bytes) t) same

token-by : (bytes rest : List ℕ) (kind : TokenKind) → none_longer bytes rest ≡ true → (v : Bool) → is_word bytes ≡ v → cond v (word_kind bytes) (option_map TokenKind.Sign (spelled_in symbols bytes)) ≡ Some kind
    → found (bytes ++ rest) ≡ token_of (length bytes) kind
token-by bytes rest kind n true w k = word-spelled bytes rest (Some kind) w n k
token-by bytes rest kind n false w k = sign-spelled bytes rest kind n (spelled_in symbols bytes) refl k

pub token-found : (bytes rest : List ℕ) (kind : TokenKind) → Spelling bytes rest kind → found (bytes ++ rest) ≡ token_of (length bytes) kind
token-found bytes rest kind s = token-by bytes rest kind s.is_longest (is_word bytes) refl s.is_spelled

-- Where nothing begins, that is found.
nothing-spelled : (b : ℕ) (rest : List ℕ) → none_longer [] (b ∷ rest) ≡ true → sign_found (b ∷ rest) ≡ wrong bad_byte
nothing-spelled b [] n = rw (none-next [] b [] n) refl
nothing-spelled b (c ∷ []) n = rw (none-next (b ∷ []) c [] (none-later [] b (c ∷ []) n), none-next [] b (c ∷ []) n) refl
nothing-spelled b (c ∷ d ∷ rest) n =
    let after : none_longer (b ∷ []) (c ∷ d ∷ rest) ≡ true = none-later [] b (c ∷ d ∷ rest) n in
    rw (none-next (b ∷ c ∷ []) d rest (none-later (b ∷ []) c (d ∷ rest) after), none-next (b ∷ []) c (d ∷ rest) after, none-next [] b (c ∷ d ∷ rest) n) refl

no-word : (b : ℕ) (v : Bool) → begins_word b ≡ v → (v && true) ≡ false → v ≡ false
no-word b true e h = h
no-word b false e h = refl

open-found : (bytes : List ℕ) → starts_with eqb bytes (codes "#*") ≡ true → closes (drop 2 bytes) ≡ false → found bytes ≡ wrong open_comment
open-found [] h n = cc
open-found (a ∷ []) h n = let never : false ≡ true = second-true (eqb 35 a) false h in cc
open-found (a ∷ b ∷ rest) h n =
    let first : 35 ≡ a = eqb-true 35 a (first-true (eqb 35 a) (eqb 42 b && true) h) in
    let second : 42 ≡ b = eqb-true 42 b (first-true (eqb 42 b) true (second-true (eqb 35 a) (eqb 42 b && true) h)) in
    let at : found (35 ∷ 42 ∷ rest) ≡ wrong open_comment = rw (block-open rest n) refl in
    subst (λ (x : ℕ). found (x ∷ b ∷ rest) ≡ wrong open_comment) first (subst (λ (y : ℕ). found (35 ∷ y ∷ rest) ≡ wrong open_comment) second at)

pub stuck-found : (bytes : List ℕ) (fault : LexFault) → Stuck bytes fault → found bytes ≡ wrong fault
stuck-found bytes _ (never_closed h n) = open-found bytes h n
stuck-found bytes _ (no_number word rest e w n k) = ap (λ (t : List ℕ). found t) e ∙ word-spelled word rest None w n k
stuck-found bytes _ (no_lexeme b rest e nb nh n) =
    let none : none_longer [] (b ∷ rest) ≡ true = subst (λ (t : List ℕ). none_longer [] t ≡ true) e n in
    let lexeme : not (is_lexeme (b ∷ [])) ≡ true = first-true (not (is_lexeme (b ∷ []))) (none_longer (b ∷ []) rest) none in
    let word : begins_word b ≡ false = no-word b (begins_word b) refl (unworded (is_word (b ∷ [])) (is_some (spelled_in symbols (b ∷ []))) lexeme) in
    let at : found (b ∷ rest) ≡ sign_found (b ∷ rest) = rw (nb, nh, word) refl in
    ap (λ (t : List ℕ). found t) e ∙ at ∙ nothing-spelled b rest none

-- What is found at the front of a text that isn't empty begins there.
abbrev pub Begins : List ℕ → Found → Type 0
Begins text (gap_of n) = (1 ≤ n) × Gap (take n text) (drop n text)
Begins text (token_of n kind) = (1 ≤ n) × Spelling (take n text) (drop n text) kind
Begins text (wrong fault) = Stuck text fault

star-one : (c : ℕ) (rest : List ℕ) (m : ℕ) (v : Bool) → (c == 42) ≡ false → starts_with eqb (take (cond v (1 + m) 0) (c ∷ rest)) (codes "*") ≡ false
star-one c rest m true h = let s : 1 + m ≡ suc m = omega arith in let t : eqb 42 c ≡ false = eqb-sym 42 c ∙ h in rw (s, t) refl
star-one c rest m false h = refl

star-sound : (rest : List ℕ) → begins_with_star rest ≡ false → starts_with eqb (take (line_len rest) rest) (codes "*") ≡ false
star-sound [] h = refl
star-sound (c ∷ rest) h = star-one c rest (line_len rest) (not (c == 10)) h

double-not : (v : Bool) → not (not v) ≡ true → v ≡ true
double-not true h = refl
double-not false h = h

line-end : (rest : List ℕ) → stops (λ b. not (b == 10)) rest ≡ true → ends_line rest ≡ true
line-end [] h = refl
line-end (c ∷ rest) h = double-not (c == 10) h

line-begins : (rest : List ℕ) → begins_with_star rest ≡ false → Begins (35 ∷ rest) (gap_of (1 + line_len rest))
line-begins rest h =
    let s : 1 + line_len rest ≡ suc (line_len rest) = omega arith in
    let comment : Gap (35 ∷ take (line_len rest) rest) (drop (line_len rest) rest) =
    line_comment (take (line_len rest) rest) refl (star-sound rest h) (run-passes (λ b. not (b == 10)) rest) (line-end (drop (line_len rest) rest) (run-stops (λ b. not (b == 10)) rest)) in
    (omega arith, subst (λ (n : ℕ). Gap (take n (35 ∷ rest)) (drop n (35 ∷ rest))) (sym s) comment)

record Split (rest : List ℕ) (k : ℕ) : Type 0 where
  said : List ℕ
  more : List ℕ
  is : rest ≡ (said ++ codes "*#") ++ more
  count : k ≡ length said + 2
  first : closes (said ++ codes "*") ≡ false

split-here : (a : ℕ) (rest : List ℕ) (k : ℕ) → starts_with eqb (a ∷ rest) (codes "*#") ≡ true → 2 ≡ k → Split (a ∷ rest) k
split-here a [] k h e = let never : false ≡ true = second-true (eqb 42 a) false h in cc
split-here a (b ∷ rest) k h e =
    let first : 42 ≡ a = eqb-true 42 a (first-true (eqb 42 a) (eqb 35 b && true) h) in
    let second : 35 ≡ b = eqb-true 35 b (first-true (eqb 35 b) true (second-true (eqb 42 a) (eqb 35 b && true) h)) in
    record { said = []; more = rest; is = ap (λ (x : ℕ). x ∷ b ∷ rest) (sym first) ∙ ap (λ (y : ℕ). 42 ∷ y ∷ rest) (sym second); count = sym e; first = refl }

split-later : (a : ℕ) (rest : List ℕ) (k j : ℕ) → starts_with eqb (a ∷ rest) (codes "*#") ≡ false → j + 1 ≡ k → Split rest j → Split (a ∷ rest) k
split-later a rest k j h e s = record {
  said = a ∷ s.said;
  more = s.more;
  is = ap (λ (t : List ℕ). a ∷ t) s.is;
  count = omega (arith, e, s.count);
  first = rw (front-same a s.said s.more ∙ ap (λ (t : List ℕ). starts_with eqb (a ∷ t) (codes "*#")) (sym s.is) ∙ h) s.first;
}

split-by : (a : ℕ) (rest : List ℕ) (k : ℕ) → ((j : ℕ) → block_len rest ≡ Some j → Split rest j) → (v : Bool) → starts_with eqb (a ∷ rest) (codes "*#") ≡ v → (o : Option ℕ) → block_len rest ≡ o
    → cond v (Some 2) (option_map (λ n. n + 1) o) ≡ Some k → Split (a ∷ rest) k
split-by a rest k more true h o b e = let two : 2 ≡ k = cc in split-here a rest k h two
split-by a rest k more false h None b e = cc
split-by a rest k more false h (Some j) b e = let next : j + 1 ≡ k = cc in split-later a rest k j h next (more j b)

split : (rest : List ℕ) (k : ℕ) → block_len rest ≡ Some k → Split rest k
split [] k e = cc
split (a ∷ rest) k e = split-by a rest k (λ j. split rest j) (starts_with eqb (a ∷ rest) (codes "*#")) refl (block_len rest) refl e

open-by : (a : ℕ) (rest : List ℕ) → (block_len rest ≡ None → closes rest ≡ false) → (v : Bool) → starts_with eqb (a ∷ rest) (codes "*#") ≡ v → (o : Option ℕ) → block_len rest ≡ o
    → cond v (Some 2) (option_map (λ n. n + 1) o) ≡ None → closes (a ∷ rest) ≡ false
open-by a rest more true h o b e = cc
open-by a rest more false h (Some j) b e = cc
open-by a rest more false h None b e = rw h (more b)

open-closes : (rest : List ℕ) → block_len rest ≡ None → closes rest ≡ false
open-closes [] e = refl
open-closes (a ∷ rest) e = open-by a rest (λ h. open-closes rest h) (starts_with eqb (a ∷ rest) (codes "*#")) refl (block_len rest) refl e

block-begins : (rest : List ℕ) (o : Option ℕ) → block_len rest ≡ o → Begins (35 ∷ 42 ∷ rest) (block_found o)
block-begins rest None e = never_closed refl (open-closes rest e)
block-begins rest (Some k) e =
    let s = split rest k e in
    let bytes : List ℕ = codes "#*" ++ s.said ++ codes "*#" in
    let text : 35 ∷ 42 ∷ rest ≡ bytes ++ s.more = ap (λ (t : List ℕ). 35 ∷ 42 ∷ t) s.is in
    let count : 2 + k ≡ length bytes = omega (arith, s.count, length-append s.said (codes "*#")) in
    let taken : bytes ≡ take (2 + k) (35 ∷ 42 ∷ rest) = sym (ap (λ (t : List ℕ). take (2 + k) t) text ∙ ap (λ (n : ℕ). take n (bytes ++ s.more)) count ∙ take-append_seam bytes s.more) in
    let left : s.more ≡ drop (2 + k) (35 ∷ 42 ∷ rest) = sym (ap (λ (t : List ℕ). drop (2 + k) t) text ∙ ap (λ (n : ℕ). drop n (bytes ++ s.more)) count ∙ drop-append_seam bytes s.more) in
    (omega arith, subst (λ (t : List ℕ). Gap t (drop (2 + k) (35 ∷ 42 ∷ rest))) taken (subst (λ (t : List ℕ). Gap bytes t) left (closed_comment s.said refl s.first)))

comment-begins : (rest : List ℕ) (v : Bool) → begins_with_star rest ≡ v → Begins (35 ∷ rest) (cond v (block_found (block_len (drop 1 rest))) (gap_of (1 + line_len rest)))
comment-begins rest false h = line-begins rest h
comment-begins [] true h = cc
comment-begins (c ∷ rest) true h =
    subst (λ (x : ℕ). Begins (35 ∷ x ∷ rest) (block_found (block_len rest))) (sym (eqb-true c 42 h)) (block-begins rest (block_len rest) refl)

dead-lexeme : (b : ℕ) (xs : List ℕ) → begins_word b ≡ true → list_all is_word_byte xs ≡ false → is_lexeme (b ∷ xs) ≡ false
dead-lexeme b xs w d = rw (w, d, absent begins_word symbols b xs refl w) refl

dead-more : (xs : List ℕ) (c : ℕ) → list_all is_word_byte xs ≡ false → list_all is_word_byte (xs ++ c ∷ []) ≡ false
dead-more xs c d = rw (list_all-append is_word_byte xs (c ∷ []), d) refl

dead-longer : (b : ℕ) (xs rest : List ℕ) → begins_word b ≡ true → list_all is_word_byte xs ≡ false → none_longer (b ∷ xs) rest ≡ true
dead-longer b xs [] w d = refl
dead-longer b xs (c ∷ rest) w d = rw (dead-lexeme b (xs ++ c ∷ []) w (dead-more xs c d)) (dead-longer b (xs ++ c ∷ []) rest w (dead-more xs c d))

ends-word : (xs : List ℕ) (c : ℕ) → not (is_word_byte c) ≡ true → list_all is_word_byte (xs ++ c ∷ []) ≡ false
ends-word xs c h = list_all-append is_word_byte xs (c ∷ []) ∙ ends-by (list_all is_word_byte xs) (is_word_byte c) h where
  ends-by : (v u : Bool) → not u ≡ true → (v && (u && true)) ≡ false
  ends-by v true h = cc
  ends-by true false h = refl
  ends-by false false h = refl

word-longest : (b : ℕ) (xs rest : List ℕ) → begins_word b ≡ true → stops is_word_byte rest ≡ true → none_longer (b ∷ xs) rest ≡ true
word-longest b xs [] w s = refl
word-longest b xs (c ∷ rest) w s = rw (dead-lexeme b (xs ++ c ∷ []) w (ends-word xs c s)) (dead-longer b (xs ++ c ∷ []) rest w (ends-word xs c s))

word-by : (b : ℕ) (rest : List ℕ) → begins_word b ≡ true → (o : Option TokenKind) → word_kind (b ∷ take (word_rest rest) rest) ≡ o → Begins (b ∷ rest) (word_found (suc (word_rest rest)) o)
word-by b rest w (Some kind) e =
    let whole : is_word (b ∷ take (word_rest rest) rest) ≡ true = rw (w, run-passes is_word_byte rest) refl in
    (omega arith, record { is_spelled = rw whole e; is_longest = word-longest b (take (word_rest rest) rest) (drop (word_rest rest) rest) w (run-stops is_word_byte rest) })
word-by b rest w None e =
    no_number (b ∷ take (word_rest rest) rest) (drop (word_rest rest) rest) (ap (λ (t : List ℕ). b ∷ t) (sym (take-append-drop (word_rest rest) rest))) (rw (w, run-passes is_word_byte rest) refl)
    (word-longest b (take (word_rest rest) rest) (drop (word_rest rest) rest) w (run-stops is_word_byte rest)) e

word-begins : (b : ℕ) (rest : List ℕ) → begins_word b ≡ true → Begins (b ∷ rest) (word_at (b ∷ rest))
word-begins b rest w =
    let s : suc (word_rest rest) ≡ 1 + word_rest rest = omega arith in
    subst (λ (n : ℕ). Begins (b ∷ rest) (word_found n (word_kind (take n (b ∷ rest))))) s (word-by b rest w (word_kind (b ∷ take (word_rest rest) rest)) refl)

unlexeme : (a : ℕ) (xs : List ℕ) → begins_word a ≡ false → spelled_in symbols (a ∷ xs) ≡ None → is_lexeme (a ∷ xs) ≡ false
unlexeme a xs w e = rw (w, e) refl

long-longer : (a : ℕ) (xs rest : List ℕ) → begins_word a ≡ false → 2 ≤ length xs → none_longer (a ∷ xs) rest ≡ true
long-longer a xs [] w h = refl
long-longer a xs (c ∷ rest) w h =
    let more : length (xs ++ c ∷ []) ≡ length xs + 1 = length-append xs (c ∷ []) in
    rw (unlexeme a (xs ++ c ∷ []) w (too-long symbols (a ∷ (xs ++ c ∷ [])) refl (omega (arith, more)))) (long-longer a (xs ++ c ∷ []) rest w (omega (arith, more)))

sign-is : (a : ℕ) (xs : List ℕ) (s : Sign) → begins_word a ≡ false → spelled_in symbols (a ∷ xs) ≡ Some s → kind_of (a ∷ xs) ≡ Some (TokenKind.Sign s)
sign-is a xs s w e = rw (w, e) refl

one-begins : (a : ℕ) (rest : List ℕ) → is_blank a ≡ false → (a == 35) ≡ false → begins_word a ≡ false → none_longer (a ∷ []) rest ≡ true → (o : Option Sign) → spelled_in symbols (a ∷ []) ≡ o
    → Begins (a ∷ rest) (sign_or 1 o (wrong bad_byte))
one-begins a rest nb nh w n (Some s) e = (omega arith, record { is_spelled = sign-is a [] s w e; is_longest = n })
one-begins a rest nb nh w n None e = no_lexeme a rest refl nb nh (rw (unlexeme a [] w e) n)

two-begins : (a b : ℕ) (rest : List ℕ) → is_blank a ≡ false → (a == 35) ≡ false → begins_word a ≡ false → none_longer (a ∷ b ∷ []) rest ≡ true → (o : Option Sign) → spelled_in symbols (a ∷ b ∷ []) ≡ o
    → Begins (a ∷ b ∷ rest) (sign_or 2 o (one_found a))
two-begins a b rest nb nh w n (Some s) e = (omega arith, record { is_spelled = sign-is a (b ∷ []) s w e; is_longest = n })
two-begins a b rest nb nh w n None e = one-begins a (b ∷ rest) nb nh w (rw (unlexeme a (b ∷ []) w e) n) (spelled_in symbols (a ∷ [])) refl

three-begins : (a b c : ℕ) (rest : List ℕ) → is_blank a ≡ false → (a == 35) ≡ false → begins_word a ≡ false → (o : Option Sign) → spelled_in symbols (a ∷ b ∷ c ∷ []) ≡ o
    → Begins (a ∷ b ∷ c ∷ rest) (sign_or 3 o (two_found a b))
three-begins a b c rest nb nh w (Some s) e = (omega arith, record { is_spelled = sign-is a (b ∷ c ∷ []) s w e; is_longest = long-longer a (b ∷ c ∷ []) rest w (omega arith) })
three-begins a b c rest nb nh w None e =
    two-begins a b (c ∷ rest) nb nh w (rw (unlexeme a (b ∷ c ∷ []) w e) (long-longer a (b ∷ c ∷ []) rest w (omega arith))) (spelled_in symbols (a ∷ b ∷ [])) refl

sign-begins : (a : ℕ) (rest : List ℕ) → is_blank a ≡ false → (a == 35) ≡ false → begins_word a ≡ false → Begins (a ∷ rest) (sign_found (a ∷ rest))
sign-begins a [] nb nh w = one-begins a [] nb nh w refl (spelled_in symbols (a ∷ [])) refl
sign-begins a (b ∷ []) nb nh w = two-begins a b [] nb nh w refl (spelled_in symbols (a ∷ b ∷ [])) refl
sign-begins a (b ∷ c ∷ rest) nb nh w = three-begins a b c rest nb nh w (spelled_in symbols (a ∷ b ∷ c ∷ [])) refl

lexeme-begins : (a : ℕ) (rest : List ℕ) → is_blank a ≡ false → (a == 35) ≡ false → (v : Bool) → begins_word a ≡ v → Begins (a ∷ rest) (cond v (word_at (a ∷ rest)) (sign_found (a ∷ rest)))
lexeme-begins a rest nb nh true w = word-begins a rest w
lexeme-begins a rest nb nh false w = sign-begins a rest nb nh w

other-begins : (a : ℕ) (rest : List ℕ) → is_blank a ≡ false → (v : Bool) → (a == 35) ≡ v → Begins (a ∷ rest) (cond v (comment_found rest) (cond (begins_word a) (word_at (a ∷ rest)) (sign_found (a ∷ rest))))
other-begins a rest nb true e = subst (λ (x : ℕ). Begins (x ∷ rest) (comment_found rest)) (sym (eqb-true a 35 e)) (comment-begins rest (begins_with_star rest) refl)
other-begins a rest nb false e = lexeme-begins a rest nb e (begins_word a) refl

blank-begins : (a : ℕ) (rest : List ℕ) (v : Bool) → is_blank a ≡ v
    → Begins (a ∷ rest) (cond v (gap_of 1) (cond (a == 35) (comment_found rest) (cond (begins_word a) (word_at (a ∷ rest)) (sign_found (a ∷ rest)))))
blank-begins a rest true e = (omega arith, blank a e refl)
blank-begins a rest false e = other-begins a rest e (a == 35) refl

pub found-begins : (text : List ℕ) → 1 ≤ length text → Begins text (found text)
found-begins [] h = absurd (omega arith)
found-begins (a ∷ rest) h = blank-begins a rest (is_blank a) refl
