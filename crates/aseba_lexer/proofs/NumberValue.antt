-- A number that is read digit by digit is the value of its spelling.
use Rattle.std.proofs.Common.{◌≡◌, ◌∙◌, ℕ, suc, ◌+◌, ◌-◌, ◌*◌, ◌<◌, ◌≤◌, ◌==◌, nat_lt, nat_le, Bool, true, false, ◌&&◌, ◌||◌, cond, List, [], ◌∷◌, Option, Some, None, ℤ, pos, refl, sym, ap, subst, arith}
use Rattle.std.specs.Option.{option_map}
use Rattle.std.specs.List.{list_all, fold}
use Rattle.std.proofs.lemmas.Bool.{leb-true, leb-false, le-leb, lt-leb, eqb-true, eqb-false}
use Rattle.aseba_words.specs.Cell.{wrapped}
use Rattle.aseba_tree.specs.Tokens.{is_within, is_digit, is_hex_digit, is_binary_digit, digit_value, number_in, cell_below, number_value, some_of}
use Rattle.aseba_lexer.specs.Numbers.{digit, digits_value, are_digits, number, number_of}
use Rattle.aseba_lexer.proofs.Spelled.{first-true, second-true}

least : (low high b : ℕ) → is_within low high b ≡ true → low ≤ b
least low high b h = leb-true low b (first-true (nat_le low b) (nat_le b high) h)

most : (low high b : ℕ) → is_within low high b ≡ true → b ≤ high
most low high b h = leb-true b high (second-true (nat_le low b) (nat_le b high) h)

below : (n m : ℕ) → n < m → nat_lt n m ≡ true
below n m h = le-leb (suc n) m h

not-below : (n m : ℕ) → m ≤ n → nat_lt n m ≡ false
not-below n m h = lt-leb (suc n) m (omega arith)

abbrev reading : Bool → Bool → Bool → ℕ → ℕ
reading v w u b = cond v (b - 48) (cond w (b - 87) (cond u (b - 55) 16))

-- which bytes are digits of a base
ten-by : (b : ℕ) (v w u : Bool) → is_within 48 57 b ≡ v → is_within 97 102 b ≡ w → is_within 65 70 b ≡ u → nat_lt (reading v w u b) 10 ≡ v
ten-by b true w u e f g = below (b - 48) 10 (omega (arith, least 48 57 b e, most 48 57 b e))
ten-by b false true u e f g = not-below (b - 87) 10 (omega (arith, least 97 102 b f))
ten-by b false false true e f g = not-below (b - 55) 10 (omega (arith, least 65 70 b g))
ten-by b false false false e f g = refl

ten : (b : ℕ) → nat_lt (digit b) 10 ≡ is_digit b
ten b = ten-by b (is_within 48 57 b) (is_within 97 102 b) (is_within 65 70 b) refl refl refl

sixteen-by : (b : ℕ) (v w u : Bool) → is_within 48 57 b ≡ v → is_within 97 102 b ≡ w → is_within 65 70 b ≡ u → nat_lt (reading v w u b) 16 ≡ ((v || w) || u)
sixteen-by b true w u e f g = below (b - 48) 16 (omega (arith, least 48 57 b e, most 48 57 b e))
sixteen-by b false true u e f g = below (b - 87) 16 (omega (arith, most 97 102 b f))
sixteen-by b false false true e f g = below (b - 55) 16 (omega (arith, most 65 70 b g))
sixteen-by b false false false e f g = refl

sixteen : (b : ℕ) → nat_lt (digit b) 16 ≡ is_hex_digit b
sixteen b = sixteen-by b (is_within 48 57 b) (is_within 97 102 b) (is_within 65 70 b) refl refl refl

neither : (b k : ℕ) → is_digit k ≡ true → is_digit b ≡ false → (v : Bool) → (b == k) ≡ v → v ≡ false
neither b k h e false f = refl
neither b k h e true f = let same : is_digit b ≡ true = subst (λ (x : ℕ). is_digit x ≡ true) (sym (eqb-true b k f)) h in cc

two-low : (b : ℕ) (p q : Bool) → 48 ≤ b → (b == 48) ≡ p → (b == 49) ≡ q → nat_lt (b - 48) 2 ≡ (p || q)
two-low b true q h e f = below (b - 48) 2 (omega (arith, eqb-true b 48 e))
two-low b false true h e f = below (b - 48) 2 (omega (arith, eqb-true b 49 f))
two-low b false false h e f = not-below (b - 48) 2 (let n : (b ≡ 48 → ⊥) = eqb-false b 48 e in let m : (b ≡ 49 → ⊥) = eqb-false b 49 f in omega arith)

two-by : (b : ℕ) (v w u : Bool) → is_within 48 57 b ≡ v → is_within 97 102 b ≡ w → is_within 65 70 b ≡ u → nat_lt (reading v w u b) 2 ≡ is_binary_digit b
two-by b true w u e f g = two-low b (b == 48) (b == 49) (least 48 57 b e) refl refl
two-by b false true u e f g = not-below (b - 87) 2 (omega (arith, least 97 102 b f)) ∙ sym (rw (neither b 48 refl e (b == 48) refl, neither b 49 refl e (b == 49) refl) refl)
two-by b false false true e f g = not-below (b - 55) 2 (omega (arith, least 65 70 b g)) ∙ sym (rw (neither b 48 refl e (b == 48) refl, neither b 49 refl e (b == 49) refl) refl)
two-by b false false false e f g = sym (rw (neither b 48 refl e (b == 48) refl, neither b 49 refl e (b == 49) refl) refl)

two : (b : ℕ) → nat_lt (digit b) 2 ≡ is_binary_digit b
two b = two-by b (is_within 48 57 b) (is_within 97 102 b) (is_within 65 70 b) refl refl refl

-- a digit has the value that its spelling says
same-by : (b : ℕ) (v w u : Bool) → is_within 48 57 b ≡ v → is_within 97 102 b ≡ w → is_within 65 70 b ≡ u → ((v || w) || u) ≡ true
    → reading v w u b ≡ cond v (b - 48) (cond (nat_lt b 97) (b - 55) (b - 87))
same-by b true w u e f g h = refl
same-by b false true u e f g h = sym (rw (not-below b 97 (least 97 102 b f)) refl)
same-by b false false true e f g h = sym (rw (below b 97 (omega (arith, most 65 70 b g))) refl)
same-by b false false false e f g h = cc

hex-same : (b : ℕ) → is_hex_digit b ≡ true → digit b ≡ digit_value b
hex-same b h = same-by b (is_within 48 57 b) (is_within 97 102 b) (is_within 65 70 b) refl refl refl h

ten-same : (b : ℕ) → is_digit b ≡ true → digit b ≡ digit_value b
ten-same b h = rw h refl

two-digit : (b : ℕ) (p q : Bool) → (b == 48) ≡ p → (b == 49) ≡ q → (p || q) ≡ true → is_digit b ≡ true
two-digit b true q e f h = subst (λ (x : ℕ). is_digit x ≡ true) (sym (eqb-true b 48 e)) refl
two-digit b false true e f h = subst (λ (x : ℕ). is_digit x ≡ true) (sym (eqb-true b 49 f)) refl
two-digit b false false e f h = cc

two-same : (b : ℕ) → is_binary_digit b ≡ true → digit b ≡ digit_value b
two-same b h = ten-same b (two-digit b (b == 48) (b == 49) refl refl h)

-- digits of a base, and the number that they spell
all-digits : (base : ℕ) (test : ℕ → Bool) → ((b : ℕ) → nat_lt (digit b) base ≡ test b) → (digits : List ℕ) → are_digits base digits ≡ list_all test digits
all-digits base test h [] = refl
all-digits base test h (b ∷ digits) = ap (λ v. v && are_digits base digits) (h b) ∙ ap (λ v. test b && v) (all-digits base test h digits)

values : (base v : ℕ) (test : ℕ → Bool) → ((b : ℕ) → test b ≡ true → digit b ≡ digit_value b) → (digits : List ℕ) → list_all test digits ≡ true
    → digits_value base v digits ≡ fold (λ n b. n * base + digit_value b) v digits
values base v test h [] e = refl
values base v test h (b ∷ digits) e =
    ap (λ (d : ℕ). digits_value base (v * base + d) digits) (h b (first-true (test b) (list_all test digits) e))
    ∙ values base (v * base + digit_value b) test h digits (second-true (test b) (list_all test digits) e)

abbrev cell : ℕ → ℤ
cell n = wrapped (pos n)

limit-by : (n most : ℕ) (v : Bool) → nat_le n most ≡ v → nat_lt n (suc most) ≡ v
limit-by n most true e = le-leb (suc n) (suc most) (omega (arith, leb-true n most e))
limit-by n most false e = lt-leb (suc n) (suc most) (omega (arith, leb-false n most e))

within-limit : (n most : ℕ) (v u : Bool) → v ≡ u → option_map cell (cond v (Some n) None) ≡ cond u (Some (cell n)) None
within-limit n most v true e = rw e refl
within-limit n most v false e = rw e refl

based-by : (base most : ℕ) (test : ℕ → Bool) (digits : List ℕ) (v : Bool) → list_all test digits ≡ v → are_digits base digits ≡ v
    → (v ≡ true → digits_value base 0 digits ≡ number_in base digits)
    → option_map cell (cond (are_digits base digits && nat_le (digits_value base 0 digits) most) (Some (digits_value base 0 digits)) None)
    ≡ cond v (cell_below (suc most) (number_in base digits)) None
based-by base most test digits true e f h =
    rw (f, h refl) (within-limit (number_in base digits) most (nat_le (number_in base digits) most) (nat_lt (number_in base digits) (suc most)) (sym (limit-by (number_in base digits) most (nat_le (number_in base digits) most) refl)))
based-by base most test digits false e f h = rw f refl

based : (base most : ℕ) (test : ℕ → Bool) → ((b : ℕ) → nat_lt (digit b) base ≡ test b) → ((b : ℕ) → test b ≡ true → digit b ≡ digit_value b) → (b : ℕ) (digits : List ℕ)
    → option_map cell (number base most (b ∷ digits)) ≡ cond (list_all test (b ∷ digits)) (cell_below (suc most) (number_in base (b ∷ digits))) None
based base most test h k b digits =
    based-by base most test (b ∷ digits) (list_all test (b ∷ digits)) refl (all-digits base test h (b ∷ digits)) (λ e. values base 0 test k (b ∷ digits) e)

-- The three forms together.
no-prefix : {X : Type 0} (p q h : Bool) (x y : X) → (p && q) ≡ false → cond ((p && (q && true)) && h) x y ≡ y
no-prefix true true h x y e = cc
no-prefix true false h x y e = refl
no-prefix false q h x y e = refl

decimal-only : (d p q r h g : Bool) (x y z : Option ℤ) → (p && q) ≡ false → (p && r) ≡ false → cond d x None ≡ cond d x (cond ((p && (q && true)) && h) y (cond ((p && (r && true)) && g) z None))
decimal-only true p q r h g x y z e f = refl
decimal-only false p q r h g x y z e f = sym (no-prefix p q h y (cond ((p && (r && true)) && g) z None) e ∙ no-prefix p r g z None f)

hex-value : (digits : List ℕ) → option_map cell (number 16 65535 digits) ≡ number_value (48 ∷ 120 ∷ digits)
hex-value [] = refl
hex-value (c ∷ digits) = based 16 65535 is_hex_digit sixteen hex-same c digits

binary-value : (digits : List ℕ) → option_map cell (number 2 65535 digits) ≡ number_value (48 ∷ 98 ∷ digits)
binary-value [] = refl
binary-value (c ∷ digits) = based 2 65535 is_binary_digit two two-same c digits

two-bytes : (a b : ℕ) (digits : List ℕ) (v u : Bool) → ((48 == a) && (120 == b)) ≡ v → ((48 == a) && (98 == b)) ≡ u
    → option_map cell (cond v (number 16 65535 digits) (cond u (number 2 65535 digits) (number 10 32767 (a ∷ b ∷ digits)))) ≡ number_value (a ∷ b ∷ digits)
two-bytes a b digits true u e f =
    let first : 48 ≡ a = eqb-true 48 a (first-true (48 == a) (120 == b) e) in
    let second : 120 ≡ b = eqb-true 120 b (second-true (48 == a) (120 == b) e) in
    hex-value digits ∙ ap (λ (x : ℕ). number_value (x ∷ 120 ∷ digits)) first ∙ ap (λ (y : ℕ). number_value (a ∷ y ∷ digits)) second
two-bytes a b digits false true e f =
    let first : 48 ≡ a = eqb-true 48 a (first-true (48 == a) (98 == b) f) in
    let second : 98 ≡ b = eqb-true 98 b (second-true (48 == a) (98 == b) f) in
    binary-value digits ∙ ap (λ (x : ℕ). number_value (x ∷ 98 ∷ digits)) first ∙ ap (λ (y : ℕ). number_value (a ∷ y ∷ digits)) second
two-bytes a b digits false false e f =
    based 10 32767 is_digit ten ten-same a (b ∷ digits)
    ∙ decimal-only (list_all is_digit (a ∷ b ∷ digits)) (48 == a) (120 == b) (98 == b) (some_of is_hex_digit digits) (some_of is_binary_digit digits)
    (cell_below 32768 (number_in 10 (a ∷ b ∷ digits))) (cell_below 65536 (number_in 16 digits)) (cell_below 65536 (number_in 2 digits)) e f

one-byte : (d p : Bool) (x y z : Option ℤ) → cond d x None ≡ cond d x (cond ((p && false) && false) y (cond ((p && false) && false) z None))
one-byte true p x y z = refl
one-byte false true x y z = refl
one-byte false false x y z = refl

pub number-value : (word : List ℕ) → option_map cell (number_of word) ≡ number_value word
number-value [] = refl
number-value (a ∷ []) =
    based 10 32767 is_digit ten ten-same a [] ∙ one-byte (list_all is_digit (a ∷ [])) (48 == a) (cell_below 32768 (number_in 10 (a ∷ []))) (cell_below 65536 0) (cell_below 65536 0)
number-value (a ∷ b ∷ digits) = two-bytes a b digits ((48 == a) && (120 == b)) ((48 == a) && (98 == b)) refl refl

pub number-known : (word : List ℕ) (n : ℕ) → number_of word ≡ Some n → number_value word ≡ Some (wrapped (pos n))
number-known word n e = sym (number-value word) ∙ ap (λ o. option_map cell o) e

pub number-unknown : (word : List ℕ) → number_of word ≡ None → number_value word ≡ None
number-unknown word e = sym (number-value word) ∙ ap (λ o. option_map cell o) e
