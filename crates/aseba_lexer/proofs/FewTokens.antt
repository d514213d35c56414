-- A text has no more tokens than bytes.
use Rattle.std.proofs.Common.{◌≡◌, refl, sym, ◌∙◌, ap, ℕ, ◌≤◌, List, [], ◌∷◌, length, arith, Some, None, length-append}
use Rattle.aseba_tree.specs.declared.pos.Pos.{Pos}
use Rattle.aseba_tree.specs.declared.token.Token.{Token}
use Rattle.aseba_tree.specs.declared.token.TokenKind.{TokenKind}
use Rattle.aseba_tree.specs.Tokens.{kind_of, Cut, nothing, gap, token}

nothing-spelled : (kind : TokenKind) → kind_of [] ≡ Some kind → ⊥
nothing-spelled kind e = let none : kind_of [] ≡ None = refl in cc (sym none ∙ e)

spelled-long : (bytes : List ℕ) (kind : TokenKind) → kind_of bytes ≡ Some kind → 1 ≤ length bytes
spelled-long [] kind e = absurd (nothing-spelled kind e)
spelled-long (b ∷ bytes) kind e = omega arith

pub few-tokens : {at : Pos} {text : List ℕ} {tokens : List Token} {end : Pos} {rest : List ℕ} → Cut at text tokens end rest → length tokens ≤ length text
few-tokens (nothing no_tokens at_end all) = let none = ap length no_tokens in omega (arith, none)
few-tokens (gap bytes more all g c) = let fewer = few-tokens c in let long = ap length all in let sum = length-append bytes more in omega (arith, fewer, long, sum)
few-tokens (token bytes more kind others all s first c) =
    let fewer = few-tokens c in
    let long = ap length all in
    let sum = length-append bytes more in
    let one = spelled-long bytes kind s.is_spelled in
    let count = ap length first in
    omega (arith, fewer, long, sum, one, count)
