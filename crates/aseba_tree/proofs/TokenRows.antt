-- Texts cut into tokens by hand.
use Rattle.std.specs.Prelude.{refl, ℕ, pos, [], ◌∷◌, codes}
use Rattle.std.specs.Int.{int_wrap}
use Rattle.aseba_tree.specs.declared.pos.Pos.{Pos}
use Rattle.aseba_tree.specs.declared.token.Token.{Token}
use Rattle.aseba_tree.specs.declared.token.TokenKind.{TokenKind}
use Rattle.aseba_tree.specs.declared.token.Key.{Key}
use Rattle.aseba_tree.specs.declared.token.Sign.{Sign}
use Rattle.aseba_tree.specs.Tokens.{Tokens, nothing, gap, token, blank, line_comment, closed_comment, LexFaultAt, bad_byte, bad_number, open_comment, never_closed, no_number, no_lexeme}

abbrev at : ℕ → ℕ → Pos
at line col = record { line = line; col = col }

abbrev of_kind : ℕ → ℕ → TokenKind → Token
of_kind line col kind = record { at = record { line = line; col = col }; kind = kind }

-- a name, a symbol that two others begin, a number behind a comment and a keyword on the next line
tokens_of_lines : Tokens (codes "a.1<<=#**#0x10\nend") (of_kind 1 1 (TokenKind.Name (codes "a.1")) ∷ of_kind 1 4 (TokenKind.Sign Sign.ShiftLeftAssign)
    ∷ of_kind 1 11 (TokenKind.Number (pos 16)) ∷ of_kind 2 1 (TokenKind.Key Key.End) ∷ [])
unfolding int_wrap
tokens_of_lines =
    token (codes "a.1") (codes "<<=#**#0x10\nend") (TokenKind.Name (codes "a.1")) _ refl (record { is_spelled = refl; is_longest = refl }) refl
    (token (codes "<<=") (codes "#**#0x10\nend") (TokenKind.Sign Sign.ShiftLeftAssign) _ refl (record { is_spelled = refl; is_longest = refl }) refl
    (gap (codes "#**#") (codes "0x10\nend") refl (closed_comment [] refl refl)
    (token (codes "0x10") (codes "\nend") (TokenKind.Number (pos 16)) _ refl (record { is_spelled = refl; is_longest = refl }) refl
    (gap (codes "\n") (codes "end") refl (blank 10 refl refl)
    (token (codes "end") [] (TokenKind.Key Key.End) [] refl (record { is_spelled = refl; is_longest = refl }) refl (nothing refl refl refl))))))

-- bytes past ASCII in a comment, up to the line's end
tokens_of_comment : Tokens (35 ∷ 200 ∷ 13 ∷ 10 ∷ codes "0b11") (of_kind 2 1 (TokenKind.Number (pos 3)) ∷ [])
unfolding int_wrap
tokens_of_comment =
    gap (35 ∷ 200 ∷ 13 ∷ []) (10 ∷ codes "0b11") refl (line_comment (200 ∷ 13 ∷ []) refl refl refl refl)
    (gap (10 ∷ []) (codes "0b11") refl (blank 10 refl refl)
    (token (codes "0b11") [] (TokenKind.Number (pos 3)) [] refl (record { is_spelled = refl; is_longest = refl }) refl (nothing refl refl refl)))

-- a number that is too large, and one that is none
too_large : LexFaultAt (codes "40000") bad_number (at 1 1)
too_large = ([], codes "40000", nothing refl refl refl, no_number (codes "40000") [] refl refl refl refl)

no_number_there : LexFaultAt (codes "\n12ab!") bad_number (at 2 1)
no_number_there = ([], codes "12ab!", gap (codes "\n") (codes "12ab!") refl (blank 10 refl refl) (nothing refl refl refl), no_number (codes "12ab") (codes "!") refl refl refl refl)

-- a byte that begins no token alone, a name that begins with a point, and a comment whose end would be in its beginning
no_symbol : LexFaultAt (codes "! =") bad_byte (at 1 1)
no_symbol = ([], codes "! =", nothing refl refl refl, no_lexeme 33 (codes " =") refl refl refl refl)

no_name : LexFaultAt (codes ".a") bad_byte (at 1 1)
no_name = ([], codes ".a", nothing refl refl refl, no_lexeme 46 (codes "a") refl refl refl refl)

left_open : LexFaultAt (codes "#*#") open_comment (at 1 1)
left_open = ([], codes "#*#", nothing refl refl refl, never_closed refl refl)
