-- What begins at the front of a text, as a function: how far a blank or a comment goes, or which token of how many bytes there is, or what is wrong.
use Rattle.std.specs.Prelude.{◌≡◌, ◌⊎◌, ◌++◌, Result, Ok, Err, ℕ, ◌+◌, Bool, ◌||◌, ◌==◌, List, [], ◌∷◌, take, drop, Option, Some, None, if◌then◌else◌}
use Rattle.std.specs.List.{prefix_len}
use Rattle.aseba_tree.specs.declared.pos.Pos.{Pos}
use Rattle.aseba_tree.specs.declared.token.Token.{Token}
use Rattle.aseba_tree.specs.declared.token.TokenKind.{TokenKind}
use Rattle.aseba_tree.specs.declared.token.Sign.{Sign}
use Rattle.aseba_tree.specs.Tokens.{is_blank, is_digit, is_name_start, is_word_byte, spelled_in, symbols, word_kind, LexFault, bad_byte, bad_number, open_comment}
use Rattle.aseba_lexer.specs.declared.signs.Spelled.{Spelled}
use Rattle.aseba_lexer.specs.declared.error.LexError.{LexError}
use Rattle.aseba_lexer.specs.declared.error.LexError.TheVariants as Error
use Rattle.aseba_lexer.specs.Comments.{begins_with_star, line_len, block_len}

pub data Found : Type 0 where
  gap_of : ℕ → Found
  token_of : ℕ → TokenKind → Found
  wrong : LexFault → Found

-- a letter, a digit or `_`
abbrev pub begins_word : ℕ → Bool
begins_word b = is_name_start b || is_digit b

-- how far a word goes on
abbrev pub word_rest : List ℕ → ℕ
word_rest text = prefix_len is_word_byte text

abbrev pub word_found : ℕ → Option TokenKind → Found
word_found n (Some kind) = token_of n kind
word_found n None = wrong bad_number

-- a symbol of n bytes, or else what a shorter one gives
abbrev pub sign_or : ℕ → Option Sign → Found → Found
sign_or n (Some sign) shorter = token_of n (TokenKind.Sign sign)
sign_or n None shorter = shorter

abbrev pub one_found : ℕ → Found
one_found a = sign_or 1 (spelled_in symbols (a ∷ [])) (wrong bad_byte)

abbrev pub two_found : ℕ → ℕ → Found
two_found a b = sign_or 2 (spelled_in symbols (a ∷ b ∷ [])) (one_found a)

-- the longest symbol at the front
abbrev pub sign_found : List ℕ → Found
sign_found [] = wrong bad_byte
sign_found (a ∷ []) = one_found a
sign_found (a ∷ b ∷ []) = two_found a b
sign_found (a ∷ b ∷ c ∷ rest) = sign_or 3 (spelled_in symbols (a ∷ b ∷ c ∷ [])) (two_found a b)

-- the same of the symbol that a call answers
abbrev pub sign_result : Option Spelled → Found
sign_result (Some s) = token_of s.len (TokenKind.Sign s.sign)
sign_result None = wrong bad_byte

abbrev pub block_found : Option ℕ → Found
block_found (Some k) = gap_of (2 + k)
block_found None = wrong open_comment

abbrev pub comment_found : List ℕ → Found
comment_found rest = if begins_with_star rest then block_found (block_len (drop 1 rest)) else gap_of (1 + line_len rest)

-- a word at the front, if one begins there
abbrev pub word_at : List ℕ → Found
word_at text = word_found (1 + word_rest (drop 1 text)) (word_kind (take (1 + word_rest (drop 1 text)) text))

abbrev pub found : List ℕ → Found
found [] = gap_of 0
found (b ∷ rest) = if is_blank b then gap_of 1 else if b == 35 then comment_found rest else if begins_word b then word_at (b ∷ rest) else sign_found (b ∷ rest)

-- the error that tells of a fault at a place
abbrev pub error_of : LexFault → Pos → LexError
error_of bad_byte at = Error.BadByte at
error_of bad_number at = Error.BadNumber at
error_of open_comment at = Error.OpenComment at

-- What a call answers that adds the front's token, if it is one, to those before it: the length of what was found, or what is wrong, or want of memory.
abbrev pub IsStep : Pos → Found → List Token → List Token → Result ℕ LexError → Type 0
IsStep at found before after (Ok n) = ((found ≡ gap_of n) × (after ≡ before)) ⊎ ((kind : TokenKind) × (found ≡ token_of n kind) × (after ≡ before ++ record { at = at; kind = kind } ∷ []))
IsStep at found before after (Err error) = (error ≡ Error.Mem) ⊎ ((fault : LexFault) × (found ≡ wrong fault) × (error ≡ error_of fault at))

-- the same of a call that adds none
abbrev pub IsSkip : Pos → Found → Result ℕ LexError → Type 0
IsSkip at found (Ok n) = found ≡ gap_of n
IsSkip at found (Err error) = (fault : LexFault) × (found ≡ wrong fault) × (error ≡ error_of fault at)
