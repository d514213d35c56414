-- The tokens of a text: what spells a token, and when a text is the spellings of a list of tokens with blanks and comments between them.
use Rattle.std.specs.Prelude.{◌≡◌, ℕ, ◌+◌, ◌-◌, ◌*◌, ◌==◌, nat_lt, nat_le, Bool, true, false, not, ◌&&◌, ◌||◌, if◌then◌else◌, ℤ, pos, List, [], ◌∷◌, ◌++◌, drop, codes, find, fold, Option, Some, None, option_map, is_some, length, IsTrue}
use Rattle.std.specs.List.{list_all, starts_with}
use lib.Dec.{eqb}
use lib.Pointwise.{pointwise}
pub use Rattle.aseba_words.specs.Bytes.{is_within, is_blank, is_digit, is_name_start, is_word_byte, is_name_like}
use Rattle.aseba_words.specs.declared.limits.TheConstants.{MOST_NAME_BYTES}
use Rattle.aseba_words.specs.Cell.{wrapped}
use Rattle.aseba_tree.specs.declared.pos.Pos.{Pos}
use Rattle.aseba_tree.specs.declared.token.Token.{Token}
use Rattle.aseba_tree.specs.declared.token.TokenKind.{TokenKind}
use Rattle.aseba_tree.specs.declared.token.Key.{Key}
use Rattle.aseba_tree.specs.declared.token.Key.TheVariants.{Var, OnEvent, Sub, If, Then, ElseIf, Else, End, When, Do, While, For, In, Step, Emit, CallSub, Call, Return, And, Or, Not, Abs}
use Rattle.aseba_tree.specs.declared.token.Sign.{Sign}
use Rattle.aseba_tree.specs.declared.token.Sign.TheVariants.{Assign, PlusAssign, MinusAssign, StarAssign, SlashAssign, PercentAssign, ShiftLeftAssign, ShiftRightAssign, AmpersandAssign, BarAssign, CaretAssign, PlusPlus, MinusMinus, Plus, Minus, Star, Slash, Percent, ShiftLeft, ShiftRight, Ampersand, Bar, Caret, Tilde, EqualEqual, NotEqual, Less, LessEqual, Greater, GreaterEqual, OpenParen, CloseParen, OpenBracket, CloseBracket, Comma, Colon}

-- the place of a text's first byte
abbrev pub first_place : Pos
first_place = record { line = 1; col = 1 }

-- the place behind bytes that begin at a place
abbrev pub behind : Pos → List ℕ → Pos
behind at [] = at
behind at (b ∷ bytes) = behind (if b == 10 then record { line = at.line + 1; col = 1 } else record { line = at.line; col = at.col + 1 }) bytes

-- a byte of a hexadecimal number, of either case
abbrev pub is_hex_digit : ℕ → Bool
is_hex_digit b = is_digit b || is_within 97 102 b || is_within 65 70 b

abbrev pub is_binary_digit : ℕ → Bool
is_binary_digit b = b == 48 || b == 49

abbrev pub digit_value : ℕ → ℕ
digit_value b = if is_digit b then b - 48 else if nat_lt b 97 then b - 55 else b - 87

-- the number that digits spell in a base
abbrev pub number_in : ℕ → List ℕ → ℕ
number_in base digits = fold (λ n b. n * base + digit_value b) 0 digits

-- one or more bytes that all pass the test
abbrev pub some_of : (ℕ → Bool) → List ℕ → Bool
some_of test [] = false
some_of test (b ∷ bytes) = list_all test (b ∷ bytes)

-- a number below a limit as a cell, in two's complement
abbrev pub cell_below : ℕ → ℕ → Option ℤ
cell_below limit n = if nat_lt n limit then Some (wrapped (pos n)) else None

-- the cell that a number's spelling stands for: decimal up to 32767, `0x` and `0b` up to 0xFFFF
abbrev pub number_value : List ℕ → Option ℤ
number_value bytes =
    if some_of is_digit bytes then cell_below 32768 (number_in 10 bytes)
    else if starts_with eqb bytes (codes "0x") && some_of is_hex_digit (drop 2 bytes) then cell_below 65536 (number_in 16 (drop 2 bytes))
    else if starts_with eqb bytes (codes "0b") && some_of is_binary_digit (drop 2 bytes) then cell_below 65536 (number_in 2 (drop 2 bytes))
    else None

-- the keywords and the symbols by their spellings
abbrev pub keywords : List (List ℕ × Key)
keywords =
    (codes "var", Var) ∷ (codes "onevent", OnEvent) ∷ (codes "sub", Sub) ∷ (codes "if", If) ∷ (codes "then", Then) ∷ (codes "elseif", ElseIf) ∷ (codes "else", Else)
    ∷ (codes "end", End) ∷ (codes "when", When) ∷ (codes "do", Do) ∷ (codes "while", While) ∷ (codes "for", For) ∷ (codes "in", In) ∷ (codes "step", Step)
    ∷ (codes "emit", Emit) ∷ (codes "callsub", CallSub) ∷ (codes "call", Call) ∷ (codes "return", Return) ∷ (codes "and", And) ∷ (codes "or", Or) ∷ (codes "not", Not)
    ∷ (codes "abs", Abs) ∷ []

abbrev pub symbols : List (List ℕ × Sign)
symbols =
    (codes "=", Assign) ∷ (codes "+=", PlusAssign) ∷ (codes "-=", MinusAssign) ∷ (codes "*=", StarAssign) ∷ (codes "/=", SlashAssign) ∷ (codes "%=", PercentAssign)
    ∷ (codes "<<=", ShiftLeftAssign) ∷ (codes ">>=", ShiftRightAssign) ∷ (codes "&=", AmpersandAssign) ∷ (codes "|=", BarAssign) ∷ (codes "^=", CaretAssign)
    ∷ (codes "++", PlusPlus) ∷ (codes "--", MinusMinus) ∷ (codes "+", Plus) ∷ (codes "-", Minus) ∷ (codes "*", Star) ∷ (codes "/", Slash) ∷ (codes "%", Percent)
    ∷ (codes "<<", ShiftLeft) ∷ (codes ">>", ShiftRight) ∷ (codes "&", Ampersand) ∷ (codes "|", Bar) ∷ (codes "^", Caret) ∷ (codes "~", Tilde)
    ∷ (codes "==", EqualEqual) ∷ (codes "!=", NotEqual) ∷ (codes "<", Less) ∷ (codes "<=", LessEqual) ∷ (codes ">", Greater) ∷ (codes ">=", GreaterEqual)
    ∷ (codes "(", OpenParen) ∷ (codes ")", CloseParen) ∷ (codes "[", OpenBracket) ∷ (codes "]", CloseBracket) ∷ (codes ",", Comma) ∷ (codes ":", Colon) ∷ []

-- what a table of spellings has for the bytes
abbrev pub spelled_in : {A : Type 0} → List (List ℕ × A) → List ℕ → Option A
spelled_in table bytes = option_map (λ row. row.1) (find (λ row. pointwise eqb row.0 bytes) table)

-- one of the keywords
unfoldable pub is_keyword : List ℕ → Bool
is_keyword bytes = is_some (spelled_in keywords bytes)

-- a name that a text may give: at most as many bytes as a name has, and no keyword
abbrev pub is_name : List ℕ → Bool
is_name name = nat_le (length name) MOST_NAME_BYTES && is_name_like name && not (is_keyword name)

abbrev pub IsName : List ℕ → Type 0
IsName name = IsTrue (is_name name)

-- a name, a keyword or a number, well spelled or not: letters, digits, `_` and `.`, the first of them no `.`
abbrev pub is_word : List ℕ → Bool
is_word [] = false
is_word (b ∷ bytes) = (is_name_start b || is_digit b) && list_all is_word_byte bytes

-- the bytes of a token, or of a number that is none
abbrev pub is_lexeme : List ℕ → Bool
is_lexeme bytes = is_word bytes || is_some (spelled_in symbols bytes)

abbrev pub keyword_or_name : Option Key → List ℕ → TokenKind
keyword_or_name (Some key) bytes = TokenKind.Key key
keyword_or_name None bytes = TokenKind.Name bytes

-- what a word stands for: none where it begins with a digit and is no number
abbrev pub word_kind : List ℕ → Option TokenKind
word_kind [] = None
word_kind (b ∷ bytes) =
    if is_digit b then option_map TokenKind.Number (number_value (b ∷ bytes))
    else Some (keyword_or_name (spelled_in keywords (b ∷ bytes)) (b ∷ bytes))

-- the token that the bytes spell
abbrev pub kind_of : List ℕ → Option TokenKind
kind_of bytes = if is_word bytes then word_kind bytes else option_map TokenKind.Sign (spelled_in symbols bytes)

-- bytes that something follows are the longest lexeme at their place: none of theirs with some of what follows is one
abbrev pub none_longer : List ℕ → List ℕ → Bool
none_longer bytes [] = true
none_longer bytes (b ∷ rest) = not (is_lexeme (bytes ++ b ∷ [])) && none_longer (bytes ++ b ∷ []) rest

-- whether `*#` stands in the bytes
abbrev pub closes : List ℕ → Bool
closes [] = false
closes (b ∷ bytes) = starts_with eqb (b ∷ bytes) (codes "*#") || closes bytes

-- whether a line ends at the front of the bytes
abbrev pub ends_line : List ℕ → Bool
ends_line [] = true
ends_line (b ∷ bytes) = b == 10

-- Bytes that are a blank or a comment, with what follows them: `#` to the line's end, or `#*` to the next `*#` behind these two bytes.
pub data Gap (bytes rest : List ℕ) : Type 0 where
  blank : (b : ℕ) → is_blank b ≡ true → bytes ≡ b ∷ [] → Gap bytes rest
  line_comment : (said : List ℕ) → bytes ≡ codes "#" ++ said → starts_with eqb said (codes "*") ≡ false → list_all (λ b. not (b == 10)) said ≡ true → ends_line rest ≡ true → Gap bytes rest
  closed_comment : (said : List ℕ) → bytes ≡ codes "#*" ++ said ++ codes "*#" → closes (said ++ codes "*") ≡ false → Gap bytes rest

-- Bytes that spell a token and are the longest lexeme at their place.
pub record Spelling (bytes rest : List ℕ) (kind : TokenKind) : Type 0 where
  pub is_spelled : kind_of bytes ≡ Some kind
  pub is_longest : none_longer bytes rest ≡ true

-- A text from a place on is the spellings of tokens, blanks and comments, up to a place where a rest of it begins.
pub data Cut : Pos → List ℕ → List Token → Pos → List ℕ → Type 0 where
  nothing : {at : Pos} {text : List ℕ} {tokens : List Token} {end : Pos} {rest : List ℕ} → tokens ≡ [] → end ≡ at → rest ≡ text → Cut at text tokens end rest
  gap : {at : Pos} {text : List ℕ} {tokens : List Token} {end : Pos} {rest : List ℕ} (bytes more : List ℕ) → text ≡ bytes ++ more → Gap bytes more
      → Cut (behind at bytes) more tokens end rest → Cut at text tokens end rest
  token : {at : Pos} {text : List ℕ} {tokens : List Token} {end : Pos} {rest : List ℕ} (bytes more : List ℕ) (kind : TokenKind) (others : List Token) → text ≡ bytes ++ more
      → Spelling bytes more kind → tokens ≡ record { at = at; kind = kind } ∷ others → Cut (behind at bytes) more others end rest → Cut at text tokens end rest

-- The text is the spellings of these tokens, each at its place.
abbrev pub Tokens : List ℕ → List Token → Type 0
Tokens text tokens = Cut first_place text tokens (behind first_place text) []

-- what is wrong where no token, blank or comment begins
pub data LexFault : Type 0 where
  bad_byte bad_number open_comment : LexFault

-- Nothing begins at the front of these bytes: a comment is never closed; a number is none of the forms or too large; or the byte begins no lexeme.
pub data Stuck (bytes : List ℕ) : LexFault → Type 0 where
  never_closed : starts_with eqb bytes (codes "#*") ≡ true → closes (drop 2 bytes) ≡ false → Stuck bytes open_comment
  no_number : (word rest : List ℕ) → bytes ≡ word ++ rest → is_word word ≡ true → none_longer word rest ≡ true → word_kind word ≡ None → Stuck bytes bad_number
  no_lexeme : (b : ℕ) (rest : List ℕ) → bytes ≡ b ∷ rest → is_blank b ≡ false → (b == 35) ≡ false → none_longer [] bytes ≡ true → Stuck bytes bad_byte

-- the first place of the text at which nothing begins, and what is wrong there
abbrev pub LexFaultAt : List ℕ → LexFault → Pos → Type 0
LexFaultAt text fault at = (tokens : List Token) × (rest : List ℕ) × Cut first_place text tokens at rest × Stuck rest fault
