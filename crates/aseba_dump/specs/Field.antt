-- How the fields of a message stand in a line.
use Rattle.std.specs.Prelude.{ℕ, ℤ, ◌==◌, Bool, not, ◌&&◌, if◌then◌else◌, List, [], ◌∷◌, ◌++◌, map, codes, flat_map}
use Rattle.std.specs.Fmt.{signed_decimal}
use Rattle.std.specs.Int.{w16, cast_signed}
use Rattle.hex.specs.Hex.{encode_lower}
use Rattle.aseba_words.specs.Bytes.{is_within}
use Rattle.aseba_words.specs.Spelled.{blank_number, word_text}
use Rattle.aseba_tree.specs.declared.description.Param.{Param}

-- A word as a number, or as a signed number; a text; the parameters of a native; words as signed numbers, or as code.
pub data Field : Type 0 where
  number : ℕ → Field
  signed : ℕ → Field
  text : List ℕ → Field
  params : List Param → Field
  cells : List ℕ → Field
  code : List ℕ → Field

-- a byte from the blank to `~` that is neither `"` nor `\` stands for itself
abbrev pub stands_for_itself : ℕ → Bool
stands_for_itself b = is_within 32 126 b && not (b == 34) && not (b == 92)

-- any other is `\` and two hexadecimal digits in lower case
abbrev pub byte_text : ℕ → List ℕ
byte_text b = if stands_for_itself b then b ∷ [] else codes "\\" ++ encode_lower (b ∷ [])

-- a text behind a blank, between quotes
abbrev pub quoted : List ℕ → List ℕ
quoted bytes = codes " \"" ++ flat_map byte_text bytes ++ codes "\""

-- a word behind a blank, as a signed number
abbrev pub blank_signed : ℕ → List ℕ
blank_signed word = codes " " ++ signed_decimal (cast_signed w16 word)

-- words as signed numbers, each behind a blank
abbrev pub signed_words : List ℕ → List ℕ
signed_words words = flat_map blank_signed words

-- a parameter's size and then its name
abbrev pub param_text : Param → List ℕ
param_text p = codes " " ++ signed_decimal p.size ++ quoted p.name

-- a field, with a blank before each of its parts
abbrev pub field_text : Field → List ℕ
field_text (number n) = blank_number n
field_text (signed w) = blank_signed w
field_text (text t) = quoted t
field_text (params ps) = flat_map param_text ps
field_text (cells ws) = signed_words ws
field_text (code ws) = flat_map (λ word. codes " " ++ word_text word) ws
