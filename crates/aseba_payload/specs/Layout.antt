-- What payloads are made of, and how it is spelled.
use Rattle.std.specs.Prelude.{ℕ, zero, suc, ◌+◌, ◌<◌, ◌^◌, Bool, true, false, List, [], ◌∷◌, ◌++◌, length, drop, slice_index, FitsSigned}
use Rattle.std.specs.List.{AllByRecursion, flat_map}
use Rattle.std.specs.Int.{w16, cast_unsigned}
use Rattle.byteorder.specs.Endian.{little_bytes, little_number}
use Rattle.aseba_tree.specs.declared.description.Param.{Param}
use Rattle.aseba_tree.specs.Inside.{IsShort}

-- the fields of a payload in their order, up to its end or to a list of words, which takes all that remains
pub data Layout : Type 0 where
  ends : Layout
  words : Layout
  word : Layout → Layout
  text : Layout → Layout
  params : Layout → Layout

-- the values of the fields
abbrev pub Values : Layout → Type 0
Values ends = Unit {0}
Values words = List ℕ
Values (word l) = ℕ × Values l
Values (text l) = List ℕ × Values l
Values (params l) = List Param × Values l

-- two bytes, the lower first
abbrev pub word_bytes : ℕ → List ℕ
word_bytes w = little_bytes 2 w

-- a byte for the length, and the bytes
abbrev pub text_bytes : List ℕ → List ℕ
text_bytes t = length t ∷ t

-- the size as a signed word, and the name
abbrev pub param_bytes : Param → List ℕ
param_bytes p = word_bytes (cast_unsigned w16 p.size) ++ text_bytes p.name

-- a word for the count, and the parameters
abbrev pub params_bytes : List Param → List ℕ
params_bytes ps = word_bytes (length ps) ++ flat_map param_bytes ps

abbrev pub spelling : (l : Layout) → Values l → List ℕ
spelling ends vs = []
spelling words ws = flat_map word_bytes ws
spelling (word l) vs = word_bytes vs.0 ++ spelling l vs.1
spelling (text l) vs = text_bytes vs.0 ++ spelling l vs.1
spelling (params l) vs = params_bytes vs.0 ++ spelling l vs.1

-- each text among the values has at most 255 bytes
abbrev pub HasShortName : Param → Type 0
HasShortName p = IsShort p.name

abbrev pub HaveShortTexts : (l : Layout) → Values l → Type 0
HaveShortTexts ends vs = Unit {0}
HaveShortTexts words ws = Unit {0}
HaveShortTexts (word l) vs = HaveShortTexts l vs.1
HaveShortTexts (text l) vs = IsShort vs.0 × HaveShortTexts l vs.1
HaveShortTexts (params l) vs = AllByRecursion HasShortName vs.0 × HaveShortTexts l vs.1

-- there are at most 65535 parameters
abbrev pub HaveFewParams : (l : Layout) → Values l → Type 0
HaveFewParams ends vs = Unit {0}
HaveFewParams words ws = Unit {0}
HaveFewParams (word l) vs = HaveFewParams l vs.1
HaveFewParams (text l) vs = HaveFewParams l vs.1
HaveFewParams (params l) vs = (length vs.0 < 2 ^ 16) × HaveFewParams l vs.1

-- What can be spelled: short texts and few parameters.

pub record AreCounted (ps : List Param) : Type 0 where
  pub few : length ps < 2 ^ 16
  pub short : AllByRecursion HasShortName ps

abbrev pub CanSpell : (l : Layout) → Values l → Type 0
CanSpell ends vs = Unit {0}
CanSpell words ws = Unit {0}
CanSpell (word l) vs = CanSpell l vs.1
CanSpell (text l) vs = IsShort vs.0 × CanSpell l vs.1
CanSpell (params l) vs = AreCounted vs.0 × CanSpell l vs.1

-- The values that the code's types hold: words of 16 bits, bytes, and signed sizes of 16 bits.
abbrev pub IsWord : ℕ → Type 0
IsWord w = w < 2 ^ 16

abbrev pub IsByte : ℕ → Type 0
IsByte b = b < 256

pub record IsParam (p : Param) : Type 0 where
  pub size : FitsSigned w16 p.size
  pub name : AllByRecursion IsByte p.name

abbrev pub AreValues : (l : Layout) → Values l → Type 0
AreValues ends vs = Unit {0}
AreValues words ws = AllByRecursion IsWord ws
AreValues (word l) vs = IsWord vs.0 × AreValues l vs.1
AreValues (text l) vs = AllByRecursion IsByte vs.0 × AreValues l vs.1
AreValues (params l) vs = AllByRecursion IsParam vs.0 × AreValues l vs.1

-- How many bytes the fields before the end or before the list of words take, as these bytes tell it. Bytes that aren't there count as 0.
abbrev pub text_len : List ℕ → ℕ
text_len bytes = 1 + slice_index bytes 0

abbrev pub param_len : List ℕ → ℕ
param_len bytes = 2 + text_len (drop 2 bytes)

abbrev pub param_list_len : ℕ → List ℕ → ℕ
param_list_len zero bytes = 0
param_list_len (suc count) bytes = param_len bytes + param_list_len count (drop (param_len bytes) bytes)

abbrev pub params_len : List ℕ → ℕ
params_len bytes = 2 + param_list_len (little_number 2 bytes) (drop 2 bytes)

abbrev pub fields_len : Layout → List ℕ → ℕ
fields_len ends bytes = 0
fields_len words bytes = 0
fields_len (word l) bytes = 2 + fields_len l (drop 2 bytes)
fields_len (text l) bytes = text_len bytes + fields_len l (drop (text_len bytes) bytes)
fields_len (params l) bytes = params_len bytes + fields_len l (drop (params_len bytes) bytes)

-- whether a list of words takes what remains behind the fields
abbrev pub has_words : Layout → Bool
has_words ends = false
has_words words = true
has_words (word l) = has_words l
has_words (text l) = has_words l
has_words (params l) = has_words l
