-- The words that a tool takes behind its name, as one command of `clap`, and what is found in them.
use Rattle.std.specs.Prelude.{◌≡◌, ℕ, ◌^◌, ◌&&◌, Bool, true, false, List, [], ◌∷◌, length, fold, Option, Some, None, pos, if◌then◌else◌, nat_lt, codes}
use Rattle.std.specs.Prelude.{option_and_then, unwrap_or}
use Rattle.std.specs.Char.{digit_value}
use Rattle.std.specs.List.{list_all}
use Rattle.std.specs.Option.{option_map_or}
use Rattle.std.specs.Str.{bytes_eq}
use Rattle.std.specs.Str.Parse.{digits_value, without_leading_plus}
use Rattle.clap.specs.Words.{App, Kinds, Row, Rule, Text, fault_of, first_of, matches_of, new_app, new_rule, one_of, with_rule}
use Rattle.clap.specs.declared.builder.action.ArgAction.TheVariants.{Set, SetTrue}
use Rattle.clap.specs.declared.builder.value_parser.ValueParser.TheVariants as parser
use Rattle.aseba_tools.specs.declared.status.Status.{Status}
use Rattle.aseba_tools.specs.declared.status.Status.TheVariants.{Usage, Memory}
use Rattle.aseba_tools.specs.declared.words.Word.{Word as CodeWord}
use Rattle.aseba_tools.specs.declared.words.Word.TheVariants as code

-- One word of a tool's command line, under the name by which it is read back: a word or a number that has to be there; `--NAME WORD`, `--NAME NUMBER`
-- and `--NAME`, which may be left out. A number is one of the two that are given, or lies between them.
pub data Word : Type 0 where
  text : Text → Word
  number : Text → (least most : ℕ) → Word
  option : Text → Word
  number_option : Text → (least most : ℕ) → Word
  flag : Text → Word

-- a word as `clap` takes it
abbrev pub rule : Word → Rule
rule (text name) = record (new_rule name) { required = true; action = Some Set }
rule (number name least most) = record (new_rule name) { required = true; action = Some Set; parser = Some (parser.Signed (pos least) (pos most)) }
rule (option name) = record (new_rule name) { long = Some name; action = Some Set }
rule (number_option name least most) = record (new_rule name) { long = Some name; action = Some Set; parser = Some (parser.Signed (pos least) (pos most)) }
rule (flag name) = record (new_rule name) { long = Some name; action = Some SetTrue }

-- a command that takes no words, and has no help and no version
abbrev pub bare : App
bare = record (new_app (codes "aseba")) {
  top = record (new_app (codes "aseba")).top { no_binary_name = true; disable_help_flag = true; disable_version_flag = true };
}

-- a command that takes one word more
abbrev pub with_word : App → Word → App
with_word a word = with_rule a (rule word)

-- the command of `clap` that takes these words
abbrev pub app : List Word → App
app words = fold with_word bare words

-- what was found in words that have no fault
abbrev pub without_fault : Kinds → List Row → Option (List Row)
without_fault [] found = Some found
without_fault (kind ∷ kinds) found = None

-- what `clap` finds in the words that are given where these are wanted, if it takes them
unfoldable pub found : (wanted : List Word) → (given : List Text) → Option (List Row)
found wanted given = without_fault (fault_of (app wanted) given) (matches_of (app wanted) given)

-- the number that bytes spell, where it is one of 32 bits: decimal digits, before which a plus may stand
abbrev pub number_in : Text → Option ℕ
number_in bytes =
    let digits = without_leading_plus bytes in
    if nat_lt 0 (length digits) && list_all (λ d. nat_lt (digit_value d) 10) digits && nat_lt (digits_value 10 digits) (2 ^ 32)
    then Some (digits_value 10 digits) else None

-- the word that was found under a name, and the number, of those that have to be there; the number of those that may be left out
abbrev pub text_at : Text → List Row → Text
text_at name found = unwrap_or (first_of name found) []

abbrev pub number_or_none : Text → List Row → Option ℕ
number_or_none name found = option_and_then number_in (one_of name found)

abbrev pub number_at : Text → List Row → ℕ
number_at name found = unwrap_or (number_or_none name found) 0

-- the flag of a name was found
abbrev pub is_set : Text → List Row → Bool
is_set name found = option_map_or (λ bytes. bytes_eq bytes (codes "true")) (first_of name found) false

-- why nothing was read of words: they are none of those, or memory didn't suffice
abbrev pub Unread : {X : Type 0} → Option X → Status → Type 0
Unread read Usage = read ≡ None
Unread read Memory = Unit {0}
Unread read _ = ⊥

-- the word that a value of the code stands for
abbrev pub word_view : CodeWord → Word
word_view (code.Text name) = text name.now
word_view (code.Number name least most) = number name.now least most
word_view (code.Option name) = option name.now
word_view (code.NumberOption name least most) = number_option name.now least most
word_view (code.Flag name) = flag name.now
