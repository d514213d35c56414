use Rattle.std.proofs.Common.{◌≡◌, ◌++◌, codes, drop, flat_map}
use Rattle.aseba_words.specs.Spelled.{word_text}
use Rattle.aseba_text.proofs.text.Text.push_words.Given as goal

-- what was added, and the text of what remains, is the text of all
abbrev pub invariant-loop-word : goal.invariant-loop-word
invariant-loop-word l = l.self ++ flat_map (λ word. codes " " ++ word_text word) (drop l.word-index l.words) ≡ l.fn.self ++ flat_map (λ word. codes " " ++ word_text word) l.words
