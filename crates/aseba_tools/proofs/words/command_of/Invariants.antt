use Rattle.std.proofs.Common.{◌≡◌, map, drop}
use Rattle.std.specs.Prelude.{fold}
use Rattle.clap.specs.Words.{app_of}
use Rattle.aseba_tools.specs.Words.{app, with_word, word_view}
use Rattle.aseba_tools.proofs.words.command_of.Given as goal

-- the words that are left make of the command so far what all the words make
abbrev pub invariant-loop-word : goal.invariant-loop-word
invariant-loop-word l = fold with_word (app_of l.command) (map word_view (drop l.word-index l.words)) ≡ app (map word_view l.words)
