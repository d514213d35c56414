-- What was added and what is left to add are all.
use Rattle.std.proofs.Common.{◌≡◌, ◌++◌, drop}
use Rattle.aseba_codegen.specs.Words.{on_line}
use Rattle.aseba_codegen.proofs.code.add_words.Given as goal

abbrev pub invariant-loop-word : goal.invariant-loop-word
invariant-loop-word l = l.code ++ on_line l.line (drop l.word-index l.words) ≡ l.initial.code ++ on_line l.line l.words
