-- The line of a program's words.
use Rattle.std.specs.Prelude.{ℕ, ◌++◌, codes, List}
use Rattle.aseba_tree.specs.Line.{code_text}

abbrev pub code_line : List ℕ → List ℕ
code_line words = code_text words ++ codes "\n"
