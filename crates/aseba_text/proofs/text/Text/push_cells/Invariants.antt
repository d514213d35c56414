use Rattle.std.proofs.Common.{◌≡◌, ◌++◌, drop}
use Rattle.aseba_words.specs.Spelled.{blank_cells}
use Rattle.aseba_text.proofs.text.Text.push_cells.Given as goal

-- what was added, and the text of what remains, is the text of all
abbrev pub invariant-loop-cell : goal.invariant-loop-cell
invariant-loop-cell l = l.self ++ blank_cells (drop l.cell-index l.cells) ≡ l.fn.self ++ blank_cells l.cells
