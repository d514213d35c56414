-- What was read of a script's text, where there is one.
use Rattle.std.specs.Prelude.{◌≡◌, ℕ, List, [], Option, Some, None}
use Rattle.std.specs.Str.Lines.{lines}
use Rattle.aseba_tree.specs.Code.{Project}
use Rattle.aseba_tree.specs.Layout.{Placed}
use Rattle.aseba_driver.specs.Grammar.{IsBadLine, ScriptText}
use Rattle.aseba_driver.specs.declared.entry.Entry.{Entry}
use Rattle.aseba_tools.specs.declared.status.Status.{Status}
use Rattle.aseba_tools.specs.declared.status.Status.TheVariants.{BadScript, Memory}

-- the entries that the text spells, and none where there is no text
abbrev pub AreEntries : Project → List Placed → Option (List ℕ) → List Entry → Type 0
AreEntries project places None entries = entries ≡ []
AreEntries project places (Some text) entries = ScriptText project places text entries

-- why a text gives none
abbrev pub NoTextEntries : Project → List Placed → List ℕ → Status → Type 0
NoTextEntries project places text (BadScript line) = IsBadLine project places (lines text) line
NoTextEntries project places text Memory = Unit {0}
NoTextEntries project places text _ = ⊥

abbrev pub NoEntries : Project → List Placed → Option (List ℕ) → Status → Type 0
NoEntries project places None status = ⊥
NoEntries project places (Some text) status = NoTextEntries project places text status
