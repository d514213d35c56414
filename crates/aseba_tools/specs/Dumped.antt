-- What a status says of a call of `dump`: why it came, and what was written.
use Rattle.std.specs.Prelude.{ℕ, ◌≡◌, ◌⊎◌, List, Option}
use Rattle.aseba_edge.specs.Sink.{Took, TookFirst}
use Rattle.aseba_message.specs.Cut.{IsBadAt, IsGoodStream}
use Rattle.aseba_tools.specs.FileText.{IsFileText, NotRead, most_dumped}
use Rattle.aseba_tools.specs.DumpText.{raw_dump_text}
use Rattle.aseba_tools.specs.declared.status.Status.{Status}
use Rattle.aseba_tools.specs.declared.status.Status.TheVariants.{Done, WriteFault, Memory, BadFrame}

-- What was written of a file of these bytes: its whole dump where all was done, and where its frames end at a bad length, which is told of
-- by the status alone; the first bytes of its dump where a write failed or memory didn't suffice.
abbrev pub WroteDump : List ℕ → (before after : Option (List ℕ)) → Status → Type 0
WroteDump bytes before after Done = IsGoodStream bytes × Took before (raw_dump_text bytes) after
WroteDump bytes before after (BadFrame place) = IsBadAt bytes place × Took before (raw_dump_text bytes) after
WroteDump bytes before after WriteFault = TookFirst before (raw_dump_text bytes) after
WroteDump bytes before after Memory = TookFirst before (raw_dump_text bytes) after
WroteDump bytes before after _ = ⊥

-- the file was read, and its dump was written
pub record DumpedFile (held : Option (Option (List ℕ))) (before after : Option (List ℕ)) (status : Status) : Type 0 where
  pub bytes : List ℕ
  pub read : IsFileText most_dumped held bytes
  pub wrote : WroteDump bytes before after status

-- The file was not read, and nothing was written; or its dump was written.
abbrev pub Dumped : (file : List ℕ) → Option (Option (List ℕ)) → (before after : Option (List ℕ)) → Status → Type 0
Dumped file held before after status =
    (NotRead most_dumped file held status × (after ≡ before)) ⊎ DumpedFile held before after status
