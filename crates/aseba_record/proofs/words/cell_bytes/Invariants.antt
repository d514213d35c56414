use Rattle.std.proofs.Common.{◌≡◌}
use Rattle.std.specs.Option.{option_map}
use Rattle.aseba_text.specs.Fields.{fields_behind}
use Rattle.aseba_record.specs.Reading.{cells_of}
use Rattle.aseba_record.proofs.CellsRead.{with_front, bytes_left}
use Rattle.aseba_record.proofs.words.cell_bytes.Given as goal

-- the bytes so far, and those of the fields that are left, are all of them
abbrev pub invariant-loop-rest : goal.invariant-loop-rest
invariant-loop-rest l = with_front l.bytes.items (cells_of (fields_behind (option_map (λ rest. rest.now) l.rest))) ≡ cells_of (fields_behind (option_map (λ rest. rest.now) l.fn.fields))

abbrev pub decreases-loop-rest : goal.decreases-loop-rest
decreases-loop-rest l = bytes_left (option_map (λ rest. rest.now) l.rest)
