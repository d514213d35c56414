use Rattle.std.proofs.Common.{refl, []}
use Rattle.std.specs.Fmt.{digits}
use Rattle.hex.specs.Hex.{encode_with, decode_pairs}
use Rattle.aseba_text.specs.Numbers.{number_of, cell_of}
use Rattle.aseba_tree.specs.Tokens.{is_keyword}
use Rattle.aseba_describe.specs.Reading.{sized_of}
use Rattle.aseba_record.specs.Reading.{kind_of, bytes_of, old_of, new_by, entry_of, with_entry, named_of, with_event}
use Rattle.aseba_record.specs.Samples.{ping_pong, mixed}
use Rattle.aseba_record.proofs.Decided.{is_read, is_bad}
use Rattle.aseba_record.proofs.samples.worked_recordings.Goals as goal

pub returns-clause-written : goal.returns-clause-written
unfolding digits encode_with
returns-clause-written c = record { old_ping_pong = refl; ping_pong = refl; old_mixed = refl; mixed = refl }

pub returns-clause-read : goal.returns-clause-read
unfolding digits encode_with decode_pairs number_of cell_of is_keyword sized_of kind_of bytes_of old_of new_by entry_of with_entry named_of with_event
returns-clause-read c = record { empty = is_read _ [] refl; old = is_read _ ping_pong refl; no_names = is_read _ mixed refl; some_names = is_read _ mixed refl }

pub returns-clause-bad : goal.returns-clause-bad
unfolding digits encode_with decode_pairs number_of cell_of is_keyword sized_of kind_of bytes_of old_of new_by entry_of with_entry named_of with_event
returns-clause-bad c = record {
  falling = is_bad _ 2 refl;
  numbered_name = is_bad _ 4 refl;
  without_frames = is_bad _ 3 refl;
  name_twice = is_bad _ 3 refl;
  keyword = is_bad _ 2 refl;
  upper_case = is_bad _ 1 refl;
  half_word = is_bad _ 1 refl;
  no_event = is_bad _ 1 refl;
  empty_line = is_bad _ 1 refl;
}
