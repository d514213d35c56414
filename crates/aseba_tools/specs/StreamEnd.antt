-- How a stream of frames ended.
use Rattle.std.specs.Prelude.{◌≡◌, ℕ, nat_eq, if◌then◌else◌, List, [], ◌∷◌, length}
use Rattle.aseba_message.specs.Cut.{IsBadAt, IsGoodStream, rest_of}
use Rattle.aseba_tools.specs.DumpText.{DumpLine}
use Rattle.aseba_tools.specs.DumpText.DumpLine.{rest}
use Rattle.aseba_tools.specs.declared.frames.StreamEnd.{StreamEnd}
use Rattle.aseba_tools.specs.declared.frames.StreamEnd.TheVariants.{Ended, Bad}

-- what the end says of the bytes
abbrev pub IsEndOf : List ℕ → StreamEnd → Type 0
IsEndOf bytes (Ended count) = IsGoodStream bytes × (count ≡ length (rest_of bytes))
IsEndOf bytes (Bad place) = IsBadAt bytes place

-- the line that is told of the end, if one is
abbrev pub end_lines : StreamEnd → List DumpLine
end_lines (Ended count) = if nat_eq count 0 then [] else rest count ∷ []
end_lines (Bad place) = []
