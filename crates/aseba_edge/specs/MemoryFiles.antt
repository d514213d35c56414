-- The files in memory.
use Rattle.std.specs.Prelude.{ℕ, List, Option, option_map, nat_eq, find}
use Rattle.std.specs.Cmp.Lexicographic.{pointwise}
use Rattle.aseba_edge.specs.declared.memory_files.MemoryFile.{MemoryFile}

-- the first file of a name
abbrev pub first_named : List MemoryFile → List ℕ → Option MemoryFile
first_named files name = find (λ file. pointwise nat_eq file.name name) files

-- the bytes under a name
abbrev pub held : List MemoryFile → List ℕ → Option (List ℕ)
held files name = option_map (λ file. file.bytes) (first_named files name)
