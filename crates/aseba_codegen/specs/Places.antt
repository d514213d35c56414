-- Where the branch words of `when`s stand in the code, in the order of the text, and what is remembered there.
use Rattle.std.specs.Prelude.{◌≡◌, ℕ, ◌+◌, Bool, if◌then◌else◌, List, [], ◌∷◌, ◌++◌, map, slice_get, slice_index, Some}
use Rattle.aseba_tree.specs.Code.{Project}
use Rattle.aseba_tree.specs.Core.{CorePart, Core}
use Rattle.aseba_vm.specs.Instructions.{bits_at, remembering}
use Rattle.aseba_codegen.specs.declared.coded.Coded.{Coded}
use Rattle.aseba_codegen.specs.Words.{part_code, init_code, init_start, part_starts}

-- the places in code that begins at an address
abbrev pub places_in : ℕ → List Coded → List ℕ
places_in at [] = []
places_in at (c ∷ code) = if c.is_edge then at ∷ places_in (at + 1) code else places_in (at + 1) code

-- those in parts, the first of which has this place among all
abbrev pub part_places : Project → List ℕ → ℕ → List CorePart → List ℕ
part_places project starts which [] = []
part_places project starts which (part ∷ parts) =
    places_in (slice_index starts which) (part_code project starts part) ++ part_places project starts (which + 1) parts

-- The places of a core for a project: those in the init code and then those in each part, in the order of the text. In the memory of a large project the
-- subroutines stand before the init code, so there the places don't rise.
abbrev pub edge_places : Project → Core → List ℕ
edge_places project core =
    places_in (init_start project core) (init_code project (part_starts project core) core) ++ part_places project (part_starts project core) 0 core.parts

-- the word at a place of the code
abbrev pub word_at : List Coded → ℕ → ℕ
word_at code at = slice_index (map (λ c. c.word) code) at

-- At each place the memory has the code's word, with the place's truth in bit 9.
abbrev pub HasBits : List Coded → (memory places : List ℕ) → List Bool → Type 0
HasBits code memory [] [] = Unit {0}
HasBits code memory (at ∷ places) (bit ∷ bits) = (slice_get memory at ≡ Some (remembering bit (word_at code at))) × HasBits code memory places bits
HasBits code memory _ _ = ⊥

-- those that the memory was said to have
abbrev pub BitsStandAtPlaces : Type 0
BitsStandAtPlaces = (code : List Coded) (memory places : List ℕ) (bits : List Bool) → HasBits code memory places bits → bits_at memory places ≡ bits
