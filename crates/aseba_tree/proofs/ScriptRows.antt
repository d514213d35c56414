-- Entries that a script may have, and entries that differ from them in one thing and may not stand there.
use Rattle.std.specs.Prelude.{◌≡◌, refl, ℕ, ℤ, pos, negsuc, Bool, true, false, not, List, [], ◌∷◌, ◌++◌, replicate, codes}
use Rattle.std.specs.List.{list_all}
use Rattle.aseba_tree.specs.Code.{Name, Sized, Description, Project}
use Rattle.aseba_tree.specs.Line.{Event, named, numbered}
use Rattle.aseba_tree.specs.Script.{Action, arrives, sets, Entry}
use Rattle.aseba_tree.specs.GoodScript.{is_good_script}
use Rattle.aseba_tree.proofs.Written.{project, x, ping}

-- three global events, of the numbers 0 to 2, and a local one of the number 0xFFFE
abbrev node : Description
node = record project.node { locals = record { name = codes "touch"; text = [] } ∷ [] }

abbrev touching : Project
touching = record project { node = node }

abbrev variables : List Sized
variables = node.variables ++ record { name = x; size = 2 } ∷ []

abbrev is_good : Action → Bool
is_good action = is_good_script touching variables (record { time = 1000000; action = action } ∷ [])

abbrev args : Name
args = codes "event.args"

rows : list_all is_good (
    arrives (named ping) 65535 (replicate 40 (pos 32767)) ∷ arrives (named (codes "touch")) 0 (negsuc 32767 ∷ [])
    ∷ arrives (numbered 3) 1 [] ∷ arrives (numbered 0x7FFF) 1 []
    ∷ sets args 0 (replicate 32 (pos 1)) ∷ sets args 31 (pos 1 ∷ []) ∷ sets args 32 [] ∷ sets x 1 (negsuc 32767 ∷ []) ∷ []) ≡ true
rows = refl

bad_rows : list_all (λ action. not (is_good action)) (
    arrives (named (codes "pin")) 1 [] ∷ arrives (named ping) 65536 [] ∷ arrives (named ping) 1 (pos 32768 ∷ []) ∷ arrives (named ping) 1 (negsuc 32768 ∷ [])
    ∷ arrives (numbered 2) 1 [] ∷ arrives (numbered 0x8000) 1 [] ∷ arrives (numbered 0xFFFE) 1 [] ∷ arrives (numbered 0xFFFF) 1 []
    ∷ sets args 0 (replicate 33 (pos 1)) ∷ sets args 33 [] ∷ sets x 1 (pos 1 ∷ pos 1 ∷ []) ∷ sets x 0 (pos 32768 ∷ [])
    ∷ sets (codes "y") 0 [] ∷ []) ≡ true
bad_rows = refl
