-- Which targets name links, and by which addresses.
use Rattle.std.specs.Prelude.{ℕ, ◌==◌, ◌&&◌, Bool, List, drop, Option, Some, None, is_some, nat_eq, nat_lt, length, if◌then◌else◌, codes}
use Rattle.std.specs.List.{starts_with, before_first, after_first}
use Rattle.aseba_text.specs.Numbers.{number_from}

-- a target that begins so is a link, and no file
abbrev pub names_link : List ℕ → Bool
names_link target = starts_with nat_eq target (codes "tcp:")

abbrev pub is_colon : ℕ → Bool
is_colon byte = byte == 58

-- HOST:PORT, where the host has a byte and no colon, and the port is a number from 1 to 65535
abbrev pub is_address : List ℕ → Bool
is_address text = nat_lt 0 (length (before_first is_colon text)) && is_some (number_from 1 65535 (after_first is_colon text))

-- the address of a link, behind `tcp:`
abbrev pub address_of : List ℕ → Option (List ℕ)
address_of target = if names_link target && is_address (drop 4 target) then Some (drop 4 target) else None
