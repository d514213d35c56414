-- What is told of handlers and subroutines, and the names that they give and use.
use Rattle.std.specs.Prelude.{ℕ, suc, Bool, not, cond, ◌&&◌, List, [], ◌∷◌, Option, Some, None, is_some, is_none}
use Rattle.aseba_tree.specs.declared.description.Sized.{Sized}
use Rattle.aseba_tree.specs.declared.description.Local.{Local}
use Rattle.aseba_tree.specs.declared.description.Native.{Native}
use Rattle.aseba_tree.specs.Code.{Name, Handler}
use Rattle.aseba_check.specs.declared.fault.Rule.TheVariants as code
use Rattle.aseba_check.specs.declared.fault.Fault.{Fault}
use Rattle.aseba_check.specs.Looked.{first_value}
use Rattle.aseba_check.specs.Told as told
use Rattle.aseba_check.specs.Statements.{Known, stmts_told}

-- Names

abbrev pub Events : Type 0
Events = Name → Option (Option ℕ)

abbrev pub with_globals : Events → List Sized → Events
with_globals events [] = events
with_globals events (e ∷ es) = with_globals (first_value events e.name (Some e.size)) es

abbrev pub with_locals : Events → List Local → Events
with_locals events [] = events
with_locals events (l ∷ ls) = with_locals (first_value events l.name None) ls

abbrev pub Numbered : Type 0
Numbered = Name → Option ℕ

-- natives by the place of the first of a name, where so many stand before them
abbrev pub with_natives : Numbered → ℕ → List Native → Numbered
with_natives places before [] = places
with_natives places before (n ∷ ns) = with_natives (first_value places n.name before) (suc before) ns

-- subroutines likewise among the parts
abbrev pub with_place : Numbered → ℕ → Handler → Numbered
with_place places place h = cond h.is_sub (first_value places h.name place) places

abbrev pub with_subs : Numbered → ℕ → List Handler → Numbered
with_subs places before [] = places
with_subs places before (h ∷ hs) = with_subs (with_place places before h) (suc before) hs

-- Parts

abbrev pub Seen : Type 0
Seen = Name → Option (Unit {0})

-- whether one of its kind and name stood before
abbrev pub is_seen : Seen → Seen → Handler → Bool
is_seen subs events h = cond h.is_sub (is_some (subs h.name)) (is_some (events h.name))

-- whether it handles an event that isn't there
abbrev pub is_strange : Known → Handler → Bool
is_strange known h = not h.is_sub && is_none (known.event h.name)

abbrev pub name_told : Known → Seen → Seen → Handler → Option Fault
name_told known subs events h =
    told.least (told.fault_if (is_strange known h) (told.pos_of h.place) code.Unknown) (told.fault_if (is_seen subs events h) (told.pos_of h.place) code.Duplicate)

abbrev pub part_told : Known → Seen → Seen → Option Fault → Handler → Option Fault
part_told known subs events before h = stmts_told known (told.least before (name_told known subs events h)) h.body

abbrev pub with_sub : Seen → Handler → Seen
with_sub subs h = cond h.is_sub (first_value subs h.name tt) subs

abbrev pub with_event : Seen → Handler → Seen
with_event events h = cond h.is_sub events (first_value events h.name tt)

abbrev pub parts_told : Known → Seen → Seen → Option Fault → List Handler → Option Fault
parts_told known subs events before [] = before
parts_told known subs events before (h ∷ hs) =
    parts_told known (with_sub subs h) (with_event events h) (part_told known subs events before h) hs
