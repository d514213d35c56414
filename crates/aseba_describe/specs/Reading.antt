-- Reading a project from its text, line by line.
use Rattle.std.specs.Prelude.{◌≡◌, ℕ, ℤ, pos, negsuc, zero, suc, ◌+◌, Bool, false, not, ◌&&◌, ◌-◌, ◌==◌, nat_lt, nat_le, List, [], ◌∷◌, ◌++◌, length, codes, decimal, Option, Some, None, Result, Ok, Err, if◌then◌else◌}
use Rattle.std.specs.Option.{option_map}
use Rattle.aseba_tree.specs.Inside.{native_message_len}
use Rattle.aseba_tree.specs.declared.description.Sized.{Sized}
use Rattle.aseba_tree.specs.declared.description.Local.{Local}
use Rattle.aseba_tree.specs.declared.description.Param.{Param}
use Rattle.aseba_tree.specs.declared.description.Native.{Native}
use Rattle.aseba_tree.specs.declared.project.Const.{Const}
use Rattle.aseba_tree.specs.declared.project.Project.{Project}
use Rattle.aseba_words.specs.declared.limits.TheConstants.{MOST_CODE, LEAST_CODE, MOST_STACK, MOST_CELLS, MOST_EVENT_CELLS, MOST_VARIABLES, MOST_LOCALS, MOST_NATIVES, MOST_EVENTS, MOST_CONSTS, MOST_NATIVE_BYTES}
use Rattle.aseba_describe.specs.declared.entry.Entry.{Entry}
use Rattle.aseba_describe.specs.declared.entry.Entry.TheVariants as entry
use Rattle.aseba_describe.specs.declared.kind.Kind.{Kind}
use Rattle.aseba_describe.specs.declared.kind.Kind.TheVariants as kind
use Rattle.aseba_describe.specs.declared.fault.LineFault.{LineFault}
use Rattle.aseba_describe.specs.declared.fault.LineFault.TheVariants as fault
use Rattle.aseba_describe.specs.declared.fault.ProjectError.{ProjectError}
use Rattle.aseba_describe.specs.declared.fault.ProjectError.TheVariants as error
use Rattle.aseba_describe.specs.declared.draft.Draft.{Draft}
use Rattle.aseba_words.specs.Bytes.{is_within}
use Rattle.aseba_text.specs.Options.{◌>>=◌, when}
use Rattle.aseba_text.specs.Fields.{cut}
use Rattle.aseba_text.specs.Numbers.{number_from, cell_of}
use Rattle.aseba_text.specs.Names.{is_same, is_text, stands_in}
use Rattle.aseba_tree.specs.Tokens.{is_name}
use Rattle.aseba_text.specs.Lines.{is_skipped}
use Rattle.aseba_describe.specs.Kinds.{rank_of, is_whole, may_follow}

-- What a function returned is what reading gives, unless memory ran out.
abbrev pub Fails : {Y : Type 0} → LineFault → Option Y → Type 0
Fails fault.Mem read = Unit {0}
Fails fault.Bad read = read ≡ None

abbrev pub Gives : {X Y : Type 0} → (X → Y) → Result X LineFault → Option Y → Type 0
Gives view (Ok x) read = read ≡ Some (view x)
Gives view (Err e) read = Fails e read

abbrev pub name_of : List ℕ → Option (List ℕ)
name_of text = when (is_name text) text

abbrev pub text_of : List ℕ → Option (List ℕ)
text_of text = when (is_text text) text

-- The fields behind the word of a line.
unfoldable pub sized_of : ℕ → ℕ → List ℕ → Option Sized
sized_of least most fields = do
  c ← cut fields
  name ← name_of c.0
  size ← number_from least most c.1
  Some (record { name = name; size = size })

unfoldable pub local_of : List ℕ → Option Local
local_of fields = do
  c ← cut fields
  name ← name_of c.0
  text ← text_of c.1
  Some (record { name = name; text = text })

unfoldable pub const_of : List ℕ → Option Const
const_of fields = do
  c ← cut fields
  name ← name_of c.0
  value ← cell_of c.1
  Some (record { name = name; value = value })

abbrev pub is_zero : ℤ → Bool
is_zero (pos n) = n == 0
is_zero (negsuc n) = false

-- a parameter with the size that was read, and what stands behind it
unfoldable pub param_of : List ℕ → List ℕ → Option (Param × List ℕ)
param_of word rest = do
  size ← cell_of word
  c ← cut rest
  name ← name_of c.0
  when (not (is_zero size)) (record { size = size; name = name }, c.1)

-- a parameter, or none at the `;`, and what stands behind it
unfoldable pub next_of : ℕ → List ℕ → Option (Option Param × List ℕ)
next_of room fields = do
  c ← cut fields
  if is_same c.0 (codes ";") then Some (None, c.1) else if room == 0 then None else do
    p ← param_of c.0 c.1
    Some (Some p.0, p.1)

-- the parameters up to the `;`, and what stands behind it: the `;` is at most so many steps away
abbrev pub params_with : (List ℕ → Option (List Param × List ℕ)) → Option Param → List ℕ → Option (List Param × List ℕ)
params_with others None rest = Some ([], rest)
params_with others (Some p) rest = do
  ps ← others rest
  Some (p ∷ ps.0, ps.1)

unfoldable pub params_of : ℕ → List ℕ → Option (List Param × List ℕ)
params_of zero fields = None
params_of (suc room) fields = do
  n ← next_of room fields
  params_with (params_of room) n.0 n.1

unfoldable pub native_of : List ℕ → Option Native
native_of fields = do
  c ← cut fields
  name ← name_of c.0
  ps ← params_of 17 c.1
  text ← text_of ps.1
  when (nat_le (native_message_len (record { name = name; text = text; params = ps.0 })) MOST_NATIVE_BYTES) (record { name = name; text = text; params = ps.0 })

-- what a line says, by its first word
unfoldable pub list_entry_by : List ℕ → List ℕ → Option Entry
list_entry_by word fields =
    if is_same word (codes "variable") then option_map entry.Variable (sized_of 1 MOST_CELLS fields)
    else if is_same word (codes "local") then option_map entry.Local (local_of fields)
    else if is_same word (codes "native") then option_map entry.Native (native_of fields)
    else if is_same word (codes "event") then option_map entry.Event (sized_of 0 MOST_EVENT_CELLS fields)
    else if is_same word (codes "const") then option_map entry.Const (const_of fields)
    else None

unfoldable pub entry_by : List ℕ → List ℕ → Option Entry
entry_by word fields =
    if is_same word (codes "node") then option_map entry.Node (name_of fields)
    else if is_same word (codes "code") then option_map entry.Code (number_from LEAST_CODE MOST_CODE fields)
    else if is_same word (codes "vars") then option_map entry.Vars (number_from 1 MOST_CELLS fields)
    else if is_same word (codes "stack") then option_map entry.Stack (number_from 1 MOST_STACK fields)
    else if is_same word (codes "id") then option_map entry.Id (number_from 1 65535 fields)
    else list_entry_by word fields

abbrev pub entry_of : List ℕ → Option Entry
entry_of line = do
  c ← cut line
  entry_by c.0 c.1

abbrev pub is_new : List ℕ → List (List ℕ) → Bool
is_new name names = not (stands_in name names)

-- What was read so far and one more line, where it may follow.
unfoldable pub with_variable : Draft → Sized → Option Draft
with_variable d v =
    when (may_follow d.next kind.Variable && nat_lt (length d.variables) MOST_VARIABLES && nat_le v.size d.left && is_new v.name d.cell_names)
    (record d { next = kind.Variable; variables = d.variables ++ v ∷ []; left = d.left - v.size; cell_names = d.cell_names ++ v.name ∷ [] })

unfoldable pub with_local : Draft → Local → Option Draft
with_local d l =
    when (may_follow d.next kind.Local && nat_lt (length d.locals) MOST_LOCALS && is_new l.name d.event_names)
    (record d { next = kind.Local; locals = d.locals ++ l ∷ []; event_names = d.event_names ++ l.name ∷ [] })

unfoldable pub with_native : Draft → Native → Option Draft
with_native d n =
    when (may_follow d.next kind.Native && nat_lt (length d.natives) MOST_NATIVES && is_new n.name d.native_names)
    (record d { next = kind.Native; natives = d.natives ++ n ∷ []; native_names = d.native_names ++ n.name ∷ [] })

unfoldable pub with_event : Draft → Sized → Option Draft
with_event d e =
    when (may_follow d.next kind.Event && nat_lt (length d.events) MOST_EVENTS && is_new e.name d.event_names)
    (record d { next = kind.Event; events = d.events ++ e ∷ []; event_names = d.event_names ++ e.name ∷ [] })

unfoldable pub with_const : Draft → Const → Option Draft
with_const d c =
    when (may_follow d.next kind.Const && nat_lt (length d.consts) MOST_CONSTS && is_new c.name d.cell_names)
    (record d { next = kind.Const; consts = d.consts ++ c ∷ []; cell_names = d.cell_names ++ c.name ∷ [] })

-- a needed line, at its turn
abbrev pub is_turn : Kind → Kind → Bool
is_turn next this = rank_of next == rank_of this

abbrev pub passed : Kind → Kind → Draft → Option Draft
passed this next d = when (is_turn d.next this) (record d { next = next })

unfoldable pub with_entry : Draft → Entry → Option Draft
with_entry d (entry.Node name) = when (is_turn d.next kind.Node) (record d { next = kind.Code; name = name })
with_entry d (entry.Code n) = when (is_turn d.next kind.Code) (record d { next = kind.Vars; code = n })
with_entry d (entry.Vars n) = when (is_turn d.next kind.Vars) (record d { next = kind.Stack; cells = n; left = n })
with_entry d (entry.Stack n) = when (is_turn d.next kind.Stack) (record d { next = kind.Id; stack = n })
with_entry d (entry.Id n) = when (is_turn d.next kind.Id) (record d { next = kind.Variable; id = n })
with_entry d (entry.Variable v) = with_variable d v
with_entry d (entry.Local l) = with_local d l
with_entry d (entry.Native n) = with_native d n
with_entry d (entry.Event e) = with_event d e
with_entry d (entry.Const c) = with_const d c

-- nothing was read
abbrev pub empty_draft : Draft
empty_draft = record {
  next = kind.Node;
  name = [];
  code = 0;
  cells = 0;
  stack = 0;
  id = 0;
  variables = [];
  locals = [];
  natives = [];
  events = [];
  consts = [];
  left = 0;
  cell_names = [];
  event_names = [];
  native_names = [];
}

abbrev pub project_of : Draft → Project
project_of d = record {
  node = record {
    name = d.name;
    code = d.code;
    stack = d.stack;
    cells = d.cells;
    variables = d.variables;
    locals = d.locals;
    natives = d.natives;
  };
  id = d.id;
  events = d.events;
  consts = d.consts;
}

unfoldable pub with_line : Draft → List ℕ → Option Draft
with_line d line = if is_skipped line then Some d else (entry_of line >>= λ e. with_entry d e)

-- The project of the lines from one number on, or the first bad line.
abbrev pub goes_on : (Draft → Result Project ℕ) → ℕ → Option Draft → Result Project ℕ
goes_on others n None = Err n
goes_on others n (Some d) = others d

abbrev pub read_from : ℕ → Draft → List (List ℕ) → Result Project ℕ
read_from n d [] = if is_whole d.next then Ok (project_of d) else Err n
read_from n d (line ∷ lines) = goes_on (λ e. read_from (n + 1) e lines) n (with_line d line)

-- What a reader of a whole text returned is what reading gives, unless memory ran out.
abbrev pub FailsAt : ProjectError → Result Project ℕ → Type 0
FailsAt error.Mem read = Unit {0}
FailsAt (error.Line n) read = read ≡ Err n

abbrev pub GivesProject : Result Project ProjectError → Result Project ℕ → Type 0
GivesProject (Ok p) read = read ≡ Ok p
GivesProject (Err e) read = FailsAt e read
