-- The tools, which words are a command line of one, and what a call does of it.
use Rattle.std.specs.Prelude.{◌≡◌, ℕ, ◌⊎◌, ◌&&◌, Bool, true, false, not, List, [], ◌∷◌, Option, Some, None, IsSomeAnd, is_some, if◌then◌else◌, codes, option_map, option_and_then}
use Rattle.std.specs.Str.{bytes_eq}
use Rattle.std.specs.Option.{option_map_or}
use Rattle.clap.specs.Words.{Row, Text, first_of}
use Rattle.aseba_tools.specs.Address.{address_of, names_link}
use Rattle.aseba_tools.specs.CodeWritten.{CodeWritten}
use Rattle.aseba_tools.specs.Dialing.{Dialing, NotDialed}
use Rattle.aseba_tools.specs.Dumped.{Dumped}
use Rattle.aseba_tools.specs.Joined.{Joined}
use Rattle.aseba_tools.specs.Simulated.{Simulated}
use Rattle.aseba_tools.specs.Words.{Unread, Word, text, number, option, number_option, flag, found, text_at, number_at, number_or_none, is_set}
use Rattle.aseba_tools.specs.declared.command.Command.{Command as CodeCommand}
use Rattle.aseba_tools.specs.declared.command.Command.TheVariants as code
use Rattle.aseba_tools.specs.declared.command.Tool.{Tool}
use Rattle.aseba_tools.specs.declared.command.Tool.TheVariants.{Sim, Compile, Node, Dump, Rec, Play, Migrate, Massloader, Make}
use Rattle.aseba_tools.specs.declared.status.Status.{Status}

-- the tool of a name
abbrev pub tool_named : Text → Option Tool
tool_named name =
    if bytes_eq name (codes "sim") then Some Sim
    else (if bytes_eq name (codes "compile") then Some Compile
    else (if bytes_eq name (codes "node") then Some Node
    else (if bytes_eq name (codes "dump") then Some Dump
    else (if bytes_eq name (codes "rec") then Some Rec
    else (if bytes_eq name (codes "play") then Some Play
    else (if bytes_eq name (codes "migrate") then Some Migrate
    else (if bytes_eq name (codes "massloader") then Some Massloader
    else (if bytes_eq name (codes "make") then Some Make
    else None))))))))

-- the words that each tool takes behind its name
abbrev pub words_of : Tool → List Word
words_of Sim = text (codes "project") ∷ text (codes "source") ∷ number (codes "ticks") 0 100000000 ∷ option (codes "script") ∷ []
words_of Compile = text (codes "project") ∷ text (codes "source") ∷ []
words_of Node = text (codes "project") ∷ text (codes "target") ∷ number (codes "turns") 0 1000000000 ∷ []
words_of Dump = text (codes "target") ∷ option (codes "project") ∷ flag (codes "raw") ∷ []
words_of Rec = text (codes "target") ∷ option (codes "project") ∷ []
words_of Play = text (codes "recording") ∷ text (codes "target") ∷ []
words_of Migrate = text (codes "recording") ∷ option (codes "project") ∷ []
words_of Massloader = text (codes "project") ∷ text (codes "source") ∷ text (codes "target") ∷ number_option (codes "nodes") 1 65535 ∷ []
words_of Make = number (codes "number") 0 4294967295 ∷ number (codes "ticks") 0 100000000 ∷ []

-- a command line: its tool, with what the tool is given
pub data Command : Type 0 where
  sim : (project source : Text) (ticks : ℕ) (script : Option Text) → Command
  compile : (project source : Text) → Command
  node : (project target : Text) (turns : ℕ) → Command
  dump : (target : Text) (project : Option Text) (raw : Bool) → Command
  rec : (target : Text) (project : Option Text) → Command
  play : (recording target : Text) → Command
  migrate : (recording : Text) (project : Option Text) → Command
  massloader : (project source target : Text) (nodes : Option ℕ) → Command
  make : (seed ticks : ℕ) → Command

-- the command of a tool, by what was found in its words
abbrev pub command_in : Tool → List Row → Command
command_in Sim found = sim (text_at (codes "project") found) (text_at (codes "source") found) (number_at (codes "ticks") found) (first_of (codes "script") found)
command_in Compile found = compile (text_at (codes "project") found) (text_at (codes "source") found)
command_in Node found = node (text_at (codes "project") found) (text_at (codes "target") found) (number_at (codes "turns") found)
command_in Dump found = dump (text_at (codes "target") found) (first_of (codes "project") found) (is_set (codes "raw") found)
command_in Rec found = rec (text_at (codes "target") found) (first_of (codes "project") found)
command_in Play found = play (text_at (codes "recording") found) (text_at (codes "target") found)
command_in Migrate found = migrate (text_at (codes "recording") found) (first_of (codes "project") found)
command_in Massloader found =
    massloader (text_at (codes "project") found) (text_at (codes "source") found) (text_at (codes "target") found) (number_or_none (codes "nodes") found)
command_in Make found = make (number_at (codes "number") found) (number_at (codes "ticks") found)

-- the command of a tool, by the words behind its name
abbrev pub tool_command : Tool → List Text → Option Command
tool_command tool words = option_map (command_in tool) (found (words_of tool) words)

-- the command of words: the first names the tool, which takes the others
abbrev pub named : List Text → Option Command
named [] = None
named (name ∷ words) = option_and_then (λ tool. tool_command tool words) (tool_named name)

-- there is no first word, or it names no tool
abbrev pub names_no_tool : List Text → Bool
names_no_tool [] = true
names_no_tool (name ∷ words) = not (is_some (tool_named name))

-- what the program can do so far: the test gets shorter with each tool
abbrev pub is_built : Command → Bool
is_built (sim project source ticks script) = true
is_built (compile project source) = true
is_built (node project target turns) = true
is_built (dump target project raw) = raw && (not (is_some project) && not (names_link target))
is_built _ = false

-- where a tool needs a link, its target names one
abbrev pub has_link : Command → Bool
has_link (node project target turns) = is_some (address_of target)
has_link _ = true

abbrev pub if_built : Command → Option Command
if_built command = if is_built command && has_link command then Some command else None

-- the command of words, of those that the program can do
abbrev pub command_of : List Text → Option Command
command_of words = option_and_then if_built (named words)

-- a tool that may ask the dialer for a link
abbrev pub may_dial : Command → Bool
may_dial (node project target turns) = true
may_dial _ = false

-- the same of words, whose command there may not be
abbrev pub may_dial_for : Option Command → Bool
may_dial_for asked = option_map_or may_dial asked false

-- why a command ended with a status, what was written, and what came of the dialer, over what the files hold under each name
abbrev pub Does : Command → (files : List ℕ → Option (Option (List ℕ))) → (before after : Option (List ℕ)) → Dialing → Status → Type 0
Does (sim project source ticks script) files before after d status = Simulated project source script files ticks before after status × NotDialed d
Does (compile project source) files before after d status = CodeWritten project source files before after status × NotDialed d
Does (node project target turns) files before after d status =
    (after ≡ before) × IsSomeAnd (address_of target) (λ address. Joined project address (files project) turns d status)
Does (dump target project raw) files before after d status = Dumped target (files target) before after status × NotDialed d
Does _ files before after d status = ⊥

-- The words weren't read as a command, nothing was written, and the dialer wasn't asked; or their command was done.
abbrev pub Did : Option Command → (files : List ℕ → Option (Option (List ℕ))) → (before after : Option (List ℕ)) → Dialing → Status → Type 0
Did asked files before after d status =
    (Unread asked status × (after ≡ before) × NotDialed d) ⊎ IsSomeAnd asked (λ command. Does command files before after d status)

-- the command that a value of the code stands for
abbrev pub command_view : CodeCommand → Command
command_view (code.Sim project source ticks script) = sim project.now source.now ticks (option_map (λ s. s.now) script)
command_view (code.Compile project source) = compile project.now source.now
command_view (code.Node project target turns) = node project.now target.now turns
command_view (code.Dump target project raw) = dump target.now (option_map (λ s. s.now) project) raw
command_view (code.Rec target project) = rec target.now (option_map (λ s. s.now) project)
command_view (code.Play recording target) = play recording.now target.now
command_view (code.Migrate recording project) = migrate recording.now (option_map (λ s. s.now) project)
command_view (code.Massloader project source target nodes) = massloader project.now source.now target.now nodes
command_view (code.Make seed ticks) = make seed ticks
