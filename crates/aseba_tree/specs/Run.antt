-- The run of any system that ticks, takes events and values, and shows variables: what is done before each tick, its effects, its lines and its pace.
use Rattle.std.specs.Prelude.{ℕ, suc, ℤ, ◌≡◌, ◌+◌, ◌≤◌, Bool, true, false, not, ◌&&◌, ◌||◌, IsTrue, List, [], ◌∷◌, ◌++◌, map, length, take, drop, replicate, All, Option, Some, None, option_to_list}
use Rattle.std.specs.List.{list_all, list_any}
use Rattle.aseba_tree.specs.Code.{Name}
use Rattle.aseba_tree.specs.Line.{Event, Report, began, ignored, dropped, killed, was_set, Line, told, var, end}
use Rattle.aseba_tree.specs.Script.{Action, arrives, sets, Script, actions_at}

-- Systems

-- What an event meets: no handler; a paused handler, which stays; a handler that runs, which it kills before that one's effect of a line, so that its own
-- begins; or none that runs, so that its own begins.
pub data Meeting : Type 0 where
  unheard : Meeting
  refused : Meeting
  kills : (line : ℕ) → Meeting
  begins : Meeting

-- what a meeting tells of the event
abbrev pub meeting_reports : Event → Meeting → List Report
meeting_reports event unheard = ignored event ∷ []
meeting_reports event refused = dropped event ∷ []
meeting_reports event (kills line) = killed line ∷ began event ∷ []
meeting_reports event begins = began event ∷ []

-- the event's handler begins
abbrev pub is_begun : Meeting → Bool
is_begun unheard = false
is_begun refused = false
is_begun (kills line) = true
is_begun begins = true

-- the state behind an event, and what the event met
pub record Met (S : Type 0) : Type 0 where
  pub state : S
  pub meeting : Meeting

-- the state behind a tick, whether the tick was an effect, whether it was an error of the node, and what it tells
pub record Ticked (S : Type 0) : Type 0 where
  pub state : S
  pub counts : Bool
  pub fails : Bool
  pub report : Option Report

-- A system with its states. A tick is told whether an effect is asked of it: some systems do one exactly where it is, others go their own way.
-- An event has its source and arguments, a write the values for a variable's cells from one on. `calls` is the native whose call is next.
pub record System (S : Type 0) : Type 0 where
  pub tick : Bool → S → Ticked S
  pub arrive : Event → (source : ℕ) → (args : List ℤ) → S → Met S
  pub write : Name → (first : ℕ) → (values : List ℤ) → S → S
  pub is_running : S → Bool
  pub calls : S → Option Name
  pub shown : S → List (Name × List ℤ)

-- Runs

-- a run so far: the ticks, the effects, and the state
pub record Run (S : Type 0) : Type 0 where
  pub ticks : ℕ
  pub effects : ℕ
  pub state : S

-- the run before its first tick
abbrev pub begin : {S : Type 0} → S → Run S
begin s = record { ticks = 0; effects = 0; state = s }

-- one more where it counts
abbrev pub counted : Bool → ℕ → ℕ
counted true k = suc k
counted false k = k

-- What a tick shows of a run: whether a handler began before it, whether one ran then, whether it was an effect, whether it was an error of the node,
-- and the native whose call it reached.
pub record Moment : Type 0 where
  pub began : Bool
  pub runs : Bool
  pub counts : Bool
  pub fails : Bool
  pub calls : Option Name

module _ {S : Type 0} (system : System S) where
  -- the state behind an action, what it tells, and whether a handler begins by it
  abbrev pub acting : S → Action → S
  acting s (arrives event source args) = (system.arrive event source args s).state
  acting s (sets name first values) = system.write name first values s

  abbrev pub action_reports : S → Action → List Report
  action_reports s (arrives event source args) = meeting_reports event (system.arrive event source args s).meeting
  action_reports s (sets name first values) = was_set name ∷ []

  abbrev pub begins_by : S → Action → Bool
  begins_by s (arrives event source args) = is_begun (system.arrive event source args s).meeting
  begins_by s (sets name first values) = false

  -- so it is with actions in order
  abbrev pub all_acting : S → List Action → S
  all_acting s [] = s
  all_acting s (action ∷ actions) = all_acting (acting s action) actions

  abbrev pub all_reports : S → List Action → List Report
  all_reports s [] = []
  all_reports s (action ∷ actions) = action_reports s action ++ all_reports (acting s action) actions

  abbrev pub heard : S → List Action → Bool
  heard s [] = false
  heard s (action ∷ actions) = begins_by s action || heard (acting s action) actions

  -- the native whose call a tick reaches, which it does where it is an effect
  abbrev pub reached : Bool → S → Option Name
  reached true s = system.calls s
  reached false s = None

  module _ (script : Script) where
    -- the state in which a run's next tick begins: before it comes what the script has for it
    abbrev pub acted : Run S → S
    acted run = all_acting run.state (actions_at script run.ticks)

    -- the next tick, which counts before it tells
    abbrev pub ticking : Run S → Bool → Run S
    ticking run beat =
        let after = system.tick beat (acted run) in record { ticks = suc run.ticks; effects = counted after.counts run.effects; state = after.state }

    -- the lines of what the script has for it, and of the tick
    abbrev pub tick_lines : Run S → Bool → List Line
    tick_lines run beat =
        let after = system.tick beat (acted run) in
        map (told run.ticks run.effects) (all_reports run.state (actions_at script run.ticks))
        ++ map (told run.ticks (counted after.counts run.effects)) (option_to_list after.report)

    abbrev pub moment : Run S → Bool → Moment
    moment run beat =
        let before = acted run in
        let after = system.tick beat before in
        record {
          began = heard run.state (actions_at script run.ticks);
          runs = system.is_running before;
          counts = after.counts;
          fails = after.fails;
          calls = reached after.counts before;
        }

    -- The ticks that are told these truths in order: the run behind them, their lines, what they show, and which were effects.
    abbrev pub all_ticking : Run S → List Bool → Run S
    all_ticking run [] = run
    all_ticking run (beat ∷ beats) = all_ticking (ticking run beat) beats

    abbrev pub lines_from : Run S → List Bool → List Line
    lines_from run [] = []
    lines_from run (beat ∷ beats) = tick_lines run beat ++ lines_from (ticking run beat) beats

    abbrev pub moments_from : Run S → List Bool → List Moment
    moments_from run [] = []
    moments_from run (beat ∷ beats) = moment run beat ∷ moments_from (ticking run beat) beats

    abbrev pub beats_from : Run S → List Bool → List Bool
    beats_from run [] = []
    beats_from run (beat ∷ beats) = (system.tick beat (acted run)).counts ∷ beats_from (ticking run beat) beats

  -- the lines of the variables, and of the numbers of all ticks and all effects
  abbrev pub ending : Run S → List Line
  ending run = map (λ v. var v.0 v.1) (system.shown run.state) ++ end run.ticks run.effects ∷ []

  -- so it is with the run from a state, whose ticks are told these truths: what it tells and then what it leaves are its lines
  abbrev pub run_of : S → Script → List Bool → Run S
  run_of s script beats = all_ticking script (begin s) beats

  abbrev pub lines_of : S → Script → List Bool → List Line
  lines_of s script beats = lines_from script (begin s) beats ++ ending (run_of s script beats)

  abbrev pub moments : S → Script → List Bool → List Moment
  moments s script beats = moments_from script (begin s) beats

  abbrev pub beats_of : S → Script → List Bool → List Bool
  beats_of s script beats = beats_from script (begin s) beats

-- so many ticks of a system that goes its own way, whatever it is told
abbrev pub ticks : ℕ → List Bool
ticks n = replicate n false

-- Pace

-- in all these ticks one and the same handler runs
abbrev pub is_one_handler : List Moment → Bool
is_one_handler ticks = list_all (λ m. m.runs) ticks && not (list_any (λ m. m.began) (drop 1 ticks))

-- so many ticks from a first one on, or those that there are
abbrev pub window : ℕ → ℕ → List Moment → List Moment
window weight first ticks = take weight (drop first ticks)

-- Effects are done only where a handler runs; and of any `weight` successive ticks in which one handler runs, at least one is an effect.
pub record Paced (weight : ℕ) (ticks : List Moment) : Type 0 where
  pub rests : IsTrue (list_all (λ m. not m.counts || m.runs) ticks)
  pub keeps_pace : (first : ℕ) → first + weight ≤ length ticks → IsTrue (is_one_handler (window weight first ticks))
      → IsTrue (list_any (λ m. m.counts) (window weight first ticks))

-- no tick is an error of the node
abbrev pub HasNoError : List Moment → Type 0
HasNoError ticks = IsTrue (list_all (λ m. not m.fails) ticks)

-- a native that is called, if one is, is known
abbrev pub Knows : (Name → Type 0) → Option Name → Type 0
Knows Known called = (name : Name) → called ≡ Some name → Known name

-- so it is with all that a run calls
abbrev pub CallsKnown : (Name → Type 0) → List Moment → Type 0
CallsKnown Known ticks = All (λ m. Knows Known m.calls) ticks
