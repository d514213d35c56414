-- When the runs of two systems go alike: what ties their states, and what then is the same.
use Rattle.std.specs.Prelude.{ℕ, ℤ, ◌≡◌, ◌<◌, ◌≤◌, Bool, true, false, List, map, option_map}
use Rattle.aseba_tree.specs.Code.{Name}
use Rattle.aseba_tree.specs.Line.{Event, report_by, line_by}
use Rattle.aseba_tree.specs.Script.{Action, arrives, sets, Script}
use Rattle.aseba_tree.specs.Run.{Meeting, unheard, refused, kills, begins, is_begun, Met, Ticked, System, reached, run_of, lines_of, moments, beats_of, Paced, Knows}

-- the meeting with its source line, where it has one, read from another table
abbrev pub meeting_by : (ℕ → ℕ) → Meeting → Meeting
meeting_by f unheard = unheard
meeting_by f refused = refused
meeting_by f (kills line) = kills (f line)
meeting_by f begins = begins

-- Both met an event alike, but that one tells another's lines of the source, and are tied behind it.
pub record MetAlike {S : Type 0} {T : Type 0} (f : ℕ → ℕ) (R : S → T → Type 0) (a : Met S) (b : Met T) : Type 0 where
  pub meeting : meeting_by f a.meeting ≡ b.meeting
  pub tied : R a.state b.state

-- Both had an effect or none, failed or didn't, and tell the same; and they are tied behind it.
pub record TickedAlike {S : Type 0} {T : Type 0} (f : ℕ → ℕ) (R : S → T → Type 0) (a : Ticked S) (b : Ticked T) : Type 0 where
  pub counts : a.counts ≡ b.counts
  pub fails : a.fails ≡ b.fails
  pub report : option_map (report_by f) a.report ≡ b.report
  pub tied : R a.state b.state

-- Of the run of one system from a state, told some truths, and that of another, told at which ticks the first had an effect: the other has its effects there,
-- tells the same lines but for lines of the source, and shows the same at each tick; and they end tied.
pub record RunsAlike {S : Type 0} {T : Type 0} (f : ℕ → ℕ) (one : System S) (other : System T) (R : S → T → Type 0) (s : S) (t : T)
    (script : Script) (hints : List Bool) : Type 0 where
  pub beats : beats_of other t script (beats_of one s script hints) ≡ beats_of one s script hints
  pub lines : map (line_by f) (lines_of one s script hints) ≡ lines_of other t script (beats_of one s script hints)
  pub same_moments : moments one s script hints ≡ moments other t script (beats_of one s script hints)
  pub ticks : (run_of one s script hints).ticks ≡ (run_of other t script (beats_of one s script hints)).ticks
  pub effects : (run_of one s script hints).effects ≡ (run_of other t script (beats_of one s script hints)).effects
  pub tied : R (run_of one s script hints).state (run_of other t script (beats_of one s script hints)).state

-- `Good` says which actions there may be, `Known` which natives are known, and `f` gives the source's line for a line of the first.
module _ {S : Type 0} {T : Type 0} (Good : Action → Type 0) (Known : Name → Type 0) (f : ℕ → ℕ) (one : System S) (other : System T) where
  -- A relation that ties two systems: each good action keeps it, and each tick that calls no unknown native, where the other is told whether the first had an
  -- effect; and under it they show the same.
  pub record Tied (R : S → T → Type 0) : Type 0 where
    pub meets : (event : Event) (source : ℕ) (args : List ℤ) (s : S) (t : T) → Good (arrives event source args) → R s t
        → MetAlike f R (one.arrive event source args s) (other.arrive event source args t)
    pub writes : (name : Name) (first : ℕ) (values : List ℤ) (s : S) (t : T) → Good (sets name first values) → R s t
        → R (one.write name first values s) (other.write name first values t)
    pub ticks : (beat : Bool) (s : S) (t : T) → R s t → Knows Known (reached other (other.tick (one.tick beat s).counts t).counts t)
        → TickedAlike f R (one.tick beat s) (other.tick (one.tick beat s).counts t)
    pub runs : (s : S) (t : T) → R s t → one.is_running s ≡ other.is_running t
    pub calls : (beat : Bool) (s : S) (t : T) → R s t → (one.tick beat s).counts ≡ true → one.calls s ≡ other.calls t
    pub shows : (s : S) (t : T) → R s t → one.shown s ≡ other.shown t

  -- Behind an event the next effect is no farther away, if no handler begins by it.
  pub record MetWithin (R : ℕ → S → T → Type 0) (b : ℕ) (a : Met S) (c : Met T) : Type 0 where
    pub meeting : meeting_by f a.meeting ≡ c.meeting
    pub left : ℕ
    pub tied : R left a.state c.state
    pub kept : is_begun a.meeting ≡ false → left ≤ b

  -- A tick is an effect only where a handler runs; where one runs, a tick that is none brings the next effect nearer.
  pub record TickedWithin (R : ℕ → S → T → Type 0) (b : ℕ) (running : Bool) (a : Ticked S) (c : Ticked T) : Type 0 where
    pub counts : a.counts ≡ c.counts
    pub fails : a.fails ≡ c.fails
    pub report : option_map (report_by f) a.report ≡ c.report
    pub rests : a.counts ≡ true → running ≡ true
    pub left : ℕ
    pub tied : R left a.state c.state
    pub sooner : a.counts ≡ false → running ≡ true → left < b

  -- So are two systems tied whose first paces: `R b` says that the next effect is at most `b` ticks away, where a handler runs.
  pub record TiedWithin (weight : ℕ) (R : ℕ → S → T → Type 0) : Type 0 where
    pub small : (b : ℕ) (s : S) (t : T) → R b s t → b < weight
    pub meets : (b : ℕ) (event : Event) (source : ℕ) (args : List ℤ) (s : S) (t : T) → Good (arrives event source args) → R b s t
        → MetWithin R b (one.arrive event source args s) (other.arrive event source args t)
    pub writes : (b : ℕ) (name : Name) (first : ℕ) (values : List ℤ) (s : S) (t : T) → Good (sets name first values) → R b s t
        → R b (one.write name first values s) (other.write name first values t)
    pub ticks : (b : ℕ) (beat : Bool) (s : S) (t : T) → R b s t → Knows Known (reached other (other.tick (one.tick beat s).counts t).counts t)
        → TickedWithin R b (one.is_running s) (one.tick beat s) (other.tick (one.tick beat s).counts t)
    pub runs : (b : ℕ) (s : S) (t : T) → R b s t → one.is_running s ≡ other.is_running t
    pub calls : (b : ℕ) (beat : Bool) (s : S) (t : T) → R b s t → (one.tick beat s).counts ≡ true → one.calls s ≡ other.calls t
    pub shows : (b : ℕ) (s : S) (t : T) → R b s t → one.shown s ≡ other.shown t

-- how far the next effect may be is not said
abbrev pub Somehow : {S : Type 0} {T : Type 0} → (ℕ → S → T → Type 0) → S → T → Type 0
Somehow R s t = (b : ℕ) × R b s t

-- Of a machine, what it runs and what that was made of, where the second steps exactly where it is told to: what the machine's ticks tell is what the last means
-- where it is told which ticks were the machine's effects, but for lines of the source; these keep its pace; and the machine ends tied to the second, and the
-- second to the last.
pub record RunsAsMeant {S : Type 0} {T : Type 0} {U : Type 0} (f : ℕ → ℕ) (weight : ℕ) (one : System S) (two : System T) (three : System U)
    (R : S → T → Type 0) (Q : T → U → Type 0) (s : S) (t : T) (u : U) (script : Script) (hints : List Bool) : Type 0 where
  pub lines : map (line_by f) (lines_of one s script hints) ≡ lines_of three u script (beats_of one s script hints)
  pub same_moments : moments one s script hints ≡ moments three u script (beats_of one s script hints)
  pub ticks : (run_of one s script hints).ticks ≡ (run_of three u script (beats_of one s script hints)).ticks
  pub effects : (run_of one s script hints).effects ≡ (run_of three u script (beats_of one s script hints)).effects
  pub paced : Paced weight (moments three u script (beats_of one s script hints))
  pub first_tied : R (run_of one s script hints).state (run_of two t script (beats_of one s script hints)).state
  pub last_tied : Q (run_of two t script (beats_of one s script hints)).state (run_of three u script (beats_of one s script hints)).state
