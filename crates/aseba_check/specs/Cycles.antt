-- The search for calls by which a subroutine leads back to itself.
use Rattle.std.specs.Prelude.{◌≡◌, ℕ, ◌+◌, ◌<◌, Bool, true, not, ◌&&◌, ◌||◌, cond, List, [], ◌∷◌, ◌++◌, length, Option, is_some, unwrap_or}
use Rattle.aseba_tree.specs.Code.{Name}
use Rattle.aseba_tree.specs.View.{place_view}
use Rattle.aseba_tree.specs.Faults as tree
use Rattle.aseba_check.specs.declared.fault.Rule.TheVariants as code
use Rattle.aseba_check.specs.declared.fault.Fault.{Fault}
use Rattle.aseba_check.specs.declared.sub_calls.SubCall.{SubCall}
use Rattle.aseba_check.specs.Looked.{with_value}
use Rattle.aseba_check.specs.Told as told

abbrev pub call_view : SubCall → tree.Call
call_view c = record { caller = c.caller.now; called = c.called.now; place = place_view c.at }

-- whether calls lead from one subroutine to another
abbrev pub led : List tree.Call → Name → Name → Bool
led calls from to = tree.leads (length calls) calls from to

-- the fault that is told behind these calls and this fault, where these calls follow
abbrev pub with_call : List tree.Call → Option Fault → tree.Call → Option Fault
with_call calls before c = told.least before (told.fault_if (led calls c.called c.caller) (told.pos_of c.place) code.Recursion)

abbrev pub cycles_told : List tree.Call → Option Fault → List tree.Call → Option Fault
cycles_told calls before [] = before
cycles_told calls before (c ∷ cs) = cycles_told (calls ++ c ∷ []) (with_call calls before c) cs

-- Ranks

-- the rank of a name, 0 where it has none
abbrev pub rank_by : (Name → Option ℕ) → Name → ℕ
rank_by ranks name = unwrap_or (ranks name) 0

abbrev pub GoesDown : (Name → ℕ) → tree.Call → Type 0
GoesDown rank c = rank c.called < rank c.caller

-- each call goes down in rank
abbrev pub Ranked : (Name → ℕ) → List tree.Call → Type 0
Ranked rank [] = Unit {0}
Ranked rank (c ∷ cs) = GoesDown rank c × Ranked rank cs

-- Marks

abbrev pub Marks : Type 0
Marks = Name → Option (Unit {0})

abbrev pub is_marked : Marks → Name → Bool
is_marked marks name = is_some (marks name)

-- how many calls lead to a marked name
abbrev pub led_to : Marks → List tree.Call → ℕ
led_to marks [] = 0
led_to marks (c ∷ cs) = cond (is_marked marks c.called) 1 0 + led_to marks cs

-- A name is marked, and only such names as the calls lead to from there, by no more calls than lead to marked names.
pub record Reached (calls : List tree.Call) (from : Name) (marks : Marks) : Type 0 where
  pub start : is_marked marks from ≡ true
  pub led : (name : Name) → is_marked marks name ≡ true → tree.leads (led_to marks calls) calls from name ≡ true

-- no call leads from a marked name to another one
abbrev pub Closed : Marks → List tree.Call → Type 0
Closed marks [] = Unit {0}
Closed marks (c ∷ cs) = (is_marked marks c.caller ≡ true → is_marked marks c.called ≡ true) × Closed marks cs

-- the calls lead to what is marked from where they led to what was
abbrev pub Spreads : List tree.Call → Marks → Marks → Type 0
Spreads calls old new = (from : Name) → Reached calls from old → Reached calls from new

-- whether a call leads from a marked name to another one
abbrev pub leads_on : Marks → tree.Call → Bool
leads_on marks c = is_marked marks c.caller && not (is_marked marks c.called)

-- that one is marked then
abbrev pub passed : Marks → tree.Call → Marks
passed marks c = cond (leads_on marks c) (with_value marks c.called tt) marks

abbrev pub all_passed : Marks → List tree.Call → Marks
all_passed marks [] = marks
all_passed marks (c ∷ cs) = all_passed (passed marks c) cs

-- whether one of the calls leads on, each passed behind those before it
abbrev pub any_leads_on : Bool → Marks → List tree.Call → Bool
any_leads_on more marks [] = more
any_leads_on more marks (c ∷ cs) = any_leads_on (more || leads_on marks c) (passed marks c) cs
