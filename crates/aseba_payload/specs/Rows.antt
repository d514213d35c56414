-- The table of messages.
use Rattle.std.specs.Prelude.{ℕ, ◌<◌, List, [], ◌∷◌, map}
use Rattle.aseba_tree.specs.declared.description.Param.{Param}
use Rattle.aseba_payload.specs.declared.payload.Payload.{Payload}
use Rattle.aseba_payload.specs.declared.payload.Payload.TheVariants.{User, Describe, Variable, LocalEvent, NativeOf, Variables, BoundsAt, DivisionAt, KilledAt, ErrorAt, State, BreakSet, Present, GetDescription, SetBytecode, Reset, Run, Pause, Step, Stop, GetState, SetBreak, ClearBreak, ClearBreaks, GetVariables, SetVariables, GetNodeDescription, ListNodes}
use Rattle.aseba_payload.specs.Layout.{Layout, ends, words, word, text, params, Values, spelling, HaveShortTexts, HaveFewParams, CanSpell, AreValues}

-- what makes a payload of the values of such fields
abbrev pub Maker : Layout → Type 0
Maker ends = Payload
Maker words = List ℕ → Payload
Maker (word l) = ℕ → Maker l
Maker (text l) = List ℕ → Maker l
Maker (params l) = List Param → Maker l

-- Each payload by its row: the type, the fields, the variant, and the values of the fields. What is asked of them is a function of the four.
abbrev pub by_row {ℓ} : {R : Type ℓ} → (ℕ → (l : Layout) → Maker l → Values l → R) → Payload → R
by_row f (User kind ws) = f kind words (User kind) ws
by_row f (Describe name version code stack cells variables locals natives) = f 0x9000 (text (word (word (word (word (word (word (word ends)))))))) Describe (name, (version, (code, (stack, (cells, (variables, (locals, (natives, tt))))))))
by_row f (Variable size name) = f 0x9001 (word (text ends)) Variable (size, (name, tt))
by_row f (LocalEvent name t) = f 0x9002 (text (text ends)) LocalEvent (name, (t, tt))
by_row f (NativeOf name t ps) = f 0x9003 (text (text (params ends))) NativeOf (name, (t, (ps, tt)))
by_row f (Variables start ws) = f 0x9005 (word words) Variables (start, ws)
by_row f (BoundsAt pc size index) = f 0x9006 (word (word (word ends))) BoundsAt (pc, (size, (index, tt)))
by_row f (DivisionAt pc) = f 0x9007 (word ends) DivisionAt (pc, tt)
by_row f (KilledAt pc) = f 0x9008 (word ends) KilledAt (pc, tt)
by_row f (ErrorAt pc t) = f 0x9009 (word (text ends)) ErrorAt (pc, (t, tt))
by_row f (State pc flags) = f 0x900A (word (word ends)) State (pc, (flags, tt))
by_row f (BreakSet pc result) = f 0x900B (word (word ends)) BreakSet (pc, (result, tt))
by_row f (Present version) = f 0x900C (word ends) Present (version, tt)
by_row f (GetDescription version) = f 0xA000 (word ends) GetDescription (version, tt)
by_row f (SetBytecode node start ws) = f 0xA001 (word (word words)) SetBytecode (node, (start, ws))
by_row f (Reset node) = f 0xA002 (word ends) Reset (node, tt)
by_row f (Run node) = f 0xA003 (word ends) Run (node, tt)
by_row f (Pause node) = f 0xA004 (word ends) Pause (node, tt)
by_row f (Step node) = f 0xA005 (word ends) Step (node, tt)
by_row f (Stop node) = f 0xA006 (word ends) Stop (node, tt)
by_row f (GetState node) = f 0xA007 (word ends) GetState (node, tt)
by_row f (SetBreak node pc) = f 0xA008 (word (word ends)) SetBreak (node, (pc, tt))
by_row f (ClearBreak node pc) = f 0xA009 (word (word ends)) ClearBreak (node, (pc, tt))
by_row f (ClearBreaks node) = f 0xA00A (word ends) ClearBreaks (node, tt)
by_row f (GetVariables node start length) = f 0xA00B (word (word (word ends))) GetVariables (node, (start, (length, tt)))
by_row f (SetVariables node start ws) = f 0xA00C (word (word words)) SetVariables (node, (start, ws))
by_row f (GetNodeDescription node version) = f 0xA010 (word (word ends)) GetNodeDescription (node, (version, tt))
by_row f (ListNodes version) = f 0xA011 (word ends) ListNodes (version, tt)

-- each variant but the event once
abbrev pub samples : List Payload
samples =
    Describe [] 0 0 0 0 0 0 0 ∷
    Variable 0 [] ∷
    LocalEvent [] [] ∷
    NativeOf [] [] [] ∷
    Variables 0 [] ∷
    BoundsAt 0 0 0 ∷
    DivisionAt 0 ∷
    KilledAt 0 ∷
    ErrorAt 0 [] ∷
    State 0 0 ∷
    BreakSet 0 0 ∷
    Present 0 ∷
    GetDescription 0 ∷
    SetBytecode 0 0 [] ∷
    Reset 0 ∷
    Run 0 ∷
    Pause 0 ∷
    Step 0 ∷
    Stop 0 ∷
    GetState 0 ∷
    SetBreak 0 0 ∷
    ClearBreak 0 0 ∷
    ClearBreaks 0 ∷
    GetVariables 0 0 0 ∷
    SetVariables 0 0 [] ∷
    GetNodeDescription 0 0 ∷
    ListNodes 0 ∷
    []

-- a row without values
pub record Row : Type 0 where
  pub kind : ℕ
  pub fields : Layout
  pub variant : Maker fields

abbrev pub row_of : Payload → Row
row_of = by_row (λ kind l variant vs. record { kind = kind; fields = l; variant = variant })

-- the rows with a type of their own; each type below 0x8000 is an event's
abbrev pub rows : List Row
rows = map row_of samples

abbrev pub kind_of : Payload → ℕ
kind_of = by_row (λ kind l variant vs. kind)

abbrev pub fields_of : Payload → Layout
fields_of = by_row (λ kind l variant vs. l)

abbrev pub bytes_of : Payload → List ℕ
bytes_of = by_row (λ kind l variant vs. spelling l vs)

-- an event's number is below 0x8000
abbrev pub HasKind : Payload → Type 0
HasKind (User kind ws) = kind < 0x8000
HasKind p = Unit {0}

-- each text has at most 255 bytes
abbrev pub HasShortTexts : Payload → Type 0
HasShortTexts = by_row (λ kind l variant vs. HaveShortTexts l vs)

-- there are at most 65535 parameters
abbrev pub HasFewParams : Payload → Type 0
HasFewParams = by_row (λ kind l variant vs. HaveFewParams l vs)

-- texts are short and parameters are few enough to be spelled
abbrev pub CanBeSpelled : Payload → Type 0
CanBeSpelled = by_row (λ kind l variant vs. CanSpell l vs)

-- a payload of the code holds such values
abbrev pub IsPayload : Payload → Type 0
IsPayload = by_row (λ kind l variant vs. AreValues l vs)
