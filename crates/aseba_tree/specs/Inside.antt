-- What a node and a project may measure. Which bytes a name holds, and the node's id, are left open.
use Rattle.std.specs.Prelude.{ℕ, ◌+◌, ◌≤◌, ◌≢◌, pos, List, length, All, sum_by}
use Rattle.aseba_words.specs.declared.limits.TheConstants.{LEAST_CODE, MOST_CODE, MOST_STACK, MOST_CELLS, MOST_EVENT_CELLS, MOST_VARIABLES, MOST_LOCALS, MOST_NATIVES, MOST_PARAMS, MOST_EVENTS, MOST_CONSTS, MOST_NAME_BYTES, MOST_NATIVE_BYTES}
use Rattle.aseba_tree.specs.declared.description.Description.{Description}
use Rattle.aseba_tree.specs.declared.description.Sized.{Sized}
use Rattle.aseba_tree.specs.declared.description.Local.{Local}
use Rattle.aseba_tree.specs.declared.description.Native.{Native}
use Rattle.aseba_tree.specs.declared.description.Param.{Param}
use Rattle.aseba_tree.specs.declared.project.Project.{Project}
use Rattle.aseba_tree.specs.declared.project.Const.{Const}

-- a name or a text has at most 255 bytes
abbrev pub IsShort : List ℕ → Type 0
IsShort text = length text ≤ MOST_NAME_BYTES

-- a number from least to most, both included
abbrev pub IsFrom : ℕ → ℕ → ℕ → Type 0
IsFrom least most n = (least ≤ n) × (n ≤ most)

-- a list of at most that many elements, each with the property
pub record IsUpTo {X : Type 0} (most : ℕ) (P : X → Type 0) (xs : List X) : Type 0 where
  pub few : length xs ≤ most
  pub each : All P xs

-- a named variable or an event, whose number of cells is from least to most
pub record InsideSized (least most : ℕ) (s : Sized) : Type 0 where
  pub name : IsShort s.name
  pub size : IsFrom least most s.size

pub record InsideLocal (l : Local) : Type 0 where
  pub name : IsShort l.name
  pub text : IsShort l.text

-- a length or a template, never 0
pub record InsideParam (p : Param) : Type 0 where
  pub name : IsShort p.name
  pub size : p.size ≢ pos 0

-- In a message a word takes two bytes, and a text a byte for its length and then its own.
abbrev pub word_len : ℕ
word_len = 2

abbrev pub text_len : List ℕ → ℕ
text_len text = 1 + length text

-- The bytes of the message by which a node tells of a native: its name, its text, the number of its
-- parameters, and each parameter's size and name.
abbrev pub param_message_len : Param → ℕ
param_message_len p = word_len + text_len p.name

abbrev pub native_message_len : Native → ℕ
native_message_len n = text_len n.name + text_len n.text + word_len + sum_by param_message_len n.params

pub record InsideNative (n : Native) : Type 0 where
  pub name : IsShort n.name
  pub text : IsShort n.text
  pub params : IsUpTo MOST_PARAMS InsideParam n.params
  pub message : native_message_len n ≤ MOST_NATIVE_BYTES

-- the cells of the named variables together
abbrev pub named_cells : List Sized → ℕ
named_cells variables = sum_by (λ v. v.size) variables

-- named variables for which a node with that many cells has room
pub record InsideVariables (cells : ℕ) (variables : List Sized) : Type 0 where
  pub each : IsUpTo MOST_VARIABLES (InsideSized 1 MOST_CELLS) variables
  pub room : named_cells variables ≤ cells

-- A node has 4 to 32767 words of code, 1 to 1024 cells of stack and 1 to 4096 cells in all.
pub record InsideDescription (d : Description) : Type 0 where
  pub name : IsShort d.name
  pub code : IsFrom LEAST_CODE MOST_CODE d.code
  pub stack : IsFrom 1 MOST_STACK d.stack
  pub cells : IsFrom 1 MOST_CELLS d.cells
  pub variables : InsideVariables d.cells d.variables
  pub locals : IsUpTo MOST_LOCALS InsideLocal d.locals
  pub natives : IsUpTo MOST_NATIVES InsideNative d.natives

pub record InsideConst (c : Const) : Type 0 where
  pub name : IsShort c.name

pub record InsideProject (p : Project) : Type 0 where
  pub node : InsideDescription p.node
  pub events : IsUpTo MOST_EVENTS (InsideSized 0 MOST_EVENT_CELLS) p.events
  pub consts : IsUpTo MOST_CONSTS InsideConst p.consts
