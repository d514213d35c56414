-- The rules that a project keeps if it can be written down.
use Rattle.std.specs.Prelude.{ℕ, List, ◌++◌, map, All, IsTrue}
use Rattle.aseba_tree.specs.Inside.{IsFrom, InsideProject}
use Rattle.aseba_tree.specs.declared.description.Sized.{Sized}
use Rattle.aseba_tree.specs.declared.description.Local.{Local}
use Rattle.aseba_tree.specs.declared.description.Param.{Param}
use Rattle.aseba_tree.specs.declared.description.Native.{Native}
use Rattle.aseba_tree.specs.declared.description.Description.{Description}
use Rattle.aseba_tree.specs.declared.project.Const.{Const}
use Rattle.aseba_tree.specs.declared.project.Project.{Project}
use Rattle.aseba_text.specs.Numbers.{IsCell}
use Rattle.aseba_text.specs.Names.{are_distinct, IsText}
use Rattle.aseba_tree.specs.Tokens.{IsName}

abbrev pub PlainSized : Sized → Type 0
PlainSized s = IsName s.name

pub record PlainLocal (l : Local) : Type 0 where
  pub name : IsName l.name
  pub text : IsText l.text

pub record PlainParam (p : Param) : Type 0 where
  pub size : IsCell p.size
  pub name : IsName p.name

pub record PlainNative (n : Native) : Type 0 where
  pub name : IsName n.name
  pub text : IsText n.text
  pub params : All PlainParam n.params

pub record PlainConst (c : Const) : Type 0 where
  pub name : IsName c.name
  pub value : IsCell c.value

-- the names of things that may not share one
abbrev pub cell_names : Project → List (List ℕ)
cell_names p = map (λ v. v.name) p.node.variables ++ map (λ c. c.name) p.consts

abbrev pub event_names : Project → List (List ℕ)
event_names p = map (λ l. l.name) p.node.locals ++ map (λ e. e.name) p.events

abbrev pub native_names : Project → List (List ℕ)
native_names p = map (λ n. n.name) p.node.natives

-- names of the language, and texts of printable bytes
pub record PlainNode (d : Description) : Type 0 where
  pub name : IsName d.name
  pub variables : All PlainSized d.variables
  pub locals : All PlainLocal d.locals
  pub natives : All PlainNative d.natives

pub record PlainParts (p : Project) : Type 0 where
  pub id : IsFrom 1 65535 p.id
  pub node : PlainNode p.node
  pub events : All PlainSized p.events
  pub consts : All PlainConst p.consts

-- no name twice among variables and constants, among events of both kinds, or among natives
pub record HasOwnNames (p : Project) : Type 0 where
  pub cells : IsTrue (are_distinct (cell_names p))
  pub events : IsTrue (are_distinct (event_names p))
  pub natives : IsTrue (are_distinct (native_names p))

-- what can be written down: sizes and counts inside the limits too
pub record IsPlain (p : Project) : Type 0 where
  pub inside : InsideProject p
  pub parts : PlainParts p
  pub names : HasOwnNames p
