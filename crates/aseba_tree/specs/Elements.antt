-- The element form of a source: for each cell that an expression has, an expression of that cell alone.
use Rattle.std.specs.Prelude.{ℕ, ◌+◌, pos, List, [], ◌∷◌, ◌++◌, map, bytes_eq, find, Option, Some, None}
use Rattle.std.specs.List.{range_with_len}
use Rattle.aseba_words.specs.declared.operators.Binary.{Binary}
use Rattle.aseba_tree.specs.Code.{Name, Expr, expr, Form, number, whole, index, range, items, one, two, Exprs, no_exprs, exprs, Const, Part, all, at, span, Target}
use Rattle.aseba_tree.specs.Value.{as_place, from_to, constant, constant_named}
use Rattle.aseba_tree.specs.State.{Program}
use Rattle.aseba_tree.specs.Step.{target_expr}
use Rattle.aseba_tree.specs.CoreExpr.{CoreExpr, fixed, cell, indirect, prefix, infix_of}
use Rattle.aseba_tree.specs.Layout.{variables, address_of}

-- the address and the size of a variable
abbrev pub variable_place : Program → Name → Option (ℕ × ℕ)
variable_place program name = address_of (variables program) name

-- a variable's cells, or a constant's number
abbrev pub named_elements : Option (ℕ × ℕ) → Option Const → List CoreExpr
named_elements (Some v) _ = map cell (range_with_len v.0 v.1)
named_elements None (Some c) = fixed c.value ∷ []
named_elements None None = []

-- one cell of a variable, by an index
abbrev pub indexed_element : Option (ℕ × ℕ) → List CoreExpr → CoreExpr
indexed_element (Some v) (i ∷ _) = indirect v.0 v.1 i
indexed_element _ _ = fixed (pos 0)

-- the cells of a variable from one to another
abbrev pub range_elements : Option (ℕ × ℕ) → ℕ → ℕ → List CoreExpr
range_elements (Some v) c d = map (λ i. cell (v.0 + i)) (from_to c d)
range_elements None c d = []

-- an operator, cell by cell
abbrev pub paired_elements : Binary → List CoreExpr → List CoreExpr → List CoreExpr
paired_elements op (l ∷ ls) (r ∷ rs) = infix_of op l r ∷ paired_elements op ls rs
paired_elements op _ _ = []

-- the elements of an expression in order
abbrev mutual
  pub elements_of : Program → Expr → List CoreExpr
  elements_of program (expr first place form) = elements_of_form program form

  pub elements_of_form : Program → Form → List CoreExpr
  elements_of_form program (number v) = fixed v ∷ []
  elements_of_form program (whole name) = named_elements (variable_place program name) (constant_named program.project.consts name)
  elements_of_form program (index name e) = indexed_element (variable_place program name) (elements_of program e) ∷ []
  elements_of_form program (range name c d) =
      range_elements (variable_place program name) (as_place (constant program.project.consts c)) (as_place (constant program.project.consts d))
  elements_of_form program (items es) = elements_of_list program es
  elements_of_form program (one op e) = map (prefix op) (elements_of program e)
  elements_of_form program (two op l r) = paired_elements op (elements_of program l) (elements_of program r)

  pub elements_of_list : Program → Exprs → List CoreExpr
  elements_of_list program no_exprs = []
  elements_of_list program (exprs e es) = elements_of program e ++ elements_of_list program es

-- the elements that a target means, and those that it has after `L op= e` and after `L++` or `L--`
abbrev pub target_elements : Program → Target → List CoreExpr
target_elements program target = elements_of program (target_expr target)

abbrev pub changed_elements : Program → Target → Binary → Expr → List CoreExpr
changed_elements program target op e = paired_elements op (target_elements program target) (elements_of program e)

abbrev pub bumped_elements : Program → Target → Binary → List CoreExpr
bumped_elements program target op = map (λ l. infix_of op l (fixed (pos 1))) (target_elements program target)

-- the one element of a condition or an index
abbrev pub element_of : Program → Expr → CoreExpr
element_of program e = first (elements_of program e)
  where
    first : List CoreExpr → CoreExpr
    first [] = fixed (pos 0)
    first (e ∷ es) = e

-- the index of a target that has one
abbrev pub target_index : Program → Part → Option CoreExpr
target_index program all = None
target_index program (at e) = Some (element_of program e)
target_index program (span c d) = None
