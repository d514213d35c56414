-- Expressions of one cell, in which addresses stand for names, and their values.
use Rattle.std.specs.Prelude.{ℕ, ◌+◌, ℤ, pos, List, slice_index_or, Result, Ok}
use Rattle.aseba_words.specs.declared.operators.Unary.{Unary}
use Rattle.aseba_words.specs.declared.operators.Binary.{Binary}
use Rattle.aseba_tree.specs.Value.{Stop, Element, and_then, place_among, unary_element, binary_element}

-- An expression of one cell: a number, the cell of an address, a cell of a variable at an address with its size and an index, or an operator.
pub data CoreExpr : Type 0 where
  fixed : ℤ → CoreExpr
  cell : ℕ → CoreExpr
  indirect : (base size : ℕ) → CoreExpr → CoreExpr
  prefix : Unary → CoreExpr → CoreExpr
  infix_of : Binary → CoreExpr → CoreExpr → CoreExpr

-- the one cell that a store means
pub data CoreTarget : Type 0 where
  into : ℕ → CoreTarget
  into_index : (base size : ℕ) → CoreExpr → CoreTarget

-- the value of an expression where the cells have these addresses
abbrev pub core_value : List ℤ → CoreExpr → Element
core_value cells (fixed v) = Ok v
core_value cells (cell address) = Ok (slice_index_or cells address (pos 0))
core_value cells (indirect base size e) =
    and_then (core_value cells e) (λ i. and_then (place_among size i) (λ place. Ok (slice_index_or cells (base + place) (pos 0))))
core_value cells (prefix op e) = unary_element op (core_value cells e)
core_value cells (infix_of op l r) = binary_element op (core_value cells l) (core_value cells r)

-- the address that a target means, or the stop of its index
abbrev pub target_address : List ℤ → CoreTarget → Result ℕ Stop
target_address cells (into address) = Ok address
target_address cells (into_index base size e) = and_then (core_value cells e) (λ i. and_then (place_among size i) (λ place. Ok (base + place)))
