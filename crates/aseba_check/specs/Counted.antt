-- What the elements of an expression take together, from its parts to the whole. Sums stop at a number that no source reaches.
use Rattle.std.specs.Prelude.{ℕ, max, false, if◌then◌else◌, ℤ, nat_eq, Option, Some, None, unwrap_or}
use Rattle.aseba_words.specs.declared.operators.Binary.{Binary}
use Rattle.aseba_tree.specs.Code.{Name, Expr, expr, Form, number, whole, index, range, items, one, two, Exprs, no_exprs, exprs}
use Rattle.aseba_tree.specs.Sizes.{range_size, is_of_one_cell}
use Rattle.aseba_tree.specs.Numbers.{number_words}
use Rattle.aseba_check.specs.declared.facts.Meaning.{Meaning}
use Rattle.aseba_check.specs.declared.facts.Meaning.TheVariants.{Variable, Constant}
use Rattle.aseba_check.specs.declared.counting.count.Count.{Count}
use Rattle.aseba_check.specs.Told.{facts_of}
use Rattle.aseba_check.specs.Places.{sum_up}

-- no elements
abbrev pub empty : Count
empty = record { cells = 0; words = 0; depth = 0; compares = false }

abbrev pub number_counted : ℤ → Count
number_counted v = record { cells = 1; words = number_words v; depth = 1; compares = false }

-- so many cells of a variable
abbrev pub cells_counted : ℕ → Count
cells_counted n = record { cells = n; words = n; depth = 1; compares = false }

abbrev pub name_counted : Option Meaning → Count
name_counted None = empty
name_counted (Some (Variable size)) = cells_counted (unwrap_or size 0)
name_counted (Some (Constant v)) = number_counted v

abbrev pub index_counted : Count → Count
index_counted i = record { cells = 1; words = sum_up i.words 2; depth = i.depth; compares = false }

-- some elements, and others behind them
abbrev pub joined : Count → Count → Count
joined a b = record {
  cells = sum_up a.cells b.cells;
  words = sum_up a.words b.words;
  depth = max a.depth b.depth;
  compares = if nat_eq a.cells 0 then b.compares else a.compares;
}

abbrev pub prefix_counted : Count → Count
prefix_counted e = record { cells = e.cells; words = sum_up e.words e.cells; depth = e.depth; compares = false }

abbrev pub infix_counted : Binary → Count → Count → Count
infix_counted op l r = record {
  cells = l.cells;
  words = sum_up (sum_up l.words r.words) l.cells;
  depth = max l.depth (sum_up r.depth 1);
  compares = is_of_one_cell op;
}

-- the cells of a variable from one to another, where names mean this
abbrev pub range_counted : (Name → Option Meaning) → Expr → Expr → Count
range_counted names c d = cells_counted (unwrap_or (range_size (facts_of names c).value (facts_of names d).value) 0)

-- the elements of an expression
abbrev mutual
  pub counted_of : (Name → Option Meaning) → Expr → Count
  counted_of names (expr first place form) = form_counted names form

  pub form_counted : (Name → Option Meaning) → Form → Count
  form_counted names (number v) = number_counted v
  form_counted names (whole name) = name_counted (names name)
  form_counted names (index name e) = index_counted (counted_of names e)
  form_counted names (range name c d) = range_counted names c d
  form_counted names (items es) = list_counted names empty es
  form_counted names (one op e) = prefix_counted (counted_of names e)
  form_counted names (two op l r) = infix_counted op (counted_of names l) (counted_of names r)

  -- of a list, behind its first expressions
  pub list_counted : (Name → Option Meaning) → Count → Exprs → Count
  list_counted names before no_exprs = before
  list_counted names before (exprs e es) = list_counted names (joined before (counted_of names e)) es
