-- What is told of an expression, from its parts to the whole: each part hands on the least of its faults.
use Rattle.std.specs.Prelude.{ℕ, ◌+◌, ◌-◌, ◌^◌, min, Bool, true, false, not, ◌&&◌, ◌||◌, if◌then◌else◌, ℤ, pos, int_lt, nat_eq, Option, Some, None}
use Rattle.aseba_words.specs.declared.operators.Unary.{Unary}
use Rattle.aseba_words.specs.declared.operators.Unary.TheVariants.{Minus, Abs, BitNot, Not}
use Rattle.aseba_words.specs.declared.operators.Binary.{Binary}
use Rattle.aseba_tree.specs.declared.pos.Pos.{Pos}
use Rattle.aseba_tree.specs.Code.{Name, Place, Expr, expr, Form, number, whole, index, range, items, one, two, Exprs, no_exprs, exprs}
use Rattle.aseba_tree.specs.View.{place_view}
use Rattle.aseba_tree.specs.Sizes.{unary_size, binary_size, range_size, unary_constant, binary_constant, is_of_one_cell}
use Rattle.aseba_tree.specs.Faults as faults
use Rattle.aseba_check.specs.declared.fault.Rule.{Rule}
use Rattle.aseba_check.specs.declared.fault.Rule.TheVariants as code
use Rattle.aseba_check.specs.declared.fault.Fault.{Fault}
use Rattle.aseba_check.specs.declared.facts.Facts.{Facts}
use Rattle.aseba_check.specs.declared.facts.Meaning.{Meaning}
use Rattle.aseba_check.specs.declared.facts.Meaning.TheVariants.{Variable, Constant}

-- Faults

abbrev pub rule_view : Rule → faults.Rule
rule_view code.Unknown = faults.unknown
rule_view code.Duplicate = faults.duplicate
rule_view code.NotConstant = faults.not_constant
rule_view code.ConstantDivision = faults.constant_division
rule_view code.ZeroStep = faults.zero_step
rule_view (code.BadSize want got) = faults.bad_size want got
rule_view (code.IndexOut size i) = faults.index_out size i
rule_view code.NotScalar = faults.not_scalar
rule_view (code.EventSize want got) = faults.event_size want got
rule_view (code.ArgCount want got) = faults.arg_count want got
rule_view code.Recursion = faults.recursion

abbrev pub fault_view : Fault → faults.Fault
fault_view f = record { place = place_view f.at; rule = rule_view f.rule }

abbrev pub comes_before : Fault → Fault → Bool
comes_before f g = faults.comes_before (fault_view f) (fault_view g)

abbrev pub earlier : Fault → Option Fault → Fault
earlier f None = f
earlier f (Some g) = if comes_before g f then g else f

abbrev pub may_be_told : Fault → Option Fault → Bool
may_be_told f None = true
may_be_told f (Some g) = comes_before f g

-- the one of two faults that is told
abbrev pub least : Option Fault → Option Fault → Option Fault
least None g = g
least (Some f) g = Some (earlier f g)

abbrev pub fault_if : Bool → Pos → Rule → Option Fault
fault_if b at rule = if b then Some (record { at = at; rule = rule }) else None

-- Numbers of cells

-- the sum, up to a number that no source reaches
abbrev pub added_size : Option ℕ → Option ℕ → Option ℕ
added_size (Some l) (Some r) = Some (min (l + r) (2 ^ 64 - 1))
added_size _ _ = None

abbrev pub signed : ℕ → ℤ
signed n = pos (min n 9223372036854775807)

abbrev pub is_zero : Option ℤ → Bool
is_zero value = faults.is_number value (pos 0)

-- Parts

abbrev pub not_one_cell : Facts → Option Fault
not_one_cell e = fault_if (faults.is_more_than_one e.size) e.first code.NotScalar

abbrev pub constant_place : Facts → Option Fault
constant_place e = least (if e.is_constant then e.division else Some (record { at = e.first; rule = code.NotConstant })) (not_one_cell e)

abbrev pub unknown_variable : Pos → Option Meaning → Option Fault
unknown_variable at None = Some (record { at = at; rule = code.Unknown })
unknown_variable at (Some (Variable size)) = None
unknown_variable at (Some (Constant v)) = Some (record { at = at; rule = code.Unknown })

abbrev pub variable_size : Option Meaning → Option ℕ
variable_size None = None
variable_size (Some (Variable size)) = size
variable_size (Some (Constant v)) = None

abbrev pub index_outside : Pos → Option ℕ → Option ℤ → Option Fault
index_outside at (Some size) (Some v) = fault_if (int_lt v (pos 0) || not (int_lt v (signed size))) at (code.IndexOut (signed size) v)
index_outside at _ _ = None

abbrev pub backwards : Pos → Option ℕ → Option ℤ → Option ℤ → Option Fault
backwards at (Some size) (Some c) (Some d) = fault_if (int_lt d c) at (code.IndexOut (signed size) d)
backwards at _ _ _ = None

abbrev pub bad_size : Pos → Option ℕ → Option ℕ → Option Fault
bad_size at (Some want) (Some got) = fault_if (not (nat_eq want got)) at (code.BadSize (signed want) (signed got))
bad_size at _ _ = None

abbrev pub event_size : Pos → Option ℕ → Option ℕ → Option Fault
event_size at (Some want) (Some got) = fault_if (not (nat_eq want got)) at (code.EventSize (signed want) (signed got))
event_size at _ _ = None

abbrev pub bad_index : Pos → Option Meaning → Facts → Option Fault
bad_index at meaning e = least (least (if e.is_constant then e.division else None) (not_one_cell e)) (index_outside at (variable_size meaning) e.value)

abbrev pub bad_range : Pos → Option Meaning → Facts → Facts → Option Fault
bad_range at meaning c d =
    least (least (least (least (constant_place c) (constant_place d)) (index_outside at (variable_size meaning) c.value)) (index_outside at (variable_size meaning) d.value))
    (backwards at (variable_size meaning) c.value d.value)

abbrev pub bad_operand : Unary → Facts → Option Fault
bad_operand Minus e = None
bad_operand Abs e = None
bad_operand BitNot e = None
bad_operand Not e = not_one_cell e

abbrev pub bad_operands : Pos → Binary → Facts → Facts → Option Fault
bad_operands at op l r = if is_of_one_cell op then least (not_one_cell l) (not_one_cell r) else bad_size at l.size r.size

-- The forms of expressions

abbrev pub number_facts : Pos → ℤ → Facts
number_facts first v = record { first = first; size = Some 1; is_constant = true; value = Some v; division = None; fault = None }

abbrev pub computed : Pos → Option ℕ → Option Fault → Facts
computed first size fault = record { first = first; size = size; is_constant = false; value = None; division = None; fault = fault }

abbrev pub name_facts : Pos → Pos → Option Meaning → Facts
name_facts first at None = computed first None (Some (record { at = at; rule = code.Unknown }))
name_facts first at (Some (Variable size)) = computed first size None
name_facts first at (Some (Constant v)) = number_facts first v

abbrev pub index_facts : Pos → Pos → Option Meaning → Facts → Facts
index_facts first at meaning e = computed first (Some 1) (least (least (unknown_variable at meaning) e.fault) (bad_index at meaning e))

abbrev pub range_facts : Pos → Pos → Option Meaning → Facts → Facts → Facts
range_facts first at meaning c d =
    computed first (range_size c.value d.value) (least (least (least (unknown_variable at meaning) c.fault) d.fault) (bad_range at meaning c d))

-- the first expressions of a list, and the next one
abbrev pub joined : Option Facts → Facts → Facts
joined None e = e
joined (Some before) e = record {
  first = before.first;
  size = added_size before.size e.size;
  is_constant = before.is_constant && e.is_constant;
  value = None;
  division = least before.division e.division;
  fault = least before.fault e.fault;
}

abbrev pub items_facts : Pos → Option Facts → Facts
items_facts first None = record { first = first; size = Some 0; is_constant = true; value = None; division = None; fault = None }
items_facts first (Some all) = record all { first = first }

abbrev pub one_facts : Pos → Unary → Facts → Facts
one_facts first op e = record {
  first = first;
  size = unary_size op e.size;
  is_constant = e.is_constant;
  value = unary_constant op e.value;
  division = e.division;
  fault = least e.fault (bad_operand op e);
}

abbrev pub two_facts : Pos → Pos → Binary → Facts → Facts → Facts
two_facts first at op l r = record {
  first = first;
  size = binary_size op l.size r.size;
  is_constant = l.is_constant && r.is_constant;
  value = binary_constant op l.value r.value;
  division = least (least l.division r.division) (fault_if (faults.divides op && is_zero r.value) at code.ConstantDivision);
  fault = least (least l.fault r.fault) (bad_operands at op l r);
}

-- a target that is a name alone
abbrev pub target_facts : Pos → Option Meaning → Facts
target_facts at meaning = computed at (variable_size meaning) (unknown_variable at meaning)

abbrev pub pos_of : Place → Pos
pos_of place = record { line = place.line; col = place.column }

-- what is known of an expression, where names mean this
abbrev mutual
  pub facts_of : (Name → Option Meaning) → Expr → Facts
  facts_of names (expr first place form) = form_facts names (pos_of first) (pos_of place) form

  pub form_facts : (Name → Option Meaning) → Pos → Pos → Form → Facts
  form_facts names first at (number v) = number_facts first v
  form_facts names first at (whole name) = name_facts first at (names name)
  form_facts names first at (index name e) = index_facts first at (names name) (facts_of names e)
  form_facts names first at (range name c d) = range_facts first at (names name) (facts_of names c) (facts_of names d)
  form_facts names first at (items es) = items_facts first (list_facts names None es)
  form_facts names first at (one op e) = one_facts first op (facts_of names e)
  form_facts names first at (two op l r) = two_facts first at op (facts_of names l) (facts_of names r)

  -- of a list, behind its first expressions
  pub list_facts : (Name → Option Meaning) → Option Facts → Exprs → Option Facts
  list_facts names before no_exprs = before
  list_facts names before (exprs e es) = list_facts names (Some (joined before (facts_of names e))) es
