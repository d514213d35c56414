-- Sources with a fault of each kind, and the one that is told.
use Rattle.std.specs.Prelude.{◌≡◌, refl, ℕ, true, false, ℤ, pos, negsuc, List, [], ◌∷◌, codes, Option, Some, None}
use Rattle.std.specs.Int.{int_wrap}
use Rattle.aseba_words.specs.declared.operators.Binary.{Binary}
use Rattle.aseba_tree.specs.Code.{Name, Place, Expr, expr, number, whole, index, range, items, two, Exprs, no_exprs, exprs, all, at, Target, stmt, StmtForm, assign, if_then, for_do, emit, callsub, call, Stmts, no_stmts, stmts, Decl, Handler, Project}
use Rattle.aseba_tree.specs.State.{Program}
use Rattle.aseba_tree.specs.Faults.{Rule, unknown, duplicate, not_constant, constant_division, zero_step, bad_size, index_out, not_scalar, event_size, arg_count, recursion}
use Rattle.aseba_tree.specs.Soundness.{Refusal, broken, variables_full, refusal, Sound}

abbrev p : ℕ → ℕ → Place
p line column = record { line = line; column = column }

-- trees by line and column
abbrev num : ℕ → ℕ → ℤ → Expr
num l c v = expr (p l c) (p l c) (number v)

abbrev nam : ℕ → ℕ → Name → Expr
nam l c name = expr (p l c) (p l c) (whole name)

abbrev idx : ℕ → ℕ → Name → Expr → Expr
idx l c name e = expr (p l c) (p l c) (index name e)

abbrev rng : ℕ → ℕ → Name → Expr → Expr → Expr
rng l c name a b = expr (p l c) (p l c) (range name a b)

abbrev lst : ℕ → ℕ → Exprs → Expr
lst l c es = expr (p l c) (p l c) (items es)

-- an operation that begins at a column with its operator at another
abbrev opn : ℕ → ℕ → ℕ → Binary → Expr → Expr → Expr
opn l c sign op a b = expr (p l c) (p l sign) (two op a b)

abbrev tgt : ℕ → ℕ → Name → Target
tgt l c name = record { place = p l c; name = name; part = all }

-- a declaration in a line of its own, which begins `var` at column 1
abbrev var : ℕ → Name → Option Expr → Decl
var l name size = record { line = l; place = p l 5; name = name; size = size; equals = p l 5; value = None }

-- with a value behind a `=`
abbrev var_is : ℕ → Name → Option Expr → ℕ → Expr → Decl
var_is l name size equals e = record { line = l; place = p l 5; name = name; size = size; equals = p l equals; value = Some e }

-- one statement, whose place is in that column, in a line
abbrev alone : ℕ → ℕ → StmtForm → Stmts
alone l c form = stmts (stmt l (p l c) form) no_stmts

abbrev project : Project
project = record {
  node = record {
    name = codes "sim";
    code = 2048;
    stack = 64;
    cells = 1024;
    variables = record { name = codes "_id"; size = 1 } ∷ record { name = codes "event.source"; size = 1 } ∷ record { name = codes "event.args"; size = 32 } ∷ [];
    locals = [];
    natives =
        record { name = codes "math.copy"; text = []; params = record { size = negsuc 0; name = codes "dest" } ∷ record { size = negsuc 0; name = codes "src" } ∷ [] }
        ∷ record { name = codes "math.fill"; text = []; params = record { size = negsuc 0; name = codes "dest" } ∷ record { size = pos 1; name = codes "value" } ∷ [] } ∷ [];
  };
  id = 1;
  events = record { name = codes "ping"; size = 0 } ∷ record { name = codes "pair"; size = 2 } ∷ [];
  consts = record { name = codes "LIMIT"; value = pos 3 } ∷ [];
}

abbrev program : List Decl → Stmts → List Handler → Program
program vars init parts = record { project = project; source = record { vars = vars; init = init; parts = parts } }

abbrev told : ℕ → ℕ → Rule → Option Refusal
told line column rule = Some (broken (record { place = p line column; rule = rule }))

-- `x = 1`
assignment_of_unknown : refusal (program [] (alone 1 3 (assign (tgt 1 1 (codes "x")) (num 1 5 (pos 1)))) []) ≡ told 1 1 unknown
assignment_of_unknown = refl

-- `var x = x`
own_value : refusal (program (var_is 1 (codes "x") None 7 (nam 1 9 (codes "x")) ∷ []) no_stmts []) ≡ told 1 9 unknown
own_value = refl

-- `var x`, `var x`, and a variable with a constant's name
second_var : refusal (program (var 1 (codes "x") None ∷ var 2 (codes "x") None ∷ []) no_stmts []) ≡ told 2 5 duplicate
second_var = refl

var_of_constant : refusal (program (var 1 (codes "LIMIT") None ∷ []) no_stmts []) ≡ told 1 5 duplicate
var_of_constant = refl

-- `var a[1 + nobody]` and `var a[nobody]`
size_with_unknown : refusal (program (var 1 (codes "a") (Some (opn 1 7 9 Binary.Add (num 1 7 (pos 1)) (nam 1 11 (codes "nobody")))) ∷ []) no_stmts []) ≡ told 1 7 not_constant
size_with_unknown = refl

unknown_size : refusal (program (var 1 (codes "a") (Some (nam 1 7 (codes "nobody"))) ∷ []) no_stmts []) ≡ told 1 7 unknown
unknown_size = refl

-- `var a[[3]]` is `var a[3]`, and `var a[[3, 3]]` needs one cell
size_in_list : refusal (program (var_is 1 (codes "a") (Some (lst 1 7 (exprs (num 1 8 (pos 3)) no_exprs))) 12 (lst 1 14 (exprs (num 1 15 (pos 1)) (exprs (num 1 18 (pos 2)) (exprs (num 1 21 (pos 3)) no_exprs)))) ∷ []) no_stmts [])
    ≡ None
size_in_list = refl

two_sizes : refusal (program (var 1 (codes "a") (Some (lst 1 7 (exprs (num 1 8 (pos 3)) (exprs (num 1 11 (pos 3)) no_exprs)))) ∷ []) no_stmts []) ≡ told 1 7 not_scalar
two_sizes = refl

-- `var a[4097]` and `var a[0]`
size_too_large : refusal (program (var 1 (codes "a") (Some (num 1 7 (pos 4097))) ∷ []) no_stmts []) ≡ told 1 5 (bad_size (pos 4096) (pos 4097))
size_too_large = refl

size_too_small : refusal (program (var 1 (codes "a") (Some (num 1 7 (pos 0))) ∷ []) no_stmts []) ≡ told 1 5 (bad_size (pos 1) (pos 0))
size_too_small = refl

-- `var a[2]` and `a = u[0]`: an index has one cell also where its name is unknown
index_of_unknown : refusal (program (var 1 (codes "a") (Some (num 1 7 (pos 2))) ∷ []) (alone 2 3 (assign (tgt 2 1 (codes "a")) (idx 2 5 (codes "u") (num 2 7 (pos 0))))) []) ≡ told 2 3 (bad_size (pos 2) (pos 1))
index_of_unknown = refl

-- `var a[3] = [1, 2]`, and `a = [1, 2, 3]` behind `var a[2]`
value_of_another_size : refusal (program (var_is 1 (codes "a") (Some (num 1 7 (pos 3))) 10 (lst 1 12 (exprs (num 1 13 (pos 1)) (exprs (num 1 16 (pos 2)) no_exprs))) ∷ []) no_stmts []) ≡ told 1 10 (bad_size (pos 3) (pos 2))
value_of_another_size = refl

assignment_of_another_size : refusal (program (var 1 (codes "a") (Some (num 1 7 (pos 2))) ∷ []) (alone 2 3 (assign (tgt 2 1 (codes "a")) (lst 2 5 (exprs (num 2 6 (pos 1)) (exprs (num 2 9 (pos 2)) (exprs (num 2 12 (pos 3)) no_exprs)))))) [])
    ≡ told 2 3 (bad_size (pos 2) (pos 3))
assignment_of_another_size = refl

three_cells : Decl
three_cells = var 1 (codes "a") (Some (num 1 7 (pos 3)))

-- `a[3] = 1` where `a` has 3 cells
constant_index_out : refusal (program (three_cells ∷ []) (alone 2 6 (assign (record { place = p 2 1; name = codes "a"; part = at (num 2 3 (pos 3)) }) (num 2 8 (pos 1)))) []) ≡ told 2 1 (index_out (pos 3) (pos 3))
unfolding three_cells
constant_index_out = refl

-- `x = a[9:x]`: the end that has a value is outside, at the name before the one that is not constant
end_out : refusal (program (three_cells ∷ var 2 (codes "x") None ∷ []) (alone 3 3 (assign (tgt 3 1 (codes "x")) (rng 3 5 (codes "a") (num 3 7 (pos 9)) (nam 3 9 (codes "x"))))) []) ≡ told 3 5 (index_out (pos 3) (pos 9))
unfolding three_cells
end_out = refl

-- `a = a[2:1]`
runs_backwards : refusal (program (three_cells ∷ []) (alone 2 3 (assign (tgt 2 1 (codes "a")) (rng 2 5 (codes "a") (num 2 7 (pos 2)) (num 2 9 (pos 1))))) []) ≡ told 2 5 (index_out (pos 3) (pos 1))
unfolding three_cells
runs_backwards = refl

-- `a[1 / 0] = 1`: an index of constants alone; with a variable in it the division is no fault
division_in_index : refusal (program (three_cells ∷ []) (alone 2 10 (assign (record { place = p 2 1; name = codes "a"; part = at (opn 2 3 5 Binary.Div (num 2 3 (pos 1)) (num 2 7 (pos 0))) }) (num 2 12 (pos 1)))) []) ≡ told 2 5 constant_division
unfolding three_cells
division_in_index = refl

division_when_run : refusal (program (three_cells ∷ var 2 (codes "x") None ∷ []) (alone 3 10 (assign (record { place = p 3 1; name = codes "a"; part = at (opn 3 3 5 Binary.Div (nam 3 3 (codes "x")) (num 3 7 (pos 0))) }) (num 3 12 (pos 1)))) []) ≡ None
unfolding three_cells
division_when_run = refl

-- `for i in 0:3 step 0 do end`, and with `1 - 1` for the step
step_of_zero : refusal (program (var 1 (codes "i") None ∷ []) (alone 2 5 (for_do (record { name = codes "i"; first = num 2 10 (pos 0); last = num 2 12 (pos 3); step = Some (num 2 19 (pos 0)) }) no_stmts)) []) ≡ told 2 19 zero_step
step_of_zero = refl

computed_step_of_zero : refusal (program (var 1 (codes "x") None ∷ []) (alone 2 5 (for_do (record { name = codes "x"; first = num 2 10 (pos 0); last = num 2 12 (pos 3); step = Some (opn 2 19 21 Binary.Sub (num 2 19 (pos 1)) (num 2 23 (pos 1))) }) no_stmts)) []) ≡ told 2 19 zero_step
unfolding int_wrap
computed_step_of_zero = refl

-- `for a in 0:3 do end` and `if a then end`
for_over_vector : refusal (program (three_cells ∷ []) (alone 2 5 (for_do (record { name = codes "a"; first = num 2 10 (pos 0); last = num 2 12 (pos 3); step = None }) no_stmts)) []) ≡ told 2 5 not_scalar
unfolding three_cells
for_over_vector = refl

vector_condition : refusal (program (three_cells ∷ []) (alone 2 1 (if_then (nam 2 4 (codes "a")) no_stmts no_stmts)) []) ≡ told 2 4 not_scalar
unfolding three_cells
vector_condition = refl

-- `emit pair a`, and `emit nobody`
emit_of_three : refusal (program (three_cells ∷ []) (alone 2 6 (emit (codes "pair") (Some (nam 2 11 (codes "a"))))) []) ≡ told 2 11 (event_size (pos 2) (pos 3))
unfolding three_cells
emit_of_three = refl

emit_of_nobody : refusal (program [] (alone 1 6 (emit (codes "nobody") None)) []) ≡ told 1 6 unknown
emit_of_nobody = refl

-- `call math.fill(a)`, `call math.fill(a, a)` and `call math.copy(a, [1, 2])`
too_few_arguments : refusal (program (three_cells ∷ []) (alone 2 6 (call (codes "math.fill") (exprs (nam 2 16 (codes "a")) no_exprs))) []) ≡ told 2 6 (arg_count (pos 2) (pos 1))
unfolding three_cells
too_few_arguments = refl

longer_than_parameter : refusal (program (three_cells ∷ []) (alone 2 6 (call (codes "math.fill") (exprs (nam 2 16 (codes "a")) (exprs (nam 2 19 (codes "a")) no_exprs)))) []) ≡ told 2 19 (bad_size (pos 1) (pos 3))
unfolding three_cells
longer_than_parameter = refl

shorter_than_template : refusal (program (three_cells ∷ []) (alone 2 6 (call (codes "math.copy") (exprs (nam 2 16 (codes "a")) (exprs (lst 2 19 (exprs (num 2 20 (pos 1)) (exprs (num 2 23 (pos 2)) no_exprs))) no_exprs)))) [])
    ≡ told 2 19 (bad_size (pos 3) (pos 2))
unfolding three_cells
shorter_than_template = refl

abbrev sub : ℕ → Name → Stmts → Handler
sub l name body = record { line = l; place = p l 5; is_sub = true; name = name; body = body }

abbrev on : ℕ → Name → Stmts → Handler
on l name body = record { line = l; place = p l 9; is_sub = false; name = name; body = body }

-- `sub a`, `callsub b`, `sub b`, `callsub a`
cycle_of_two : refusal (program [] no_stmts (sub 1 (codes "a") (alone 2 9 (callsub (codes "b"))) ∷ sub 3 (codes "b") (alone 4 9 (callsub (codes "a"))) ∷ [])) ≡ told 4 9 recursion
cycle_of_two = refl

-- a handler that calls a subroutine, and one that calls nobody
call_from_handler : refusal (program [] no_stmts (on 1 (codes "ping") (alone 2 9 (callsub (codes "b"))) ∷ sub 3 (codes "b") no_stmts ∷ [])) ≡ None
call_from_handler = refl

call_of_nobody : refusal (program [] no_stmts (on 1 (codes "ping") (alone 2 9 (callsub (codes "b"))) ∷ on 3 (codes "b") no_stmts ∷ [])) ≡ told 2 9 unknown
call_of_nobody = refl

-- a second `onevent` of a name
second_handler : refusal (program [] no_stmts (on 1 (codes "ping") no_stmts ∷ on 2 (codes "pair") no_stmts ∷ on 3 (codes "ping") no_stmts ∷ [])) ≡ told 3 9 duplicate
second_handler = refl

-- `var a[991]` passes the node's 1024 cells, of which its own variables take 34, and `var a[990]` fills them
one_cell_too_many : refusal (program (var 1 (codes "a") (Some (num 1 7 (pos 991))) ∷ []) no_stmts []) ≡ Some (variables_full 1025 1024)
one_cell_too_many = refl

all_cells_taken : Sound (program (var 1 (codes "a") (Some (num 1 7 (pos 990))) ∷ []) no_stmts [])
all_cells_taken = refl
