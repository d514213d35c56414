-- The numbers of sources, counted by hand.
use Rattle.std.specs.Prelude.{◌≡◌, refl, ℕ, zero, suc, ◌+◌, ◌*◌, true, false, ℤ, pos, negsuc, List, [], ◌∷◌, ◌++◌, codes, map, Option, Some, None}
use Rattle.std.specs.Int.{int_wrap}
use Rattle.std.proofs.Common.{arith}
use Rattle.aseba_words.specs.declared.operators.Unary.{Unary}
use Rattle.aseba_words.specs.declared.operators.Binary.{Binary}
use Rattle.aseba_words.specs.declared.operators.Binary.TheVariants.{Below}
use Rattle.aseba_tree.specs.Code.{Name, Place, Expr, expr, number, whole, index, range, items, one, two, Exprs, no_exprs, exprs, all, at, span, Target, stmt, StmtForm, assign, change, bump, if_then, when_do, for_do, emit, callsub, call, Stmts, no_stmts, stmts, Decl, Handler, Sized, Local, Native, Const, Project}
use Rattle.aseba_tree.specs.State.{Program}
use Rattle.aseba_tree.specs.Soundness.{subroutine_far, refusal, Sound}
use Rattle.aseba_tree.specs.CoreExpr.{CoreExpr, fixed, cell, into}
use Rattle.aseba_tree.specs.Core.{CoreStmt, core_stmt, store, no_core, core_stmts, Core}
use Rattle.aseba_tree.specs.CoreNumbers.{core_words, core_depth, core_weight}
use Rattle.aseba_tree.specs.CoreShape.{is_good_list}
use Rattle.aseba_tree.specs.Layout.{cells_of_variables}
use Rattle.aseba_tree.specs.Numbers.{source_words, source_depth, source_room, source_weight, stmts_words, starts}

-- all nodes stand at one place, which no number looks at
abbrev here : Place
here = record { line = 1; column = 1 }

abbrev num : ℤ → Expr
num v = expr here here (number v)

abbrev nam : Name → Expr
nam name = expr here here (whole name)

abbrev idx : Name → Expr → Expr
idx name e = expr here here (index name e)

abbrev rng : Name → ℕ → ℕ → Expr
rng name a b = expr here here (range name (num (pos a)) (num (pos b)))

abbrev op : Binary → Expr → Expr → Expr
op o a b = expr here here (two o a b)

-- a number below 0 as the language spells it
abbrev minus : ℕ → Expr
minus n = expr here here (one Unary.Minus (num (pos n)))

abbrev these : List Expr → Exprs
these [] = no_exprs
these (e ∷ es) = exprs e (these es)

abbrev lst : List Expr → Expr
lst es = expr here here (items (these es))

abbrev block : List StmtForm → Stmts
block [] = no_stmts
block (f ∷ fs) = stmts (stmt 1 here f) (block fs)

abbrev tgt : Name → Target
tgt name = record { place = here; name = name; part = all }

abbrev set : Name → Expr → StmtForm
set name e = assign (tgt name) e

abbrev var : Name → Option Expr → Option Expr → Decl
var name size value = record { line = 1; place = here; name = name; size = size; equals = here; value = value }

abbrev on : Name → List StmtForm → Handler
on name fs = record { line = 1; place = here; is_sub = false; name = name; body = block fs }

abbrev sub : Name → List StmtForm → Handler
sub name fs = record { line = 1; place = here; is_sub = true; name = name; body = block fs }

abbrev named_cells : Name → ℕ → Sized
named_cells name size = record { name = name; size = size }

-- parameters of a native by their sizes
abbrev native : Name → List ℤ → Native
native name sizes = record { name = name; text = []; params = map (λ size. record { size = size; name = codes "p" }) sizes }

abbrev each : ℤ
each = negsuc 0

abbrev the_natives : List Native
the_natives = native (codes "math.copy") (each ∷ each ∷ []) ∷ native (codes "math.fill") (each ∷ pos 1 ∷ []) ∷ native (codes "math.dot") (pos 1 ∷ each ∷ each ∷ pos 1 ∷ []) ∷ []

abbrev project_of : (code cells : ℕ) → List Sized → List Local → List Sized → List Const → Project
project_of code cells variables locals events consts = record {
  node = record { name = codes "sim"; code = code; stack = 64; cells = cells; variables = variables; locals = locals; natives = the_natives };
  id = 1;
  events = events;
  consts = consts;
}

abbrev node_cells : List Sized
node_cells = named_cells (codes "_id") 1 ∷ named_cells (codes "event.source") 1 ∷ named_cells (codes "event.args") 32 ∷ []

abbrev project : ℕ → Project
project code = project_of code 1024 node_cells [] (named_cells (codes "ping") 0 ∷ named_cells (codes "pair") 2 ∷ []) []

abbrev program : ℕ → List Decl → List StmtForm → List Handler → Program
program code vars init parts = record { project = project code; source = record { vars = vars; init = block init; parts = parts } }

x : Name
x = codes "x"

-- so many times the same
abbrev times : ℕ → StmtForm → List StmtForm
times zero f = []
times (suc n) f = f ∷ times n f

-- `var x` and lines `x = 1`: three words of the table, two a line and the last one
four_lines : source_words (program 2048 (var x None None ∷ []) (times 4 (set x (num (pos 1)))) []) ≡ 3 + 2 * 4 + 1
unfolding x
four_lines = refl

lines_take_two : (n : ℕ) → stmts_words (program 2048 (var x None None ∷ []) [] []) (block (times n (set x (num (pos 1))))) ≡ 2 * n
unfolding x
lines_take_two zero = refl
lines_take_two (suc n) = let h = lines_take_two n in omega (arith, h)

-- a number above 2047 takes one word more
large_number : source_words (program 2048 (var x None None ∷ []) (times 3 (set x (num (pos 1))) ++ set x (num (pos 2048)) ∷ []) []) ≡ 3 + 2 * 4 + 1 + 1
unfolding x
large_number = refl

-- `x = x + (x + (x + .. x))` with so many pairs of parentheses
abbrev sums : ℕ → Expr
sums zero = op Binary.Add (nam x) (nam x)
sums (suc n) = op Binary.Add (nam x) (sums n)

deep_sum : source_depth (program 2048 (var x None None ∷ []) (set x (sums 62) ∷ []) []) ≡ 64
unfolding x
deep_sum = refl

deeper_sum : source_depth (program 2048 (var x None None ∷ []) (set x (sums 63) ∷ []) []) ≡ 65
unfolding x
deeper_sum = refl

-- `var a[990]` and `a[1:989] = a[0:988]`: 1024 cells and 989 temporaries
abbrev moved : Program
moved = program 2048 (var (codes "a") (Some (num (pos 990))) None ∷ []) (assign (record { place = here; name = codes "a"; part = span (num (pos 1)) (num (pos 989)) }) (rng (codes "a") 0 988) ∷ []) []

moved_cells : cells_of_variables moved + source_room moved ≡ 2013
moved_cells = refl

-- `for x in 1:3000 step -1 do x++ end`: w(1) + w(3000) + w(-1) + 7 + 1, where the step is one number, and four words of the body; in a large project a jump takes four words
abbrev count_down : List StmtForm
count_down = for_do (record { name = x; first = num (pos 1); last = num (pos 3000); step = Some (minus 1) }) (block (bump (tgt x) Binary.Add ∷ [])) ∷ []

words_of_for : source_words (program 2048 (var x None None ∷ []) count_down []) ≡ 3 + (1 + 2 + 1 + 7 + 1 + 4) + 1
unfolding x int_wrap
words_of_for = refl

words_of_large_for : source_words (program 2049 (var x None None ∷ []) count_down []) ≡ 3 + (1 + 2 + 1 + 7 + 4 + 4) + 1
unfolding x int_wrap
words_of_large_for = refl

depth_of_for : source_depth (program 2048 (var x None None ∷ []) count_down []) ≡ 2
unfolding x
depth_of_for = refl

-- the store of the next value: two leaves, an operator, three for a cell and three
weight_of_for : source_weight (program 2048 (var x None None ∷ []) count_down []) ≡ 9
unfolding x int_wrap
weight_of_for = refl

-- `call math.copy(a[0:1], [x, x + 1])`: two elements into temporaries, two addresses, one length and the call
abbrev copied : Program
copied = program 2048 (var x None None ∷ var (codes "a") (Some (num (pos 2))) None ∷ [])
    (call (codes "math.copy") (these (rng (codes "a") 0 1 ∷ lst (nam x ∷ op Binary.Add (nam x) (num (pos 1)) ∷ []) ∷ [])) ∷ []) []

words_of_call : source_words copied ≡ 3 + ((1 + 1) + (3 + 1) + 2 * 2 + 1 + 1) + 1
unfolding x
words_of_call = refl

depth_of_call : source_depth copied ≡ 3
unfolding x
depth_of_call = refl

room_of_call : source_room copied ≡ 2
unfolding x
room_of_call = refl

-- four leaves and an operator, but for the range, whose cells are passed as they are; four cells
weight_of_call : source_weight copied ≡ 4 + 3 * 4 + 3
unfolding x
weight_of_call = refl

-- the subroutines of a large project, behind a table of five words: `sub a` with an `x++` of four words and `sub b` behind it
abbrev two_subs : Program
two_subs = program 2049 (var x None None ∷ []) [] (sub (codes "a") (bump (tgt x) Binary.Add ∷ []) ∷ on (codes "ping") (callsub (codes "b") ∷ []) ∷ sub (codes "b") [] ∷ [])

starts_of_subs : map (λ s. s.address) (starts two_subs) ≡ 5 ∷ 10 ∷ []
unfolding x
starts_of_subs = refl

-- Sources whose words are known one by one

-- `var x = 1` and `x = x + 1`, alone with ten words, and in the handler of an event with an `emit` behind it, with sixteen
abbrev one_more : StmtForm
one_more = set x (op Binary.Add (nam x) (num (pos 1)))

ten_words : source_words (program 2048 (var x None (Some (num (pos 1))) ∷ []) (one_more ∷ []) []) ≡ 10
unfolding x
ten_words = refl

sixteen_words : source_words (program 2048 (var x None (Some (num (pos 1))) ∷ []) [] (on (codes "ping") (one_more ∷ emit (codes "pong") None ∷ []) ∷ [])) ≡ 16
unfolding x
sixteen_words = refl

-- `a = [a[1], a[0]]` in a handler behind `var a[2] = [1, 2]`: 27 words and two temporaries
abbrev swapped : Program
swapped = program 2048 (var (codes "a") (Some (num (pos 2))) (Some (lst (num (pos 1) ∷ num (pos 2) ∷ []))) ∷ []) []
    (on (codes "ping") (set (codes "a") (lst (idx (codes "a") (num (pos 1)) ∷ idx (codes "a") (num (pos 0)) ∷ [])) ∷ []) ∷ [])

words_of_swapped : source_words swapped ≡ 27
words_of_swapped = refl

room_of_swapped : source_room swapped ≡ 2
room_of_swapped = refl

-- `when event.args[0] == 1 do x += 1 end`: the branch has the comparison
words_of_when : source_words (program 2048 (var x None None ∷ []) [] (on (codes "pair") (when_do (op Binary.Equal (idx (codes "event.args") (num (pos 0))) (num (pos 1))) (block (change (tgt x) Binary.Add (num (pos 1)) ∷ [])) ∷ []) ∷ [])) ≡ 17
unfolding x
words_of_when = refl

-- `var a[3]`, `var x = 3` and `a[x] = 7`: two words for a store at an index
words_of_indexed : source_words (program 2048 (var (codes "a") (Some (num (pos 3))) None ∷ var x None (Some (num (pos 3))) ∷ [])
    (assign (record { place = here; name = codes "a"; part = at (nam x) }) (num (pos 7)) ∷ []) []) ≡ 10
unfolding x
words_of_indexed = refl

-- `for x in 1:2 do end`, in a project that is not large and in one that is
abbrev to_two : ℕ → Program
to_two code = program code (var x None None ∷ []) (for_do (record { name = x; first = num (pos 1); last = num (pos 2); step = None }) no_stmts ∷ []) []

words_to_two : source_words (to_two 2048) ≡ 15
unfolding x
words_to_two = refl

large_words_to_two : source_words (to_two 32767) ≡ 18
unfolding x
large_words_to_two = refl

-- `callsub s`, and `x = 5` in `sub s`
words_of_sub : source_words (program 2048 (var x None None ∷ []) (callsub (codes "s") ∷ []) (sub (codes "s") (set x (num (pos 5)) ∷ []) ∷ [])) ≡ 8
unfolding x
words_of_sub = refl

-- `var x` and `sub a` with lines `x = 1`, then `sub b`, in a project with 32767 words of code: three words of the table, two a line and a last one stand before `sub b`
abbrev far : ℕ → Program
far lines = program 32767 (var x None None ∷ []) [] (sub (codes "a") (times lines (set x (num (pos 1)))) ∷ sub (codes "b") [] ∷ [])

near_enough : Sound (far 2045)
unfolding x
near_enough = refl

too_far : refusal (far 2046) ≡ Some (subroutine_far here 4096)
unfolding x
too_far = refl

-- A core with its numbers: `var a[2] = [1, 2]` through two temporaries
abbrev do_store : ℕ → CoreExpr → CoreStmt
do_store address e = core_stmt 1 (store (into address) e)

abbrev vector_core : Core
vector_core = record {
  init = core_stmts (do_store 36 (fixed (pos 1))) (core_stmts (do_store 37 (fixed (pos 2))) (core_stmts (do_store 34 (cell 36)) (core_stmts (do_store 35 (cell 37)) no_core)));
  parts = [];
  cells = 36;
  room = 2;
  size = 12;
  depth = 1;
}

vector_core_numbers : (core_words (project 2048) vector_core ≡ 12) × (core_depth vector_core ≡ 1) × (core_weight vector_core ≡ (1 + 1) + (1 + 1) + 1 + 3)
vector_core_numbers = (refl, refl, refl)

vector_core_is_good : is_good_list (project 2048) vector_core [] vector_core.init ≡ true
vector_core_is_good = refl

-- a temporary that is read before a store into it, and one into which a list stores last
unkept_is_bad : is_good_list (project 2048) vector_core [] (core_stmts (do_store 34 (cell 36)) no_core) ≡ false
unkept_is_bad = refl

kept_last_is_bad : is_good_list (project 2048) vector_core [] (core_stmts (do_store 36 (fixed (pos 1))) no_core) ≡ false
kept_last_is_bad = refl

-- A robot that keeps away from obstacles
abbrev robot : Program
robot = record {
  project = project_of 2048 620
      (node_cells ++ named_cells (codes "prox.horizontal") 7 ∷ named_cells (codes "motor.left.target") 1 ∷ named_cells (codes "motor.right.target") 1 ∷ named_cells (codes "timer.period") 2 ∷ [])
      (record { name = codes "prox"; text = [] } ∷ record { name = codes "timer0"; text = [] } ∷ record { name = codes "button.center"; text = [] } ∷ [])
      (named_cells (codes "alive") 2 ∷ [])
      (record { name = codes "LIMIT"; value = pos 2000 } ∷ []);
  source = record {
    vars =
        var (codes "wl") (Some (num (pos 7))) (Some (lst (num (pos 1) ∷ num (pos 2) ∷ num (pos 3) ∷ minus 2 ∷ minus 1 ∷ num (pos 1) ∷ num (pos 1) ∷ [])))
        ∷ var (codes "wr") (Some (num (pos 7))) (Some (lst (minus 1 ∷ minus 2 ∷ minus 3 ∷ num (pos 2) ∷ num (pos 1) ∷ num (pos 1) ∷ num (pos 1) ∷ [])))
        ∷ var (codes "speed") None (Some (num (pos 200)))
        ∷ var (codes "left") None None
        ∷ var (codes "right") None None
        ∷ var (codes "i") None None
        ∷ var (codes "near") None None
        ∷ var (codes "turns") None None
        ∷ var (codes "state") None (Some (num (pos 1)))
        ∷ [];
    init = block (assign (record { place = here; name = codes "timer.period"; part = at (num (pos 0)) }) (num (pos 100)) ∷ []);
    parts =
        on (codes "button.center") (set (codes "state") (op Binary.Sub (num (pos 1)) (nam (codes "state"))) ∷ [])
        ∷ on (codes "prox")
        (set (codes "near") (num (pos 0))
        ∷ for_do (record { name = codes "i"; first = num (pos 0); last = num (pos 6); step = None })
        (block (if_then (op Binary.Above (idx (codes "prox.horizontal") (nam (codes "i"))) (nam (codes "LIMIT"))) (block (bump (tgt (codes "near")) Binary.Add ∷ [])) no_stmts ∷ []))
        ∷ call (codes "math.dot") (these (nam (codes "left") ∷ nam (codes "prox.horizontal") ∷ nam (codes "wl") ∷ num (pos 6) ∷ []))
        ∷ call (codes "math.dot") (these (nam (codes "right") ∷ nam (codes "prox.horizontal") ∷ nam (codes "wr") ∷ num (pos 6) ∷ []))
        ∷ when_do (op Binary.Above (nam (codes "near")) (num (pos 0))) (block (bump (tgt (codes "turns")) Binary.Add ∷ []))
        ∷ if_then (op Binary.Equal (nam (codes "state")) (num (pos 1)))
        (block (set (codes "motor.left.target") (op Binary.Add (nam (codes "speed")) (nam (codes "left")))
        ∷ set (codes "motor.right.target") (op Binary.Add (nam (codes "speed")) (nam (codes "right"))) ∷ callsub (codes "clip") ∷ []))
        (block (set (codes "motor.left.target") (num (pos 0)) ∷ set (codes "motor.right.target") (num (pos 0)) ∷ []))
        ∷ [])
        ∷ on (codes "timer0") (emit (codes "alive") (Some (lst (nam (codes "near") ∷ nam (codes "turns") ∷ []))) ∷ [])
        ∷ sub (codes "clip")
        (if_then (op Binary.Above (nam (codes "motor.left.target")) (num (pos 300))) (block (set (codes "motor.left.target") (num (pos 300)) ∷ []))
        (block (if_then (op Below (nam (codes "motor.left.target")) (minus 300)) (block (set (codes "motor.left.target") (minus 300) ∷ [])) no_stmts ∷ []))
        ∷ if_then (op Binary.Above (nam (codes "motor.right.target")) (num (pos 300))) (block (set (codes "motor.right.target") (num (pos 300)) ∷ []))
        (block (if_then (op Below (nam (codes "motor.right.target")) (minus 300)) (block (set (codes "motor.right.target") (minus 300) ∷ [])) no_stmts ∷ []))
        ∷ [])
        ∷ [];
  };
}

robot_is_sound : Sound robot
unfolding int_wrap
robot_is_sound = refl

-- The table; the init code, `wl` and `wr` with a word more for each sign, two numbers, and a cell at an index; the button; `prox` with a `for` around an `if`, two
-- calls, a `when` and an `if` with an else; `timer0`; and `clip`, whose two halves have 15 words each.
words_of_robot : source_words robot ≡ 9 + ((9 + 7 + 14) + (10 + 7 + 14) + 2 + 2 + 4 + 1) + (4 + 1) + (2 + (11 + 10) + 12 + 12 + 8 + 18 + 1) + (7 + 1) + (15 + 15 + 1)
unfolding int_wrap
words_of_robot = refl

words_of_robot_together : source_words robot ≡ 197
unfolding int_wrap
words_of_robot_together = refl

-- the call of `math.dot` with four addresses and a length; the seven elements of `wl`
depth_of_robot : source_depth robot ≡ 5
unfolding int_wrap
depth_of_robot = refl

room_of_robot : source_room robot ≡ 7
unfolding int_wrap
room_of_robot = refl

-- the same call: a leaf, and three for each of 16 cells
weight_of_robot : source_weight robot ≡ 1 + 3 * 16 + 3
unfolding int_wrap
weight_of_robot = refl

cells_of_robot : cells_of_variables robot ≡ 66
cells_of_robot = refl
