-- Runs whose lines were worked out by hand, with the beats of the code of their sources: the definitions compute the same lines.
use Rattle.std.specs.Prelude.{◌≡◌, refl, ℕ, pos, Bool, true, List, [], ◌∷◌, take, Some, None, codes}
use Rattle.std.specs.Int.{int_wrap}
use Rattle.aseba_words.specs.declared.operators.Binary.TheVariants.{Add, Div, Equal}
use Rattle.aseba_tree.specs.Code.{Name, Expr, index, two, no_exprs, exprs, all, at, assign, change, when_do, for_do, emit, callsub, call, no_stmts}
use Rattle.aseba_tree.specs.Line.{named, began, ignored, killed, was_set, sent, division, bounds, told, var, end}
use Rattle.aseba_tree.specs.Script.{sets, Script}
use Rattle.aseba_tree.specs.State.{Program, loaded}
use Rattle.aseba_tree.specs.Step.{step}
use Rattle.aseba_tree.specs.Lines.{source_lines}
use Rattle.aseba_tree.proofs.Written.{spot, ex, num, name, list, st, block, store, decl, onevent, program, event, beats, x, ping}

-- var x = 1 / onevent ping / x = x + 1 / emit pong
abbrev kill_in_expression : Program
kill_in_expression = program (decl 1 x None (Some (num 1)) ∷ []) []
    (onevent 2 ping (store 3 x (ex (two Add (name x) (num 1))) ∷ st 4 (emit (codes "pong") None) ∷ []) ∷ [])

abbrev two_pings : Script
two_pings = event 10 ping [] ∷ event 12 ping [] ∷ []

abbrev kill_beats : List Bool
kill_beats = beats (codes ".##............###..")

kill-in-expression : source_lines kill_in_expression two_pings kill_beats ≡
    told 10 2 (began (named ping)) ∷ told 12 2 (killed 3) ∷ told 12 2 (began (named ping)) ∷ told 16 4 (sent (named (codes "pong")) [])
    ∷ var x (pos 2 ∷ []) ∷ end 20 5 ∷ []
unfolding int_wrap loaded step
kill-in-expression = refl

kill-cut-short : source_lines kill_in_expression two_pings (take 16 kill_beats) ≡
    told 10 2 (began (named ping)) ∷ told 12 2 (killed 3) ∷ told 12 2 (began (named ping))
    ∷ var x (pos 2 ∷ []) ∷ end 16 3 ∷ []
unfolding int_wrap loaded step
kill-cut-short = refl

abbrev a : Name
a = codes "a"

abbrev at_index : Name → ℕ → Expr
at_index n i = ex (index n (num i))

-- var a[2] = [1,2] / onevent ping / a = [a[1], a[0]]
abbrev half_vector : Program
half_vector = program (decl 1 a (Some (num 2)) (Some (list (num 1) (num 2))) ∷ []) []
    (onevent 2 ping (store 3 a (list (at_index a 1) (at_index a 0)) ∷ []) ∷ [])

half-vector : source_lines half_vector (event 10 ping [] ∷ event 18 ping [] ∷ []) (beats (codes ".....#.##........#.")) ≡
    told 10 3 (began (named ping)) ∷ told 18 4 (killed 3) ∷ told 18 4 (began (named ping))
    ∷ var a (pos 2 ∷ pos 2 ∷ []) ∷ end 19 4 ∷ []
unfolding int_wrap loaded step
half-vector = refl

half-vector-done : source_lines half_vector (event 10 ping [] ∷ []) (beats (codes ".....#.##........#.##.........")) ≡
    told 10 3 (began (named ping))
    ∷ var a (pos 2 ∷ pos 1 ∷ []) ∷ end 30 6 ∷ []
unfolding int_wrap loaded step
half-vector-done = refl

abbrev pair : Name
pair = codes "pair"

-- var n / onevent pair / when event.args[0] == 1 do / n += 1 / end
abbrev when_edge : Program
when_edge = program (decl 1 (codes "n") None None ∷ []) []
    (onevent 2 pair
    (st 3 (when_do (ex (two Equal (at_index (codes "event.args") 0) (num 1)))
    (block (st 4 (change (record { place = spot; name = codes "n"; part = all }) Add (num 1)) ∷ []))) ∷ []) ∷ [])

when-edge : source_lines when_edge
    (event 10 pair (pos 0 ∷ []) ∷ event 30 pair (pos 1 ∷ []) ∷ event 50 pair (pos 1 ∷ []) ∷ event 70 pair (pos 0 ∷ []) ∷ event 90 pair (pos 1 ∷ []) ∷ [])
    (beats (codes "#............##..................#...##..............##..................##..................#...##...........")) ≡
    told 10 1 (began (named pair)) ∷ told 30 3 (began (named pair)) ∷ told 50 6 (began (named pair)) ∷ told 70 8 (began (named pair))
    ∷ told 90 10 (began (named pair)) ∷ var (codes "n") (pos 2 ∷ []) ∷ end 110 13 ∷ []
unfolding int_wrap loaded step
when-edge = refl

-- var a[3] / var i = 3 / a[i] = 7
bounds-stop : source_lines (program (decl 1 a (Some (num 3)) None ∷ decl 2 (codes "i") None (Some (num 3)) ∷ [])
    (st 3 (assign (record { place = spot; name = a; part = at (name (codes "i")) }) (num 7)) ∷ []) [])
    [] (beats (codes ".#..#.....")) ≡
    told 4 2 (bounds 3 3 (pos 3)) ∷ var a (pos 0 ∷ pos 0 ∷ pos 0 ∷ []) ∷ var (codes "i") (pos 3 ∷ []) ∷ end 10 2 ∷ []
unfolding int_wrap loaded step
bounds-stop = refl

-- var x = 1 / x = x / 0
division-stop : source_lines (program (decl 1 x None (Some (num 1)) ∷ []) (store 2 x (ex (two Div (name x) (num 0))) ∷ []) [])
    [] (beats (codes ".#..#.....")) ≡
    told 4 2 (division 2) ∷ var x (pos 1 ∷ []) ∷ end 10 2 ∷ []
unfolding int_wrap loaded step
division-stop = refl

-- var x = 1 / onevent ping / x = x + 1, with 50 written into x while the handler runs
abbrev held_write : Program
held_write = program (decl 1 x None (Some (num 1)) ∷ []) [] (onevent 2 ping (store 3 x (ex (two Add (name x) (num 1))) ∷ []) ∷ [])

abbrev ping_and_write : Script
ping_and_write = event 10 ping [] ∷ record { time = 11; action = sets x 0 (pos 50 ∷ []) } ∷ []

held-write : source_lines held_write ping_and_write (beats (codes ".##..........#")) ≡
    told 10 2 (began (named ping)) ∷ told 11 2 (was_set x) ∷ var x (pos 2 ∷ []) ∷ end 14 3 ∷ []
unfolding int_wrap loaded step
held-write = refl

held-write-applied : source_lines held_write ping_and_write (beats (codes ".##..........##.....")) ≡
    told 10 2 (began (named ping)) ∷ told 11 2 (was_set x) ∷ var x (pos 50 ∷ []) ∷ end 20 4 ∷ []
unfolding int_wrap loaded step
held-write-applied = refl

-- var i / for i in 1:2 do / end
for-loop : source_lines (program (decl 1 (codes "i") None None ∷ [])
    (st 2 (for_do (record { name = codes "i"; first = num 1; last = num 2; step = None }) no_stmts) ∷ []) [])
    [] (beats (codes ".#..#...##..#...##..##........")) ≡
    var (codes "i") (pos 3 ∷ []) ∷ end 30 9 ∷ []
unfolding int_wrap loaded step
for-loop = refl

-- var x / callsub s / sub s / x = 5
sub-call : source_lines (program (decl 1 x None None ∷ []) (st 2 (callsub (codes "s")) ∷ [])
    (record { line = 3; place = spot; is_sub = true; name = codes "s"; body = block (store 4 x (num 5) ∷ []) } ∷ []))
    [] (beats (codes "#.###.....")) ≡
    var x (pos 5 ∷ []) ∷ end 10 4 ∷ []
unfolding int_wrap loaded step
sub-call = refl

-- var a[2] = [6,6] / var b[2] = [2,0] / call math.div(a, a, b)
native-division : source_lines (program (decl 1 a (Some (num 2)) (Some (list (num 6) (num 6))) ∷ decl 2 (codes "b") (Some (num 2)) (Some (list (num 2) (num 0))) ∷ [])
    (st 3 (call (codes "math.div") (exprs (name a) (exprs (name a) (exprs (name (codes "b")) no_exprs)))) ∷ []) [])
    [] (beats (codes ".....#.#.....#.#....#.......................................")) ≡
    told 20 5 (division 3) ∷ var a (pos 3 ∷ pos 6 ∷ []) ∷ var (codes "b") (pos 2 ∷ pos 0 ∷ []) ∷ end 60 5 ∷ []
unfolding int_wrap loaded step
native-division = refl

-- var x = 1 / onevent pair / x = x + event.args[0]
ignored-event : source_lines (program (decl 1 x None (Some (num 1)) ∷ []) []
    (onevent 2 pair (store 3 x (ex (two Add (name x) (at_index (codes "event.args") 0))) ∷ []) ∷ []))
    (event 10 pair (pos 4 ∷ pos 0 ∷ []) ∷ event 11 (codes "pong") (pos 9 ∷ []) ∷ []) (beats (codes ".##...........##....")) ≡
    told 10 2 (began (named pair)) ∷ told 11 2 (ignored (named (codes "pong"))) ∷ var x (pos 5 ∷ []) ∷ end 20 4 ∷ []
unfolding int_wrap loaded step
ignored-event = refl
