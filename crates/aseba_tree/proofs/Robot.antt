-- A longer source with a project of its own: a robot that keeps away from obstacles. Its effects were counted by hand for each event.
use Rattle.std.specs.Prelude.{◌≡◌, refl, ℕ, pos, negsuc, true, [], ◌∷◌, replicate, Some, None, codes}
use Rattle.std.specs.List.{list_all}
use Rattle.std.specs.Int.{int_wrap}
use Rattle.aseba_words.specs.declared.operators.Unary.TheVariants.{Minus}
use Rattle.aseba_words.specs.declared.operators.Binary.TheVariants.{Add, Sub, Above, Below, Equal}
use Rattle.aseba_tree.specs.Code.{Name, Expr, index, items, one, two, no_exprs, exprs, all, at, Target, Stmt, assign, bump, if_then, when_do, for_do, emit, callsub, call, no_stmts, Source, Project}
use Rattle.aseba_tree.specs.Line.{named, began, was_set, sent, told, var, end}
use Rattle.aseba_tree.specs.Script.{sets, Script}
use Rattle.aseba_tree.specs.State.{Program, loaded}
use Rattle.aseba_tree.specs.Step.{step}
use Rattle.aseba_tree.specs.Lines.{source_lines, source_moments}
use Rattle.aseba_tree.proofs.Written.{spot, ex, num, name, st, block, store, decl, onevent, natives, event}

abbrev wl : Name
wl = codes "wl"

abbrev wr : Name
wr = codes "wr"

abbrev speed : Name
speed = codes "speed"

abbrev left : Name
left = codes "left"

abbrev right : Name
right = codes "right"

abbrev i : Name
i = codes "i"

abbrev near : Name
near = codes "near"

abbrev turns : Name
turns = codes "turns"

abbrev state : Name
state = codes "state"

abbrev prox : Name
prox = codes "prox.horizontal"

abbrev left_target : Name
left_target = codes "motor.left.target"

abbrev right_target : Name
right_target = codes "motor.right.target"

abbrev limit : Expr
limit = name (codes "LIMIT")

abbrev minus : ℕ → Expr
minus n = ex (one Minus (num n))

abbrev seven : Expr → Expr → Expr → Expr → Expr → Expr → Expr → Expr
seven a b c d e f g = ex (items (exprs a (exprs b (exprs c (exprs d (exprs e (exprs f (exprs g no_exprs))))))))

abbrev all_of : Name → Target
all_of n = record { place = spot; name = n; part = all }

abbrev dot : ℕ → Name → Name → Stmt
dot line dest weights = st line (call (codes "math.dot") (exprs (name dest) (exprs (name prox) (exprs (name weights) (exprs (num 6) no_exprs)))))

-- keeps a target between -300 and 300
abbrev clipped : ℕ → ℕ → Name → Stmt
clipped line other_line target =
    st line (if_then (ex (two Above (name target) (num 300))) (block (store 0 target (num 300) ∷ []))
    (block (st other_line (if_then (ex (two Below (name target) (minus 300))) (block (store 0 target (minus 300) ∷ [])) no_stmts) ∷ [])))

abbrev source : Source
source = record {
  vars =
      decl 2 wl (Some (num 7)) (Some (seven (num 1) (num 2) (num 3) (minus 2) (minus 1) (num 1) (num 1)))
      ∷ decl 3 wr (Some (num 7)) (Some (seven (minus 1) (minus 2) (minus 3) (num 2) (num 1) (num 1) (num 1)))
      ∷ decl 4 speed None (Some (num 200)) ∷ decl 5 left None None ∷ decl 6 right None None ∷ decl 7 i None None ∷ decl 8 near None None
      ∷ decl 9 turns None None ∷ decl 10 state None (Some (num 1)) ∷ [];
  init = block (st 11 (assign (record { place = spot; name = codes "timer.period"; part = at (num 0) }) (num 100)) ∷ []);
  parts =
      onevent 12 (codes "button.center") (store 13 state (ex (two Sub (num 1) (name state))) ∷ [])
      ∷ onevent 14 (codes "prox")
      (store 15 near (num 0)
      ∷ st 16 (for_do (record { name = i; first = num 0; last = num 6; step = None })
      (block (st 17 (if_then (ex (two Above (ex (index prox (name i))) limit)) (block (st 18 (bump (all_of near) Add) ∷ [])) no_stmts) ∷ [])))
      ∷ dot 21 left wl ∷ dot 22 right wr
      ∷ st 23 (when_do (ex (two Above (name near) (num 0))) (block (st 24 (bump (all_of turns) Add) ∷ [])))
      ∷ st 26 (if_then (ex (two Equal (name state) (num 1)))
      (block (store 27 left_target (ex (two Add (name speed) (name left))) ∷ store 28 right_target (ex (two Add (name speed) (name right)))
      ∷ st 29 (callsub (codes "clip")) ∷ []))
      (block (store 31 left_target (num 0) ∷ store 32 right_target (num 0) ∷ [])))
      ∷ [])
      ∷ onevent 34 (codes "timer0") (st 35 (emit (codes "alive") (Some (ex (items (exprs (name near) (exprs (name turns) no_exprs)))))) ∷ [])
      ∷ record { line = 36; place = spot; is_sub = true; name = codes "clip"; body = block (clipped 37 39 left_target ∷ clipped 42 44 right_target ∷ []) } ∷ [];
}

abbrev project : Project
project = record {
  node = record {
    name = codes "robot";
    code = 2048;
    stack = 32;
    cells = 620;
    variables =
        record { name = codes "_id"; size = 1 } ∷ record { name = codes "event.source"; size = 1 } ∷ record { name = codes "event.args"; size = 32 }
        ∷ record { name = prox; size = 7 } ∷ record { name = left_target; size = 1 } ∷ record { name = right_target; size = 1 }
        ∷ record { name = codes "timer.period"; size = 2 } ∷ [];
    locals =
        record { name = codes "prox"; text = codes "new distances" } ∷ record { name = codes "timer0"; text = codes "first timer" }
        ∷ record { name = codes "button.center"; text = codes "button" } ∷ [];
    natives = natives;
  };
  id = 3;
  events = record { name = codes "alive"; size = 2 } ∷ [];
  consts = record { name = codes "LIMIT"; value = pos 2000 } ∷ [];
}

abbrev program : Program
program = record { project = project; source = source }

-- each event comes as soon as the handler before it has ended: it has 18 effects in the init code, 45 and 48 in `prox`, 2 in `timer0` and in
-- `button.center`, and 39 in the last `prox`
abbrev script : Script
script =
    event 18 (codes "prox") [] ∷ record { time = 63; action = sets prox 0 (pos 0 ∷ pos 0 ∷ pos 3000 ∷ pos 0 ∷ pos 0 ∷ pos 0 ∷ pos 0 ∷ []) }
    ∷ event 63 (codes "prox") [] ∷ event 111 (codes "timer0") [] ∷ event 113 (codes "button.center") [] ∷ event 115 (codes "prox") [] ∷ []

robot : source_lines program script (replicate 154 true) ≡
    told 18 18 (began (named (codes "prox"))) ∷ told 63 63 (was_set prox) ∷ told 63 63 (began (named (codes "prox")))
    ∷ told 111 111 (began (named (codes "timer0"))) ∷ told 111 112 (sent (named (codes "alive")) (pos 1 ∷ pos 1 ∷ []))
    ∷ told 113 113 (began (named (codes "button.center"))) ∷ told 115 115 (began (named (codes "prox")))
    ∷ var wl (pos 1 ∷ pos 2 ∷ pos 3 ∷ negsuc 1 ∷ negsuc 0 ∷ pos 1 ∷ pos 1 ∷ [])
    ∷ var wr (negsuc 0 ∷ negsuc 1 ∷ negsuc 2 ∷ pos 2 ∷ pos 1 ∷ pos 1 ∷ pos 1 ∷ [])
    ∷ var speed (pos 200 ∷ []) ∷ var left (pos 140 ∷ []) ∷ var right (negsuc 140 ∷ []) ∷ var i (pos 7 ∷ []) ∷ var near (pos 1 ∷ [])
    ∷ var turns (pos 1 ∷ []) ∷ var state (pos 0 ∷ []) ∷ end 154 154 ∷ []
unfolding int_wrap loaded step
robot = refl

-- no step of these came to an idle state
robot-rests : list_all (λ m. m.runs) (source_moments program script (replicate 154 true)) ≡ true
unfolding int_wrap loaded step
robot-rests = refl
