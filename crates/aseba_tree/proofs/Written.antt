-- Small trees, projects and scripts, written by hand for worked runs.
use Rattle.std.specs.Prelude.{ℕ, ◌==◌, ℤ, pos, negsuc, Bool, false, List, [], ◌∷◌, map, Option, codes}
use Rattle.aseba_tree.specs.Code.{Name, Place, Expr, expr, Form, number, whole, items, no_exprs, exprs, all, Stmt, stmt, StmtForm, assign, Stmts, no_stmts, stmts, Decl, Handler, Native, Project}
use Rattle.aseba_tree.specs.Line.{named}
use Rattle.aseba_tree.specs.Script.{Entry, arrives}
use Rattle.aseba_tree.specs.State.{Program}

-- places don't count in a run
abbrev pub spot : Place
spot = record { line = 1; column = 1 }

abbrev pub ex : Form → Expr
ex form = expr spot spot form

abbrev pub num : ℕ → Expr
num n = ex (number (pos n))

abbrev pub name : List ℕ → Expr
name n = ex (whole n)

abbrev pub list : Expr → Expr → Expr
list a b = ex (items (exprs a (exprs b no_exprs)))

abbrev pub st : ℕ → StmtForm → Stmt
st line form = stmt line spot form

abbrev pub block : List Stmt → Stmts
block [] = no_stmts
block (s ∷ ss) = stmts s (block ss)

abbrev pub store : ℕ → Name → Expr → Stmt
store line n e = st line (assign (record { place = spot; name = n; part = all }) e)

abbrev pub decl : ℕ → Name → Option Expr → Option Expr → Decl
decl line n size value = record { line = line; place = spot; name = n; size = size; equals = spot; value = value }

abbrev pub onevent : ℕ → Name → List Stmt → Handler
onevent line n body = record { line = line; place = spot; is_sub = false; name = n; body = block body }

abbrev pub native : List ℕ → List ℤ → Native
native n sizes = record { name = n; text = []; params = map (λ s. record { size = s; name = [] }) sizes }

abbrev pub t : ℤ
t = negsuc 0

abbrev pub natives : List Native
natives =
    native (codes "math.copy") (t ∷ t ∷ []) ∷ native (codes "math.fill") (t ∷ pos 1 ∷ []) ∷ native (codes "math.addscalar") (t ∷ t ∷ pos 1 ∷ [])
    ∷ native (codes "math.add") (t ∷ t ∷ t ∷ []) ∷ native (codes "math.sub") (t ∷ t ∷ t ∷ []) ∷ native (codes "math.mul") (t ∷ t ∷ t ∷ [])
    ∷ native (codes "math.div") (t ∷ t ∷ t ∷ []) ∷ native (codes "math.min") (t ∷ t ∷ t ∷ []) ∷ native (codes "math.max") (t ∷ t ∷ t ∷ [])
    ∷ native (codes "math.clamp") (t ∷ t ∷ t ∷ t ∷ []) ∷ native (codes "math.dot") (pos 1 ∷ t ∷ t ∷ pos 1 ∷ [])
    ∷ native (codes "math.muldiv") (t ∷ t ∷ t ∷ t ∷ []) ∷ native (codes "math.stat") (t ∷ pos 1 ∷ pos 1 ∷ pos 1 ∷ [])
    ∷ native (codes "math.argbounds") (t ∷ pos 1 ∷ pos 1 ∷ []) ∷ []

abbrev pub project : Project
project = record {
  node = record {
    name = codes "sim";
    code = 2048;
    stack = 64;
    cells = 1024;
    variables = record { name = codes "_id"; size = 1 } ∷ record { name = codes "event.source"; size = 1 } ∷ record { name = codes "event.args"; size = 32 } ∷ [];
    locals = [];
    natives = natives;
  };
  id = 1;
  events = record { name = codes "ping"; size = 0 } ∷ record { name = codes "pong"; size = 0 } ∷ record { name = codes "pair"; size = 2 } ∷ [];
  consts = [];
}

abbrev pub program : List Decl → List Stmt → List Handler → Program
program vars init parts = record { project = project; source = record { vars = vars; init = block init; parts = parts } }

abbrev pub event : ℕ → Name → List ℤ → Entry
event time n args = record { time = time; action = arrives (named n) 0 args }

-- true at each `#`
abbrev pub beats : List ℕ → List Bool
beats marks = map (λ c. c == 35) marks

abbrev pub x : Name
x = codes "x"

abbrev pub ping : Name
ping = codes "ping"
