-- The project that stands where none is named.
use Rattle.std.specs.Prelude.{◌≡◌, ℕ, ℤ, pos, negsuc, List, [], ◌∷◌, ◌++◌, map, codes}
use Rattle.aseba_words.specs.Natives.{natives, sizes}
use Rattle.aseba_tree.specs.declared.description.Sized.{Sized}
use Rattle.aseba_tree.specs.declared.description.Param.{Param}
use Rattle.aseba_tree.specs.declared.description.Native.{Native}
use Rattle.aseba_tree.specs.declared.description.Description.{Description}
use Rattle.aseba_tree.specs.declared.project.Project.{Project}

abbrev pub sized : List ℕ → ℕ → Sized
sized name size = record { name = name; size = size }

abbrev pub param : ℤ → List ℕ → Param
param size name = record { size = size; name = name }

abbrev pub native : List ℕ → List ℕ → List Param → Native
native name text params = record { name = name; text = text; params = params }

-- a parameter whose length the call gives, and one of a single cell
abbrev pub many : List ℕ → Param
many name = param (negsuc 0) name

abbrev pub one : List ℕ → Param
one name = param (pos 1) name

abbrev pub cell_natives : List Native
cell_natives =
    native (codes "math.copy") (codes "copy") (many (codes "dest") ∷ many (codes "src") ∷ [])
    ∷ native (codes "math.fill") (codes "fill") (many (codes "dest") ∷ one (codes "value") ∷ [])
    ∷ native (codes "math.addscalar") (codes "addscalar") (many (codes "dest") ∷ many (codes "src") ∷ one (codes "scalar") ∷ [])
    ∷ []

abbrev pub sum_natives : List Native
sum_natives =
    native (codes "math.add") (codes "add") (many (codes "dest") ∷ many (codes "a") ∷ many (codes "b") ∷ [])
    ∷ native (codes "math.sub") (codes "sub") (many (codes "dest") ∷ many (codes "a") ∷ many (codes "b") ∷ [])
    ∷ native (codes "math.mul") (codes "mul") (many (codes "dest") ∷ many (codes "a") ∷ many (codes "b") ∷ [])
    ∷ []

abbrev pub choice_natives : List Native
choice_natives =
    native (codes "math.div") (codes "div") (many (codes "dest") ∷ many (codes "a") ∷ many (codes "b") ∷ [])
    ∷ native (codes "math.min") (codes "min") (many (codes "dest") ∷ many (codes "a") ∷ many (codes "b") ∷ [])
    ∷ native (codes "math.max") (codes "max") (many (codes "dest") ∷ many (codes "a") ∷ many (codes "b") ∷ [])
    ∷ []

abbrev pub range_natives : List Native
range_natives =
    native (codes "math.clamp") (codes "clamp") (many (codes "dest") ∷ many (codes "src") ∷ many (codes "low") ∷ many (codes "high") ∷ [])
    ∷ native (codes "math.dot") (codes "dot") (one (codes "dest") ∷ many (codes "a") ∷ many (codes "b") ∷ one (codes "shift") ∷ [])
    ∷ native (codes "math.muldiv") (codes "muldiv") (many (codes "dest") ∷ many (codes "a") ∷ many (codes "b") ∷ many (codes "c") ∷ [])
    ∷ []

abbrev pub scan_natives : List Native
scan_natives =
    native (codes "math.stat") (codes "stat") (many (codes "src") ∷ one (codes "min") ∷ one (codes "max") ∷ one (codes "mean") ∷ [])
    ∷ native (codes "math.argbounds") (codes "argbounds") (many (codes "src") ∷ one (codes "argmin") ∷ one (codes "argmax") ∷ [])
    ∷ []

abbrev pub default_natives : List Native
default_natives = cell_natives ++ sum_natives ++ choice_natives ++ range_natives ++ scan_natives

-- in their order they take what the natives of every node take
abbrev pub HasKnownNatives : Type 0
HasKnownNatives = map (λ native. map (λ p. p.size) native.params) default_natives ≡ map sizes natives

abbrev pub default_variables : List Sized
default_variables = sized (codes "_id") 1 ∷ sized (codes "event.source") 1 ∷ sized (codes "event.args") 32 ∷ []

abbrev pub default_node : Description
default_node = record {
  name = codes "sim";
  code = 2048;
  stack = 64;
  cells = 1024;
  variables = default_variables;
  locals = [];
  natives = default_natives;
}

abbrev pub default_project : Project
default_project = record {
  node = default_node;
  id = 1;
  events = sized (codes "ping") 0 ∷ sized (codes "pong") 0 ∷ sized (codes "pair") 2 ∷ [];
  consts = [];
}

-- its text
unfoldable pub default_text : List ℕ
default_text =
    codes "node sim\n"
    ++ codes "code 2048\n"
    ++ codes "vars 1024\n"
    ++ codes "stack 64\n"
    ++ codes "id 1\n"
    ++ codes "variable _id 1\n"
    ++ codes "variable event.source 1\n"
    ++ codes "variable event.args 32\n"
    ++ codes "native math.copy -1 dest -1 src ; copy\n"
    ++ codes "native math.fill -1 dest 1 value ; fill\n"
    ++ codes "native math.addscalar -1 dest -1 src 1 scalar ; addscalar\n"
    ++ codes "native math.add -1 dest -1 a -1 b ; add\n"
    ++ codes "native math.sub -1 dest -1 a -1 b ; sub\n"
    ++ codes "native math.mul -1 dest -1 a -1 b ; mul\n"
    ++ codes "native math.div -1 dest -1 a -1 b ; div\n"
    ++ codes "native math.min -1 dest -1 a -1 b ; min\n"
    ++ codes "native math.max -1 dest -1 a -1 b ; max\n"
    ++ codes "native math.clamp -1 dest -1 src -1 low -1 high ; clamp\n"
    ++ codes "native math.dot 1 dest -1 a -1 b 1 shift ; dot\n"
    ++ codes "native math.muldiv -1 dest -1 a -1 b -1 c ; muldiv\n"
    ++ codes "native math.stat -1 src 1 min 1 max 1 mean ; stat\n"
    ++ codes "native math.argbounds -1 src 1 argmin 1 argmax ; argbounds\n"
    ++ codes "event ping 0\n"
    ++ codes "event pong 0\n"
    ++ codes "event pair 2\n"
