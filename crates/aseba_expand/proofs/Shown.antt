-- What a source and its element form show: the declared variables, whose names are new, with the same cells.
use Rattle.std.proofs.Common.{◌≡◌, refl, sym, ◌∙◌, ap, ℕ, ◌+◌, ◌||◌, ◌&&◌, Bool, true, false, not, if◌then◌else◌, ℤ, List, [], ◌∷◌, ◌++◌, arith, Some, is_some, map, take, drop, length, append_assoc, zero-add, sum_by, unwrap_or}
use Rattle.std.specs.List.{list_any}
use Rattle.std.specs.Prelude.{bytes_eq}
use Rattle.std.proofs.Math.Seq.{take-append_seam, drop-append_seam}
use Rattle.std.proofs.lemmas.List.Folds.{list_any-append}
use Rattle.std.proofs.lemmas.List.Sums.{sum_by-cons, sum_by-append}
use Rattle.std.proofs.lemmas.Slice.Eq.{bytes_eq-Decides}
use Rattle.aseba_tree.specs.Code.{Name, Sized, Decl, Const}
use Rattle.aseba_tree.specs.CoreRun.{own_places}
use Rattle.aseba_tree.specs.Faults.{decls_faults, decl_faults, declaring, given_size, first_scope}
use Rattle.aseba_tree.specs.Layout.{address_from, address_of, Placed, placed_from, variables, cells_at}
use Rattle.aseba_tree.specs.Lines.{declared_cells}
use Rattle.aseba_tree.specs.Sizes.{Known, Scope, variable_of}
use Rattle.aseba_tree.specs.State.{Program, State, declared_size, node_variables, declared}
use Rattle.aseba_tree.specs.Value.{Cells, variable_cells}
use Rattle.aseba_tree.proofs.SizeLaws.{nil_left, nil_right, both_left, both_right}
use Rattle.aseba_expand.specs.Plain.{plain_program}
use Rattle.aseba_expand.proofs.Cells.{Laid, standing}
use Rattle.aseba_expand.proofs.EventNumbers.{find-any}
use Rattle.aseba_expand.proofs.Extends.{new-name}
use Rattle.aseba_expand.proofs.Values.{with_room}

-- no name stands before, among the known ones or these
abbrev pub are_new : List Sized → List Sized → Bool
are_new known [] = true
are_new known (v ∷ vs) = not (list_any (λ u. bytes_eq u.name v.name) known) && are_new (known ++ v ∷ []) vs

-- the address of a name that no variable before it has
new-address : (ds es : List Sized) (base : ℕ) (v : Sized) → list_any (λ u. bytes_eq u.name v.name) ds ≡ false → address_from base (ds ++ v ∷ es) v.name ≡ Some (base + sum_by (λ v. v.size) ds, v.size)
new-address [] es base v e = rw ((bytes_eq-Decides v.name v.name).1 refl) (ap (λ n. Some (n, v.size)) (let same : base ≡ base + 0 = omega arith in same))
new-address (d ∷ ds) es base v e = pick (new-address ds es (base + d.size) v) (bytes_eq d.name v.name) e
  where
    pick : (list_any (λ u. bytes_eq u.name v.name) ds ≡ false → address_from (base + d.size) (ds ++ v ∷ es) v.name ≡ Some (base + d.size + sum_by (λ v. v.size) ds, v.size)) → (b : Bool)
        → (b || list_any (λ u. bytes_eq u.name v.name) ds) ≡ false
        → (if b then Some (base, d.size) else address_from (base + d.size) (ds ++ v ∷ es) v.name) ≡ Some (base + sum_by (λ v. v.size) (d ∷ ds), v.size)
    pick deeper true e = cc
    pick deeper false e = deeper e ∙ ap (λ n. Some (n, v.size)) (omega (arith, sum_by-cons (λ v. v.size) d ds))

not-true : (b : Bool) → not b ≡ true → b ≡ false
not-true true e = cc
not-true false e = refl

-- cells that stand behind others, and before others
between : (pre own post : List ℤ) → take (length own) (drop (length pre) (pre ++ (own ++ post))) ≡ own
between pre own post = ap (take (length own)) (drop-append_seam pre (own ++ post)) ∙ take-append_seam own post

-- a new variable's cells stand at its place
shown-one : (cells : Cells) (vs known es : List Sized) (v : Sized) (temporaries : List ℤ) → Laid cells vs → vs ≡ known ++ v ∷ es → list_any (λ u. bytes_eq u.name v.name) known ≡ false
    → take v.size (drop (sum_by (λ v. v.size) known) (with_room cells temporaries)) ≡ variable_cells cells v.name
shown-one cells vs known es v temporaries h same new =
    let start = sum_by (λ v. v.size) known in
    let place : address_of vs v.name ≡ Some (start, v.size) = ap (λ t. address_from 0 t v.name) same ∙ new-address known es 0 v new ∙ ap (λ n. Some (n, v.size)) (zero-add start) in
    let s = standing cells vs 0 v.name start v.size h place in
    let at : start ≡ length s.pre = sym (sym (zero-add (length s.pre)) ∙ s.at) in
    let whole : with_room cells temporaries ≡ s.pre ++ (s.own ++ (s.post ++ temporaries)) =
    ap (λ l. l ++ temporaries) s.whole ∙ append_assoc s.pre (s.own ++ s.post) temporaries ∙ ap (λ l. s.pre ++ l) (append_assoc s.own s.post temporaries) in
    ap (λ l. take v.size (drop start l)) whole ∙ ap (λ n. take v.size (drop n (s.pre ++ (s.own ++ (s.post ++ temporaries))))) at
    ∙ ap (λ n. take n (drop (length s.pre) (s.pre ++ (s.own ++ (s.post ++ temporaries))))) (sym s.size) ∙ between s.pre s.own (s.post ++ temporaries) ∙ sym (ap (λ o. unwrap_or o []) s.found)

abbrev pair : Name → List ℤ → Name × List ℤ
pair name cells = (name, cells)

shown-all : (cells : Cells) (vs known own : List Sized) (temporaries : List ℤ) (start : ℕ) → Laid cells vs → vs ≡ known ++ own → are_new known own ≡ true → start ≡ sum_by (λ v. v.size) known
    → map (λ (v : Placed). pair v.name (take v.size (drop v.start (with_room cells temporaries)))) (placed_from start own) ≡ map (λ (v : Sized). pair v.name (variable_cells cells v.name)) own
shown-all cells vs known [] temporaries start h same e s = refl
shown-all cells vs known (v ∷ own) temporaries start h same e s =
    let memory = with_room cells temporaries in
    let new = not (list_any (λ (u : Sized). bytes_eq u.name v.name) known) in
    let mine = shown-one cells vs known own v temporaries h same (not-true _ (both_left new (are_new (known ++ v ∷ []) own) e)) in
    let more : start + v.size ≡ sum_by (λ v. v.size) (known ++ v ∷ []) = omega (arith, s, sum_by-append (λ (v : Sized). v.size) known (v ∷ [])) in
    let others = shown-all cells vs (known ++ v ∷ []) own temporaries (start + v.size) h (same ∙ sym (append_assoc known (v ∷ []) own)) (both_right new (are_new (known ++ v ∷ []) own) e) more in
    ap (λ n. pair v.name (take v.size (drop n memory)) ∷ map (λ (v : Placed). pair v.name (take v.size (drop v.start memory))) (placed_from (start + v.size) own)) s
    ∙ ap (λ t. pair v.name t ∷ map (λ (v : Placed). pair v.name (take v.size (drop v.start memory))) (placed_from (start + v.size) own)) mine
    ∙ ap (λ t. pair v.name (variable_cells cells v.name) ∷ t) others

-- what follows the first of placed variables
places-behind : (start : ℕ) (known own : List Sized) → drop (length known) (placed_from start (known ++ own)) ≡ placed_from (start + sum_by (λ v. v.size) known) own
places-behind start [] own = let e : start ≡ start + 0 = omega arith in ap (λ n. placed_from n own) e
places-behind start (v ∷ known) own =
    let sums : start + v.size + sum_by (λ u. u.size) known ≡ start + sum_by (λ u. u.size) (v ∷ known) = omega (arith, sum_by-cons (λ (u : Sized). u.size) v known) in
    places-behind (start + v.size) known own ∙ ap (λ n. placed_from n own) sums

-- the variables of a source behind those of its node have new names
abbrev pub HasNewNames : Program → Type 0
HasNewNames program = are_new (node_variables program.project) (declared program) ≡ true

-- both show the same
pub shown-alike : (program : Program) (s : State) (temporaries : List ℤ) → HasNewNames program → Laid s.cells (variables program)
    → cells_at (with_room s.cells temporaries) (own_places (plain_program program)) ≡ declared_cells program s
shown-alike program s temporaries new h =
    let node : List Sized = node_variables program.project in
    let places : own_places (plain_program program) ≡ placed_from (sum_by (λ v. v.size) node) (declared program) =
    places-behind 0 node (declared program) ∙ ap (λ n. placed_from n (declared program)) (zero-add (sum_by (λ v. v.size) node)) in
    ap (cells_at (with_room s.cells temporaries)) places ∙ shown-all s.cells (variables program) node (declared program) temporaries (sum_by (λ (v : Sized). v.size) node) h refl new refl

-- Declarations without a fault

abbrev as_sized : List Const → Decl → Sized
as_sized consts d = record { name = d.name; size = declared_size consts d.size }

-- the same names are known
abbrev SameNames : Scope → List Sized → Type 0
SameNames scope vs = (name : Name) → list_any (λ (k : Known). bytes_eq k.name name) scope.variables ≡ list_any (λ (v : Sized). bytes_eq v.name name) vs

decls-new : (consts : List Const) (scope : Scope) (vs : List Sized) (ds : List Decl) → SameNames scope vs → decls_faults scope ds ≡ [] → are_new vs (map (as_sized consts) ds) ≡ true
decls-new consts scope vs [] same e = refl
decls-new consts scope vs (d ∷ ds) same e =
    let unknown = new-name scope d (nil_left (decl_faults scope d) _ e) in
    let none : list_any (λ (k : Known). bytes_eq k.name d.name) scope.variables ≡ false = sym (find-any (λ (k : Known). bytes_eq k.name d.name) scope.variables) ∙ neither (is_some (variable_of scope d.name)) _ unknown in
    let new : list_any (λ (v : Sized). bytes_eq v.name d.name) vs ≡ false = sym (same d.name) ∙ none in
    let next : SameNames (declaring scope d) (vs ++ as_sized consts d ∷ []) = λ name.
    list_any-append (λ (k : Known). bytes_eq k.name name) scope.variables (record { name = d.name; size = given_size scope d.size } ∷ [])
    ∙ ap (λ b. b || (bytes_eq d.name name || false)) (same name) ∙ sym (list_any-append (λ (v : Sized). bytes_eq v.name name) vs (as_sized consts d ∷ [])) in
    rw (new, decls-new consts (declaring scope d) (vs ++ as_sized consts d ∷ []) ds next (nil_right (decl_faults scope d) _ e)) refl
  where
    neither : (a b : Bool) → (a || b) ≡ false → a ≡ false
    neither true b e = cc
    neither false b e = refl

first-names : (vs : List Sized) (name : Name) → list_any (λ (k : Known). bytes_eq k.name name) (map (λ (v : Sized). record { name = v.name; size = Some v.size }) vs) ≡ list_any (λ (v : Sized). bytes_eq v.name name) vs
first-names [] name = refl
first-names (v ∷ vs) name = ap (λ b. bytes_eq v.name name || b) (first-names vs name)

pub declared-new : (program : Program) → decls_faults (first_scope program.project) program.source.vars ≡ [] → HasNewNames program
declared-new program e = decls-new program.project.consts (first_scope program.project) (node_variables program.project) program.source.vars (first-names (node_variables program.project)) e
