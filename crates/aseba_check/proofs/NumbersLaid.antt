-- Behind the declarations of a source without a fault, names mean its variables as they are laid out.
use Rattle.std.proofs.Common.{◌≡◌, refl, sym, ◌∙◌, ap, subst, ℕ, ◌+◌, ◌≤◌, Bool, true, false, List, [], ◌∷◌, ◌++◌, map, Option, Some, None, arith, append_assoc}
use Rattle.std.proofs.lemmas.List.{append-nil}
use Rattle.std.proofs.lemmas.List.Elements.{recursion_from_All}
use Rattle.std.proofs.lemmas.List.Folds.{find-append}
use Rattle.std.proofs.lemmas.List.Sums.{sum_by-append}
use Rattle.std.proofs.lemmas.Bool.{lt-ltb}
use Rattle.std.specs.Prelude.{nat_lt, nat_le, ◌&&◌, IfSome, bytes_eq, find, flat_map, sum_by, option_map, option_and_then}
use Rattle.std.specs.List.{list_all, AllByRecursion}
use Rattle.std.specs.Option.{option_or}
use Rattle.aseba_tree.specs.declared.description.Sized as code_sized
use Rattle.aseba_tree.specs.declared.project.Project as code_project
use Rattle.aseba_tree.specs.Code.{Name, Source, Sized, no_stmts, Expr}
use Rattle.aseba_tree.specs.State.{Program, declared as declared_variables}
use Rattle.aseba_tree.specs.View.{sized_view, native_view, project_view, placed_view}
use Rattle.aseba_tree.specs.Sizes.{Known, Scope, constant_of}
use Rattle.aseba_tree.specs.Faults as tree
use Rattle.aseba_tree.specs.Inside.{InsideSized, InsideProject}
use Rattle.aseba_tree.specs.Layout.{variables, cells_of_variables, placed_from, layout}
use Rattle.aseba_tree.specs.Layout as tree_layout
use Rattle.aseba_tree.specs.Shape.{is_filled, list_depth, expr_count, decl_exprs, stmts_exprs, source_exprs, IsTree}
use Rattle.aseba_tree.specs.Soundness.{Sound}
use Rattle.aseba_tree.proofs.SizeLaws.{EachKnown}
use Rattle.aseba_tree.proofs.SoundProofs.{sound_is_faultless, sound_variables, all_left}
use Rattle.aseba_tree.proofs.ConstantLaws.{known, same_consts, sound_is_laid_out}
use Rattle.aseba_tree.proofs.ElementLaws.{laid_scope}
use Rattle.aseba_tree.specs.declared.placed.Placed.{Placed}
use Rattle.aseba_check.specs.Declarations.{Names, declared}
use Rattle.aseba_check.specs.Walk.{first_names}
use Rattle.aseba_check.specs.CountedPlaces.{with_places, SizesFit, known_at, NumbersFit}
use Rattle.aseba_check.proofs.ExprTies.{Describes, meaning_of}
use Rattle.aseba_check.proofs.DeclTies.{added, declared-describes}
use Rattle.aseba_check.proofs.WorldTies.{first-describes, native-found, found-view}
use Rattle.aseba_check.proofs.NumbersStatements.{Ready}

-- The declarations alone

-- the declarations of a program alone, in a node without limits
abbrev pub declaring_alone : Program → Program
declaring_alone program = record {
  project = record program.project { node = record program.project.node { code = 0; cells = cells_of_variables program } };
  source = record { vars = program.source.vars; init = no_stmts; parts = [] };
}

abbrev Shallow : Expr → Bool
Shallow e = nat_le (list_depth e) 64

shallow-left : (es fs : List Expr) → list_all Shallow (es ++ fs) ≡ true → list_all Shallow es ≡ true
shallow-left [] fs h = refl
shallow-left (e ∷ es) fs h = joined (Shallow e) (list_all Shallow (es ++ fs)) (list_all Shallow es) h (shallow-left es fs)
  where
    joined : (a b c : Bool) → (a && b) ≡ true → (b ≡ true → c ≡ true) → (a && c) ≡ true
    joined true b c p q = q p
    joined false b c p q = p

alone-tree : (source : Source) → IsTree source → IsTree (record { vars = source.vars; init = no_stmts; parts = [] })
alone-tree source t =
    let rest = stmts_exprs source.init ++ flat_map (λ h. stmts_exprs h.body) source.parts in
    let same : source_exprs source ≡ flat_map decl_exprs source.vars ++ rest = append_assoc (flat_map decl_exprs source.vars) (stmts_exprs source.init) (flat_map (λ h. stmts_exprs h.body) source.parts) in
    let split = sum_by-append expr_count (flat_map decl_exprs source.vars) rest in
    let all = ap (sum_by expr_count) same in
    let own : sum_by expr_count ((flat_map decl_exprs source.vars ++ []) ++ []) ≡ sum_by expr_count (flat_map decl_exprs source.vars) = ap (sum_by expr_count) (append-nil (flat_map decl_exprs source.vars ++ []) ∙ append-nil (flat_map decl_exprs source.vars)) in
    let whole = t.is_small in
    record {
      is_small = omega (arith, split, all, own, whole);
      is_filled = subst (λ (es : List Expr). list_all is_filled es ≡ true) (sym (append-nil (flat_map decl_exprs source.vars ++ []) ∙ append-nil (flat_map decl_exprs source.vars)))
          (all_left (flat_map decl_exprs source.vars) rest (subst (λ (es : List Expr). list_all is_filled es ≡ true) same t.is_filled));
      is_shallow = subst (λ (es : List Expr). list_all Shallow es ≡ true) (sym (append-nil (flat_map decl_exprs source.vars ++ []) ∙ append-nil (flat_map decl_exprs source.vars)))
          (shallow-left (flat_map decl_exprs source.vars) rest (subst (λ (es : List Expr). list_all Shallow es ≡ true) same t.is_shallow));
      has_operators = refl;
    }

alone-sound : (program : Program) → tree.decls_faults (tree.first_scope program.project) program.source.vars ≡ [] → Sound (declaring_alone program)
alone-sound program none =
    let faults = tree.decls_faults (tree.first_scope program.project) program.source.vars in
    (sound_is_faultless (declaring_alone program)).1 (append-nil ((faults ++ []) ++ []) ∙ append-nil (faults ++ []) ∙ append-nil faults ∙ none, omega arith, λ large. cc)

pub positive : (vs : List code_sized.Sized) → AllByRecursion (InsideSized 1 4096) vs → list_all (λ v. nat_lt 0 v.size) (map sized_view vs) ≡ true
positive [] h = refl
positive (v ∷ vs) h = joined (nat_lt 0 v.size) _ (let one = h.0.size.0 in lt-ltb 0 v.size (omega arith)) (positive vs h.1)
  where
    joined : (a b : Bool) → a ≡ true → b ≡ true → (a && b) ≡ true
    joined true b p q = q
    joined false b p q = p

-- what is known behind the declarations is how the variables are laid out, and each of them has a cell
pub record Laid (program : Program) : Type 0 where
  pub scope : (tree.world_of program).scope ≡ laid_scope program
  pub cells : EachKnown (laid_scope program).variables

pub laid : (program : Program) → IsTree program.source → list_all (λ v. nat_lt 0 v.size) program.project.node.variables ≡ true → tree.decls_faults (tree.first_scope program.project) program.source.vars ≡ [] → Laid program
laid program t node none =
    let sound = alone-sound program none in
    let tree-alone = alone-tree program.source t in
    let is = sound_is_laid_out (declaring_alone program) tree-alone node sound in
    record {
      scope = λ i. record { consts = same_consts (tree.first_scope program.project) program.source.vars i; variables = is i };
      cells = subst EachKnown is (sound_variables (declaring_alone program) tree-alone node sound).1;
    }

-- The places of the variables

abbrev placed_known : Placed → Known
placed_known p = record { name = p.name; size = Some p.size }

abbrev with_known : Scope → List Placed → Scope
with_known scope ps = record scope { variables = scope.variables ++ map placed_known ps }

places-describe : (names : Names) (scope : Scope) → Describes names scope → (ps : List Placed) → SizesFit ps → Describes (with_places names ps) (with_known scope ps)
places-describe names scope w [] h = subst (λ (ks : List Known). Describes names (record scope { variables = ks })) (sym (append-nil scope.variables)) w
places-describe names scope w (p ∷ ps) h =
    subst (λ (ks : List Known). Describes (with_places (declared names p.name (Some p.size)) ps) (record scope { variables = ks })) (append_assoc scope.variables (placed_known p ∷ []) (map placed_known ps))
    (places-describe (declared names p.name (Some p.size)) (added scope p.name (Some p.size)) (declared-describes names scope w p.name (Some p.size) (let k = h.0 in omega arith)) ps h.1)

-- what is known of variables that lie one behind the other
behind-known : (start : ℕ) (vs : List Sized) → map (λ (p : tree_layout.Placed). record { name = p.name; size = Some p.size }) (placed_from start vs) ≡ map known vs
behind-known start [] = refl
behind-known start (v ∷ vs) = ap (λ ks. known v ∷ ks) (behind-known (start + v.size) vs)

view-known : (ps : List Placed) → map placed_known ps ≡ map (λ (p : tree_layout.Placed). record { name = p.name; size = Some p.size }) (map placed_view ps)
view-known [] = refl
view-known (p ∷ ps) = ap (λ ks. placed_known p ∷ ks) (view-known ps)

pub placed-known : (program : Program) (ps : List Placed) → map placed_view ps ≡ layout program → map placed_known ps ≡ map known (variables program)
placed-known program ps e = view-known ps ∙ ap (map (λ (p : tree_layout.Placed). record { name = p.name; size = Some p.size })) e ∙ behind-known 0 (variables program)

-- a variable that stands twice is the first of both
or-again : (a b : Option Known) → option_or a (option_or a b) ≡ option_or a b
or-again None b = refl
or-again (Some k) b = refl

found-again : (xs ys : List Known) (name : Name) → find (λ v. bytes_eq v.name name) (xs ++ (xs ++ ys)) ≡ find (λ v. bytes_eq v.name name) (xs ++ ys)
found-again xs ys name =
    let is-it : Known → Bool = λ v. bytes_eq v.name name in
    find-append is-it xs (xs ++ ys) ∙ ap (option_or (find is-it xs)) (find-append is-it xs ys) ∙ or-again (find is-it xs) (find is-it ys) ∙ sym (find-append is-it xs ys)

same-names : (names : Names) (scope : Scope) (ks : List Known) → Describes names scope → ((name : Name) → find (λ v. bytes_eq v.name name) scope.variables ≡ find (λ v. bytes_eq v.name name) ks) → Describes names (record scope { variables = ks })
same-names names scope ks w e = record {
  means = λ name. w.means name ∙ ap (λ v. meaning_of v (constant_of scope name)) (e name);
  bounded = record {
    numbers = w.bounded.numbers;
    sizes = λ name. subst (λ (v : Option Known). IfSome (option_and_then (λ k. k.size) v) (λ n. n ≤ 65536)) (e name) (w.bounded.sizes name);
  };
}

map-append : (xs ys : List Sized) → map known (xs ++ ys) ≡ map known xs ++ map known ys
map-append [] ys = refl
map-append (x ∷ xs) ys = ap (λ ks. known x ∷ ks) (map-append xs ys)

-- where each variable has the place of the layout, names mean the variables as they are laid out
pub placed-describe : (project : code_project.Project) (source : Source) → InsideProject project → (ps : List Placed) → NumbersFit project ps → map placed_view ps ≡ layout (record { project = project_view project; source = source })
    → Describes (with_places (first_names project) ps) (laid_scope (record { project = project_view project; source = source }))
placed-describe project source i ps fit e =
    let program : Program = record { project = project_view project; source = source } in
    let first = tree.first_scope (project_view project) in
    let node = (project_view project).node.variables in
    let all = placed-known program ps e ∙ map-append node (declared_variables program) in
    same-names (with_places (first_names project) ps) (with_known first ps) (map known (variables program)) (places-describe (first_names project) first (first-describes project fit.consts i) ps fit.sizes)
    (λ name. ap (λ ks. find (λ v. bytes_eq v.name name) (map known node ++ ks)) all ∙ found-again (map known node) (map known (declared_variables program)) name
    ∙ ap (find (λ v. bytes_eq v.name name)) (sym (map-append node (declared_variables program))))

pub ready : (project : code_project.Project) (source : Source) → InsideProject project → IsTree source → tree.decls_faults (tree.first_scope (project_view project)) source.vars ≡ [] → (ps : List Placed) → NumbersFit project ps
    → map placed_view ps ≡ layout (record { project = project_view project; source = source }) → Ready (record { project = project_view project; source = source }) (known_at project source.parts ps)
ready project source i t none ps fit e = record {
  names = placed-describe project source i ps fit e;
  cells = (laid (record { project = project_view project; source = source }) t (positive project.node.variables (recursion_from_All (InsideSized 1 4096) project.node.variables i.node.variables.each.each)) none).cells;
  native = λ name. ap (λ o. option_map native_view o) (native-found project.node.natives name) ∙ found-view project.node.natives name;
}
