-- The natives of a project that a machine can be made for are known.
use Rattle.std.proofs.Common.{◌≡◌, refl, sym, ◌∙◌, ap, ℕ, zero, suc, ℤ, List, [], ◌∷◌, map, length, take, Option, Some, option_map, unwrap_or, slice_get, subst, Bool, true, false}
use Rattle.std.specs.Prelude.{MatchBool}
use Rattle.std.proofs.lemmas.List.{take-map}
use Rattle.std.proofs.lemmas.Option.{slice_get-map}
use Rattle.aseba_words.specs.Natives.{natives, sizes}
use Rattle.aseba_tree.specs.Code as tree
use Rattle.aseba_tree.specs.Code.{Name}
use Rattle.aseba_tree.specs.Lines.{SourceCallsKnown, source_moments}
use Rattle.aseba_tree.specs.Run.{CallsKnown, Moment}
use Rattle.aseba_tree.specs.Script.{Script}
use Rattle.aseba_tree.specs.Soundness.{Sound}
use Rattle.aseba_tree.specs.State.{Program}
use Rattle.aseba_tree.specs.Step.{native_place, native_sizes, IsKnown}
use Rattle.aseba_tree.specs.View.{native_view, param_view, project_view}
use Rattle.aseba_tree.specs.declared.description.Native.{Native}
use Rattle.aseba_tree.specs.declared.description.Param.{Param}
use Rattle.aseba_tree.specs.declared.project.Project.{Project}
use Rattle.aseba_describe.specs.Defaults.{default_project}
use Rattle.aseba_tools.specs.ProjectWord.{Heading, AreFirst, IsFileProject, IsProject, headings, is_default, known_natives}
use Rattle.aseba_tools.specs.declared.project.Allowed.{Allowed}
use Rattle.aseba_tools.specs.declared.project.Allowed.TheVariants.{KnownNatives}
use Rattle.aseba_tools.proofs.CallsMade.{calls-made}
use Rattle.aseba_tools.proofs.CallsThere.{IsThere, sound-calls}

abbrev sizes_of : tree.Native → List ℤ
sizes_of native = map (λ p. p.size) native.params

same-params : (ps : List Param) → map (λ (p : tree.Param). p.size) (map param_view ps) ≡ map (λ (p : Param). p.size) ps
same-params [] = refl
same-params (p ∷ ps) = ap (λ rest. p.size ∷ rest) (same-params ps)

same-sizes : (ns : List Native) → map sizes_of (map native_view ns) ≡ map (λ (h : Heading). h.sizes) (headings ns)
same-sizes [] = refl
same-sizes (n ∷ ns) = λ i. same-params n.params i ∷ same-sizes ns i

-- they take what the first of the machine's natives take
first-sizes : (ns : List Native) → AreFirst ns known_natives → map sizes_of (map native_view ns) ≡ take (length ns) (map sizes natives)
first-sizes ns first =
    let known : map (λ (h : Heading). h.sizes) (headings known_natives) ≡ map sizes natives = refl in
    same-sizes ns ∙ ap (map (λ (h : Heading). h.sizes)) first ∙ sym (take-map (λ (h : Heading). h.sizes) (length ns) (headings known_natives)) ∙ ap (take (length ns)) known

in-front : {X : Type 0} (n k : ℕ) (xs : List X) (x : X) → slice_get (take n xs) k ≡ Some x → slice_get xs k ≡ Some x
in-front zero k xs x e = cc
in-front (suc n) k [] x e = e
in-front (suc n) zero (y ∷ ys) x e = e
in-front (suc n) (suc k) (y ∷ ys) x e = in-front n k ys x e

pub is-known : (project : Project) → AreFirst project.node.natives known_natives → (name : Name) → IsThere (project_view project) name → IsKnown (project_view project) name
is-known project first name there =
    let ns : List tree.Native = (project_view project).node.natives in
    let place = native_place (project_view project) name in
    let own : slice_get (map sizes_of ns) place ≡ Some (sizes_of there.native) = slice_get-map sizes_of ns place ∙ ap (option_map sizes_of) there.found in
    let known : slice_get (map sizes natives) place ≡ Some (sizes_of there.native) =
    in-front (length project.node.natives) place (map sizes natives) (sizes_of there.native) (ap (λ xs. slice_get xs place) (sym (first-sizes project.node.natives first)) ∙ own) in
    let taken : native_sizes (project_view project) name ≡ sizes_of there.native = ap (λ o. unwrap_or (option_map sizes_of o) []) there.found in
    sym (slice_get-map sizes natives place) ∙ known ∙ ap Some (sym taken)

-- they are of each project that a word names for a machine
file-first : (allowed : Allowed) → allowed ≡ KnownNatives → (held : Option (Option (List ℕ))) (project : Project) (b : Bool) → MatchBool b (project ≡ default_project) (IsFileProject allowed held project) → AreFirst project.node.natives known_natives
file-first allowed known held project true is = subst (λ (p : Project). AreFirst p.node.natives known_natives) (sym is) refl
file-first allowed known held project false is = is.of_text.natives known

pub project-first : (allowed : Allowed) → allowed ≡ KnownNatives → (word : List ℕ) (held : Option (Option (List ℕ))) (project : Project) → IsProject allowed word held project → AreFirst project.node.natives known_natives
project-first allowed known word held project is = file-first allowed known held project (is_default word) is

-- all natives that a run of a sound source calls are known
known-more : (P Q : Name → Type 0) (ticks : List Moment) → ((name : Name) → P name → Q name) → CallsKnown P ticks → CallsKnown Q ticks
known-more P Q ticks f h = λ k d below name e. f name (h k d below name e)

pub runs-known : (project : Project) → AreFirst project.node.natives known_natives → (source : tree.Source) → Sound (record { project = project_view project; source = source })
    → (script : Script) (beats : List Bool) → SourceCallsKnown (record { project = project_view project; source = source }) script beats
runs-known project first source sound script beats =
    let program : Program = record { project = project_view project; source = source } in
    known-more (IsThere program.project) (IsKnown program.project) (source_moments program script beats) (is-known project first)
    (calls-made (IsThere program.project) program (sound-calls program sound) script beats)
