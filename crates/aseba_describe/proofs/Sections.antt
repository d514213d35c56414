-- The text of a project, section by section.
use Rattle.std.proofs.Common.{◌≡◌, ℕ, List, [], ◌++◌, codes, ap, ◌∙◌, sym}
use Rattle.std.specs.List.{flat_map}
use Rattle.std.proofs.lemmas.Grind.{flat_map-append}
use Rattle.std.proofs.lemmas.List.Folds.{flat_map-map}
use Rattle.aseba_tree.specs.declared.description.Sized.{Sized}
use Rattle.aseba_tree.specs.declared.description.Local.{Local}
use Rattle.aseba_tree.specs.declared.description.Native.{Native}
use Rattle.aseba_tree.specs.declared.project.Const.{Const}
use Rattle.aseba_tree.specs.declared.project.Project.{Project}
use Rattle.aseba_describe.specs.declared.entry.Entry.{Entry}
use Rattle.aseba_describe.specs.declared.entry.Entry.TheVariants as entry
use Rattle.aseba_describe.specs.Spelling.{sized_line, local_line, native_line, const_line, node_entries, entry_line, project_text}

joined : (f : Entry → List ℕ) (a b c d e g : List Entry) (v w x y z : List ℕ)
    → flat_map f b ≡ v → flat_map f c ≡ w → flat_map f d ≡ x → flat_map f e ≡ y → flat_map f g ≡ z
    → flat_map f (a ++ b ++ c ++ d ++ e ++ g) ≡ flat_map f a ++ v ++ w ++ x ++ y ++ z
joined f a b c d e g v w x y z p q r s t =
    flat_map-append f (a ++ b ++ c ++ d ++ e) g
    ∙ cc (flat_map-append f (a ++ b ++ c ++ d) e, flat_map-append f (a ++ b ++ c) d, flat_map-append f (a ++ b) c, flat_map-append f a b)

pub sections : (p : Project)
    → project_text p
    ≡ flat_map entry_line (node_entries p)
    ++ flat_map (sized_line (codes "variable ")) p.node.variables
    ++ flat_map local_line p.node.locals
    ++ flat_map native_line p.node.natives
    ++ flat_map (sized_line (codes "event ")) p.events
    ++ flat_map const_line p.consts
sections p =
    joined entry_line (node_entries p) _ _ _ _ _ _ _ _ _ _
    (flat_map-map entry_line (λ v. entry.Variable v) p.node.variables)
    (flat_map-map entry_line (λ l. entry.Local l) p.node.locals)
    (flat_map-map entry_line (λ n. entry.Native n) p.node.natives)
    (flat_map-map entry_line (λ e. entry.Event e) p.events)
    (flat_map-map entry_line (λ c. entry.Const c) p.consts)

-- the text as it is written, section behind section
pub written : (p : Project) (n a b c d e f : List ℕ) (vs : List Sized) (ls : List Local) (ns : List Native) (es : List Sized) (cs : List Const)
    → n ≡ [] → vs ≡ p.node.variables → ls ≡ p.node.locals → ns ≡ p.node.natives → es ≡ p.events → cs ≡ p.consts
    → a ≡ n ++ flat_map entry_line (node_entries p)
    → b ≡ a ++ flat_map (sized_line (codes "variable ")) vs
    → c ≡ b ++ flat_map local_line ls
    → d ≡ c ++ flat_map native_line ns
    → e ≡ d ++ flat_map (sized_line (codes "event ")) es
    → f ≡ e ++ flat_map const_line cs
    → f ≡ project_text p
written p n a b c d e f vs ls ns es cs g q r s t u h i j k l m =
    along _ _ _ _ _ _ _ _ _ _ _ _ _ g h
    (i ∙ ap (λ x. a ++ flat_map (sized_line (codes "variable ")) x) q)
    (j ∙ ap (λ x. b ++ flat_map local_line x) r)
    (k ∙ ap (λ x. c ++ flat_map native_line x) s)
    (l ∙ ap (λ x. d ++ flat_map (sized_line (codes "event ")) x) t)
    (m ∙ ap (λ x. e ++ flat_map const_line x) u)
    ∙ sym (sections p)
  where
    along : (n a b c d e f u v w x y z : List ℕ)
        → n ≡ [] → a ≡ n ++ u → b ≡ a ++ v → c ≡ b ++ w → d ≡ c ++ x → e ≡ d ++ y → f ≡ e ++ z → f ≡ u ++ v ++ w ++ x ++ y ++ z
    along n a b c d e f u v w x y z g h i j k l m = cc
