use Rattle.std.proofs.Common.{◌≡◌, ◌∙◌, ◌+◌, ap, sym, ℕ, List, ◌∷◌, drop, map, Option, drop-cons, add-one, suc, subst, ◌++◌, [], option_map, append_assoc}
use Rattle.aseba_tree.specs.declared.decl.Decl.{Decl}
use Rattle.aseba_tree.specs.View.{expr_view, decl_view}
use Rattle.aseba_check.specs.declared.fault.Fault.{Fault}
use Rattle.aseba_tree.specs.Each.{EachDecl}
use Rattle.aseba_check.specs.Fits.{Fits}
use Rattle.aseba_check.specs.Looked.{looked}
use Rattle.aseba_check.specs.Declarations.{Names, given_size, size_facts, declaring, with_decl, all_declaring, decls_told, decl_sizes}
use Rattle.aseba_check.proofs.declarations.declarations_fault.Goals as goal

names-step : (n m o : Names) (d : Decl) (here rest : List Decl) → here ≡ d ∷ rest → m ≡ declaring n (decl_view d) → all_declaring n (map decl_view here) ≡ o → all_declaring m (map decl_view rest) ≡ o
names-step n m o d here rest e f h = ap (λ (k : Names). all_declaring k (map decl_view rest)) f ∙ (sym (ap (λ (l : List Decl). all_declaring n (map decl_view l)) e) ∙ h)

told-step : (n m : Names) (a b x : Option Fault) (d : Decl) (here rest : List Decl) → here ≡ d ∷ rest → m ≡ declaring n (decl_view d) → b ≡ with_decl n a (decl_view d) → decls_told n a (map decl_view here) ≡ x → decls_told m b (map decl_view rest) ≡ x
told-step n m a b x d here rest e f g h =
    ap (λ (k : Names). decls_told k b (map decl_view rest)) f ∙ (ap (λ (o : Option Fault). decls_told (declaring n (decl_view d)) o (map decl_view rest)) g
    ∙ (sym (ap (λ (l : List Decl). decls_told n a (map decl_view l)) e) ∙ h))

sizes-step : (n m : Names) (a b x : List (Option ℕ)) (d : Decl) (here rest : List Decl) → here ≡ d ∷ rest → m ≡ declaring n (decl_view d) → b ≡ a ++ given_size (size_facts n (option_map expr_view d.size)) ∷ []
    → a ++ decl_sizes n (map decl_view here) ≡ x → b ++ decl_sizes m (map decl_view rest) ≡ x
sizes-step n m a b x d here rest e f g h =
    ap (λ (l : List (Option ℕ)). l ++ decl_sizes m (map decl_view rest)) g
    ∙ (append_assoc a (given_size (size_facts n (option_map expr_view d.size)) ∷ []) (decl_sizes m (map decl_view rest))
    ∙ (ap (λ (k : Names). a ++ given_size (size_facts n (option_map expr_view d.size)) ∷ decl_sizes k (map decl_view rest)) f
    ∙ (sym (ap (λ (l : List Decl). a ++ decl_sizes n (map decl_view l)) e) ∙ h)))

pub loop-decl-preserved : goal.loop-decl-preserved
loop-decl-preserved c =
    let i = c.loop-decl.decl-index in
    let vars = c.args.vars.now in
    let d = c.decl-item.result in
    let here : drop i vars ≡ d ∷ drop (i + 1) vars = rw add-one (drop-cons vars i d c.loop-decl-test.true ∙ ap (λ (x : Decl). x ∷ drop (suc i) vars) (sym c.decl-item.is)) in
    record {
      names = names-step (looked c.loop-decl.names) (looked c.take_declaration.new.names) _ d (drop i vars) (drop (i + 1) vars) here c.in_ok-fault.ensures.names c.loop-decl.invariant.names;
      told = told-step (looked c.loop-decl.names) (looked c.take_declaration.new.names) c.loop-decl.fault c.in_ok-fault.fault _ d (drop i vars) (drop (i + 1) vars) here c.in_ok-fault.ensures.names c.in_ok-fault.ensures.fault c.loop-decl.invariant.told;
      sizes = sizes-step (looked c.loop-decl.names) (looked c.take_declaration.new.names) c.loop-decl.sizes c.take_declaration.new.sizes _ d (drop i vars) (drop (i + 1) vars) here c.in_ok-fault.ensures.names c.in_ok-fault.ensures.sizes c.loop-decl.invariant.sizes;
      fits = λ h. c.loop-decl.invariant.fits (subst (λ (l : List Decl). EachDecl Fits (map decl_view l)) (sym here) (c.in_ok-fault.ensures.fits.0, c.in_ok-fault.ensures.fits.1, h));
    }
