use Rattle.std.proofs.Common.{◌≡◌, ◌∙◌, ◌++◌, ap, subst, List, None, Option, map}
use Rattle.aseba_tree.specs.declared.decl.Decl.{Decl}
use Rattle.aseba_tree.specs.declared.source.Handler.{Handler}
use Rattle.aseba_tree.specs.View.{decl_view, handler_view, source_view}
use Rattle.aseba_check.specs.declared.fault.Fault.{Fault}
use Rattle.aseba_tree.specs.Each.{EachDecl, EachPartOf}
use Rattle.aseba_check.specs.Fits.{Fits}
use Rattle.aseba_check.specs.Looked.{looked, nothing}
use Rattle.aseba_check.specs.Declarations.{Names, all_declaring, decls_told, decl_sizes}
use Rattle.aseba_check.specs.Statements.{Known, known_of, stmts_told}
use Rattle.aseba_check.specs.Parts.{parts_told}
use Rattle.aseba_check.specs.Walk.{first_names, known_in, known_to}
use Rattle.aseba_check.proofs.Answering.{ok-is, on-ok}
use Rattle.aseba_check.proofs.rules.rules_fault.Goals as goal

pub returns-clause-told : goal.returns-clause-told
returns-clause-told c =
    let project = c.args.project.now in
    let source = source_view c.args.source.now in
    let sliced = map decl_view c.as_slice.result.now in
    let names : looked c.declarations_fault.new.names ≡ all_declaring (first_names project) source.vars =
    c.in_ok-fault.ensures.names ∙ (ap (λ (n : Names). all_declaring n sliced) c.in_ok-names.ensures.names ∙ ap (λ (l : List Decl). all_declaring (first_names project) (map decl_view l)) c.as_slice.ensures) in
    let known : known_of c.in_ok-world.world ≡ known_to project source =
    c.in_ok-world.ensures ∙ (ap (λ (n : Names). known_in project (map handler_view c.as_slice-2.result.now) n) names
    ∙ ap (λ (l : List Handler). known_in project (map handler_view l) (all_declaring (first_names project) source.vars)) c.as_slice-2.ensures) in
    let first : c.in_ok-fault.fault ≡ decls_told (first_names project) None source.vars =
    c.in_ok-fault.ensures.fault ∙ (ap (λ (n : Names). decls_told n None sliced) c.in_ok-names.ensures.names ∙ ap (λ (l : List Decl). decls_told (first_names project) None (map decl_view l)) c.as_slice.ensures) in
    let second : c.in_ok-fault-2.fault ≡ stmts_told (known_to project source) (decls_told (first_names project) None source.vars) source.init =
    c.in_ok-fault-2.ensures.told ∙ (ap (λ (k : Known). stmts_told k c.in_ok-fault.fault source.init) known ∙ ap (λ (o : Option Fault). stmts_told (known_to project source) o source.init) first) in
    ok-is c.parts_fault.result _ _ c.parts_fault.ensures.told
    (ap (λ (k : Known). parts_told k nothing nothing c.in_ok-fault-2.fault (map handler_view c.as_slice-3.result.now)) known
    ∙ (ap (λ (o : Option Fault). parts_told (known_to project source) nothing nothing o (map handler_view c.as_slice-3.result.now)) second
    ∙ ap (λ (l : List Handler). parts_told (known_to project source) nothing nothing (stmts_told (known_to project source) (decls_told (first_names project) None source.vars) source.init) (map handler_view l)) c.as_slice-3.ensures))

pub returns-clause-fits : goal.returns-clause-fits
returns-clause-fits c =
    on-ok c.parts_fault.result _ _ c.parts_fault.ensures.fits (λ h. record {
      consts = c.in_ok-names.ensures.fits;
      vars = subst (λ (l : List Decl). EachDecl Fits (map decl_view l)) c.as_slice.ensures c.in_ok-fault.ensures.fits;
      init = c.in_ok-fault-2.ensures.fits;
      parts = subst (λ (l : List Handler). EachPartOf Fits (map handler_view l)) c.as_slice-3.ensures h;
    })

pub returns-clause-sizes : goal.returns-clause-sizes
returns-clause-sizes c =
    let source = source_view c.args.source.now in
    on-ok c.parts_fault.result _ _ c.parts_fault.ensures.fits (λ h. c.in_ok-fault.ensures.sizes
    ∙ (ap (λ (n : Names). c.args.sizes.now ++ decl_sizes n (map decl_view c.as_slice.result.now)) c.in_ok-names.ensures.names
    ∙ ap (λ (l : List Decl). c.args.sizes.now ++ decl_sizes (first_names c.args.project.now) (map decl_view l)) c.as_slice.ensures))
