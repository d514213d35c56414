use Rattle.std.proofs.Common.{◌≡◌, ◌++◌, None, drop, map}
use Rattle.aseba_tree.specs.View.{decl_view}
use Rattle.aseba_tree.specs.Each.{EachDecl}
use Rattle.aseba_check.specs.Fits.{Fits}
use Rattle.aseba_check.specs.Looked.{looked}
use Rattle.aseba_check.specs.Declarations.{all_declaring, decls_told, decl_sizes}
use Rattle.aseba_check.proofs.declarations.declarations_fault.Given as goal

abbrev pub invariant-loop-decl : goal.invariant-loop-decl
invariant-loop-decl l = record {
  names : all_declaring (looked l.names) (map decl_view (drop l.decl-index l.vars)) ≡ all_declaring (looked l.fn.names) (map decl_view l.vars);
  told : decls_told (looked l.names) l.fault (map decl_view (drop l.decl-index l.vars)) ≡ decls_told (looked l.fn.names) None (map decl_view l.vars);
  sizes : l.sizes ++ decl_sizes (looked l.names) (map decl_view (drop l.decl-index l.vars)) ≡ l.fn.sizes ++ decl_sizes (looked l.fn.names) (map decl_view l.vars);
  fits : EachDecl Fits (map decl_view (drop l.decl-index l.vars)) → EachDecl Fits (map decl_view l.vars);
}
