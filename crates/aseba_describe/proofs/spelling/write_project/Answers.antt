use Rattle.std.proofs.Common.{◌∙◌, subst, sym}
use Rattle.aseba_describe.specs.Grammar.{ProjectText}
use Rattle.aseba_describe.proofs.Sections.{written}
use Rattle.aseba_describe.proofs.Written.{written_again}
use Rattle.aseba_describe.proofs.spelling.write_project.Goals as goal

pub returns-clause-written : goal.returns-clause-written
returns-clause-written c =
    c.into_bytes.ensures ∙ written c.args.project.now _ _ _ _ _ _ _ _ _ _ _ _ c.new-out.ensures
    c.as_slice.ensures c.as_slice-2.ensures c.as_slice-3.ensures c.as_slice-4.ensures c.as_slice-5.ensures
    c.in_ok-put_node.ensures c.in_ok-put_all_sized.ensures c.in_ok-put_locals.ensures c.in_ok-put_natives.ensures c.in_ok-put_all_sized-2.ensures c.in_ok-put_consts.ensures

pub returns-clause-read : goal.returns-clause-read
returns-clause-read c =
    subst (λ t. ProjectText t c.args.project.now) (sym (returns-clause-written c)) (written_again c.args.project.now c.requires)
