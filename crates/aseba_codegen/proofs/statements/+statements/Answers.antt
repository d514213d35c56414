use Rattle.std.proofs.Common.{◌∙◌}
use Rattle.aseba_tree.specs.View.{project_view}
use Rattle.aseba_codegen.specs.Words.{site_of}
use Rattle.aseba_codegen.proofs.FormAnswers.{if-form, loop-form}
use Rattle.aseba_codegen.proofs.statements.+statements.Goals as goal

pub add_form-returns-in_ok-rest-in-If : goal.add_form-returns-in_ok-rest-in-If
add_form-returns-in_ok-rest-in-If t c =
    if-form c.add_if.result c.add_if.new.code c.args.code.now (site_of (project_view c.args.project.now) c.args.starts.now c.args.in_sub) c.args.line c.args.form.now c.in-If.test c.in-If.body c.in-If.other
    c.get-in-If.result.now c.as_slice.result.now c.has_any.result c.as_slice-in-If.result.now
    c.in-If.is c.get-in-If.ensures (c.as_slice.ensures ∙ c.in_ok-then-in-If.ensures) c.has_any.ensures (c.as_slice-in-If.ensures ∙ c.in_ok-rest-in-If.ensures) c.add_if.ensures

pub add_form-returns-in_ok-then-in-While : goal.add_form-returns-in_ok-then-in-While
add_form-returns-in_ok-then-in-While t c =
    loop-form c.add_loop.result c.add_loop.new.code c.args.code.now (site_of (project_view c.args.project.now) c.args.starts.now c.args.in_sub) c.args.line c.args.form.now c.in-While.test c.in-While.body
    c.get-in-While.result.now c.as_slice-in-While.result.now
    c.in-While.is c.get-in-While.ensures (c.as_slice-in-While.ensures ∙ c.in_ok-then-in-While.ensures) c.add_loop.ensures
