use Rattle.std.proofs.Common.{sym, ◌∙◌, ap, map}
use Rattle.std.specs.List.{list_all}
use Rattle.aseba_tree.specs.Value.{is_cell}
use Rattle.aseba_tree.specs.View.{const_view, core_view}
use Rattle.aseba_expand.proofs.ProjectLaws.{expanded, has-room, room-fits, of-both}
use Rattle.aseba_expand.proofs.expansion.expand_counted.Goals as goal

pub plain_form-requires-clause-room : goal.plain_form-requires-clause-room
plain_form-requires-clause-room c =
    room-fits c.args.project.now c.args.checked.now c.args.numbers c.requires.checked c.requires.numbers (of-both c.args.checked.now.cells c.args.project.now.node.cells c.args.numbers.room c.from.result c.from-have.result c.from.ensures c.from-have.ensures c.if-have-need.false)

pub returns-clause-core : goal.returns-clause-core
returns-clause-core c =
    let project = c.args.project.now in
    let checked = c.args.checked.now in
    let consts = sym (ap (λ cs. list_all (λ c. is_cell c.value) (map const_view cs)) c.as_slice.ensures) ∙ c.read_consts.ensures in
    let room = has-room project checked c.args.numbers c.requires.checked c.requires.numbers (of-both c.args.checked.now.cells c.args.project.now.node.cells c.args.numbers.room c.from.result c.from-have.result c.from.ensures c.from-have.ensures c.if-have-need.false) in
    expanded project checked c.requires.checked c.read_numbers.ensures consts room (core_view c.in_ok-plain_form.field-0) c.in_ok-plain_form.ensures
