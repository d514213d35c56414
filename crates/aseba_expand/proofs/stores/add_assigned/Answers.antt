use Rattle.std.proofs.Common.{◌∙◌, ap, subst, ◌+◌, ◌-◌, ◌≤◌, ◌++◌, map, arith}
use Rattle.std.specs.List.{range_with_len}
use Rattle.aseba_tree.specs.declared.stmt.Part.{Part}
use Rattle.aseba_tree.specs.Elements.{target_index}
use Rattle.aseba_tree.specs.Layout.{cells_of_variables}
use Rattle.aseba_tree.specs.Numbers.{assigned_room}
use Rattle.aseba_tree.specs.View.{core_expr_view, core_stmt_view, expr_view, part_view}
use Rattle.aseba_expand.specs.Listed.{listed_in}
use Rattle.aseba_expand.specs.Plain.{bound, start_of}
use Rattle.aseba_expand.specs.Scope.{program_of}
use Rattle.aseba_expand.proofs.Stored.{room-left, addresses-from, on-ok}
use Rattle.aseba_expand.proofs.stores.add_assigned.Goals as goal

pub add_into-requires-clause-temporaries : goal.add_into-requires-clause-temporaries
add_into-requires-clause-temporaries c =
    let program = program_of c.args.scope.now in
    let room = subst (λ (p : Part). cells_of_variables program + assigned_room (target_index program (part_view p)) (map core_expr_view c.args.elements) ≤ 65535) c.in-All.is c.requires.room in
    room-left core_expr_view (cells_of_variables program) c.args.scope.now.cells c.args.elements c.requires.names.first_temporary c.requires.names.few_cells room

pub add_into-requires-clause-moved : goal.add_into-requires-clause-moved
add_into-requires-clause-moved c = omega (arith, c.requires.names.few_cells, c.known_place-place.ensures.short)

pub add_into-requires-in-Span-clause-temporaries : goal.add_into-requires-in-Span-clause-temporaries
add_into-requires-in-Span-clause-temporaries c =
    let program = program_of c.args.scope.now in
    let room = subst (λ (p : Part). cells_of_variables program + assigned_room (target_index program (part_view p)) (map core_expr_view c.args.elements) ≤ 65535) c.in-Span.is c.requires.room in
    room-left core_expr_view (cells_of_variables program) c.args.scope.now.cells c.args.elements c.requires.names.first_temporary c.requires.names.few_cells room

pub add_into-requires-in-Span-clause-moved : goal.add_into-requires-in-Span-clause-moved
add_into-requires-in-Span-clause-moved c = omega (arith, c.requires.names.few_cells, c.span-cells.ensures.ends)

pub returns-in-Span : goal.returns-in-Span
returns-in-Span c =
    let program = program_of c.args.scope.now in
    let name = c.args.name.now in
    let first = bound program (expr_view c.in-Span.first) in
    let last = bound program (expr_view c.in-Span.last) in
    let start = c.span-cells.ensures.start ∙ ap (λ e. start_of program name + bound program (expr_view e)) c.get-in-Span.ensures in
    let size = c.span-cells.ensures.size ∙ (λ i. bound program (expr_view (c.get-in-Span-2.ensures i)) + 1 - bound program (expr_view (c.get-in-Span.ensures i))) in
    let addresses = (λ i. range_with_len (start i) (size i)) ∙ addresses-from (start_of program name) first (last + 1 - first) in
    rw c.in-Span.is
    (on-ok c.add_into-in-Span.result _ _ (λ made. made ∙ (λ i. map core_stmt_view c.args.built.now ++ listed_in c.args.line (c.requires.names.first_temporary i) (addresses i) (map core_expr_view c.args.elements)))
    c.add_into-in-Span.ensures)
