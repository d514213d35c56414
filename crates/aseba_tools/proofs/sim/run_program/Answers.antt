use Rattle.std.proofs.Common.{option_map, subst, sym}
use Rattle.aseba_tree.specs.View.{project_view}
use Rattle.aseba_tools.specs.SimText.{sim_text}
use Rattle.aseba_tools.specs.Simulated.{Ran}
use Rattle.aseba_tools.proofs.Outputs.{meant-of, node_placed, places_near}
use Rattle.aseba_tools.proofs.Works.{no_script, run_ended}
use Rattle.aseba_tools.proofs.sim.run_program.Goals as goal

pub entries_of-requires-clause-near : goal.entries_of-requires-clause-near
entries_of-requires-clause-near g c = rw c.as_slice-places.ensures (places_near c.args.project.now c.args.text.now c.args.program.now c.requires.inside c.requires.compiled)

pub simulate-requires-clause-places : goal.simulate-requires-clause-places
simulate-requires-clause-places g c = node_placed c.args.project.now c.args.text.now c.args.program.now c.requires.compiled

pub returns-in-Ok-clause-ran : goal.returns-in-Ok-clause-ran
returns-in-Ok-clause-ran g c =
    let project = project_view c.args.project.now in
    let text = c.args.text.now in
    let script = option_map (λ text. text.now) c.args.script in
    subst (Ran project text script c.args.ticks (g.S.Sink.taken c.args.out.now) (g.S.Sink.taken c.simulate.new.out)) (sym c.status_of.ensures)
    (run_ended project text script c.args.ticks _ _ c.simulate.result (sim_text c.args.project.now c.args.program.now c.in-Ok.entries c.args.ticks)
    (meant-of c.args.project.now text c.args.program.now script c.in-Ok.entries c.args.ticks c.requires.natives c.requires.compiled (rw c.as_slice-places.ensures at c.in-Ok.ensures.entries) (rw c.as_slice-places.ensures at c.in-Ok.ensures.good))
    (rw c.as_slice-all.ensures at c.simulate.ensures.whole) (rw c.as_slice-all.ensures at c.simulate.ensures.part))

pub returns-in-Err-clause-ran : goal.returns-in-Err-clause-ran
returns-in-Err-clause-ran g c =
    no_script (project_view c.args.project.now) c.args.text.now c.args.program.now _ c.args.ticks (g.S.Sink.taken c.args.out.now) c.in-Err.status c.requires.compiled (rw c.as_slice-places.ensures at c.in-Err.ensures.why)
