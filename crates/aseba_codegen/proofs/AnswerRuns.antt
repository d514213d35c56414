-- What the generator answers runs as the core does.
use Rattle.std.proofs.Common.{◌≡◌, ◌<◌, ◌≤◌, ℕ, List, subst, sym}
use Rattle.aseba_tree.specs.Code.{Project, Sized}
use Rattle.aseba_tree.specs.Core.{Core}
use Rattle.aseba_tree.specs.CoreNumbers.{core_words, core_depth}
use Rattle.aseba_tree.specs.CoreShape.{IsCore}
use Rattle.aseba_tree.specs.Script.{Script}
use Rattle.aseba_vm.specs.State.{State}
use Rattle.aseba_target.specs.Node.{Layout, IsStarted}
use Rattle.aseba_codegen.specs.Agrees.{IsNode, HasRoom, words_of}
use Rattle.aseba_codegen.specs.CodeRuns.{AlwaysRunAsCore, IsRun, program_with}
use Rattle.aseba_codegen.specs.Words.{code_words}
use Rattle.aseba_codegen.proofs.CodeLaw.{code_runs, code_calls}

pub words-run : (project : Project) (core : Core) (words : List ℕ) → IsNode project → IsCore project core → words ≡ code_words project core
    → core_words project core ≤ project.node.code → core_depth core ≤ project.node.stack → AlwaysRunAsCore project core words
words-run project core words node shape are fit deep variables layout m script n run known =
    let room : HasRoom project core = record { node = node; shape = shape; words = fit; deep = deep } in
    let whole : IsRun (program_with project core variables) layout m script = record {
      room = room;
      laid = run.laid;
      places = run.places;
      started = subst (λ words. IsStarted project words m) are run.started;
      good = run.good;
    } in
    record {
      runs = code_runs (program_with project core variables) layout m script n whole known;
      calls = code_calls (program_with project core variables) layout m script n whole known;
    }
