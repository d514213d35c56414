-- The words of each core that is an expansion of a source run as the source means.
use Rattle.std.proofs.Common.{◌≡◌, refl, sym, ◌∙◌, ap, subst, ℕ, suc, ◌+◌, ◌%◌, ◌<◌, ◌≤◌, true, Bool, pos, List, [], ◌∷◌, ◌++◌, length, map, take, drop, arith, zero-add, length-append}
use Rattle.std.specs.Prelude.{replicate, slice_index, sum_by}
use Rattle.std.proofs.Math.Seq.{take-length}
use Rattle.std.proofs.lemmas.List.{length-map, map-append}
use Rattle.std.proofs.lemmas.List.Sums.{sum_by-cons}
use Rattle.aseba_tree.specs.Code.{Name, Sized, Project}
use Rattle.aseba_tree.specs.Core.{Core}
use Rattle.aseba_tree.specs.CoreNumbers.{core_words, core_depth, core_weight}
use Rattle.aseba_tree.specs.CoreStep.{CoreProgram, CoreState}
use Rattle.aseba_tree.specs.CoreRun.{own_places, core_run, core_moments}
use Rattle.aseba_tree.specs.Layout.{placed_from, variables, cells_of_variables, HasPlaces}
use Rattle.aseba_tree.specs.Lines.{source_run, source_moments, SourceCallsKnown}
use Rattle.aseba_tree.specs.Numbers.{source_words, source_weight}
use Rattle.aseba_tree.specs.Run.{Paced, CallsKnown, Moment}
use Rattle.aseba_tree.specs.Script.{Script}
use Rattle.aseba_tree.specs.State as tree
use Rattle.aseba_tree.specs.State.{declared, node_variables}
use Rattle.aseba_tree.specs.Step.{IsKnown}
use Rattle.aseba_tree.specs.Value.{Named}
use Rattle.aseba_tree.proofs.MeantLaws.{paced-slower}
use Rattle.aseba_vm.specs.State as machine
use Rattle.aseba_vm.specs.Tick.{ticked}
use Rattle.aseba_target.specs.Node.{Layout, layout_of, IsStarted}
use Rattle.aseba_target.specs.MachineRun.{is_effect, machine_run}
use Rattle.aseba_codegen.specs.declared.coded.Coded.{Coded}
use Rattle.aseba_codegen.specs.declared.image.Image.{Image}
use Rattle.aseba_codegen.specs.Agrees.{IsNode, HasRoom, IsLaidOut, Seen, RunsAlike}
use Rattle.aseba_codegen.specs.CodeRuns as code
use Rattle.aseba_codegen.specs.Generated.{IsImage}
use Rattle.aseba_codegen.specs.Places.{edge_places}
use Rattle.aseba_codegen.specs.Words.{on_line, table_of, bodies_code, handler_entries, init_start, part_starts, core_code, code_words, code_lines}
use Rattle.aseba_codegen.proofs.BitLaws.{bits-at}
use Rattle.aseba_codegen.proofs.CodeLaw.{code_runs, code_calls}
use Rattle.aseba_codegen.proofs.Lengths.{code-long, on_line-long}
use Rattle.aseba_expand.specs.Expands as expands
use Rattle.aseba_expand.specs.Expands.{IsExpansion, ShowsSame, RunsSame}
use Rattle.aseba_expand.specs.Plain.{core_program}
use Rattle.aseba_compile.specs.Compiled.{IsRun, effects, all_cells_of, StandsAt, RunsAsMeant, HasFewWords, machine_before, source_before, CallsAsMeant, Compiled}
use Rattle.aseba_compile.proofs.Whens.{when-places}

-- Variables

placed-apart : (start : ℕ) (known own : List Sized) → placed_from start (known ++ own) ≡ placed_from start known ++ placed_from (start + sum_by (λ v. v.size) known) own
placed-apart start [] own = let e : start ≡ start + 0 = omega arith in ap (λ at. placed_from at own) e
placed-apart start (v ∷ known) own =
    let sums : start + v.size + sum_by (λ u. u.size) known ≡ start + sum_by (λ u. u.size) (v ∷ known) = omega (arith, sum_by-cons (λ (u : Sized). u.size) v known) in
    ap (λ vs. record { name = v.name; start = start; size = v.size } ∷ vs) (placed-apart (start + v.size) known own ∙ ap (λ at. placed_from (start + v.size) known ++ placed_from at own) sums)

-- what follows the first of placed variables
placed-behind : (start : ℕ) (known own : List Sized) → drop (length known) (placed_from start (known ++ own)) ≡ placed_from (start + sum_by (λ v. v.size) known) own
placed-behind start [] own = let e : start ≡ start + 0 = omega arith in ap (λ at. placed_from at own) e
placed-behind start (v ∷ known) own =
    let sums : start + v.size + sum_by (λ u. u.size) known ≡ start + sum_by (λ u. u.size) (v ∷ known) = omega (arith, sum_by-cons (λ (u : Sized). u.size) v known) in
    placed-behind (start + v.size) known own ∙ ap (λ at. placed_from at own) sums

first-ones : (known own : List Sized) → take (length known) (known ++ own) ≡ known
first-ones [] own = refl
first-ones (v ∷ known) own = ap (λ vs. v ∷ vs) (first-ones known own)

cells-alike : {A : Type 0} (vs : Named A) → expands.all_cells_of vs ≡ all_cells_of vs
cells-alike [] = refl
cells-alike (v ∷ vs) = ap (λ cells. v.1 ++ cells) (cells-alike vs)

-- Runs

module _ (program : tree.Program) (core : Core) (node : IsNode program.project) (room : HasRoom program.project core) (expansion : IsExpansion program core) where
  abbrev coded : CoreProgram
  coded = core_program program core

  abbrev layout : Layout
  layout = layout_of program

  own : own_places coded ≡ layout.own
  own =
      let known : List Sized = node_variables program.project in
      placed-behind 0 known (declared program) ∙ ap (λ at. placed_from at (declared program)) (zero-add (sum_by (λ v. v.size) known))

  laid : IsLaidOut coded layout
  laid = record { cells = sym expansion.cells; together = sym expansion.cells; own = sym own }

  places : HasPlaces program.project (variables program) core.cells (layout.node ++ layout.own)
  places =
      let known : List Sized = node_variables program.project in
      record {
        sizes = node.sizes;
        first = first-ones known (declared program);
        inside = (let same = expansion.cells in omega arith);
        laid = sym (placed-apart 0 known (declared program) ∙ ap (λ at. placed_from 0 known ++ placed_from at (declared program)) (zero-add (sum_by (λ v. v.size) known)));
      }

  module _ (m : machine.State) (script : Script) (n : ℕ) (run : IsRun program (code_words program.project core) m script) (known : SourceCallsKnown program script (effects program m script n)) where
    abbrev beats : List Bool
    beats = effects program m script n

    coded-run : code.IsRun coded layout m script
    coded-run = record { room = room; laid = laid; places = places; started = run.started; good = run.good }

    same : RunsSame program core script beats
    same = expansion.runs script beats run.good known

    core-known : code.CoreCallsKnown coded layout m script n
    core-known = subst (λ (ms : List Moment). CallsKnown (IsKnown program.project) ms) (sym same.same_moments) known

    stands : (m : machine.State) (c : CoreState) (s : tree.State) → Seen (core_code program.project core) (edge_places program.project core) core.cells m c → ShowsSame program c s
        → StandsAt program (code_lines program.project core) (edge_places program.project core) m s
    stands m c s seen shows = record {
      cells = subst (λ cells. take cells m.cells ≡ take cells c.cells) expansion.cells seen.cells_alike ∙ shows.cells ∙ cells-alike s.cells;
      held = subst (λ cells. take cells m.held ≡ take cells c.held) expansion.cells seen.held_alike ∙ shows.held ∙ cells-alike s.held;
      active = seen.active_alike ∙ shows.active;
      paused = seen.paused_alike ∙ shows.paused;
      bits = bits-at (core_code program.project core) m.code (edge_places program.project core) c.bits seen.bits_alike ∙ shows.bits;
      line = λ e. seen.line_alike (shows.active ∙ e) ∙ shows.line e;
    }

    runs : RunsAsMeant program (code_lines program.project core) (edge_places program.project core) m script n
    runs =
        let first : RunsAlike coded layout m script n = code_runs coded layout m script n coded-run core-known in
        record {
          paced = subst (Paced (source_weight program)) same.same_moments (paced-slower (core_weight core) (source_weight program) (core_moments coded script beats) expansion.weight first.paced);
          lines_same = first.lines ∙ same.lines;
          stands = stands (machine_run program.project layout m script n).state (core_run coded script beats).state (source_run program script beats).state first.seen same.shows;
          no_error = first.no_error;
          same_moments = first.same_moments ∙ same.same_moments;
        }

    calls : is_effect (cells_of_variables program) (ticked (machine_before program m script n)).0 ≡ true → CallsAsMeant program (machine_before program m script n) (source_before program m script n)
    calls effect =
        let alike : code.CallsAlike coded (machine_before program m script n) (code.core_before coded layout m script n) = code_calls coded layout m script n coded-run core-known effect in
        record { same = alike.same ∙ same.calls; unknown = λ name e unknown. alike.unknown name (same.calls ∙ e) unknown }

-- Sizes

words-long : (project : Project) (core : Core) → length (code_words project core) ≡ core_words project core
words-long project core = length-map {A = Coded} {B = ℕ} (core_code project core) (λ c. c.word) ∙ code-long project core

lines-long : (project : Project) (core : Core) → length (code_lines project core) ≡ length (code_words project core)
lines-long project core = length-map {A = Coded} {B = ℕ} (core_code project core) (λ c. c.line) ∙ sym (length-map {A = Coded} {B = ℕ} (core_code project core) (λ c. c.word))

first-lines : (line : ℕ) (ws : List ℕ) (behind : List Coded) → take (length ws) (map (λ (c : Coded). c.line) (on_line line ws ++ behind)) ≡ replicate (length ws) line
first-lines line [] behind = refl
first-lines line (w ∷ ws) behind = ap (λ ls. line ∷ ls) (first-lines line ws behind)

table-long : (project : Project) (core : Core) → core_words project core ≤ 32767 → (3 + length (handler_entries (part_starts project core) 0 core.parts)) % 65536 ≡ length (table_of (init_start project core) (handler_entries (part_starts project core) 0 core.parts))
table-long project core few =
    let table : List ℕ = table_of (init_start project core) (handler_entries (part_starts project core) 0 core.parts) in
    let bodies : List Coded = bodies_code project (part_starts project core) core in
    omega (arith, code-long project core, length-append (on_line 0 table) bodies, on_line-long 0 table, few)

table-lines : (project : Project) (core : Core) → core_words project core ≤ 32767 → take (slice_index (code_words project core) 0) (code_lines project core) ≡ replicate (slice_index (code_words project core) 0) 0
table-lines project core few =
    let table : List ℕ = table_of (init_start project core) (handler_entries (part_starts project core) 0 core.parts) in
    subst (λ n. take n (code_lines project core) ≡ replicate n 0) (sym (table-long project core few)) (first-lines 0 table (bodies_code project (part_starts project core) core))

-- All of it

pub compiled : (program : tree.Program) (core : Core) (image : Image) → IsNode program.project → IsExpansion program core → IsImage program.project core image → Compiled program image.words image.lines
compiled program core image node expansion is =
    let room : HasRoom program.project core = record { node = node; shape = expansion.shape; words = is.words_fit; deep = is.depth_fits } in
    let few : core_words program.project core ≤ 32767 = (let most = node.code in let fits = is.words_fit in omega arith) in
    rw (is.words, is.lines)
    (record {
      sizes = record {
        fits = (let long = words-long program.project core in let fits = is.words_fit in omega arith);
        few = (let long = words-long program.project core in let most = (expansion.shape).has_size in let size = expansion.size in omega arith);
        lined = lines-long program.project core;
      };
      table = table-lines program.project core few;
      places = edge_places program.project core;
      whens = when-places program.project core;
      runs = λ m script n run known. runs program core node room expansion m script n run known;
      calls = λ m script n run known effect. calls program core node room expansion m script n run known effect;
    })
