-- What is written for a compiled text is what is to be written for it.
use Rattle.std.proofs.Common.{◌≡◌, Bool, ℕ, suc, ◌+◌, ◌<◌, ◌≤◌, List, [], ◌∷◌, ◌++◌, All, map, take, drop, length, sum_by, Option, None, Some, ap, refl, sym, ◌∙◌, subst, arith, length-append}
use Rattle.std.specs.Prelude.{slice_index}
use Rattle.std.proofs.lemmas.List.{length-map}
use Rattle.std.proofs.lemmas.List.Elements.{All-cons, All-nil}
use Rattle.std.proofs.lemmas.List.Sums.{sum_by-cons}
use Rattle.aseba_words.specs.declared.limits.TheConstants.{MOST_CELLS}
use Rattle.aseba_tree.specs.Code.{Sized, Source, Project}
use Rattle.aseba_tree.specs.declared.project.Project as code
use Rattle.aseba_tree.specs.Inside.{InsideProject}
use Rattle.aseba_tree.specs.Lines.{SourceCallsKnown}
use Rattle.aseba_tree.specs.Script.{Script}
use Rattle.aseba_tree.specs.View.{project_view, sized_view, placed_view}
use Rattle.aseba_tree.specs.Line.{line_by, lines_text}
use Rattle.aseba_tree.specs.Layout as tree
use Rattle.aseba_tree.specs.Layout.{placed_from, layout, variables}
use Rattle.aseba_tree.specs.State as meaning
use Rattle.aseba_tree.specs.State.{node_variables, declared}
use Rattle.aseba_tree.proofs.SoundProofs.{sound_is_faultless}
use Rattle.aseba_target.specs.Node.{Layout, layout_of, started}
use Rattle.aseba_target.specs.MachineRun.{machine_lines}
use Rattle.aseba_target.proofs.Started.{started_begun}
use Rattle.aseba_tree.specs.declared.placed.Placed.{Placed}
use Rattle.aseba_compile.specs.declared.program.Program.{Program}
use Rattle.aseba_compile.specs.Answered.{IsProgram, IsCompiled}
use Rattle.aseba_driver.specs.Driven.{IsGood, script_of}
use Rattle.aseba_driver.specs.Grammar.{ScriptText}
use Rattle.aseba_driver.specs.declared.entry.Entry.{Entry}
use Rattle.aseba_tools.specs.CodeLine.{code_line}
use Rattle.aseba_tools.specs.CodeWritten.{IsCodeOf}
use Rattle.aseba_tools.specs.Meant.{IsMeant, IsMeantOf, IsScript, effects_of}
use Rattle.aseba_tools.specs.ProjectWord.{AreFirst, known_natives}
use Rattle.aseba_tools.specs.ScriptRead.{AreEntries}
use Rattle.aseba_tools.proofs.NativesKnown.{runs-known}
use Rattle.aseba_tools.specs.SimText.{layout_with, sim_text}

-- Places

placed-long : (start : ℕ) (vs : List Sized) → length (placed_from start vs) ≡ length vs
placed-long start [] = refl
placed-long start (v ∷ vs) = ap suc (placed-long (start + v.size) vs)

-- the places of the first variables, and those behind them
placed-front : (start : ℕ) (xs ys : List Sized) → take (length xs) (placed_from start (xs ++ ys)) ≡ placed_from start xs
placed-front start [] ys = refl
placed-front start (x ∷ xs) ys = ap (λ ps. record { name = x.name; start = start; size = x.size } ∷ ps) (placed-front (start + x.size) xs ys)

placed-behind : (start : ℕ) (xs ys : List Sized) → drop (length xs) (placed_from start (xs ++ ys)) ≡ placed_from (start + sum_by (λ v. v.size) xs) ys
placed-behind start [] ys = let same : start ≡ start + 0 = omega arith in ap (λ n. placed_from n ys) same
placed-behind start (x ∷ xs) ys =
    let behind : start + x.size + sum_by (λ (v : Sized). v.size) xs ≡ start + sum_by (λ (v : Sized). v.size) (x ∷ xs) = omega (arith, sum_by-cons (λ (v : Sized). v.size) x xs) in
    placed-behind (start + x.size) xs ys ∙ ap (λ n. placed_from n ys) behind

abbrev first-start : List tree.Placed → ℕ
first-start [] = 0
first-start (p ∷ ps) = p.start

abbrev first-size : List tree.Placed → ℕ
first-size [] = 0
first-size (p ∷ ps) = p.size

abbrev behind-first : List tree.Placed → List tree.Placed
behind-first [] = []
behind-first (p ∷ ps) = ps

-- variables whose cells are few have their places below a number
places-below : (most : ℕ) (ps : List Placed) (start : ℕ) (vs : List Sized) → map placed_view ps ≡ placed_from start vs → start + sum_by (λ v. v.size) vs < most → All (λ p. p.start + p.size < most) ps
places-below most [] start vs e h = All-nil (λ (p : Placed). p.start + p.size < most)
places-below most (p ∷ ps) start [] e h = cc
places-below most (p ∷ ps) start (v ∷ vs) e h =
    let at : p.start ≡ start = ap first-start e in
    let long : p.size ≡ v.size = ap first-size e in
    let all = sum_by-cons (λ (v : Sized). v.size) v vs in
    All-cons (λ (p : Placed). p.start + p.size < most) p ps (omega (arith, at, long, all, h))
    (places-below most ps (start + v.size) vs (ap behind-first e) (omega (arith, all, h)))

-- Programs of a source

module _ (project : code.Project) (source : Source) (program : Program) (is : IsProgram (record { project = project_view project; source = source }) program) where
  abbrev whole : meaning.Program
  whole = record { project = project_view project; source = source }

  many : length (node_variables (project_view project)) ≡ length project.node.variables
  many = length-map project.node.variables sized_view

  -- a program has the layout of its source
  layouts : layout_with project program ≡ layout_of whole
  layouts =
      let node = node_variables (project_view project) in
      let front : take (length project.node.variables) (map placed_view program.places) ≡ placed_from 0 node =
      ap (λ n. take n (map placed_view program.places)) (sym many) ∙ ap (take (length node)) is.places ∙ placed-front 0 node (declared whole) in
      let zero : 0 + sum_by (λ (v : Sized). v.size) node ≡ sum_by (λ (v : Sized). v.size) node = omega arith in
      let own : drop (length project.node.variables) (map placed_view program.places) ≡ placed_from (sum_by (λ (v : Sized). v.size) node) (declared whole) =
      ap (λ n. drop n (map placed_view program.places)) (sym many) ∙ ap (drop (length node)) is.places ∙ placed-behind 0 node (declared whole) ∙ ap (λ n. placed_from n (declared whole)) zero in
      λ i. record { node = front i; own = own i; cells = is.code.cells i }

  -- there are places of all variables of the node
  has-places : length project.node.variables ≤ length program.places
  has-places =
      let all = length-map {A = Placed} {B = tree.Placed} program.places placed_view in
      let laid = ap length is.places in
      let long = placed-long 0 (node_variables (project_view project) ++ declared whole) in
      let parts = length-append (node_variables (project_view project)) (declared whole) in
      omega (arith, all, laid, long, parts, many)

  near-places : InsideProject project → All (λ p. p.start + p.size < 65536) program.places
  near-places inside =
      let room = ((sound_is_faultless whole).0 is.sound).1 in
      let most : project.node.cells ≤ MOST_CELLS = inside.node.cells.1 in
      places-below 65536 program.places 0 (variables whole) is.places (omega (arith, room, most))

  -- what is written for a program of a source
  meant : ((script : Script) (beats : List Bool) → SourceCallsKnown whole script beats) → (entries : List Entry) (ticks : ℕ) → IsGood (project_view project) (map placed_view program.places) entries
      → IsMeant whole (script_of (map placed_view program.places) entries) ticks (sim_text project program entries ticks)
  meant known entries ticks good =
      let words = program.image.words in
      let script = script_of (map placed_view program.places) entries in
      let machine = started (project_view project) words in
      let code = is.code.code in
      let runs = code.runs machine script ticks (record { started = started_begun (project_view project) words code.sizes.fits; good = good (variables whole) is.places }) (known script (effects_of whole words script ticks)) in
      record {
        words = words;
        are_words = is.words;
        fits = code.sizes.fits;
        lines = program.image.lines;
        told = map (line_by (slice_index program.image.lines)) (machine_lines (project_view project) (layout_of whole) machine script ticks);
        tells = refl;
        text_is = ap (λ (l : Layout). code_line words ++ lines_text (map (line_by (slice_index program.image.lines)) (machine_lines (project_view project) l machine script ticks))) layouts;
        means = record { lines = runs.lines_same; paced = runs.paced };
        code = code;
      }

  -- the entries that were read are the script
  is-script : (text : Option (List ℕ)) (entries : List Entry) → AreEntries (project_view project) (map placed_view program.places) text entries → IsScript whole text (script_of (map placed_view program.places) entries)
  is-script None entries are = ap (script_of (map placed_view program.places)) are
  is-script (Some text) entries are = record {
    entries = entries;
    spelled = subst (λ ps. ScriptText (project_view project) ps text entries) is.places are;
    script_is = ap (λ ps. script_of ps entries) is.places;
  }

pub meant-of : (project : code.Project) (text : List ℕ) (program : Program) (script : Option (List ℕ)) (entries : List Entry) (ticks : ℕ) → AreFirst project.node.natives known_natives → IsCompiled (project_view project) text program
    → AreEntries (project_view project) (map placed_view program.places) script entries → IsGood (project_view project) (map placed_view program.places) entries
    → IsMeantOf (project_view project) text script ticks (sim_text project program entries ticks)
meant-of project text program script entries ticks first c are good = record {
  source = c.source;
  only = c.only;
  sound = c.holds.sound;
  holds = record {
    script = script_of (map placed_view program.places) entries;
    is_script = is-script project c.source program c.holds script entries are;
    meant = meant project c.source program c.holds (runs-known project first c.source c.holds.sound) entries ticks good;
  };
}

-- the line of its words
pub code-of : (project : Project) (text : List ℕ) (program : Program) → IsCompiled project text program → IsCodeOf project text (code_line program.image.words)
code-of project text program c = record {
  source = c.source;
  only = c.only;
  sound = c.holds.sound;
  holds = record { words = program.image.words; are_words = c.holds.words; lines = program.image.lines; code = c.holds.code.code; text_is = refl };
}

-- a compiled text has places of all variables of the node, which are not far away
pub node_placed : (project : code.Project) (text : List ℕ) (program : Program) → IsCompiled (project_view project) text program → length project.node.variables ≤ length program.places
node_placed project text program c = has-places project c.source program c.holds

pub places_near : (project : code.Project) (text : List ℕ) (program : Program) → InsideProject project → IsCompiled (project_view project) text program → All (λ p. p.start + p.size < 65536) program.places
places_near project text program inside c = near-places project c.source program c.holds inside
