-- The node of a project that keeps to the limits.
use Rattle.std.proofs.Common.{◌≤◌, ◌<◌, List, arith, map}
use Rattle.std.specs.Prelude.{All}
use Rattle.std.proofs.lemmas.List.{length-map}
use Rattle.std.proofs.lemmas.List.Elements.{All-map}
use Rattle.aseba_tree.specs.declared.description.Sized as code
use Rattle.aseba_tree.specs.declared.project.Project.{Project}
use Rattle.aseba_tree.specs.Code.{Sized}
use Rattle.aseba_tree.specs.Inside.{InsideProject, InsideSized}
use Rattle.aseba_tree.specs.View.{sized_view, native_view, project_view}
use Rattle.aseba_codegen.specs.Agrees.{IsNode}

pub sizes-inside : (vs : List code.Sized) → All (InsideSized 1 4096) vs → All (λ v. 1 ≤ v.size) (map sized_view vs)
sizes-inside vs h = All-map (λ (v : Sized). 1 ≤ v.size) sized_view vs (λ k d below. (h k d below).size.0)

pub node-inside : (project : Project) → InsideProject project → project.id < 65536 → IsNode (project_view project)
node-inside project inside id = record {
  code = inside.node.code.1;
  cells = inside.node.cells.1;
  id = id;
  events = (let most = inside.events.few in let long = length-map project.events sized_view in omega arith);
  natives = (let most = inside.node.natives.few in let long = length-map project.node.natives native_view in omega arith);
  sizes = sizes-inside project.node.variables inside.node.variables.each.each;
}
