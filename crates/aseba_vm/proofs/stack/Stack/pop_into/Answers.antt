use Rattle.std.proofs.Common.{◌≡◌, ◌≤◌, List, ℤ, length, reverse, ap, sym, ◌∙◌, arith}
use Rattle.std.proofs.lemmas.List.{length-reverse}
use Rattle.aseba_vm.specs.Rows.{arguments}
use Rattle.aseba_vm.proofs.Tops.{top_words}
use Rattle.aseba_vm.proofs.stack.Stack.pop_into.Goals as goal

pub returns-clause-values : goal.returns-clause-values
returns-clause-values c =
    let xs : List ℤ = c.deref.result.now in
    let values : reverse xs ≡ c.args.self.now.values = ap reverse c.deref.ensures.value ∙ ap (λ view. view.values) c.self.view_is in
    let fits : length c.args.places.now ≤ length xs = omega (arith, length-reverse xs, ap length values, c.requires) in
    c.read_words.ensures
    ∙ top_words xs c.len.result (length c.args.places.now) (c.len.ensures ∙ sym c.deref.ensures.len) fits
    ∙ ap (arguments (length c.args.places.now)) values
