use Rattle.std.proofs.Common.{◌≡◌, ℕ, List, length, Err, ap, arith}
use Rattle.std.proofs.lemmas.Result.{err_from_is_err_and}
use Rattle.aseba_tree.specs.declared.token.Token.{Token}
use Rattle.aseba_tree.specs.Code.{Project}
use Rattle.aseba_parser.specs.declared.fault.Fault.{Fault}
use Rattle.aseba_parser.specs.declared.fault.Fault.TheVariants as fault
use Rattle.aseba_parser.specs.Reads.{OpensBlocks, Enters}
use Rattle.aseba_parser.proofs.tokens.entered.Goals as goal

none-enters : (project : Project) (depth : ℕ) (tokens : List Token) (e : Fault) → (length tokens ≡ 0 → ⊥) → OpensBlocks project depth tokens (Err e) → Enters project depth tokens (Err e)
none-enters project depth tokens (fault.Syntax rest) full h = absurd h
none-enters project depth tokens (fault.TooDeep rest) full h = (h.0, h.1, full)
none-enters project depth tokens fault.Mem full h = absurd h

pub returns-in_err-inside-clause-opens : goal.returns-in_err-inside-clause-opens
returns-in_err-inside-clause-opens c = λ project.
    let p = err_from_is_err_and c.from_residual-in_err-inside.result c.from_residual-in_err-inside.ensures.1 in
    let long = ap (λ l. length l) c.in_ok-word.ensures.first in
    let full : length c.args.tokens.now ≡ 0 → ⊥ = λ none. omega (arith, long, none) in
    rw (p.1, p.2) (none-enters project c.args.depth c.args.tokens.now c.in_err-inside.field-0.0 full (c.in_err-inside.ensures.inside_blocks project))
