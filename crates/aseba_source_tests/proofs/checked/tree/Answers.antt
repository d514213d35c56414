use Rattle.std.proofs.Common.{ap, length, arith}
use Rattle.aseba_source_tests.proofs.checked.tree.Goals as goal

-- the tokens are no more than the text's bytes
pub returns : goal.returns
returns c =
    let same = ap length c.as_slice.ensures in
    c.in_ok-source.ensures.shape (omega (arith, c.in_ok-tokens.ensures.few, same, c.requires))
