use Rattle.std.proofs.Common.{◌≡◌, ◌∙◌, ℕ, List, Some, codes, refl, sym, subst}
use Rattle.aseba_tree.specs.declared.token.Key.{Key}
use Rattle.aseba_tree.specs.Tokens.{spelled_in, keywords}
use lib.Dec.{eqb}
use lib.Pointwise.{pointwise}
use Rattle.aseba_tree.proofs.Keywords.{same_bytes}
use Rattle.aseba_tree.proofs.token.Key.of_word.Goals as goal

pub returns-then-eq-21 : goal.returns-then-eq-21
returns-then-eq-21 c =
    let shown : List ℕ = c.as_slice-else-eq-20.result.now in
    let spelled : shown ≡ codes "not" = c.as_slice-else-eq-20.ensures in
    let test : c.eq-else-eq-20.result ≡ pointwise eqb shown c.args.word.now = c.eq-else-eq-20.ensures in
    let same : shown ≡ c.args.word.now = same_bytes shown c.args.word.now (sym test ∙ c.if-eq-21.true) in
    subst (λ (word : List ℕ). Some Key.Not ≡ spelled_in keywords word) (sym spelled ∙ same) refl

pub returns-then-eq-22 : goal.returns-then-eq-22
returns-then-eq-22 c =
    let shown : List ℕ = c.as_slice-else-eq-21.result.now in
    let spelled : shown ≡ codes "abs" = c.as_slice-else-eq-21.ensures in
    let test : c.eq-else-eq-21.result ≡ pointwise eqb shown c.args.word.now = c.eq-else-eq-21.ensures in
    let same : shown ≡ c.args.word.now = same_bytes shown c.args.word.now (sym test ∙ c.if-eq-22.true) in
    subst (λ (word : List ℕ). Some Key.Abs ≡ spelled_in keywords word) (sym spelled ∙ same) refl
