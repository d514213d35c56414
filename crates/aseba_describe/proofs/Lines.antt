-- What reading gives behind the last line.
use Rattle.std.proofs.Common.{◌≡◌, ℕ, Bool, List, [], ◌∷◌, length, refl, sym, ap, ◌∙◌, arith, cond, Result, Ok, Err}
use Rattle.std.specs.Str.Lines.{lines}
use Rattle.aseba_tree.specs.declared.project.Project.{Project}
use Rattle.aseba_describe.specs.declared.draft.Draft.{Draft}
use Rattle.aseba_describe.specs.Kinds.{is_whole}
use Rattle.aseba_describe.specs.Reading.{read_from, project_of}

empty_is : (bs : List ℕ) → length bs ≡ 0 → bs ≡ []
empty_is [] h = refl
empty_is (b ∷ bs) h = absurd (omega arith)

by_test : (n : ℕ) (d : Draft) (t r : Bool) → t ≡ r → cond t (Ok (project_of d)) (Err n) ≡ cond r (Ok (project_of d)) (Err n)
by_test n d t r h = ap (λ b. cond b (Ok (project_of d)) (Err n)) h

-- what reading gives behind the last line
pub ends : (n : ℕ) (d : Draft) (rest : List ℕ) (whole : Result Project ℕ) (r : Bool) → length rest ≡ 0 → is_whole d.next ≡ r
    → read_from n d (lines rest) ≡ whole → whole ≡ cond r (Ok (project_of d)) (Err n)
ends n d rest whole r empty test same =
    sym same ∙ ap (λ l. read_from n d (lines l)) (empty_is rest empty) ∙ by_test n d _ r test
