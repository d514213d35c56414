-- What is read of the tokens that spell a `for`.
use Rattle.std.proofs.Common.{◌≡◌, ◌∙◌, ℕ, true, false, List, [], ◌∷◌, ◌++◌, Option, Some, None, refl, sym, ap, subst, append_assoc}
use Rattle.aseba_tree.specs.declared.token.Token.{Token}
use Rattle.aseba_tree.specs.declared.token.TokenKind.{TokenKind}
use Rattle.aseba_tree.specs.declared.token.Key.{Key}
use Rattle.aseba_tree.specs.declared.token.Sign.{Sign}
use Rattle.aseba_tree.specs.Code.{Name, Expr, Stmt, stmt, for_do, Stmts, Project}
use Rattle.aseba_tree.specs.Spells.{place, IsName, IsKey, IsSign, any_level}
use Rattle.aseba_tree.specs.Nest.{inside, enclosed}
use Rattle.aseba_parser.specs.Reading.{Read, taken, next, expected, is_sign, is_key, Block, step_read, Counted, head_read, for_read, begins_stmt, stmt_by, stmt_read, stmts_read, block_of}
use Rattle.aseba_parser.proofs.Outcome.{reply, Fits, fits_both, fits_enclosed, reply_first, reply_next, reply_map}
use Rattle.aseba_parser.proofs.OutcomeSteps.{sign_is, key_is, reply_expected, reply_named}
use Rattle.aseba_parser.proofs.CompleteLevels.{IsRead}
use Rattle.aseba_parser.proofs.CompleteLeaves.{ends_colon}
use Rattle.aseba_parser.proofs.CompleteBehind.{Begun, fresh, begun_both, fresh_ends, begun_key}
use Rattle.aseba_parser.proofs.CompleteRows.{IsStmtRead, AreStmtsRead, block_inside, block_opened, ended, end_closes}

-- a step behind the bounds
pub record IsStepRead (used : List Token) (step : Option Expr) (ns : List ℕ) : Type 0 where
  pub fits : Fits ns used
  pub begins : Begun fresh used
  pub reads : (project : Project) (depth : ℕ) (do_word : Token) (rest : List Token) → IsKey Key.Do do_word → step_read (block_inside project depth) (used ++ do_word ∷ rest) ≡ reply depth ns (used ++ do_word ∷ rest) step

step_by : Block → Token → List Token → TokenKind → Read (Option Expr)
step_by block t rest kind = elim (is_key Key.Step kind) [ true ↦ next (block.expr rest) (λ e behind. taken (Some e) behind) | false ↦ taken None (t ∷ rest) ]

pub no_step_read : IsStepRead [] None []
unfolding step_by
no_step_read = record {
  fits = tt;
  begins = tt;
  reads = λ project depth do_word rest is_do. ap (step_by (block_inside project depth) do_word rest) is_do;
}

pub a_step_read : (word : Token) (inner : List Token) (e : Expr) (ns : List ℕ) → IsKey Key.Step word → IsRead any_level inner e ns → IsStepRead (word ∷ inner) (Some e) (0 ∷ ns)
unfolding step_by
a_step_read word inner e ns is_word d = record {
  fits = d.fits;
  begins = begun_key fresh Key.Step word inner is_word refl;
  reads = λ project depth do_word rest is_do.
      ap (step_by (block_inside project depth) word (inner ++ do_word ∷ rest)) is_word
      ∙ ap (λ (r : Read Expr). next r (λ e behind. taken (Some e) behind)) (d.reads depth (do_word ∷ rest) (fresh_ends any_level (do_word ∷ rest) (begun_key fresh Key.Do do_word rest is_do refl)))
      ∙ reply_map depth ns (inner ++ do_word ∷ rest) e (Some e) (λ e behind. taken (Some e) behind) (λ rest. refl)
      ∙ sym (reply_first depth ns word (inner ++ do_word ∷ rest) (Some e));
}

-- the variable with its bounds and its step
head_reads : (project : Project) (depth : ℕ) (variable in_word colon do_word : Token) (low high by rest : List Token) (name : Name) (a b : Expr) (step : Option Expr) (na nb ns : List ℕ)
    → IsName name variable → IsKey Key.In in_word → IsSign Sign.Colon colon → IsKey Key.Do do_word → IsRead any_level low a na → IsRead any_level high b nb → IsStepRead by step ns
    → head_read (block_inside project depth) (variable ∷ in_word ∷ (low ++ colon ∷ (high ++ (by ++ do_word ∷ rest))))
    ≡ reply depth (0 ∷ 0 ∷ (na ++ 0 ∷ (nb ++ ns))) (variable ∷ in_word ∷ (low ++ colon ∷ (high ++ (by ++ do_word ∷ rest)))) (record { variable = variable; head = record { name = name; first = a; last = b; step = step } })
head_reads project depth variable in_word colon do_word low high by rest name a b step na nb ns is_name is_in is_colon is_do da db ds =
    let block = block_inside project depth in
    let behind_last = λ (a b : Expr) (after : List Token). next (step_read block after) (λ step behind. taken (record { variable = variable; head = record { name = name; first = a; last = b; step = step } }) behind) in
    let behind_first = λ (a : Expr) (after : List Token). next (expected (is_sign Sign.Colon) after) (λ colon last. next (block.expr last) (behind_last a)) in
    let made : Counted = record { variable = variable; head = record { name = name; first = a; last = b; step = step } } in
    let last = by ++ do_word ∷ rest in
    let fresh_last = begun_both fresh fresh by (do_word ∷ rest) ds.begins (λ more b. b) (begun_key fresh Key.Do do_word rest is_do refl) in
    reply_named depth (0 ∷ (na ++ 0 ∷ (nb ++ ns))) variable (in_word ∷ (low ++ colon ∷ (high ++ last))) name made _ is_name
    (reply_expected (is_key Key.In) depth (na ++ 0 ∷ (nb ++ ns)) in_word (low ++ colon ∷ (high ++ last)) made _ (key_is Key.In in_word is_in)
    (ap (λ (r : Read Expr). next r behind_first) (da.reads depth (colon ∷ (high ++ last)) (ends_colon colon (high ++ last) any_level is_colon))
    ∙ reply_next depth na (0 ∷ (nb ++ ns)) low (colon ∷ (high ++ last)) a made behind_first da.fits
    (reply_expected (is_sign Sign.Colon) depth (nb ++ ns) colon (high ++ last) made _ (sign_is Sign.Colon colon is_colon)
    (ap (λ (r : Read Expr). next r (behind_last a)) (db.reads depth last (fresh_ends any_level last fresh_last))
    ∙ reply_next depth nb ns high last b made (behind_last a) db.fits
    (ap (λ (r : Read (Option Expr)). next r (λ step behind. taken (record { variable = variable; head = record { name = name; first = a; last = b; step = step } }) behind)) (ds.reads project depth do_word rest is_do)
    ∙ reply_map depth ns last step made _ (λ rest. refl))))))

for_nests : (na nb ns nm : List ℕ) → (0 ∷ 0 ∷ (na ++ 0 ∷ (nb ++ ns))) ++ 0 ∷ (nm ++ 0 ∷ []) ≡ (0 ∷ 0 ∷ (na ++ 0 ∷ (nb ++ (ns ++ 0 ∷ nm)))) ++ 0 ∷ []
for_nests na nb ns nm = simp append_assoc

head_tokens : (variable in_word colon : Token) (low high by rest : List Token) → (variable ∷ in_word ∷ (low ++ colon ∷ (high ++ by))) ++ rest ≡ variable ∷ in_word ∷ (low ++ colon ∷ (high ++ (by ++ rest)))
head_tokens variable in_word colon low high by rest = simp append_assoc

pub for_tokens : (word variable in_word colon do_word last : Token) (low high by inner rest : List Token)
    → word ∷ variable ∷ in_word ∷ (low ++ colon ∷ (high ++ (by ++ do_word ∷ (inner ++ last ∷ rest)))) ≡ (word ∷ variable ∷ in_word ∷ (low ++ colon ∷ (high ++ (by ++ do_word ∷ (inner ++ last ∷ []))))) ++ rest
for_tokens word variable in_word colon do_word last low high by inner rest = simp append_assoc

fits_for : (word variable in_word colon do_word last : Token) (low high by inner : List Token) (na nb ns nm : List ℕ) → Fits na low → Fits nb high → Fits ns by → Fits nm inner
    → Fits (enclosed (0 ∷ 0 ∷ (na ++ 0 ∷ (nb ++ (ns ++ 0 ∷ nm))))) (word ∷ variable ∷ in_word ∷ (low ++ colon ∷ (high ++ (by ++ do_word ∷ (inner ++ last ∷ [])))))
fits_for word variable in_word colon do_word last low high by inner na nb ns nm fa fb fs fm =
    let joined : (variable ∷ in_word ∷ (low ++ colon ∷ (high ++ (by ++ do_word ∷ inner)))) ++ last ∷ [] ≡ variable ∷ in_word ∷ (low ++ colon ∷ (high ++ (by ++ do_word ∷ (inner ++ last ∷ [])))) = simp append_assoc in
    subst (λ (ts : List Token). Fits (enclosed (0 ∷ 0 ∷ (na ++ 0 ∷ (nb ++ (ns ++ 0 ∷ nm))))) (word ∷ ts)) joined
    (fits_enclosed (0 ∷ 0 ∷ (na ++ 0 ∷ (nb ++ (ns ++ 0 ∷ nm)))) (variable ∷ in_word ∷ (low ++ colon ∷ (high ++ (by ++ do_word ∷ inner)))) word last
    (fits_both na (0 ∷ (nb ++ (ns ++ 0 ∷ nm))) low (colon ∷ (high ++ (by ++ do_word ∷ inner))) fa (fits_both nb (ns ++ 0 ∷ nm) high (by ++ do_word ∷ inner) fb (fits_both ns (0 ∷ nm) by (do_word ∷ inner) fs fm))))

fits_head : (variable in_word colon : Token) (low high by : List Token) (na nb ns : List ℕ) → Fits na low → Fits nb high → Fits ns by → Fits (0 ∷ 0 ∷ (na ++ 0 ∷ (nb ++ ns))) (variable ∷ in_word ∷ (low ++ colon ∷ (high ++ by)))
fits_head variable in_word colon low high by na nb ns fa fb fs = fits_both na (0 ∷ (nb ++ ns)) low (colon ∷ (high ++ by)) fa (fits_both nb ns high by fb fs)

-- the body behind the head
body_reads : (project : Project) (depth : ℕ) (do_word last : Token) (inner rest : List Token) (body : Stmts) (nm : List ℕ) (s : Stmts → Stmt) → IsKey Key.Do do_word → IsKey Key.End last → AreStmtsRead project inner body nm
    → next (expected (is_key Key.Do) (do_word ∷ (inner ++ last ∷ rest))) (λ do_word inner. next (stmts_read project depth (block_of project depth) inner) (λ body last. next (expected (is_key Key.End) last) (λ end behind. taken (s body) behind)))
    ≡ reply depth (0 ∷ (nm ++ 0 ∷ [])) (do_word ∷ (inner ++ last ∷ rest)) (s body)
body_reads project depth do_word last inner rest body nm s is_do is_last d =
    let ending = λ (body : Stmts) (last : List Token). next (expected (is_key Key.End) last) (λ end behind. taken (s body) behind) in
    reply_expected (is_key Key.Do) depth (nm ++ 0 ∷ []) do_word (inner ++ last ∷ rest) (s body) (λ do_word inner. next (stmts_read project depth (block_of project depth) inner) ending) (key_is Key.Do do_word is_do)
    (ap (λ (r : Read Stmts). next r ending) (d.reads depth (last ∷ rest) (end_closes last rest is_last)) ∙ reply_next depth nm (0 ∷ []) inner (last ∷ rest) body (s body) ending d.fits (ended depth last rest (s body) is_last))

for_reads : (project : Project) (depth : ℕ) (word variable in_word colon do_word last : Token) (low high by inner rest : List Token) (name : Name) (a b : Expr) (step : Option Expr) (body : Stmts) (na nb ns nm : List ℕ)
    → IsName name variable → IsKey Key.In in_word → IsSign Sign.Colon colon → IsKey Key.Do do_word → IsKey Key.End last
    → IsRead any_level low a na → IsRead any_level high b nb → IsStepRead by step ns → AreStmtsRead project inner body nm
    → for_read (block_of project depth) word (variable ∷ in_word ∷ (low ++ colon ∷ (high ++ (by ++ do_word ∷ (inner ++ last ∷ rest)))))
    ≡ reply depth (enclosed (0 ∷ 0 ∷ (na ++ 0 ∷ (nb ++ (ns ++ 0 ∷ nm))))) (word ∷ variable ∷ in_word ∷ (low ++ colon ∷ (high ++ (by ++ do_word ∷ (inner ++ last ∷ rest)))))
    (stmt word.at.line (place variable) (for_do (record { name = name; first = a; last = b; step = step }) body))
for_reads project depth word variable in_word colon do_word last low high by inner rest name a b step body na nb ns nm is_name is_in is_colon is_do is_last da db ds dm =
    let tokens = variable ∷ in_word ∷ (low ++ colon ∷ (high ++ (by ++ do_word ∷ (inner ++ last ∷ rest)))) in
    let counted : Counted = record { variable = variable; head = record { name = name; first = a; last = b; step = step } } in
    let made = stmt word.at.line (place variable) (for_do (record { name = name; first = a; last = b; step = step }) body) in
    let head_tokens_here = head_tokens variable in_word colon low high by (do_word ∷ (inner ++ last ∷ rest)) in
    block_opened project depth ((0 ∷ 0 ∷ (na ++ 0 ∷ (nb ++ ns))) ++ 0 ∷ (nm ++ 0 ∷ [])) word tokens made _
    (λ d.
    let behind = λ (counted : Counted) (after : List Token). next (expected (is_key Key.Do) after) (λ do_word inner. next (stmts_read project d (block_of project d) inner) (λ body last.
    next (expected (is_key Key.End) last) (λ end behind. taken (stmt word.at.line (place counted.variable) (for_do counted.head body)) behind))) in
    ap (λ (r : Read Counted). next r behind) (head_reads project d variable in_word colon do_word low high by (inner ++ last ∷ rest) name a b step na nb ns is_name is_in is_colon is_do da db ds)
    ∙ subst (λ (ts : List Token). next (reply d (0 ∷ 0 ∷ (na ++ 0 ∷ (nb ++ ns))) ts counted) behind ≡ reply d ((0 ∷ 0 ∷ (na ++ 0 ∷ (nb ++ ns))) ++ 0 ∷ (nm ++ 0 ∷ [])) ts made) head_tokens_here
    (reply_next d (0 ∷ 0 ∷ (na ++ 0 ∷ (nb ++ ns))) (0 ∷ (nm ++ 0 ∷ [])) (variable ∷ in_word ∷ (low ++ colon ∷ (high ++ by))) (do_word ∷ (inner ++ last ∷ rest)) counted made behind
    (fits_head variable in_word colon low high by na nb ns da.fits db.fits ds.fits)
    (body_reads project d do_word last inner rest body nm (λ body. stmt word.at.line (place variable) (for_do (record { name = name; first = a; last = b; step = step }) body)) is_do is_last dm)))
    ∙ ap (λ (ns : List ℕ). reply depth (inside (0 ∷ ns)) (word ∷ tokens) made) (for_nests na nb ns nm)

pub for_is_read : (project : Project) (word variable in_word colon do_word last : Token) (low high by inner : List Token) (name : Name) (a b : Expr) (step : Option Expr) (body : Stmts) (na nb ns nm : List ℕ)
    → IsKey Key.For word → IsName name variable → IsKey Key.In in_word → IsSign Sign.Colon colon → IsKey Key.Do do_word → IsKey Key.End last
    → IsRead any_level low a na → IsRead any_level high b nb → IsStepRead by step ns → AreStmtsRead project inner body nm
    → IsStmtRead project (word ∷ variable ∷ in_word ∷ (low ++ colon ∷ (high ++ (by ++ do_word ∷ (inner ++ last ∷ [])))))
    (stmt word.at.line (place variable) (for_do (record { name = name; first = a; last = b; step = step }) body)) (enclosed (0 ∷ 0 ∷ (na ++ 0 ∷ (nb ++ (ns ++ 0 ∷ nm)))))
for_is_read project word variable in_word colon do_word last low high by inner name a b step body na nb ns nm is_word is_name is_in is_colon is_do is_last da db ds dm = record {
  first = word;
  others = variable ∷ in_word ∷ (low ++ colon ∷ (high ++ (by ++ do_word ∷ (inner ++ last ∷ []))));
  whole = refl;
  begins = ap begins_stmt is_word;
  fits = fits_for word variable in_word colon do_word last low high by inner na nb ns nm da.fits db.fits ds.fits dm.fits;
  reads = λ depth rest begun.
      subst (λ (ts : List Token). stmt_read project depth (block_of project depth) ts
      ≡ reply depth (enclosed (0 ∷ 0 ∷ (na ++ 0 ∷ (nb ++ (ns ++ 0 ∷ nm))))) ts (stmt word.at.line (place variable) (for_do (record { name = name; first = a; last = b; step = step }) body)))
      (for_tokens word variable in_word colon do_word last low high by inner rest)
      (ap (stmt_by project depth (block_of project depth) word (variable ∷ in_word ∷ (low ++ colon ∷ (high ++ (by ++ do_word ∷ (inner ++ last ∷ rest)))))) is_word
      ∙ for_reads project depth word variable in_word colon do_word last low high by inner rest name a b step body na nb ns nm is_name is_in is_colon is_do is_last da db ds dm);
}
