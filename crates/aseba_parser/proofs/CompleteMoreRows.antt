-- What is read of the tokens that spell one statement with more parts than a test and a body, row by row.
use Rattle.std.proofs.Common.{◌≡◌, ◌∙◌, ℕ, Bool, true, false, List, [], ◌∷◌, ◌++◌, Option, Some, None, refl, sym, ap, subst, append_assoc}
use Rattle.aseba_tree.specs.declared.token.Token.{Token}
use Rattle.aseba_tree.specs.declared.token.TokenKind.{TokenKind}
use Rattle.aseba_tree.specs.declared.token.Key.{Key}
use Rattle.aseba_tree.specs.declared.token.Sign.{Sign}
use Rattle.aseba_tree.specs.Code.{Name, Expr, Exprs, stmt, if_then, emit, callsub, call, return, Stmts, no_stmts, stmts, Project}
use Rattle.aseba_tree.specs.View.{exprs_of, stmts_of}
use Rattle.aseba_tree.specs.Spells.{place, IsName, IsKey, IsSign, any_level, takes_argument}
use Rattle.aseba_tree.specs.Nest.{inside, enclosed}
use Rattle.aseba_parser.specs.Reading.{Read, taken, wrong, next, expected, is_sign, is_key, opened, list_read, level_read, inside_of, argument_read, arguments_read, enclosed_read, begins_stmt, stmt_by, stmt_read, other_by, other_read, block_of}
use Rattle.aseba_parser.proofs.Outcome.{reply, Fits, fits_both, fits_inside, fits_enclosed, reply_first, reply_next, reply_map}
use Rattle.aseba_parser.proofs.OutcomeSteps.{sign_is, reply_named, reply_opened, reply_closed}
use Rattle.aseba_parser.proofs.CompleteLevels.{IsRead}
use Rattle.aseba_parser.proofs.CompleteLeaves.{ends_paren}
use Rattle.aseba_parser.proofs.CompleteExprs.{IsListRead}
use Rattle.aseba_parser.proofs.CompleteBehind.{Begun, fresh, closes, begun_both, fresh_ends, begun_key}
use Rattle.aseba_parser.proofs.CompleteRows.{IsStmtRead, AreStmtsRead, IsOtherRead, block_opened, tested_reads, ended, end_closes}

pub if_tokens : (word then last : Token) (test inner behind rest : List Token) → word ∷ (test ++ then ∷ (inner ++ (behind ++ last ∷ rest))) ≡ (word ∷ (test ++ then ∷ (inner ++ (behind ++ last ∷ [])))) ++ rest
if_tokens word then last test inner behind rest = simp append_assoc

if_nests : (nc nb nm : List ℕ) → nc ++ 0 ∷ (nb ++ (nm ++ 0 ∷ [])) ≡ (nc ++ 0 ∷ (nb ++ nm)) ++ 0 ∷ []
if_nests nc nb nm = simp append_assoc

fits_if : (word then last : Token) (test inner behind : List Token) (nc nb nm : List ℕ) → Fits nc test → Fits nb inner → Fits nm behind → Fits (enclosed (nc ++ 0 ∷ (nb ++ nm))) (word ∷ (test ++ then ∷ (inner ++ (behind ++ last ∷ []))))
fits_if word then last test inner behind nc nb nm fc fb fo =
    subst (λ (ts : List Token). Fits (enclosed (nc ++ 0 ∷ (nb ++ nm))) (word ∷ ts)) (append_assoc test (then ∷ (inner ++ behind)) (last ∷ []) ∙ ap (λ (ts : List Token). test ++ then ∷ ts) (append_assoc inner behind (last ∷ [])))
    (fits_enclosed (nc ++ 0 ∷ (nb ++ nm)) (test ++ then ∷ (inner ++ behind)) word last (fits_both nc (0 ∷ (nb ++ nm)) test (then ∷ (inner ++ behind)) fc (fits_both nb nm inner behind fb fo)))

other_closes : (project : Project) (behind : List Token) (other : Stmts) (nm : List ℕ) (last : Token) (rest : List Token) → IsOtherRead project behind other nm → IsKey Key.End last → Begun closes (behind ++ last ∷ rest)
other_closes project behind other nm last rest d is_last = begun_both closes closes behind (last ∷ rest) d.begins (λ more b. b) (end_closes last rest is_last)

pub if_is_read : (project : Project) (word then last : Token) (test inner behind : List Token) (c : Expr) (body other : Stmts) (nc nb nm : List ℕ) → IsKey Key.If word → IsKey Key.Then then → IsKey Key.End last
    → IsRead any_level test c nc → AreStmtsRead project inner body nb → IsOtherRead project behind other nm
    → IsStmtRead project (word ∷ (test ++ then ∷ (inner ++ (behind ++ last ∷ [])))) (stmt word.at.line (place word) (if_then c body other)) (enclosed (nc ++ 0 ∷ (nb ++ nm)))
if_is_read project word then last test inner behind c body other nc nb nm is_word is_then is_last dc db d_other = record {
  first = word;
  others = test ++ then ∷ (inner ++ (behind ++ last ∷ []));
  whole = refl;
  begins = ap begins_stmt is_word;
  fits = fits_if word then last test inner behind nc nb nm dc.fits db.fits d_other.fits;
  reads = λ depth rest begun.
      let made = stmt word.at.line (place word) (if_then c body other) in
      let tokens = test ++ then ∷ (inner ++ (behind ++ last ∷ rest)) in
      subst (λ (ts : List Token). stmt_read project depth (block_of project depth) ts ≡ reply depth (enclosed (nc ++ 0 ∷ (nb ++ nm))) ts made) (if_tokens word then last test inner behind rest)
      (ap (stmt_by project depth (block_of project depth) word tokens) is_word
      ∙ block_opened project depth (nc ++ 0 ∷ (nb ++ (nm ++ 0 ∷ []))) word tokens made _
      (λ d. tested_reads project d Key.Then then test inner (behind ++ last ∷ rest) c body nc nb (nm ++ 0 ∷ []) made _ is_then refl dc db (other_closes project behind other nm last rest d_other is_last)
      (ap (λ (r : Read Stmts). next r (λ other last. next (expected (is_key Key.End) last) (λ end behind. taken (stmt word.at.line (place word) (if_then c body other)) behind))) (d_other.reads d last rest is_last)
      ∙ reply_next d nm (0 ∷ []) behind (last ∷ rest) other made _ d_other.fits (ended d last rest made is_last)))
      ∙ ap (λ (ns : List ℕ). reply depth (inside (0 ∷ ns)) (word ∷ tokens) made) (if_nests nc nb nm));
}

pub no_other_read : (project : Project) → IsOtherRead project [] no_stmts []
no_other_read project = record {
  fits = tt;
  begins = tt;
  reads = λ depth last rest is_last. ap (λ (k : TokenKind). other_by project depth (block_of project depth) last rest (is_key Key.Else k) (is_key Key.ElseIf k)) is_last;
}

pub else_is_read : (project : Project) (word : Token) (inner : List Token) (body : Stmts) (nb : List ℕ) → IsKey Key.Else word → AreStmtsRead project inner body nb → IsOtherRead project (word ∷ inner) body (0 ∷ nb)
else_is_read project word inner body nb is_word db = record {
  fits = db.fits;
  begins = begun_key closes Key.Else word inner is_word refl;
  reads = λ depth last rest is_last.
      ap (λ (k : TokenKind). other_by project depth (block_of project depth) word (inner ++ last ∷ rest) (is_key Key.Else k) (is_key Key.ElseIf k)) is_word
      ∙ db.reads depth (last ∷ rest) (end_closes last rest is_last)
      ∙ sym (reply_first depth nb word (inner ++ last ∷ rest) body);
}

pub elseif_is_read : (project : Project) (word then : Token) (test inner behind : List Token) (c : Expr) (body more : Stmts) (nc nb nm : List ℕ) → IsKey Key.ElseIf word → IsKey Key.Then then
    → IsRead any_level test c nc → AreStmtsRead project inner body nb → IsOtherRead project behind more nm
    → IsOtherRead project (word ∷ (test ++ then ∷ (inner ++ behind))) (stmts (stmt word.at.line (place word) (if_then c body more)) no_stmts) (inside (0 ∷ (nc ++ 0 ∷ (nb ++ nm))))
elseif_is_read project word then test inner behind c body more nc nb nm is_word is_then dc db d_other = record {
  fits = fits_inside (nc ++ 0 ∷ (nb ++ nm)) (test ++ then ∷ (inner ++ behind)) (fits_both nc (0 ∷ (nb ++ nm)) test (then ∷ (inner ++ behind)) dc.fits (fits_both nb nm inner behind db.fits d_other.fits));
  begins = begun_key closes Key.ElseIf word (test ++ then ∷ (inner ++ behind)) is_word refl;
  reads = λ depth last rest is_last.
      let made = stmts (stmt word.at.line (place word) (if_then c body more)) no_stmts in
      let tokens = test ++ then ∷ (inner ++ (behind ++ last ∷ rest)) in
      subst (λ (ts : List Token). other_read project depth (block_of project depth) (word ∷ ts) ≡ reply depth (inside (0 ∷ (nc ++ 0 ∷ (nb ++ nm)))) (word ∷ ts) made)
      (ap (λ (ts : List Token). test ++ then ∷ ts) (sym (append_assoc inner behind (last ∷ rest))) ∙ sym (append_assoc test (then ∷ (inner ++ behind)) (last ∷ rest)))
      (ap (λ (k : TokenKind). other_by project depth (block_of project depth) word tokens (is_key Key.Else k) (is_key Key.ElseIf k)) is_word
      ∙ block_opened project depth (nc ++ 0 ∷ (nb ++ nm)) word tokens made _
      (λ d. tested_reads project d Key.Then then test inner (behind ++ last ∷ rest) c body nc nb nm made _ is_then refl dc db (other_closes project behind more nm last rest d_other is_last)
      (ap (λ (r : Read Stmts). next r (λ more behind. taken (stmts_of (stmt word.at.line (place word) (if_then c body more) ∷ [])) behind)) (d_other.reads d last rest is_last)
      ∙ reply_map d nm (behind ++ last ∷ rest) more made _ (λ rest. refl))));
}

pub return_is_read : (project : Project) (word : Token) → IsKey Key.Return word → IsStmtRead project (word ∷ []) (stmt word.at.line (place word) return) (0 ∷ [])
return_is_read project word is_word = record {
  first = word;
  others = [];
  whole = refl;
  begins = ap begins_stmt is_word;
  fits = tt;
  reads = λ depth rest begun. ap (stmt_by project depth (block_of project depth) word rest) is_word ∙ sym (reply_first depth [] word rest (stmt word.at.line (place word) return));
}

pub callsub_is_read : (project : Project) (word called : Token) (name : Name) → IsKey Key.CallSub word → IsName name called → IsStmtRead project (word ∷ called ∷ []) (stmt word.at.line (place called) (callsub name)) (0 ∷ 0 ∷ [])
callsub_is_read project word called name is_word is_name = record {
  first = word;
  others = called ∷ [];
  whole = refl;
  begins = ap begins_stmt is_word;
  fits = tt;
  reads = λ depth rest begun.
      let made = stmt word.at.line (place called) (callsub name) in
      ap (stmt_by project depth (block_of project depth) word (called ∷ rest)) is_word
      ∙ reply_named depth [] called rest name made (λ n behind. taken (stmt word.at.line (place n.token) (callsub n.name)) behind) is_name refl
      ∙ sym (reply_first depth (0 ∷ []) word (called ∷ rest) made);
}

-- the expression of an `emit`
pub record IsArgumentRead (project : Project) (name : Name) (used : List Token) (argument : Option Expr) (ns : List ℕ) : Type 0 where
  pub fits : Fits ns used
  pub reads : (depth : ℕ) (rest : List Token) → Begun fresh rest → argument_read depth (takes_argument project name) (used ++ rest) ≡ reply depth ns (used ++ rest) argument

pub no_argument_read : (project : Project) (name : Name) → takes_argument project name ≡ false → IsArgumentRead project name [] None []
no_argument_read project name takes = record { fits = tt; reads = λ depth rest begun. ap (λ (b : Bool). argument_read depth b rest) takes }

pub an_argument_read : (project : Project) (name : Name) (used : List Token) (e : Expr) (ns : List ℕ) → takes_argument project name ≡ true → IsRead any_level used e ns → IsArgumentRead project name used (Some e) ns
an_argument_read project name used e ns takes d = record {
  fits = d.fits;
  reads = λ depth rest begun.
      ap (λ (b : Bool). argument_read depth b (used ++ rest)) takes
      ∙ ap (λ (r : Read Expr). next r (λ e behind. taken (Some e) behind)) (d.reads depth rest (fresh_ends any_level rest begun))
      ∙ reply_map depth ns (used ++ rest) e (Some e) (λ e behind. taken (Some e) behind) (λ rest. refl);
}

pub emit_is_read : (project : Project) (word event : Token) (given : List Token) (name : Name) (argument : Option Expr) (ns : List ℕ) → IsKey Key.Emit word → IsName name event → IsArgumentRead project name given argument ns
    → IsStmtRead project (word ∷ event ∷ given) (stmt word.at.line (place event) (emit name argument)) (0 ∷ 0 ∷ ns)
emit_is_read project word event given name argument ns is_word is_name d = record {
  first = word;
  others = event ∷ given;
  whole = refl;
  begins = ap begins_stmt is_word;
  fits = d.fits;
  reads = λ depth rest begun.
      let made = λ (argument : Option Expr). stmt word.at.line (place event) (emit name argument) in
      ap (stmt_by project depth (block_of project depth) word (event ∷ (given ++ rest))) is_word
      ∙ reply_named depth ns event (given ++ rest) name (made argument)
      (λ n after. next (argument_read depth (takes_argument project n.name) after) (λ argument behind. taken (stmt word.at.line (place n.token) (emit n.name argument)) behind)) is_name
      (ap (λ (r : Read (Option Expr)). next r (λ argument behind. taken (made argument) behind)) (d.reads depth rest begun)
      ∙ reply_map depth ns (given ++ rest) argument (made argument) (λ argument behind. taken (made argument) behind) (λ rest. refl))
      ∙ sym (reply_first depth (0 ∷ ns) word (event ∷ (given ++ rest)) (made argument));
}

-- the arguments of a `call`
pub record AreArgumentsRead (used : List Token) (es : Exprs) (ns : List ℕ) : Type 0 where
  pub fits : Fits ns used
  pub reads : (depth : ℕ) (closing : Token) (rest : List Token) → IsSign Sign.CloseParen closing → arguments_read (level_read (inside_of depth)) (used ++ closing ∷ rest) ≡ reply depth (ns ++ 0 ∷ []) (used ++ closing ∷ rest) es

pub no_arguments_read : AreArgumentsRead [] (exprs_of []) []
no_arguments_read = record {
  fits = tt;
  reads = λ depth closing rest is_close.
      let read = level_read (inside_of depth) in
      ap (λ (q : Bool). elim q as (λ c. Read Exprs) [
        | true ↦ taken (exprs_of []) rest
        | false ↦ next (list_read read (closing ∷ rest)) (λ es after. next (expected (is_sign Sign.CloseParen) after) (λ closing behind. taken es behind))
      ]) (sign_is Sign.CloseParen closing is_close)
      ∙ sym (reply_first depth [] closing rest (exprs_of []));
}

pub some_arguments_read : (used : List Token) (es : Exprs) (ns : List ℕ) → IsListRead used es ns → AreArgumentsRead used es ns
some_arguments_read used es ns d = record {
  fits = d.fits;
  reads = λ depth closing rest is_close.
      let read = level_read (inside_of depth) in
      let closed = λ (es : Exprs) (after : List Token). next (expected (is_sign Sign.CloseParen) after) (λ closing behind. taken es behind) in
      ap (λ (ts : List Token). arguments_read read (ts ++ closing ∷ rest)) d.starts.whole
      ∙ ap (λ (q : Bool). elim q as (λ c. Read Exprs) [ true ↦ taken (exprs_of []) (d.starts.others ++ closing ∷ rest) | false ↦ next (list_read read (d.starts.first ∷ (d.starts.others ++ closing ∷ rest))) closed ]) d.starts.is_open
      ∙ ap (λ (ts : List Token). next (list_read read (ts ++ closing ∷ rest)) closed) (sym d.starts.whole)
      ∙ reply_closed Sign.CloseParen depth ns used rest closing (list_read read (used ++ closing ∷ rest)) es (λ es. es) is_close d.fits
      (d.reads depth (closing ∷ rest) (ends_paren closing rest any_level is_close) (ap (λ (kind : TokenKind). is_sign Sign.Comma kind) is_close));
}

pub call_is_read : (project : Project) (word called opening closing : Token) (given : List Token) (name : Name) (es : Exprs) (ns : List ℕ) → IsKey Key.Call word → IsName name called → IsSign Sign.OpenParen opening → IsSign Sign.CloseParen closing
    → AreArgumentsRead given es ns → IsStmtRead project (word ∷ called ∷ opening ∷ (given ++ closing ∷ [])) (stmt word.at.line (place called) (call name es)) (0 ∷ 0 ∷ enclosed ns)
call_is_read project word called opening closing given name es ns is_word is_name is_open is_close d = record {
  first = word;
  others = called ∷ opening ∷ (given ++ closing ∷ []);
  whole = refl;
  begins = ap begins_stmt is_word;
  fits = fits_enclosed ns given opening closing d.fits;
  reads = λ depth rest begun.
      let made = λ (es : Exprs). stmt word.at.line (place called) (call name es) in
      let tokens = given ++ closing ∷ rest in
      subst (λ (ts : List Token). stmt_read project depth (block_of project depth) (word ∷ called ∷ opening ∷ ts) ≡ reply depth (0 ∷ 0 ∷ enclosed ns) (word ∷ called ∷ opening ∷ ts) (made es)) (sym (append_assoc given (closing ∷ []) rest))
      (ap (stmt_by project depth (block_of project depth) word (called ∷ opening ∷ tokens)) is_word
      ∙ reply_named depth (enclosed ns) called (opening ∷ tokens) name (made es)
      (λ n after. next (enclosed_read (inside_of depth) after) (λ es behind. taken (stmt word.at.line (place n.token) (call n.name es)) behind)) is_name
      (ap (λ (q : Bool). next (elim q as (λ c. Read Exprs) [ true ↦ opened (inside_of depth) (opening ∷ tokens) (λ read. arguments_read read tokens) | false ↦ wrong (opening ∷ tokens) ]) (λ es behind. taken (made es) behind)) (sign_is Sign.OpenParen opening is_open)
      ∙ ap (λ (r : Read Exprs). next r (λ es behind. taken (made es) behind))
      (reply_opened inside_of (λ k. level_read (inside_of k)) refl (λ k. refl) depth (ns ++ 0 ∷ []) opening tokens es (λ read. arguments_read read tokens) (λ k. d.reads k closing rest is_close))
      ∙ reply_map depth (enclosed ns) (opening ∷ tokens) es (made es) (λ es behind. taken (made es) behind) (λ rest. refl))
      ∙ sym (reply_first depth (0 ∷ enclosed ns) word (called ∷ opening ∷ tokens) (made es)));
}
