-- What is read of the tokens that spell one statement, row by row.
use Rattle.std.proofs.Common.{◌≡◌, ◌∙◌, ℕ, true, false, List, [], ◌∷◌, ◌++◌, Option, Some, None, refl, sym, ap, subst, append_assoc}
use Rattle.aseba_words.specs.declared.operators.Binary.{Binary}
use Rattle.aseba_tree.specs.declared.token.Token.{Token}
use Rattle.aseba_tree.specs.declared.token.TokenKind.{TokenKind}
use Rattle.aseba_tree.specs.declared.token.Key.{Key}
use Rattle.aseba_tree.specs.declared.token.Sign.{Sign}
use Rattle.aseba_tree.specs.Code.{Expr, Target, Stmt, stmt, assign, change, bump, when_do, while_do, Stmts, Project}
use Rattle.aseba_tree.specs.Spells.{place, IsKey, IsSign, changing, stepping, any_level}
use Rattle.aseba_tree.specs.Nest.{inside, enclosed}
use Rattle.aseba_parser.specs.Reading.{Read, taken, next, expected, is_sign, is_key, opened, expr_read, Block, set_by, set_end, set_read, Tested, tested_read, begins_stmt, stmt_by, stmt_read, stmts_read, other_read, block_of}
use Rattle.aseba_parser.proofs.Outcome.{reply, Fits, fits_both, fits_enclosed, reply_first, reply_next, reply_map}
use Rattle.aseba_parser.proofs.OutcomeSteps.{key_is, reply_expected, reply_opened}
use Rattle.aseba_parser.proofs.OutcomeEnds.{Unindexed}
use Rattle.aseba_parser.proofs.CompleteLevels.{IsRead}
use Rattle.aseba_parser.proofs.CompleteLeaves.{IsTargetRead}
use Rattle.aseba_parser.proofs.CompleteBehind.{Begun, fresh, closes, fresh_ends, begun_key, changing_opens_nothing, stepping_opens_nothing, changing_is_no_step}

-- The tokens are read as that statement, whatever stands behind them that begins afresh.
pub record IsStmtRead (project : Project) (used : List Token) (s : Stmt) (ns : List ℕ) : Type 0 where
  pub first : Token
  pub others : List Token
  pub whole : used ≡ first ∷ others
  pub begins : begins_stmt first.kind ≡ true
  pub fits : Fits ns used
  pub reads : (depth : ℕ) (rest : List Token) → Begun fresh rest → stmt_read project depth (block_of project depth) (used ++ rest) ≡ reply depth ns (used ++ rest) s

-- The tokens are read as those statements, whatever closes them.
pub record AreStmtsRead (project : Project) (used : List Token) (ss : Stmts) (ns : List ℕ) : Type 0 where
  pub fits : Fits ns used
  pub begins : Begun begins_stmt used
  pub reads : (depth : ℕ) (rest : List Token) → Begun closes rest → stmts_read project depth (block_of project depth) (used ++ rest) ≡ reply depth ns (used ++ rest) ss

-- The tokens are read as what stands between the first branch of an `if` and its `end`.
pub record IsOtherRead (project : Project) (used : List Token) (other : Stmts) (ns : List ℕ) : Type 0 where
  pub fits : Fits ns used
  pub begins : Begun closes used
  pub reads : (depth : ℕ) (last : Token) (rest : List Token) → IsKey Key.End last → other_read project depth (block_of project depth) (used ++ last ∷ rest) ≡ reply depth ns (used ++ last ∷ rest) other

-- Behind a target: a sign and what it sets.
record IsSetRead (more : List Token) (target : Target) (s : Stmt) (ns : List ℕ) : Type 0 where
  fits : Fits ns more
  sign : Token
  others : List Token
  whole : more ≡ sign ∷ others
  free : is_sign Sign.OpenBracket sign.kind ≡ false
  reads : (depth : ℕ) (rest : List Token) → Begun fresh rest → set_end depth target (more ++ rest) ≡ reply depth ns (more ++ rest) s

set_is_read : (project : Project) (left more : List Token) (target : Target) (s : Stmt) (nt ns : List ℕ) → IsTargetRead left target nt → IsSetRead more target s ns → IsStmtRead project (left ++ more) s (nt ++ ns)
set_is_read project left more target s nt ns dt ds = record {
  first = dt.first;
  others = dt.others ++ more;
  whole = ap (λ (ts : List Token). ts ++ more) dt.whole;
  begins = ap begins_stmt dt.named;
  fits = fits_both nt ns left more dt.fits ds.fits;
  reads = λ depth rest begun.
      subst (λ (ts : List Token). stmt_read project depth (block_of project depth) ts ≡ reply depth (nt ++ ns) ts s) (sym (append_assoc left more rest))
      (ap (λ (ts : List Token). stmt_read project depth (block_of project depth) (ts ++ (more ++ rest))) dt.whole
      ∙ ap (stmt_by project depth (block_of project depth) dt.first (dt.others ++ (more ++ rest))) dt.named
      ∙ ap (λ (ts : List Token). set_read depth (ts ++ (more ++ rest))) (sym dt.whole)
      ∙ ap (λ (r : Read Target). next r (λ target after. set_end depth target after)) (dt.reads depth (more ++ rest) (subst (λ (ts : List Token). Unindexed (ts ++ rest)) (sym ds.whole) ds.free))
      ∙ reply_next depth nt ns left (more ++ rest) target s (λ target after. set_end depth target after) dt.fits (ds.reads depth rest begun));
}

pub assignment_is_read : (project : Project) (left right : List Token) (sign : Token) (target : Target) (e : Expr) (nt ns : List ℕ) → IsSign Sign.Assign sign → IsTargetRead left target nt → IsRead any_level right e ns
    → IsStmtRead project (left ++ sign ∷ right) (stmt target.place.line (place sign) (assign target e)) (nt ++ 0 ∷ ns)
assignment_is_read project left right sign target e nt ns is_assign dt d = set_is_read project left (sign ∷ right) target (stmt target.place.line (place sign) (assign target e)) nt (0 ∷ ns) dt (record {
  fits = d.fits;
  sign = sign;
  others = right;
  whole = refl;
  free = ap (λ (k : TokenKind). is_sign Sign.OpenBracket k) is_assign;
  reads = λ depth rest begun.
      let made = λ (e : Expr). stmt target.place.line (place sign) (assign target e) in
      ap (λ (k : TokenKind). set_by depth target sign (right ++ rest) (stepping k) (changing k) (is_sign Sign.Assign k)) is_assign
      ∙ ap (λ (r : Read Expr). next r (λ e behind. taken (made e) behind)) (d.reads depth rest (fresh_ends any_level rest begun))
      ∙ reply_map depth ns (right ++ rest) e (made e) (λ e behind. taken (made e) behind) (λ rest. refl)
      ∙ sym (reply_first depth ns sign (right ++ rest) (made e));
})

pub change_is_read : (project : Project) (left right : List Token) (sign : Token) (op : Binary) (target : Target) (e : Expr) (nt ns : List ℕ) → changing sign.kind ≡ Some op → IsTargetRead left target nt → IsRead any_level right e ns
    → IsStmtRead project (left ++ sign ∷ right) (stmt target.place.line (place sign) (change target op e)) (nt ++ 0 ∷ ns)
change_is_read project left right sign op target e nt ns changes dt d = set_is_read project left (sign ∷ right) target (stmt target.place.line (place sign) (change target op e)) nt (0 ∷ ns) dt (record {
  fits = d.fits;
  sign = sign;
  others = right;
  whole = refl;
  free = changing_opens_nothing sign.kind op changes;
  reads = λ depth rest begun.
      let made = λ (e : Expr). stmt target.place.line (place sign) (change target op e) in
      ap (λ (o : Option Binary). set_by depth target sign (right ++ rest) o (changing sign.kind) (is_sign Sign.Assign sign.kind)) (changing_is_no_step sign.kind op changes)
      ∙ ap (λ (o : Option Binary). set_by depth target sign (right ++ rest) None o (is_sign Sign.Assign sign.kind)) changes
      ∙ ap (λ (r : Read Expr). next r (λ e behind. taken (made e) behind)) (d.reads depth rest (fresh_ends any_level rest begun))
      ∙ reply_map depth ns (right ++ rest) e (made e) (λ e behind. taken (made e) behind) (λ rest. refl)
      ∙ sym (reply_first depth ns sign (right ++ rest) (made e));
})

pub bump_is_read : (project : Project) (left : List Token) (sign : Token) (op : Binary) (target : Target) (nt : List ℕ) → stepping sign.kind ≡ Some op → IsTargetRead left target nt
    → IsStmtRead project (left ++ sign ∷ []) (stmt target.place.line (place sign) (bump target op)) (nt ++ 0 ∷ [])
bump_is_read project left sign op target nt steps dt = set_is_read project left (sign ∷ []) target (stmt target.place.line (place sign) (bump target op)) nt (0 ∷ []) dt (record {
  fits = tt;
  sign = sign;
  others = [];
  whole = refl;
  free = stepping_opens_nothing sign.kind op steps;
  reads = λ depth rest begun.
      ap (λ (o : Option Binary). set_by depth target sign rest o (changing sign.kind) (is_sign Sign.Assign sign.kind)) steps
      ∙ sym (reply_first depth [] sign rest (stmt target.place.line (place sign) (bump target op)));
})

-- The block inside, one level deeper.
abbrev pub block_inside : Project → ℕ → Block
block_inside project depth = record { expr = expr_read depth any_level; stmts = stmts_read project depth (block_of project depth); other = other_read project depth (block_of project depth) }

-- what a keyword opens
pub block_opened : {B : Type 0} (project : Project) (depth : ℕ) (ns : List ℕ) (t : Token) (tokens : List Token) (b : B) (f : Block → Read B) → ((d : ℕ) → f (block_inside project d) ≡ reply d ns tokens b)
    → opened (block_of project depth) (t ∷ tokens) f ≡ reply depth (inside (0 ∷ ns)) (t ∷ tokens) b
block_opened project depth ns t tokens b f e = reply_opened (block_of project) (block_inside project) refl (λ d. refl) depth ns t tokens b f e

-- a test, a word and the statements of a branch, with what is read behind them
pub tested_reads : {B : Type 0} (project : Project) (depth : ℕ) (key : Key) (word : Token) (test inner rest : List Token) (c : Expr) (body : Stmts) (nc nb ms : List ℕ) (b : B) (f : Tested → List Token → Read B) → IsKey key word → fresh (TokenKind.Key key) ≡ true
    → IsRead any_level test c nc → AreStmtsRead project inner body nb → Begun closes rest → f (record { test = c; body = body }) rest ≡ reply depth ms rest b
    → next (tested_read (block_inside project depth) key (test ++ word ∷ (inner ++ rest))) f ≡ reply depth (nc ++ 0 ∷ (nb ++ ms)) (test ++ word ∷ (inner ++ rest)) b
tested_reads project depth key word test inner rest c body nc nb ms b f is_word is_fresh dc db closed behind =
    let block = block_inside project depth in
    let tested : Tested = record { test = c; body = body } in
    let made = λ (body : Stmts) (after : List Token). taken (record { test = c; body = body }) after in
    let stmts_then = λ (do_word : Token) (inner : List Token). next (block.stmts inner) made in
    let word_then = λ (c : Expr) (after : List Token). next (expected (is_key key) after) (λ do_word inner. next (block.stmts inner) (λ body behind. taken (record { test = c; body = body }) behind)) in
    let one : tested_read block key (test ++ word ∷ (inner ++ rest)) ≡ reply depth (nc ++ 0 ∷ nb) (test ++ word ∷ (inner ++ rest)) tested =
    ap (λ (r : Read Expr). next r word_then) (dc.reads depth (word ∷ (inner ++ rest)) (fresh_ends any_level (word ∷ (inner ++ rest)) (begun_key fresh key word (inner ++ rest) is_word is_fresh)))
    ∙ reply_next depth nc (0 ∷ nb) test (word ∷ (inner ++ rest)) c tested word_then dc.fits
    (reply_expected (is_key key) depth nb word (inner ++ rest) tested stmts_then (key_is key word is_word)
    (ap (λ (r : Read Stmts). next r made) (db.reads depth rest closed) ∙ reply_map depth nb (inner ++ rest) body tested made (λ rest. refl))) in
    let joined : (nc ++ 0 ∷ nb) ++ ms ≡ nc ++ 0 ∷ (nb ++ ms) = append_assoc nc (0 ∷ nb) ms in
    let grouped : (test ++ word ∷ inner) ++ rest ≡ test ++ word ∷ (inner ++ rest) = append_assoc test (word ∷ inner) rest in
    ap (λ (r : Read Tested). next r f) one
    ∙ ap (λ (ts : List Token). next (reply depth (nc ++ 0 ∷ nb) ts tested) f) (sym grouped)
    ∙ reply_next depth (nc ++ 0 ∷ nb) ms (test ++ word ∷ inner) rest tested b f (fits_both nc (0 ∷ nb) test (word ∷ inner) dc.fits db.fits) behind
    ∙ ap (λ (ts : List Token). reply depth ((nc ++ 0 ∷ nb) ++ ms) ts b) grouped
    ∙ ap (λ (ns : List ℕ). reply depth ns (test ++ word ∷ (inner ++ rest)) b) joined

-- an `end`, and what is made of the parts before it
pub ended : {B : Type 0} (depth : ℕ) (last : Token) (rest : List Token) (b : B) → IsKey Key.End last → next (expected (is_key Key.End) (last ∷ rest)) (λ end behind. taken b behind) ≡ reply depth (0 ∷ []) (last ∷ rest) b
ended depth last rest b is_last = reply_expected (is_key Key.End) depth [] last rest b (λ end behind. taken b behind) (key_is Key.End last is_last) refl

pub end_closes : (last : Token) (rest : List Token) → IsKey Key.End last → Begun closes (last ∷ rest)
end_closes last rest is_last = begun_key closes Key.End last rest is_last refl

pub looped_tokens : (word then last : Token) (test inner rest : List Token) → word ∷ (test ++ then ∷ (inner ++ last ∷ rest)) ≡ (word ∷ (test ++ then ∷ (inner ++ last ∷ []))) ++ rest
looped_tokens word then last test inner rest = simp append_assoc

looped_nests : (nc nb : List ℕ) → nc ++ 0 ∷ (nb ++ 0 ∷ []) ≡ (nc ++ 0 ∷ nb) ++ 0 ∷ []
looped_nests nc nb = sym (append_assoc nc (0 ∷ nb) (0 ∷ []))

fits_looped : (word then last : Token) (test inner : List Token) (nc nb : List ℕ) → Fits nc test → Fits nb inner → Fits (enclosed (nc ++ 0 ∷ nb)) (word ∷ (test ++ then ∷ (inner ++ last ∷ [])))
fits_looped word then last test inner nc nb fc fb =
    subst (λ (ts : List Token). Fits (enclosed (nc ++ 0 ∷ nb)) (word ∷ ts)) (append_assoc test (then ∷ inner) (last ∷ []))
    (fits_enclosed (nc ++ 0 ∷ nb) (test ++ then ∷ inner) word last (fits_both nc (0 ∷ nb) test (then ∷ inner) fc fb))

pub when_is_read : (project : Project) (word do_word last : Token) (test inner : List Token) (c : Expr) (body : Stmts) (nc nb : List ℕ) → IsKey Key.When word → IsKey Key.Do do_word → IsKey Key.End last
    → IsRead any_level test c nc → AreStmtsRead project inner body nb
    → IsStmtRead project (word ∷ (test ++ do_word ∷ (inner ++ last ∷ []))) (stmt word.at.line (place word) (when_do c body)) (enclosed (nc ++ 0 ∷ nb))
when_is_read project word do_word last test inner c body nc nb is_word is_do is_last dc db = record {
  first = word;
  others = test ++ do_word ∷ (inner ++ last ∷ []);
  whole = refl;
  begins = ap begins_stmt is_word;
  fits = fits_looped word do_word last test inner nc nb dc.fits db.fits;
  reads = λ depth rest begun.
      let made = stmt word.at.line (place word) (when_do c body) in
      let tokens = test ++ do_word ∷ (inner ++ last ∷ rest) in
      subst (λ (ts : List Token). stmt_read project depth (block_of project depth) ts ≡ reply depth (enclosed (nc ++ 0 ∷ nb)) ts made) (looped_tokens word do_word last test inner rest)
      (ap (stmt_by project depth (block_of project depth) word tokens) is_word
      ∙ block_opened project depth (nc ++ 0 ∷ (nb ++ 0 ∷ [])) word tokens made
      (λ block. next (tested_read block Key.Do tokens) (λ branch last. next (expected (is_key Key.End) last) (λ end behind. taken (stmt word.at.line (place word) (when_do branch.test branch.body)) behind)))
      (λ d. tested_reads project d Key.Do do_word test inner (last ∷ rest) c body nc nb (0 ∷ []) made
      (λ branch last. next (expected (is_key Key.End) last) (λ end behind. taken (stmt word.at.line (place word) (when_do branch.test branch.body)) behind)) is_do refl dc db (end_closes last rest is_last) (ended d last rest made is_last))
      ∙ ap (λ (ns : List ℕ). reply depth (inside (0 ∷ ns)) (word ∷ tokens) made) (looped_nests nc nb));
}

pub while_is_read : (project : Project) (word do_word last : Token) (test inner : List Token) (c : Expr) (body : Stmts) (nc nb : List ℕ) → IsKey Key.While word → IsKey Key.Do do_word → IsKey Key.End last
    → IsRead any_level test c nc → AreStmtsRead project inner body nb
    → IsStmtRead project (word ∷ (test ++ do_word ∷ (inner ++ last ∷ []))) (stmt word.at.line (place word) (while_do c body)) (enclosed (nc ++ 0 ∷ nb))
while_is_read project word do_word last test inner c body nc nb is_word is_do is_last dc db = record {
  first = word;
  others = test ++ do_word ∷ (inner ++ last ∷ []);
  whole = refl;
  begins = ap begins_stmt is_word;
  fits = fits_looped word do_word last test inner nc nb dc.fits db.fits;
  reads = λ depth rest begun.
      let made = stmt word.at.line (place word) (while_do c body) in
      let tokens = test ++ do_word ∷ (inner ++ last ∷ rest) in
      subst (λ (ts : List Token). stmt_read project depth (block_of project depth) ts ≡ reply depth (enclosed (nc ++ 0 ∷ nb)) ts made) (looped_tokens word do_word last test inner rest)
      (ap (stmt_by project depth (block_of project depth) word tokens) is_word
      ∙ block_opened project depth (nc ++ 0 ∷ (nb ++ 0 ∷ [])) word tokens made
      (λ block. next (tested_read block Key.Do tokens) (λ branch last. next (expected (is_key Key.End) last) (λ end behind. taken (stmt word.at.line (place word) (while_do branch.test branch.body)) behind)))
      (λ d. tested_reads project d Key.Do do_word test inner (last ∷ rest) c body nc nb (0 ∷ []) made
      (λ branch last. next (expected (is_key Key.End) last) (λ end behind. taken (stmt word.at.line (place word) (while_do branch.test branch.body)) behind)) is_do refl dc db (end_closes last rest is_last) (ended d last rest made is_last))
      ∙ ap (λ (ns : List ℕ). reply depth (inside (0 ∷ ns)) (word ∷ tokens) made) (looped_nests nc nb));
}
