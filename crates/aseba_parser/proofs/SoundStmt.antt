-- Statements: what is read is spelled so.
use Rattle.std.proofs.Common.{◌≡◌, refl, ap, ℕ, zero, suc, List, [], ◌∷◌, ◌++◌, Bool, true, false}
use Rattle.std.specs.Prelude.{Option, Some, None}
use Rattle.std.proofs.lemmas.List.{append_assoc}
use Rattle.aseba_words.specs.declared.operators.Binary.{Binary}
use Rattle.aseba_tree.specs.declared.token.Token.{Token}
use Rattle.aseba_tree.specs.declared.token.TokenKind.{TokenKind}
use Rattle.aseba_tree.specs.declared.token.Key.{Key}
use Rattle.aseba_tree.specs.declared.token.Sign.{Sign}
use Rattle.aseba_tree.specs.Code.{Name, Expr, Exprs, Target, Stmt, Stmts, no_stmts, stmts, Project}
use Rattle.aseba_tree.specs.View.{exprs_of, stmts_of}
use Rattle.aseba_tree.specs.Spells.{changing, stepping, any_level, takes_argument, IsName, IsKey, IsSign, SpellsExpr, SpellsTarget, SpellsStep, no_step, a_step, SpellsArgument, no_argument, an_argument, SpellsArguments, no_arguments, some_arguments, SpellsStmts, nothing, an_assignment, a_change, a_bump, an_if, a_when, a_while, a_for, an_emit, a_callsub, a_call, a_return, SpellsOther, no_other, an_else, an_elseif}
use Rattle.aseba_parser.specs.Reading.{Read, wrong, is_sign, is_key, Inside, inside_of, Block, set_by, set_end, set_read, Tested, tested_read, if_read, when_read, while_read, step_read, Counted, head_read, for_read, argument_read, emit_read, callsub_read, arguments_read, enclosed_read, call_read, begins_stmt, stmt_by, stmt_read, stmts_read, elseif_read, other_by, other_read, block_of}
use Rattle.aseba_parser.proofs.Laws.{Beginning}
use Rattle.aseba_parser.proofs.Means.{made, Told, done, fault, behind_first, behind, finally, told_as, by_test, is_the_sign, is_the_key, behind_sign, behind_key, behind_name, Many, no_more, another, all_read, Every, behind_opened}
use Rattle.aseba_parser.proofs.SoundExpr.{ReadsExpr, blind, blind_reads, list_reads, target_reads, inside_reads, expr_reads}

-- a statement in front of any others
abbrev pub OneStmt : Project → List Token → Stmt → Type 0
OneStmt project used s = (rest : List Token) (others : Stmts) → SpellsStmts project rest others → SpellsStmts project (used ++ rest) (stmts s others)

in_a_row : (project : Project) (tokens : List Token) (ss : List Stmt) → Many Stmt (OneStmt project) tokens ss → SpellsStmts project tokens (stmts_of ss)
in_a_row project tokens ss (no_more no_tokens none) = nothing no_tokens (ap stmts_of none)
in_a_row project tokens ss (another first rest s others parts are d ds) = rw (parts, are) (d rest (stmts_of others) (in_a_row project rest others ds))

-- what reads the inside of a block
pub record ReadsBlock (project : Project) (block : Block) : Type 0 where
  pub expr : (tokens : List Token) → Told (SpellsExpr any_level) tokens (block.expr tokens)
  pub stmts : (tokens : List Token) → Told (SpellsStmts project) tokens (block.stmts tokens)
  pub other : (tokens : List Token) → Told (SpellsOther project) tokens (block.other tokens)

-- a block's reader that takes nothing
abbrev blind_block : Block
blind_block = record { expr = blind any_level; stmts = λ tokens. wrong tokens; other = λ tokens. wrong tokens }

blind_block_reads : (project : Project) → ReadsBlock project blind_block
blind_block_reads project = record {
  expr = λ tokens. blind_reads any_level tokens;
  stmts = λ tokens. fault ([], no_stmts, nothing refl refl);
  other = λ tokens. fault ([], no_stmts, no_other refl refl);
}

-- `return`, with which each statement may begin that isn't there
stmt_begins : (project : Project) → Beginning (OneStmt project) []
stmt_begins project = (made (TokenKind.Key Key.Return) ∷ [], _, λ rest others ds. a_return (made (TokenKind.Key Key.Return)) rest others refl refl refl ds)

-- assignments
set_begins : (project : Project) (left : List Token) (target : Target) → SpellsTarget left target → Beginning (λ more s. OneStmt project (left ++ more) s) []
set_begins project left target d = (made (TokenKind.Sign Sign.PlusPlus) ∷ [], _, λ rest others ds. a_bump left rest (made (TokenKind.Sign Sign.PlusPlus)) _ target others refl (simp append_assoc) refl d ds)

set_by_reads : (project : Project) (depth : ℕ) (target : Target) (left : List Token) (t : Token) (rest : List Token) → SpellsTarget left target → (steps changes : Option Binary) (assigns : Bool) → stepping t.kind ≡ steps
    → changing t.kind ≡ changes → is_sign Sign.Assign t.kind ≡ assigns → Told (λ more s. OneStmt project (left ++ more) s) (t ∷ rest) (set_by depth target t rest steps changes assigns)
set_by_reads project depth target left t rest d (Some op) changes assigns is_step is_change is_assign =
    behind_first (done (λ more others ds. a_bump left more t op target others is_step (simp append_assoc) refl d ds))
set_by_reads project depth target left t rest d None (Some op) assigns is_step is_change is_assign =
    behind_first (finally _ (expr_reads depth any_level rest) (λ e right de more others ds. a_change left right more t op target e others is_change (simp append_assoc) refl d de ds))
set_by_reads project depth target left t rest d None None true is_step is_change is_assign =
    behind_first (finally _ (expr_reads depth any_level rest) (λ e right de more others ds. an_assignment left right more t target e others (is_the_sign Sign.Assign t is_assign) (simp append_assoc) refl d de ds))
set_by_reads project depth target left t rest d None None false is_step is_change is_assign = fault (set_begins project left target d)

set_end_reads : (project : Project) (depth : ℕ) (target : Target) (left : List Token) → SpellsTarget left target → (tokens : List Token) → Told (λ more s. OneStmt project (left ++ more) s) tokens (set_end depth target tokens)
set_end_reads project depth target left d [] = fault (set_begins project left target d)
set_end_reads project depth target left d (t ∷ rest) = set_by_reads project depth target left t rest d (stepping t.kind) (changing t.kind) (is_sign Sign.Assign t.kind) refl refl refl

set_reads : (project : Project) (depth : ℕ) (tokens : List Token) → Told (OneStmt project) tokens (set_read depth tokens)
set_reads project depth tokens = behind (target_reads (inside_of depth) (inside_reads depth) tokens) (λ target left after d. set_end_reads project depth target left d after)

-- a test with the word and the statements behind it
abbrev TestedSo : Project → Key → List Token → Tested → Type 0
TestedSo project word used tested =
    (then : Token) × (test : List Token) × (inner : List Token) × (used ≡ test ++ then ∷ inner) × IsKey word then × SpellsExpr any_level test tested.test × SpellsStmts project inner tested.body

tested_reads : (project : Project) (block : Block) → ReadsBlock project block → (word : Key) (tokens : List Token) → Told (TestedSo project word) tokens (tested_read block word tokens)
tested_reads project block reads word tokens =
    behind (reads.expr tokens) (λ c test after dc. behind_key word (λ then rest is_then. finally _ (reads.stmts rest) (λ body inner db. (then, test, inner, refl, is_then, dc, db))))

if_reads : (project : Project) (inside : Option Block) → Every (ReadsBlock project) inside → (t : Token) (rest : List Token) → IsKey Key.If t → Told (OneStmt project) (t ∷ rest) (if_read inside t rest)
if_reads project inside good t rest is_word = behind_opened (ReadsBlock project) inside good blind_block (blind_block_reads project) (λ block reads.
    behind (tested_reads project block reads Key.Then rest) (λ branch used after (then, test, inner, parts, is_then, dc, db). behind (reads.other after) (λ other others_tokens last dother. behind_key Key.End (λ end tail is_end.
    done (λ more others ds. an_if t then end test inner others_tokens more branch.test branch.body other others is_word is_then is_end (simp (parts, append_assoc)) refl dc db dother ds)))))

when_reads : (project : Project) (inside : Option Block) → Every (ReadsBlock project) inside → (t : Token) (rest : List Token) → IsKey Key.When t → Told (OneStmt project) (t ∷ rest) (when_read inside t rest)
when_reads project inside good t rest is_word = behind_opened (ReadsBlock project) inside good blind_block (blind_block_reads project) (λ block reads.
    behind (tested_reads project block reads Key.Do rest) (λ branch used after (do_word, test, inner, parts, is_do, dc, db). behind_key Key.End (λ end tail is_end.
    done (λ more others ds. a_when t do_word end test inner more branch.test branch.body others is_word is_do is_end (simp (parts, append_assoc)) refl dc db ds))))

while_reads : (project : Project) (inside : Option Block) → Every (ReadsBlock project) inside → (t : Token) (rest : List Token) → IsKey Key.While t → Told (OneStmt project) (t ∷ rest) (while_read inside t rest)
while_reads project inside good t rest is_word = behind_opened (ReadsBlock project) inside good blind_block (blind_block_reads project) (λ block reads.
    behind (tested_reads project block reads Key.Do rest) (λ branch used after (do_word, test, inner, parts, is_do, dc, db). behind_key Key.End (λ end tail is_end.
    done (λ more others ds. a_while t do_word end test inner more branch.test branch.body others is_word is_do is_end (simp (parts, append_assoc)) refl dc db ds))))

-- `for`
step_reads : (project : Project) (block : Block) → ReadsBlock project block → (tokens : List Token) → Told SpellsStep tokens (step_read block tokens)
step_reads project block reads [] = done (no_step refl refl)
step_reads project block reads (t ∷ rest) = by_test (is_key Key.Step t.kind)
    (λ is_step. behind_first (finally _ (reads.expr rest) (λ e inner d. a_step t inner e (is_the_key Key.Step t is_step) refl refl d)))
    (λ is_none. done (no_step refl refl))

record HeadSo (used : List Token) (counted : Counted) : Type 0 where
  in_word : Token
  colon : Token
  low : List Token
  high : List Token
  by : List Token
  parts : used ≡ counted.variable ∷ in_word ∷ (low ++ colon ∷ (high ++ by))
  is_name : IsName counted.head.name counted.variable
  is_in : IsKey Key.In in_word
  is_colon : IsSign Sign.Colon colon
  first : SpellsExpr any_level low counted.head.first
  last : SpellsExpr any_level high counted.head.last
  step : SpellsStep by counted.head.step

head_reads : (project : Project) (block : Block) → ReadsBlock project block → (tokens : List Token) → Told HeadSo tokens (head_read block tokens)
head_reads project block reads tokens = behind_name _ (λ variable name after_name is_name. behind_key Key.In (λ in_word first is_in. behind (reads.expr first) (λ a low after_first da. behind_sign Sign.Colon (λ colon last is_colon.
    behind (reads.expr last) (λ b high after_last db. finally _ (step_reads project block reads after_last) (λ step by dstep.
    record { in_word = in_word; colon = colon; low = low; high = high; by = by; parts = refl; is_name = is_name; is_in = is_in; is_colon = is_colon; first = da; last = db; step = dstep }))))))

for_reads : (project : Project) (inside : Option Block) → Every (ReadsBlock project) inside → (t : Token) (rest : List Token) → IsKey Key.For t → Told (OneStmt project) (t ∷ rest) (for_read inside t rest)
for_reads project inside good t rest is_word = behind_opened (ReadsBlock project) inside good blind_block (blind_block_reads project) (λ block reads.
    behind (head_reads project block reads rest) (λ counted used after head. behind_key Key.Do (λ do_word tokens is_do. behind (reads.stmts tokens) (λ body inner last db. behind_key Key.End (λ end tail is_end.
    done (λ more others ds. a_for t counted.variable head.in_word head.colon do_word end head.low head.high head.by inner more counted.head.name counted.head.first counted.head.last counted.head.step body others
    is_word head.is_name head.is_in head.is_colon is_do is_end (simp (head.parts, append_assoc)) refl head.first head.last head.step db ds))))))

-- `emit`, `callsub` and `call`
argument_reads : (project : Project) (depth : ℕ) (name : Name) (tokens : List Token) → Told (SpellsArgument project name) tokens (argument_read depth (takes_argument project name) tokens)
argument_reads project depth name tokens = by_takes (takes_argument project name) refl
  where
    by_takes : (takes : Bool) → takes_argument project name ≡ takes → Told (SpellsArgument project name) tokens (argument_read depth takes tokens)
    by_takes false e = done (no_argument e refl refl)
    by_takes true e = finally _ (expr_reads depth any_level tokens) (λ argument used d. an_argument argument e refl d)

emit_reads : (project : Project) (depth : ℕ) (t : Token) (rest : List Token) → IsKey Key.Emit t → Told (OneStmt project) (t ∷ rest) (emit_read project depth t rest)
emit_reads project depth t rest is_word = behind_first (behind_name _ (λ event name after is_name. finally _ (argument_reads project depth name after) (λ argument given d more others ds.
    an_emit t event given more name argument others is_word is_name refl refl d ds)))

callsub_reads : (project : Project) (t : Token) (rest : List Token) → IsKey Key.CallSub t → Told (OneStmt project) (t ∷ rest) (callsub_read t rest)
callsub_reads project t rest is_word = behind_first (behind_name _ (λ called name after is_name. done (λ more others ds. a_callsub t called more name others is_word is_name refl refl ds)))

abbrev EnclosedSo : List Token → Exprs → Type 0
EnclosedSo used es = (opening : Token) × (closing : Token) × (given : List Token) × (used ≡ opening ∷ (given ++ closing ∷ [])) × IsSign Sign.OpenParen opening × IsSign Sign.CloseParen closing × SpellsArguments given es

arguments_reads : (read : ℕ → List Token → Read Expr) → ReadsExpr read → (opening : Token) → IsSign Sign.OpenParen opening → (tokens : List Token) → Told (λ more es. EnclosedSo (opening ∷ more) es) tokens (arguments_read read tokens)
arguments_reads read reads opening is_open [] = fault (made (TokenKind.Sign Sign.CloseParen) ∷ [], exprs_of [], (opening, made (TokenKind.Sign Sign.CloseParen), [], refl, is_open, refl, no_arguments refl refl))
arguments_reads read reads opening is_open (t ∷ rest) = by_test (is_sign Sign.CloseParen t.kind)
    (λ is_close. behind_first (done (opening, t, [], refl, is_open, is_the_sign Sign.CloseParen t is_close, no_arguments refl refl)))
    (λ is_more. behind (list_reads read reads (t ∷ rest)) (λ es given after d. behind_sign Sign.CloseParen (λ closing last is_close. done (opening, closing, given, refl, is_open, is_close, some_arguments d))))

enclosed_begins : Beginning EnclosedSo []
enclosed_begins = (made (TokenKind.Sign Sign.OpenParen) ∷ made (TokenKind.Sign Sign.CloseParen) ∷ [], exprs_of [], (made (TokenKind.Sign Sign.OpenParen), made (TokenKind.Sign Sign.CloseParen), [], refl, refl, refl, no_arguments refl refl))

enclosed_reads : (inside : Inside) → Every ReadsExpr inside → (tokens : List Token) → Told EnclosedSo tokens (enclosed_read inside tokens)
enclosed_reads inside good [] = fault enclosed_begins
enclosed_reads inside good (t ∷ rest) = by_test (is_sign Sign.OpenParen t.kind)
    (λ is_open. behind_opened ReadsExpr inside good blind blind_reads (λ read reads. arguments_reads read reads t (is_the_sign Sign.OpenParen t is_open) rest))
    (λ is_other. fault enclosed_begins)

call_reads : (project : Project) (inside : Inside) → Every ReadsExpr inside → (t : Token) (rest : List Token) → IsKey Key.Call t → Told (OneStmt project) (t ∷ rest) (call_read inside t rest)
call_reads project inside good t rest is_word = behind_first (behind_name _ (λ called name after is_name. finally _ (enclosed_reads inside good after) (λ es used (opening, closing, given, parts, is_open, is_close, d) more others ds.
    a_call t called opening closing given more name es others is_word is_name is_open is_close (simp (parts, append_assoc)) refl d ds)))

-- each statement
stmt_by_reads : (project : Project) (depth : ℕ) (inside : Option Block) → Every (ReadsBlock project) inside → (t : Token) (rest : List Token) (kind : TokenKind) → t.kind ≡ kind → Told (OneStmt project) (t ∷ rest) (stmt_by project depth inside t rest kind)
stmt_by_reads project depth inside good t rest (TokenKind.Name name) is = set_reads project depth (t ∷ rest)
stmt_by_reads project depth inside good t rest (TokenKind.Key Key.If) is = if_reads project inside good t rest is
stmt_by_reads project depth inside good t rest (TokenKind.Key Key.When) is = when_reads project inside good t rest is
stmt_by_reads project depth inside good t rest (TokenKind.Key Key.While) is = while_reads project inside good t rest is
stmt_by_reads project depth inside good t rest (TokenKind.Key Key.For) is = for_reads project inside good t rest is
stmt_by_reads project depth inside good t rest (TokenKind.Key Key.Emit) is = emit_reads project depth t rest is
stmt_by_reads project depth inside good t rest (TokenKind.Key Key.CallSub) is = callsub_reads project t rest is
stmt_by_reads project depth inside good t rest (TokenKind.Key Key.Call) is = call_reads project (inside_of depth) (inside_reads depth) t rest is
stmt_by_reads project depth inside good t rest (TokenKind.Key Key.Return) is = behind_first (done (λ more others ds. a_return t more others is refl refl ds))
stmt_by_reads project depth inside good t rest _ is = fault (stmt_begins project)

stmt_reads : (project : Project) (depth : ℕ) (inside : Option Block) → Every (ReadsBlock project) inside → (tokens : List Token) → Told (OneStmt project) tokens (stmt_read project depth inside tokens)
stmt_reads project depth inside good [] = fault (stmt_begins project)
stmt_reads project depth inside good (t ∷ rest) = stmt_by_reads project depth inside good t rest t.kind refl

inner_stmts_reads : (project : Project) (depth : ℕ) (inside : Option Block) → Every (ReadsBlock project) inside → (tokens : List Token) → Told (SpellsStmts project) tokens (stmts_read project depth inside tokens)
inner_stmts_reads project depth inside good tokens =
    finally _ (all_read begins_stmt (stmt_read project depth inside) (λ t rest begins. stmt_reads project depth inside good (t ∷ rest)) tokens) (λ ss used ds. in_a_row project used ss ds)

-- what stands between the first branch of an `if` and its `end`
elseif_reads : (project : Project) (inside : Option Block) → Every (ReadsBlock project) inside → (t : Token) (rest : List Token) → IsKey Key.ElseIf t → Told (SpellsOther project) (t ∷ rest) (elseif_read inside t rest)
elseif_reads project inside good t rest is_word = behind_opened (ReadsBlock project) inside good blind_block (blind_block_reads project) (λ block reads.
    behind (tested_reads project block reads Key.Then rest) (λ branch used after (then, test, inner, parts, is_then, dc, db). finally _ (reads.other after) (λ more others dm.
    an_elseif t then test inner others branch.test branch.body more is_word is_then (simp (parts, append_assoc)) refl dc db dm)))

other_by_reads : (project : Project) (depth : ℕ) (inside : Option Block) → Every (ReadsBlock project) inside → (t : Token) (rest : List Token) (last by : Bool) → is_key Key.Else t.kind ≡ last → is_key Key.ElseIf t.kind ≡ by
    → Told (SpellsOther project) (t ∷ rest) (other_by project depth inside t rest last by)
other_by_reads project depth inside good t rest true by is_else is_by = behind_first (told_as (inner_stmts_reads project depth inside good rest) (λ ss used d. an_else t used (is_the_key Key.Else t is_else) refl d))
other_by_reads project depth inside good t rest false true is_else is_by = elseif_reads project inside good t rest (is_the_key Key.ElseIf t is_by)
other_by_reads project depth inside good t rest false false is_else is_by = done (no_other refl refl)

other_reads : (project : Project) (depth : ℕ) (inside : Option Block) → Every (ReadsBlock project) inside → (tokens : List Token) → Told (SpellsOther project) tokens (other_read project depth inside tokens)
other_reads project depth inside good [] = done (no_other refl refl)
other_reads project depth inside good (t ∷ rest) = other_by_reads project depth inside good t rest (is_key Key.Else t.kind) (is_key Key.ElseIf t.kind) refl refl

blocks_read : (project : Project) (depth : ℕ) → Every (ReadsBlock project) (block_of project depth)
blocks_read project zero = tt
blocks_read project (suc depth) = record {
  expr = λ tokens. expr_reads depth any_level tokens;
  stmts = λ tokens. inner_stmts_reads project depth (block_of project depth) (blocks_read project depth) tokens;
  other = λ tokens. other_reads project depth (block_of project depth) (blocks_read project depth) tokens;
}

pub stmts_reads : (project : Project) (depth : ℕ) (tokens : List Token) → Told (SpellsStmts project) tokens (stmts_read project depth (block_of project depth) tokens)
stmts_reads project depth tokens = inner_stmts_reads project depth (block_of project depth) (blocks_read project depth) tokens
