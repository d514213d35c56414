-- The scan of statements and of whole programs finds their nests, so the nest of a token is one number.
use Rattle.std.proofs.Common.{◌≡◌, ◌∙◌, ℕ, zero, suc, ◌+◌, ◌-◌, ◌≤◌, ◌<◌, List, [], ◌∷◌, ◌++◌, length, slice_get, Option, Some, None, refl, sym, ap, subst, arith, append_assoc, length-append}
use Rattle.std.proofs.lemmas.List.{append-nil}
use Rattle.aseba_words.specs.declared.operators.Binary.{Binary}
use Rattle.aseba_tree.specs.declared.token.Token.{Token}
use Rattle.aseba_tree.specs.declared.token.TokenKind.{TokenKind}
use Rattle.aseba_tree.specs.declared.token.Key.{Key}
use Rattle.aseba_tree.specs.declared.token.Sign.{Sign}
use Rattle.aseba_tree.specs.Code.{Name, Place, Expr, Exprs, Stmts, Decl, Handler, Source, Project}
use Rattle.aseba_tree.specs.Spells.{operator, prefix_operator, changing, stepping, any_level, SpellsStep, no_step, a_step, SpellsArgument, no_argument, an_argument, SpellsArguments, no_arguments, some_arguments, SpellsStmts, nothing, an_assignment, a_change, a_bump, an_if, a_when, a_while, a_for, an_emit, a_callsub, a_call, a_return, SpellsOther, no_other, an_else, an_elseif, SpellsSize, no_size, a_size, SpellsValue, no_value, a_value, SpellsDecls, no_decls, a_decl, SpellsParts, no_parts, a_handler, a_sub, Spells}
use Rattle.aseba_tree.specs.Nest.{inside, enclosed, expr_nests, list_nests, target_nests, step_nests, argument_nests, arguments_nests, stmts_nests, other_nests, size_nests, value_nests, decls_nests, parts_nests, nests, Nested}
use Rattle.aseba_parser.specs.OneNest.{OneNest}
use Rattle.aseba_parser.proofs.Scan.{Frame, operand, bracket, block, Stand, before_operand, behind_operand, before_name, depth, close, plain, expected_by, going_by, indexed, step, scan, deeper, deeper-none, Scans, scans-none, scans-first, scans-one, scans-both, scans-inside, scans-enclosed, scans-of, scans-to, opened, Below, closes}
use Rattle.aseba_parser.proofs.ScanExprs.{Keeps, Firm, firm-keeps, firm-bracket, Left, at-kind, end-bracket, end-paren, scan-expr, scan-list, scan-target}

-- a word that is no operator
abbrev IsWord : Key → Type 0
IsWord key = (operator (TokenKind.Key key) ≡ None) × (prefix_operator (TokenKind.Key key) ≡ None)

-- Where a statement may begin: a name is its target, a word stands for itself, and an `=` gives a value.
record Ready (fs : List Frame) (s : Stand) : Type 0 where
  named : (name : Name) → step s (TokenKind.Name name) ≡ (depth fs, behind_operand fs)
  word : (key : Key) → IsWord key → step s (TokenKind.Key key) ≡ plain fs (TokenKind.Key key)
  equals : step s (TokenKind.Sign Sign.Assign) ≡ (depth fs, before_operand fs)
  colon : step s (TokenKind.Sign Sign.Colon) ≡ (depth fs, before_operand fs)

fresh : (fs : List Frame) → Ready fs (before_operand fs)
fresh fs = record { named = λ name. refl; word = λ key is. ap (expected_by fs (TokenKind.Key key)) is.1; equals = refl; colon = refl }

left-by : (ls : List ℕ) (fs : List Frame) → Below any_level ls → Firm fs → Ready fs (behind_operand (opened ls fs))
left-by ls fs below firm =
    let same : close 11 (opened ls fs) ≡ fs = closes 11 ls fs below (firm 11) in
    record {
      named = λ name. ap (λ gs. plain gs (TokenKind.Name name)) same;
      word = λ key is. ap (going_by (opened ls fs) (TokenKind.Key key)) is.0 ∙ ap (λ gs. plain gs (TokenKind.Key key)) same;
      equals = ap (λ gs. plain gs (TokenKind.Sign Sign.Assign)) same;
      colon = ap (λ gs. plain gs (TokenKind.Sign Sign.Colon)) same;
    }

behind-left : {fs : List Frame} {tokens : List Token} {ns : List ℕ} (left : Left any_level fs tokens ns) → Firm fs → Ready fs (behind_operand (opened left.operands fs))
behind-left {fs} left firm = left-by left.operands fs left.below firm

behind-ready : (fs : List Frame) → Firm fs → Ready fs (behind_operand fs)
behind-ready fs firm = left-by [] fs tt firm

-- the step at a word, and at a name
word-step : (fs : List Frame) (s : Stand) (t : Token) (key : Key) (p : ℕ × Stand) → Ready fs s → t.kind ≡ TokenKind.Key key → IsWord key → plain fs (TokenKind.Key key) ≡ p → step s t.kind ≡ p
word-step fs s t key p ready is word same = at-kind s t (TokenKind.Key key) p is (ready.word key word ∙ same)

name-step : (fs : List Frame) (t : Token) → step (before_name fs) t.kind ≡ (depth fs, before_operand fs)
name-step fs t = refl

-- signs that change a target
abbrev ready_again : List Frame → ℕ × Stand
ready_again fs = (depth fs, before_operand fs)

plain-of : (gs fs : List Frame) → gs ≡ fs → ready_again gs ≡ ready_again fs
plain-of gs fs same = ap ready_again same

changes : (fs : List Frame) → Firm fs → (kind : TokenKind) (op : Binary) → changing kind ≡ Some op → step (behind_operand fs) kind ≡ (depth fs, before_operand fs)
changes fs firm (TokenKind.Sign Sign.PlusAssign) op e = plain-of (close 11 fs) fs (firm 11)
changes fs firm (TokenKind.Sign Sign.MinusAssign) op e = plain-of (close 11 fs) fs (firm 11)
changes fs firm (TokenKind.Sign Sign.StarAssign) op e = plain-of (close 11 fs) fs (firm 11)
changes fs firm (TokenKind.Sign Sign.SlashAssign) op e = plain-of (close 11 fs) fs (firm 11)
changes fs firm (TokenKind.Sign Sign.PercentAssign) op e = plain-of (close 11 fs) fs (firm 11)
changes fs firm (TokenKind.Sign Sign.ShiftLeftAssign) op e = plain-of (close 11 fs) fs (firm 11)
changes fs firm (TokenKind.Sign Sign.ShiftRightAssign) op e = plain-of (close 11 fs) fs (firm 11)
changes fs firm (TokenKind.Sign Sign.AmpersandAssign) op e = plain-of (close 11 fs) fs (firm 11)
changes fs firm (TokenKind.Sign Sign.BarAssign) op e = plain-of (close 11 fs) fs (firm 11)
changes fs firm (TokenKind.Sign Sign.CaretAssign) op e = plain-of (close 11 fs) fs (firm 11)
changes fs firm _ op e = absurd (cc e)

steps : (fs : List Frame) → Firm fs → (kind : TokenKind) (op : Binary) → stepping kind ≡ Some op → step (behind_operand fs) kind ≡ (depth fs, before_operand fs)
steps fs firm (TokenKind.Sign Sign.PlusPlus) op e = plain-of (close 11 fs) fs (firm 11)
steps fs firm (TokenKind.Sign Sign.MinusMinus) op e = plain-of (close 11 fs) fs (firm 11)
steps fs firm _ op e = absurd (cc e)

-- Tokens are scanned up to a place where a statement may begin.
record Done (fs : List Frame) (s : Stand) (tokens : List Token) (ns : List ℕ) : Type 0 where
  stand : Stand
  ready : Ready fs stand
  scans : Scans (depth fs) s tokens ns stand

-- the same behind the rest of an `if`, which may open more levels
record Others (n : ℕ) (fs : List Frame) (s : Stand) (tokens : List Token) (ns : List ℕ) : Type 0 where
  more : ℕ
  stand : Stand
  ready : Ready (block more ∷ fs) stand
  scans : Scans (depth (block n ∷ fs)) s tokens ns stand

firm-block : (n : ℕ) (fs : List Frame) → Firm (block n ∷ fs)
firm-block n fs m = refl

done-expr : {tokens : List Token} {e : Expr} (d : Rattle.aseba_tree.specs.Spells.SpellsExpr any_level tokens e) (fs : List Frame) → Firm fs → Done fs (before_operand fs) tokens (expr_nests d)
done-expr d fs firm = let left = scan-expr d fs (firm-keeps any_level fs firm) in record { stand = behind_operand (opened left.operands fs); ready = behind-left left firm; scans = left.scans }

done-both : {fs : List Frame} {s u : Stand} {left right : List Token} {ns ms : List ℕ} → Scans (depth fs) s left ns u → Done fs u right ms → Done fs s (left ++ right) (ns ++ ms)
done-both first done = record { stand = done.stand; ready = done.ready; scans = scans-both first done.scans }

done-first : {fs : List Frame} {s u : Stand} {t : Token} {tokens : List Token} {ns : List ℕ} → step s t.kind ≡ (depth fs, u) → Done fs u tokens ns → Done fs s (t ∷ tokens) (0 ∷ ns)
done-first at done = record { stand = done.stand; ready = done.ready; scans = scans-first at done.scans }

done-of : {fs : List Frame} {s : Stand} {tokens others : List Token} {ns : List ℕ} → tokens ≡ others → Done fs s others ns → Done fs s tokens ns
done-of all done = record { stand = done.stand; ready = done.ready; scans = scans-of all done.scans }

done-step : {tokens : List Token} {by : Option Expr} (d : SpellsStep tokens by) (fs : List Frame) (s : Stand) → Firm fs → Ready fs s → Done fs s tokens (step_nests d)
done-step (no_step all tree) fs s firm ready = record { stand = s; ready = ready; scans = scans-none (depth fs) s _ all }
done-step (a_step word inner e is_word all tree d) fs s firm ready = done-of all (done-first (word-step fs s word Key.Step _ ready is_word (refl, refl) refl) (done-expr d fs firm))

done-argument : {project : Project} {name : Name} {tokens : List Token} {argument : Option Expr} (d : SpellsArgument project name tokens argument) (fs : List Frame) → Firm fs → Done fs (before_operand fs) tokens (argument_nests d)
done-argument (no_argument takes all tree) fs firm = record { stand = before_operand fs; ready = fresh fs; scans = scans-none (depth fs) (before_operand fs) _ all }
done-argument (an_argument e takes tree d) fs firm = done-expr d fs firm

-- the arguments of a call with their parentheses
enclosed-arguments : {tokens : List Token} {es : Exprs} (d : SpellsArguments tokens es) (fs : List Frame) (opening closing : Token) → opening.kind ≡ TokenKind.Sign Sign.OpenParen → closing.kind ≡ TokenKind.Sign Sign.CloseParen
    → Scans (depth fs) (before_operand fs) (opening ∷ (tokens ++ closing ∷ [])) (enclosed (arguments_nests d)) (behind_operand fs)
enclosed-arguments {tokens} (no_arguments all tree) fs opening closing is_open is_close =
    scans-enclosed closing (at-kind (before_operand fs) opening (TokenKind.Sign Sign.OpenParen) _ is_open refl) (scans-none (suc (depth fs)) (before_operand (bracket ∷ fs)) tokens all)
    (at-kind (before_operand (bracket ∷ fs)) closing (TokenKind.Sign Sign.CloseParen) _ is_close refl)
enclosed-arguments (some_arguments d) fs opening closing is_open is_close =
    let within = scan-list d (bracket ∷ fs) (firm-bracket fs) in
    scans-enclosed closing (at-kind (before_operand fs) opening (TokenKind.Sign Sign.OpenParen) _ is_open refl) within.scans (end-paren within.operands fs closing within.below is_close)

-- what opens a block, what stands in it, and its end
blocked : {fs : List Frame} {s u v : Stand} {word : Token} {within : List Token} {ns : List ℕ} (n : ℕ) (last : Token) → step s word.kind ≡ (suc (depth fs), u) → Scans (suc (depth fs)) u within ns v → Ready (block n ∷ fs) v
    → last.kind ≡ TokenKind.Key Key.End → Scans (depth fs) s (word ∷ (within ++ last ∷ [])) (enclosed ns) (before_operand fs)
blocked {fs} {s} {u} {v} n last first scans ready is_last = scans-enclosed last first scans (word-step (block n ∷ fs) v last Key.End _ ready is_last (refl, refl) refl)

mutual
  done-stmts : {project : Project} {tokens : List Token} {ss : Stmts} (d : SpellsStmts project tokens ss) (fs : List Frame) (s : Stand) → Firm fs → Ready fs s → Done fs s tokens (stmts_nests d)
  done-stmts (nothing all tree) fs s firm ready = record { stand = s; ready = ready; scans = scans-none (depth fs) s _ all }
  done-stmts (an_assignment left right rest sign target e others is_sign all tree dt de ds) fs s firm ready =
      let value = done-expr de fs firm in
      let behind = done-stmts ds fs value.stand firm value.ready in
      done-of all (done-both (scan-target dt s fs ready.named)
      (done-first (at-kind (behind_operand fs) sign (TokenKind.Sign Sign.Assign) _ is_sign (behind-ready fs firm).equals) (done-both value.scans behind)))
  done-stmts (a_change left right rest sign op target e others is_sign all tree dt de ds) fs s firm ready =
      let value = done-expr de fs firm in
      let behind = done-stmts ds fs value.stand firm value.ready in
      done-of all (done-both (scan-target dt s fs ready.named) (done-first (changes fs firm sign.kind op is_sign) (done-both value.scans behind)))
  done-stmts (a_bump left rest sign op target others is_sign all tree dt ds) fs s firm ready =
      done-of all (done-both (scan-target dt s fs ready.named) (done-first (steps fs firm sign.kind op is_sign) (done-stmts ds fs (before_operand fs) firm (fresh fs))))
  done-stmts (an_if word then last test inner behind rest c body other others is_word is_then is_last all tree dc db dother ds) fs s firm ready =
      let gs : List Frame = block 0 ∷ fs in
      let condition = done-expr dc gs (firm-block 0 fs) in
      let first = done-stmts db gs (before_operand gs) (firm-block 0 fs) (fresh gs) in
      let second = done-other dother 0 fs first.stand first.ready in
      let within = scans-both condition.scans (scans-first (word-step gs condition.stand then Key.Then _ condition.ready is_then (refl, refl) refl) (scans-both first.scans second.scans)) in
      let again : word ∷ (test ++ then ∷ (inner ++ (behind ++ last ∷ rest))) ≡ (word ∷ ((test ++ then ∷ (inner ++ behind)) ++ last ∷ [])) ++ rest = simp append_assoc in
      done-of (all ∙ again) (done-both (blocked second.more last (word-step fs s word Key.If _ ready is_word (refl, refl) refl) within second.ready is_last)
      (done-stmts ds fs (before_operand fs) firm (fresh fs)))
  done-stmts (a_when word do_word last test inner rest c body others is_word is_do is_last all tree dc db ds) fs s firm ready =
      let gs : List Frame = block 0 ∷ fs in
      let condition = done-expr dc gs (firm-block 0 fs) in
      let first = done-stmts db gs (before_operand gs) (firm-block 0 fs) (fresh gs) in
      let within = scans-both condition.scans (scans-first (word-step gs condition.stand do_word Key.Do _ condition.ready is_do (refl, refl) refl) first.scans) in
      let again : word ∷ (test ++ do_word ∷ (inner ++ last ∷ rest)) ≡ (word ∷ ((test ++ do_word ∷ inner) ++ last ∷ [])) ++ rest = simp append_assoc in
      done-of (all ∙ again) (done-both (blocked 0 last (word-step fs s word Key.When _ ready is_word (refl, refl) refl) within first.ready is_last)
      (done-stmts ds fs (before_operand fs) firm (fresh fs)))
  done-stmts (a_while word do_word last test inner rest c body others is_word is_do is_last all tree dc db ds) fs s firm ready =
      let gs : List Frame = block 0 ∷ fs in
      let condition = done-expr dc gs (firm-block 0 fs) in
      let first = done-stmts db gs (before_operand gs) (firm-block 0 fs) (fresh gs) in
      let within = scans-both condition.scans (scans-first (word-step gs condition.stand do_word Key.Do _ condition.ready is_do (refl, refl) refl) first.scans) in
      let again : word ∷ (test ++ do_word ∷ (inner ++ last ∷ rest)) ≡ (word ∷ ((test ++ do_word ∷ inner) ++ last ∷ [])) ++ rest = simp append_assoc in
      done-of (all ∙ again) (done-both (blocked 0 last (word-step fs s word Key.While _ ready is_word (refl, refl) refl) within first.ready is_last)
      (done-stmts ds fs (before_operand fs) firm (fresh fs)))
  done-stmts (a_for word variable in_word colon do_word last low high by inner rest name a b step body others is_word is_name is_in is_colon is_do is_last all tree da db dstep dbody ds) fs s firm ready =
      let gs : List Frame = block 0 ∷ fs in
      let from = done-expr da gs (firm-block 0 fs) in
      let to = done-expr db gs (firm-block 0 fs) in
      let stepped = done-step dstep gs to.stand (firm-block 0 fs) to.ready in
      let first = done-stmts dbody gs (before_operand gs) (firm-block 0 fs) (fresh gs) in
      let tail = scans-both stepped.scans (scans-first (word-step gs stepped.stand do_word Key.Do _ stepped.ready is_do (refl, refl) refl) first.scans) in
      let bounds = scans-both from.scans (scans-first (at-kind from.stand colon (TokenKind.Sign Sign.Colon) _ is_colon from.ready.colon) (scans-both to.scans tail)) in
      let within = scans-first (name-step gs variable) (scans-first (word-step gs (before_operand gs) in_word Key.In _ (fresh gs) is_in (refl, refl) refl) bounds) in
      let again : word ∷ variable ∷ in_word ∷ (low ++ colon ∷ (high ++ (by ++ do_word ∷ (inner ++ last ∷ rest))))
      ≡ (word ∷ ((variable ∷ in_word ∷ (low ++ colon ∷ (high ++ (by ++ do_word ∷ inner)))) ++ last ∷ [])) ++ rest = simp append_assoc in
      done-of (all ∙ again) (done-both (blocked 0 last (word-step fs s word Key.For _ ready is_word (refl, refl) refl) within first.ready is_last)
      (done-stmts ds fs (before_operand fs) firm (fresh fs)))
  done-stmts (an_emit word event given rest name argument others is_word is_name all tree da ds) fs s firm ready =
      let sent = done-argument da fs firm in
      done-of all (done-first (word-step fs s word Key.Emit _ ready is_word (refl, refl) refl) (done-first (name-step fs event) (done-both sent.scans (done-stmts ds fs sent.stand firm sent.ready))))
  done-stmts (a_callsub word called rest name others is_word is_name all tree ds) fs s firm ready =
      done-of all (done-first (word-step fs s word Key.CallSub _ ready is_word (refl, refl) refl) (done-first (name-step fs called) (done-stmts ds fs (before_operand fs) firm (fresh fs))))
  done-stmts (a_call word called opening closing given rest name es others is_word is_name is_open is_close all tree da ds) fs s firm ready =
      let again : word ∷ called ∷ opening ∷ (given ++ closing ∷ rest) ≡ word ∷ called ∷ ((opening ∷ (given ++ closing ∷ [])) ++ rest) = simp append_assoc in
      done-of (all ∙ again) (done-first (word-step fs s word Key.Call _ ready is_word (refl, refl) refl) (done-first (name-step fs called)
      (done-both (enclosed-arguments da fs opening closing is_open is_close) (done-stmts ds fs (behind_operand fs) firm (behind-ready fs firm)))))
  done-stmts (a_return word rest others is_word all tree ds) fs s firm ready =
      done-of all (done-first (word-step fs s word Key.Return _ ready is_word (refl, refl) refl) (done-stmts ds fs (before_operand fs) firm (fresh fs)))

  done-other : {project : Project} {tokens : List Token} {other : Stmts} (d : SpellsOther project tokens other) (n : ℕ) (fs : List Frame) (s : Stand) → Ready (block n ∷ fs) s → Others n fs s tokens (other_nests d)
  done-other (no_other all tree) n fs s ready = record { more = n; stand = s; ready = ready; scans = scans-none (depth (block n ∷ fs)) s _ all }
  done-other (an_else word inner is_word all d) n fs s ready =
      let gs : List Frame = block n ∷ fs in
      let body = done-stmts d gs (before_operand gs) (firm-block n fs) (fresh gs) in
      record { more = n; stand = body.stand; ready = body.ready; scans = scans-of all (scans-first (word-step gs s word Key.Else _ ready is_word (refl, refl) refl) body.scans) }
  done-other (an_elseif word then test inner behind c body more is_word is_then all tree dc db dmore) n fs s ready =
      let gs : List Frame = block (suc n) ∷ fs in
      let condition = done-expr dc gs (firm-block (suc n) fs) in
      let first = done-stmts db gs (before_operand gs) (firm-block (suc n) fs) (fresh gs) in
      let second = done-other dmore (suc n) fs first.stand first.ready in
      let within = scans-both condition.scans (scans-first (word-step gs condition.stand then Key.Then _ condition.ready is_then (refl, refl) refl) (scans-both first.scans second.scans)) in
      record {
        more = second.more;
        stand = second.stand;
        ready = second.ready;
        scans = scans-of all (scans-inside (scans-first (word-step (block n ∷ fs) s word Key.ElseIf _ ready is_word (refl, refl) refl) within));
      }

done-size : {tokens : List Token} {size : Option Expr} (d : SpellsSize tokens size) (fs : List Frame) → Firm fs → Done fs (before_operand fs) tokens (size_nests d)
done-size (no_size all tree) fs firm = record { stand = before_operand fs; ready = fresh fs; scans = scans-none (depth fs) (before_operand fs) _ all }
done-size (a_size opening closing inner e is_open is_close all tree d) fs firm =
    let within = scan-expr d (bracket ∷ fs) (firm-keeps any_level (bracket ∷ fs) (firm-bracket fs)) in
    record {
      stand = behind_operand fs;
      ready = behind-ready fs firm;
      scans = scans-of all (scans-enclosed closing (at-kind (before_operand fs) opening (TokenKind.Sign Sign.OpenBracket) _ is_open refl) within.scans (end-bracket within.operands fs closing within.below is_close));
    }

done-value : {named : Place} {tokens : List Token} {equals : Place} {value : Option Expr} (d : SpellsValue named tokens equals value) (fs : List Frame) (s : Stand) → Firm fs → Ready fs s → Done fs s tokens (value_nests d)
done-value (no_value all equals tree) fs s firm ready = record { stand = s; ready = ready; scans = scans-none (depth fs) s _ all }
done-value (a_value sign inner e is_sign all equals tree d) fs s firm ready = done-of all (done-first (at-kind s sign (TokenKind.Sign Sign.Assign) _ is_sign ready.equals) (done-expr d fs firm))

done-decls : {tokens : List Token} {ds : List Decl} (d : SpellsDecls tokens ds) (fs : List Frame) (s : Stand) → Firm fs → Ready fs s → Done fs s tokens (decls_nests d)
done-decls (no_decls all tree) fs s firm ready = record { stand = s; ready = ready; scans = scans-none (depth fs) s _ all }
done-decls (a_decl word variable sized given rest name size value equals others is_word is_name all tree dsize dvalue ds) fs s firm ready =
    let cells = done-size dsize fs firm in
    let first = done-value dvalue fs cells.stand firm cells.ready in
    let behind = done-decls ds fs first.stand firm first.ready in
    done-of all (done-first (word-step fs s word Key.Var _ ready is_word (refl, refl) refl) (done-first (name-step fs variable) (done-both cells.scans (done-both first.scans behind))))

done-parts : {project : Project} {tokens : List Token} {hs : List Handler} (d : SpellsParts project tokens hs) (fs : List Frame) (s : Stand) → Firm fs → Ready fs s → Done fs s tokens (parts_nests d)
done-parts (no_parts all tree) fs s firm ready = record { stand = s; ready = ready; scans = scans-none (depth fs) s _ all }
done-parts (a_handler word event inner rest name body others is_word is_name all tree db ds) fs s firm ready =
    let first = done-stmts db fs (before_operand fs) firm (fresh fs) in
    done-of all (done-first (word-step fs s word Key.OnEvent _ ready is_word (refl, refl) refl) (done-first (name-step fs event) (done-both first.scans (done-parts ds fs first.stand firm first.ready))))
done-parts (a_sub word named inner rest name body others is_word is_name all tree db ds) fs s firm ready =
    let first = done-stmts db fs (before_operand fs) firm (fresh fs) in
    done-of all (done-first (word-step fs s word Key.Sub _ ready is_word (refl, refl) refl) (done-first (name-step fs named) (done-both first.scans (done-parts ds fs first.stand firm first.ready))))

firm-none : Firm []
firm-none m = refl

abbrev start : Stand
start = before_operand []

-- the scan of a program's tokens gives its nests
scan-program : {project : Project} {source : Source} {tokens : List Token} (d : Spells project source tokens) → scan start tokens ≡ nests d
scan-program {project} {source} {tokens} d =
    let decls = done-decls d.decls [] start firm-none (fresh []) in
    let init = done-stmts d.init [] decls.stand firm-none decls.ready in
    let parts = done-parts d.parts [] init.stand firm-none init.ready in
    let all = scans-of d.in_order (scans-both decls.scans (scans-both init.scans parts.scans)) in
    ap (scan start) (sym (append-nil tokens)) ∙ all.runs [] ∙ append-nil (deeper 0 (nests d)) ∙ deeper-none (nests d)

-- the last of some tokens is scanned alike whatever stands behind it
scan-last : (s : Stand) (before : List Token) (t : Token) (more other : List Token) → slice_get (scan s ((before ++ t ∷ []) ++ more)) (length before) ≡ slice_get (scan s ((before ++ t ∷ []) ++ other)) (length before)
scan-last s [] t more other = refl
scan-last s (u ∷ before) t more other = scan-last (step s u.kind).1 before t more other

nest-of : (project : Project) (before : List Token) (t : Token) (n : ℕ) (h : Nested project (before ++ t ∷ []) n) → slice_get (scan start ((before ++ t ∷ []) ++ h.0)) (length before) ≡ Some n
nest-of project before t n (more, source, d, e) =
    let long : length (before ++ t ∷ []) - 1 ≡ length before = let l = length-append before (t ∷ []) in omega arith in
    ap (λ ns. slice_get ns (length before)) (scan-program d) ∙ ap (slice_get (nests d)) (sym long) ∙ e

pub one_nest : OneNest
one_nest project before t n m h k =
    let same : Some n ≡ Some m = sym (nest-of project before t n h) ∙ scan-last start before t h.0 k.0 ∙ nest-of project before t m k in
    cc same
