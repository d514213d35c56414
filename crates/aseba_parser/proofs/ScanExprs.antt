-- The scan of an expression finds its nests.
use Rattle.std.proofs.Common.{◌≡◌, ◌∙◌, ℕ, suc, ◌≤◌, Bool, true, false, nat_le, if◌then◌else◌, List, [], ◌∷◌, ◌++◌, Some, None, refl, sym, ap, subst, arith, append_assoc}
use Rattle.std.proofs.lemmas.Bool.{lt-leb}
use Rattle.aseba_words.specs.declared.operators.Unary.{Unary}
use Rattle.aseba_words.specs.declared.operators.Binary.{Binary}
use Rattle.aseba_tree.specs.declared.token.Token.{Token}
use Rattle.aseba_tree.specs.declared.token.TokenKind.{TokenKind}
use Rattle.aseba_tree.specs.declared.token.Sign.{Sign}
use Rattle.aseba_tree.specs.Code.{Name, Expr, Exprs, Target}
use Rattle.aseba_tree.specs.Spells.{operator, prefix_operator, level_of, prefix_level, any_level, SpellsExpr, a_number, a_target, a_list, in_parentheses, a_prefix, an_operation, a_tighter, SpellsList, the_last, one_before, SpellsTarget, all_cells, one_cell, some_cells}
use Rattle.aseba_tree.specs.Nest.{inside, enclosed, expr_nests, list_nests, target_nests}
use Rattle.aseba_parser.proofs.OutcomeEnds.{no_level_of_both}
use Rattle.aseba_parser.proofs.Scan.{Frame, operand, bracket, block, Stand, before_operand, behind_operand, depth, close, plain, indexed, expected_by, going_by, without_bracket, step, Scans, scans-first, scans-one, scans-both, scans-inside, scans-enclosed, scans-of, scans-to, opened, Below, below-more, below-last, opened-last, closes}

-- no operator up to this level ends the operands that are open
abbrev pub Keeps : ℕ → List Frame → Type 0
Keeps level fs = (op : Binary) → level_of op ≤ level → close (level_of op) fs ≡ fs

-- none are open
abbrev pub Firm : List Frame → Type 0
Firm fs = (m : ℕ) → close m fs ≡ fs

pub firm-keeps : (level : ℕ) (fs : List Frame) → Firm fs → Keeps level fs
firm-keeps level fs firm op low = firm (level_of op)

pub firm-bracket : (fs : List Frame) → Firm (bracket ∷ fs)
firm-bracket fs m = refl

keeps-less : (less level : ℕ) (fs : List Frame) → less ≤ level → Keeps level fs → Keeps less fs
keeps-less less level fs h keeps op low = keeps op (omega arith)

not-equal : (a b : ℕ) → a ≤ b → (a ≡ b → ⊥) → suc a ≤ b
not-equal a b h differ = grind arith

keeps-operand : (u : Unary) (fs : List Frame) → Keeps (prefix_level u) (operand (prefix_level u) ∷ fs)
keeps-operand u fs op low =
    let less : suc (level_of op) ≤ prefix_level u = not-equal (level_of op) (prefix_level u) low (no_level_of_both op u) in
    ap (λ (c : Bool). if c then close (level_of op) fs else operand (prefix_level u) ∷ fs) (lt-leb (prefix_level u) (level_of op) less)

-- Behind an expression of a level operands of prefix operators up to that level are open.
pub record Left (level : ℕ) (fs : List Frame) (tokens : List Token) (ns : List ℕ) : Type 0 where
  pub operands : List ℕ
  pub below : Below level operands
  pub scans : Scans (depth fs) (before_operand fs) tokens ns (behind_operand (opened operands fs))

left-more : {less : ℕ} {fs : List Frame} {tokens : List Token} {ns : List ℕ} (level : ℕ) → less ≤ level → Left less fs tokens ns → Left level fs tokens ns
left-more {less} level h left = record { operands = left.operands; below = below-more less level left.operands h left.below; scans = left.scans }

left-none : {level : ℕ} {fs : List Frame} {tokens : List Token} {ns : List ℕ} → Scans (depth fs) (before_operand fs) tokens ns (behind_operand fs) → Left level fs tokens ns
left-none scans = record { operands = []; below = tt; scans = scans }

-- the step at a token of a kind
pub at-kind : (s : Stand) (t : Token) (kind : TokenKind) (p : ℕ × Stand) → t.kind ≡ kind → step s kind ≡ p → step s t.kind ≡ p
at-kind s t kind p is same = ap (step s) is ∙ same

-- behind an expression a token that doesn't go on with it ends the open operands
pub ended : (level : ℕ) (ls : List ℕ) (fs : List Frame) (kind : TokenKind) → level ≤ 11 → Below level ls → Firm fs → plain (close 11 (opened ls fs)) kind ≡ plain fs kind
ended level ls fs kind low below firm = ap (λ gs. plain gs kind) (closes 11 ls fs (below-more level 11 ls low below) (firm 11))

pub end-bracket : (ls : List ℕ) (fs : List Frame) (t : Token) → Below any_level ls → t.kind ≡ TokenKind.Sign Sign.CloseBracket → step (behind_operand (opened ls (bracket ∷ fs))) t.kind ≡ (suc (depth fs), behind_operand fs)
end-bracket ls fs t below is = at-kind (behind_operand (opened ls (bracket ∷ fs))) t (TokenKind.Sign Sign.CloseBracket) _ is (ended 11 ls (bracket ∷ fs) (TokenKind.Sign Sign.CloseBracket) (omega arith) below (firm-bracket fs))

pub end-paren : (ls : List ℕ) (fs : List Frame) (t : Token) → Below any_level ls → t.kind ≡ TokenKind.Sign Sign.CloseParen → step (behind_operand (opened ls (bracket ∷ fs))) t.kind ≡ (suc (depth fs), behind_operand fs)
end-paren ls fs t below is = at-kind (behind_operand (opened ls (bracket ∷ fs))) t (TokenKind.Sign Sign.CloseParen) _ is (ended 11 ls (bracket ∷ fs) (TokenKind.Sign Sign.CloseParen) (omega arith) below (firm-bracket fs))

pub end-comma : (ls : List ℕ) (fs : List Frame) (t : Token) → Below any_level ls → Firm fs → t.kind ≡ TokenKind.Sign Sign.Comma → step (behind_operand (opened ls fs)) t.kind ≡ (depth fs, before_operand fs)
end-comma ls fs t below firm is = at-kind (behind_operand (opened ls fs)) t (TokenKind.Sign Sign.Comma) _ is (ended 11 ls fs (TokenKind.Sign Sign.Comma) (omega arith) below firm)

pub end-colon : (ls : List ℕ) (fs : List Frame) (t : Token) → Below any_level ls → Firm fs → t.kind ≡ TokenKind.Sign Sign.Colon → step (behind_operand (opened ls fs)) t.kind ≡ (depth fs, before_operand fs)
end-colon ls fs t below firm is = at-kind (behind_operand (opened ls fs)) t (TokenKind.Sign Sign.Colon) _ is (ended 11 ls fs (TokenKind.Sign Sign.Colon) (omega arith) below firm)

prefix-step : (fs : List Frame) (t : Token) (op : Unary) → prefix_operator t.kind ≡ Some op → step (before_operand fs) t.kind ≡ (suc (depth fs), before_operand (operand (prefix_level op) ∷ fs))
prefix-step fs t op is = ap (expected_by fs t.kind) is

infix-step : (level : ℕ) (ls : List ℕ) (fs : List Frame) (t : Token) (op : Binary) → operator t.kind ≡ Some op → level ≡ level_of op → Below level ls → Keeps level fs → step (behind_operand (opened ls fs)) t.kind ≡ (depth fs, before_operand fs)
infix-step level ls fs t op is same below keeps =
    let low : level ≤ level_of op = omega (arith, same) in
    let back : level_of op ≤ level = omega (arith, same) in
    ap (going_by (opened ls fs) t.kind) is
    ∙ ap (λ (gs : List Frame). (depth gs, before_operand gs)) (closes (level_of op) ls fs (below-more level (level_of op) ls low below) (keeps op back))

mutual
  pub scan-expr : {level : ℕ} {tokens : List Token} {e : Expr} (d : SpellsExpr level tokens e) (fs : List Frame) → Keeps level fs → Left level fs tokens (expr_nests d)
  scan-expr (a_number t v is all level tree) fs keeps = left-none (scans-of all (scans-one (at-kind (before_operand fs) t (TokenKind.Number v) _ is refl)))
  scan-expr (a_target target level tree d) fs keeps = left-none (scan-target d (before_operand fs) fs (λ name. refl))
  scan-expr (a_list opening closing inner es is_open is_close all level tree d) fs keeps =
      let within = scan-list d (bracket ∷ fs) (firm-bracket fs) in
      left-none (scans-of all (scans-enclosed closing (at-kind (before_operand fs) opening (TokenKind.Sign Sign.OpenBracket) _ is_open refl) within.scans (end-bracket within.operands fs closing within.below is_close)))
  scan-expr (in_parentheses opening closing inner i is_open is_close all level tree d) fs keeps =
      let within = scan-expr d (bracket ∷ fs) (firm-keeps any_level (bracket ∷ fs) (firm-bracket fs)) in
      left-none (scans-of all (scans-enclosed closing (at-kind (before_operand fs) opening (TokenKind.Sign Sign.OpenParen) _ is_open refl) within.scans (end-paren within.operands fs closing within.below is_close)))
  scan-expr {level} (a_prefix t op rest i is_prefix all same tree d) fs keeps =
      let l : ℕ = prefix_level op in
      let within = scan-expr d (operand l ∷ fs) (subst (λ k. Keeps k (operand l ∷ fs)) (sym same) (keeps-operand op fs)) in
      record {
        operands = within.operands ++ l ∷ [];
        below = below-last level l within.operands within.below (omega (arith, same));
        scans = scans-of all (scans-to (ap behind_operand (sym (opened-last within.operands l fs))) (scans-inside (scans-first (prefix-step fs t op is_prefix) within.scans)));
      }
  scan-expr {level} (an_operation left right t op tighter l r is_operator all same above tree dl dr) fs keeps =
      let first = scan-expr dl fs keeps in
      let second = scan-expr dr fs (keeps-less tighter level fs (omega (arith, above)) keeps) in
      record {
        operands = second.operands;
        below = below-more tighter level second.operands (omega (arith, above)) second.below;
        scans = scans-of all (scans-both first.scans (scans-first (infix-step level first.operands fs t op is_operator same first.below keeps) second.scans));
      }
  scan-expr {level} (a_tighter tighter above d) fs keeps = left-more level (omega (arith, above)) (scan-expr d fs (keeps-less tighter level fs (omega (arith, above)) keeps))

  pub scan-list : {tokens : List Token} {es : Exprs} (d : SpellsList tokens es) (fs : List Frame) → Firm fs → Left any_level fs tokens (list_nests d)
  scan-list (the_last e tree d) fs firm = scan-expr d fs (firm-keeps any_level fs firm)
  scan-list (one_before first rest comma e others is_comma all tree d ds) fs firm =
      let before = scan-expr d fs (firm-keeps any_level fs firm) in
      let behind = scan-list ds fs firm in
      record {
        operands = behind.operands;
        below = behind.below;
        scans = scans-of all (scans-both before.scans (scans-first (end-comma before.operands fs comma before.below firm is_comma) behind.scans));
      }

  -- a target, whose name is the next operand
  pub scan-target : {tokens : List Token} {target : Target} (d : SpellsTarget tokens target) (s : Stand) (fs : List Frame) → ((name : Name) → step s (TokenKind.Name name) ≡ (depth fs, behind_operand fs))
      → Scans (depth fs) s tokens (target_nests d) (behind_operand fs)
  scan-target (all_cells t name is_name all tree) s fs named = scans-of all (scans-one (at-kind s t (TokenKind.Name name) _ is_name (named name)))
  scan-target (one_cell t opening closing name inner i is_name is_open is_close all tree d) s fs named =
      let within = scan-expr d (bracket ∷ fs) (firm-keeps any_level (bracket ∷ fs) (firm-bracket fs)) in
      scans-of all (scans-first (at-kind s t (TokenKind.Name name) _ is_name (named name))
      (scans-enclosed closing (at-kind (behind_operand fs) opening (TokenKind.Sign Sign.OpenBracket) _ is_open refl) within.scans (end-bracket within.operands fs closing within.below is_close)))
  scan-target (some_cells t opening colon closing name low high c d is_name is_open is_colon is_close all tree dl dh) s fs named =
      let first = scan-expr dl (bracket ∷ fs) (firm-keeps any_level (bracket ∷ fs) (firm-bracket fs)) in
      let second = scan-expr dh (bracket ∷ fs) (firm-keeps any_level (bracket ∷ fs) (firm-bracket fs)) in
      let tokens_again : t ∷ opening ∷ (low ++ colon ∷ (high ++ closing ∷ [])) ≡ t ∷ opening ∷ ((low ++ colon ∷ high) ++ closing ∷ []) = ap (λ ts. t ∷ opening ∷ ts) (sym (append_assoc low (colon ∷ high) (closing ∷ []))) in
      scans-of (all ∙ tokens_again) (scans-first (at-kind s t (TokenKind.Name name) _ is_name (named name))
      (scans-enclosed closing (at-kind (behind_operand fs) opening (TokenKind.Sign Sign.OpenBracket) _ is_open refl)
      (scans-both first.scans (scans-first (end-colon first.operands (bracket ∷ fs) colon first.below (firm-bracket fs) is_colon) second.scans))
      (end-bracket second.operands fs closing second.below is_close)))
