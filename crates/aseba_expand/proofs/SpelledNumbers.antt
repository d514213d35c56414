-- The numbers of a source that tokens spell are cells where those of the tokens are.
use Rattle.std.proofs.Common.{◌&&◌, Bool, ◌≡◌, refl, sym, subst, true, ℤ, ℕ, List, [], ◌∷◌, ◌++◌, Option, ◌∙◌, ap, false, if◌then◌else◌, pos, Some, None, option_map, drop, nat_lt, eqb, codes}
use Rattle.std.specs.Prelude.{option_to_list, flat_map, unwrap_or}
use Rattle.std.specs.List.{list_all, starts_with}
use Rattle.aseba_tree.specs.declared.token.Token.{Token}
use Rattle.aseba_tree.specs.declared.token.TokenKind.{TokenKind}
use Rattle.aseba_tree.specs.Code.{Name, Place, Expr, expr, Exprs, no_exprs, exprs, Target, Stmts, Decl, Handler, Source, Project}
use Rattle.aseba_tree.specs.Spells.{begun_at, SpellsExpr, a_number, a_target, a_list, in_parentheses, a_prefix, an_operation, a_tighter, SpellsList, the_last, one_before, SpellsTarget, all_cells, one_cell, some_cells, SpellsStep, no_step, a_step, SpellsArgument, no_argument, an_argument, SpellsArguments, no_arguments, some_arguments, SpellsStmts, nothing, an_assignment, a_change, a_bump, an_if, a_when, a_while, a_for, an_emit, a_callsub, a_call, a_return, SpellsOther, no_other, an_else, an_elseif, SpellsSize, no_size, a_size, SpellsValue, no_value, a_value, SpellsDecls, no_decls, a_decl, SpellsParts, no_parts, a_handler, a_sub, Spells}
use Rattle.aseba_tree.specs.Value.{is_cell}
use Rattle.aseba_tree.specs.Shape.{to_list, part_exprs, stmts_exprs, decl_exprs}
use Rattle.aseba_tree.proofs.SizeLaws.{both_left, both_right}
use Rattle.aseba_expand.specs.Literals.{has_cell_numbers, have_cell_numbers, HasCellNumbers}
use Rattle.aseba_expand.proofs.Readable.{both}
use Rattle.aseba_expand.proofs.Celled.{target-numbers}
use Rattle.aseba_words.specs.Cell.{wrapped}
use Rattle.aseba_tree.specs.declared.token.Key.{Key}
use Rattle.aseba_tree.specs.declared.token.Sign.{Sign}
use Rattle.aseba_tree.specs.declared.pos.Pos.{Pos}
use Rattle.aseba_tree.specs.Tokens.{is_digit, is_hex_digit, is_binary_digit, some_of, number_in, cell_below, number_value, keywords, symbols, spelled_in, is_word, word_kind, keyword_or_name, kind_of, Cut, gap, token, Tokens}
use Rattle.aseba_expand.proofs.ConstantCells.{wrapped-cell}

-- the number of each token that has one is a cell
abbrev pub TokensAreCells : List Token → Type 0
TokensAreCells [] = Unit {0}
TokensAreCells (t ∷ ts) = ((v : ℤ) → t.kind ≡ TokenKind.Number v → is_cell v ≡ true) × TokensAreCells ts

front : (xs ys : List Token) → TokensAreCells (xs ++ ys) → TokensAreCells xs
front [] ys h = tt
front (x ∷ xs) ys h = (h.0, front xs ys h.1)

back : (xs ys : List Token) → TokensAreCells (xs ++ ys) → TokensAreCells ys
back [] ys h = h
back (x ∷ xs) ys h = back xs ys h.1

-- what stands behind the tokens before a sign
behind : (xs : List Token) (sign : Token) (ys : List Token) → TokensAreCells (xs ++ sign ∷ ys) → TokensAreCells ys
behind xs sign ys h = (back xs (sign ∷ ys) h).1

join : (xs ys : List Expr) → list_all has_cell_numbers xs ≡ true → list_all has_cell_numbers ys ≡ true → list_all has_cell_numbers (xs ++ ys) ≡ true
join [] ys h k = k
join (x ∷ xs) ys h k = both (has_cell_numbers x) _ (both_left (has_cell_numbers x) _ h) (join xs ys (both_right (has_cell_numbers x) _ h) k)

only : (e : Expr) → has_cell_numbers e ≡ true → list_all has_cell_numbers (e ∷ []) ≡ true
only e h = both (has_cell_numbers e) true h refl

begun-numbers : (place : Place) (i : Expr) → has_cell_numbers i ≡ true → has_cell_numbers (begun_at place i) ≡ true
begun-numbers place (expr first own form) h = h

listed : (es : Exprs) → have_cell_numbers es ≡ true → list_all has_cell_numbers (to_list es) ≡ true
listed no_exprs h = refl
listed (exprs e es) h = both (has_cell_numbers e) _ (both_left (has_cell_numbers e) _ h) (listed es (both_right (has_cell_numbers e) _ h))

-- Expressions

mutual
  spelled-expr : {level : ℕ} {tokens : List Token} {e : Expr} → SpellsExpr level tokens e → TokensAreCells tokens → has_cell_numbers e ≡ true
  spelled-expr (a_number t v is_number all level tree) h = subst (λ e. has_cell_numbers e ≡ true) (sym tree) ((subst TokensAreCells all h).0 v is_number)
  spelled-expr (a_target target level tree d) h = subst (λ e. has_cell_numbers e ≡ true) (sym tree) (target-numbers target (spelled-target d h))
  spelled-expr (a_list opening closing inner es is_open is_close all level tree d) h =
      subst (λ e. has_cell_numbers e ≡ true) (sym tree) (spelled-list d (front inner (closing ∷ []) (subst TokensAreCells all h).1))
  spelled-expr (in_parentheses opening closing inner i is_open is_close all level tree d) h =
      subst (λ e. has_cell_numbers e ≡ true) (sym tree) (begun-numbers _ i (spelled-expr d (front inner (closing ∷ []) (subst TokensAreCells all h).1)))
  spelled-expr (a_prefix t op operand i is_prefix all level tree d) h = subst (λ e. has_cell_numbers e ≡ true) (sym tree) (spelled-expr d (subst TokensAreCells all h).1)
  spelled-expr (an_operation left right t op tighter l r is_operator all level below tree dl dr) h =
      let whole = subst TokensAreCells all h in
      subst (λ e. has_cell_numbers e ≡ true) (sym tree) (both (has_cell_numbers l) (has_cell_numbers r) (spelled-expr dl (front left (t ∷ right) whole)) (spelled-expr dr (behind left t right whole)))
  spelled-expr (a_tighter tighter level d) h = spelled-expr d h

  spelled-list : {tokens : List Token} {es : Exprs} → SpellsList tokens es → TokensAreCells tokens → have_cell_numbers es ≡ true
  spelled-list (the_last e tree d) h = subst (λ es. have_cell_numbers es ≡ true) (sym tree) (both (has_cell_numbers e) true (spelled-expr d h) refl)
  spelled-list (one_before first rest comma e others is_comma all tree d ds) h =
      let whole = subst TokensAreCells all h in
      subst (λ es. have_cell_numbers es ≡ true) (sym tree) (both (has_cell_numbers e) (have_cell_numbers others) (spelled-expr d (front first (comma ∷ rest) whole)) (spelled-list ds (behind first comma rest whole)))

  spelled-target : {tokens : List Token} {target : Target} → SpellsTarget tokens target → TokensAreCells tokens → list_all has_cell_numbers (part_exprs target.part) ≡ true
  spelled-target (all_cells t name is_name all tree) h = subst (λ target. list_all has_cell_numbers (part_exprs target.part) ≡ true) (sym tree) refl
  spelled-target (one_cell t opening closing name inner i is_name is_open is_close all tree d) h =
      subst (λ target. list_all has_cell_numbers (part_exprs target.part) ≡ true) (sym tree) (only i (spelled-expr d (front inner (closing ∷ []) (subst TokensAreCells all h).1.1)))
  spelled-target (some_cells t opening colon closing name low high c d is_name is_open is_colon is_close all tree dl dh) h =
      let whole = (subst TokensAreCells all h).1.1 in
      subst (λ target. list_all has_cell_numbers (part_exprs target.part) ≡ true) (sym tree)
      (both (has_cell_numbers c) _ (spelled-expr dl (front low (colon ∷ (high ++ closing ∷ [])) whole)) (only d (spelled-expr dh (front high (closing ∷ []) (behind low colon (high ++ closing ∷ []) whole)))))

spelled-step : {tokens : List Token} {step : Option Expr} → SpellsStep tokens step → TokensAreCells tokens → list_all has_cell_numbers (option_to_list step) ≡ true
spelled-step (no_step all tree) h = subst (λ o. list_all has_cell_numbers (option_to_list o) ≡ true) (sym tree) refl
spelled-step (a_step word inner e is_word all tree d) h = subst (λ o. list_all has_cell_numbers (option_to_list o) ≡ true) (sym tree) (only e (spelled-expr d (subst TokensAreCells all h).1))

spelled-argument : {project : Project} {name : Name} {tokens : List Token} {argument : Option Expr} → SpellsArgument project name tokens argument → TokensAreCells tokens → list_all has_cell_numbers (option_to_list argument) ≡ true
spelled-argument (no_argument takes all tree) h = subst (λ o. list_all has_cell_numbers (option_to_list o) ≡ true) (sym tree) refl
spelled-argument (an_argument e takes tree d) h = subst (λ o. list_all has_cell_numbers (option_to_list o) ≡ true) (sym tree) (only e (spelled-expr d h))

spelled-arguments : {tokens : List Token} {es : Exprs} → SpellsArguments tokens es → TokensAreCells tokens → have_cell_numbers es ≡ true
spelled-arguments (no_arguments all tree) h = subst (λ es. have_cell_numbers es ≡ true) (sym tree) refl
spelled-arguments (some_arguments d) h = spelled-list d h

-- Statements

abbrev Numbered : Stmts → Type 0
Numbered ss = list_all has_cell_numbers (stmts_exprs ss) ≡ true

mutual
  spelled-stmts : {project : Project} {tokens : List Token} {ss : Stmts} → SpellsStmts project tokens ss → TokensAreCells tokens → Numbered ss
  spelled-stmts (nothing all tree) h = subst Numbered (sym tree) refl
  spelled-stmts (an_assignment left right rest sign target e others is_sign all tree dt de ds) h =
      let whole = subst TokensAreCells all h in
      let more = behind left sign (right ++ rest) whole in
      subst Numbered (sym tree) (join (part_exprs target.part ++ e ∷ []) (stmts_exprs others)
      (join (part_exprs target.part) (e ∷ []) (spelled-target dt (front left (sign ∷ (right ++ rest)) whole)) (only e (spelled-expr de (front right rest more)))) (spelled-stmts ds (back right rest more)))
  spelled-stmts (a_change left right rest sign op target e others is_sign all tree dt de ds) h =
      let whole = subst TokensAreCells all h in
      let more = behind left sign (right ++ rest) whole in
      subst Numbered (sym tree) (join (part_exprs target.part ++ e ∷ []) (stmts_exprs others)
      (join (part_exprs target.part) (e ∷ []) (spelled-target dt (front left (sign ∷ (right ++ rest)) whole)) (only e (spelled-expr de (front right rest more)))) (spelled-stmts ds (back right rest more)))
  spelled-stmts (a_bump left rest sign op target others is_sign all tree dt ds) h =
      let whole = subst TokensAreCells all h in
      subst Numbered (sym tree) (join (part_exprs target.part) (stmts_exprs others) (spelled-target dt (front left (sign ∷ rest) whole)) (spelled-stmts ds (behind left sign rest whole)))
  spelled-stmts (an_if word then_word last test inner other_tokens rest c body other others is_word is_then is_end all tree dc db dother ds) h =
      let whole = (subst TokensAreCells all h).1 in
      let more = behind test then_word (inner ++ (other_tokens ++ last ∷ rest)) whole in
      let tail = back inner (other_tokens ++ last ∷ rest) more in
      subst Numbered (sym tree) (join (c ∷ (stmts_exprs body ++ stmts_exprs other)) (stmts_exprs others)
      (both (has_cell_numbers c) _ (spelled-expr dc (front test (then_word ∷ (inner ++ (other_tokens ++ last ∷ rest))) whole))
      (join (stmts_exprs body) (stmts_exprs other) (spelled-stmts db (front inner (other_tokens ++ last ∷ rest) more)) (spelled-other dother (front other_tokens (last ∷ rest) tail))))
      (spelled-stmts ds (behind other_tokens last rest tail)))
  spelled-stmts (a_when word do_word last test inner rest c body others is_word is_do is_end all tree dc db ds) h =
      let whole = (subst TokensAreCells all h).1 in
      let more = behind test do_word (inner ++ last ∷ rest) whole in
      subst Numbered (sym tree) (join (c ∷ stmts_exprs body) (stmts_exprs others)
      (both (has_cell_numbers c) _ (spelled-expr dc (front test (do_word ∷ (inner ++ last ∷ rest)) whole)) (spelled-stmts db (front inner (last ∷ rest) more))) (spelled-stmts ds (behind inner last rest more)))
  spelled-stmts (a_while word do_word last test inner rest c body others is_word is_do is_end all tree dc db ds) h =
      let whole = (subst TokensAreCells all h).1 in
      let more = behind test do_word (inner ++ last ∷ rest) whole in
      subst Numbered (sym tree) (join (c ∷ stmts_exprs body) (stmts_exprs others)
      (both (has_cell_numbers c) _ (spelled-expr dc (front test (do_word ∷ (inner ++ last ∷ rest)) whole)) (spelled-stmts db (front inner (last ∷ rest) more))) (spelled-stmts ds (behind inner last rest more)))
  spelled-stmts (a_for word variable in_word colon do_word last low high by inner rest name a b step body others is_word is_name is_in is_colon is_do is_end all tree da db dstep dbody ds) h =
      let whole = (subst TokensAreCells all h).1.1.1 in
      let from_high = behind low colon (high ++ (by ++ do_word ∷ (inner ++ last ∷ rest))) whole in
      let from_by = back high (by ++ do_word ∷ (inner ++ last ∷ rest)) from_high in
      let from_inner = behind by do_word (inner ++ last ∷ rest) from_by in
      subst Numbered (sym tree) (join (a ∷ b ∷ (option_to_list step ++ stmts_exprs body)) (stmts_exprs others)
      (both (has_cell_numbers a) _ (spelled-expr da (front low (colon ∷ (high ++ (by ++ do_word ∷ (inner ++ last ∷ rest)))) whole))
      (both (has_cell_numbers b) _ (spelled-expr db (front high (by ++ do_word ∷ (inner ++ last ∷ rest)) from_high))
      (join (option_to_list step) (stmts_exprs body) (spelled-step dstep (front by (do_word ∷ (inner ++ last ∷ rest)) from_by)) (spelled-stmts dbody (front inner (last ∷ rest) from_inner)))))
      (spelled-stmts ds (behind inner last rest from_inner)))
  spelled-stmts (an_emit word event given rest name argument others is_word is_name all tree da ds) h =
      let whole = (subst TokensAreCells all h).1.1 in
      subst Numbered (sym tree) (join (option_to_list argument) (stmts_exprs others) (spelled-argument da (front given rest whole)) (spelled-stmts ds (back given rest whole)))
  spelled-stmts (a_callsub word called rest name others is_word is_name all tree ds) h = subst Numbered (sym tree) (spelled-stmts ds (subst TokensAreCells all h).1.1)
  spelled-stmts (a_call word called opening closing given rest name es others is_word is_name is_open is_close all tree da ds) h =
      let whole = (subst TokensAreCells all h).1.1.1 in
      subst Numbered (sym tree) (join (to_list es) (stmts_exprs others) (listed es (spelled-arguments da (front given (closing ∷ rest) whole))) (spelled-stmts ds (behind given closing rest whole)))
  spelled-stmts (a_return word rest others is_word all tree ds) h = subst Numbered (sym tree) (spelled-stmts ds (subst TokensAreCells all h).1)

  spelled-other : {project : Project} {tokens : List Token} {other : Stmts} → SpellsOther project tokens other → TokensAreCells tokens → Numbered other
  spelled-other (no_other all tree) h = subst Numbered (sym tree) refl
  spelled-other (an_else word inner is_word all d) h = spelled-stmts d (subst TokensAreCells all h).1
  spelled-other (an_elseif word then_word test inner more_tokens c body more is_word is_then all tree dc db dm) h =
      let whole = (subst TokensAreCells all h).1 in
      let tail = behind test then_word (inner ++ more_tokens) whole in
      subst Numbered (sym tree) (join (c ∷ (stmts_exprs body ++ stmts_exprs more)) []
      (both (has_cell_numbers c) _ (spelled-expr dc (front test (then_word ∷ (inner ++ more_tokens)) whole))
      (join (stmts_exprs body) (stmts_exprs more) (spelled-stmts db (front inner more_tokens tail)) (spelled-other dm (back inner more_tokens tail)))) refl)

-- Declarations and parts

spelled-size : {tokens : List Token} {size : Option Expr} → SpellsSize tokens size → TokensAreCells tokens → list_all has_cell_numbers (option_to_list size) ≡ true
spelled-size (no_size all tree) h = subst (λ o. list_all has_cell_numbers (option_to_list o) ≡ true) (sym tree) refl
spelled-size (a_size opening closing inner e is_open is_close all tree d) h =
    subst (λ o. list_all has_cell_numbers (option_to_list o) ≡ true) (sym tree) (only e (spelled-expr d (front inner (closing ∷ []) (subst TokensAreCells all h).1)))

spelled-value : {named : Place} {tokens : List Token} {equals : Place} {value : Option Expr} → SpellsValue named tokens equals value → TokensAreCells tokens → list_all has_cell_numbers (option_to_list value) ≡ true
spelled-value (no_value all place tree) h = subst (λ o. list_all has_cell_numbers (option_to_list o) ≡ true) (sym tree) refl
spelled-value (a_value sign inner e is_sign all place tree d) h = subst (λ o. list_all has_cell_numbers (option_to_list o) ≡ true) (sym tree) (only e (spelled-expr d (subst TokensAreCells all h).1))

spelled-decls : {tokens : List Token} {ds : List Decl} → SpellsDecls tokens ds → TokensAreCells tokens → list_all has_cell_numbers (flat_map decl_exprs ds) ≡ true
spelled-decls (no_decls all tree) h = subst (λ ds. list_all has_cell_numbers (flat_map decl_exprs ds) ≡ true) (sym tree) refl
spelled-decls (a_decl word variable sized given rest name size value equals others is_word is_name all tree dsize dvalue ds) h =
    let whole = (subst TokensAreCells all h).1.1 in
    let more = back sized (given ++ rest) whole in
    subst (λ ds. list_all has_cell_numbers (flat_map decl_exprs ds) ≡ true) (sym tree)
    (join (option_to_list size ++ option_to_list value) (flat_map decl_exprs others)
    (join (option_to_list size) (option_to_list value) (spelled-size dsize (front sized (given ++ rest) whole)) (spelled-value dvalue (front given rest more))) (spelled-decls ds (back given rest more)))

spelled-parts : {project : Project} {tokens : List Token} {hs : List Handler} → SpellsParts project tokens hs → TokensAreCells tokens → list_all has_cell_numbers (flat_map (λ h. stmts_exprs h.body) hs) ≡ true
spelled-parts (no_parts all tree) h = subst (λ hs. list_all has_cell_numbers (flat_map (λ h. stmts_exprs h.body) hs) ≡ true) (sym tree) refl
spelled-parts (a_handler word event inner rest name body others is_word is_name all tree db ds) h =
    let whole = (subst TokensAreCells all h).1.1 in
    subst (λ hs. list_all has_cell_numbers (flat_map (λ h. stmts_exprs h.body) hs) ≡ true) (sym tree)
    (join (stmts_exprs body) (flat_map (λ h. stmts_exprs h.body) others) (spelled-stmts db (front inner rest whole)) (spelled-parts ds (back inner rest whole)))
spelled-parts (a_sub word named inner rest name body others is_word is_name all tree db ds) h =
    let whole = (subst TokensAreCells all h).1.1 in
    subst (λ hs. list_all has_cell_numbers (flat_map (λ h. stmts_exprs h.body) hs) ≡ true) (sym tree)
    (join (stmts_exprs body) (flat_map (λ h. stmts_exprs h.body) others) (spelled-stmts db (front inner rest whole)) (spelled-parts ds (back inner rest whole)))

-- the numbers of a source are those of its tokens
pub spelled-numbers : (project : Project) (source : Source) (tokens : List Token) → Spells project source tokens → TokensAreCells tokens → HasCellNumbers source
spelled-numbers project source tokens d h =
    let whole = subst TokensAreCells d.in_order h in
    let more = back d.decl_tokens (d.init_tokens ++ d.part_tokens) whole in
    join (flat_map decl_exprs source.vars ++ stmts_exprs source.init) (flat_map (λ h. stmts_exprs h.body) source.parts)
    (join (flat_map decl_exprs source.vars) (stmts_exprs source.init) (spelled-decls d.decls (front d.decl_tokens (d.init_tokens ++ d.part_tokens) whole)) (spelled-stmts d.init (front d.init_tokens d.part_tokens more)))
    (spelled-parts d.parts (back d.init_tokens d.part_tokens more))

-- Tokens of a text

abbrev number_of : TokenKind → Option ℤ
number_of (TokenKind.Number v) = Some v
number_of _ = None

below-cell : (limit n : ℕ) (v : ℤ) → cell_below limit n ≡ Some v → is_cell v ≡ true
below-cell limit n v e = pick (nat_lt n limit) e
  where
    pick : (b : Bool) → (if b then Some (wrapped (pos n)) else None) ≡ Some v → is_cell v ≡ true
    pick true e = let same : wrapped (pos n) ≡ v = ap (λ o. unwrap_or o (pos 0)) e in subst (λ x. is_cell x ≡ true) same (wrapped-cell (pos n))
    pick false e = cc

value-cell : (bytes : List ℕ) (v : ℤ) → number_value bytes ≡ Some v → is_cell v ≡ true
value-cell bytes v e =
    pick (some_of is_digit bytes) (starts_with eqb bytes (codes "0x") && some_of is_hex_digit (drop 2 bytes)) (starts_with eqb bytes (codes "0b") && some_of is_binary_digit (drop 2 bytes)) e
  where
    pick : (a b c : Bool) → (if a then cell_below 32768 (number_in 10 bytes) else if b then cell_below 65536 (number_in 16 (drop 2 bytes)) else if c then cell_below 65536 (number_in 2 (drop 2 bytes)) else None) ≡ Some v
        → is_cell v ≡ true
    pick true b c e = below-cell 32768 (number_in 10 bytes) v e
    pick false true c e = below-cell 65536 (number_in 16 (drop 2 bytes)) v e
    pick false false true e = below-cell 65536 (number_in 2 (drop 2 bytes)) v e
    pick false false false e = cc

-- a token's number is its spelling's
word-number : (bytes : List ℕ) (kind : TokenKind) (v : ℤ) → word_kind bytes ≡ Some kind → number_of kind ≡ Some v → number_value bytes ≡ Some v
word-number [] kind v e n = cc
word-number (b ∷ bytes) kind v e n = pick (is_digit b) e
  where
    named : (o : Option Key) → Some (keyword_or_name o (b ∷ bytes)) ≡ Some kind → number_value (b ∷ bytes) ≡ Some v
    named (Some key) e = let same : TokenKind.Key key ≡ kind = ap (λ o. unwrap_or o kind) e in let none : None ≡ Some v = ap number_of same ∙ n in cc
    named None e = let same : TokenKind.Name (b ∷ bytes) ≡ kind = ap (λ o. unwrap_or o kind) e in let none : None ≡ Some v = ap number_of same ∙ n in cc

    counted : (o : Option ℤ) → option_map TokenKind.Number o ≡ Some kind → o ≡ Some v
    counted None e = cc
    counted (Some w) e = let same : TokenKind.Number w ≡ kind = ap (λ o. unwrap_or o kind) e in ap number_of same ∙ n

    pick : (d : Bool) → (if d then option_map TokenKind.Number (number_value (b ∷ bytes)) else Some (keyword_or_name (spelled_in keywords (b ∷ bytes)) (b ∷ bytes))) ≡ Some kind → number_value (b ∷ bytes) ≡ Some v
    pick true e = counted (number_value (b ∷ bytes)) e
    pick false e = named (spelled_in keywords (b ∷ bytes)) e

kind-cell : (bytes : List ℕ) (kind : TokenKind) (v : ℤ) → kind_of bytes ≡ Some kind → number_of kind ≡ Some v → is_cell v ≡ true
kind-cell bytes kind v e n = pick (is_word bytes) e
  where
    signed : (o : Option Sign) → option_map TokenKind.Sign o ≡ Some kind → is_cell v ≡ true
    signed None e = cc
    signed (Some sign) e = let same : TokenKind.Sign sign ≡ kind = ap (λ o. unwrap_or o kind) e in let none : None ≡ Some v = ap number_of same ∙ n in cc

    pick : (w : Bool) → (if w then word_kind bytes else option_map TokenKind.Sign (spelled_in symbols bytes)) ≡ Some kind → is_cell v ≡ true
    pick true e = value-cell bytes v (word-number bytes kind v e n)
    pick false e = signed (spelled_in symbols bytes) e

cut-cells : {at : Pos} {text : List ℕ} {tokens : List Token} {end : Pos} {rest : List ℕ} → Cut at text tokens end rest → TokensAreCells tokens
cut-cells (Cut.nothing all ends remains) = subst TokensAreCells (sym all) tt
cut-cells (gap bytes more is_text is_gap d) = cut-cells d
cut-cells (token bytes more kind others is_text spelling all d) =
    subst TokensAreCells (sym all) (λ v e. kind-cell bytes kind v spelling.is_spelled (ap number_of e), cut-cells d)

-- the numbers of a source that a text spells
pub text-numbers : (project : Project) (source : Source) (text : List ℕ) (tokens : List Token) → Tokens text tokens → Spells project source tokens → HasCellNumbers source
text-numbers project source text tokens cut d = spelled-numbers project source tokens d (cut-cells cut)
