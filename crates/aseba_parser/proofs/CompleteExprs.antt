-- What is read of the tokens that spell an expression, a list of them or a target.
use Rattle.std.proofs.Common.{◌≡◌, ◌∙◌, ℕ, zero, suc, ◌≤◌, List, [], ◌∷◌, ◌++◌, length, refl, sym, ap, subst, arith, append_assoc, length-append}
use Rattle.std.proofs.lemmas.List.{append-nil}
use Rattle.aseba_words.specs.declared.operators.Binary.{Binary}
use Rattle.aseba_tree.specs.declared.token.Token.{Token}
use Rattle.aseba_tree.specs.declared.token.TokenKind.{TokenKind}
use Rattle.aseba_tree.specs.declared.token.Sign.{Sign}
use Rattle.aseba_tree.specs.Code.{Expr, expr, number, items, one, two, Exprs, no_exprs, exprs, Target}
use Rattle.aseba_tree.specs.View.{exprs_of}
use Rattle.aseba_tree.specs.Step.{target_expr}
use Rattle.aseba_tree.specs.Spells.{place, IsSign, level_of, any_level, first_of, begun_at, SpellsExpr, a_number, a_target, a_list, in_parentheses, a_prefix, an_operation, a_tighter, SpellsList, the_last, one_before, SpellsTarget, all_cells, one_cell, some_cells}
use Rattle.aseba_tree.specs.Nest.{inside, enclosed, expr_nests, list_nests, target_nests}
use Rattle.aseba_parser.specs.Reading.{Read, taken, next, expected, is_sign, many, all_of, list_read, leaf_by, leaf, level_read, inside_of}
use Rattle.aseba_parser.proofs.Outcome.{reply, Fits, fits_both, fits_enclosed, reply_next, reply_made, reply_map}
use Rattle.aseba_parser.proofs.OutcomeSteps.{sign_is, reply_expected, Stops, many_end, many_more}
use Rattle.aseba_parser.proofs.OutcomeEnds.{Ends, no_level_of_both}
use Rattle.aseba_parser.proofs.CompleteLevels.{Starts, IsRead, GoesOn, at_equal, tighter_goes_on, tighter_is_read, operation_goes_on, operation_is_read}
use Rattle.aseba_parser.proofs.CompleteLeaves.{enclosed_reads, ends_bracket, ends_comma, starts_with, number_is_read, IsTargetRead, all_cells_read, one_cell_read, some_cells_read, target_is_read, parentheses_read, prefix_is_read}

abbrev pub listed : Exprs → List Expr
listed no_exprs = []
listed (exprs e es) = e ∷ listed es

pub listed_back : (es : Exprs) → exprs_of (listed es) ≡ es
listed_back no_exprs = refl
listed_back (exprs e es) = ap (λ (os : Exprs). exprs e os) (listed_back es)

-- an expression behind a comma
abbrev pub item : (ℕ → List Token → Read Expr) → List Token → Read Expr
item read more = next (expected (is_sign Sign.Comma) more) (λ comma rest. read any_level rest)

-- The tokens are read as that list, whatever stands behind them that doesn't go on with it; and behind another expression and a comma as the rest of a list.
pub record IsListRead (used : List Token) (es : Exprs) (ns : List ℕ) : Type 0 where
  pub fits : Fits ns used
  pub starts : Starts any_level used
  pub reads : (depth : ℕ) (rest : List Token) → Ends any_level rest → Stops (is_sign Sign.Comma) rest → list_read (level_read (inside_of depth)) (used ++ rest) ≡ reply depth ns (used ++ rest) es
  pub goes_on : (depth fuel : ℕ) (comma : Token) (rest : List Token) → IsSign Sign.Comma comma → length (comma ∷ used) ≤ fuel → Ends any_level rest → Stops (is_sign Sign.Comma) rest
      → many (is_sign Sign.Comma) (item (level_read (inside_of depth))) fuel (comma ∷ (used ++ rest)) ≡ reply depth (0 ∷ ns) (comma ∷ (used ++ rest)) (listed es)

item_reads : (depth : ℕ) (comma : Token) (used rest : List Token) (e : Expr) (ns : List ℕ) → IsSign Sign.Comma comma → IsRead any_level used e ns → Ends any_level rest
    → item (level_read (inside_of depth)) (comma ∷ (used ++ rest)) ≡ reply depth (0 ∷ ns) (comma ∷ (used ++ rest)) e
item_reads depth comma used rest e ns is_comma d ends =
    reply_expected (is_sign Sign.Comma) depth ns comma (used ++ rest) e (λ comma rest. level_read (inside_of depth) any_level rest) (sign_is Sign.Comma comma is_comma) (d.reads depth rest ends)

last_goes_on : (used : List Token) (e : Expr) (ns : List ℕ) → IsRead any_level used e ns → (depth fuel : ℕ) (comma : Token) (rest : List Token) → IsSign Sign.Comma comma → length (comma ∷ used) ≤ fuel → Ends any_level rest → Stops (is_sign Sign.Comma) rest
    → many (is_sign Sign.Comma) (item (level_read (inside_of depth))) fuel (comma ∷ (used ++ rest)) ≡ reply depth (0 ∷ ns) (comma ∷ (used ++ rest)) (e ∷ [])
last_goes_on used e ns d depth zero comma rest is_comma enough ends stops = absurd (omega arith)
last_goes_on used e ns d depth (suc fuel) comma rest is_comma enough ends stops =
    let read = item (level_read (inside_of depth)) in
    many_more (is_sign Sign.Comma) read depth fuel (0 ∷ ns) [] comma used rest e [] (sign_is Sign.Comma comma is_comma) d.fits (item_reads depth comma used rest e ns is_comma d ends) (many_end (is_sign Sign.Comma) read fuel rest stops)
    ∙ ap (λ (ms : List ℕ). reply depth (0 ∷ ms) (comma ∷ (used ++ rest)) (e ∷ [])) (append-nil ns)

last_is_read : (used : List Token) (e : Expr) (ns : List ℕ) → IsRead any_level used e ns → IsListRead used (exprs e no_exprs) ns
last_is_read used e ns d = record {
  fits = d.fits;
  starts = d.starts;
  reads = λ depth rest ends stops.
      let behind = λ (e : Expr) (after : List Token). next (all_of (is_sign Sign.Comma) (item (level_read (inside_of depth))) after) (λ others last. taken (exprs_of (e ∷ others)) last) in
      ap (λ (r : Read Expr). next r behind) (d.reads depth rest ends)
      ∙ reply_made depth ns used rest e (exprs e no_exprs) behind d.fits
      (ap (λ (r : Read (List Expr)). next r (λ others last. taken (exprs_of (e ∷ others)) last)) (many_end (is_sign Sign.Comma) (item (level_read (inside_of depth))) (length rest) rest stops));
  goes_on = last_goes_on used e ns d;
}

before_goes_on : (first rest : List Token) (comma : Token) (e : Expr) (others : Exprs) (ns ms : List ℕ) → IsSign Sign.Comma comma → IsRead any_level first e ns → IsListRead rest others ms
    → (depth fuel : ℕ) (t : Token) (behind : List Token) → IsSign Sign.Comma t → length (t ∷ (first ++ comma ∷ rest)) ≤ fuel → Ends any_level behind → Stops (is_sign Sign.Comma) behind
    → many (is_sign Sign.Comma) (item (level_read (inside_of depth))) fuel (t ∷ ((first ++ comma ∷ rest) ++ behind)) ≡ reply depth (0 ∷ (ns ++ 0 ∷ ms)) (t ∷ ((first ++ comma ∷ rest) ++ behind)) (e ∷ listed others)
before_goes_on first rest comma e others ns ms is_comma d ds depth zero t behind is_t enough ends stops = absurd (omega arith)
before_goes_on first rest comma e others ns ms is_comma d ds depth (suc fuel) t behind is_t enough ends stops =
    let read = item (level_read (inside_of depth)) in
    let longer = length-append first (comma ∷ rest) in
    subst (λ (ts : List Token). many (is_sign Sign.Comma) read (suc fuel) (t ∷ ts) ≡ reply depth (0 ∷ (ns ++ 0 ∷ ms)) (t ∷ ts) (e ∷ listed others)) (sym (append_assoc first (comma ∷ rest) behind))
    (many_more (is_sign Sign.Comma) read depth fuel (0 ∷ ns) (0 ∷ ms) t first (comma ∷ (rest ++ behind)) e (listed others) (sign_is Sign.Comma t is_t) d.fits
    (item_reads depth t first (comma ∷ (rest ++ behind)) e ns is_t d (ends_comma comma (rest ++ behind) any_level is_comma))
    (ds.goes_on depth fuel comma behind is_comma (omega (arith, longer, enough)) ends stops))

before_is_read : (first rest : List Token) (comma : Token) (e : Expr) (others : Exprs) (ns ms : List ℕ) → IsSign Sign.Comma comma → IsRead any_level first e ns → IsListRead rest others ms
    → IsListRead (first ++ comma ∷ rest) (exprs e others) (ns ++ 0 ∷ ms)
before_is_read first rest comma e others ns ms is_comma d ds = record {
  fits = fits_both ns (0 ∷ ms) first (comma ∷ rest) d.fits ds.fits;
  starts = record { first = d.starts.first; others = d.starts.others ++ comma ∷ rest; whole = ap (λ (ts : List Token). ts ++ comma ∷ rest) d.starts.whole; is_open = d.starts.is_open; is_tight = d.starts.is_tight };
  reads = λ depth behind ends stops.
      let read = item (level_read (inside_of depth)) in
      let on = λ (a : Expr) (after : List Token). next (all_of (is_sign Sign.Comma) read after) (λ more last. taken (exprs_of (a ∷ more)) last) in
      let made = λ (more : List Expr) (last : List Token). taken (exprs_of (e ∷ more)) last in
      subst (λ (ts : List Token). next (level_read (inside_of depth) any_level ts) on ≡ reply depth (ns ++ 0 ∷ ms) ts (exprs e others)) (sym (append_assoc first (comma ∷ rest) behind))
      (ap (λ (r : Read Expr). next r on) (d.reads depth (comma ∷ (rest ++ behind)) (ends_comma comma (rest ++ behind) any_level is_comma))
      ∙ reply_next depth ns (0 ∷ ms) first (comma ∷ (rest ++ behind)) e (exprs e others) on d.fits
      (ap (λ (r : Read (List Expr)). next r made) (ds.goes_on depth (length (comma ∷ (rest ++ behind))) comma behind is_comma (let longer = length-append rest behind in omega (arith, longer)) ends stops)
      ∙ reply_map depth (0 ∷ ms) (comma ∷ (rest ++ behind)) (listed others) (exprs e others) made (λ last. ap (λ (os : Exprs). taken (exprs e os) last) (listed_back others))));
  goes_on = before_goes_on first rest comma e others ns ms is_comma d ds;
}

pub list_is_read : (opening closing : Token) (inner : List Token) (es : Exprs) (ns : List ℕ) → IsSign Sign.OpenBracket opening → IsSign Sign.CloseBracket closing → IsListRead inner es ns
    → IsRead 0 (opening ∷ (inner ++ closing ∷ [])) (expr (place opening) (place opening) (items es)) (enclosed ns)
list_is_read opening closing inner es ns is_open is_close d = record {
  fits = fits_enclosed ns inner opening closing d.fits;
  starts = starts_with opening (inner ++ closing ∷ []) (TokenKind.Sign Sign.OpenBracket) 0 is_open refl refl;
  reads = λ depth rest ends.
      let made = λ (es : Exprs). expr (place opening) (place opening) (items es) in
      subst (λ (ts : List Token). leaf (inside_of depth) (opening ∷ ts) ≡ reply depth (enclosed ns) (opening ∷ ts) (made es)) (sym (append_assoc inner (closing ∷ []) rest))
      (ap (leaf_by (inside_of depth) opening (inner ++ closing ∷ rest)) is_open
      ∙ enclosed_reads Sign.CloseBracket list_read depth ns opening closing inner rest es made is_close d.fits
      (λ k. d.reads k (closing ∷ rest) (ends_bracket closing rest any_level is_close) (ap (λ (kind : TokenKind). is_sign Sign.Comma kind) is_close)));
}

pub list_equal : (used tokens : List Token) (es tree : Exprs) (ns : List ℕ) → tokens ≡ used → tree ≡ es → IsListRead used es ns → IsListRead tokens tree ns
list_equal used tokens es tree ns q r h = subst (λ (ts : List Token). IsListRead ts tree ns) (sym q) (subst (λ (x : Exprs). IsListRead used x ns) (sym r) h)

pub target_equal : (used tokens : List Token) (target tree : Target) (ns : List ℕ) → tokens ≡ used → tree ≡ target → IsTargetRead used target ns → IsTargetRead tokens tree ns
target_equal used tokens target tree ns q r h = subst (λ (ts : List Token). IsTargetRead ts tree ns) (sym q) (subst (λ (x : Target). IsTargetRead used x ns) (sym r) h)

goes_equal : (tighter : ℕ) (used tokens : List Token) (e tree : Expr) (ns : List ℕ) → tokens ≡ used → tree ≡ e → GoesOn tighter used e ns → GoesOn tighter tokens tree ns
goes_equal tighter used tokens e tree ns q r h = subst (λ (ts : List Token). GoesOn tighter ts tree ns) (sym q) (subst (λ (x : Expr). GoesOn tighter used x ns) (sym r) h)

same_tighter : (a b : ℕ) (used : List Token) (e : Expr) (ns : List ℕ) → suc a ≡ suc b → IsRead a used e ns → IsRead b used e ns
same_tighter a b used e ns q h = let same : a ≡ b = omega arith in subst (λ (n : ℕ). IsRead n used e ns) same h

mutual
  pub each_expr : {level : ℕ} {tokens : List Token} {e : Expr} (d : SpellsExpr level tokens e) → IsRead level tokens e (expr_nests d)
  each_expr (a_number t v is_number all level tree) = at_equal 0 _ (t ∷ []) _ (expr (place t) (place t) (number v)) _ (0 ∷ []) level all tree (number_is_read t v is_number)
  each_expr (a_target target level tree d) = at_equal 0 _ _ _ (target_expr target) _ (target_nests d) level refl tree (target_is_read _ target (target_nests d) (each_target d))
  each_expr (a_list opening closing inner es is_open is_close all level tree d) =
      at_equal 0 _ (opening ∷ (inner ++ closing ∷ [])) _ (expr (place opening) (place opening) (items es)) _ (enclosed (list_nests d)) level all tree (list_is_read opening closing inner es (list_nests d) is_open is_close (each_list d))
  each_expr (in_parentheses opening closing inner i is_open is_close all level tree d) =
      at_equal 0 _ (opening ∷ (inner ++ closing ∷ [])) _ (begun_at (place opening) i) _ (enclosed (expr_nests d)) level all tree (parentheses_read opening closing inner i (expr_nests d) is_open is_close (each_expr d))
  each_expr (a_prefix t op operand i is_prefix all level tree d) =
      at_equal _ _ (t ∷ operand) _ (expr (place t) (place t) (one op i)) _ (inside (0 ∷ expr_nests d)) refl all tree (prefix_is_read _ t op operand i (expr_nests d) is_prefix level (each_expr d))
  each_expr (an_operation left right t op tighter l r is_operator all level below tree dl dr) =
      at_equal (suc tighter) _ (left ++ t ∷ right) _ (expr (first_of l) (place t) (two op l r)) _ (expr_nests dl ++ 0 ∷ expr_nests dr) below all tree
      (operation_is_read tighter left right l r (expr_nests dl) (expr_nests dr) t op is_operator (sym level ∙ below) (subst (λ (n : ℕ). IsRead n left l (expr_nests dl)) below (each_expr dl)) (each_grouped dl op tighter level below) (each_expr dr))
  each_expr (a_tighter tighter level d) = at_equal (suc tighter) _ _ _ _ _ (expr_nests d) level refl refl (tighter_is_read tighter _ _ (expr_nests d) (each_expr d))

  each_grouped : {level : ℕ} {tokens : List Token} {e : Expr} (d : SpellsExpr level tokens e) (op : Binary) (tighter : ℕ) → level ≡ level_of op → level ≡ suc tighter → GoesOn tighter tokens e (expr_nests d)
  each_grouped (a_number t v is_number all level tree) op tighter of above = absurd (omega (arith, level, above))
  each_grouped (a_target target level tree d) op tighter of above = absurd (omega (arith, level, above))
  each_grouped (a_list opening closing inner es is_open is_close all level tree d) op tighter of above = absurd (omega (arith, level, above))
  each_grouped (in_parentheses opening closing inner i is_open is_close all level tree d) op tighter of above = absurd (omega (arith, level, above))
  each_grouped (a_prefix t u operand i is_prefix all level tree d) op tighter of above = absurd (no_level_of_both op u (sym of ∙ level))
  each_grouped (an_operation left right t u under l r is_operator all level below tree dl dr) op tighter of above =
      goes_equal tighter (left ++ t ∷ right) _ (expr (first_of l) (place t) (two u l r)) _ (expr_nests dl ++ 0 ∷ expr_nests dr) all tree
      (operation_goes_on tighter left right l r (expr_nests dl) (expr_nests dr) t u is_operator (sym level ∙ above) (each_expr dl).fits (each_grouped dl u tighter level above)
      (same_tighter under tighter right r (expr_nests dr) (sym below ∙ above) (each_expr dr)))
  each_grouped (a_tighter under level d) op tighter of above = tighter_goes_on tighter _ _ (expr_nests d) (same_tighter under tighter _ _ (expr_nests d) (sym level ∙ above) (each_expr d))

  pub each_list : {tokens : List Token} {es : Exprs} (d : SpellsList tokens es) → IsListRead tokens es (list_nests d)
  each_list (the_last e tree d) = list_equal _ _ (exprs e no_exprs) _ (expr_nests d) refl tree (last_is_read _ e (expr_nests d) (each_expr d))
  each_list (one_before first rest comma e others is_comma all tree d ds) =
      list_equal (first ++ comma ∷ rest) _ (exprs e others) _ (expr_nests d ++ 0 ∷ list_nests ds) all tree (before_is_read first rest comma e others (expr_nests d) (list_nests ds) is_comma (each_expr d) (each_list ds))

  pub each_target : {tokens : List Token} {target : Target} (d : SpellsTarget tokens target) → IsTargetRead tokens target (target_nests d)
  each_target (all_cells t name is_name all tree) = target_equal (t ∷ []) _ _ _ (0 ∷ []) all tree (all_cells_read t name is_name)
  each_target (one_cell t opening closing name inner i is_name is_open is_close all tree d) =
      target_equal (t ∷ opening ∷ (inner ++ closing ∷ [])) _ _ _ (0 ∷ enclosed (expr_nests d)) all tree (one_cell_read t opening closing name inner i (expr_nests d) is_name is_open is_close (each_expr d))
  each_target (some_cells t opening colon closing name low high c d is_name is_open is_colon is_close all tree dl dh) =
      target_equal (t ∷ opening ∷ (low ++ colon ∷ (high ++ closing ∷ []))) _ _ _ (0 ∷ enclosed (expr_nests dl ++ 0 ∷ expr_nests dh)) all tree
      (some_cells_read t opening colon closing name low high c d (expr_nests dl) (expr_nests dh) is_name is_open is_colon is_close (each_expr dl) (each_expr dh))
