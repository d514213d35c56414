-- What is read of the tokens that spell a leaf, a list or a target.
use Rattle.std.proofs.Common.{◌≡◌, ◌∙◌, ℕ, suc, ◌≤◌, ℤ, Bool, true, false, List, [], ◌∷◌, ◌++◌, Option, Some, None, refl, sym, ap, subst, arith, append_assoc}
use Rattle.aseba_words.specs.declared.operators.Unary.{Unary}
use Rattle.aseba_tree.specs.declared.token.Token.{Token}
use Rattle.aseba_tree.specs.declared.token.TokenKind.{TokenKind}
use Rattle.aseba_tree.specs.declared.token.Sign.{Sign}
use Rattle.aseba_tree.specs.Code.{Name, Expr, expr, number, one, Part, all, at, span, Target}
use Rattle.aseba_tree.specs.Step.{target_expr}
use Rattle.aseba_tree.specs.Spells.{place, IsName, IsSign, prefix_operator, prefix_level, any_level, begun_at}
use Rattle.aseba_tree.specs.Nest.{inside, enclosed}
use Rattle.aseba_parser.specs.Reading.{Read, taken, next, expected, is_sign, Inside, opened, index_end, part_read, target_read, leaf_by, leaf, prefixed_by, level_read, inside_of}
use Rattle.aseba_parser.proofs.Outcome.{reply, Fits, fits_both, fits_inside, fits_enclosed, reply_first, reply_next, reply_map}
use Rattle.aseba_parser.proofs.OutcomeSteps.{sign_is, reply_expected, reply_named, reply_opened, reply_closed}
use Rattle.aseba_parser.proofs.OutcomeEnds.{Unindexed, Ends, unindexed, ends_closed, prefix_there, prefix_above}
use Rattle.aseba_parser.proofs.CompleteLevels.{Starts, IsRead}

-- What a closing sign stands behind is read a level deeper.
pub enclosed_reads : {A B : Type 0} (sign : Sign) (read_by : (ℕ → List Token → Read Expr) → List Token → Read A) (depth : ℕ) (ns : List ℕ) (opening closing : Token) (inner rest : List Token) (a : A) (g : A → B) → IsSign sign closing → Fits ns inner
    → ((d : ℕ) → read_by (level_read (inside_of d)) (inner ++ closing ∷ rest) ≡ reply d ns (inner ++ closing ∷ rest) a)
    → opened (inside_of depth) (opening ∷ (inner ++ closing ∷ rest)) (λ read. next (read_by read (inner ++ closing ∷ rest)) (λ e after. next (expected (is_sign sign) after) (λ last behind. taken (g e) behind)))
    ≡ reply depth (enclosed ns) (opening ∷ (inner ++ closing ∷ rest)) (g a)
enclosed_reads sign read_by depth ns opening closing inner rest a g is_closing fits e =
    reply_opened inside_of (λ d. level_read (inside_of d)) refl (λ d. refl) depth (ns ++ 0 ∷ []) opening (inner ++ closing ∷ rest) (g a)
    (λ read. next (read_by read (inner ++ closing ∷ rest)) (λ e after. next (expected (is_sign sign) after) (λ last behind. taken (g e) behind)))
    (λ d. reply_closed sign d ns inner rest closing (read_by (level_read (inside_of d)) (inner ++ closing ∷ rest)) a g is_closing fits (e d))

pub ends_paren : (closing : Token) (rest : List Token) (level : ℕ) → IsSign Sign.CloseParen closing → Ends level (closing ∷ rest)
ends_paren closing rest level e = ends_closed closing rest (TokenKind.Sign Sign.CloseParen) level e refl refl

pub ends_bracket : (closing : Token) (rest : List Token) (level : ℕ) → IsSign Sign.CloseBracket closing → Ends level (closing ∷ rest)
ends_bracket closing rest level e = ends_closed closing rest (TokenKind.Sign Sign.CloseBracket) level e refl refl

pub ends_comma : (comma : Token) (rest : List Token) (level : ℕ) → IsSign Sign.Comma comma → Ends level (comma ∷ rest)
ends_comma comma rest level e = ends_closed comma rest (TokenKind.Sign Sign.Comma) level e refl refl

pub ends_colon : (colon : Token) (rest : List Token) (level : ℕ) → IsSign Sign.Colon colon → Ends level (colon ∷ rest)
ends_colon colon rest level e = ends_closed colon rest (TokenKind.Sign Sign.Colon) level e refl refl

-- the first token of an expression, by its kind
pub starts_with : (t : Token) (others : List Token) (kind : TokenKind) (level : ℕ) → t.kind ≡ kind → is_sign Sign.CloseParen kind ≡ false → prefix_operator kind ≡ None → Starts level (t ∷ others)
starts_with t others kind level e opens none = record {
  first = t;
  others = others;
  whole = refl;
  is_open = ap (λ (k : TokenKind). is_sign Sign.CloseParen k) e ∙ opens;
  is_tight = λ op p. let none_here : prefix_operator t.kind ≡ None = ap prefix_operator e ∙ none in absurd cc;
}

pub number_is_read : (t : Token) (v : ℤ) → t.kind ≡ TokenKind.Number v → IsRead 0 (t ∷ []) (expr (place t) (place t) (number v)) (0 ∷ [])
number_is_read t v e = record {
  fits = tt;
  starts = starts_with t [] (TokenKind.Number v) 0 e refl refl;
  reads = λ depth rest ends. ap (leaf_by (inside_of depth) t rest) e ∙ sym (reply_first depth [] t rest (expr (place t) (place t) (number v)));
}

-- The tokens are read as that target, whatever stands behind them that is no index.
pub record IsTargetRead (used : List Token) (target : Target) (ns : List ℕ) : Type 0 where
  pub fits : Fits ns used
  pub first : Token
  pub others : List Token
  pub name : Name
  pub whole : used ≡ first ∷ others
  pub named : IsName name first
  pub reads : (depth : ℕ) (rest : List Token) → Unindexed rest → target_read (inside_of depth) (used ++ rest) ≡ reply depth ns (used ++ rest) target

part_all : (within : Inside) (rest : List Token) → Unindexed rest → part_read within rest ≡ taken all rest
part_all within [] free = refl
part_all within (t ∷ rest) free =
    ap (λ (q : Bool). elim q as (λ c. Read Part) [ true ↦ opened within (t ∷ rest) (λ read. next (read any_level rest) (λ e after. index_end read e after)) | false ↦ taken all (t ∷ rest) ]) free

pub all_cells_read : (t : Token) (name : Name) → IsName name t → IsTargetRead (t ∷ []) (record { place = place t; name = name; part = all }) (0 ∷ [])
all_cells_read t name is_name = record {
  fits = tt;
  first = t;
  others = [];
  name = name;
  whole = refl;
  named = is_name;
  reads = λ depth rest free. reply_named depth [] t rest name (record { place = place t; name = name; part = all })
      (λ n after. next (part_read (inside_of depth) after) (λ part behind. taken (record { place = place n.token; name = n.name; part = part }) behind)) is_name
      (ap (λ (r : Read Part). next r (λ part behind. taken (record { place = place t; name = name; part = part }) behind)) (part_all (inside_of depth) rest free));
}

-- what stands behind a name in brackets
part_reads : (depth : ℕ) (ns : List ℕ) (opening : Token) (inner : List Token) (part : Part) → IsSign Sign.OpenBracket opening
    → ((d : ℕ) → next (level_read (inside_of d) any_level inner) (λ e after. index_end (level_read (inside_of d)) e after) ≡ reply d ns inner part)
    → part_read (inside_of depth) (opening ∷ inner) ≡ reply depth (inside (0 ∷ ns)) (opening ∷ inner) part
part_reads depth ns opening inner part is_open e =
    ap (λ (q : Bool). elim q as (λ c. Read Part) [ true ↦ opened (inside_of depth) (opening ∷ inner) (λ read. next (read any_level inner) (λ e after. index_end read e after)) | false ↦ taken all (opening ∷ inner) ])
    (sign_is Sign.OpenBracket opening is_open)
    ∙ reply_opened inside_of (λ d. level_read (inside_of d)) refl (λ d. refl) depth ns opening inner part (λ read. next (read any_level inner) (λ e after. index_end read e after)) e

-- a name and its part
named_part : (depth : ℕ) (ns : List ℕ) (t : Token) (name : Name) (part : Part) (tokens : List Token) → IsName name t → part_read (inside_of depth) tokens ≡ reply depth ns tokens part
    → target_read (inside_of depth) (t ∷ tokens) ≡ reply depth (0 ∷ ns) (t ∷ tokens) (record { place = place t; name = name; part = part })
named_part depth ns t name part tokens is_name e =
    reply_named depth ns t tokens name (record { place = place t; name = name; part = part })
    (λ n after. next (part_read (inside_of depth) after) (λ part behind. taken (record { place = place n.token; name = n.name; part = part }) behind)) is_name
    (ap (λ (r : Read Part). next r (λ part behind. taken (record { place = place t; name = name; part = part }) behind)) e
    ∙ reply_map depth ns tokens part (record { place = place t; name = name; part = part }) (λ part behind. taken (record { place = place t; name = name; part = part }) behind) (λ rest. refl))

index_closed : (read : ℕ → List Token → Read Expr) (e : Expr) (d : ℕ) (closing : Token) (rest : List Token) → IsSign Sign.CloseBracket closing → index_end read e (closing ∷ rest) ≡ reply d (0 ∷ []) (closing ∷ rest) (at e)
index_closed read e d closing rest is_close =
    ap (λ (k : TokenKind). elim (is_sign Sign.Colon k) as (λ c. Read Part) [
      | true ↦ next (read any_level rest) (λ d after. next (expected (is_sign Sign.CloseBracket) after) (λ closing behind. taken (span e d) behind))
      | false ↦ next (expected (is_sign Sign.CloseBracket) (closing ∷ rest)) (λ closing behind. taken (at e) behind)
    ]) is_close
    ∙ reply_expected (is_sign Sign.CloseBracket) d [] closing rest (at e) (λ closing behind. taken (at e) behind) (sign_is Sign.CloseBracket closing is_close) refl

pub one_cell_read : (t opening closing : Token) (name : Name) (inner : List Token) (i : Expr) (ns : List ℕ) → IsName name t → IsSign Sign.OpenBracket opening → IsSign Sign.CloseBracket closing → IsRead any_level inner i ns
    → IsTargetRead (t ∷ opening ∷ (inner ++ closing ∷ [])) (record { place = place t; name = name; part = at i }) (0 ∷ enclosed ns)
one_cell_read t opening closing name inner i ns is_name is_open is_close d = record {
  fits = fits_enclosed ns inner opening closing d.fits;
  first = t;
  others = opening ∷ (inner ++ closing ∷ []);
  name = name;
  whole = refl;
  named = is_name;
  reads = λ depth rest free. subst (λ (ts : List Token). target_read (inside_of depth) (t ∷ opening ∷ ts) ≡ reply depth (0 ∷ enclosed ns) (t ∷ opening ∷ ts) (record { place = place t; name = name; part = at i }))
      (sym (append_assoc inner (closing ∷ []) rest))
      (named_part depth (enclosed ns) t name (at i) (opening ∷ (inner ++ closing ∷ rest)) is_name
      (part_reads depth (ns ++ 0 ∷ []) opening (inner ++ closing ∷ rest) (at i) is_open
      (λ k. ap (λ (r : Read Expr). next r (λ e after. index_end (level_read (inside_of k)) e after)) (d.reads k (closing ∷ rest) (ends_bracket closing rest any_level is_close))
      ∙ reply_next k ns (0 ∷ []) inner (closing ∷ rest) i (at i) (λ e after. index_end (level_read (inside_of k)) e after) d.fits (index_closed (level_read (inside_of k)) i k closing rest is_close))));
}

index_span : (e f : Expr) (d : ℕ) (ns : List ℕ) (colon closing : Token) (high rest : List Token) → IsSign Sign.Colon colon → IsSign Sign.CloseBracket closing → IsRead any_level high f ns
    → index_end (level_read (inside_of d)) e (colon ∷ (high ++ closing ∷ rest)) ≡ reply d (0 ∷ (ns ++ 0 ∷ [])) (colon ∷ (high ++ closing ∷ rest)) (span e f)
index_span e f d ns colon closing high rest is_colon is_close h =
    ap (λ (q : Bool). elim q as (λ c. Read Part) [
      | true ↦ next (level_read (inside_of d) any_level (high ++ closing ∷ rest)) (λ d after. next (expected (is_sign Sign.CloseBracket) after) (λ closing behind. taken (span e d) behind))
      | false ↦ next (expected (is_sign Sign.CloseBracket) (colon ∷ (high ++ closing ∷ rest))) (λ closing behind. taken (at e) behind)
    ]) (sign_is Sign.Colon colon is_colon)
    ∙ reply_closed Sign.CloseBracket d ns high rest closing (level_read (inside_of d) any_level (high ++ closing ∷ rest)) f (span e) is_close h.fits (h.reads d (closing ∷ rest) (ends_bracket closing rest any_level is_close))
    ∙ sym (reply_first d (ns ++ 0 ∷ []) colon (high ++ closing ∷ rest) (span e f))

pub some_cells_read : (t opening colon closing : Token) (name : Name) (low high : List Token) (c d : Expr) (nl nh : List ℕ) → IsName name t → IsSign Sign.OpenBracket opening → IsSign Sign.Colon colon → IsSign Sign.CloseBracket closing
    → IsRead any_level low c nl → IsRead any_level high d nh
    → IsTargetRead (t ∷ opening ∷ (low ++ colon ∷ (high ++ closing ∷ []))) (record { place = place t; name = name; part = span c d }) (0 ∷ enclosed (nl ++ 0 ∷ nh))
some_cells_read t opening colon closing name low high c d nl nh is_name is_open is_colon is_close dl dh =
    let fits_inner : Fits (nl ++ 0 ∷ (nh ++ 0 ∷ [])) (low ++ colon ∷ (high ++ closing ∷ [])) = fits_both nl (0 ∷ (nh ++ 0 ∷ [])) low (colon ∷ (high ++ closing ∷ [])) dl.fits (fits_both nh (0 ∷ []) high (closing ∷ []) dh.fits tt) in
    let joined : nl ++ 0 ∷ (nh ++ 0 ∷ []) ≡ (nl ++ 0 ∷ nh) ++ 0 ∷ [] = sym (append_assoc nl (0 ∷ nh) (0 ∷ [])) in
    record {
      fits = subst (λ (ns : List ℕ). Fits (inside ns) (low ++ colon ∷ (high ++ closing ∷ []))) joined (fits_inside (nl ++ 0 ∷ (nh ++ 0 ∷ [])) (low ++ colon ∷ (high ++ closing ∷ [])) fits_inner);
      first = t;
      others = opening ∷ (low ++ colon ∷ (high ++ closing ∷ []));
      name = name;
      whole = refl;
      named = is_name;
      reads = λ depth rest free. subst (λ (ts : List Token). target_read (inside_of depth) (t ∷ opening ∷ ts) ≡ reply depth (0 ∷ enclosed (nl ++ 0 ∷ nh)) (t ∷ opening ∷ ts) (record { place = place t; name = name; part = span c d }))
          (sym (append_assoc low (colon ∷ (high ++ closing ∷ [])) rest ∙ ap (λ (ts : List Token). low ++ colon ∷ ts) (append_assoc high (closing ∷ []) rest)))
          (named_part depth (enclosed (nl ++ 0 ∷ nh)) t name (span c d) (opening ∷ (low ++ colon ∷ (high ++ closing ∷ rest))) is_name
          (subst (λ (ns : List ℕ). part_read (inside_of depth) (opening ∷ (low ++ colon ∷ (high ++ closing ∷ rest))) ≡ reply depth (inside (0 ∷ ns)) (opening ∷ (low ++ colon ∷ (high ++ closing ∷ rest))) (span c d)) joined
          (part_reads depth (nl ++ 0 ∷ (nh ++ 0 ∷ [])) opening (low ++ colon ∷ (high ++ closing ∷ rest)) (span c d) is_open
          (λ k. ap (λ (r : Read Expr). next r (λ e after. index_end (level_read (inside_of k)) e after)) (dl.reads k (colon ∷ (high ++ closing ∷ rest)) (ends_colon colon (high ++ closing ∷ rest) any_level is_colon))
          ∙ reply_next k nl (0 ∷ (nh ++ 0 ∷ [])) low (colon ∷ (high ++ closing ∷ rest)) c (span c d) (λ e after. index_end (level_read (inside_of k)) e after) dl.fits
          (index_span c d k nh colon closing high rest is_colon is_close dh)))));
    }

pub target_is_read : (used : List Token) (target : Target) (ns : List ℕ) → IsTargetRead used target ns → IsRead 0 used (target_expr target) ns
target_is_read used target ns d = record {
  fits = d.fits;
  starts = subst (λ (ts : List Token). Starts 0 ts) (sym d.whole) (starts_with d.first d.others (TokenKind.Name d.name) 0 d.named refl refl);
  reads = λ depth rest ends.
      ap (λ (ts : List Token). leaf (inside_of depth) (ts ++ rest)) d.whole
      ∙ ap (leaf_by (inside_of depth) d.first (d.others ++ rest)) d.named
      ∙ ap (λ (ts : List Token). next (target_read (inside_of depth) (ts ++ rest)) (λ target behind. taken (target_expr target) behind)) (sym d.whole)
      ∙ ap (λ (r : Read Target). next r (λ target behind. taken (target_expr target) behind)) (d.reads depth rest (unindexed 0 rest ends))
      ∙ reply_map depth ns (used ++ rest) target (target_expr target) (λ target behind. taken (target_expr target) behind) (λ rest. refl);
}

pub parentheses_read : (opening closing : Token) (inner : List Token) (i : Expr) (ns : List ℕ) → IsSign Sign.OpenParen opening → IsSign Sign.CloseParen closing → IsRead any_level inner i ns
    → IsRead 0 (opening ∷ (inner ++ closing ∷ [])) (begun_at (place opening) i) (enclosed ns)
parentheses_read opening closing inner i ns is_open is_close d = record {
  fits = fits_enclosed ns inner opening closing d.fits;
  starts = starts_with opening (inner ++ closing ∷ []) (TokenKind.Sign Sign.OpenParen) 0 is_open refl refl;
  reads = λ depth rest ends. subst (λ (ts : List Token). leaf (inside_of depth) (opening ∷ ts) ≡ reply depth (enclosed ns) (opening ∷ ts) (begun_at (place opening) i)) (sym (append_assoc inner (closing ∷ []) rest))
      (ap (leaf_by (inside_of depth) opening (inner ++ closing ∷ rest)) is_open
      ∙ enclosed_reads Sign.CloseParen (λ read. read any_level) depth ns opening closing inner rest i (begun_at (place opening)) is_close d.fits (λ k. d.reads k (closing ∷ rest) (ends_paren closing rest any_level is_close)));
}

-- The prefix operator's own level is that of its operand.
prefix_reads : (level m : ℕ) → level ≡ suc m → (t : Token) (op : Unary) (operand : List Token) (i : Expr) (ns : List ℕ) → prefix_operator t.kind ≡ Some op → prefix_level op ≡ level → IsRead level operand i ns
    → (depth : ℕ) (rest : List Token) → Ends level rest → level_read (inside_of depth) level (t ∷ (operand ++ rest)) ≡ reply depth (inside (0 ∷ ns)) (t ∷ (operand ++ rest)) (expr (place t) (place t) (one op i))
prefix_reads level m above t op operand i ns is_prefix same d depth rest ends =
    ap (λ (n : ℕ). level_read (inside_of depth) n (t ∷ (operand ++ rest))) above
    ∙ ap (prefixed_by (inside_of depth) (suc m) (level_read (inside_of depth) m) t (operand ++ rest)) (prefix_there t op (suc m) is_prefix (same ∙ above))
    ∙ reply_opened inside_of (λ k. level_read (inside_of k)) refl (λ k. refl) depth ns t (operand ++ rest) (expr (place t) (place t) (one op i))
    (λ read. next (read (suc m) (operand ++ rest)) (λ e behind. taken (expr (place t) (place t) (one op e)) behind))
    (λ k. ap (λ (n : ℕ). next (level_read (inside_of k) n (operand ++ rest)) (λ e behind. taken (expr (place t) (place t) (one op e)) behind)) (sym above)
    ∙ ap (λ (r : Read Expr). next r (λ e behind. taken (expr (place t) (place t) (one op e)) behind)) (d.reads k rest ends)
    ∙ reply_map k ns (operand ++ rest) i (expr (place t) (place t) (one op i)) (λ e behind. taken (expr (place t) (place t) (one op e)) behind) (λ rest. refl))

-- a prefix operator closes nothing
no_closing : (kind : TokenKind) (op : Unary) → prefix_operator kind ≡ Some op → is_sign Sign.CloseParen kind ≡ false
no_closing (TokenKind.Sign Sign.CloseParen) op e = absurd cc
no_closing (TokenKind.Sign _) op e = refl
no_closing (TokenKind.Key key) op e = refl
no_closing (TokenKind.Name name) op e = refl
no_closing (TokenKind.Number v) op e = refl

pub prefix_is_read : (level : ℕ) (t : Token) (op : Unary) (operand : List Token) (i : Expr) (ns : List ℕ) → prefix_operator t.kind ≡ Some op → level ≡ prefix_level op → IsRead level operand i ns
    → IsRead level (t ∷ operand) (expr (place t) (place t) (one op i)) (inside (0 ∷ ns))
prefix_is_read level t op operand i ns is_prefix same d = record {
  fits = fits_inside ns operand d.fits;
  starts = record {
    first = t;
    others = operand;
    whole = refl;
    is_open = no_closing t.kind op is_prefix;
    is_tight = λ u p. is_own level op u same (sym is_prefix ∙ p);
  };
  reads = prefix_reads level ((prefix_above op).0) (same ∙ (prefix_above op).1) t op operand i ns is_prefix (sym same) d;
}
  where
    level_at : Option Unary → ℕ
    level_at None = 0
    level_at (Some u) = prefix_level u

    is_own : (level : ℕ) (op u : Unary) → level ≡ prefix_level op → Some op ≡ Some u → prefix_level u ≤ level
    is_own level op u same e = let own : prefix_level op ≡ prefix_level u = ap level_at e in omega arith
