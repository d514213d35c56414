-- Declarations are read as they are spelled.
use Rattle.std.proofs.Common.{◌≡◌, ◌∙◌, ℕ, zero, suc, ◌≤◌, Bool, true, false, List, [], ◌∷◌, ◌++◌, length, Option, Some, None, refl, sym, ap, subst, arith, append_assoc, length-append}
use Rattle.aseba_tree.specs.declared.token.Token.{Token}
use Rattle.aseba_tree.specs.declared.token.Key.{Key}
use Rattle.aseba_tree.specs.declared.token.Sign.{Sign}
use Rattle.aseba_tree.specs.Code.{Name, Place, Expr, Decl}
use Rattle.aseba_tree.specs.Spells.{place, IsName, IsKey, IsSign, any_level, SpellsSize, no_size, a_size, SpellsValue, no_value, a_value, SpellsDecls, no_decls, a_decl}
use Rattle.aseba_tree.specs.Nest.{enclosed, expr_nests, size_nests, value_nests, decls_nests}
use Rattle.aseba_parser.specs.Reading.{Read, taken, next, expected, is_sign, is_key, many, opened, inside_of, expr_read, size_read, Given, value_read, decl_read}
use Rattle.aseba_parser.proofs.Outcome.{reply, Fits, fits_both, fits_enclosed, reply_first, reply_next, reply_map}
use Rattle.aseba_parser.proofs.OutcomeSteps.{sign_is, key_is, reply_expected, reply_named, Stops, many_end, many_more}
use Rattle.aseba_parser.proofs.OutcomeEnds.{Unindexed}
use Rattle.aseba_parser.proofs.CompleteLevels.{IsRead}
use Rattle.aseba_parser.proofs.CompleteLeaves.{enclosed_reads, ends_bracket}
use Rattle.aseba_parser.proofs.CompleteExprs.{each_expr}
use Rattle.aseba_parser.proofs.CompleteBehind.{Begun, fresh, fresh_var, fresh_sign, fresh_ends, begun_both, unindexed_value}

-- The tokens are read as that size, whatever stands behind them that is no bracket.
record IsSizeRead (used : List Token) (size : Option Expr) (ns : List ℕ) : Type 0 where
  fits : Fits ns used
  reads : (depth : ℕ) (rest : List Token) → Unindexed rest → size_read depth (used ++ rest) ≡ reply depth ns (used ++ rest) size

size_by : ℕ → Token → List Token → Bool → Read (Option Expr)
size_by depth t rest q = elim q [
  | true ↦ opened (inside_of depth) (t ∷ rest) (λ read. next (read any_level rest) (λ e after. next (expected (is_sign Sign.CloseBracket) after) (λ closing behind. taken (Some e) behind)))
  | false ↦ taken None (t ∷ rest)
]

no_size_reads : (depth : ℕ) (rest : List Token) → Unindexed rest → size_read depth rest ≡ taken None rest
unfolding size_by
no_size_reads depth [] free = refl
no_size_reads depth (t ∷ rest) free = ap (size_by depth t rest) free

a_size_read : (opening closing : Token) (inner : List Token) (e : Expr) (ns : List ℕ) → IsSign Sign.OpenBracket opening → IsSign Sign.CloseBracket closing → IsRead any_level inner e ns
    → IsSizeRead (opening ∷ (inner ++ closing ∷ [])) (Some e) (enclosed ns)
unfolding size_by
a_size_read opening closing inner e ns is_open is_close d = record {
  fits = fits_enclosed ns inner opening closing d.fits;
  reads = λ depth rest free. subst (λ (ts : List Token). size_read depth (opening ∷ ts) ≡ reply depth (enclosed ns) (opening ∷ ts) (Some e)) (sym (append_assoc inner (closing ∷ []) rest))
      (ap (size_by depth opening (inner ++ closing ∷ rest)) (sign_is Sign.OpenBracket opening is_open)
      ∙ enclosed_reads Sign.CloseBracket (λ read. read any_level) depth ns opening closing inner rest e Some is_close d.fits (λ k. d.reads k (closing ∷ rest) (ends_bracket closing rest any_level is_close)));
}

each_size : {tokens : List Token} {size : Option Expr} (d : SpellsSize tokens size) → IsSizeRead tokens size (size_nests d)
each_size {size = wanted} (no_size all tree) =
    subst (λ (ts : List Token). IsSizeRead ts wanted []) (sym all) (subst (λ (s : Option Expr). IsSizeRead [] s []) (sym tree) (record { fits = tt; reads = λ depth rest free. no_size_reads depth rest free }))
each_size {size = wanted} (a_size opening closing inner e is_open is_close all tree d) =
    subst (λ (ts : List Token). IsSizeRead ts wanted (enclosed (expr_nests d))) (sym all)
    (subst (λ (s : Option Expr). IsSizeRead (opening ∷ (inner ++ closing ∷ [])) s (enclosed (expr_nests d))) (sym tree) (a_size_read opening closing inner e (expr_nests d) is_open is_close (each_expr d)))

-- The tokens are read as that value with the place of its sign, whatever stands behind them that begins afresh.
record IsValueRead (named : Place) (used : List Token) (equals : Place) (value : Option Expr) (ns : List ℕ) : Type 0 where
  fits : Fits ns used
  begins : Begun (is_sign Sign.Assign) used
  reads : (depth : ℕ) (rest : List Token) → Begun fresh rest → value_read depth named (used ++ rest) ≡ reply depth ns (used ++ rest) (record { equals = equals; value = value })

value_by : ℕ → Place → Token → List Token → Bool → Read Given
value_by depth named t rest q = elim q [
  | true ↦ next (expr_read depth any_level rest) (λ e behind. taken (record { equals = place t; value = Some e }) behind)
  | false ↦ taken (record { equals = named; value = None }) (t ∷ rest)
]

no_value_reads : (depth : ℕ) (named : Place) (rest : List Token) → Begun fresh rest → value_read depth named rest ≡ taken (record { equals = named; value = None }) rest
unfolding value_by
no_value_reads depth named [] begun = refl
no_value_reads depth named (t ∷ rest) begun = ap (value_by depth named t rest) (fresh_sign Sign.Assign t.kind begun)

a_value_read : (named : Place) (sign : Token) (inner : List Token) (e : Expr) (ns : List ℕ) → IsSign Sign.Assign sign → IsRead any_level inner e ns → IsValueRead named (sign ∷ inner) (place sign) (Some e) (0 ∷ ns)
unfolding value_by
a_value_read named sign inner e ns is_sign d = record {
  fits = d.fits;
  begins = sign_is Sign.Assign sign is_sign;
  reads = λ depth rest begun.
      let given : Given = record { equals = place sign; value = Some e } in
      ap (value_by depth named sign (inner ++ rest)) (sign_is Sign.Assign sign is_sign)
      ∙ ap (λ (r : Read Expr). next r (λ e behind. taken (record { equals = place sign; value = Some e }) behind)) (d.reads depth rest (fresh_ends any_level rest begun))
      ∙ reply_map depth ns (inner ++ rest) e given (λ e behind. taken (record { equals = place sign; value = Some e }) behind) (λ rest. refl)
      ∙ sym (reply_first depth ns sign (inner ++ rest) given);
}

value_equal : (named : Place) (used tokens : List Token) (equals at : Place) (value given : Option Expr) (ns : List ℕ) → tokens ≡ used → at ≡ equals → given ≡ value → IsValueRead named used equals value ns → IsValueRead named tokens at given ns
value_equal named used tokens equals at value given ns p q r h =
    subst (λ (ts : List Token). IsValueRead named ts at given ns) (sym p) (subst (λ (x : Place). IsValueRead named used x given ns) (sym q) (subst (λ (v : Option Expr). IsValueRead named used equals v ns) (sym r) h))

each_value : {named : Place} {tokens : List Token} {equals : Place} {value : Option Expr} (d : SpellsValue named tokens equals value) → IsValueRead named tokens equals value (value_nests d)
each_value {named} (no_value all equals tree) = value_equal named [] _ named _ None _ [] all equals tree (record { fits = tt; begins = tt; reads = λ depth rest begun. no_value_reads depth named rest begun })
each_value {named} (a_value sign inner e is_sign all equals tree d) =
    value_equal named (sign ∷ inner) _ (place sign) _ (Some e) _ (0 ∷ expr_nests d) all equals tree (a_value_read named sign inner e (expr_nests d) is_sign (each_expr d))

-- one declaration
decl_of : Token → Token → Name → Option Expr → Given → Decl
decl_of word variable name size given = record { line = word.at.line; place = place variable; name = name; size = size; equals = given.equals; value = given.value }

decl_reads : (depth : ℕ) (word variable : Token) (sized given rest : List Token) (name : Name) (size value : Option Expr) (equals : Place) (ns ms : List ℕ) → IsKey Key.Var word → IsName name variable
    → IsSizeRead sized size ns → IsValueRead (place variable) given equals value ms → Begun fresh rest
    → decl_read depth (word ∷ variable ∷ (sized ++ (given ++ rest))) ≡ reply depth (0 ∷ 0 ∷ (ns ++ ms)) (word ∷ variable ∷ (sized ++ (given ++ rest))) (decl_of word variable name size (record { equals = equals; value = value }))
unfolding decl_of
decl_reads depth word variable sized given rest name size value equals ns ms is_word is_name ds dv begun =
    let made = decl_of word variable name size (record { equals = equals; value = value }) in
    let behind_size = λ (size : Option Expr) (after : List Token). next (value_read depth (place variable) after) (λ given behind. taken (decl_of word variable name size given) behind) in
    reply_expected (is_key Key.Var) depth (0 ∷ (ns ++ ms)) word (variable ∷ (sized ++ (given ++ rest))) made _ (key_is Key.Var word is_word)
    (reply_named depth (ns ++ ms) variable (sized ++ (given ++ rest)) name made _ is_name
    (ap (λ (r : Read (Option Expr)). next r behind_size) (ds.reads depth (given ++ rest) (unindexed_value given rest dv.begins begun))
    ∙ reply_next depth ns ms sized (given ++ rest) size made behind_size ds.fits
    (ap (λ (r : Read Given). next r (λ given behind. taken (decl_of word variable name size given) behind)) (dv.reads depth rest begun)
    ∙ reply_map depth ms (given ++ rest) (record { equals = equals; value = value }) made (λ given behind. taken (decl_of word variable name size given) behind) (λ rest. refl))))

-- The tokens are read as those declarations one by one, if no fewer are allowed than there are tokens.
pub record AreDeclsRead (used : List Token) (ds : List Decl) (ns : List ℕ) : Type 0 where
  pub fits : Fits ns used
  pub begins : Begun (is_key Key.Var) used
  pub loops : (depth fuel : ℕ) (rest : List Token) → length used ≤ fuel → Begun fresh rest → Stops (is_key Key.Var) rest → many (is_key Key.Var) (decl_read depth) fuel (used ++ rest) ≡ reply depth ns (used ++ rest) ds

decl_loops : (word variable : Token) (sized given rest : List Token) (name : Name) (size value : Option Expr) (equals : Place) (others : List Decl) (ns ms ks : List ℕ) → IsKey Key.Var word → IsName name variable
    → IsSizeRead sized size ns → IsValueRead (place variable) given equals value ms → AreDeclsRead rest others ks
    → (depth fuel : ℕ) (behind : List Token) → length (word ∷ variable ∷ (sized ++ (given ++ rest))) ≤ fuel → Begun fresh behind → Stops (is_key Key.Var) behind
    → many (is_key Key.Var) (decl_read depth) fuel (word ∷ ((variable ∷ (sized ++ given)) ++ (rest ++ behind)))
    ≡ reply depth ((0 ∷ 0 ∷ (ns ++ ms)) ++ ks) (word ∷ ((variable ∷ (sized ++ given)) ++ (rest ++ behind))) (decl_of word variable name size (record { equals = equals; value = value }) ∷ others)
decl_loops word variable sized given rest name size value equals others ns ms ks is_word is_name dsize dvalue ds depth zero behind enough begun stops = absurd (omega arith)
decl_loops word variable sized given rest name size value equals others ns ms ks is_word is_name dsize dvalue ds depth (suc fuel) behind enough begun stops =
    let made = decl_of word variable name size (record { equals = equals; value = value }) in
    let outer = length-append sized (given ++ rest) in
    let inner = length-append given rest in
    let begun_rest = begun_both (is_key Key.Var) fresh rest behind ds.begins fresh_var begun in
    many_more (is_key Key.Var) (decl_read depth) depth fuel (0 ∷ 0 ∷ (ns ++ ms)) ks word (variable ∷ (sized ++ given)) (rest ++ behind) made others (key_is Key.Var word is_word) (fits_both ns ms sized given dsize.fits dvalue.fits)
    (subst (λ (ts : List Token). decl_read depth (word ∷ variable ∷ ts) ≡ reply depth (0 ∷ 0 ∷ (ns ++ ms)) (word ∷ variable ∷ ts) made) (sym (append_assoc sized given (rest ++ behind)))
    (decl_reads depth word variable sized given (rest ++ behind) name size value equals ns ms is_word is_name dsize dvalue begun_rest))
    (ds.loops depth fuel behind (omega (arith, outer, inner, enough)) begun stops)

decls_nests_joined : (ns ms ks : List ℕ) → 0 ∷ 0 ∷ (ns ++ (ms ++ ks)) ≡ (0 ∷ 0 ∷ (ns ++ ms)) ++ ks
decls_nests_joined ns ms ks = ap (λ (l : List ℕ). 0 ∷ 0 ∷ l) (sym (append_assoc ns ms ks))

decl_tokens : (word variable : Token) (sized given rest behind : List Token) → word ∷ ((variable ∷ (sized ++ given)) ++ (rest ++ behind)) ≡ (word ∷ variable ∷ (sized ++ (given ++ rest))) ++ behind
decl_tokens word variable sized given rest behind = simp append_assoc

a_decl_read : (word variable : Token) (sized given rest : List Token) (name : Name) (size value : Option Expr) (equals : Place) (others : List Decl) (ns ms ks : List ℕ) → IsKey Key.Var word → IsName name variable
    → IsSizeRead sized size ns → IsValueRead (place variable) given equals value ms → AreDeclsRead rest others ks
    → AreDeclsRead (word ∷ variable ∷ (sized ++ (given ++ rest))) (record { line = word.at.line; place = place variable; name = name; size = size; equals = equals; value = value } ∷ others) (0 ∷ 0 ∷ (ns ++ (ms ++ ks)))
unfolding decl_of
a_decl_read word variable sized given rest name size value equals others ns ms ks is_word is_name dsize dvalue ds = record {
  fits = fits_both ns (ms ++ ks) sized (given ++ rest) dsize.fits (fits_both ms ks given rest dvalue.fits ds.fits);
  begins = key_is Key.Var word is_word;
  loops = λ depth fuel behind enough begun stops.
      let all = decl_of word variable name size (record { equals = equals; value = value }) ∷ others in
      subst (λ (ts : List Token). many (is_key Key.Var) (decl_read depth) fuel ts ≡ reply depth (0 ∷ 0 ∷ (ns ++ (ms ++ ks))) ts all) (decl_tokens word variable sized given rest behind)
      (decl_loops word variable sized given rest name size value equals others ns ms ks is_word is_name dsize dvalue ds depth fuel behind enough begun stops
      ∙ ap (λ (l : List ℕ). reply depth l (word ∷ ((variable ∷ (sized ++ given)) ++ (rest ++ behind))) all) (sym (decls_nests_joined ns ms ks)));
}

decls_equal : (used tokens : List Token) (ds wanted : List Decl) (ns : List ℕ) → tokens ≡ used → wanted ≡ ds → AreDeclsRead used ds ns → AreDeclsRead tokens wanted ns
decls_equal used tokens ds wanted ns p q h = subst (λ (ts : List Token). AreDeclsRead ts wanted ns) (sym p) (subst (λ (x : List Decl). AreDeclsRead used x ns) (sym q) h)

pub each_decls : {tokens : List Token} {ds : List Decl} (d : SpellsDecls tokens ds) → AreDeclsRead tokens ds (decls_nests d)
each_decls (no_decls all tree) = decls_equal [] _ [] _ [] all tree (record { fits = tt; begins = tt; loops = λ depth fuel rest enough begun stops. many_end (is_key Key.Var) (decl_read depth) fuel rest stops })
each_decls (a_decl word variable sized given rest name size value equals others is_word is_name all tree dsize dvalue ds) =
    decls_equal (word ∷ variable ∷ (sized ++ (given ++ rest))) _ (record { line = word.at.line; place = place variable; name = name; size = size; equals = equals; value = value } ∷ others) _
    (0 ∷ 0 ∷ (size_nests dsize ++ (value_nests dvalue ++ decls_nests ds))) all tree
    (a_decl_read word variable sized given rest name size value equals others (size_nests dsize) (value_nests dvalue) (decls_nests ds) is_word is_name (each_size dsize) (each_value dvalue) (each_decls ds))
