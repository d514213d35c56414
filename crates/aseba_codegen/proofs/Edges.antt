-- The places of branch words of `when`s: in the order of the text, no two of them the same, and at the beginning none remembers.
use Rattle.std.proofs.Common.{◌≡◌, ℕ, zero, suc, ◌+◌, ◌-◌, ◌*◌, ◌/◌, ◌%◌, ◌<◌, not, Bool, true, false, if◌then◌else◌, pos, neg_ℤ, List, [], ◌∷◌, ◌++◌, length, map, take, replicate, slice_get, Some, refl, sym, ap, ◌∙◌, subst, subst₂, arith, true≢false, append_assoc, length-append, eqb, eqb-true, eq-eqb}
use Rattle.std.proofs.Math.Seq.{get_or-append_seam, take-length}
use Rattle.std.proofs.lemmas.Bool.{eqb-false, ne_eqb}
use Rattle.std.proofs.lemmas.List.{append-nil}
use Rattle.std.proofs.lemmas.List.Elements.{All-nil, All-cons, All-head, All-tail, All-map, All-append, recursion_from_All}
use Rattle.std.proofs.lemmas.List.Sums.{sum_by-cons}
use Rattle.std.proofs.lemmas.List.Sorted.{All-permutation, IsPermutation-refl, IsPermutation-sym, IsPermutation-trans, IsPermutation-append_left, IsPermutation-append_right, IsPermutation-append_comm}
use Rattle.std.proofs.lemmas.Map.Keys.{IsDistinct-head, IsDistinct-tail, IsDistinct-IsPermutation}
use Rattle.std.proofs.lemmas.Option.{slice_get-map, get_or_from_slice_get, same_Some}
use Rattle.std.specs.Prelude.{filter, sum_by, slice_index, option_map, All}
use Rattle.std.specs.List.{IsDistinct, AllByRecursion}
use Rattle.std.specs.List.Sorted.{IsPermutation}
use Rattle.aseba_words.specs.Codes.{binary_code}
use Rattle.aseba_words.specs.declared.operators.Binary.{Binary}
use Rattle.aseba_words.specs.declared.operators.Binary.TheVariants as operator
use Rattle.aseba_tree.specs.Code.{Project}
use Rattle.aseba_tree.specs.Core.{CoreStmt, core_stmt, CoreForm, store, branch, on_edge, loop, send, enter, use_native, go_back, CoreStmts, no_core, core_stmts, CorePart, Core}
use Rattle.aseba_tree.specs.CoreNumbers.{is_handler, core_handlers, core_subs, core_list_words, core_part_words, core_table_words, core_starts_from}
use Rattle.aseba_tree.specs.CoreShape.{is_last}
use Rattle.aseba_tree.specs.CoreStep.{core_whens, core_form_whens, core_list_whens, whens_before}
use Rattle.aseba_tree.specs.Numbers.{is_large, jump_words}
use Rattle.aseba_vm.specs.Words.{branch_word, emit_word, sub_call_word}
use Rattle.aseba_vm.specs.Instructions.{remembering}
use Rattle.aseba_codegen.specs.declared.coded.Coded.{Coded}
use Rattle.aseba_codegen.specs.Places.{places_in, part_places, edge_places, word_at, HasBits}
use Rattle.aseba_codegen.specs.Words.{Condition, Site, site_of, sixteen_bits, condition_code, store_code, jump_code, test_code, if_code, native_code, on_line, stmt_code, form_code, list_code, body_code, last_word, is_sub, part_code, init_code, init_start, starts_apart, part_starts, handler_entries, table_of, table_code, parts_code, bodies_code, core_code}
use Rattle.aseba_codegen.proofs.Reach.{Stands, stands-at}
use Rattle.aseba_codegen.proofs.Lengths.{part-long, parts-long, init-long, table-long}
use Rattle.aseba_codegen.proofs.Placed.{mark, MarkedOne, Marked}

-- How many there are

-- the words of a code that remember
abbrev pub edges : List Coded → ℕ
edges [] = 0
edges (c ∷ code) = mark c.is_edge + edges code

pub edges-append : (xs ys : List Coded) → edges (xs ++ ys) ≡ edges xs + edges ys
edges-append [] ys = omega arith
edges-append (x ∷ xs) ys = omega (arith, edges-append xs ys)

pub edges-line : (line : ℕ) (ws : List ℕ) → edges (on_line line ws) ≡ 0
edges-line line [] = refl
edges-line line (w ∷ ws) = omega (arith, edges-line line ws)

pub edges-test : (line : ℕ) (is_edge : Bool) (c : Condition) (otherwise : ℕ) → edges (test_code line is_edge c otherwise) ≡ mark is_edge
edges-test line is_edge c otherwise =
    omega (arith, edges-append (on_line line c.words) (record { word = branch_word c.operator is_edge; line = line; is_edge = is_edge } ∷ on_line line (sixteen_bits (pos otherwise) ∷ [])), edges-line line c.words)

edges-tested : (line : ℕ) (is_edge : Bool) (c : Condition) (otherwise : ℕ) (body : List Coded) → edges (test_code line is_edge c otherwise ++ body) ≡ mark is_edge + edges body
edges-tested line is_edge c otherwise body = omega (arith, edges-append (test_code line is_edge c otherwise) body, edges-test line is_edge c otherwise)

edges-if : (project : Project) (line : ℕ) (c : Condition) (body : List Coded) (ss : CoreStmts) (other : List Coded) → (is_last ss ≡ true → edges other ≡ 0) → edges (if_code project line c body (not (is_last ss)) other) ≡ edges body + edges other
edges-if project line c body no_core other none = omega (arith, edges-tested line false c (2 + length body) body, none refl)
edges-if project line c body (core_stmts s ss) other none =
    let front : List Coded = test_code line false c (2 + length body + jump_words project) ++ body in
    let jump : List Coded = on_line line (jump_code project (pos (jump_words project + length other))) in
    omega (arith, edges-tested line false c (2 + length body + jump_words project) body, edges-append (front ++ jump) other, edges-append front jump, edges-line line (jump_code project (pos (jump_words project + length other))))

-- Each `when` has one.
mutual
  pub edges-stmt : (site : Site) (s : CoreStmt) → edges (stmt_code site s) ≡ core_whens s
  edges-stmt site (core_stmt line form) = edges-form site line form

  pub edges-form : (site : Site) (line : ℕ) (form : CoreForm) → edges (form_code site line form) ≡ core_form_whens form
  edges-form site line (store t e) = edges-line line (store_code t e)
  edges-form site line (branch c body other) =
      omega (arith, edges-if site.project line (condition_code c) (list_code site body) other (list_code site other) (edges-last site other), edges-list site body, edges-list site other)
  edges-form site line (on_edge c body) = omega (arith, edges-tested line true (condition_code c) (2 + length (list_code site body)) (list_code site body), edges-list site body)
  edges-form site line (loop c body) =
      let front : List Coded = test_code line false (condition_code c) (2 + length (list_code site body) + jump_words site.project) ++ list_code site body in
      let back : List ℕ = jump_code site.project (neg_ℤ (pos (length (condition_code c).words + 2 + length (list_code site body)))) in
      omega (arith, edges-tested line false (condition_code c) (2 + length (list_code site body) + jump_words site.project) (list_code site body), edges-list site body, edges-append front (on_line line back), edges-line line back)
  edges-form site line (send event address count) = refl
  edges-form site line (enter which) = refl
  edges-form site line (use_native id values) = edges-line line (native_code site.project id values)
  edges-form site line go_back = refl

  pub edges-list : (site : Site) (ss : CoreStmts) → edges (list_code site ss) ≡ core_list_whens ss
  edges-list site no_core = refl
  edges-list site (core_stmts s ss) = omega (arith, edges-append (stmt_code site s) (list_code site ss), edges-stmt site s, edges-list site ss)

  edges-last : (site : Site) (ss : CoreStmts) → is_last ss ≡ true → edges (list_code site ss) ≡ 0
  edges-last site no_core h = refl
  edges-last site (core_stmts s ss) h = absurd (true≢false (sym h))

pub edges-body : (site : Site) (line : ℕ) (ss : CoreStmts) → edges (body_code site line ss) ≡ core_list_whens ss
edges-body site line ss = omega (arith, edges-append (list_code site ss) (on_line line (last_word site.in_sub ∷ [])), edges-list site ss)

pub edges-part : (project : Project) (starts : List ℕ) (part : CorePart) → edges (part_code project starts part) ≡ core_list_whens part.body
edges-part project starts part = edges-body (site_of project starts (is_sub part)) part.line part.body

-- Places

places-long : (at : ℕ) (code : List Coded) → length (places_in at code) ≡ edges code
places-long at [] = refl
places-long at (c ∷ code) = by_test c.is_edge (places-long (at + 1) code)
  where
    by_test : (b : Bool) → length (places_in (at + 1) code) ≡ edges code → length (if b then at ∷ places_in (at + 1) code else places_in (at + 1) code) ≡ mark b + edges code
    by_test true ih = omega arith
    by_test false ih = omega arith

places-append : (at : ℕ) (xs ys : List Coded) → places_in at (xs ++ ys) ≡ places_in at xs ++ places_in (at + length xs) ys
places-append at [] ys = let e : at ≡ at + 0 = omega arith in ap (λ n. places_in n ys) e
places-append at (x ∷ xs) ys =
    let e : at + 1 + length xs ≡ at + suc (length xs) = omega arith in
    by_test x.is_edge (places-append (at + 1) xs ys ∙ ap (λ n. places_in (at + 1) xs ++ places_in n ys) e)
  where
    by_test : (b : Bool) → places_in (at + 1) (xs ++ ys) ≡ places_in (at + 1) xs ++ places_in (at + suc (length xs)) ys
        → (if b then at ∷ places_in (at + 1) (xs ++ ys) else places_in (at + 1) (xs ++ ys)) ≡ (if b then at ∷ places_in (at + 1) xs else places_in (at + 1) xs) ++ places_in (at + suc (length xs)) ys
    by_test true ih = ap (λ ps. at ∷ ps) ih
    by_test false ih = ih

places-line : (at line : ℕ) (ws : List ℕ) → places_in at (on_line line ws) ≡ []
places-line at line [] = refl
places-line at line (w ∷ ws) = places-line (at + 1) line ws

-- Marks

got-behind : (front back : List ℕ) (at : ℕ) → slice_get (front ++ at ∷ back) (length front) ≡ Some at
got-behind [] back at = refl
got-behind (x ∷ front) back at = got-behind front back at

-- the branch words of a code stand in a list that has their places from here on
marked-at : (front back : List ℕ) (at : ℕ) (code : List Coded) → Marked (front ++ (places_in at code ++ back)) at (length front) code
marked-at front back at [] = tt
marked-at front back at (c ∷ code) = by_test c.is_edge (λ front. marked-at front back (at + 1) code)
  where
    by_test : (b : Bool) → ((front : List ℕ) → Marked (front ++ (places_in (at + 1) code ++ back)) (at + 1) (length front) code)
        → MarkedOne (front ++ ((if b then at ∷ places_in (at + 1) code else places_in (at + 1) code) ++ back)) b at (length front)
        × Marked (front ++ ((if b then at ∷ places_in (at + 1) code else places_in (at + 1) code) ++ back)) (at + 1) (length front + mark b) code
    by_test true ih =
        let long : length (front ++ at ∷ []) ≡ length front + 1 = length-append front (at ∷ []) in (
          got-behind front (places_in (at + 1) code ++ back) at,
          subst₂ (λ places n. Marked places (at + 1) n code) (append_assoc front (at ∷ []) (places_in (at + 1) code ++ back)) long (ih (front ++ at ∷ [])),
        )
    by_test false ih =
        let none : length front ≡ length front + 0 = omega arith in
        (tt, subst (λ n. Marked (front ++ (places_in (at + 1) code ++ back)) (at + 1) n code) none (ih front))

module _ (project : Project) (starts : List ℕ) where
  abbrev whens_in : List CorePart → ℕ
  whens_in parts = sum_by (λ part. core_list_whens part.body) parts

  part_places-long : (which : ℕ) (parts : List CorePart) → length (part_places project starts which parts) ≡ whens_in parts
  part_places-long which [] = refl
  part_places-long which (p ∷ parts) =
      omega (arith, length-append (places_in (slice_index starts which) (part_code project starts p)) (part_places project starts (which + 1) parts), places-long (slice_index starts which) (part_code project starts p), edges-part project starts p, part_places-long (which + 1) parts, sum_by-cons (λ part. core_list_whens part.body) p parts)

  marked-parts : (front : List ℕ) (first : ℕ) (parts : List CorePart) (which : ℕ) (part : CorePart) → slice_get parts which ≡ Some part
      → Marked (front ++ part_places project starts first parts) (slice_index starts (first + which)) (length front + whens_in (take which parts)) (part_code project starts part)
  marked-parts front first [] which part h = cc
  marked-parts front first (p ∷ parts) zero part h =
      let here : first ≡ first + 0 = omega arith in
      let none : length front ≡ length front + 0 = omega arith in
      let marks : Marked (front ++ part_places project starts first (p ∷ parts)) (slice_index starts first) (length front) (part_code project starts p) =
      marked-at front (part_places project starts (first + 1) parts) (slice_index starts first) (part_code project starts p) in
      subst (λ (q : CorePart). Marked (front ++ part_places project starts first (p ∷ parts)) (slice_index starts (first + 0)) (length front + 0) (part_code project starts q)) (same_Some p part h)
      (subst₂ (λ n k. Marked (front ++ part_places project starts first (p ∷ parts)) (slice_index starts n) k (part_code project starts p)) here none marks)
  marked-parts front first (p ∷ parts) (suc which) part h =
      let here : List ℕ = places_in (slice_index starts first) (part_code project starts p) in
      let next : first + 1 + which ≡ first + suc which = omega arith in
      let count : length (front ++ here) + whens_in (take which parts) ≡ length front + whens_in (take (suc which) (p ∷ parts)) =
      omega (arith, length-append front here, places-long (slice_index starts first) (part_code project starts p), edges-part project starts p, sum_by-cons (λ part. core_list_whens part.body) p (take which parts)) in
      let marks : Marked (front ++ part_places project starts first (p ∷ parts)) (slice_index starts (first + 1 + which)) (length (front ++ here) + whens_in (take which parts)) (part_code project starts part) =
      subst (λ places. Marked places (slice_index starts (first + 1 + which)) (length (front ++ here) + whens_in (take which parts)) (part_code project starts part)) (append_assoc front here (part_places project starts (first + 1) parts))
      (marked-parts (front ++ here) (first + 1) parts which part h) in
      subst₂ (λ n k. Marked (front ++ part_places project starts first (p ∷ parts)) (slice_index starts n) k (part_code project starts part)) next count marks

  -- Orders

  own-start : (front own : List ℕ) (a which : ℕ) → length front ≡ which → starts ≡ front ++ a ∷ own → slice_index starts which ≡ a
  own-start front own a which long e = ap (λ xs. slice_index xs which) e ∙ subst (λ n. slice_index (front ++ a ∷ own) n ≡ a) long (get_or-append_seam front a own 0)

  next-start : (front own : List ℕ) (a : ℕ) → starts ≡ front ++ a ∷ own → starts ≡ (front ++ a ∷ []) ++ own
  next-start front own a e = e ∙ sym (append_assoc front (a ∷ []) own)

  next-long : (front : List ℕ) (a which : ℕ) → length front ≡ which → length (front ++ a ∷ []) ≡ which + 1
  next-long front a which long = length-append front (a ∷ []) ∙ ap (λ n. n + 1) long

  -- of parts one behind the other
  order-places : (front : List ℕ) (which at : ℕ) (parts : List CorePart) → length front ≡ which → starts ≡ front ++ core_starts_from project at parts → part_places project starts which parts ≡ places_in at (parts_code project starts parts)
  order-places front which at [] long e = refl
  order-places front which at (p ∷ parts) long e =
      let own : List ℕ = core_starts_from project (at + core_part_words project p) parts in
      let here : slice_index starts which ≡ at = own-start front own at which long e in
      let place : at + core_part_words project p ≡ at + length (part_code project starts p) = ap (λ n. at + n) (sym (part-long project starts p)) in
      let rest : part_places project starts (which + 1) parts ≡ places_in (at + core_part_words project p) (parts_code project starts parts) =
      order-places (front ++ at ∷ []) (which + 1) (at + core_part_words project p) parts (next-long front at which long) (next-start front own at e) in
      ap (λ n. places_in n (part_code project starts p) ++ part_places project starts (which + 1) parts) here
      ∙ ap (λ ps. places_in at (part_code project starts p) ++ ps) (rest ∙ ap (λ n. places_in n (parts_code project starts parts)) place)
      ∙ sym (places-append at (part_code project starts p) (parts_code project starts parts))

-- two blocks in front of another exchanged
blocks-exchanged : (xs ys zs : List ℕ) → IsPermutation (xs ++ (ys ++ zs)) (ys ++ (xs ++ zs))
blocks-exchanged xs ys zs =
    subst₂ (λ a b. IsPermutation a b) (append_assoc xs ys zs) (append_assoc ys xs zs) (IsPermutation-append_left zs (xs ++ ys) (ys ++ xs) (IsPermutation-append_comm xs ys))

module _ (project : Project) (starts : List ℕ) where
  abbrev subs_at : ℕ → List CorePart → List ℕ
  subs_at at parts = places_in at (parts_code project starts (filter is_sub parts))

  abbrev handlers_at : ℕ → List CorePart → List ℕ
  handlers_at at parts = places_in at (parts_code project starts (filter is_handler parts))

  -- of parts of which the subroutines follow each other, and the handlers
  apart-places : (front : List ℕ) (which sub handler : ℕ) (parts : List CorePart) → length front ≡ which → starts ≡ front ++ starts_apart project sub handler parts
      → IsPermutation (part_places project starts which parts) (subs_at sub parts ++ handlers_at handler parts)
  apart-places front which sub handler [] long e = IsPermutation-refl []
  apart-places front which sub handler (p ∷ parts) long e =
      by_test (is_handler p) e
      (λ e. apart-places (front ++ handler ∷ []) (which + 1) sub (handler + core_part_words project p) parts (next-long project starts front handler which long) (next-start project starts front (starts_apart project sub (handler + core_part_words project p) parts) handler e))
      (λ e. apart-places (front ++ sub ∷ []) (which + 1) (sub + core_part_words project p) handler parts (next-long project starts front sub which long) (next-start project starts front (starts_apart project (sub + core_part_words project p) handler parts) sub e))
    where
      first : List Coded
      first = part_code project starts p

      behind : List ℕ
      behind = part_places project starts (which + 1) parts

      -- the first part in front of others of its kind
      joined : (at : ℕ) (others : List CorePart) → places_in at first ++ places_in (at + core_part_words project p) (parts_code project starts others) ≡ places_in at (first ++ parts_code project starts others)
      joined at others =
          ap (λ n. places_in at first ++ places_in (at + n) (parts_code project starts others)) (sym (part-long project starts p)) ∙ sym (places-append at first (parts_code project starts others))

      by_test : (b : Bool)
          → starts ≡ front ++ (if b then handler ∷ starts_apart project sub (handler + core_part_words project p) parts else sub ∷ starts_apart project (sub + core_part_words project p) handler parts)
          → (starts ≡ front ++ handler ∷ starts_apart project sub (handler + core_part_words project p) parts → IsPermutation behind (subs_at sub parts ++ handlers_at (handler + core_part_words project p) parts))
          → (starts ≡ front ++ sub ∷ starts_apart project (sub + core_part_words project p) handler parts → IsPermutation behind (subs_at (sub + core_part_words project p) parts ++ handlers_at handler parts))
          → IsPermutation (places_in (slice_index starts which) first ++ behind)
          (places_in sub (parts_code project starts (if not b then p ∷ filter is_sub parts else filter is_sub parts)) ++ places_in handler (parts_code project starts (if b then p ∷ filter is_handler parts else filter is_handler parts)))
      by_test true e over on =
          let own : List ℕ = starts_apart project sub (handler + core_part_words project p) parts in
          let here : slice_index starts which ≡ handler = own-start project starts front own handler which long e in
          let s : List ℕ = subs_at sub parts in
          let h : List ℕ = handlers_at (handler + core_part_words project p) parts in
          let mine : List ℕ = places_in handler first in
          let moved : IsPermutation (mine ++ behind) (s ++ (mine ++ h)) =
          IsPermutation-trans (mine ++ behind) (mine ++ (s ++ h)) (s ++ (mine ++ h)) (IsPermutation-append_right mine behind (s ++ h) (over e)) (blocks-exchanged mine s h) in
          subst₂ (λ n xs. IsPermutation (places_in n first ++ behind) (s ++ xs)) (sym here) (joined handler (filter is_handler parts)) moved
      by_test false e over on =
          let own : List ℕ = starts_apart project (sub + core_part_words project p) handler parts in
          let here : slice_index starts which ≡ sub = own-start project starts front own sub which long e in
          let s : List ℕ = subs_at (sub + core_part_words project p) parts in
          let h : List ℕ = handlers_at handler parts in
          let mine : List ℕ = places_in sub first in
          let moved : IsPermutation (mine ++ behind) ((mine ++ s) ++ h) =
          subst (λ xs. IsPermutation (mine ++ behind) xs) (sym (append_assoc mine s h)) (IsPermutation-append_right mine behind (s ++ h) (on e)) in
          subst₂ (λ n xs. IsPermutation (places_in n first ++ behind) (xs ++ h)) (sym here) (joined sub (filter is_sub parts)) moved

-- No two of them are the same.

eqb-flips : (x y : ℕ) → eqb x y ≡ eqb y x
eqb-flips x y = by_test (eqb x y) refl
  where
    by_test : (b : Bool) → eqb x y ≡ b → b ≡ eqb y x
    by_test true e = sym (eq-eqb y x (sym (eqb-true x y e)))
    by_test false e = sym (ne_eqb y x (λ h. eqb-false x y e (sym h)))

places-past : (x at : ℕ) (code : List Coded) → x < at → AllByRecursion (λ y. eqb x y ≡ false) (places_in at code)
places-past x at [] below = tt
places-past x at (c ∷ code) below = by_test c.is_edge (places-past x (at + 1) code (omega arith))
  where
    by_test : (b : Bool) → AllByRecursion (λ y. eqb x y ≡ false) (places_in (at + 1) code) → AllByRecursion (λ y. eqb x y ≡ false) (if b then at ∷ places_in (at + 1) code else places_in (at + 1) code)
    by_test true ih = (ne_eqb x at (λ h. absurd (omega arith)), ih)
    by_test false ih = ih

places-apart : (at : ℕ) (code : List Coded) → IsDistinct eqb (places_in at code)
unfolding IsDistinct
places-apart at [] = tt
places-apart at (c ∷ code) = by_test c.is_edge (places-apart (at + 1) code)
  where
    by_test : (b : Bool) → IsDistinct eqb (places_in (at + 1) code) → IsDistinct eqb (if b then at ∷ places_in (at + 1) code else places_in (at + 1) code)
    by_test true ih = (places-past at (at + 1) code (omega arith), ih)
    by_test false ih = ih

differ-at : (x y : ℕ) (xs : List ℕ) (i : ℕ) → AllByRecursion (λ y. eqb x y ≡ false) xs → slice_get xs i ≡ Some y → x ≡ y → ⊥
differ-at x y [] i h got same = cc
differ-at x y (z ∷ xs) zero h got same = eqb-false x z h.0 (same ∙ sym (same_Some z y got))
differ-at x y (z ∷ xs) (suc i) h got same = differ-at x y xs i h.1 got same

pub one-place : (xs : List ℕ) → IsDistinct eqb xs → (i j at : ℕ) → slice_get xs i ≡ Some at → slice_get xs j ≡ Some at → i ≡ j
one-place [] h i j at got again = cc
one-place (x ∷ xs) h zero zero at got again = refl
one-place (x ∷ xs) h zero (suc j) at got again = absurd (differ-at x at xs j (IsDistinct-head eqb x xs h) again (same_Some x at got))
one-place (x ∷ xs) h (suc i) zero at got again = absurd (differ-at x at xs i (IsDistinct-head eqb x xs h) got (same_Some x at again))
one-place (x ∷ xs) h (suc i) (suc j) at got again = ap suc (one-place xs (IsDistinct-tail eqb x xs h) i j at got again)

module _ (project : Project) (core : Core) where
  abbrev addresses : List ℕ
  addresses = part_starts project core

  abbrev init : List Coded
  init = init_code project addresses core

  -- the places of the code in its order are these of the text
  pub text-order : IsPermutation (places_in 0 (core_code project core)) (edge_places project core)
  text-order = by_test (is_large project) refl
    where
      table : List Coded
      table = table_code project core

      subs : List Coded
      subs = parts_code project addresses (core_subs core)

      handlers : List Coded
      handlers = parts_code project addresses (core_handlers core)

      all_parts : List Coded
      all_parts = parts_code project addresses core.parts

      before : Bool → ℕ
      before b = core_table_words core + (if b then sum_by (core_part_words project) (core_subs core) else 0)

      behind : Bool → ℕ
      behind b = before b + core_list_words project core.init + 1

      own_starts : Bool → List ℕ
      own_starts b = if b then starts_apart project (core_table_words core) (behind b) core.parts else core_starts_from project (behind b) core.parts

      -- nothing in the table remembers
      behind-table : (code : List Coded) → places_in 0 (table ++ code) ≡ places_in (core_table_words core) code
      behind-table code =
          let place : 0 + length table ≡ core_table_words core = omega (arith, table-long project core) in
          places-append 0 table code ∙ ap (λ ps. ps ++ places_in (0 + length table) code) (places-line 0 0 (table_of (init_start project core) (handler_entries addresses 0 core.parts)))
          ∙ ap (λ n. places_in n code) place

      by_test : (b : Bool) → addresses ≡ own_starts b
          → IsPermutation (places_in 0 (table ++ (if b then (subs ++ init) ++ handlers else init ++ all_parts))) (places_in (before b) init ++ part_places project addresses 0 core.parts)
      by_test true e =
          let s : List ℕ = places_in (core_table_words core) subs in
          let i : List ℕ = places_in (before true) init in
          let h : List ℕ = places_in (behind true) handlers in
          let to_init : core_table_words core + length subs ≡ before true = ap (λ n. core_table_words core + n) (parts-long project addresses (core_subs core)) in
          let to_handlers : core_table_words core + length (subs ++ init) ≡ behind true = omega (arith, length-append subs init, parts-long project addresses (core_subs core), init-long project addresses core) in
          let whole : places_in 0 (table ++ ((subs ++ init) ++ handlers)) ≡ (s ++ i) ++ h =
          behind-table ((subs ++ init) ++ handlers) ∙ places-append (core_table_words core) (subs ++ init) handlers
          ∙ ap (λ n. places_in (core_table_words core) (subs ++ init) ++ places_in n handlers) to_handlers
          ∙ ap (λ ps. ps ++ h) (places-append (core_table_words core) subs init ∙ ap (λ n. s ++ places_in n init) to_init) in
          let mine : IsPermutation (i ++ part_places project addresses 0 core.parts) (i ++ (s ++ h)) =
          IsPermutation-append_right i (part_places project addresses 0 core.parts) (s ++ h) (apart-places project addresses [] 0 (core_table_words core) (behind true) core.parts refl e) in
          let moved : IsPermutation (i ++ part_places project addresses 0 core.parts) (s ++ (i ++ h)) =
          IsPermutation-trans (i ++ part_places project addresses 0 core.parts) (i ++ (s ++ h)) (s ++ (i ++ h)) mine (blocks-exchanged i s h) in
          subst (λ ps. IsPermutation ps (i ++ part_places project addresses 0 core.parts)) (sym (whole ∙ append_assoc s i h))
          (IsPermutation-sym (i ++ part_places project addresses 0 core.parts) (s ++ (i ++ h)) moved)
      by_test false e =
          let i : List ℕ = places_in (before false) init in
          let none : core_table_words core ≡ before false = omega arith in
          let to_parts : before false + length init ≡ behind false = omega (arith, init-long project addresses core) in
          let whole : places_in 0 (table ++ (init ++ all_parts)) ≡ i ++ part_places project addresses 0 core.parts =
          behind-table (init ++ all_parts) ∙ ap (λ n. places_in n (init ++ all_parts)) none ∙ places-append (before false) init all_parts
          ∙ ap (λ n. i ++ places_in n all_parts) to_parts ∙ ap (λ ps. i ++ ps) (sym (order-places project addresses [] 0 (behind false) core.parts refl e)) in
          subst (λ ps. IsPermutation ps (i ++ part_places project addresses 0 core.parts)) (sym whole) (IsPermutation-refl (i ++ part_places project addresses 0 core.parts))

  pub edge_places-apart : (i j at : ℕ) → slice_get (edge_places project core) i ≡ Some at → slice_get (edge_places project core) j ≡ Some at → i ≡ j
  edge_places-apart = one-place (edge_places project core)
      (IsDistinct-IsPermutation eqb eqb-flips (places_in 0 (core_code project core)) (edge_places project core) text-order (places-apart 0 (core_code project core)))

  pub marked-init : Marked (edge_places project core) (init_start project core) 0 init
  marked-init = marked-at [] (part_places project addresses 0 core.parts) (init_start project core) init

  pub marked-part : (which : ℕ) (part : CorePart) → slice_get core.parts which ≡ Some part → Marked (edge_places project core) (slice_index addresses which) (whens_before core which) (part_code project addresses part)
  marked-part which part h =
      let front : List ℕ = places_in (init_start project core) init in
      let many : length front ≡ core_list_whens core.init = places-long (init_start project core) init ∙ edges-body (site_of project addresses false) 1 core.init in
      subst₂ (λ n k. Marked (edge_places project core) (slice_index addresses n) k (part_code project addresses part)) zero-ahead (ap (λ k. k + whens_in project addresses (take which core.parts)) many) (marked-parts project addresses front 0 core.parts which part h)
    where
      zero-ahead : 0 + which ≡ which
      zero-ahead = omega arith

  pub edge_places-long : length (edge_places project core) ≡ whens_before core (length core.parts)
  edge_places-long =
      let front : List ℕ = places_in (init_start project core) init in
      let all : sum_by (λ part. core_list_whens part.body) (take (length core.parts) core.parts) ≡ sum_by (λ part. core_list_whens part.body) core.parts = ap (λ ps. sum_by (λ part. core_list_whens part.body) ps) (take-length core.parts) in
      omega (arith, all, length-append front (part_places project addresses 0 core.parts), places-long (init_start project core) init, edges-body (site_of project addresses false) 1 core.init, part_places-long project addresses 0 core.parts)

-- At the beginning

-- a word that remembers is that of a condition that wasn't true
abbrev Clear : Coded → Type 0
Clear c = c.is_edge ≡ true → remembering false c.word ≡ c.word

small-code : (op : Binary) → binary_code op < 256
small-code operator.Shl = omega arith
small-code operator.Shr = omega arith
small-code operator.Add = omega arith
small-code operator.Sub = omega arith
small-code operator.Mul = omega arith
small-code operator.Div = omega arith
small-code operator.Rem = omega arith
small-code operator.BitOr = omega arith
small-code operator.BitXor = omega arith
small-code operator.BitAnd = omega arith
small-code operator.Equal = omega arith
small-code operator.Differ = omega arith
small-code operator.Above = omega arith
small-code operator.AtLeast = omega arith
small-code operator.Below = omega arith
small-code operator.AtMost = omega arith
small-code operator.Or = omega arith
small-code operator.And = omega arith

clear-branch : (op : Binary) → remembering false (branch_word op true) ≡ branch_word op true
clear-branch op = by_code (binary_code op) (small-code op)
  where
    by_code : (n : ℕ) → n < 256 → 40960 + (n + 256) % 4096 - (40960 + (n + 256) % 4096) / 512 % 2 * 512 + 0 ≡ 40960 + (n + 256) % 4096
    by_code n h = omega arith

clear-line : (line : ℕ) (ws : List ℕ) → All Clear (on_line line ws)
clear-line line ws = All-map Clear (λ (word : ℕ). record { word = word; line = line; is_edge = false }) ws (λ k d below h. absurd (true≢false (sym h)))

clear-test : (line : ℕ) (is_edge : Bool) (c : Condition) (otherwise : ℕ) → All Clear (test_code line is_edge c otherwise)
clear-test line is_edge c otherwise =
    All-append Clear (on_line line c.words) (record { word = branch_word c.operator is_edge; line = line; is_edge = is_edge } ∷ on_line line (sixteen_bits (pos otherwise) ∷ []))
    (clear-line line c.words)
    (All-cons Clear (record { word = branch_word c.operator is_edge; line = line; is_edge = is_edge }) (on_line line (sixteen_bits (pos otherwise) ∷ [])) (by_test is_edge) (clear-line line (sixteen_bits (pos otherwise) ∷ [])))
  where
    by_test : (b : Bool) → b ≡ true → remembering false (branch_word c.operator b) ≡ branch_word c.operator b
    by_test true h = clear-branch c.operator
    by_test false h = absurd (true≢false (sym h))

clear-tested : (line : ℕ) (is_edge : Bool) (c : Condition) (otherwise : ℕ) (body : List Coded) → All Clear body → All Clear (test_code line is_edge c otherwise ++ body)
clear-tested line is_edge c otherwise body h = All-append Clear (test_code line is_edge c otherwise) body (clear-test line is_edge c otherwise) h

clear-if : (project : Project) (line : ℕ) (c : Condition) (body : List Coded) (has_else : Bool) (other : List Coded) → All Clear body → All Clear other → All Clear (if_code project line c body has_else other)
clear-if project line c body true other h g =
    let front : List Coded = test_code line false c (2 + length body + jump_words project) ++ body in
    let jump : List Coded = on_line line (jump_code project (pos (jump_words project + length other))) in
    All-append Clear (front ++ jump) other
    (All-append Clear front jump (clear-tested line false c (2 + length body + jump_words project) body h) (clear-line line (jump_code project (pos (jump_words project + length other))))) g
clear-if project line c body false other h g = clear-tested line false c (2 + length body) body h

mutual
  clear-form : (site : Site) (line : ℕ) (form : CoreForm) → All Clear (form_code site line form)
  clear-form site line (store t e) = clear-line line (store_code t e)
  clear-form site line (branch c body other) = clear-if site.project line (condition_code c) (list_code site body) (not (is_last other)) (list_code site other) (clear-list site body) (clear-list site other)
  clear-form site line (on_edge c body) = clear-tested line true (condition_code c) (2 + length (list_code site body)) (list_code site body) (clear-list site body)
  clear-form site line (loop c body) =
      let back : List ℕ = jump_code site.project (neg_ℤ (pos (length (condition_code c).words + 2 + length (list_code site body)))) in
      All-append Clear (test_code line false (condition_code c) (2 + length (list_code site body) + jump_words site.project) ++ list_code site body) (on_line line back)
      (clear-tested line false (condition_code c) (2 + length (list_code site body) + jump_words site.project) (list_code site body) (clear-list site body)) (clear-line line back)
  clear-form site line (send event address count) = clear-line line (emit_word event ∷ address ∷ count ∷ [])
  clear-form site line (enter which) = clear-line line (sub_call_word (slice_index site.starts which) ∷ [])
  clear-form site line (use_native id values) = clear-line line (native_code site.project id values)
  clear-form site line go_back = clear-line line (last_word site.in_sub ∷ [])

  clear-list : (site : Site) (ss : CoreStmts) → All Clear (list_code site ss)
  clear-list site no_core = All-nil Clear
  clear-list site (core_stmts (core_stmt line form) ss) = All-append Clear (form_code site line form) (list_code site ss) (clear-form site line form) (clear-list site ss)

clear-body : (site : Site) (line : ℕ) (ss : CoreStmts) → All Clear (body_code site line ss)
clear-body site line ss = All-append Clear (list_code site ss) (on_line line (last_word site.in_sub ∷ [])) (clear-list site ss) (clear-line line (last_word site.in_sub ∷ []))

clear-parts : (project : Project) (starts : List ℕ) (parts : List CorePart) → All Clear (parts_code project starts parts)
clear-parts project starts [] = All-nil Clear
clear-parts project starts (p ∷ parts) =
    All-append Clear (part_code project starts p) (parts_code project starts parts) (clear-body (site_of project starts (is_sub p)) p.line p.body) (clear-parts project starts parts)

-- what a memory has at a place whose condition wasn't true
abbrev Forgets : List Coded → List ℕ → ℕ → Type 0
Forgets code memory at = slice_get memory at ≡ Some (remembering false (word_at code at))

-- a memory with all words of a code
abbrev HasWords : List Coded → List ℕ → Type 0
HasWords code memory = (at : ℕ) (c : Coded) → slice_get code at ≡ Some c → slice_get memory at ≡ Some c.word

forgets-at : (code : List Coded) (memory : List ℕ) → HasWords code memory → (at : ℕ) (piece : List Coded) → Stands code at piece → All Clear piece → All (Forgets code memory) (places_in at piece)
forgets-at code memory words at [] stands clear = All-nil (Forgets code memory)
forgets-at code memory words at (c ∷ piece) stands clear =
    by_test c.is_edge refl (forgets-at code memory words (at + 1) piece stands.1 (All-tail Clear c piece clear))
  where
    here : word_at code at ≡ c.word
    here = get_or_from_slice_get (map (λ c. c.word) code) at c.word 0 (slice_get-map (λ (c : Coded). c.word) code at ∙ ap (option_map (λ (c : Coded). c.word)) stands.0)

    by_test : (b : Bool) → c.is_edge ≡ b → All (Forgets code memory) (places_in (at + 1) piece) → All (Forgets code memory) (if b then at ∷ places_in (at + 1) piece else places_in (at + 1) piece)
    by_test true e ih =
        let kept : remembering false (word_at code at) ≡ c.word = ap (remembering false) here ∙ All-head Clear c piece clear e in
        All-cons (Forgets code memory) at (places_in (at + 1) piece) (words at c stands.0 ∙ ap Some (sym kept)) ih
    by_test false e ih = ih

none-remembers : (code : List Coded) (memory places : List ℕ) → AllByRecursion (Forgets code memory) places → HasBits code memory places (replicate (length places) false)
none-remembers code memory [] h = tt
none-remembers code memory (at ∷ places) h = (h.0, none-remembers code memory places h.1)

-- A memory with all words of a core's code has no `when` whose condition was true.
pub first-bits : (project : Project) (core : Core) (memory : List ℕ) → HasWords (core_code project core) memory
    → HasBits (core_code project core) memory (edge_places project core) (replicate (whens_before core (length core.parts)) false)
first-bits project core memory words =
    let code : List Coded = core_code project core in
    let stands : Stands code 0 code = subst (λ xs. Stands xs 0 code) (append-nil code) (stands-at [] code []) in
    let in_order : All (Forgets code memory) (places_in 0 code) = forgets-at code memory words 0 code stands all-clear in
    let in_text : All (Forgets code memory) (edge_places project core) = All-permutation (Forgets code memory) (places_in 0 code) (edge_places project core) (text-order project core) in_order in
    subst (λ n. HasBits code memory (edge_places project core) (replicate n false)) (edge_places-long project core)
    (none-remembers code memory (edge_places project core) (recursion_from_All (Forgets code memory) (edge_places project core) in_text))
  where
    starts : List ℕ
    starts = part_starts project core

    all-clear : All Clear (core_code project core)
    all-clear = All-append Clear (table_code project core) (bodies_code project starts core) (clear-line 0 (table_of (init_start project core) (handler_entries starts 0 core.parts))) (by_test (is_large project))
      where
        subs : List Coded
        subs = parts_code project starts (core_subs core)

        init : List Coded
        init = init_code project starts core

        handlers : List Coded
        handlers = parts_code project starts (core_handlers core)

        all_parts : List Coded
        all_parts = parts_code project starts core.parts

        by_test : (b : Bool) → All Clear (if b then (subs ++ init) ++ handlers else init ++ all_parts)
        by_test true =
            All-append Clear (subs ++ init) handlers (All-append Clear subs init (clear-parts project starts (core_subs core)) (clear-body (site_of project starts false) 1 core.init)) (clear-parts project starts (core_handlers core))
        by_test false = All-append Clear init all_parts (clear-body (site_of project starts false) 1 core.init) (clear-parts project starts core.parts)
