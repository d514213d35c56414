-- The places of the bits of `when`s are those of their branches.
use Rattle.std.proofs.Common.{◌≡◌, ℕ, zero, suc, ◌+◌, ◌*◌, ◌/◌, ◌%◌, ◌<◌, ◌==◌, nat_lt, ◌&&◌, not, Bool, true, false, if◌then◌else◌, pos, neg_ℤ, List, [], ◌∷◌, ◌++◌, length, map, slice_get, Some, refl, sym, ap, ◌∙◌, subst, arith, true≢false}
use Rattle.std.proofs.lemmas.Bool.{ltb-true, lt-ltb}
use Rattle.std.proofs.lemmas.List.{append-nil}
use Rattle.std.proofs.lemmas.List.Elements.{All-nil, All-cons, All-head, All-tail, All-map, All-append, recursion_from_All}
use Rattle.std.proofs.lemmas.List.Sorted.{All-permutation}
use Rattle.std.proofs.lemmas.Option.{slice_get-map, get_or_from_slice_get}
use Rattle.std.specs.Prelude.{slice_index, option_map, All}
use Rattle.std.specs.List.{list_all, AllByRecursion}
use Rattle.aseba_words.specs.declared.operators.Binary.{Binary}
use Rattle.aseba_words.specs.declared.operators.Binary.TheVariants as operator
use Rattle.aseba_tree.specs.Code.{Project}
use Rattle.aseba_tree.specs.Core.{CoreStmt, core_stmt, CoreForm, store, branch, on_edge, loop, send, enter, use_native, go_back, CoreStmts, no_core, core_stmts, CorePart, Core}
use Rattle.aseba_tree.specs.CoreNumbers.{core_handlers, core_subs}
use Rattle.aseba_tree.specs.CoreShape.{is_last}
use Rattle.aseba_tree.specs.Numbers.{is_large, jump_words}
use Rattle.aseba_vm.specs.Words.{branch_word, emit_word, sub_call_word}
use Rattle.aseba_vm.specs.Instructions.{opcode_of, is_when}
use Rattle.aseba_codegen.specs.declared.coded.Coded.{Coded}
use Rattle.aseba_codegen.specs.Places.{places_in, edge_places}
use Rattle.aseba_codegen.specs.Words.{Condition, Site, site_of, sixteen_bits, condition_code, store_code, jump_code, test_code, if_code, native_code, on_line, form_code, list_code, body_code, last_word, is_sub, part_code, init_code, init_start, part_starts, handler_entries, table_of, table_code, parts_code, bodies_code, core_code, code_words}
use Rattle.aseba_codegen.proofs.Edges.{text-order}
use Rattle.aseba_codegen.proofs.Reach.{Stands, stands-at}
use Rattle.aseba_compile.specs.Compiled.{is_branch, is_when_at}

-- the branch of a `when`
abbrev is_when_word : ℕ → Bool
is_when_word word = is_branch (opcode_of word) && is_when word

when-word : (op : Binary) → is_when_word (branch_word op true) ≡ true
when-word operator.Shl = refl
when-word operator.Shr = refl
when-word operator.Add = refl
when-word operator.Sub = refl
when-word operator.Mul = refl
when-word operator.Div = refl
when-word operator.Rem = refl
when-word operator.BitOr = refl
when-word operator.BitXor = refl
when-word operator.BitAnd = refl
when-word operator.Equal = refl
when-word operator.Differ = refl
when-word operator.Above = refl
when-word operator.AtLeast = refl
when-word operator.Below = refl
when-word operator.AtMost = refl
when-word operator.Or = refl
when-word operator.And = refl

-- a word that remembers is such a branch
abbrev Fine : Coded → Type 0
Fine c = c.is_edge ≡ true → is_when_word c.word ≡ true

fine-line : (line : ℕ) (ws : List ℕ) → All Fine (on_line line ws)
fine-line line ws = All-map Fine (λ (word : ℕ). record { word = word; line = line; is_edge = false }) ws (λ k d below h. absurd (true≢false (sym h)))

fine-test : (line : ℕ) (is_edge : Bool) (c : Condition) (otherwise : ℕ) → All Fine (test_code line is_edge c otherwise)
fine-test line is_edge c otherwise =
    All-append Fine (on_line line c.words) (record { word = branch_word c.operator is_edge; line = line; is_edge = is_edge } ∷ on_line line (sixteen_bits (pos otherwise) ∷ []))
    (fine-line line c.words)
    (All-cons Fine (record { word = branch_word c.operator is_edge; line = line; is_edge = is_edge }) (on_line line (sixteen_bits (pos otherwise) ∷ [])) (by_test is_edge) (fine-line line (sixteen_bits (pos otherwise) ∷ [])))
  where
    by_test : (b : Bool) → b ≡ true → is_when_word (branch_word c.operator b) ≡ true
    by_test true h = when-word c.operator
    by_test false h = absurd (true≢false (sym h))

fine-tested : (line : ℕ) (is_edge : Bool) (c : Condition) (otherwise : ℕ) (body : List Coded) → All Fine body → All Fine (test_code line is_edge c otherwise ++ body)
fine-tested line is_edge c otherwise body h = All-append Fine (test_code line is_edge c otherwise) body (fine-test line is_edge c otherwise) h

fine-if : (project : Project) (line : ℕ) (c : Condition) (body : List Coded) (has_else : Bool) (other : List Coded) → All Fine body → All Fine other → All Fine (if_code project line c body has_else other)
fine-if project line c body true other h g =
    let front : List Coded = test_code line false c (2 + length body + jump_words project) ++ body in
    let jump : List Coded = on_line line (jump_code project (pos (jump_words project + length other))) in
    All-append Fine (front ++ jump) other
    (All-append Fine front jump (fine-tested line false c (2 + length body + jump_words project) body h) (fine-line line (jump_code project (pos (jump_words project + length other))))) g
fine-if project line c body false other h g = fine-tested line false c (2 + length body) body h

mutual
  fine-form : (site : Site) (line : ℕ) (form : CoreForm) → All Fine (form_code site line form)
  fine-form site line (store t e) = fine-line line (store_code t e)
  fine-form site line (branch c body other) = fine-if site.project line (condition_code c) (list_code site body) (not (is_last other)) (list_code site other) (fine-list site body) (fine-list site other)
  fine-form site line (on_edge c body) = fine-tested line true (condition_code c) (2 + length (list_code site body)) (list_code site body) (fine-list site body)
  fine-form site line (loop c body) =
      let back : List ℕ = jump_code site.project (neg_ℤ (pos (length (condition_code c).words + 2 + length (list_code site body)))) in
      All-append Fine (test_code line false (condition_code c) (2 + length (list_code site body) + jump_words site.project) ++ list_code site body) (on_line line back)
      (fine-tested line false (condition_code c) (2 + length (list_code site body) + jump_words site.project) (list_code site body) (fine-list site body)) (fine-line line back)
  fine-form site line (send event address count) = fine-line line (emit_word event ∷ address ∷ count ∷ [])
  fine-form site line (enter which) = fine-line line (sub_call_word (slice_index site.starts which) ∷ [])
  fine-form site line (use_native id values) = fine-line line (native_code site.project id values)
  fine-form site line go_back = fine-line line (last_word site.in_sub ∷ [])

  fine-list : (site : Site) (ss : CoreStmts) → All Fine (list_code site ss)
  fine-list site no_core = All-nil Fine
  fine-list site (core_stmts (core_stmt line form) ss) = All-append Fine (form_code site line form) (list_code site ss) (fine-form site line form) (fine-list site ss)

fine-body : (site : Site) (line : ℕ) (ss : CoreStmts) → All Fine (body_code site line ss)
fine-body site line ss = All-append Fine (list_code site ss) (on_line line (last_word site.in_sub ∷ [])) (fine-list site ss) (fine-line line (last_word site.in_sub ∷ []))

fine-parts : (project : Project) (starts : List ℕ) (parts : List CorePart) → All Fine (parts_code project starts parts)
fine-parts project starts [] = All-nil Fine
fine-parts project starts (p ∷ parts) =
    All-append Fine (part_code project starts p) (parts_code project starts parts) (fine-body (site_of project starts (is_sub p)) p.line p.body) (fine-parts project starts parts)

fine-core : (project : Project) (core : Core) → All Fine (core_code project core)
fine-core project core = All-append Fine (table_code project core) (bodies_code project starts core) (fine-line 0 (table_of (init_start project core) (handler_entries starts 0 core.parts))) (by_test (is_large project))
  where
    starts : List ℕ
    starts = part_starts project core

    subs : List Coded
    subs = parts_code project starts (core_subs core)

    init : List Coded
    init = init_code project starts core

    handlers : List Coded
    handlers = parts_code project starts (core_handlers core)

    all_parts : List Coded
    all_parts = parts_code project starts core.parts

    by_test : (b : Bool) → All Fine (if b then (subs ++ init) ++ handlers else init ++ all_parts)
    by_test true =
        All-append Fine (subs ++ init) handlers (All-append Fine subs init (fine-parts project starts (core_subs core)) (fine-body (site_of project starts false) 1 core.init)) (fine-parts project starts (core_handlers core))
    by_test false = All-append Fine init all_parts (fine-body (site_of project starts false) 1 core.init) (fine-parts project starts core.parts)

-- the words of a code
abbrev words_in : List Coded → List ℕ
words_in code = map (λ c. c.word) code

abbrev IsWhenAt : List ℕ → ℕ → Type 0
IsWhenAt words at = is_when_at words at ≡ true

below-at : (words : List ℕ) (at w : ℕ) → slice_get words at ≡ Some w → nat_lt at (length words) ≡ true
below-at [] at w e = cc
below-at (x ∷ words) zero w e = lt-ltb 0 (suc (length words)) (omega arith)
below-at (x ∷ words) (suc at) w e = let rest : at < length words = ltb-true at (length words) (below-at words at w e) in lt-ltb (suc at) (suc (length words)) (omega arith)

both-true : (a b : Bool) → a ≡ true → b ≡ true → (a && b) ≡ true
both-true true true h g = refl
both-true true false h g = g
both-true false b h g = h

whens-at : (code : List Coded) (at : ℕ) (piece : List Coded) → Stands code at piece → All Fine piece → All (IsWhenAt (words_in code)) (places_in at piece)
whens-at code at [] stands fine = All-nil (IsWhenAt (words_in code))
whens-at code at (c ∷ piece) stands fine = by_test c.is_edge refl (whens-at code (at + 1) piece stands.1 (All-tail Fine c piece fine))
  where
    got : slice_get (words_in code) at ≡ Some c.word
    got = slice_get-map (λ (c : Coded). c.word) code at ∙ ap (option_map (λ (c : Coded). c.word)) stands.0

    here : slice_index (words_in code) at ≡ c.word
    here = get_or_from_slice_get (words_in code) at c.word 0 got

    by_test : (b : Bool) → c.is_edge ≡ b → All (IsWhenAt (words_in code)) (places_in (at + 1) piece) → All (IsWhenAt (words_in code)) (if b then at ∷ places_in (at + 1) piece else places_in (at + 1) piece)
    by_test true e ih =
        let one : IsWhenAt (words_in code) at = both-true (nat_lt at (length (words_in code))) (is_when_word (slice_index (words_in code) at)) (below-at (words_in code) at c.word got) (ap is_when_word here ∙ All-head Fine c piece fine e) in
        All-cons (IsWhenAt (words_in code)) at (places_in (at + 1) piece) one ih
    by_test false e ih = ih

all-pass : (words places : List ℕ) → AllByRecursion (IsWhenAt words) places → list_all (is_when_at words) places ≡ true
all-pass words [] h = refl
all-pass words (at ∷ places) h = both-true (is_when_at words at) (list_all (is_when_at words) places) h.0 (all-pass words places h.1)

-- Each place of a core's `when`s has the branch of one.
pub when-places : (project : Project) (core : Core) → list_all (is_when_at (code_words project core)) (edge_places project core) ≡ true
when-places project core =
    let code : List Coded = core_code project core in
    let words : List ℕ = code_words project core in
    let stands : Stands code 0 code = subst (λ xs. Stands xs 0 code) (append-nil code) (stands-at [] code []) in
    let in_order : All (IsWhenAt words) (places_in 0 code) = whens-at code 0 code stands (fine-core project core) in
    all-pass words (edge_places project core) (recursion_from_All (IsWhenAt words) (edge_places project core) (All-permutation (IsWhenAt words) (places_in 0 code) (edge_places project core) (text-order project core) in_order))
