-- The code of a core has as many words as its numbers say.
use Rattle.std.proofs.Common.{◌≡◌, ℕ, suc, ◌+◌, ◌*◌, ◌≤◌, ◌||◌, not, Bool, true, false, if◌then◌else◌, ℤ, pos, negsuc, ◌-ℤ◌, neg_ℤ, List, [], ◌∷◌, ◌++◌, length, take, drop, Option, Some, None, is_some, refl, ap, ◌∙◌, arith, length-append}
use Rattle.std.proofs.lemmas.List.Sums.{sum_by-cons}
use Rattle.std.specs.Prelude.{int_lt, sum_by, filter, flat_map, slice_index}
use Rattle.aseba_tree.specs.Code.{Project}
use Rattle.aseba_tree.specs.CoreExpr.{CoreExpr, fixed, cell, indirect, prefix, infix_of, CoreTarget, into, into_index}
use Rattle.aseba_tree.specs.Core.{CoreStmt, core_stmt, CoreForm, store, branch, on_edge, loop, send, enter, use_native, go_back, CoreStmts, no_core, core_stmts, CorePart, Core}
use Rattle.aseba_tree.specs.CoreShape.{is_last}
use Rattle.aseba_tree.specs.Sizes.{is_of_one_cell}
use Rattle.aseba_tree.specs.Numbers.{is_large, jump_words, number_words, words, condition_words}
use Rattle.aseba_tree.specs.CoreNumbers.{param_count, is_handler, store_words, native_words, core_else_words, core_stmt_words, core_form_words, core_list_words, core_part_words, core_table_words, core_words, core_starts_from}
use Rattle.aseba_vm.specs.Words.{small_number_word, load_indirect_word, store_word, store_indirect_word, unary_word, binary_word, jump_word, native_word}
use Rattle.aseba_codegen.specs.declared.coded.Coded.{Coded}
use Rattle.aseba_codegen.specs.Words.{Condition, Site, sixteen_bits, far_jump, large_number_code, number_code, expr_code, differs_from_zero, condition_code, store_code, jump_code, test_code, if_code, native_code, on_line, stmt_code, form_code, list_code, is_sub, part_code, init_code, init_start, starts_apart, part_starts, handler_entry, handler_entries, table_of, table_code, parts_code, core_code}

pub on_line-long : (line : ℕ) (ws : List ℕ) → length (on_line line ws) ≡ length ws
on_line-long line [] = refl
on_line-long line (w ∷ ws) = ap suc (on_line-long line ws)

number-long : (v : ℤ) → length (number_code v) ≡ number_words v
number-long v = by_test (int_lt v (negsuc 2047) || int_lt (pos 2047) v)
  where
    by_test : (b : Bool) → length (if b then large_number_code v else small_number_word v ∷ []) ≡ (if b then 2 else 1)
    by_test true = refl
    by_test false = refl

pub expr-long : (e : CoreExpr) → length (expr_code e) ≡ words e
expr-long (fixed v) = number-long v
expr-long (cell a) = refl
expr-long (indirect base size i) = omega (arith, length-append (expr_code i) (load_indirect_word base ∷ size ∷ []), expr-long i)
expr-long (prefix op e) = omega (arith, length-append (expr_code e) (unary_word op ∷ []), expr-long e)
expr-long (infix_of op l r) =
    omega (arith, length-append (expr_code l ++ expr_code r) (binary_word op ∷ []), length-append (expr_code l) (expr_code r), expr-long l, expr-long r)

differs-long : (e : CoreExpr) → length (differs_from_zero e).words ≡ words e + 1
differs-long e = omega (arith, length-append (expr_code e) (number_code (pos 0)), expr-long e)

pub condition-long : (c : CoreExpr) → length (condition_code c).words ≡ condition_words c
condition-long (fixed v) = differs-long (fixed v)
condition-long (cell a) = differs-long (cell a)
condition-long (indirect base size i) = differs-long (indirect base size i)
condition-long (prefix op e) = differs-long (prefix op e)
condition-long (infix_of op l r) = by_test (is_of_one_cell op)
  where
    by_test : (b : Bool)
        → length (if b then record { words = expr_code l ++ expr_code r; operator = op } else differs_from_zero (infix_of op l r)).words ≡ (if b then words l + words r else words (infix_of op l r) + 1)
    by_test true = omega (arith, length-append (expr_code l) (expr_code r), expr-long l, expr-long r)
    by_test false = differs-long (infix_of op l r)

pub store-long : (t : CoreTarget) (e : CoreExpr) → length (store_code t e) ≡ store_words t e
store-long (into a) e = omega (arith, length-append (expr_code e) (store_word a ∷ []), expr-long e)
store-long (into_index base size i) e =
    omega (arith, length-append (expr_code e ++ expr_code i) (store_indirect_word base ∷ size ∷ []), length-append (expr_code e) (expr_code i), expr-long e, expr-long i)

jump-long : (project : Project) (by : ℤ) → length (jump_code project by) ≡ jump_words project
jump-long project by = by_test (is_large project)
  where
    by_test : (b : Bool) → length (if b then far_jump (sixteen_bits (by -ℤ pos 2)) else jump_word by ∷ []) ≡ (if b then 4 else 1)
    by_test true = refl
    by_test false = refl

arguments-long : (xs : List ℕ) → length (flat_map (λ address. large_number_code (pos address)) xs) ≡ 2 * length xs
arguments-long [] = refl
arguments-long (x ∷ xs) = omega (arith, arguments-long xs, length-append (large_number_code (pos x)) (flat_map (λ address. large_number_code (pos address)) xs))

lengths-long : (xs : List ℕ) → length (flat_map (λ n. number_code (pos n)) xs) ≡ sum_by (λ n. number_words (pos n)) xs
lengths-long [] = refl
lengths-long (x ∷ xs) =
    omega (arith, lengths-long xs, number-long (pos x), length-append (number_code (pos x)) (flat_map (λ n. number_code (pos n)) xs), sum_by-cons (λ (n : ℕ). number_words (pos n)) x xs)

native-long : (project : Project) (id : ℕ) (values : List ℕ) → length (native_code project id values) ≡ native_words project id values
native-long project id values =
    let front : List ℕ = flat_map (λ address. large_number_code (pos address)) (take (param_count project id) values) in
    let back : List ℕ = flat_map (λ n. number_code (pos n)) (drop (param_count project id) values) in
    omega (arith, arguments-long (take (param_count project id) values), lengths-long (drop (param_count project id) values), length-append (front ++ back) (native_word id ∷ []), length-append front back)

pub test-long : (line : ℕ) (is_edge : Bool) (c : Condition) (otherwise : ℕ) → length (test_code line is_edge c otherwise) ≡ length c.words + 2
test-long line is_edge c otherwise = length-append (on_line line c.words) _ ∙ ap (λ n. n + 2) (on_line-long line c.words)

tested-long : (line : ℕ) (is_edge : Bool) (c : CoreExpr) (otherwise : ℕ) (body : List Coded) → length (test_code line is_edge (condition_code c) otherwise ++ body) ≡ condition_words c + 2 + length body
tested-long line is_edge c otherwise body =
    omega (arith, length-append (test_code line is_edge (condition_code c) otherwise) body, test-long line is_edge (condition_code c) otherwise, condition-long c)

pub jumping-long : (project : Project) (line : ℕ) (by : ℤ) → length (on_line line (jump_code project by)) ≡ jump_words project
jumping-long project line by = on_line-long line (jump_code project by) ∙ jump-long project by

if-long : (project : Project) (line : ℕ) (c : CoreExpr) (body : List Coded) (ss : CoreStmts) (other : List Coded) (n : ℕ) → length other ≡ n
    → length (if_code project line (condition_code c) body (not (is_last ss)) other) ≡ condition_words c + 2 + length body + core_else_words project ss n
if-long project line c body no_core other n e = tested-long line false c (2 + length body) body ∙ omega arith
if-long project line c body (core_stmts s ss) other n e =
    let front : List Coded = test_code line false (condition_code c) (2 + length body + jump_words project) ++ body in
    let jump : List Coded = on_line line (jump_code project (pos (jump_words project + length other))) in
    omega (arith, tested-long line false c (2 + length body + jump_words project) body, length-append (front ++ jump) other, length-append front jump, jumping-long project line (pos (jump_words project + length other)), e)

mutual
  pub stmt-long : (site : Site) (s : CoreStmt) → length (stmt_code site s) ≡ core_stmt_words site.project s
  stmt-long site (core_stmt line form) = form-long site line form

  pub form-long : (site : Site) (line : ℕ) (form : CoreForm) → length (form_code site line form) ≡ core_form_words site.project form
  form-long site line (store t e) = on_line-long line (store_code t e) ∙ store-long t e
  form-long site line (branch c body other) =
      omega (arith, if-long site.project line c (list_code site body) other (list_code site other) (core_list_words site.project other) (list-long site other), list-long site body)
  form-long site line (on_edge c body) = omega (arith, tested-long line true c (2 + length (list_code site body)) (list_code site body), list-long site body)
  form-long site line (loop c body) =
      let front : List Coded = test_code line false (condition_code c) (2 + length (list_code site body) + jump_words site.project) ++ list_code site body in
      let back : ℤ = neg_ℤ (pos (length (condition_code c).words + 2 + length (list_code site body))) in
      omega (arith, tested-long line false c (2 + length (list_code site body) + jump_words site.project) (list_code site body), list-long site body, length-append front (on_line line (jump_code site.project back)), jumping-long site.project line back)
  form-long site line (send event address count) = refl
  form-long site line (enter which) = refl
  form-long site line (use_native id values) = on_line-long line (native_code site.project id values) ∙ native-long site.project id values
  form-long site line go_back = refl

  pub list-long : (site : Site) (ss : CoreStmts) → length (list_code site ss) ≡ core_list_words site.project ss
  list-long site no_core = refl
  list-long site (core_stmts s ss) = omega (arith, length-append (stmt_code site s) (list_code site ss), stmt-long site s, list-long site ss)

-- Parts

pub part-long : (project : Project) (starts : List ℕ) (part : CorePart) → length (part_code project starts part) ≡ core_part_words project part
part-long project starts part =
    let site : Site = record { project = project; starts = starts; in_sub = is_sub part } in
    omega (arith, length-append (list_code site part.body) (on_line part.line (Rattle.aseba_codegen.specs.Words.last_word (is_sub part) ∷ [])), list-long site part.body)

pub parts-long : (project : Project) (starts : List ℕ) (parts : List CorePart) → length (parts_code project starts parts) ≡ sum_by (core_part_words project) parts
parts-long project starts [] = refl
parts-long project starts (part ∷ parts) =
    omega (arith, length-append (part_code project starts part) (parts_code project starts parts), part-long project starts part, parts-long project starts parts, sum_by-cons (core_part_words project) part parts)

pub init-long : (project : Project) (starts : List ℕ) (core : Core) → length (init_code project starts core) ≡ core_list_words project core.init + 1
init-long project starts core =
    let site : Site = record { project = project; starts = starts; in_sub = false } in
    omega (arith, length-append (list_code site core.init) (on_line 1 (Rattle.aseba_codegen.specs.Words.last_word false ∷ [])), list-long site core.init)

starts_from-long : (project : Project) (at : ℕ) (parts : List CorePart) → length (core_starts_from project at parts) ≡ length parts
starts_from-long project at [] = refl
starts_from-long project at (part ∷ parts) = ap suc (starts_from-long project (at + core_part_words project part) parts)

apart-long : (project : Project) (sub handler : ℕ) (parts : List CorePart) → length (starts_apart project sub handler parts) ≡ length parts
apart-long project sub handler [] = refl
apart-long project sub handler (part ∷ parts) =
    either_long (is_handler part) handler sub (starts_apart project sub (handler + core_part_words project part) parts) (starts_apart project (sub + core_part_words project part) handler parts) (length parts)
    (apart-long project sub (handler + core_part_words project part) parts) (apart-long project (sub + core_part_words project part) handler parts)
  where
    either_long : (b : Bool) (x y : ℕ) (xs ys : List ℕ) (n : ℕ) → length xs ≡ n → length ys ≡ n → length (if b then x ∷ xs else y ∷ ys) ≡ suc n
    either_long true x y xs ys n h g = ap suc h
    either_long false x y xs ys n h g = ap suc g

pub starts-long : (project : Project) (core : Core) → length (part_starts project core) ≡ length core.parts
starts-long project core = by_test (is_large project)
  where
    by_test : (b : Bool)
        → length (if b then starts_apart project (core_table_words core) (init_start project core + core_list_words project core.init + 1) core.parts else core_starts_from project (init_start project core + core_list_words project core.init + 1) core.parts) ≡ length core.parts
    by_test true = apart-long project (core_table_words core) (init_start project core + core_list_words project core.init + 1) core.parts
    by_test false = starts_from-long project (init_start project core + core_list_words project core.init + 1) core.parts

entries-long : (starts : List ℕ) (which : ℕ) (parts : List CorePart) → length (handler_entries starts which parts) ≡ 2 * length (filter is_handler parts)
entries-long starts which [] = refl
entries-long starts which (part ∷ parts) = by_event part.event (slice_index starts which) (entries-long starts (which + 1) parts)
  where
    by_event : (event : Option ℕ) (start : ℕ) → length (handler_entries starts (which + 1) parts) ≡ 2 * length (filter is_handler parts)
        → length (handler_entry event start ++ handler_entries starts (which + 1) parts) ≡ 2 * length (if is_some event then part ∷ filter is_handler parts else filter is_handler parts)
    by_event None start ih = ih
    by_event (Some event) start ih = omega arith

pub table-long : (project : Project) (core : Core) → length (table_code project core) ≡ core_table_words core
table-long project core =
    let entries : List ℕ = handler_entries (part_starts project core) 0 core.parts in
    omega (arith, on_line-long 0 (table_of (init_start project core) entries), entries-long (part_starts project core) 0 core.parts)

pub apart-sum : (f : CorePart → ℕ) (parts : List CorePart) → sum_by f (filter is_sub parts) + sum_by f (filter is_handler parts) ≡ sum_by f parts
apart-sum f [] = refl
apart-sum f (part ∷ parts) = by_test (is_handler part) (apart-sum f parts)
  where
    by_test : (b : Bool) → sum_by f (filter is_sub parts) + sum_by f (filter is_handler parts) ≡ sum_by f parts
        → sum_by f (if not b then part ∷ filter is_sub parts else filter is_sub parts) + sum_by f (if b then part ∷ filter is_handler parts else filter is_handler parts) ≡ sum_by f (part ∷ parts)
    by_test true ih = omega (arith, sum_by-cons f part (filter is_handler parts), sum_by-cons f part parts)
    by_test false ih = omega (arith, sum_by-cons f part (filter is_sub parts), sum_by-cons f part parts)

-- the code behind the init code begins inside the code
pub starts-few : (project : Project) (core : Core) (most : ℕ) → core_words project core ≤ most → init_start project core + core_list_words project core.init + 1 ≤ most
starts-few project core most h = by_test (is_large project)
  where
    by_test : (b : Bool) → core_table_words core + (if b then sum_by (core_part_words project) (filter is_sub core.parts) else 0) + core_list_words project core.init + 1 ≤ most
    by_test true = omega (arith, h, apart-sum (core_part_words project) core.parts)
    by_test false = omega (arith, h)

-- the whole code
pub code-long : (project : Project) (core : Core) → length (core_code project core) ≡ core_words project core
code-long project core =
    let starts : List ℕ = part_starts project core in
    let init : List Coded = init_code project starts core in
    let subs : List Coded = parts_code project starts (filter is_sub core.parts) in
    let handlers : List Coded = parts_code project starts (filter is_handler core.parts) in
    let all : List Coded = parts_code project starts core.parts in
    let apart : length (subs ++ init ++ handlers) ≡ core_list_words project core.init + 1 + sum_by (core_part_words project) core.parts =
    omega (arith, length-append (subs ++ init) handlers, length-append subs init, parts-long project starts (filter is_sub core.parts), parts-long project starts (filter is_handler core.parts), init-long project starts core, apart-sum (core_part_words project) core.parts) in
    let behind : length (init ++ all) ≡ core_list_words project core.init + 1 + sum_by (core_part_words project) core.parts =
    omega (arith, length-append init all, parts-long project starts core.parts, init-long project starts core) in
    omega (arith, length-append (table_code project core) (if is_large project then subs ++ init ++ handlers else init ++ all), table-long project core, either (is_large project) (subs ++ init ++ handlers) (init ++ all) _ apart behind)
  where
    either : (b : Bool) (xs ys : List Coded) (n : ℕ) → length xs ≡ n → length ys ≡ n → length (if b then xs else ys) ≡ n
    either true xs ys n h g = h
    either false xs ys n h g = g

pub ruleset lengths = (list-long, condition-long, expr-long)
