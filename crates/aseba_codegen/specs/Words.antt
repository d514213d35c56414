-- The plain code of a core: its words, each with the line of the effect that is next from there.
use Rattle.std.specs.Prelude.{ℕ, ◌+◌, ◌-◌, ◌%◌, Bool, true, false, not, ◌||◌, if◌then◌else◌, ℤ, pos, negsuc, neg_ℤ, ◌-ℤ◌, int_lt, List, [], ◌∷◌, ◌++◌, length, map, take, drop, sum_by, flat_map, Option, Some, None, slice_index}
use Rattle.aseba_words.specs.declared.operators.Binary.{Binary}
use Rattle.aseba_words.specs.declared.operators.Binary.TheVariants.{Differ}
use Rattle.aseba_tree.specs.Code.{Project}
use Rattle.aseba_codegen.specs.declared.coded.Coded.{Coded}
use Rattle.aseba_tree.specs.CoreExpr.{CoreExpr, fixed, cell, indirect, prefix, infix_of, CoreTarget, into, into_index}
use Rattle.aseba_tree.specs.Core.{CoreStmt, core_stmt, CoreForm, store, branch, on_edge, loop, send, enter, use_native, go_back, CoreStmts, no_core, core_stmts, CorePart, Core}
use Rattle.aseba_tree.specs.CoreShape.{is_last}
use Rattle.aseba_tree.specs.Sizes.{is_of_one_cell}
use Rattle.aseba_tree.specs.Numbers.{is_large, jump_words}
use Rattle.aseba_tree.specs.CoreNumbers.{param_count, is_handler, core_handlers, core_subs, core_list_words, core_part_words, core_table_words, core_starts_from}
use Rattle.aseba_vm.specs.Words.{end_word, sub_return_word, large_number_word, small_number_word, load_word, load_indirect_word, store_word, store_indirect_word, unary_word, binary_word, jump_word, branch_word, emit_word, native_word, sub_call_word}

-- words of one line that stay as they are
abbrev pub on_line : ℕ → List ℕ → List Coded
on_line line words = map (λ word. record { word = word; line = line; is_edge = false }) words

-- a number in sixteen bits
abbrev pub sixteen_bits : ℤ → ℕ
sixteen_bits (pos n) = n % 65536
sixteen_bits (negsuc n) = 65535 - n

-- Expressions

-- a number is pushed: from the word's own low bits where it is from -2048 to 2047, else from a further word
abbrev pub large_number_code : ℤ → List ℕ
large_number_code v = large_number_word ∷ sixteen_bits v ∷ []

abbrev pub number_code : ℤ → List ℕ
number_code v = if int_lt v (negsuc 2047) || int_lt (pos 2047) v then large_number_code v else small_number_word v ∷ []

-- the code that pushes an expression's value
abbrev pub expr_code : CoreExpr → List ℕ
expr_code (fixed v) = number_code v
expr_code (cell address) = load_word address ∷ []
expr_code (indirect base size i) = expr_code i ++ load_indirect_word base ∷ size ∷ []
expr_code (prefix op e) = expr_code e ++ unary_word op ∷ []
expr_code (infix_of op l r) = expr_code l ++ expr_code r ++ binary_word op ∷ []

-- The two values that a branch compares, and its operator. A comparison, an `and` and an `or` are the branch's own; any other value is
-- compared with 0.
pub record Condition : Type 0 where
  pub words : List ℕ
  pub operator : Binary

abbrev pub differs_from_zero : CoreExpr → Condition
differs_from_zero e = record { words = expr_code e ++ number_code (pos 0); operator = Differ }

abbrev pub condition_code : CoreExpr → Condition
condition_code (infix_of op l r) =
    if is_of_one_cell op then record { words = expr_code l ++ expr_code r; operator = op } else differs_from_zero (infix_of op l r)
condition_code e = differs_from_zero e

-- Statements

abbrev pub store_code : CoreTarget → CoreExpr → List ℕ
store_code (into address) e = expr_code e ++ store_word address ∷ []
store_code (into_index base size i) e = expr_code e ++ expr_code i ++ store_indirect_word base ∷ size ∷ []

-- a branch on 0 != 0, which always goes by its displacement
abbrev pub far_jump : ℕ → List ℕ
far_jump displacement = small_number_word (pos 0) ∷ small_number_word (pos 0) ∷ branch_word Differ false ∷ displacement ∷ []

-- A jump by a displacement from its first word. In a large project it is a branch that always goes by its displacement, two words behind the first.
abbrev pub jump_code : Project → ℤ → List ℕ
jump_code project by = if is_large project then far_jump (sixteen_bits (by -ℤ pos 2)) else jump_word by ∷ []

-- A condition and its branch, which goes on behind itself where it is true, and else so many words from the branch on.
abbrev pub test_code : ℕ → Bool → Condition → ℕ → List Coded
test_code line is_edge c otherwise =
    on_line line c.words ++ record { word = branch_word c.operator is_edge; line = line; is_edge = is_edge } ∷ on_line line (sixteen_bits (pos otherwise) ∷ [])

-- with an else a jump stands behind the body
abbrev pub if_code : Project → ℕ → Condition → List Coded → Bool → List Coded → List Coded
if_code project line c body has_else other =
    if has_else
    then test_code line false c (2 + length body + jump_words project) ++ body ++ on_line line (jump_code project (pos (jump_words project + length other))) ++ other
    else test_code line false c (2 + length body) ++ body

abbrev pub when_code : ℕ → Condition → List Coded → List Coded
when_code line c body = test_code line true c (2 + length body) ++ body

-- behind the body a jump leads back to the condition
abbrev pub loop_code : Project → ℕ → Condition → List Coded → List Coded
loop_code project line c body =
    test_code line false c (2 + length body + jump_words project) ++ body
    ++ on_line line (jump_code project (neg_ℤ (pos (length c.words + 2 + length body))))

-- the addresses of the arguments always as large numbers, then the lengths as numbers, then the call
abbrev pub native_code : Project → ℕ → List ℕ → List ℕ
native_code project id values =
    flat_map (λ address. large_number_code (pos address)) (take (param_count project id) values)
    ++ flat_map (λ n. number_code (pos n)) (drop (param_count project id) values) ++ native_word id ∷ []

-- what code is made for: the project, the address of each part, and whether the code is a subroutine's
pub record Site : Type 0 where
  pub project : Project
  pub starts : List ℕ
  pub in_sub : Bool

-- the word that ends a subroutine, or the init code or a handler
abbrev pub last_word : Bool → ℕ
last_word in_sub = if in_sub then sub_return_word else end_word

abbrev mutual
  pub stmt_code : Site → CoreStmt → List Coded
  stmt_code site (core_stmt line form) = form_code site line form

  pub form_code : Site → ℕ → CoreForm → List Coded
  form_code site line (store target e) = on_line line (store_code target e)
  form_code site line (branch c body other) = if_code site.project line (condition_code c) (list_code site body) (not (is_last other)) (list_code site other)
  form_code site line (on_edge c body) = when_code line (condition_code c) (list_code site body)
  form_code site line (loop c body) = loop_code site.project line (condition_code c) (list_code site body)
  form_code site line (send event address count) = on_line line (emit_word event ∷ address ∷ count ∷ [])
  form_code site line (enter which) = on_line line (sub_call_word (slice_index site.starts which) ∷ [])
  form_code site line (use_native id values) = on_line line (native_code site.project id values)
  form_code site line go_back = on_line line (last_word site.in_sub ∷ [])

  pub list_code : Site → CoreStmts → List Coded
  list_code site no_core = []
  list_code site (core_stmts s ss) = stmt_code site s ++ list_code site ss

-- Parts

-- statements and the last word, which has a line of its own
abbrev pub body_code : Site → ℕ → CoreStmts → List Coded
body_code site line body = list_code site body ++ on_line line (last_word site.in_sub ∷ [])

abbrev pub is_sub : CorePart → Bool
is_sub part = not (is_handler part)

abbrev pub site_of : Project → List ℕ → Bool → Site
site_of project starts in_sub = record { project = project; starts = starts; in_sub = in_sub }

abbrev pub part_code : Project → List ℕ → CorePart → List Coded
part_code project starts part = body_code (site_of project starts (is_sub part)) part.line part.body

-- the end of the init code has line 1
abbrev pub init_code : Project → List ℕ → Core → List Coded
init_code project starts core = body_code (site_of project starts false) 1 core.init

-- Where the code stands. In a large project the subroutines stand before the init code, else all parts stand behind it.
abbrev pub init_start : Project → Core → ℕ
init_start project core = core_table_words core + (if is_large project then sum_by (core_part_words project) (core_subs core) else 0)

-- the addresses of parts, of which the subroutines follow each other from one address on and the handlers from another
abbrev pub starts_apart : Project → ℕ → ℕ → List CorePart → List ℕ
starts_apart project sub handler [] = []
starts_apart project sub handler (part ∷ parts) =
    if is_handler part then handler ∷ starts_apart project sub (handler + core_part_words project part) parts
    else sub ∷ starts_apart project (sub + core_part_words project part) handler parts

-- the address of each part
abbrev pub part_starts : Project → Core → List ℕ
part_starts project core =
    let behind_init = init_start project core + core_list_words project core.init + 1 in
    if is_large project then starts_apart project (core_table_words core) behind_init core.parts else core_starts_from project behind_init core.parts

-- the entry of a part in the event table: the number and the address of a handler, and nothing for a subroutine
abbrev pub handler_entry : Option ℕ → ℕ → List ℕ
handler_entry None start = []
handler_entry (Some event) start = event ∷ sixteen_bits (pos start) ∷ []

-- the entries of parts, the first of which has this place among all
abbrev pub handler_entries : List ℕ → ℕ → List CorePart → List ℕ
handler_entries starts which [] = []
handler_entries starts which (part ∷ parts) = handler_entry part.event (slice_index starts which) ++ handler_entries starts (which + 1) parts

-- The event table: its length with itself, the number and the address of the init code, and then the entries of the handlers.
abbrev pub table_of : ℕ → List ℕ → List ℕ
table_of init entries = sixteen_bits (pos (3 + length entries)) ∷ 0xffff ∷ sixteen_bits (pos init) ∷ entries

abbrev pub table_code : Project → Core → List Coded
table_code project core = on_line 0 (table_of (init_start project core) (handler_entries (part_starts project core) 0 core.parts))

abbrev pub parts_code : Project → List ℕ → List CorePart → List Coded
parts_code project starts parts = flat_map (part_code project starts) parts

-- the init code and the parts in their order
abbrev pub bodies_code : Project → List ℕ → Core → List Coded
bodies_code project starts core =
    let init = init_code project starts core in
    if is_large project then parts_code project starts (core_subs core) ++ init ++ parts_code project starts (core_handlers core)
    else init ++ parts_code project starts core.parts

-- the code of a core for a project
abbrev pub core_code : Project → Core → List Coded
core_code project core = table_code project core ++ bodies_code project (part_starts project core) core

-- the words alone, and the line of each
abbrev pub code_words : Project → Core → List ℕ
code_words project core = map (λ coded. coded.word) (core_code project core)

abbrev pub code_lines : Project → Core → List ℕ
code_lines project core = map (λ coded. coded.line) (core_code project core)
