-- Where the init code and each part stand in the code, in projects of both kinds.
use Rattle.std.proofs.Common.{◌≡◌, ℕ, zero, suc, ◌+◌, ◌<◌, ◌≤◌, not, Bool, true, false, if◌then◌else◌, nat_le, List, [], ◌∷◌, ◌++◌, length, slice_get, Some, refl, sym, ap, ◌∙◌, subst, subst₂, arith, true≢false, append_assoc, length-append, leb-true}
use Rattle.std.proofs.lemmas.Bool.{ltb-false}
use Rattle.std.proofs.lemmas.List.{append-nil}
use Rattle.std.proofs.lemmas.Option.{slice_get_within, same_Some}
use Rattle.std.specs.List.{list_all}
use Rattle.std.specs.Prelude.{filter, sum_by, slice_index}
use Rattle.aseba_tree.specs.Code.{Project}
use Rattle.aseba_tree.specs.Core.{CorePart, Core}
use Rattle.aseba_tree.specs.CoreNumbers.{is_handler, core_handlers, core_subs, core_list_words, core_part_words, core_table_words, core_words, core_starts_from, core_starts}
use Rattle.aseba_tree.specs.CoreShape.{IsCore}
use Rattle.aseba_tree.specs.Limits.{farthest}
use Rattle.aseba_tree.specs.Numbers.{is_large}
use Rattle.aseba_codegen.specs.declared.coded.Coded.{Coded}
use Rattle.aseba_codegen.specs.Words.{is_sub, part_code, init_code, init_start, starts_apart, part_starts, table_code, parts_code, core_code}
use Rattle.aseba_codegen.proofs.Reach.{Stands, stands-at}
use Rattle.aseba_codegen.proofs.Values.{and-left, and-right}
use Rattle.aseba_codegen.proofs.Lengths.{part-long, parts-long, init-long, table-long, code-long}

-- Pieces

first-stands : (front first rest back : List Coded) (at : ℕ) → length front ≡ at → Stands (front ++ ((first ++ rest) ++ back)) at first
first-stands front first rest back at long =
    subst₂ (λ code n. Stands code n first) (ap (λ xs. front ++ xs) (sym (append_assoc first rest back))) long (stands-at front first (rest ++ back))

behind-first : (front first rest back : List Coded) → (front ++ first) ++ (rest ++ back) ≡ front ++ ((first ++ rest) ++ back)
behind-first front first rest back = append_assoc front first (rest ++ back) ∙ ap (λ xs. front ++ xs) (sym (append_assoc first rest back))

-- words that stand in a code lie inside it
pub stands-inside : (code : List Coded) (at : ℕ) (xs : List Coded) → Stands code at xs → 1 ≤ length xs → at + length xs ≤ length code
stands-inside code at [] h some = absurd (omega arith)
stands-inside code at (x ∷ []) h some = let here : at < length code = slice_get_within code at x h.0 in omega arith
stands-inside code at (x ∷ y ∷ xs) h some = let rest : at + 1 + length (y ∷ xs) ≤ length code = stands-inside code (at + 1) (y ∷ xs) h.1 (omega arith) in omega arith

-- Parts

module _ (project : Project) (starts : List ℕ) where
  -- one behind the other
  in-order : (front : List Coded) (parts : List CorePart) (back : List Coded) (at : ℕ) → length front ≡ at → (which : ℕ) (part : CorePart) → slice_get parts which ≡ Some part
      → Stands (front ++ (parts_code project starts parts ++ back)) (slice_index (core_starts_from project at parts) which) (part_code project starts part)
  in-order front [] back at long which part h = cc
  in-order front (p ∷ parts) back at long zero part h =
      subst (λ (q : CorePart). Stands (front ++ (parts_code project starts (p ∷ parts) ++ back)) at (part_code project starts q)) (same_Some p part h)
      (first-stands front (part_code project starts p) (parts_code project starts parts) back at long)
  in-order front (p ∷ parts) back at long (suc which) part h =
      let behind : length (front ++ part_code project starts p) ≡ at + core_part_words project p = omega (arith, length-append front (part_code project starts p), part-long project starts p, long) in
      subst (λ code. Stands code (slice_index (core_starts_from project (at + core_part_words project p) parts) which) (part_code project starts part))
      (behind-first front (part_code project starts p) (parts_code project starts parts) back)
      (in-order (front ++ part_code project starts p) parts back (at + core_part_words project p) behind which part h)

  -- where the first of some parts is of the other kind, or of this one
  sub-step : (front : List Coded) (p : CorePart) (parts : List CorePart) (back : List Coded) (sub handler which : ℕ) (part : CorePart) (b : Bool)
      → Stands (front ++ (parts_code project starts (filter is_sub parts) ++ back)) (slice_index (starts_apart project sub (handler + core_part_words project p) parts) which) (part_code project starts part)
      → Stands ((front ++ part_code project starts p) ++ (parts_code project starts (filter is_sub parts) ++ back)) (slice_index (starts_apart project (sub + core_part_words project p) handler parts) which) (part_code project starts part)
      → Stands (front ++ (parts_code project starts (if not b then p ∷ filter is_sub parts else filter is_sub parts) ++ back))
      (slice_index (if b then handler ∷ starts_apart project sub (handler + core_part_words project p) parts else sub ∷ starts_apart project (sub + core_part_words project p) handler parts) (suc which))
      (part_code project starts part)
  sub-step front p parts back sub handler which part true over on = over
  sub-step front p parts back sub handler which part false over on =
      subst (λ code. Stands code (slice_index (starts_apart project (sub + core_part_words project p) handler parts) which) (part_code project starts part))
      (behind-first front (part_code project starts p) (parts_code project starts (filter is_sub parts)) back) on

  -- the subroutines among parts
  sub-order : (front : List Coded) (parts : List CorePart) (back : List Coded) (sub handler : ℕ) → length front ≡ sub → (which : ℕ) (part : CorePart) → slice_get parts which ≡ Some part → is_handler part ≡ false
      → Stands (front ++ (parts_code project starts (filter is_sub parts) ++ back)) (slice_index (starts_apart project sub handler parts) which) (part_code project starts part)
  sub-order front [] back sub handler long which part h kind = cc
  sub-order front (p ∷ parts) back sub handler long zero part h kind =
      let same : p ≡ part = same_Some p part h in by_test (is_handler p) same (ap is_handler same ∙ kind)
    where
      by_test : (b : Bool) → p ≡ part → b ≡ false
          → Stands (front ++ (parts_code project starts (if not b then p ∷ filter is_sub parts else filter is_sub parts) ++ back))
          (slice_index (if b then handler ∷ starts_apart project sub (handler + core_part_words project p) parts else sub ∷ starts_apart project (sub + core_part_words project p) handler parts) 0) (part_code project starts part)
      by_test true same e = absurd (true≢false e)
      by_test false same e =
          subst (λ (q : CorePart). Stands (front ++ (parts_code project starts (p ∷ filter is_sub parts) ++ back)) sub (part_code project starts q)) same
          (first-stands front (part_code project starts p) (parts_code project starts (filter is_sub parts)) back sub long)
  sub-order front (p ∷ parts) back sub handler long (suc which) part h kind =
      let behind : length (front ++ part_code project starts p) ≡ sub + core_part_words project p = omega (arith, length-append front (part_code project starts p), part-long project starts p, long) in
      sub-step front p parts back sub handler which part (is_handler p)
      (sub-order front parts back sub (handler + core_part_words project p) long which part h kind)
      (sub-order (front ++ part_code project starts p) parts back (sub + core_part_words project p) handler behind which part h kind)

  handler-step : (front : List Coded) (p : CorePart) (parts : List CorePart) (back : List Coded) (sub handler which : ℕ) (part : CorePart) (b : Bool)
      → Stands ((front ++ part_code project starts p) ++ (parts_code project starts (filter is_handler parts) ++ back)) (slice_index (starts_apart project sub (handler + core_part_words project p) parts) which) (part_code project starts part)
      → Stands (front ++ (parts_code project starts (filter is_handler parts) ++ back)) (slice_index (starts_apart project (sub + core_part_words project p) handler parts) which) (part_code project starts part)
      → Stands (front ++ (parts_code project starts (if b then p ∷ filter is_handler parts else filter is_handler parts) ++ back))
      (slice_index (if b then handler ∷ starts_apart project sub (handler + core_part_words project p) parts else sub ∷ starts_apart project (sub + core_part_words project p) handler parts) (suc which))
      (part_code project starts part)
  handler-step front p parts back sub handler which part true on over =
      subst (λ code. Stands code (slice_index (starts_apart project sub (handler + core_part_words project p) parts) which) (part_code project starts part))
      (behind-first front (part_code project starts p) (parts_code project starts (filter is_handler parts)) back) on
  handler-step front p parts back sub handler which part false on over = over

  -- the handlers among parts
  handler-order : (front : List Coded) (parts : List CorePart) (back : List Coded) (sub handler : ℕ) → length front ≡ handler → (which : ℕ) (part : CorePart) → slice_get parts which ≡ Some part → is_handler part ≡ true
      → Stands (front ++ (parts_code project starts (filter is_handler parts) ++ back)) (slice_index (starts_apart project sub handler parts) which) (part_code project starts part)
  handler-order front [] back sub handler long which part h kind = cc
  handler-order front (p ∷ parts) back sub handler long zero part h kind =
      let same : p ≡ part = same_Some p part h in by_test (is_handler p) same (ap is_handler same ∙ kind)
    where
      by_test : (b : Bool) → p ≡ part → b ≡ true
          → Stands (front ++ (parts_code project starts (if b then p ∷ filter is_handler parts else filter is_handler parts) ++ back))
          (slice_index (if b then handler ∷ starts_apart project sub (handler + core_part_words project p) parts else sub ∷ starts_apart project (sub + core_part_words project p) handler parts) 0) (part_code project starts part)
      by_test true same e =
          subst (λ (q : CorePart). Stands (front ++ (parts_code project starts (p ∷ filter is_handler parts) ++ back)) handler (part_code project starts q)) same
          (first-stands front (part_code project starts p) (parts_code project starts (filter is_handler parts)) back handler long)
      by_test false same e = absurd (true≢false (sym e))
  handler-order front (p ∷ parts) back sub handler long (suc which) part h kind =
      let behind : length (front ++ part_code project starts p) ≡ handler + core_part_words project p = omega (arith, length-append front (part_code project starts p), part-long project starts p, long) in
      handler-step front p parts back sub handler which part (is_handler p)
      (handler-order (front ++ part_code project starts p) parts back sub (handler + core_part_words project p) behind which part h kind)
      (handler-order front parts back (sub + core_part_words project p) handler long which part h kind)

-- the address of a subroutine among all parts is among those of the subroutines
sub-passes : (project : Project) (test : ℕ → Bool) (parts : List CorePart) (sub handler : ℕ) → list_all test (core_starts_from project sub (filter is_sub parts)) ≡ true
    → (which : ℕ) (part : CorePart) → slice_get parts which ≡ Some part → is_handler part ≡ false → test (slice_index (starts_apart project sub handler parts) which) ≡ true
sub-passes project test [] sub handler all which part h kind = cc
sub-passes project test (p ∷ parts) sub handler all zero part h kind = by_test (is_handler p) (ap is_handler (same_Some p part h) ∙ kind) all
  where
    by_test : (b : Bool) → b ≡ false → list_all test (core_starts_from project sub (if not b then p ∷ filter is_sub parts else filter is_sub parts)) ≡ true
        → test (slice_index (if b then handler ∷ starts_apart project sub (handler + core_part_words project p) parts else sub ∷ starts_apart project (sub + core_part_words project p) handler parts) 0) ≡ true
    by_test true e all = absurd (true≢false e)
    by_test false e all = and-left _ _ all
sub-passes project test (p ∷ parts) sub handler all (suc which) part h kind =
    by_test (is_handler p) all
    (λ all. sub-passes project test parts sub (handler + core_part_words project p) all which part h kind)
    (λ all. sub-passes project test parts (sub + core_part_words project p) handler all which part h kind)
  where
    by_test : (b : Bool) → list_all test (core_starts_from project sub (if not b then p ∷ filter is_sub parts else filter is_sub parts)) ≡ true
        → (list_all test (core_starts_from project sub (filter is_sub parts)) ≡ true → test (slice_index (starts_apart project sub (handler + core_part_words project p) parts) which) ≡ true)
        → (list_all test (core_starts_from project (sub + core_part_words project p) (filter is_sub parts)) ≡ true → test (slice_index (starts_apart project (sub + core_part_words project p) handler parts) which) ≡ true)
        → test (slice_index (if b then handler ∷ starts_apart project sub (handler + core_part_words project p) parts else sub ∷ starts_apart project (sub + core_part_words project p) handler parts) (suc which)) ≡ true
    by_test true all over on = over all
    by_test false all over on = on (and-right _ _ all)

-- The whole code

module _ (project : Project) (core : Core) where
  abbrev addresses : List ℕ
  addresses = part_starts project core

  abbrev table : List Coded
  table = table_code project core

  abbrev init : List Coded
  init = init_code project addresses core

  abbrev subs : List Coded
  subs = parts_code project addresses (core_subs core)

  abbrev handlers : List Coded
  handlers = parts_code project addresses (core_handlers core)

  abbrev all_parts : List Coded
  all_parts = parts_code project addresses core.parts

  pub stands-init : Stands (core_code project core) (init_start project core) (init_code project addresses core)
  stands-init = by_test (is_large project)
    where
      by_test : (b : Bool) → Stands (table ++ (if b then (subs ++ init) ++ handlers else init ++ all_parts)) (core_table_words core + (if b then sum_by (core_part_words project) (core_subs core) else 0)) init
      by_test true =
          let place : length (table ++ subs) ≡ core_table_words core + sum_by (core_part_words project) (core_subs core) = omega (arith, length-append table subs, table-long project core, parts-long project addresses (core_subs core)) in
          subst₂ (λ code n. Stands code n init) (behind-first table subs init handlers) place (stands-at (table ++ subs) init handlers)
      by_test false =
          let place : length table ≡ core_table_words core + 0 = omega (arith, table-long project core) in
          subst (λ n. Stands (table ++ (init ++ all_parts)) n init) place (stands-at table init all_parts)

  pub stands-part : (which : ℕ) (part : CorePart) → slice_get core.parts which ≡ Some part → Stands (core_code project core) (slice_index addresses which) (part_code project addresses part)
  stands-part which part h = by_test (is_large project)
    where
      -- behind the init code, where the subroutines stand before it or nothing does
      behind : Bool → ℕ
      behind b = core_table_words core + (if b then sum_by (core_part_words project) (core_subs core) else 0) + core_list_words project core.init + 1

      by_kind : (b : Bool) → is_handler part ≡ b → Stands (table ++ ((subs ++ init) ++ handlers)) (slice_index (starts_apart project (core_table_words core) (behind true) core.parts) which) (part_code project addresses part)
      by_kind true kind =
          let place : length (table ++ (subs ++ init)) ≡ behind true =
          omega (arith, length-append table (subs ++ init), length-append subs init, table-long project core, parts-long project addresses (core_subs core), init-long project addresses core) in
          let same : (table ++ (subs ++ init)) ++ (handlers ++ []) ≡ table ++ ((subs ++ init) ++ handlers) =
          ap (λ xs. (table ++ (subs ++ init)) ++ xs) (append-nil handlers) ∙ append_assoc table (subs ++ init) handlers in
          subst (λ code. Stands code (slice_index (starts_apart project (core_table_words core) (behind true) core.parts) which) (part_code project addresses part)) same
          (handler-order project addresses (table ++ (subs ++ init)) core.parts [] (core_table_words core) (behind true) place which part h kind)
      by_kind false kind =
          subst (λ code. Stands (table ++ code) (slice_index (starts_apart project (core_table_words core) (behind true) core.parts) which) (part_code project addresses part)) (sym (append_assoc subs init handlers))
          (sub-order project addresses table core.parts (init ++ handlers) (core_table_words core) (behind true) (table-long project core) which part h kind)

      by_test : (b : Bool) → Stands (table ++ (if b then (subs ++ init) ++ handlers else init ++ all_parts))
          (slice_index (if b then starts_apart project (core_table_words core) (behind b) core.parts else core_starts_from project (behind b) core.parts) which) (part_code project addresses part)
      by_test true = by_kind (is_handler part) refl
      by_test false =
          let place : length (table ++ init) ≡ behind false = omega (arith, length-append table init, table-long project core, init-long project addresses core) in
          let same : (table ++ init) ++ (all_parts ++ []) ≡ table ++ (init ++ all_parts) = ap (λ xs. (table ++ init) ++ xs) (append-nil all_parts) ∙ append_assoc table init all_parts in
          subst (λ code. Stands code (slice_index (core_starts_from project (behind false) core.parts) which) (part_code project addresses part)) same
          (in-order project addresses (table ++ init) core.parts [] (behind false) place which part h)

  -- a part stands inside the code with all its words
  pub part-inside : (which : ℕ) (part : CorePart) → slice_get core.parts which ≡ Some part → slice_index addresses which + core_part_words project part ≤ core_words project core
  part-inside which part h =
      let inside : slice_index addresses which + length (part_code project addresses part) ≤ length (core_code project core) =
      stands-inside (core_code project core) (slice_index addresses which) (part_code project addresses part) (stands-part which part h) (omega (arith, part-long project addresses part)) in
      omega (arith, part-long project addresses part, code-long project core)

  pub init-inside : init_start project core + core_list_words project core.init + 1 ≤ core_words project core
  init-inside =
      let inside : init_start project core + length init ≤ length (core_code project core) =
      stands-inside (core_code project core) (init_start project core) init stands-init (omega (arith, init-long project addresses core)) in
      omega (arith, init-long project addresses core, code-long project core)

  -- a call names the address of each subroutine
  pub sub-near : IsCore project core → core_words project core ≤ project.node.code → (which : ℕ) (part : CorePart) → slice_get core.parts which ≡ Some part → is_handler part ≡ false → slice_index addresses which < 4096
  sub-near shape fits which part h kind = by_test (is_large project) refl (shape.is_near)
    where
      by_test : (b : Bool) → is_large project ≡ b → (b ≡ true → list_all (λ start. nat_le start farthest) (core_starts project core) ≡ true) → slice_index addresses which < 4096
      by_test true large near =
          let place : nat_le (slice_index addresses which) farthest ≡ true = subst (λ b. nat_le (slice_index (if b then starts_apart project (core_table_words core) (init_start project core + core_list_words project core.init + 1) core.parts
          else core_starts_from project (init_start project core + core_list_words project core.init + 1) core.parts) which) farthest ≡ true) (sym large)
          (sub-passes project (λ start. nat_le start farthest) core.parts (core_table_words core) (init_start project core + core_list_words project core.init + 1) (near refl) which part h kind) in
          let most : slice_index addresses which ≤ 4095 = leb-true (slice_index addresses which) 4095 place in
          omega arith
      by_test false small near =
          let code : project.node.code ≤ 2048 = ltb-false 2048 project.node.code small in
          omega (arith, part-inside which part h)
