-- The event table as the machine finds it in its memory: the init code, and the handler that the core has for an event.
use Rattle.std.proofs.Common.{◌≡◌, ℕ, suc, ◌+◌, ◌-◌, ◌<◌, ◌≤◌, ◌≢◌, ◌⊎◌, inl, inr, Bool, true, false, if◌then◌else◌, nat_eq, pos, List, [], ◌∷◌, ◌++◌, length, take, slice_get, Option, Some, None, refl, sym, ap, ◌∙◌, arith, eqb-true}
use Rattle.std.proofs.lemmas.Bool.{ne_eqb}
use Rattle.std.proofs.lemmas.Option.{none-some, same_Some}
use Rattle.std.proofs.lemmas.List.Sums.{sum_by-cons}
use Rattle.std.specs.Option.{option_eq}
use Rattle.std.specs.Prelude.{sum_by, slice_index}
use Rattle.aseba_tree.specs.Code.{Project}
use Rattle.aseba_tree.specs.Core.{CorePart, Core}
use Rattle.aseba_tree.specs.CoreNumbers.{core_table_words, core_words}
use Rattle.aseba_tree.specs.CoreStep.{core_list_whens, whens_before, handles, handler_among}
use Rattle.aseba_vm.specs.Lists.{address_of, handler_of}
use Rattle.aseba_codegen.specs.declared.coded.Coded.{Coded}
use Rattle.aseba_codegen.specs.Words.{sixteen_bits, on_line, init_start, part_starts, handler_entry, handler_entries, table_of, bodies_code, core_code}
use Rattle.aseba_codegen.proofs.Reach.{Holds}
use Rattle.aseba_codegen.proofs.Lengths.{on_line-long, table-long}
use Rattle.aseba_codegen.proofs.PartOrder.{part-inside, init-inside}

-- The table in memory

-- the first words of a memory are those of the first line of its code
front-words : (line : ℕ) (ws : List ℕ) (back : List Coded) (memory : List ℕ) → Holds (on_line line ws ++ back) memory → take (length ws) memory ≡ ws
front-words line [] back memory h = refl
front-words line (w ∷ ws) back [] h = let none : None ≡ Some w = h 0 (record { word = w; line = line; is_edge = false }) refl refl in absurd (none-some w none)
front-words line (w ∷ ws) back (m ∷ memory) h =
    let first : m ≡ w = same_Some m w (h 0 (record { word = w; line = line; is_edge = false }) refl refl) in
    let rest : take (length ws) memory ≡ ws = front-words line ws back memory (λ at c found plain. h (suc at) c found plain) in
    ap (λ x. x ∷ take (length ws) memory) first ∙ ap (λ xs. w ∷ xs) rest

-- a search in a memory that begins with a table, whose first word is its length
found-in : (event size : ℕ) (table memory : List ℕ) → size ≡ suc (length table) → take (suc (length table)) memory ≡ size ∷ table → handler_of event memory ≡ address_of event table
found-in event size table [] long h = cc
found-in event size table (m ∷ memory) long h =
    let first : m ≡ size = cc in
    let rest : take (length table) memory ≡ table = cc in
    let count : m - 1 ≡ length table = omega arith in
    ap (λ n. address_of event (take n memory)) count ∙ ap (address_of event) rest

-- Handlers

-- how a core and its table answer for an event: no part handles it, or the first that does, at a place among them
abbrev Answered : ℕ → List ℕ → (before first : ℕ) → List CorePart → Type 0
Answered event starts before first parts =
    ((handler_among event before parts ≡ None) × (address_of event (handler_entries starts first parts) ≡ None))
    ⊎ ((which : ℕ) × (part : CorePart) × (slice_get parts which ≡ Some part) × (part.event ≡ Some event)
    × (handler_among event before parts ≡ Some (before + sum_by (λ p. core_list_whens p.body) (take which parts), part))
    × (address_of event (handler_entries starts first parts) ≡ Some (sixteen_bits (pos (slice_index starts (first + which))))))

answered : (event : ℕ) (starts : List ℕ) (before first : ℕ) (parts : List CorePart) → Answered event starts before first parts
answered event starts before first [] = inl (refl, refl)
answered event starts before first (p ∷ parts) = by_event p.event refl (answered event starts (before + core_list_whens p.body) (first + 1) parts)
  where
    -- behind a part that doesn't handle it
    behind : (o : Option ℕ) → option_eq nat_eq o (Some event) ≡ false → address_of event (handler_entry o (slice_index starts first) ++ handler_entries starts (first + 1) parts) ≡ address_of event (handler_entries starts (first + 1) parts)
        → p.event ≡ o → Answered event starts (before + core_list_whens p.body) (first + 1) parts → Answered event starts before first (p ∷ parts)
    behind o other skipped is rest =
        let same : handles event p ≡ false = ap (λ o. option_eq nat_eq o (Some event)) is ∙ other in
        let core_on : handler_among event before (p ∷ parts) ≡ handler_among event (before + core_list_whens p.body) parts =
        ap (λ b. if b then Some (before, p) else handler_among event (before + core_list_whens p.body) parts) same in
        let table_on : address_of event (handler_entries starts first (p ∷ parts)) ≡ address_of event (handler_entries starts (first + 1) parts) =
        ap (λ o. address_of event (handler_entry o (slice_index starts first) ++ handler_entries starts (first + 1) parts)) is ∙ skipped in
        elim rest [
          | inl none ↦ inl (core_on ∙ none.0, table_on ∙ none.1)
          | inr some ↦
              let count : before + core_list_whens p.body + sum_by (λ p. core_list_whens p.body) (take some.0 parts) ≡ before + sum_by (λ p. core_list_whens p.body) (take (suc some.0) (p ∷ parts)) =
              omega (arith, sum_by-cons (λ p. core_list_whens p.body) p (take some.0 parts)) in
              let place : first + 1 + some.0 ≡ first + suc some.0 = omega arith in
              inr (suc some.0, some.1, some.2, some.3, core_on ∙ some.4 ∙ ap (λ n. Some (n, some.1)) count, table_on ∙ some.5 ∙ ap (λ n. Some (sixteen_bits (pos (slice_index starts n)))) place)
        ]

    by_event : (o : Option ℕ) → p.event ≡ o → Answered event starts (before + core_list_whens p.body) (first + 1) parts → Answered event starts before first (p ∷ parts)
    by_event None is rest = behind None refl refl is rest
    by_event (Some n) is rest = by_test (nat_eq n event) refl
      where
        by_test : (b : Bool) → nat_eq n event ≡ b → Answered event starts before first (p ∷ parts)
        by_test true e =
            let same : p.event ≡ Some event = is ∙ ap Some (eqb-true n event e) in
            let core_here : handler_among event before (p ∷ parts) ≡ Some (before, p) =
            ap (λ b. if b then Some (before, p) else handler_among event (before + core_list_whens p.body) parts) (ap (λ o. option_eq nat_eq o (Some event)) is ∙ e) in
            let table_here : address_of event (handler_entries starts first (p ∷ parts)) ≡ Some (sixteen_bits (pos (slice_index starts first))) =
            ap (λ o. address_of event (handler_entry o (slice_index starts first) ++ handler_entries starts (first + 1) parts)) is
            ∙ ap (λ b. if b then Some (sixteen_bits (pos (slice_index starts first))) else address_of event (handler_entries starts (first + 1) parts)) e in
            let none : before ≡ before + 0 = omega arith in
            let here : first ≡ first + 0 = omega arith in
            inr (0, p, refl, same, core_here ∙ ap (λ n. Some (n, p)) none, table_here ∙ ap (λ n. Some (sixteen_bits (pos (slice_index starts n)))) here)
        by_test false e =
            let skipped : address_of event (handler_entry (Some n) (slice_index starts first) ++ handler_entries starts (first + 1) parts) ≡ address_of event (handler_entries starts (first + 1) parts) =
            ap (λ b. if b then Some (sixteen_bits (pos (slice_index starts first))) else address_of event (handler_entries starts (first + 1) parts)) e in
            behind (Some n) e skipped is rest

module _ (project : Project) (core : Core) where
  abbrev entries : List ℕ
  entries = handler_entries (part_starts project core) 0 core.parts

  sixteen-is : (n : ℕ) → n < 65536 → sixteen_bits (pos n) ≡ n
  sixteen-is n h = omega arith

  table-found : (event : ℕ) (memory : List ℕ) → core_words project core ≤ 65535 → Holds (core_code project core) memory
      → handler_of event memory ≡ address_of event (65535 ∷ init_start project core ∷ entries)
  table-found event memory few h =
      let size : ℕ = sixteen_bits (pos (3 + length entries)) in
      let init : ℕ = sixteen_bits (pos (init_start project core)) in
      let long : 3 + length entries ≡ core_table_words core = omega (arith, on_line-long 0 (table_of (init_start project core) entries), table-long project core) in
      let small : 3 + length entries < 65536 = omega arith in
      let count : size ≡ suc (length (65535 ∷ init ∷ entries)) = sixteen-is (3 + length entries) small ∙ omega arith in
      let inside : init_start project core < 65536 = omega (arith, init-inside project core) in
      let words : take (suc (length (65535 ∷ init ∷ entries))) memory ≡ size ∷ 65535 ∷ init ∷ entries =
      front-words 0 (table_of (init_start project core) entries) (bodies_code project (part_starts project core) core) memory h in
      found-in event size (65535 ∷ init ∷ entries) memory count words ∙ ap (λ n. address_of event (65535 ∷ n ∷ entries)) (sixteen-is (init_start project core) inside)

  -- the init code begins by this number
  pub init-found : (memory : List ℕ) → core_words project core ≤ 65535 → Holds (core_code project core) memory → handler_of 65535 memory ≡ Some (init_start project core)
  init-found memory few h = table-found 65535 memory few h

  -- How a memory and the core answer for an event: neither has a handler, or both have the same part, at its address.
  abbrev pub Found : ℕ → List ℕ → Type 0
  Found event memory =
      ((handler_among event (core_list_whens core.init) core.parts ≡ None) × (handler_of event memory ≡ None))
      ⊎ ((which : ℕ) × (part : CorePart) × (slice_get core.parts which ≡ Some part) × (part.event ≡ Some event)
      × (handler_among event (core_list_whens core.init) core.parts ≡ Some (whens_before core which, part)) × (handler_of event memory ≡ Some (slice_index (part_starts project core) which)))

  pub found : (event : ℕ) (memory : List ℕ) → event ≢ 65535 → core_words project core ≤ 65535 → Holds (core_code project core) memory → Found event memory
  found event memory other few h =
      let differ : nat_eq 65535 event ≡ false = ne_eqb 65535 event (λ same. other (sym same)) in
      let behind_init : handler_of event memory ≡ address_of event entries =
      table-found event memory few h ∙ ap (λ b. if b then Some (init_start project core) else address_of event entries) differ in
      elim (answered event (part_starts project core) (core_list_whens core.init) 0 core.parts) [
        | inl none ↦ inl (none.0, behind_init ∙ none.1)
        | inr some ↦
            let place : 0 + some.0 ≡ some.0 = omega arith in
            let inside : slice_index (part_starts project core) some.0 < 65536 = omega (arith, part-inside project core some.0 some.1 some.2) in
            let address : sixteen_bits (pos (slice_index (part_starts project core) (0 + some.0))) ≡ slice_index (part_starts project core) some.0 =
            ap (λ n. sixteen_bits (pos (slice_index (part_starts project core) n))) place ∙ sixteen-is (slice_index (part_starts project core) some.0) inside in
            inr (some.0, some.1, some.2, some.3, some.4, behind_init ∙ some.5 ∙ ap Some address)
      ]
