-- Lines that tell of natives: as many as there are natives.
use Rattle.std.proofs.Common.{◌≡◌, ℕ, zero, suc, ◌+◌, ◌-◌, ◌<◌, ◌≤◌, Bool, true, false, not, if◌then◌else◌, List, [], ◌∷◌, ◌++◌, length, take, drop, filter, map, refl, sym, ap, ◌∙◌, arith, cond}
use Rattle.std.specs.Str.Lines.{lines}
use Rattle.std.proofs.lemmas.Bool.{eqb-true}
use Rattle.aseba_tree.specs.declared.description.Native.{Native}
use Rattle.aseba_tree.specs.declared.project.Project.{Project}
use Rattle.aseba_describe.specs.declared.entry.Entry.{Entry}
use Rattle.aseba_describe.specs.declared.entry.Entry.TheVariants as entry
use Rattle.aseba_describe.specs.Spelling.{entry_text, entries, node_entries}
use Rattle.aseba_text.specs.Lines.{is_skipped, spoken}
use Rattle.aseba_describe.specs.Grammar.{ProjectLines}
use Rattle.aseba_describe.specs.NativeLines.{tells_native, natives_told, IsNativeLine}

abbrev pub as_count : Bool → ℕ
as_count b = if b then 1 else 0

counts : (b : Bool) (row : List ℕ) (rows : List (List ℕ)) → length (cond b (row ∷ rows) rows) ≡ as_count b + length rows
counts true row rows = omega arith
counts false row rows = omega arith

-- one line more
pub told_more : (n : ℕ) (rows : List (List ℕ)) (line : List ℕ) (behind : List (List ℕ)) → drop n rows ≡ line ∷ behind → natives_told (take (n + 1) rows) ≡ natives_told (take n rows) + as_count (tells_native line)
told_more zero [] line behind h = absurd cc
told_more zero (row ∷ rows) line behind h =
    let same : row ≡ line = cc in
    counts (tells_native row) row [] ∙ ap (λ r. as_count (tells_native r) + 0) same ∙ omega arith
told_more (suc n) [] line behind h = absurd cc
told_more (suc n) (row ∷ rows) line behind h =
    let others = told_more n rows line behind h in
    let one = counts (tells_native row) row (filter tells_native (take (n + 1) rows)) in
    let two = counts (tells_native row) row (filter tells_native (take n rows)) in
    let next : suc n + 1 ≡ suc (n + 1) = omega arith in
    ap (λ m. natives_told (take m (row ∷ rows))) next ∙ omega (arith, others, one, two)

pub drops_more : (n : ℕ) (rows : List (List ℕ)) (line : List ℕ) (behind : List (List ℕ)) → drop n rows ≡ line ∷ behind → drop (n + 1) rows ≡ behind
drops_more zero [] line behind h = absurd cc
drops_more zero (row ∷ rows) line behind h = cc
drops_more (suc n) [] line behind h = absurd cc
drops_more (suc n) (row ∷ rows) line behind h =
    let next : suc n + 1 ≡ suc (n + 1) = omega arith in ap (λ m. drop m (row ∷ rows)) next ∙ drops_more n rows line behind h

-- no line is left
pub told_all : (n : ℕ) (rows : List (List ℕ)) → drop n rows ≡ [] → natives_told (take n rows) ≡ natives_told rows
told_all zero [] h = refl
told_all zero (row ∷ rows) h = absurd cc
told_all (suc n) [] h = refl
told_all (suc n) (row ∷ rows) h =
    let others = told_all n rows h in
    let one = counts (tells_native row) row (filter tells_native (take n rows)) in
    let two = counts (tells_native row) row (filter tells_native rows) in
    omega (arith, others, one, two)

abbrev is_native : Entry → Bool
is_native (entry.Native n) = true
is_native _ = false

tells_entry : (e : Entry) → tells_native (entry_text e) ≡ is_native e
tells_entry (entry.Node name) = refl
tells_entry (entry.Code n) = refl
tells_entry (entry.Vars n) = refl
tells_entry (entry.Stack n) = refl
tells_entry (entry.Id n) = refl
tells_entry (entry.Variable v) = refl
tells_entry (entry.Local l) = refl
tells_entry (entry.Native n) = refl
tells_entry (entry.Event e) = refl
tells_entry (entry.Const c) = refl

-- how many entries are natives
abbrev natives_in : List Entry → ℕ
natives_in [] = 0
natives_in (e ∷ es) = as_count (is_native e) + natives_in es

natives_in-append : (es fs : List Entry) → natives_in (es ++ fs) ≡ natives_in es + natives_in fs
natives_in-append [] fs = omega arith
natives_in-append (e ∷ es) fs = omega (arith, natives_in-append es fs)

no_natives : {A : Type 0} (form : A → Entry) → ((x : A) → is_native (form x) ≡ false) → (xs : List A) → natives_in (map form xs) ≡ 0
no_natives form h [] = refl
no_natives form h (x ∷ xs) = ap (λ b. as_count b + natives_in (map form xs)) (h x) ∙ omega (arith, no_natives form h xs)

all_natives : (ns : List Native) → natives_in (map (λ n. entry.Native n) ns) ≡ length ns
all_natives [] = refl
all_natives (n ∷ ns) = omega (arith, all_natives ns)

told_entries : (es : List Entry) → natives_told (map entry_text es) ≡ natives_in es
told_entries [] = refl
told_entries (e ∷ es) =
    counts (tells_native (entry_text e)) (entry_text e) (filter tells_native (map entry_text es))
    ∙ ap (λ b. as_count b + natives_told (map entry_text es)) (tells_entry e)
    ∙ ap (λ n. as_count (is_native e) + n) (told_entries es)

natives_of : (p : Project) → natives_in (entries p) ≡ length p.node.natives
natives_of p =
    let vs = map (λ v. entry.Variable v) p.node.variables in
    let ls = map (λ l. entry.Local l) p.node.locals in
    let ns = map (λ n. entry.Native n) p.node.natives in
    let es = map (λ e. entry.Event e) p.events in
    let cs = map (λ c. entry.Const c) p.consts in
    let a = natives_in-append (node_entries p ++ vs ++ ls ++ ns ++ es) cs in
    let b = natives_in-append (node_entries p ++ vs ++ ls ++ ns) es in
    let c = natives_in-append (node_entries p ++ vs ++ ls) ns in
    let d = natives_in-append (node_entries p ++ vs) ls in
    let e = natives_in-append (node_entries p) vs in
    let none : natives_in (node_entries p) ≡ 0 = refl in
    omega (
      arith,
      a,
      b,
      c,
      d,
      e,
      none,
      no_natives (λ v. entry.Variable v) (λ _. refl) p.node.variables,
      no_natives (λ l. entry.Local l) (λ _. refl) p.node.locals,
      all_natives p.node.natives,
      no_natives (λ e. entry.Event e) (λ _. refl) p.events,
      no_natives (λ c. entry.Const c) (λ _. refl) p.consts,
    )

-- what says nothing tells of no native
skipped_tells : (row : List ℕ) → is_skipped row ≡ true → tells_native row ≡ false
skipped_tells [] h = refl
skipped_tells (b ∷ bs) h = by (eqb-true b 35 h)
  where
    by : b ≡ 35 → tells_native (b ∷ bs) ≡ false
    by e = rw e refl

told_spoken : (rows : List (List ℕ)) → natives_told rows ≡ natives_told (spoken rows)
told_spoken [] = refl
told_spoken (row ∷ rows) = by (told_spoken rows) (is_skipped row) refl
  where
    by : natives_told rows ≡ natives_told (spoken rows) → (t : Bool) → is_skipped row ≡ t → natives_told (row ∷ rows) ≡ natives_told (cond (not t) (row ∷ spoken rows) (spoken rows))
    by others true e =
        counts (tells_native row) row (filter tells_native rows) ∙ ap (λ b. as_count b + natives_told rows) (skipped_tells row e) ∙ omega (arith, others)
    by others false e =
        counts (tells_native row) row (filter tells_native rows) ∙ ap (λ n. as_count (tells_native row) + n) others
        ∙ sym (counts (tells_native row) row (filter tells_native (spoken rows)))

-- a project's text tells of its natives, each once
pub tells_natives : (rows : List (List ℕ)) (p : Project) → ProjectLines rows p → natives_told rows ≡ length p.node.natives
tells_natives rows p spelled = told_spoken rows ∙ ap natives_told spelled.said ∙ told_entries (entries p) ∙ natives_of p

module _ (n left others : ℕ) (rows : List (List ℕ)) (line : List ℕ) (behind : List (List ℕ)) (here : drop n rows ≡ line ∷ behind) (told : natives_told (take n rows) + left ≡ others) where
  -- the line is the one that is looked for
  pub found_native : tells_native line ≡ true → left ≡ 0 → IsNativeLine rows others (n + 1)
  found_native tells none =
      let one : n + 1 - 1 ≡ n = omega arith in
      let more = told_more n rows line behind here ∙ ap (λ b. natives_told (take n rows) + as_count b) tells in
      record { before = ap (λ m. natives_told (take m rows)) one ∙ omega (arith, told, none); with_it = more ∙ omega (arith, told, none) }

  -- it tells of another one
  pub passed_native : tells_native line ≡ true → 0 < left → natives_told (take (n + 1) rows) + (left - 1) ≡ others
  passed_native tells some =
      let more = told_more n rows line behind here ∙ ap (λ b. natives_told (take n rows) + as_count b) tells in omega (arith, told, some, more)

  -- it tells of none
  pub passed_other : tells_native line ≡ false → natives_told (take (n + 1) rows) + left ≡ others
  passed_other tells =
      let more = told_more n rows line behind here ∙ ap (λ b. natives_told (take n rows) + as_count b) tells in omega (arith, told, more)

-- no line is left, and none was found
pub not_found : (n left others : ℕ) (text rest : List ℕ) → drop n (lines text) ≡ lines rest → natives_told (take n (lines text)) + left ≡ others → length rest ≡ 0 → natives_told (lines text) ≤ others
not_found n left others text [] behind told none = let all = told_all n (lines text) behind in omega (arith, all, told)
not_found n left others text (b ∷ bs) behind told none = absurd (omega arith)
