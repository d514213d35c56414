-- What the laws of reading say of a parse: the tokens' one tree, or the place where they leave the grammar or are nested too deep.
use Rattle.std.proofs.Common.{◌≡◌, ℕ, zero, suc, ◌≤◌, ◌<◌, ◌+◌, ◌-◌, max, Bool, true, false, nat_lt, List, [], ◌∷◌, ◌++◌, length, take, drop, slice_get, Option, Some, None, ◌⊎◌, inl, inr, refl, sym, ap, ◌∙◌, subst, arith, append_assoc, append-nil, length-append, length-drop, take-append-drop, ltb-true, ltb-false, lt-ltb}
use Rattle.std.proofs.lemmas.List.{append_cancel_right, drop_at, take_at}
use Rattle.aseba_tree.specs.declared.pos.Pos.{Pos}
use Rattle.aseba_tree.specs.declared.token.Token.{Token}
use Rattle.aseba_tree.specs.declared.token.Key.{Key}
use Rattle.aseba_tree.specs.Code.{Source, Project}
use Rattle.aseba_tree.specs.Spells.{Spells, Begins}
use Rattle.aseba_tree.specs.Limits.{deepest}
use Rattle.aseba_tree.specs.Nest.{nests, Nested, TooDeepAt, SyntaxAt}
use Rattle.aseba_parser.specs.Reading.{Read, taken, wrong, deep, next, is_key, all_of, block_of, decl_read, stmts_read, begins_part, part_of, the_end, program_read}
use Rattle.aseba_parser.specs.Parsed.{IsTreeOf, IsNestedWell, IsDecided, place_of}
use Rattle.aseba_parser.proofs.Laws.{Means, first_above, outcome, IsLocalAt, IsLocal, Climbs}
use Rattle.aseba_parser.proofs.Sound.{each_read_is_spelled}
use Rattle.aseba_parser.proofs.Complete.{each_spelled_is_read}
use Rattle.aseba_parser.proofs.Local.{reading_is_local}
use Rattle.aseba_parser.proofs.Climb.{nests_climb}

-- The first nest above a depth
abbrev pub above_by : Bool → Option ℕ → Option ℕ
above_by b o = elim b [ true ↦ Some 0 | false ↦ elim o [ None ↦ None | Some k ↦ Some (suc k) ] ]

above_at : (d : ℕ) (ns : List ℕ) (i n : ℕ) → slice_get ns i ≡ Some n → d < n → (j : ℕ) × (first_above d ns ≡ Some j) × (j ≤ i)
above_at d [] i n e h = absurd (cc e)
above_at d (m ∷ ns) zero n e h = (0, ap (λ b. above_by b (first_above d ns)) (lt-ltb d m (let q : m ≡ n = cc in omega arith)), omega arith)
above_at d (m ∷ ns) (suc i) n e h = go (nat_lt d m) (above_at d ns i n e h)
  where
    go : (b : Bool) → ((j : ℕ) × (first_above d ns ≡ Some j) × (j ≤ i)) → (j : ℕ) × (above_by b (first_above d ns) ≡ Some j) × (j ≤ suc i)
    go true h = (0, refl, omega arith)
    go false (j, p, q) = (suc j, ap (above_by false) p, omega arith)

at_first : (d m n j : ℕ) (ns : List ℕ) (o : Option ℕ) → Climbs n (m ∷ ns) → n ≤ d → ((k : ℕ) → m ≤ d → o ≡ Some k → slice_get ns k ≡ Some (suc d)) → (b : Bool) → nat_lt d m ≡ b → above_by b o ≡ Some j
    → slice_get (m ∷ ns) j ≡ Some (suc d)
at_first d m n j ns o c h deeper true p e =
    let here : 0 ≡ j = cc in
    let above = ltb-true d m p in
    let near = c.0 in
    let q : m ≡ suc d = omega arith in
    subst (λ i. slice_get (m ∷ ns) i ≡ Some (suc d)) here (ap Some q)
at_first d m n j ns None c h deeper false p e = absurd (cc e)
at_first d m n j ns (Some k) c h deeper false p e =
    let here : suc k ≡ j = cc in
    subst (λ i. slice_get (m ∷ ns) i ≡ Some (suc d)) here (deeper k (ltb-false d m p) refl)

climbs_first : (d : ℕ) (ns : List ℕ) (n j : ℕ) → Climbs n ns → n ≤ d → first_above d ns ≡ Some j → slice_get ns j ≡ Some (suc d)
climbs_first d [] n j c h e = absurd (cc e)
climbs_first d (m ∷ ns) n j c h e = at_first d m n j ns (first_above d ns) c h (λ k low p. climbs_first d ns m k c.1 low p) (nat_lt d m) refl e

top : List ℕ → ℕ
top [] = 0
top (n ∷ ns) = max n (top ns)

none_above : (d : ℕ) (ns : List ℕ) → top ns ≤ d → first_above d ns ≡ None
unfolding top
none_above d [] h = refl
none_above d (n ∷ ns) h = go (nat_lt d n) refl (none_above d ns (omega arith))
  where
    go : (b : Bool) → nat_lt d n ≡ b → first_above d ns ≡ None → above_by b (first_above d ns) ≡ None
    go true e p = let q = ltb-true d n e in absurd (omega arith)
    go false e p = ap (above_by false) p

-- of more than nothing the first nest is at most 1
climbs_start : (ns : List ℕ) (n : ℕ) → Climbs 0 ns → slice_get ns 0 ≡ Some n → n ≤ 1
climbs_start [] n c e = absurd (cc e)
climbs_start (m ∷ ns) n c e = let near = c.0 in let q : m ≡ n = cc in omega arith

-- Two ways to part the same tokens at a token: at the same one, or one of them further on.
data Parted (b c : List Token) (t u : Token) : Type 0 where
  the_same : b ≡ c → t ≡ u → Parted b c t u
  before_it : (m : List Token) → c ≡ (b ++ t ∷ []) ++ m → Parted b c t u
  behind_it : (m : List Token) → b ≡ (c ++ u ∷ []) ++ m → Parted b c t u

parted : (b c x y : List Token) (t u : Token) → b ++ t ∷ x ≡ c ++ u ∷ y → Parted b c t u
parted [] [] x y t u e = the_same refl (cc)
parted [] (h ∷ c) x y t u e = let q : h ≡ t = cc in before_it c (ap (λ z. z ∷ c) q)
parted (h ∷ b) [] x y t u e = let q : h ≡ u = cc in behind_it b (ap (λ z. z ∷ b) q)
parted (h ∷ b) (k ∷ c) x y t u e = let q : h ≡ k = cc in further h k b c t u q (parted b c x y t u cc)
  where
    further : (h k : Token) (b c : List Token) (t u : Token) → h ≡ k → Parted b c t u → Parted (h ∷ b) (k ∷ c) t u
    further h k b c t u q (the_same p r) = the_same (cc) r
    further h k b c t u q (before_it m p) = before_it m (cc)
    further h k b c t u q (behind_it m p) = behind_it m (cc)

-- where a list has that many elements, the one there
split_at : {A : Type 0} (j : ℕ) (b : List A) → j < length b → (u : List A) × (x : A) × (v : List A) × (b ≡ u ++ x ∷ v) × (length u ≡ j)
split_at j [] h = absurd (omega arith)
split_at zero (x ∷ b) h = ([], x, b, refl, refl)
split_at (suc j) (y ∷ b) h = let (u, x, v, p, q) = split_at j b (omega arith) in (y ∷ u, x, v, ap (λ z. y ∷ z) p, omega (arith, q))

-- what the laws say of a reader of programs at a depth
pub record Reads (project : Project) (depth : ℕ) (read : List Token → Read Source) : Type 0 where
  pub means : (tokens : List Token) → Means (λ used source. Spells project source used) tokens (read tokens)
  pub reads : (source : Source) (tokens : List Token) (d : Spells project source tokens) → read tokens ≡ outcome (first_above depth (nests d)) tokens [] source
  pub stays : IsLocal read
  pub whole : (tokens : List Token) (source : Source) (rest : List Token) → read tokens ≡ taken source rest → rest ≡ []
  pub climbs : (source : Source) (tokens : List Token) (d : Spells project source tokens) → Climbs 0 (nests d)

-- the place of a token that is nested deeper than that, as TooDeepAt says it of the deepest level
abbrev DeepAt : ℕ → Project → List Token → Pos → Type 0
DeepAt depth project tokens pos = (before after : List Token) × (t : Token) × (tokens ≡ before ++ t ∷ after) × (t.at ≡ pos) × Nested project (before ++ t ∷ []) (suc depth)
    × ((k n : ℕ) → k ≤ length before → Nested project (take k before) n → n ≤ depth)

-- an answer at a token, with that token and other ones behind it
deep_again : (read : List Token → Read Source) → IsLocal read → (tokens u rest other : List Token) (t : Token) → read tokens ≡ deep (t ∷ rest) → tokens ≡ u ++ t ∷ rest → read (u ++ t ∷ other) ≡ deep (t ∷ other)
deep_again read stays tokens u rest other t e p = go (subst (IsLocalAt read tokens) e (stays tokens))
  where
    go : IsLocalAt read tokens (deep (t ∷ rest)) → read (u ++ t ∷ other) ≡ deep (t ∷ other)
    go (used, split, same) =
        let q : used ≡ u = append_cancel_right used u (t ∷ rest) (sym split ∙ p) in
        ap (λ z. read (z ++ t ∷ other)) (sym q) ∙ same t rest other refl

wrong_again : (read : List Token → Read Source) → IsLocal read → (tokens u rest other : List Token) (t : Token) → read tokens ≡ wrong (t ∷ rest) → tokens ≡ u ++ t ∷ rest → read (u ++ t ∷ other) ≡ wrong (t ∷ other)
wrong_again read stays tokens u rest other t e p = go (subst (IsLocalAt read tokens) e (stays tokens))
  where
    go : IsLocalAt read tokens (wrong (t ∷ rest)) → read (u ++ t ∷ other) ≡ wrong (t ∷ other)
    go (used, split, same) =
        let q : used ≡ u = append_cancel_right used u (t ∷ rest) (sym split ∙ p) in
        ap (λ z. read (z ++ t ∷ other)) (sym q) ∙ same t rest other refl

not_wrong : (o : Option ℕ) (tokens : List Token) (source : Source) (rest : List Token) → outcome o tokens [] source ≡ wrong rest → ⊥
not_wrong None tokens source rest e = cc e
not_wrong (Some k) tokens source rest e = cc e

-- A program whose nest at a place is above the depth: the answer there is the same wherever the tokens go on otherwise.
deep_early : {project : Project} {depth : ℕ} {read : List Token → Read Source} → Reads project depth read → (source : Source) (tokens : List Token) (d : Spells project source tokens) (u more other : List Token) (x : Token)
    → tokens ≡ u ++ x ∷ more → first_above depth (nests d) ≡ Some (length u) → read (u ++ x ∷ other) ≡ deep (x ∷ other)
deep_early {project} {depth} {read} r source tokens d u more other x p e =
    let cut : drop (length u) tokens ++ [] ≡ x ∷ more = append-nil (drop (length u) tokens) ∙ ap (drop (length u)) p ∙ drop_at u (x ∷ more) (length u) refl in
    let here : read tokens ≡ deep (x ∷ more) = r.reads source tokens d ∙ ap (λ o. outcome o tokens [] source) e ∙ ap deep cut in
    deep_again read r.stays tokens u more other x here p

deep_within : {project : Project} {depth : ℕ} {read : List Token → Read Source} → Reads project depth read → (source : Source) (tokens : List Token) (d : Spells project source tokens) (b more after : List Token) (i n : ℕ)
    → tokens ≡ b ++ more → slice_get (nests d) i ≡ Some n → depth < n → i < length b → (rest : List Token) × (read (b ++ after) ≡ deep rest) × (length after < length rest)
deep_within {project} {depth} {read} r source tokens d b more after i n p e above within =
    let (j, found, early) = above_at depth (nests d) i n e above in
    let (u, x, v, q, long) = split_at j b (omega arith) in
    let whole : tokens ≡ u ++ x ∷ (v ++ more) = p ∙ ap (λ z. z ++ more) q ∙ append_assoc u (x ∷ v) more in
    let here = deep_early r source tokens d u (v ++ more) (v ++ after) x whole (found ∙ ap Some (sym long)) in
    let same : b ++ after ≡ u ++ x ∷ (v ++ after) = ap (λ z. z ++ after) q ∙ append_assoc u (x ∷ v) after in
    (x ∷ (v ++ after), ap read same ∙ here, omega (arith, length-append v after))

-- A tree is the one that was read.
read_tree : {project : Project} {depth : ℕ} {read : List Token → Read Source} → Reads project depth read → (tokens : List Token) (source : Source) → read tokens ≡ taken source [] → Spells project source tokens
read_tree {project} {depth} {read} r tokens source e = go (subst (Means (λ used source. Spells project source used) tokens) e (r.means tokens))
  where
    go : Means (λ used source. Spells project source used) tokens (taken source []) → Spells project source tokens
    go (used, p, d) = subst (Spells project source) (sym (append-nil used) ∙ sym p) d

-- Where nothing was too deep, nothing is.
not_deep : {project : Project} {depth : ℕ} {read : List Token → Read Source} → Reads project depth read → (tokens : List Token) → ((rest : List Token) → read tokens ≡ deep rest → ⊥) → (pos : Pos) → DeepAt depth project tokens pos → ⊥
not_deep {project} {depth} {read} r tokens never pos (before, after, t, e, p, (more, source, d, nest), none) =
    let long = length-append before (t ∷ []) in
    let (rest, q, less) = deep_within r source ((before ++ t ∷ []) ++ more) d (before ++ t ∷ []) more after (length (before ++ t ∷ []) - 1) (suc depth) refl nest (omega arith) (omega arith) in
    never rest (ap read (e ∙ sym (append_assoc before (t ∷ []) after)) ∙ q)

-- Where a token fits nothing, the tokens leave the grammar there.
read_syntax : {project : Project} {depth : ℕ} {read : List Token → Read Source} → Reads project depth read → (tokens : List Token) (end : Pos) (t : Token) (rest : List Token) → read tokens ≡ wrong (t ∷ rest) → SyntaxAt project tokens end t.at
read_syntax {project} {depth} {read} r tokens end t rest e = go (subst (Means (λ used source. Spells project source used) tokens) e (r.means tokens))
  where
    go : Means (λ used source. Spells project source used) tokens (wrong (t ∷ rest)) → SyntaxAt project tokens end t.at
    go (used, p, begins) = inl (
      used,
      rest,
      t,
      p,
      refl,
      begins,
      λ on.
          let (more, source, d) = on in
          let again = wrong_again read r.stays tokens used rest more t e p in
          not_wrong (first_above depth (nests d)) ((used ++ t ∷ []) ++ more) source (t ∷ more)
          (sym (r.reads source ((used ++ t ∷ []) ++ more) d) ∙ ap read (append_assoc used (t ∷ []) more) ∙ again),
    )

-- Where the tokens end too early, they begin a program and are none.
read_early : {project : Project} {depth : ℕ} {read : List Token → Read Source} → Reads project depth read → (tokens : List Token) (end : Pos) → read tokens ≡ wrong [] → SyntaxAt project tokens end end
read_early {project} {depth} {read} r tokens end e = go (subst (Means (λ used source. Spells project source used) tokens) e (r.means tokens))
  where
    go : Means (λ used source. Spells project source used) tokens (wrong []) → SyntaxAt project tokens end end
    go (used, p, begins) = inr (subst (Begins project) (sym (append-nil used) ∙ sym p) begins, (λ source d. not_wrong (first_above depth (nests d)) tokens source [] (sym (r.reads source tokens d) ∙ e)), refl)

-- Where a token opens a level too many, it is the first that is nested so deep.
deep_before : {project : Project} {depth : ℕ} {read : List Token → Read Source} → Reads project depth read → 1 ≤ depth → (tokens b more after rest : List Token) (t : Token) (n : ℕ) → read tokens ≡ deep (t ∷ rest)
    → tokens ≡ b ++ after → length rest < length after → (source : Source) (d : Spells project source (b ++ more)) → slice_get (nests d) (length b - 1) ≡ Some n → n ≤ depth
deep_before {project} {depth} {read} r some tokens [] more after rest t n e p long source d nest =
    let low = climbs_start (nests d) n (r.climbs source more d) nest in
    omega arith
deep_before {project} {depth} {read} r some tokens (x ∷ b) more after rest t n e p long source d nest = go (nat_lt depth n) refl
  where
    go : (c : Bool) → nat_lt depth n ≡ c → n ≤ depth
    go false q = ltb-false depth n q
    go true q =
        let (behind, here, less) = deep_within r source ((x ∷ b) ++ more) d (x ∷ b) more after (length (x ∷ b) - 1) n refl nest (ltb-true depth n q) (omega arith) in
        let same : behind ≡ t ∷ rest = cc (here, e, ap read p) in
        absurd (omega (arith, ap length same))

first_deep : {project : Project} {depth : ℕ} {read : List Token → Read Source} → Reads project depth read → 1 ≤ depth → (tokens used rest : List Token) (t : Token) → read tokens ≡ deep (t ∷ rest) → tokens ≡ used ++ t ∷ rest
    → (k n : ℕ) → k ≤ length used → Nested project (take k used) n → n ≤ depth
first_deep {project} {depth} {read} r some tokens used rest t e p k n within (more, source, d, nest) =
    let whole : tokens ≡ take k used ++ (drop k used ++ t ∷ rest) = p ∙ ap (λ z. z ++ t ∷ rest) (sym (take-append-drop k used)) ∙ append_assoc (take k used) (drop k used) (t ∷ rest) in
    deep_before r some tokens (take k used) more (drop k used ++ t ∷ rest) rest t n e whole (omega (arith, length-append (drop k used) (t ∷ rest))) source d nest

nest_there : (depth : ℕ) (ns : List ℕ) (used more : List Token) (source : Source) (t : Token) (o : Option ℕ) → Climbs 0 ns → first_above depth ns ≡ o → outcome o ((used ++ t ∷ []) ++ more) [] source ≡ deep (t ∷ more)
    → slice_get ns (length (used ++ t ∷ []) - 1) ≡ Some (suc depth)
nest_there depth ns used more source t None c q a = absurd (cc a)
nest_there depth ns used more source t (Some j) c q a =
    let same : drop j ((used ++ t ∷ []) ++ more) ++ [] ≡ t ∷ more = cc a in
    let left = ap length (sym (append-nil (drop j ((used ++ t ∷ []) ++ more))) ∙ same) in
    let long = length-append used (t ∷ []) in
    let here : j ≡ length (used ++ t ∷ []) - 1 = omega (arith, left, long, length-drop j ((used ++ t ∷ []) ++ more), length-append (used ++ t ∷ []) more) in
    subst (λ i. slice_get ns i ≡ Some (suc depth)) here (climbs_first depth ns 0 j c (omega arith) q)

read_deep : {project : Project} {depth : ℕ} {read : List Token → Read Source} → Reads project depth read → 1 ≤ depth → (tokens : List Token) (t : Token) (rest : List Token) → read tokens ≡ deep (t ∷ rest) → DeepAt depth project tokens t.at
read_deep {project} {depth} {read} r some tokens t rest e = go (subst (Means (λ used source. Spells project source used) tokens) e (r.means tokens))
  where
    go : Means (λ used source. Spells project source used) tokens (deep (t ∷ rest)) → DeepAt depth project tokens t.at
    go (used, p, (more, source, d)) =
        let again : read ((used ++ t ∷ []) ++ more) ≡ deep (t ∷ more) = ap read (append_assoc used (t ∷ []) more) ∙ deep_again read r.stays tokens used rest more t e p in
        let there = r.reads source ((used ++ t ∷ []) ++ more) d in (
          used,
          rest,
          t,
          p,
          refl,
          (more, source, d, nest_there depth (nests d) used more source t (first_above depth (nests d)) (r.climbs source ((used ++ t ∷ []) ++ more) d) refl (sym there ∙ again)),
          first_deep r some tokens used rest t e p,
        )

never_deep_end : {project : Project} {depth : ℕ} {read : List Token → Read Source} → Reads project depth read → (tokens : List Token) → read tokens ≡ deep [] → ⊥
never_deep_end {project} r tokens e = subst (Means (λ used source. Spells project source used) tokens) e (r.means tokens)

-- Each tree, each place is the only one.
one_tree : (project : Project) (tokens : List Token) (source other : Source) → Spells project source tokens → Spells project other tokens → source ≡ other
one_tree project tokens source other d b =
    let depth : ℕ = top (nests d) + top (nests b) in
    let first = each_spelled_is_read project source tokens d depth in
    let second = each_spelled_is_read project other tokens b depth in
    let p = none_above depth (nests d) (omega arith) in
    let q = none_above depth (nests b) (omega arith) in
    let same : taken source [] ≡ taken other [] = ap (λ o. outcome o tokens [] source) (sym p) ∙ sym first ∙ second ∙ ap (λ o. outcome o tokens [] other) q in
    cc same

-- what begins a program with more tokens, begins one
begins_less : {project : Project} (b more : List Token) → Begins project (b ++ more) → Begins project b
begins_less {project} b more (rest, source, d) = (more ++ rest, source, subst (Spells project source) (append_assoc b more rest) d)

one_syntax : (project : Project) (tokens : List Token) (end pos other : Pos) → SyntaxAt project tokens end pos → SyntaxAt project tokens end other → pos ≡ other
one_syntax project tokens end pos other (inl (b, x, t, e, p, begins, ends)) (inl (c, y, u, q, o, starts, stops)) = go (parted b c x y t u (sym e ∙ q))
  where
    go : Parted b c t u → pos ≡ other
    go (the_same s w) = sym p ∙ ap (λ (z : Token). z.at) w ∙ o
    go (before_it m s) = absurd (ends (begins_less (b ++ t ∷ []) m (subst (Begins project) s starts)))
    go (behind_it m s) = absurd (stops (begins_less (c ++ u ∷ []) m (subst (Begins project) s begins)))
one_syntax project tokens end pos other (inl (b, x, t, e, p, begins, ends)) (inr (starts, none, o)) = absurd (ends (begins_less (b ++ t ∷ []) x (subst (Begins project) (e ∙ sym (append_assoc b (t ∷ []) x)) starts)))
one_syntax project tokens end pos other (inr (starts, none, o)) (inl (b, x, t, e, p, begins, ends)) = absurd (ends (begins_less (b ++ t ∷ []) x (subst (Begins project) (e ∙ sym (append_assoc b (t ∷ []) x)) starts)))
one_syntax project tokens end pos other (inr (starts, none, o)) (inr (begins, ends, p)) = o ∙ sym p

-- tokens that go on behind others, up to those
front : (b m : List Token) (t : Token) → take (length (b ++ t ∷ [])) ((b ++ t ∷ []) ++ m) ≡ b ++ t ∷ []
front b m t = take_at (b ++ t ∷ []) m (length (b ++ t ∷ [])) refl

not_before : (depth : ℕ) (project : Project) (b c m : List Token) (t : Token) → Nested project (b ++ t ∷ []) (suc depth) → ((k n : ℕ) → k ≤ length c → Nested project (take k c) n → n ≤ depth) → c ≡ (b ++ t ∷ []) ++ m → ⊥
not_before depth project b c m t nested none s =
    let long = length-append (b ++ t ∷ []) m in
    let total = ap length s in
    let q : b ++ t ∷ [] ≡ take (length (b ++ t ∷ [])) c = sym (front b m t) ∙ ap (take (length (b ++ t ∷ []))) (sym s) in
    let high = none (length (b ++ t ∷ [])) (suc depth) (omega arith) (subst (λ z. Nested project z (suc depth)) q nested) in
    omega arith

one_depth : (depth : ℕ) (project : Project) (tokens : List Token) (pos other : Pos) → DeepAt depth project tokens pos → DeepAt depth project tokens other → pos ≡ other
one_depth depth project tokens pos other (b, x, t, e, p, nested, none) (c, y, u, q, o, deeper, before) = go (parted b c x y t u (sym e ∙ q))
  where
    go : Parted b c t u → pos ≡ other
    go (the_same s w) = sym p ∙ ap (λ (z : Token). z.at) w ∙ o
    go (before_it m s) = absurd (not_before depth project b c m t nested before s)
    go (behind_it m s) = absurd (not_before depth project c b m u deeper none s)

never_both : (project : Project) (tokens : List Token) (end : Pos) (source : Source) (pos : Pos) → Spells project source tokens → SyntaxAt project tokens end pos → ⊥
never_both project tokens end source pos d (inl (b, x, t, e, p, begins, ends)) = ends (x, source, subst (Spells project source) (e ∙ sym (append_assoc b (t ∷ []) x)) d)
never_both project tokens end source pos d (inr (starts, none, o)) = none source d

-- A program is read to its end.
record Whole (r : Read Source) : Type 0 where
  ends : (source : Source) (rest : List Token) → r ≡ taken source rest → rest ≡ []

whole_next : {A : Type 0} {f : A → List Token → Read Source} (r : Read A) → ((a : A) (rest : List Token) → Whole (f a rest)) → Whole (next r f)
whole_next (taken a rest) each = each a rest
whole_next (wrong rest) each = record { ends = λ source left e. absurd (cc e) }
whole_next (deep rest) each = record { ends = λ source left e. absurd (cc e) }

whole_end : (source : Source) (tokens : List Token) → Whole (the_end source tokens)
whole_end source [] = record { ends = λ other rest e. cc }
whole_end source (t ∷ tokens) = record { ends = λ other rest e. absurd (cc e) }

whole_program : (project : Project) (depth : ℕ) (tokens : List Token) → Whole (program_read project depth tokens)
whole_program project depth tokens =
    whole_next (all_of (is_key Key.Var) (decl_read depth) tokens) (λ ds after_vars. whole_next (stmts_read project depth (block_of project depth) after_vars) (λ init after_init.
    whole_next (all_of begins_part (part_of project depth) after_init) (λ hs behind. whole_end (record { vars = ds; init = init; parts = hs }) behind)))

lawful : (project : Project) (depth : ℕ) → Reads project depth (program_read project depth)
lawful project depth = record {
  means = λ tokens. each_read_is_spelled project depth tokens;
  reads = λ source tokens d. each_spelled_is_read project source tokens d depth;
  stays = reading_is_local project depth;
  whole = λ tokens. (whole_program project depth tokens).ends;
  climbs = λ source tokens d. nests_climb project source tokens d;
}

-- What each answer says of the tokens
tells_tree : {project : Project} {read : List Token → Read Source} → Reads project deepest read → (tokens : List Token) (source : Source) (rest : List Token) → read tokens ≡ taken source rest → IsTreeOf project tokens source
tells_tree laws tokens source rest e = record { spelled = read_tree laws tokens source (e ∙ ap (λ z. taken source z) (laws.whole tokens source rest e)); well = not_deep laws tokens (λ other q. cc (e, q)) }

tells_syntax : {project : Project} {read : List Token → Read Source} → Reads project deepest read → (tokens : List Token) (end : Pos) (rest : List Token) → read tokens ≡ wrong rest
    → SyntaxAt project tokens end (place_of end rest) × IsNestedWell project tokens
tells_syntax laws tokens end [] e = (read_early laws tokens end e, not_deep laws tokens (λ other q. cc (e, q)))
tells_syntax laws tokens end (t ∷ rest) e = (read_syntax laws tokens end t rest e, not_deep laws tokens (λ other q. cc (e, q)))

tells_deep : {project : Project} {read : List Token → Read Source} → Reads project deepest read → (tokens : List Token) (end : Pos) (rest : List Token) → read tokens ≡ deep rest → TooDeepAt project tokens (place_of end rest)
tells_deep laws tokens end [] e = absurd (never_deep_end laws tokens e)
tells_deep laws tokens end (t ∷ rest) e = read_deep laws (omega arith) tokens t rest e

tells_one : {project : Project} {read : List Token → Read Source} → Reads project deepest read → (tokens : List Token) (end : Pos) (r : Read Source) → read tokens ≡ r
    → ((source : Source) × IsTreeOf project tokens source) ⊎ ((pos : Pos) × SyntaxAt project tokens end pos × IsNestedWell project tokens) ⊎ ((pos : Pos) × TooDeepAt project tokens pos)
tells_one laws tokens end (taken source rest) e = inl (source, tells_tree laws tokens source rest e)
tells_one laws tokens end (wrong rest) e = let s = tells_syntax laws tokens end rest e in inr (inl (place_of end rest, s.0, s.1))
tells_one laws tokens end (deep rest) e = inr (inr (place_of end rest, tells_deep laws tokens end rest e))

-- What a parse tells
pub parsed_tree : (project : Project) (tokens : List Token) (source : Source) (rest : List Token) → program_read project 64 tokens ≡ taken source rest → IsTreeOf project tokens source
parsed_tree project tokens source rest e = tells_tree (lawful project deepest) tokens source rest e

pub parsed_whole : (project : Project) (tokens : List Token) (source : Source) (rest : List Token) → program_read project 64 tokens ≡ taken source rest → rest ≡ []
parsed_whole project tokens source rest e = (lawful project deepest).whole tokens source rest e

pub parsed_syntax : (project : Project) (tokens : List Token) (end : Pos) (rest : List Token) → program_read project 64 tokens ≡ wrong rest → SyntaxAt project tokens end (place_of end rest) × IsNestedWell project tokens
parsed_syntax project tokens end rest e = tells_syntax (lawful project deepest) tokens end rest e

pub parsed_deep : (project : Project) (tokens : List Token) (end : Pos) (rest : List Token) → program_read project 64 tokens ≡ deep rest → TooDeepAt project tokens (place_of end rest)
parsed_deep project tokens end rest e = tells_deep (lawful project deepest) tokens end rest e

pub parsed_decided : (project : Project) (tokens : List Token) (end : Pos) → IsDecided project tokens end
parsed_decided project tokens end = record {
  some = tells_one (lawful project deepest) tokens end (program_read project 64 tokens) refl;
  one_tree = λ source other. one_tree project tokens source other;
  one_syntax = λ pos other. one_syntax project tokens end pos other;
  one_depth = λ pos other. one_depth deepest project tokens pos other;
  never_both = λ source pos. never_both project tokens end source pos;
}
