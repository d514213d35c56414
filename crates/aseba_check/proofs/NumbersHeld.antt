-- Numbers that stop at the greatest one, and what lists of elements take.
use Rattle.std.proofs.Common.{◌≡◌, refl, sym, ◌∙◌, ap, ℕ, suc, ◌+◌, ◌-◌, ◌^◌, ◌≤◌, min, max, Bool, true, false, if◌then◌else◌, ℤ, pos, negsuc, List, [], ◌∷◌, ◌++◌, length, map, arith}
use Rattle.std.specs.Prelude.{nat_eq, int_lt, ◌||◌}
use Rattle.std.proofs.lemmas.Bool.{eqb-true}
use Rattle.std.specs.List.{fold}
use Rattle.std.proofs.lemmas.List.{length-map, length-append}
use Rattle.std.proofs.lemmas.List.Sums.{sum_by-cons, sum_by-append}
use Rattle.aseba_words.specs.declared.operators.Unary.{Unary}
use Rattle.aseba_words.specs.declared.operators.Binary.{Binary}
use Rattle.aseba_tree.specs.CoreExpr.{CoreExpr, fixed, cell, indirect, prefix, infix_of}
use Rattle.aseba_tree.specs.Sizes.{is_of_one_cell}
use Rattle.aseba_tree.specs.Elements.{paired_elements}
use Rattle.aseba_tree.specs.Numbers.{greatest, number_words, words, depth, all_words, greatest_depth}
use Rattle.aseba_check.specs.declared.counting.count.Count.{Count}
use Rattle.aseba_check.specs.Places.{sum_up}
use Rattle.aseba_check.specs.Counted.{number_counted, cells_counted, index_counted, joined, prefix_counted, infix_counted}

-- a number, or the greatest one where it is greater
abbrev pub held : ℕ → ℕ
held n = min n (2 ^ 64 - 1)

pub sum-held : (a b : ℕ) → sum_up (held a) (held b) ≡ held (a + b)
sum-held a b = omega arith

pub held-small : (n : ℕ) → n ≤ 65536 → held n ≡ n
held-small n h = omega arith

-- The greatest of numbers

fold-max : (a : ℕ) (ns : List ℕ) → fold max a ns ≡ max a (greatest ns)
fold-max a [] = omega arith
fold-max a (n ∷ ns) = let p = fold-max (max a n) ns in let q = fold-max (max 0 n) ns in omega arith

pub greatest-cons : (n : ℕ) (ns : List ℕ) → greatest (n ∷ ns) ≡ max n (greatest ns)
greatest-cons n ns = let p = fold-max (max 0 n) ns in omega arith

pub depth-cons : (e : CoreExpr) (es : List CoreExpr) → greatest_depth (e ∷ es) ≡ max (depth e) (greatest_depth es)
depth-cons e es = greatest-cons (depth e) (map depth es)

pub words-cons : (e : CoreExpr) (es : List CoreExpr) → all_words (e ∷ es) ≡ words e + all_words es
words-cons e es = sum_by-cons words e es

pub depth-append : (es fs : List CoreExpr) → greatest_depth (es ++ fs) ≡ max (greatest_depth es) (greatest_depth fs)
depth-append [] fs = omega arith
depth-append (e ∷ es) fs =
    let p = depth-cons e (es ++ fs) in let q = depth-cons e es in let r = depth-append es fs in p ∙ omega arith ∙ ap (λ n. max n (greatest_depth fs)) (sym q)

pub words-append : (es fs : List CoreExpr) → all_words (es ++ fs) ≡ all_words es + all_words fs
words-append es fs = sum_by-append words es fs

-- Elements of one form

pub cells-words : (f : ℕ → ℕ) (ns : List ℕ) → all_words (map (λ n. cell (f n)) ns) ≡ length ns
cells-words f [] = refl
cells-words f (n ∷ ns) = let p = words-cons (cell (f n)) (map (λ m. cell (f m)) ns) in let q = cells-words f ns in omega arith

pub cells-depth : (f : ℕ → ℕ) (ns : List ℕ) → 1 ≤ length ns → greatest_depth (map (λ n. cell (f n)) ns) ≡ 1
cells-depth f [] h = absurd (omega arith)
cells-depth f (n ∷ []) h = refl
cells-depth f (n ∷ m ∷ ns) h = let p = depth-cons (cell (f n)) (map (λ k. cell (f k)) (m ∷ ns)) in let q = cells-depth f (m ∷ ns) (omega arith) in p ∙ ap (max 1) q

pub prefix-words : (op : Unary) (es : List CoreExpr) → all_words (map (prefix op) es) ≡ all_words es + length es
prefix-words op [] = refl
prefix-words op (e ∷ es) =
    let p = words-cons (prefix op e) (map (prefix op) es) in let q = words-cons e es in let r = prefix-words op es in p ∙ omega arith ∙ ap (λ n. n + suc (length es)) (sym q)

pub prefix-depth : (op : Unary) (es : List CoreExpr) → greatest_depth (map (prefix op) es) ≡ greatest_depth es
prefix-depth op [] = refl
prefix-depth op (e ∷ es) = depth-cons (prefix op e) (map (prefix op) es) ∙ ap (max (depth e)) (prefix-depth op es) ∙ sym (depth-cons e es)

pub paired-length : (op : Binary) (ls rs : List CoreExpr) → length ls ≡ length rs → length (paired_elements op ls rs) ≡ length ls
paired-length op [] rs e = refl
paired-length op (l ∷ ls) [] e = absurd (omega arith)
paired-length op (l ∷ ls) (r ∷ rs) e = ap suc (paired-length op ls rs (omega arith))

pub paired-words : (op : Binary) (ls rs : List CoreExpr) → length ls ≡ length rs → all_words (paired_elements op ls rs) ≡ all_words ls + all_words rs + length ls
paired-words op [] [] e = refl
paired-words op [] (r ∷ rs) e = absurd (omega arith)
paired-words op (l ∷ ls) [] e = absurd (omega arith)
paired-words op (l ∷ ls) (r ∷ rs) e =
    let p = words-cons (infix_of op l r) (paired_elements op ls rs) in
    let q = words-cons l ls in
    let s = words-cons r rs in
    let t = paired-words op ls rs (omega arith) in
    p ∙ omega arith ∙ ap (λ n. n + all_words (r ∷ rs) + suc (length ls)) (sym q)

pub paired-depth : (op : Binary) (ls rs : List CoreExpr) → length ls ≡ length rs → 1 ≤ length ls → greatest_depth (paired_elements op ls rs) ≡ max (greatest_depth ls) (1 + greatest_depth rs)
paired-depth op [] rs e h = absurd (omega arith)
paired-depth op (l ∷ ls) [] e h = absurd (omega arith)
paired-depth op (l ∷ []) (r ∷ []) e h = omega arith
paired-depth op (l ∷ []) (r ∷ s ∷ rs) e h = absurd (omega arith)
paired-depth op (l ∷ k ∷ ls) (r ∷ []) e h = absurd (omega arith)
paired-depth op (l ∷ k ∷ ls) (r ∷ s ∷ rs) e h =
    let p = depth-cons (infix_of op l r) (paired_elements op (k ∷ ls) (s ∷ rs)) in
    let q = depth-cons l (k ∷ ls) in
    let t = depth-cons r (s ∷ rs) in
    let u = paired-depth op (k ∷ ls) (s ∷ rs) (omega arith) (omega arith) in
    p ∙ ap (max (max (depth l) (1 + depth r))) u ∙ regrouped (depth l) (depth r) (greatest_depth (k ∷ ls)) (greatest_depth (s ∷ rs)) ∙ ap (λ n. max n (1 + max (depth r) (greatest_depth (s ∷ rs)))) (sym q) ∙ ap (λ n. max (greatest_depth (l ∷ k ∷ ls)) (1 + n)) (sym t)
  where
    regrouped : (a b c d : ℕ) → max (max a (1 + b)) (max c (1 + d)) ≡ max (max a c) (1 + max b d)
    regrouped a b c d = omega arith

-- What is counted

abbrev pub is_test : CoreExpr → Bool
is_test (infix_of op l r) = is_of_one_cell op
is_test _ = false

abbrev pub starts_with_test : List CoreExpr → Bool
starts_with_test [] = false
starts_with_test (e ∷ es) = is_test e

-- what elements take together, up to the greatest number
abbrev pub counted : List CoreExpr → Count
counted es = record { cells = held (length es); words = held (all_words es); depth = held (greatest_depth es); compares = starts_with_test es }

pub same-count : {a b : Count} → a.cells ≡ b.cells → a.words ≡ b.words → a.depth ≡ b.depth → a.compares ≡ b.compares → a ≡ b
same-count p q r s = λ i. record { cells = p i; words = q i; depth = r i; compares = s i }

pub number-small : (v : ℤ) → number_words v ≤ 65536
number-small v = small (int_lt v (negsuc 2047) || int_lt (pos 2047) v)
  where
    small : (b : Bool) → (if b then 2 else 1) ≤ 65536
    small true = omega arith
    small false = omega arith

pub number-is : (v : ℤ) → number_counted v ≡ counted (fixed v ∷ [])
number-is v = same-count refl (let s = number-small v in omega arith) refl refl

starts-with-cell : (f : ℕ → ℕ) (ns : List ℕ) → false ≡ starts_with_test (map (λ n. cell (f n)) ns)
starts-with-cell f [] = refl
starts-with-cell f (n ∷ ns) = refl

pub cells-are : (f : ℕ → ℕ) (ns : List ℕ) (n : ℕ) → length ns ≡ n → 1 ≤ n → n ≤ 65536 → cells_counted n ≡ counted (map (λ n. cell (f n)) ns)
cells-are f ns n e one small =
    let long = length-map ns (λ m. cell (f m)) in
    let all = cells-words f ns in
    let deep = cells-depth f ns (omega arith) in
    same-count (omega arith) (omega arith) (ap held (sym deep)) (starts-with-cell f ns)

pub index-is : (base size : ℕ) (i : CoreExpr) → index_counted (counted (i ∷ [])) ≡ counted (indirect base size i ∷ [])
index-is base size i = same-count refl (omega arith) refl refl

starts-left : (es fs : List CoreExpr) (b : Bool) → nat_eq (held (length es)) 0 ≡ b → (if b then starts_with_test fs else starts_with_test es) ≡ starts_with_test (es ++ fs)
starts-left [] fs true e = refl
starts-left [] fs false e = absurd (eqb-false-0 e)
  where
    eqb-false-0 : true ≡ false → ⊥
    eqb-false-0 q = cc
starts-left (e ∷ es) fs true q = let none = eqb-true (held (suc (length es))) 0 q in absurd (omega arith)
starts-left (e ∷ es) fs false q = refl

pub joined-is : (es fs : List CoreExpr) → joined (counted es) (counted fs) ≡ counted (es ++ fs)
joined-is es fs =
    same-count (sum-held (length es) (length fs) ∙ ap held (sym (length-append es fs))) (sum-held (all_words es) (all_words fs) ∙ ap held (sym (words-append es fs)))
    (most (greatest_depth es) (greatest_depth fs) ∙ ap held (sym (depth-append es fs))) (starts-left es fs (nat_eq (held (length es)) 0) refl)
  where
    most : (a b : ℕ) → max (held a) (held b) ≡ held (max a b)
    most a b = omega arith

starts-with-prefix : (op : Unary) (es : List CoreExpr) → false ≡ starts_with_test (map (prefix op) es)
starts-with-prefix op [] = refl
starts-with-prefix op (e ∷ es) = refl

pub prefix-is : (op : Unary) (es : List CoreExpr) → prefix_counted (counted es) ≡ counted (map (prefix op) es)
prefix-is op es =
    same-count (ap held (sym (length-map es (prefix op)))) (sum-held (all_words es) (length es) ∙ ap held (sym (prefix-words op es))) (ap held (sym (prefix-depth op es))) (starts-with-prefix op es)

starts-with-infix : (op : Binary) (ls rs : List CoreExpr) → length ls ≡ length rs → 1 ≤ length ls → is_of_one_cell op ≡ starts_with_test (paired_elements op ls rs)
starts-with-infix op [] rs e h = absurd (omega arith)
starts-with-infix op (l ∷ ls) [] e h = absurd (omega arith)
starts-with-infix op (l ∷ ls) (r ∷ rs) e h = refl

pub infix-is : (op : Binary) (ls rs : List CoreExpr) → length ls ≡ length rs → 1 ≤ length ls → infix_counted op (counted ls) (counted rs) ≡ counted (paired_elements op ls rs)
infix-is op ls rs e h =
    same-count (ap held (sym (paired-length op ls rs e)))
    (ap (λ n. sum_up n (held (length ls))) (sum-held (all_words ls) (all_words rs)) ∙ sum-held (all_words ls + all_words rs) (length ls) ∙ ap held (sym (paired-words op ls rs e)))
    (deeper (greatest_depth ls) (greatest_depth rs) ∙ ap held (sym (paired-depth op ls rs e h))) (starts-with-infix op ls rs e h)
  where
    deeper : (a b : ℕ) → max (held a) (sum_up (held b) 1) ≡ held (max a (1 + b))
    deeper a b = omega arith
