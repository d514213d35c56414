-- What is read of the tokens that spell an expression, case by case of the grammar's rows.
use Rattle.std.proofs.Common.{◌≡◌, ◌∙◌, ℕ, zero, suc, ◌≤◌, Bool, true, false, List, [], ◌∷◌, ◌++◌, length, Option, Some, None, refl, sym, ap, subst, arith, append_assoc, length-append}
use Rattle.aseba_words.specs.declared.operators.Unary.{Unary}
use Rattle.aseba_words.specs.declared.operators.Binary.{Binary}
use Rattle.aseba_tree.specs.declared.token.Token.{Token}
use Rattle.aseba_tree.specs.declared.token.Sign.{Sign}
use Rattle.aseba_tree.specs.Code.{Expr, expr, two}
use Rattle.aseba_tree.specs.Spells.{place, operator, prefix_operator, level_of, prefix_level, first_of}
use Rattle.aseba_parser.specs.Reading.{Read, taken, wrong, deep, next, is_sign, many, Operation, prefix_at, is_there, goes_on, operation_by, operation, grouped, operations, unprefixed, prefixed_by, prefixed, level_read, inside_of}
use Rattle.aseba_parser.proofs.Outcome.{reply, Fits, fits_both, reply_first, reply_next, reply_made, reply_same, next_next}
use Rattle.aseba_parser.proofs.OutcomeEnds.{Ends, looser, ends_operator, infix_there, no_prefix, no_level_of_both}

-- The first token of an expression closes nothing, and is no prefix operator of a looser level.
pub record Starts (level : ℕ) (used : List Token) : Type 0 where
  pub first : Token
  pub others : List Token
  pub whole : used ≡ first ∷ others
  pub is_open : is_sign Sign.CloseParen first.kind ≡ false
  pub is_tight : (op : Unary) → prefix_operator first.kind ≡ Some op → prefix_level op ≤ level

-- The tokens are read as that expression, whatever stands behind them that doesn't go on with it.
pub record IsRead (level : ℕ) (used : List Token) (e : Expr) (ns : List ℕ) : Type 0 where
  pub fits : Fits ns used
  pub starts : Starts level used
  pub reads : (depth : ℕ) (rest : List Token) → Ends level rest → level_read (inside_of depth) level (used ++ rest) ≡ reply depth ns (used ++ rest) e

-- so many operations at most behind their first operand
abbrev pub operations_by : ℕ → ℕ → (List Token → Read Expr) → Expr → List Token → Read Expr
operations_by fuel level tighter l tokens = next (many (goes_on level) (operation level tighter) fuel tokens) (λ others behind. taken (grouped l others) behind)

-- The tokens are read as that expression, and what stands behind goes on with it.
abbrev pub GoesOn : ℕ → List Token → Expr → List ℕ → Type 0
GoesOn tighter used e ns = (depth : ℕ) (rest : List Token) → Ends tighter rest → (fuel : ℕ) × (length rest ≤ fuel)
    × (unprefixed (suc tighter) (level_read (inside_of depth) tighter) (used ++ rest) ≡ next (reply depth ns (used ++ rest) e) (λ l after. operations_by fuel (suc tighter) (level_read (inside_of depth) tighter) l after))

pub at_equal : (level same : ℕ) (used tokens : List Token) (e tree : Expr) (ns : List ℕ) → same ≡ level → tokens ≡ used → tree ≡ e → IsRead level used e ns → IsRead same tokens tree ns
at_equal level same used tokens e tree ns p q r h =
    subst (λ (l : ℕ). IsRead l tokens tree ns) (sym p) (subst (λ (ts : List Token). IsRead level ts tree ns) (sym q) (subst (λ (x : Expr). IsRead level used x ns) (sym r) h))

-- no operation follows
no_more : (tighter : List Token → Read Expr) (level : ℕ) (fuel : ℕ) (l : Expr) (rest : List Token) → Ends level rest → operations_by fuel level tighter l rest ≡ taken l rest
no_more tighter level zero l rest ends = refl
no_more tighter level (suc fuel) l [] ends = refl
no_more tighter level (suc fuel) l (t ∷ rest) ends =
    ap (λ (q : Bool). next (elim q as (λ c. Read (List Operation)) [
      | true ↦ next (operation level tighter (t ∷ rest)) (λ o after. next (many (goes_on level) (operation level tighter) fuel after) (λ others behind. taken (o ∷ others) behind))
      | false ↦ taken [] (t ∷ rest)
    ]) (λ others behind. taken (grouped l others) behind)) (ends.1 level (omega arith))

-- an expression of the tighter level
pub tighter_goes_on : (tighter : ℕ) (used : List Token) (e : Expr) (ns : List ℕ) → IsRead tighter used e ns → GoesOn tighter used e ns
tighter_goes_on tighter used e ns d depth rest ends = (
  length rest,
  omega arith,
  ap (λ (r : Read Expr). next r (λ l after. operations (suc tighter) (level_read (inside_of depth) tighter) l after)) (d.reads depth rest ends)
      ∙ reply_same depth ns used rest e (λ l after. operations (suc tighter) (level_read (inside_of depth) tighter) l after) (λ l after. operations_by (length rest) (suc tighter) (level_read (inside_of depth) tighter) l after) d.fits refl,
)

-- the answer is the same as long as nothing goes on
pub no_prefix_reads : (tighter : ℕ) (used : List Token) (e : Expr) (ns : List ℕ) → Fits ns used → (s : Starts (suc tighter) used) → prefix_at (suc tighter) s.first.kind ≡ None → GoesOn tighter used e ns
    → (depth : ℕ) (rest : List Token) → Ends (suc tighter) rest → level_read (inside_of depth) (suc tighter) (used ++ rest) ≡ reply depth ns (used ++ rest) e
no_prefix_reads tighter used e ns fits s none on depth rest ends =
    let g = on depth rest (looser tighter rest ends) in
    let behind = λ (l : Expr) (after : List Token). operations_by (g.0) (suc tighter) (level_read (inside_of depth) tighter) l after in
    ap (λ (ts : List Token). prefixed (inside_of depth) (suc tighter) (level_read (inside_of depth) tighter) (ts ++ rest)) s.whole
    ∙ ap (prefixed_by (inside_of depth) (suc tighter) (level_read (inside_of depth) tighter) s.first (s.others ++ rest)) none
    ∙ ap (λ (ts : List Token). unprefixed (suc tighter) (level_read (inside_of depth) tighter) (ts ++ rest)) (sym s.whole)
    ∙ g.2
    ∙ reply_made depth ns used rest e e behind fits (no_more (level_read (inside_of depth) tighter) (suc tighter) (g.0) e rest ends)

pub tighter_is_read : (tighter : ℕ) (used : List Token) (e : Expr) (ns : List ℕ) → IsRead tighter used e ns → IsRead (suc tighter) used e ns
tighter_is_read tighter used e ns d =
    let starts : Starts (suc tighter) used = record { first = d.starts.first; others = d.starts.others; whole = d.starts.whole; is_open = d.starts.is_open; is_tight = λ op p. let below = d.starts.is_tight op p in omega arith } in
    record {
      fits = d.fits;
      starts = starts;
      reads = no_prefix_reads tighter used e ns d.fits starts (no_prefix d.starts.first (suc tighter) (λ op p q. let below = d.starts.is_tight op p in omega arith)) (tighter_goes_on tighter used e ns d);
    }

-- one operation more
one_behind : (m : Read (List Operation)) (l made : Expr) (o : Operation) → made ≡ expr (first_of l) (place o.token) (two o.op l o.right)
    → next (next m (λ others behind. taken (o ∷ others) behind)) (λ others behind. taken (grouped l others) behind) ≡ next m (λ others behind. taken (grouped made others) behind)
one_behind (taken others rest) l made o e = ap (λ (x : Expr). taken (grouped x others) rest) (sym e)
one_behind (wrong rest) l made o e = refl
one_behind (deep rest) l made o e = refl

operation_first : (tighter : ℕ) (read : List Token → Read Expr) (fuel : ℕ) (l : Expr) (t : Token) (op : Binary) (r : Read Expr)
    → next (next (next r (λ e behind. taken (record { token = t; op = op; right = e }) behind)) (λ o after. next (many (goes_on (suc tighter)) (operation (suc tighter) read) fuel after) (λ others behind. taken (o ∷ others) behind)))
    (λ others behind. taken (grouped l others) behind)
    ≡ next r (λ e after. operations_by fuel (suc tighter) read (expr (first_of l) (place t) (two op l e)) after)
operation_first tighter read fuel l t op (taken e after) = one_behind (many (goes_on (suc tighter)) (operation (suc tighter) read) fuel after) l _ (record { token = t; op = op; right = e }) refl
operation_first tighter read fuel l t op (wrong rest) = refl
operation_first tighter read fuel l t op (deep rest) = refl

operation_behind : (tighter : ℕ) (right : List Token) (l r : Expr) (nr : List ℕ) (t : Token) (op : Binary) → operator t.kind ≡ Some op → level_of op ≡ suc tighter → IsRead tighter right r nr
    → (depth fuel : ℕ) (rest : List Token) → Ends tighter rest
    → operations_by (suc fuel) (suc tighter) (level_read (inside_of depth) tighter) l (t ∷ (right ++ rest))
    ≡ next (reply depth (0 ∷ nr) (t ∷ (right ++ rest)) (expr (first_of l) (place t) (two op l r))) (λ e after. operations_by fuel (suc tighter) (level_read (inside_of depth) tighter) e after)
operation_behind tighter right l r nr t op is_operator level dr depth fuel rest ends =
    let read = level_read (inside_of depth) tighter in
    let going = λ (e : Expr) (after : List Token). operations_by fuel (suc tighter) read e after in
    let made = λ (e : Expr). expr (first_of l) (place t) (two op l e) in
    ap (λ (o : Option Binary). next (elim (is_there o) as (λ c. Read (List Operation)) [
      | true ↦ next (operation_by read t (right ++ rest) o) (λ o after. next (many (goes_on (suc tighter)) (operation (suc tighter) read) fuel after) (λ others behind. taken (o ∷ others) behind))
      | false ↦ taken [] (t ∷ (right ++ rest))
    ]) (λ others behind. taken (grouped l others) behind)) (infix_there t op (suc tighter) is_operator level)
    ∙ operation_first tighter read fuel l t op (read (right ++ rest))
    ∙ ap (λ (x : Read Expr). next x (λ e after. going (made e) after)) (dr.reads depth rest ends)
    ∙ sym (next_next (reply depth nr (right ++ rest) r) (λ e behind. taken (made e) behind) going)
    ∙ ap (λ (x : Read Expr). next x going) (reply_made depth nr right rest r (made r) (λ e behind. taken (made e) behind) dr.fits refl ∙ sym (reply_first depth nr t (right ++ rest) (made r)))

from_left : (tighter : ℕ) (left right : List Token) (l r : Expr) (nl nr : List ℕ) (t : Token) (op : Binary) → operator t.kind ≡ Some op → level_of op ≡ suc tighter → Fits nl left → IsRead tighter right r nr
    → (depth : ℕ) (rest : List Token) → Ends tighter rest → (fuel : ℕ) → length (t ∷ (right ++ rest)) ≤ fuel
    → unprefixed (suc tighter) (level_read (inside_of depth) tighter) (left ++ t ∷ (right ++ rest))
    ≡ next (reply depth nl (left ++ t ∷ (right ++ rest)) l) (λ l after. operations_by fuel (suc tighter) (level_read (inside_of depth) tighter) l after)
    → (fuel : ℕ) × (length rest ≤ fuel) × (unprefixed (suc tighter) (level_read (inside_of depth) tighter) (left ++ t ∷ (right ++ rest))
    ≡ next (reply depth (nl ++ 0 ∷ nr) (left ++ t ∷ (right ++ rest)) (expr (first_of l) (place t) (two op l r))) (λ l after. operations_by fuel (suc tighter) (level_read (inside_of depth) tighter) l after))
from_left tighter left right l r nl nr t op is_operator level fits dr depth rest ends zero enough e = absurd (omega arith)
from_left tighter left right l r nl nr t op is_operator level fits dr depth rest ends (suc fuel) enough e =
    let read = level_read (inside_of depth) tighter in
    let going = λ (e : Expr) (after : List Token). operations_by fuel (suc tighter) read e after in
    let made = expr (first_of l) (place t) (two op l r) in
    let step = λ (a : Expr) (after : List Token). reply depth (0 ∷ nr) after made in
    let longer = length-append right rest in (
      fuel,
      omega (arith, longer, enough),
      e
          ∙ reply_same depth nl left (t ∷ (right ++ rest)) l (λ l after. operations_by (suc fuel) (suc tighter) read l after) (λ l after. next (step l after) going) fits (operation_behind tighter right l r nr t op is_operator level dr depth fuel rest ends)
          ∙ sym (next_next (reply depth nl (left ++ t ∷ (right ++ rest)) l) step going)
          ∙ ap (λ (x : Read Expr). next x going) (reply_next depth nl (0 ∷ nr) left (t ∷ (right ++ rest)) l made step fits refl),
    )

pub operation_goes_on : (tighter : ℕ) (left right : List Token) (l r : Expr) (nl nr : List ℕ) (t : Token) (op : Binary) → operator t.kind ≡ Some op → level_of op ≡ suc tighter
    → Fits nl left → GoesOn tighter left l nl → IsRead tighter right r nr → GoesOn tighter (left ++ t ∷ right) (expr (first_of l) (place t) (two op l r)) (nl ++ 0 ∷ nr)
operation_goes_on tighter left right l r nl nr t op is_operator level fits dl dr depth rest ends =
    let g = dl depth (t ∷ (right ++ rest)) (ends_operator t (right ++ rest) op tighter is_operator level) in
    let h = from_left tighter left right l r nl nr t op is_operator level fits dr depth rest ends (g.0) (g.1) (g.2) in
    let made = expr (first_of l) (place t) (two op l r) in (
      h.0,
      h.1,
      subst (λ (ts : List Token). unprefixed (suc tighter) (level_read (inside_of depth) tighter) ts ≡ next (reply depth (nl ++ 0 ∷ nr) ts made) (λ l after. operations_by (h.0) (suc tighter) (level_read (inside_of depth) tighter) l after))
          (sym (append_assoc left (t ∷ right) rest)) (h.2),
    )

pub operation_is_read : (tighter : ℕ) (left right : List Token) (l r : Expr) (nl nr : List ℕ) (t : Token) (op : Binary) → operator t.kind ≡ Some op → level_of op ≡ suc tighter
    → IsRead (suc tighter) left l nl → GoesOn tighter left l nl → IsRead tighter right r nr → IsRead (suc tighter) (left ++ t ∷ right) (expr (first_of l) (place t) (two op l r)) (nl ++ 0 ∷ nr)
operation_is_read tighter left right l r nl nr t op is_operator level dl on dr =
    let fits : Fits (nl ++ 0 ∷ nr) (left ++ t ∷ right) = fits_both nl (0 ∷ nr) left (t ∷ right) dl.fits dr.fits in
    let starts : Starts (suc tighter) (left ++ t ∷ right) = record { first = dl.starts.first; others = dl.starts.others ++ t ∷ right; whole = ap (λ (ts : List Token). ts ++ t ∷ right) dl.starts.whole; is_open = dl.starts.is_open; is_tight = dl.starts.is_tight } in
    record {
      fits = fits;
      starts = starts;
      reads = no_prefix_reads tighter (left ++ t ∷ right) (expr (first_of l) (place t) (two op l r)) (nl ++ 0 ∷ nr) fits starts (no_prefix dl.starts.first (suc tighter) (λ u p q. no_level_of_both op u (level ∙ sym q)))
          (operation_goes_on tighter left right l r nl nr t op is_operator level dl.fits on dr);
    }
