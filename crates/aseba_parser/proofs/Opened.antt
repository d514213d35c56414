-- What is read inside a block that its first word opens.
use Rattle.std.proofs.Common.{◌≡◌, ◌∙◌, ℕ, List, [], ◌∷◌, length, Option, Some, None, Err, refl, sym, ap, subst}
use Rattle.aseba_tree.specs.declared.token.Token.{Token}
use Rattle.aseba_tree.specs.declared.token.Key.{Key}
use Rattle.aseba_tree.specs.Code.{Project, stmt, for_do}
use Rattle.aseba_tree.specs.Spells.{place}
use Rattle.aseba_parser.specs.declared.fault.Fault.{Fault}
use Rattle.aseba_parser.specs.declared.fault.Fault.TheVariants as fault
use Rattle.aseba_parser.specs.Reading.{Read, taken, wrong, deep, next, is_key, expected, Block, block_of, Counted, head_read, for_read, stmts_read}
use Rattle.aseba_parser.specs.Reads.{Stops, Enters, block_at, fronted}
use Rattle.aseba_parser.proofs.Loops.{next-next}
use Rattle.aseba_parser.proofs.Steps.{and-then}

pub entered-as : {A : Type 0} (read : Option Block → Token → List Token → Read A) (project : Project) (depth : ℕ) (tokens : List Token) (word : Token) (rest : List Token) (inside : ℕ) → tokens ≡ word ∷ rest
    → block_of project depth ≡ Some (block_at project inside) → fronted (read (block_of project depth)) tokens ≡ read (Some (block_at project inside)) word rest
entered-as read project depth tokens word rest inside is opens = ap (λ (l : List Token). fronted (read (block_of project depth)) l) is ∙ ap (λ (b : Option Block). read b word rest) opens

none-opened : {A : Type 0} (read : Option Block → Token → List Token → Read A) (block : Option Block) (tokens rest : List Token) → ((t : Token) (l : List Token) → read None t l ≡ deep (t ∷ l)) → block ≡ None → rest ≡ tokens
    → (length tokens ≡ 0 → ⊥) → fronted (read block) tokens ≡ deep rest
none-opened read block [] rest closed none same full = absurd (full refl)
none-opened read block (t ∷ l) rest closed none same full = ap (λ (b : Option Block). read b t l) none ∙ closed t l ∙ ap (λ (z : List Token). deep z) (sym same)

pub not-entered : {A : Type 0} (read : Option Block → Token → List Token → Read A) (project : Project) (depth : ℕ) (tokens : List Token) (e : Fault) → ((t : Token) (l : List Token) → read None t l ≡ deep (t ∷ l))
    → Enters project depth tokens (Err e) → Stops (fronted (read (block_of project depth)) tokens) e
not-entered read project depth tokens (fault.Syntax rest) closed h = ap (λ (l : List Token). fronted (read (block_of project depth)) l) h.0 ∙ ap (λ (l : List Token). wrong l) (sym h.1)
not-entered read project depth tokens (fault.TooDeep rest) closed h = none-opened read (block_of project depth) tokens rest.now closed h.0 h.1 h.2
not-entered read project depth tokens fault.Mem closed h = tt

pub stops-as : {A : Type 0} (r s : Read A) (e : Fault) → r ≡ s → Stops s e → Stops r e
stops-as {A = A} r s e same h = subst (λ (q : Read A). Stops q e) (sym same) h

-- what stands behind the head of a `for`
pub for-is : (project : Project) (inside : ℕ) (word : Token) (rest : List Token) (counted : Counted) (after : List Token) → head_read (block_at project inside) rest ≡ taken counted after
    → for_read (Some (block_at project inside)) word rest ≡ next (next (expected (is_key Key.Do) after) (λ do_word inner. stmts_read project inside (block_of project inside) inner))
    (λ body last. next (expected (is_key Key.End) last) (λ end behind. taken (stmt word.at.line (place counted.variable) (for_do counted.head body)) behind))
for-is project inside word rest counted after found =
    and-then (head_read (block_at project inside) rest)
    (λ counted after. next (expected (is_key Key.Do) after) (λ do_word inner. next (stmts_read project inside (block_of project inside) inner)
    (λ body last. next (expected (is_key Key.End) last) (λ end behind. taken (stmt word.at.line (place counted.variable) (for_do counted.head body)) behind))))
    counted after _ found
    (sym (next-next (expected (is_key Key.Do) after) (λ do_word inner. stmts_read project inside (block_of project inside) inner)
    (λ body last. next (expected (is_key Key.End) last) (λ end behind. taken (stmt word.at.line (place counted.variable) (for_do counted.head body)) behind))))
