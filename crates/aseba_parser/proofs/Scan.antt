-- The nest of each token, from the tokens alone: a scan from token to token that keeps what is open.
use Rattle.std.proofs.Common.{◌≡◌, ◌∙◌, ℕ, zero, suc, ◌+◌, ◌≤◌, Bool, true, false, if◌then◌else◌, nat_le, List, [], ◌∷◌, ◌++◌, map, Option, Some, None, refl, sym, ap, subst, arith, append_assoc}
use Rattle.std.proofs.lemmas.Bool.{le-leb}
use Rattle.std.proofs.lemmas.List.{map-append}
use Rattle.aseba_words.specs.declared.operators.Unary.{Unary}
use Rattle.aseba_words.specs.declared.operators.Binary.{Binary}
use Rattle.aseba_tree.specs.declared.token.Token.{Token}
use Rattle.aseba_tree.specs.declared.token.TokenKind.{TokenKind}
use Rattle.aseba_tree.specs.declared.token.Key.{Key}
use Rattle.aseba_tree.specs.declared.token.Sign.{Sign}
use Rattle.aseba_tree.specs.Spells.{operator, prefix_operator, level_of, prefix_level}
use Rattle.aseba_tree.specs.Nest.{inside, enclosed}

-- What is open: the operand of a prefix operator of a level, a bracket, or a block with a number of `elseif`s.
pub data Frame : Type 0 where
  operand : ℕ → Frame
  bracket : Frame
  block : ℕ → Frame

-- what may come next: an operand or a statement; what goes on behind an operand; or a name that is no operand
pub data Mode : Type 0 where
  expecting : Mode
  going_on : Mode
  naming : Mode

pub record Stand : Type 0 where
  pub mode : Mode
  pub frames : List Frame

abbrev pub before_operand : List Frame → Stand
before_operand fs = record { mode = expecting; frames = fs }

abbrev pub behind_operand : List Frame → Stand
behind_operand fs = record { mode = going_on; frames = fs }

abbrev pub before_name : List Frame → Stand
before_name fs = record { mode = naming; frames = fs }

abbrev pub with_more : ℕ → ℕ → ℕ
with_more zero d = d
with_more (suc n) d = suc (with_more n d)

-- how many levels are open
abbrev pub depth : List Frame → ℕ
depth [] = 0
depth (operand l ∷ fs) = suc (depth fs)
depth (bracket ∷ fs) = suc (depth fs)
depth (block n ∷ fs) = suc (with_more n (depth fs))

-- the operands that an operator of a level ends
abbrev pub close : ℕ → List Frame → List Frame
close m [] = []
close m (operand l ∷ fs) = if nat_le l m then close m fs else operand l ∷ fs
close m (bracket ∷ fs) = bracket ∷ fs
close m (block n ∷ fs) = block n ∷ fs

abbrev pub without_bracket : List Frame → ℕ × Stand
without_bracket (bracket ∷ fs) = (suc (depth fs), behind_operand fs)
without_bracket fs = (depth fs, behind_operand fs)

abbrev pub without_block : List Frame → ℕ × Stand
without_block (block n ∷ fs) = (suc (depth fs), before_operand fs)
without_block fs = (depth fs, before_operand fs)

abbrev pub with_elseif : List Frame → ℕ × Stand
with_elseif (block n ∷ fs) = (suc (suc (with_more n (depth fs))), before_operand (block (suc n) ∷ fs))
with_elseif fs = (depth fs, before_operand fs)

-- a token that doesn't go on with an operand
abbrev pub plain : List Frame → TokenKind → ℕ × Stand
plain fs (TokenKind.Key Key.If) = (suc (depth fs), before_operand (block 0 ∷ fs))
plain fs (TokenKind.Key Key.When) = (suc (depth fs), before_operand (block 0 ∷ fs))
plain fs (TokenKind.Key Key.While) = (suc (depth fs), before_operand (block 0 ∷ fs))
plain fs (TokenKind.Key Key.For) = (suc (depth fs), before_name (block 0 ∷ fs))
plain fs (TokenKind.Key Key.ElseIf) = with_elseif fs
plain fs (TokenKind.Key Key.End) = without_block fs
plain fs (TokenKind.Key Key.Emit) = (depth fs, before_name fs)
plain fs (TokenKind.Key Key.CallSub) = (depth fs, before_name fs)
plain fs (TokenKind.Key Key.Call) = (depth fs, before_name fs)
plain fs (TokenKind.Key Key.OnEvent) = (depth fs, before_name fs)
plain fs (TokenKind.Key Key.Sub) = (depth fs, before_name fs)
plain fs (TokenKind.Key Key.Var) = (depth fs, before_name fs)
plain fs (TokenKind.Sign Sign.OpenParen) = (suc (depth fs), before_operand (bracket ∷ fs))
plain fs (TokenKind.Sign Sign.OpenBracket) = (suc (depth fs), before_operand (bracket ∷ fs))
plain fs (TokenKind.Sign Sign.CloseParen) = without_bracket fs
plain fs (TokenKind.Sign Sign.CloseBracket) = without_bracket fs
plain fs (TokenKind.Name name) = (depth fs, behind_operand fs)
plain fs (TokenKind.Number v) = (depth fs, behind_operand fs)
plain fs _ = (depth fs, before_operand fs)

abbrev pub expected_by : List Frame → TokenKind → Option Unary → ℕ × Stand
expected_by fs kind (Some op) = (suc (depth fs), before_operand (operand (prefix_level op) ∷ fs))
expected_by fs kind None = plain fs kind

-- a bracket behind an operand is its index; anything else ends it
abbrev pub indexed : List Frame → TokenKind → ℕ × Stand
indexed fs (TokenKind.Sign Sign.OpenBracket) = (suc (depth fs), before_operand (bracket ∷ fs))
indexed fs kind = plain (close 11 fs) kind

abbrev pub going_by : List Frame → TokenKind → Option Binary → ℕ × Stand
going_by fs kind (Some op) = (depth (close (level_of op) fs), before_operand (close (level_of op) fs))
going_by fs kind None = indexed fs kind

-- the nest of a token, and where the scan stands behind it
abbrev pub step_by : Mode → List Frame → TokenKind → ℕ × Stand
step_by expecting fs kind = expected_by fs kind (prefix_operator kind)
step_by going_on fs kind = going_by fs kind (operator kind)
step_by naming fs kind = (depth fs, before_operand fs)

abbrev pub step : Stand → TokenKind → ℕ × Stand
step s kind = step_by s.mode s.frames kind

abbrev pub scan : Stand → List Token → List ℕ
scan s [] = []
scan s (t ∷ ts) = (step s t.kind).0 ∷ scan (step s t.kind).1 ts

-- nests so much deeper
abbrev pub deeper : ℕ → List ℕ → List ℕ
deeper d [] = []
deeper d (n ∷ ns) = (d + n) ∷ deeper d ns

deeper-append : (d : ℕ) (ns ms : List ℕ) → deeper d (ns ++ ms) ≡ deeper d ns ++ deeper d ms
deeper-append d [] ms = refl
deeper-append d (n ∷ ns) ms = ap (λ xs. (d + n) ∷ xs) (deeper-append d ns ms)

deeper-inside : (d : ℕ) (ns : List ℕ) → deeper d (inside ns) ≡ deeper (suc d) ns
deeper-inside d [] = refl
deeper-inside d (n ∷ ns) = let e : d + suc n ≡ suc d + n = omega arith in ap (λ k. k ∷ deeper d (inside ns)) e ∙ ap (λ xs. (suc d + n) ∷ xs) (deeper-inside d ns)

pub deeper-none : (ns : List ℕ) → deeper 0 ns ≡ ns
deeper-none [] = refl
deeper-none (n ∷ ns) = let e : 0 + n ≡ n = omega arith in ap (λ k. k ∷ deeper 0 ns) e ∙ ap (λ xs. n ∷ xs) (deeper-none ns)

-- Tokens are scanned from one stand to another, with these nests as seen from a depth.
pub record Scans (d : ℕ) (s : Stand) (tokens : List Token) (ns : List ℕ) (e : Stand) : Type 0 where
  pub runs : (rest : List Token) → scan s (tokens ++ rest) ≡ deeper d ns ++ scan e rest

pub scans-none : (d : ℕ) (s : Stand) (tokens : List Token) → tokens ≡ [] → Scans d s tokens [] s
scans-none d s tokens all = record { runs = λ rest. ap (λ (ts : List Token). scan s (ts ++ rest)) all }

one-step : (s : Stand) (t : Token) (n : ℕ) (u : Stand) (ts : List Token) → step s t.kind ≡ (n, u) → scan s (t ∷ ts) ≡ n ∷ scan u ts
one-step s t n u ts e = ap (λ (p : ℕ × Stand). p.0 ∷ scan p.1 ts) e

pub scans-first : {d : ℕ} {s u e : Stand} {t : Token} {tokens : List Token} {ns : List ℕ} → step s t.kind ≡ (d, u) → Scans d u tokens ns e → Scans d s (t ∷ tokens) (0 ∷ ns) e
scans-first {d} {s} {u} {e} {t} {tokens} {ns} at more = record {
  runs = λ rest. one-step s t d u (tokens ++ rest) at ∙ (let z : d ≡ d + 0 = omega arith in ap (λ k. k ∷ scan u (tokens ++ rest)) z) ∙ ap (λ xs. (d + 0) ∷ xs) (more.runs rest);
}

pub scans-one : {d : ℕ} {s u : Stand} {t : Token} → step s t.kind ≡ (d, u) → Scans d s (t ∷ []) (0 ∷ []) u
scans-one {d} {s} {u} {t} at = scans-first at (scans-none d u [] refl)

pub scans-both : {d : ℕ} {s u e : Stand} {left right : List Token} {ns ms : List ℕ} → Scans d s left ns u → Scans d u right ms e → Scans d s (left ++ right) (ns ++ ms) e
scans-both {d} {s} {u} {e} {left} {right} {ns} {ms} first second = record {
  runs = λ rest. ap (scan s) (append_assoc left right rest) ∙ first.runs (right ++ rest) ∙ ap (λ xs. deeper d ns ++ xs) (second.runs rest)
      ∙ sym (append_assoc (deeper d ns) (deeper d ms) (scan e rest)) ∙ ap (λ xs. xs ++ scan e rest) (sym (deeper-append d ns ms));
}

pub scans-inside : {d : ℕ} {s e : Stand} {tokens : List Token} {ns : List ℕ} → Scans (suc d) s tokens ns e → Scans d s tokens (inside ns) e
scans-inside {d} {s} {e} {tokens} {ns} all = record { runs = λ rest. all.runs rest ∙ ap (λ xs. xs ++ scan e rest) (sym (deeper-inside d ns)) }

-- an opening token, what it encloses, and the closing one
pub scans-enclosed : {d : ℕ} {s u v e : Stand} {opening : Token} {inner : List Token} {ns : List ℕ} (closing : Token) → step s opening.kind ≡ (suc d, u) → Scans (suc d) u inner ns v → step v closing.kind ≡ (suc d, e)
    → Scans d s (opening ∷ (inner ++ closing ∷ [])) (enclosed ns) e
scans-enclosed closing first inner last = scans-inside (scans-first first (scans-both inner (scans-one last)))

pub scans-of : {d : ℕ} {s e : Stand} {tokens others : List Token} {ns : List ℕ} → tokens ≡ others → Scans d s others ns e → Scans d s tokens ns e
scans-of {d} {s} {e} {tokens} {others} {ns} all scans = subst (λ (ts : List Token). Scans d s ts ns e) (sym all) scans

pub scans-to : {d : ℕ} {s e f : Stand} {tokens : List Token} {ns : List ℕ} → e ≡ f → Scans d s tokens ns e → Scans d s tokens ns f
scans-to {d} {s} {e} {f} {tokens} {ns} same scans = subst (λ (x : Stand). Scans d s tokens ns x) same scans

-- Operands that are open behind an expression

abbrev pub opened : List ℕ → List Frame → List Frame
opened [] fs = fs
opened (l ∷ ls) fs = operand l ∷ opened ls fs

abbrev pub Below : ℕ → List ℕ → Type 0
Below m [] = Unit {0}
Below m (l ∷ ls) = (l ≤ m) × Below m ls

pub below-more : (l m : ℕ) (ls : List ℕ) → l ≤ m → Below l ls → Below m ls
below-more l m [] h b = tt
below-more l m (k ∷ ls) h b = (omega (arith, b.0), below-more l m ls h b.1)

pub below-last : (m l : ℕ) (ls : List ℕ) → Below m ls → l ≤ m → Below m (ls ++ l ∷ [])
below-last m l [] b h = (h, tt)
below-last m l (k ∷ ls) b h = (b.0, below-last m l ls b.1 h)

pub opened-last : (ls : List ℕ) (l : ℕ) (fs : List Frame) → opened (ls ++ l ∷ []) fs ≡ opened ls (operand l ∷ fs)
opened-last [] l fs = refl
opened-last (k ∷ ls) l fs = ap (λ gs. operand k ∷ gs) (opened-last ls l fs)

pub closes : (m : ℕ) (ls : List ℕ) (fs : List Frame) → Below m ls → close m fs ≡ fs → close m (opened ls fs) ≡ fs
closes m [] fs b same = same
closes m (l ∷ ls) fs b same = ap (λ (c : Bool). if c then close m (opened ls fs) else operand l ∷ opened ls fs) (le-leb l m b.0) ∙ closes m ls fs b.1 same
