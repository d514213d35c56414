-- Parameters read one behind the other.
use Rattle.std.proofs.Common.{◌≡◌, ℕ, zero, suc, List, [], ◌∷◌, ◌++◌, Option, Some, None, refl, sym, ◌∙◌, ap, append_assoc, append-nil, ◌<◌, ◌≤◌, ◌-◌, arith}
use Rattle.std.specs.Option.{option_map}
use Rattle.aseba_tree.specs.declared.description.Param.{Param}
use Rattle.aseba_describe.specs.declared.fault.LineFault.{LineFault}
use Rattle.aseba_describe.specs.declared.fault.LineFault.TheVariants as fault
use Rattle.aseba_describe.specs.Reading.{Fails, next_of, params_of, params_with}
use Rattle.aseba_text.specs.Options.{◌>>=◌}
use Rattle.aseba_text.proofs.Options.{bind_some}

abbrev pub with_front : List Param → Option (List Param × List ℕ) → Option (List Param × List ℕ)
with_front front read = option_map (λ x. (front ++ x.0, x.1)) read

pub ends : (room : ℕ) (ps : List Param) (rest behind : List ℕ) → next_of room rest ≡ Some (None, behind)
    → with_front ps (params_of (suc room) rest) ≡ Some (ps, behind)
unfolding params_of
ends room ps rest behind e = ap (with_front ps) (bind_some _ _ _ e) ∙ ap (λ l. Some (l, behind)) (append-nil ps)

pub fails : (room : ℕ) (ps : List Param) (rest : List ℕ) → next_of room rest ≡ None
    → with_front ps (params_of (suc room) rest) ≡ None
unfolding params_of
fails room ps rest e = ap (λ r. with_front ps (r >>= λ n. params_with (params_of room) n.0 n.1)) e

front : (ps : List Param) (p : Param) (read : Option (List Param × List ℕ))
    → with_front ps (read >>= λ x. Some (p ∷ x.0, x.1)) ≡ with_front (ps ++ p ∷ []) read
front ps p None = refl
front ps p (Some x) = ap (λ l. Some (l, x.1)) (sym (append_assoc ps (p ∷ []) x.0))

pub goes_on : (room : ℕ) (ps : List Param) (p : Param) (rest behind : List ℕ) → next_of room rest ≡ Some (Some p, behind)
    → with_front ps (params_of (suc room) rest) ≡ with_front (ps ++ p ∷ []) (params_of room behind)
unfolding params_of
goes_on room ps p rest behind e = ap (with_front ps) (bind_some _ _ _ e) ∙ front ps p (params_of room behind)

-- The same for a loop that counts the room down, where all that is read is known from its start.
pub room_ends : (room : ℕ) (ps : List Param) (rest behind : List ℕ) (whole : Option (List Param × List ℕ)) → 0 < room
    → next_of (room - 1) rest ≡ Some (None, behind) → with_front ps (params_of room rest) ≡ whole → whole ≡ Some (ps, behind)
room_ends zero ps rest behind whole lt e so_far = absurd (omega arith)
room_ends (suc k) ps rest behind whole lt e so_far =
    let d : suc k - 1 ≡ k = omega arith in
    sym so_far ∙ ends k ps rest behind (ap (λ j. next_of j rest) (sym d) ∙ e)

pub room_fails : (f : LineFault) (room : ℕ) (ps : List Param) (rest : List ℕ) (whole : Option (List Param × List ℕ)) → 0 < room
    → Fails f (next_of (room - 1) rest) → with_front ps (params_of room rest) ≡ whole → Fails f whole
room_fails fault.Mem room ps rest whole lt e so_far = tt
room_fails fault.Bad zero ps rest whole lt e so_far = absurd (omega arith)
room_fails fault.Bad (suc k) ps rest whole lt e so_far =
    let d : suc k - 1 ≡ k = omega arith in
    sym so_far ∙ fails k ps rest (ap (λ j. next_of j rest) (sym d) ∙ e)

pub room_goes : (room : ℕ) (ps : List Param) (p : Param) (rest behind : List ℕ) (whole : Option (List Param × List ℕ)) → 0 < room
    → next_of (room - 1) rest ≡ Some (Some p, behind) → with_front ps (params_of room rest) ≡ whole
    → with_front (ps ++ p ∷ []) (params_of (room - 1) behind) ≡ whole
room_goes zero ps p rest behind whole lt e so_far = absurd (omega arith)
room_goes (suc k) ps p rest behind whole lt e so_far =
    let d : suc k - 1 ≡ k = omega arith in
    ap (λ j. with_front (ps ++ p ∷ []) (params_of j behind)) d ∙ sym (goes_on k ps p rest behind (ap (λ j. next_of j rest) (sym d) ∙ e)) ∙ so_far

pub room_done : (room : ℕ) (ps : List Param) (rest : List ℕ) (whole : Option (List Param × List ℕ)) → room ≤ 0
    → with_front ps (params_of room rest) ≡ whole → whole ≡ None
unfolding params_of
room_done zero ps rest whole le so_far = sym so_far
room_done (suc k) ps rest whole le so_far = absurd (omega arith)
