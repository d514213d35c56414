-- Single steps of a node.
use Rattle.std.proofs.Common.{◌≡◌, ℕ, suc, ◌+◌, ◌-◌, ◌<◌, List, [], ◌∷◌, ◌++◌, length, drop, slice_get, Option, None, Some, option_to_list, refl, sym, ap, ◌∙◌, arith}
use Rattle.aseba_message.specs.Message.{Message}
use Rattle.aseba_payload.specs.declared.payload.Payload.{Payload}
use Rattle.aseba_payload.specs.Meaning.{payload_of}
use Rattle.aseba_node.specs.NodeState.{NodeState}
use Rattle.aseba_node.specs.Delivered.{delivered, received, received_if, ran, ticked_node}

-- the oldest is taken from a queue
pub first_taken : {X : Type 0} (xs ys : List X) (first : Option X) → xs ≡ option_to_list first ++ ys → ys ≡ drop 1 xs → first ≡ slice_get xs 0
first_taken {X} xs ys (Some x) is rest = sym (ap (λ (l : List X). slice_get l 0) is)
first_taken [] ys None is rest = refl
first_taken (x ∷ xs) ys None is rest = absurd (omega (arith, ap length is, ap length rest))

-- of the ticks that are left one is done
pub ran_next : (ticks counter : ℕ) (now after : NodeState) → counter < ticks → after ≡ ticked_node now → ran (ticks - (counter + 1)) after ≡ ran (ticks - counter) now
unfolding ran
ran_next ticks counter now after less is =
    let one : ticks - counter ≡ suc (ticks - (counter + 1)) = omega arith in
    ap (ran (ticks - (counter + 1))) is ∙ sym (ap (λ (k : ℕ). ran k now) one)

-- none is left
pub ran_none : (ticks : ℕ) (now : NodeState) → ticks ≡ 0 → ran ticks now ≡ now
unfolding ran
ran_none ticks now is = ap (λ (k : ℕ). ran k now) is

-- what a message says is done
pub delivers : (m : Message) (p : Payload) (n : NodeState) → payload_of m ≡ Some p → delivered m n ≡ received m.source p n
unfolding delivered
delivers m p n is = ap (λ (said : Option Payload). received_if m.source said n) is

-- it says nothing
pub ignores : (m : Message) (n : NodeState) → payload_of m ≡ None → delivered m n ≡ n
unfolding delivered
ignores m n is = ap (λ (said : Option Payload). received_if m.source said n) is
