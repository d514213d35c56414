use Rattle.std.proofs.Common.{◌≡◌, ◌<◌, ◌≤◌, ◌∷◌, ◌++◌, [], drop, length, ℕ, List, ◌+◌, ◌-◌, sym, arith, vec_len, vec_capacity, subst}
use Rattle.aseba_edge.specs.Tape.{IsTape, pending}
use Rattle.aseba_edge.proofs.Tapes.{begun, read-IsTape, read-view}
use Rattle.aseba_edge.proofs.tape.Tape.read.Goals as goal

pub unreachable-requires : goal.unreachable-requires
unreachable-requires c =
    let tape = begun (rw c.as_slice.ensures.value at c.in-Some.ensures.some) c.self.invariant.1 in
    let room : vec_len c.self.inside.given < vec_capacity c.self.inside.given = omega (arith, c.self.invariant.0, tape.whole, tape.not_empty.0) in
    grind (arith, c.push.ensures.succeeds (omega arith), c.is_err.ensures.value, c.is_err.ensures.negation)

pub invariant_of-self-2 : goal.invariant_of-self-2
invariant_of-self-2 c =
    let is = rw c.as_slice.ensures.value at c.in-Some.ensures.some in
    let tape = begun is c.self.invariant.1 in
    let within : c.min-count.result ≤ c.in-Some.size = omega (arith, c.min-count.ensures) in
    let gave : c.push.new.self.items ≡ c.self.inside.given.items ++ c.min-count.result ∷ [] = grind (arith, c.push.ensures.items) in
    let pushed : vec_len c.push.new.self ≡ vec_len c.self.inside.given + 1 = grind (arith, c.push.ensures.len) in
    let room : vec_len c.push.new.self + (vec_len c.self.inside.bytes - (c.self.inside.at + c.min-count.result)) ≤ vec_capacity c.push.new.self =
    omega (arith, pushed, within, c.push.ensures.capacity, c.self.invariant.0, tape.whole, tape.not_empty.0, c.min-count.ensures, c.requires) in (
      room,
      subst (λ (g : List ℕ). IsTape (length c.self.inside.bytes.items) g (c.self.inside.at + c.min-count.result) (pending (c.in-Some.size - c.min-count.result) (drop c.in-Some.next c.self.inside.sizes.items))) (sym gave)
          (read-IsTape (length c.self.inside.bytes.items) c.self.inside.at c.in-Some.size c.min-count.result c.self.inside.given.items (drop c.in-Some.next c.self.inside.sizes.items) within tape),
    )

pub returns-clause-end : goal.returns-clause-end
returns-clause-end c none =
    let tape = begun (rw c.as_slice.ensures.value at c.in-Some.ensures.some) c.self.invariant.1 in
    absurd (omega (arith, tape.not_empty.0, c.min-count.ensures, c.requires))

pub returns-clause-tape : goal.returns-clause-tape
returns-clause-tape c =
    let is = rw c.as_slice.ensures.value at c.in-Some.ensures.some in
    let gave : c.push.new.self.items ≡ c.self.inside.given.items ++ c.min-count.result ∷ [] = grind (arith, c.push.ensures.items) in
    read-view _ _ _ _ _ _ _ _ _ _ _ gave c.min-count.ensures is c.self.view_is (begun is c.self.invariant.1) c.requires
