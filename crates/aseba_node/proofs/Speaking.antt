-- What a node has said is written frame by frame.
use Rattle.std.proofs.Common.{◌≡◌, ℕ, List, [], ◌∷◌, ◌++◌, length, drop, slice_get, Option, None, Some, refl, sym, ap, ◌∙◌, subst, append-nil, append_assoc}
use Rattle.std.specs.List.{flat_map}
use Rattle.std.proofs.lemmas.List.Concat.{flat_map-cons}
use Rattle.aseba_edge.specs.Sink.{Took, TookFirst}
use Rattle.aseba_edge.proofs.Puts.{first_after, first_of_more, took_after, took_empty}
use Rattle.aseba_message.specs.Message.{Message}
use Rattle.aseba_message.specs.Frames.{spelling}
use Rattle.aseba_node.specs.NodeState.{NodeState}
use Rattle.aseba_node.specs.Session.{quiet}

some_same : {A : Type 0} {x y : A} → Some x ≡ Some y → x ≡ y
some_same e = cc

-- the oldest frame, and then the others
first_spelled : (xs : List Message) (m : Message) → Some m ≡ slice_get xs 0 → spelling m ++ flat_map spelling (drop 1 xs) ≡ flat_map spelling xs
first_spelled [] m is = absurd cc
first_spelled (x ∷ xs) m is = ap (λ (y : Message). spelling y ++ flat_map spelling xs) (some_same is) ∙ sym (flat_map-cons spelling x xs)

none_left : (xs : List Message) → None ≡ slice_get xs 0 → xs ≡ []
none_left [] is = refl
none_left (x ∷ xs) is = absurd cc

-- The oldest frames were written, and with those that wait they are all.
pub record Speaking (start : NodeState) (before : Option (List ℕ)) (now : NodeState) (taken : Option (List ℕ)) : Type 0 where
  pub text : List ℕ
  pub took : Took before text taken
  pub rest : text ++ flat_map spelling now.waiting ≡ flat_map spelling start.waiting
  pub same : quiet now ≡ quiet start

pub speaking_begins : (start : NodeState) (before : Option (List ℕ)) → Speaking start before start before
speaking_begins start before = record { text = []; took = took_empty before; rest = refl; same = refl }

module _ {start : NodeState} {before : Option (List ℕ)} {now : NodeState} {taken : Option (List ℕ)} (s : Speaking start before now taken)
    {next : NodeState} (is_next : next ≡ record now { waiting = drop 1 now.waiting }) where
  waits : next.waiting ≡ drop 1 now.waiting
  waits = ap (λ (n : NodeState). n.waiting) is_next

  still : quiet next ≡ quiet start
  still = ap quiet is_next ∙ s.same

  -- no frame was left
  pub speaking_done : None ≡ slice_get now.waiting 0 → Took before (flat_map spelling start.waiting) taken × (next ≡ quiet start)
  speaking_done none =
      let empty : now.waiting ≡ [] = none_left now.waiting none in
      let all : s.text ≡ flat_map spelling start.waiting =
      sym (append-nil s.text) ∙ ap (λ (w : List Message). s.text ++ flat_map spelling w) (sym empty) ∙ s.rest in (
        subst (λ (t : List ℕ). Took before t taken) all s.took,
        is_next ∙ ap (λ (w : List Message). record now { waiting = drop 1 w }) empty ∙ s.same,
      )

  -- the oldest was next
  module _ (m : Message) (is : Some m ≡ slice_get now.waiting 0) where
    later : (s.text ++ spelling m) ++ flat_map spelling (drop 1 now.waiting) ≡ flat_map spelling start.waiting
    later =
        append_assoc s.text (spelling m) (flat_map spelling (drop 1 now.waiting))
        ∙ ap (λ (t : List ℕ). s.text ++ t) (first_spelled now.waiting m is) ∙ s.rest

    pub speaking_goes_on : {after : Option (List ℕ)} → Took taken (spelling m) after → Speaking start before next after
    speaking_goes_on {after} took =
        record {
          text = s.text ++ spelling m;
          took = took_after before taken after s.text (spelling m) s.took took;
          rest = ap (λ (w : List Message). (s.text ++ spelling m) ++ flat_map spelling w) waits ∙ later;
          same = still;
        }

    -- and wasn't written whole
    pub speaking_cut : {after : Option (List ℕ)} → TookFirst taken (spelling m) after → TookFirst before (flat_map spelling start.waiting) after
    speaking_cut {after} first =
        subst (λ (t : List ℕ). TookFirst before t after) later
        (first_of_more before (s.text ++ spelling m) (flat_map spelling (drop 1 now.waiting)) after
        (first_after before taken after s.text (spelling m) s.took first))
