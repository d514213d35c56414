-- A player sends its frames in order.
use Rattle.std.proofs.Common.{◌≡◌, ℕ, nat_le, Bool, true, false, List, [], ◌∷◌, ◌++◌, cond, refl, ap, ◌∙◌, append_assoc}
use Rattle.aseba_dump.specs.declared.timed.Timed.{Timed}
use Rattle.aseba_record.specs.declared.player.Next.{Next}
use Rattle.aseba_record.specs.declared.player.Next.TheVariants.{Send, Wait}
use Rattle.aseba_record.specs.Playing.{next_of, left_of, sent_by, sent_at, left_at, frames_of, SendsInOrder}

one_answer : (timed : List Timed) (now : ℕ) → sent_by (next_of timed now) ++ frames_of (left_of timed now) ≡ frames_of timed
one_answer [] now = refl
one_answer (t ∷ ts) now = by (nat_le t.time now)
  where
    by : (b : Bool) → sent_by (cond {A = Next} b (Send t.frame) (Wait t.time)) ++ frames_of (cond b ts (t ∷ ts)) ≡ t.frame ∷ frames_of ts
    by true = refl
    by false = refl

pub in_order : SendsInOrder
in_order timed [] = refl
in_order timed (now ∷ nows) =
    append_assoc (sent_by (next_of timed now)) (sent_at (left_of timed now) nows) (frames_of (left_at (left_of timed now) nows))
    ∙ ap (λ l. sent_by (next_of timed now) ++ l) (in_order (left_of timed now) nows)
    ∙ one_answer timed now
