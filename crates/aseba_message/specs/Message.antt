-- What a frame says.
use Rattle.std.specs.Prelude.{ℕ, List, refl}
use Rattle.std.specs.Coded.{Coded, code_by, coded×, coded_ℕ, coded_list}

-- who sent it, what kind it is, and the bytes that it carries
pub record Message : Type 0 where
  pub source : ℕ
  pub kind : ℕ
  pub payload : List ℕ

-- a message is stored as the tuple of its fields
abbrev pub message_code : Coded Message
message_code =
    code_by (ℕ × (ℕ × List ℕ)) (coded× coded_ℕ (coded× coded_ℕ (coded_list coded_ℕ)))
    (λ m. (m.source, (m.kind, m.payload))) (λ p. record { source = p.0; kind = p.1.0; payload = p.1.1 }) (λ _. refl)
