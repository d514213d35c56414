-- Lists of words as bytes.
use Rattle.std.proofs.Common.{◌≡◌, ℕ, suc, ◌*◌, ◌<◌, List, [], ◌∷◌, length, drop, refl, sym, ap, ◌∙◌, arith}
use Rattle.byteorder.specs.Endian.{little_number, IsRead}
use Rattle.aseba_payload.specs.Reading.{words_of}

abbrev cons : ℕ → List ℕ → List ℕ
cons x xs = x ∷ xs

-- numbers that were read one by one are the words of the bytes
pub words-read : (bytes ws : List ℕ) → length bytes ≡ 2 * length ws → IsRead little_number 2 bytes ws → words_of bytes ≡ ws
words-read [] [] len read = refl
words-read [] (w ∷ ws) len read = absurd (omega arith)
words-read (a ∷ []) [] len read = absurd (omega arith)
words-read (a ∷ []) (w ∷ ws) len read = absurd (omega arith)
words-read (a ∷ b ∷ bytes) [] len read = absurd (omega arith)
words-read (a ∷ b ∷ bytes) (w ∷ ws) len read =
    let first : w ≡ little_number 2 (a ∷ b ∷ []) = read 0 (omega arith) in
    let later : IsRead little_number 2 bytes ws =
    λ (k : ℕ) (lt : k < length ws).
    let two : 2 * suc k ≡ suc (suc (2 * k)) = omega arith in
    let h : suc k < length (w ∷ ws) = omega arith in
    read (suc k) h ∙ ap (λ (n : ℕ). little_number 2 (drop n (a ∷ b ∷ bytes))) two in
    let half : length bytes ≡ 2 * length ws = omega arith in
    ap (λ (x : ℕ). cons x (words_of bytes)) (sym first) ∙ ap (cons w) (words-read bytes ws half later)
