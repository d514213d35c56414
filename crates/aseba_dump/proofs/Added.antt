-- Fields that were added one behind the other are the text of all.
use Rattle.std.proofs.Common.{◌≡◌, ℕ, List, [], ◌∷◌, ◌++◌, map, refl, sym, ◌∙◌, ap, append_assoc, append-nil}
use Rattle.std.specs.List.{flat_map}
use Rattle.aseba_words.specs.Spelled.{blank_number}
use Rattle.aseba_dump.specs.Field.{Field, number, field_text}
use Rattle.aseba_dump.specs.Said.{Said, said_text}
use Rattle.aseba_dump.specs.Adding.{with_fields, with_said}

fields_added : (out : List ℕ) (fs : List Field) → with_fields out fs ≡ out ++ flat_map field_text fs
fields_added out [] = sym (append-nil out)
fields_added out (f ∷ fs) = fields_added (out ++ field_text f) fs ∙ append_assoc out (field_text f) (flat_map field_text fs)

pub said_added : (out : List ℕ) (s : Said) → with_said out s ≡ out ++ said_text s
said_added out s = fields_added (out ++ s.name) s.fields ∙ append_assoc out s.name (flat_map field_text s.fields)

pub numbers_added : (out ns : List ℕ) → with_fields out (map number ns) ≡ out ++ flat_map blank_number ns
numbers_added out [] = sym (append-nil out)
numbers_added out (n ∷ ns) = numbers_added (out ++ blank_number n) ns ∙ append_assoc out (blank_number n) (flat_map blank_number ns)

pub one_more : (out : List ℕ) (fs : List Field) (f : Field) → with_fields out (fs ++ f ∷ []) ≡ with_fields out fs ++ field_text f
one_more out [] f = refl
one_more out (g ∷ fs) f = one_more (out ++ field_text g) fs f
