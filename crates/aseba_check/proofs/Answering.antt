-- Small steps that several answers share.
use Rattle.std.proofs.Common.{◌≡◌, ◌∙◌, ap, Option, Result, Ok, Err}
use Rattle.std.specs.Prelude.{IfOk, OnOk, option_map}
use Rattle.aseba_tree.specs.Faults as tree
use Rattle.aseba_words.specs.declared.mem.Mem.{Mem}
use Rattle.aseba_check.specs.declared.fault.Fault.{Fault}
use Rattle.aseba_check.specs.Told.{fault_view, least}

pub ok-is : (r : Result (Option Fault) Mem) (x y : Option Fault) → IfOk r (λ f. f ≡ x) → x ≡ y → IfOk r (λ f. f ≡ y)
ok-is (Ok f) x y h e = h ∙ e
ok-is (Err m) x y h e = tt

pub on-ok : {X : Type 0} (r : Result X Mem) (P Q : Type 0) → OnOk r P → (P → Q) → OnOk r Q
on-ok (Ok x) P Q h k = k h
on-ok (Err m) P Q h k = tt

pub least-eq : (a b c d : Option Fault) → a ≡ b → c ≡ d → least a c ≡ least b d
least-eq a b c d p q = ap (λ (o : Option Fault). least o c) p ∙ ap (λ (o : Option Fault). least b o) q

pub ok-tells : (r : Result (Option Fault) Mem) (x : Option Fault) (y : Option tree.Fault) → IfOk r (λ f. f ≡ x) → option_map fault_view x ≡ y → IfOk r (λ f. option_map fault_view f ≡ y)
ok-tells (Ok f) x y h e = ap (λ (o : Option Fault). option_map fault_view o) h ∙ e
ok-tells (Err m) x y h e = tt
