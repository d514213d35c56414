-- What is said of an answer.
use Rattle.std.proofs.Common.{◌≡◌, sym, subst, Result, Ok, Err, OnOk, OnErr, IfErr}

pub on_err : {T E : Type 0} (r : Result T E) (P : Type 0) → P → OnErr r P
on_err (Ok x) P p = tt
on_err (Err e) P p = p

-- an error with this property is answered
pub if_err_is : {T E : Type 0} (P : E → Type 0) (r : Result T E) (e cause : E) → r ≡ Err e → e ≡ cause → P cause → IfErr r P
if_err_is {T} {E} P r e cause is same p = subst (λ (s : Result T E). IfErr s P) (sym is) (subst P (sym same) p)

pub on_ok_both : {T E P Q R : Type 0} (r : Result T E) → (P → Q → R) → OnOk r P → OnOk r Q → OnOk r R
on_ok_both (Ok x) f p q = f p q
on_ok_both (Err e) f p q = tt

pub if_err_both : {T E P : Type 0} {Q R : E → Type 0} (r : Result T E) → ((e : E) → P → Q e → R e) → OnErr r P → IfErr r Q → IfErr r R
if_err_both (Ok x) f p q = tt
if_err_both (Err e) f p q = f e p q
