-- Steps of reading that gave something.
use Rattle.std.proofs.Common.{◌≡◌, Bool, true, false, ◌&&◌, Option, Some, None, refl}
use Rattle.aseba_text.specs.Options.{when, ◌>>=◌}

pub when_takes : {A : Type 0} (b : Bool) (x y : A) → when b x ≡ Some y → (b ≡ true) × (x ≡ y)
when_takes true x y h = (refl, cc)
when_takes false x y h = absurd cc

pub when_true : {A : Type 0} (b : Bool) (x : A) → b ≡ true → when b x ≡ Some x
when_true true x h = refl
when_true false x h = absurd cc

pub and_takes : (a b : Bool) → (a && b) ≡ true → (a ≡ true) × (b ≡ true)
and_takes true b h = (refl, h)
and_takes false b h = absurd cc

pub and_true : (a b : Bool) → a ≡ true → b ≡ true → (a && b) ≡ true
and_true true b p q = q
and_true false b p q = absurd cc

pub bind_takes : {A B : Type 0} (r : Option A) (f : A → Option B) (y : B) → (r >>= f) ≡ Some y → (x : A) × (r ≡ Some x) × (f x ≡ Some y)
bind_takes (Some x) f y h = (x, refl, h)
bind_takes None f y h = absurd cc

pub bind_some : {A B : Type 0} (r : Option A) (f : A → Option B) (x : A) → r ≡ Some x → (r >>= f) ≡ f x
bind_some (Some z) f x h = let e : z ≡ x = cc in cc
bind_some None f x h = absurd cc

pub some_is : {A : Type 0} (x y : A) → Some x ≡ Some y → x ≡ y
some_is x y h = cc
