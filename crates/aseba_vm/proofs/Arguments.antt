-- How many arguments the natives take.
use Rattle.std.proofs.Common.{◌≡◌, ◌+◌, ◌≤◌, length, refl, arith}
use Rattle.aseba_words.specs.declared.native.Native.{Native}
use Rattle.aseba_words.specs.declared.native.Native.TheVariants.{Copy, Fill, AddScalar, Add, Sub, Mul, Div, Min, Max, Clamp, Dot, MulDiv, Stat, ArgBounds}
use Rattle.aseba_words.specs.Natives.{sizes}
use Rattle.aseba_natives.specs.Call.{arg_count}

-- each native has a template, so its call has a length
pub with-length : (native : Native) → arg_count (sizes native) ≡ length (sizes native) + 1
with-length Copy = refl
with-length Fill = refl
with-length AddScalar = refl
with-length Add = refl
with-length Sub = refl
with-length Mul = refl
with-length Div = refl
with-length Min = refl
with-length Max = refl
with-length Clamp = refl
with-length Dot = refl
with-length MulDiv = refl
with-length Stat = refl
with-length ArgBounds = refl

pub few-params : (native : Native) → length (sizes native) ≤ 4
few-params Copy = omega arith
few-params Fill = omega arith
few-params AddScalar = omega arith
few-params Add = omega arith
few-params Sub = omega arith
few-params Mul = omega arith
few-params Div = omega arith
few-params Min = omega arith
few-params Max = omega arith
few-params Clamp = omega arith
few-params Dot = omega arith
few-params MulDiv = omega arith
few-params Stat = omega arith
few-params ArgBounds = omega arith

pub ruleset arguments = (with-length, few-params)
