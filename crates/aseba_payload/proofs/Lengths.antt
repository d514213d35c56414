-- How long the message of a native is.
use Rattle.std.proofs.Common.{◌≡◌, ◌+◌, List, [], ◌∷◌, ◌++◌, length, sum_by, refl, ap, ◌∙◌, append-nil, length-append, arith}
use Rattle.std.specs.List.{flat_map}
use Rattle.std.proofs.lemmas.List.Concat.{flat_map-cons}
use Rattle.std.proofs.lemmas.List.Sums.{sum_by-cons}
use Rattle.aseba_tree.specs.declared.description.Native.{Native}
use Rattle.aseba_tree.specs.declared.description.Param.{Param}
use Rattle.aseba_tree.specs.Inside.{native_message_len, param_message_len}
use Rattle.aseba_payload.specs.declared.payload.Payload.TheVariants.{NativeOf}
use Rattle.aseba_payload.specs.Layout.{text_bytes, param_bytes, params_bytes}
use Rattle.aseba_payload.specs.Rows.{bytes_of}

param-length : (p : Param) → length (param_bytes p) ≡ param_message_len p
param-length p = omega arith

list-length : (ps : List Param) → length (flat_map param_bytes ps) ≡ sum_by param_message_len ps
list-length [] = refl
list-length (p ∷ ps) =
    let split : length (flat_map param_bytes (p ∷ ps)) ≡ length (param_bytes p) + length (flat_map param_bytes ps) =
    ap length (flat_map-cons param_bytes p ps) ∙ length-append (param_bytes p) (flat_map param_bytes ps) in
    let one = param-length p in
    let more = list-length ps in
    let sum = sum_by-cons param_message_len p ps in
    omega (arith, split, one, more, sum)

pub native-length : (n : Native) → length (bytes_of (NativeOf n.name n.text n.params)) ≡ native_message_len n
native-length n =
    let name = length-append (text_bytes n.name) (text_bytes n.text ++ (params_bytes n.params ++ [])) in
    let t = length-append (text_bytes n.text) (params_bytes n.params ++ []) in
    let ps : length (params_bytes n.params ++ []) ≡ length (params_bytes n.params) = ap length (append-nil (params_bytes n.params)) in
    let list = list-length n.params in
    omega (arith, name, t, ps, list)
