-- What a node says fits into a frame.
use Rattle.std.proofs.Common.{◌≡◌, ℕ, ◌+◌, ◌*◌, ◌<◌, ◌≤◌, List, [], ◌∷◌, ◌++◌, length, map, get_or, take, drop, All, ℤ, refl, ap, sym, subst, ◌∙◌, length-append, length-take, append-nil, arith}
use Rattle.std.specs.List.{AllByRecursion, flat_map}
use Rattle.std.specs.Int.{cast_unsigned, w16}
use Rattle.std.proofs.lemmas.List.{length-map}
use Rattle.std.proofs.lemmas.List.Concat.{flat_map-cons}
use Rattle.std.proofs.lemmas.List.Elements.{All-head, All-tail, All-get_or}
use Rattle.aseba_tree.specs.declared.description.Sized.{Sized}
use Rattle.aseba_tree.specs.declared.description.Local.{Local}
use Rattle.aseba_tree.specs.declared.description.Native.{Native}
use Rattle.aseba_tree.specs.declared.description.Param.{Param}
use Rattle.aseba_tree.specs.Inside.{IsShort, InsideParam, InsideSized, InsideLocal, InsideNative}
use Rattle.aseba_vm.specs.Sending.{SendsInside}
use Rattle.aseba_vm.specs.declared.tick.Tick.TheVariants.{Sent}
use Rattle.aseba_vm.specs.declared.tick.Notice.{Notice}
use Rattle.aseba_vm.specs.declared.tick.Notice.TheVariants.{Emit, Bounds, Division, NodeError}
use Rattle.aseba_vm.specs.declared.tick.NodeFault.{NodeFault}
use Rattle.aseba_vm.specs.declared.tick.NodeFault.TheVariants.{Stack, Address, Word, Native as NoNative, Code}
use Rattle.aseba_payload.specs.declared.payload.Payload.TheVariants.{User, Describe, Variable, LocalEvent, NativeOf, Variables, BoundsAt, DivisionAt, KilledAt, ErrorAt, State, BreakSet, Present}
use Rattle.aseba_payload.specs.Layout.{word_bytes, text_bytes, HasShortName}
use Rattle.aseba_payload.proofs.Lengths.{native-length}
use Rattle.aseba_node.specs.CanSay.{CanSay}
use Rattle.aseba_node.specs.Told.{notice_of, words_of, fault_text}

pub can_state : (pc flags : ℕ) → CanSay (State pc flags)
can_state pc flags = record { kind = tt; texts = tt; room = omega arith }

pub can_killed : (pc : ℕ) → CanSay (KilledAt pc)
can_killed pc = record { kind = tt; texts = tt; room = omega arith }

pub can_division : (pc : ℕ) → CanSay (DivisionAt pc)
can_division pc = record { kind = tt; texts = tt; room = omega arith }

pub can_bounds : (pc size index : ℕ) → CanSay (BoundsAt pc size index)
can_bounds pc size index = record { kind = tt; texts = tt; room = omega arith }

pub can_break : (pc result : ℕ) → CanSay (BreakSet pc result)
can_break pc result = record { kind = tt; texts = tt; room = omega arith }

pub can_present : (version : ℕ) → CanSay (Present version)
can_present version = record { kind = tt; texts = tt; room = omega arith }

pub can_error : (pc : ℕ) (text : List ℕ) → IsShort text → CanSay (ErrorAt pc text)
can_error pc text short = record { kind = tt; texts = (short, tt); room = omega (arith, short, length-append text []) }

-- words take two bytes each
pub words-length : (ws : List ℕ) → length (flat_map word_bytes ws) ≡ 2 * length ws
words-length [] = refl
words-length (w ∷ ws) =
    let twice : length (flat_map word_bytes (w ∷ ws)) ≡ 2 + length (flat_map word_bytes ws) = ap length (flat_map-cons word_bytes w ws) ∙ length-append (word_bytes w) (flat_map word_bytes ws) in
    omega (arith, twice, words-length ws)

pub can_event : (event : ℕ) (ws : List ℕ) → event < 4096 → length ws ≤ 256 → CanSay (User event ws)
can_event event ws small few = record { kind = omega arith; texts = tt; room = omega (arith, words-length ws, few) }

pub can_variables : (start : ℕ) (ws : List ℕ) → length ws ≤ 255 → CanSay (Variables start ws)
can_variables start ws few = record { kind = tt; texts = tt; room = omega (arith, words-length ws, few) }

pub can_describe : (name : List ℕ) (version code stack cells variables locals natives : ℕ) → IsShort name → CanSay (Describe name version code stack cells variables locals natives)
can_describe name version code stack cells variables locals natives short =
    let rest : List ℕ = word_bytes version ++ (word_bytes code ++ (word_bytes stack ++ (word_bytes cells ++ (word_bytes variables ++ (word_bytes locals ++ (word_bytes natives ++ [])))))) in
    record { kind = tt; texts = (short, tt); room = omega (arith, short, length-append name rest) }

pub can_variable : (size : ℕ) (name : List ℕ) → IsShort name → CanSay (Variable size name)
can_variable size name short = record { kind = tt; texts = (short, tt); room = omega (arith, short, length-append name []) }

pub can_local : (name text : List ℕ) → IsShort name → IsShort text → CanSay (LocalEvent name text)
can_local name text short_name short_text =
    record { kind = tt; texts = (short_name, (short_text, tt)); room = omega (arith, short_name, short_text, length-append name (text_bytes text ++ []), length-append text []) }

names-short : (ps : List Param) → All InsideParam ps → AllByRecursion HasShortName ps
names-short [] all = tt
names-short (p ∷ ps) all = ((All-head InsideParam p ps all).name, names-short ps (All-tail InsideParam p ps all))

pub can_native : (n : Native) → InsideNative n → CanSay (NativeOf n.name n.text n.params)
can_native n inside =
    record {
      kind = tt;
      texts = (inside.name, (inside.text, (names-short n.params inside.params.each, tt)));
      room = omega (arith, native-length n, inside.message);
    }

fault-short : (fault : NodeFault) → IsShort (fault_text fault)
fault-short Stack = omega arith
fault-short Address = omega arith
fault-short Word = omega arith
fault-short NoNative = omega arith
fault-short Code = omega arith

-- what a machine sends
pub can_notice : (cells : List ℤ) (notice : Notice) → SendsInside (length cells) (Sent notice) → CanSay (notice_of cells notice)
can_notice cells (Emit event start len) sends =
    let sent : List ℤ = take len (drop start cells) in
    can_event event (words_of sent) sends.number (omega (arith, sends.short, length-map sent (cast_unsigned w16), length-take len (drop start cells)))
can_notice cells (Bounds pc size index) sends = can_bounds pc size (cast_unsigned w16 index)
can_notice cells (Division pc) sends = can_division pc
can_notice cells (NodeError pc fault) sends = can_error pc (fault_text fault) (fault-short fault)

-- Parts of a description, each with the name that was copied from it.
module _ {X : Type 0} (P : X → Type 0) (xs : List X) (i : ℕ) (x : X) (all : All P xs) (less : i < length xs) (is : x ≡ get_or xs i x) where
  pub inside_at : P x
  inside_at = subst P (sym is) (All-get_or P xs i x less all)

pub say_variable : (v : Sized) (name : List ℕ) → InsideSized 1 4096 v → name ≡ v.name → CanSay (Variable v.size name)
say_variable v name inside is = can_variable v.size name (subst IsShort (sym is) inside.name)

pub say_local : (l : Local) (name text : List ℕ) → InsideLocal l → name ≡ l.name → text ≡ l.text → CanSay (LocalEvent name text)
say_local l name text inside is_name is_text = can_local name text (subst IsShort (sym is_name) inside.name) (subst IsShort (sym is_text) inside.text)

pub say_native : (n copy : Native) → InsideNative n → copy ≡ n → CanSay (NativeOf copy.name copy.text copy.params)
say_native n copy inside is = can_native copy (subst InsideNative (sym is) inside)

-- a run of cells
pub say_run : (at count : ℕ) (cells : List ℤ) (words : List ℕ) → count ≤ 255 → words ≡ words_of (take count cells) → CanSay (Variables at words)
say_run at count cells words few is =
    can_variables at words (omega (arith, ap length is, length-map (take count cells) (cast_unsigned w16), length-take count cells, few))
