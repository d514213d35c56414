-- Commands that were worked by hand.
use Rattle.std.specs.Prelude.{◌≡◌, ℕ, false, true, List, [], ◌∷◌, Some}
use Rattle.aseba_vm.specs.State.{State as Machine}
use Rattle.aseba_vm.specs.Loaded.{made}
use Rattle.aseba_debug.specs.declared.command.Command.TheVariants.{Set}
use Rattle.aseba_debug.specs.declared.reply.Reply.TheVariants.{Break}
use Rattle.aseba_debug.specs.Commanded.{commanded}

-- a machine whose code has 2048 words
abbrev pub robot : Machine
robot = made (record { code = 2048; cells = 34; stack = 32; id = Some 0; source = Some 1; args_at = 2; args_len = 32 }) 1

-- the breakpoints behind commands that set one at each of these addresses
abbrev pub set_in_turn : List ℕ → List ℕ → List ℕ
set_in_turn [] breaks = breaks
set_in_turn (pc ∷ later) breaks = set_in_turn later (commanded (Set pc) robot breaks).2

abbrev pub first_sixteen : List ℕ
first_sixteen = 0 ∷ 1 ∷ 2 ∷ 3 ∷ 4 ∷ 5 ∷ 6 ∷ 7 ∷ 8 ∷ 9 ∷ 10 ∷ 11 ∷ 12 ∷ 13 ∷ 14 ∷ 15 ∷ []

-- Sixteen are set, a seventeenth isn't, and to set one of them once more changes nothing.
pub record SixteenBreakpoints : Type 0 where
  pub sixteen : set_in_turn first_sixteen [] ≡ first_sixteen
  pub another : commanded (Set 16) robot first_sixteen ≡ (Break 16 false, robot, first_sixteen)
  pub again : commanded (Set 3) robot first_sixteen ≡ (Break 3 true, robot, first_sixteen)
