-- What a dialer was asked for, and what it gave.
use Rattle.std.specs.Prelude.{◌≡◌, ℕ, Bool, true, false, List, [], ◌∷◌, ◌++◌, if◌then◌else◌, Option, None, Some, Result, Ok, Err, IfSome}
use Rattle.aseba_edge.specs.declared.dialer.DialFault.{DialFault}
use Rattle.aseba_edge.specs.declared.dialer.DialFault.TheVariants.{Refused, Mem}
use Rattle.aseba_edge.specs.Link.{Input, IsUnread}

-- a dialer as it stands: the addresses that it was asked for, and the marks of the links that it gave, each in order
pub record Dialed : Type 0 where
  pub asked : List (List ℕ)
  pub gave : List (Option ℕ)

-- a link was given for an address
abbrev pub after_link : List ℕ → Option ℕ → Dialed → Dialed
after_link address mark dialed = record { asked = dialed.asked ++ address ∷ []; gave = dialed.gave ++ mark ∷ [] }

-- a dial that gave no link: one that was refused was asked for, one for which memory didn't suffice left no trace
abbrev pub after_fault : List ℕ → DialFault → Dialed → Dialed
after_fault address Refused dialed = record dialed { asked = dialed.asked ++ address ∷ [] }
after_fault address Mem dialed = dialed

-- the answer that counts as a fault
abbrev pub is_refused : {T : Type 0} → Result T DialFault → Bool
is_refused (Ok _) = false
is_refused (Err Refused) = true
is_refused (Err Mem) = false

-- the two links of a pair are fresh: no call of theirs has failed, nothing was given or taken, and their marks are the same
pub record IsFresh {Answer : Type 0} (input_faults : ℕ) (contents : Option (Input Answer)) (input_mark : Option ℕ)
    (output_faults : ℕ) (taken : Option (List ℕ)) (output_mark : Option ℕ) : Type 0 where
  pub no_fault_of_input : input_faults ≡ 0
  pub unread : IfSome contents IsUnread
  pub no_fault_of_output : output_faults ≡ 0
  pub none_taken : IfSome taken (λ bytes. bytes ≡ [])
  pub same_mark : input_mark ≡ output_mark

-- the link that a dial is due to give: the first that is left, none where the dial is to fail
abbrev pub due : {Link : Type 0} → Bool → List Link → Option Link
due fails [] = None
due fails (link ∷ later) = if fails then None else Some link
