-- What a call asked of a dialer, and the link that it gives back.
use Rattle.std.specs.Prelude.{◌≡◌, ℕ, List, [], Option, None, Some, option_map, IfSome}
use Rattle.aseba_edge.specs.Dialer.{Dialed, after_fault, after_link}
use Rattle.aseba_edge.specs.Link.{Input, IsUnread}
use Rattle.aseba_edge.specs.declared.dialer.DialFault.TheVariants as fault
use Rattle.aseba_edge.specs.declared.poll.PollAnswer.{PollAnswer}
use Rattle.aseba_node.specs.Session.{Ends}

-- the two ends of a link as they stand: by what each is known, and what it gave and has left, or took, where that is told
pub record PolledEnd : Type 0 where
  pub mark : Option ℕ
  pub contents : Option (Input PollAnswer)

pub record OutputEnd : Type 0 where
  pub mark : Option ℕ
  pub taken : Option (List ℕ)

abbrev pub polled_end : Option ℕ → Option (Input PollAnswer) → PolledEnd
polled_end mark contents = record { mark = mark; contents = contents }

abbrev pub output_end : Option ℕ → Option (List ℕ) → OutputEnd
output_end mark taken = record { mark = mark; taken = taken }

-- a dialer before and behind a call, and the ends of a link that the call gives back
pub record Dialing : Type 0 where
  pub before : Option Dialed
  pub behind : Option Dialed
  pub polled : Option PolledEnd
  pub output : Option OutputEnd

-- nothing was asked of the dialer, and no link is given back
pub record NotDialed (d : Dialing) : Type 0 where
  pub same : d.behind ≡ d.before
  pub no_polled : d.polled ≡ None
  pub no_output : d.output ≡ None

-- the dialer was asked once, for an address, and refused
pub record IsRefused (address : List ℕ) (d : Dialing) : Type 0 where
  pub asked : d.behind ≡ option_map (after_fault address fault.Refused) d.before
  pub no_polled : d.polled ≡ None
  pub no_output : d.output ≡ None

-- The dialer was asked once, for an address, and gave a polled link of which nothing was given or taken yet. Both ends of it are given back, and this holds of
-- what they were and are.
pub record GavePolled (address : List ℕ) (d : Dialing) (P : (before after : Ends) → Type 0) : Type 0 where
  pub mark : Option ℕ
  pub asked : d.behind ≡ option_map (after_link address mark) d.before
  pub before : Ends
  pub unread : IfSome before.input IsUnread
  pub none_taken : IfSome before.taken (λ bytes. bytes ≡ [])
  pub after : Ends
  pub polled : d.polled ≡ Some (polled_end mark after.input)
  pub output : d.output ≡ Some (output_end mark after.taken)
  pub holds : P before after
