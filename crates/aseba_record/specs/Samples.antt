-- Recordings that were worked by hand.
use Rattle.std.specs.Prelude.{◌≡◌, ℕ, List, [], ◌∷◌, codes}
use Rattle.std.specs.Str.Lines.{lines}
use Rattle.aseba_tree.specs.declared.description.Sized.{Sized}
use Rattle.aseba_tree.specs.declared.project.Project.{Project}
use Rattle.aseba_dump.specs.declared.timed.Timed.{Timed}
use Rattle.aseba_record.specs.Texts.{record_text, old_record_text}
use Rattle.aseba_record.specs.Grammar.{Recording, IsBadLine}

abbrev event : List ℕ → ℕ → Sized
event name size = record { name = name; size = size }

-- a project whose events are `ping`, `pong` and `pair`
abbrev pub network : Project
network = record {
  node = record { name = []; code = 0; stack = 0; cells = 0; variables = []; locals = []; natives = [] };
  id = 0;
  events = event (codes "ping") 0 ∷ event (codes "pong") 0 ∷ event (codes "pair") 2 ∷ [];
  consts = [];
}

abbrev at : (time source kind : ℕ) → List ℕ → Timed
at time source kind bytes = record { time = time; frame = record { source = source; kind = kind; payload = bytes } }

-- two events of node 1 at one time; two of node 2, of which one has no name
abbrev pub ping_pong : List Timed
ping_pong = at 100 1 0 [] ∷ at 100 1 1 [] ∷ []

abbrev pub mixed : List Timed
mixed = at 5 2 2 (3 ∷ 0 ∷ 255 ∷ 255 ∷ []) ∷ at 5 2 9 [] ∷ []

pub record TextsOfBoth : Type 0 where
  pub old_ping_pong : old_record_text ping_pong ≡ codes "100 1 0000 -\n100 1 0001 -\n"
  pub ping_pong : record_text network ping_pong ≡ codes "aseba-recording 2\nevent ping 0\nevent pong 0\nevent pair 2\nframes\n100 1 ping\n100 1 pong\n"
  pub old_mixed : old_record_text mixed ≡ codes "5 2 0002 0300ffff\n5 2 0009 -\n"
  pub mixed : record_text network mixed ≡ codes "aseba-recording 2\nevent ping 0\nevent pong 0\nevent pair 2\nframes\n5 2 pair 3 -1\n5 2 9\n"

-- a last line may have no end, and a carriage return may stand before a line feed
pub record TextsThatAreRead : Type 0 where
  pub empty : Recording [] []
  pub old : Recording (codes "100 1 0000 -\r\n100 1 0001 -") ping_pong
  pub no_names : Recording (codes "aseba-recording 2\nframes\n5 2 2 3 -1\n5 2 9") mixed
  pub some_names : Recording (codes "aseba-recording 2\r\nevent a 0\nevent b 256\nevent pair 7\nframes\n5 2 pair 3 -1\n5 2 9") mixed

pub record FirstBadLines : Type 0 where
  pub falling : IsBadLine (lines (codes "5 1 0000 -\n4 1 0000 -\n")) 2
  pub numbered_name : IsBadLine (lines (codes "aseba-recording 2\nevent ping 0\nframes\n5 2 0")) 4
  pub without_frames : IsBadLine (lines (codes "aseba-recording 2\nevent ping 0\n")) 3
  pub name_twice : IsBadLine (lines (codes "aseba-recording 2\nevent a 0\nevent a 1\nframes\n")) 3
  pub keyword : IsBadLine (lines (codes "aseba-recording 2\nevent when 0\nframes\n")) 2
  pub upper_case : IsBadLine (lines (codes "5 2 0002 0300FFFF\n")) 1
  pub half_word : IsBadLine (lines (codes "5 2 0002 03\n")) 1
  pub no_event : IsBadLine (lines (codes "5 2 8000 -\n")) 1
  pub empty_line : IsBadLine (lines (codes "\n")) 1
