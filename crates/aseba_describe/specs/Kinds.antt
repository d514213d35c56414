-- The order of the kinds of lines.
use Rattle.std.specs.Prelude.{ℕ, Bool, nat_le, ◌&&◌}
use Rattle.aseba_describe.specs.declared.kind.Kind.{Kind}
use Rattle.aseba_describe.specs.declared.kind.Kind.TheVariants as kind

-- how many kinds come before one
abbrev pub rank_of : Kind → ℕ
rank_of kind.Node = 0
rank_of kind.Code = 1
rank_of kind.Vars = 2
rank_of kind.Stack = 3
rank_of kind.Id = 4
rank_of kind.Variable = 5
rank_of kind.Local = 6
rank_of kind.Native = 7
rank_of kind.Event = 8
rank_of kind.Const = 9

-- Where no needed line is missing, the kinds come next that may be missing or stand more than once.
abbrev pub is_whole : Kind → Bool
is_whole next = nat_le 5 (rank_of next)

-- A line of such a kind follows its own kind, and those before it.
abbrev pub may_follow : Kind → Kind → Bool
may_follow next this = is_whole next && nat_le (rank_of next) (rank_of this)
