-- Text that is gathered on a page before it is written.
use Rattle.std.specs.Prelude.{◌≡◌, ℕ, List, ◌++◌, Option}
use Rattle.aseba_edge.specs.Sink.{Took}

-- Of what stood on a page and a text behind it, the first part was written, and the rest stands on the page now.
pub record Gathered (before : Option (List ℕ)) (page text : List ℕ) (after : Option (List ℕ)) (page' : List ℕ) : Type 0 where
  pub written : List ℕ
  pub took : Took before written after
  pub all : written ++ page' ≡ page ++ text
