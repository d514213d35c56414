-- What was read of a file, or why nothing was.
use Rattle.std.specs.Prelude.{◌≡◌, ℕ, ◌<◌, ◌≤◌, List, length, Option, None, Some, IfSome, IsSomeAnd}
use Rattle.aseba_tools.specs.declared.status.Status.{Status}
use Rattle.aseba_tools.specs.declared.status.Status.TheVariants.{Absent, ReadFault, Memory, TooBig}

-- how many bytes a text, of a source or of a project, may have, and how many a file that is dumped
abbrev pub most_text : ℕ
most_text = 1048576

abbrev pub most_dumped : ℕ
most_dumped = 67108864

-- These bytes were read: they are the file's, where the files tell what they hold under its name, and no more than may be.
pub record IsFileText (most : ℕ) (held : Option (Option (List ℕ))) (bytes : List ℕ) : Type 0 where
  pub told : IfSome held (λ h. h ≡ Some bytes)
  pub few : length bytes ≤ most

-- The file of this name wasn't read: there is none, it is longer than it may be, the read failed, or memory didn't suffice. Where the files tell what they
-- hold under the name, it is so of them.
abbrev pub NotRead : (most : ℕ) → (name : List ℕ) → Option (Option (List ℕ)) → Status → Type 0
NotRead most name held (Absent file) = (file ≡ name) × IfSome held (λ h. h ≡ None)
NotRead most name held ReadFault = Unit {0}
NotRead most name held Memory = Unit {0}
NotRead most name held (TooBig file) = (file ≡ name) × IfSome held (λ h. IsSomeAnd h (λ bytes. most < length bytes))
NotRead most name held _ = ⊥
