use Rattle.std.proofs.Common.{◌∙◌, map, string_bytes}
use Rattle.clap.specs.Words.{app_of, found_of, rows_of}
use Rattle.aseba_tools.specs.Words.{word_view}
use Rattle.aseba_tools.proofs.WordsFound.{is_taken, not_taken}
use Rattle.aseba_tools.proofs.words.find.Goals as goal

pub returns-in-Ok-try_get_matches_from-clause-read : goal.returns-in-Ok-try_get_matches_from-clause-read
returns-in-Ok-try_get_matches_from-clause-read c =
    is_taken (map word_view c.args.wanted.now) (map string_bytes c.args.given.now) (app_of c.in-Ok.command) (rows_of (found_of c.in-Ok-try_get_matches_from.matches)) c.requires c.in-Ok.ensures
    c.in-Ok-try_get_matches_from.ensures.kinds (λ simple. (c.in-Ok-try_get_matches_from.ensures.matches simple).0)

pub returns : goal.returns
returns c = record {
  read = tt;
  unread = not_taken (map word_view c.args.wanted.now) (map string_bytes c.args.given.now) (app_of c.in-Ok.command) c.in-Err-try_get_matches_from.error c.requires c.in-Ok.ensures
      c.in-Err-try_get_matches_from.ensures.kinds (λ memory. c.in_default.not-OutOfMemory (c.kind.ensures ∙ memory));
}
