use Rattle.std.proofs.Common.{refl, Some}
use Rattle.rss_line.specs.Owners.{any_spots}
use Rattle.rss_line.proofs.Combining.{none_some, no_word, not_word, is_first, is_second, reads_found, then_word}
use Rattle.rss_line.proofs.Choosing.{not_row, with_first}
use Rattle.rss_line.proofs.Skipped.{any_tid_plain, any_tid_low, needs_any_place}
use Rattle.rss_line.proofs.reader.Reader.any_place.Goals as goal

pub returns-in_err-word-clause-reads : goal.returns-in_err-word-clause-reads
returns-in_err-word-clause-reads c = no_word needs_any_place _ c.in_err-word.ensures.reads c.from_residual.ensures.1

pub returns-in-Some-clause-reads : goal.returns-in-Some-clause-reads
returns-in-Some-clause-reads c = is_second _ (λ words x has form. not_row any_spots refl c.in_ok-word.ensures.reads (any_tid_low _ tt c.in-Some.ensures.some) words x has form)
    (then_word _ (reads_found any_tid_plain (Some tt) tt refl c.in_ok-word.ensures.reads c.in-Some.ensures) c.any_spot.ensures.reads)

pub returns-in-None-clause-reads : goal.returns-in-None-clause-reads
returns-in-None-clause-reads c = is_first _ (not_word _ any_tid_plain c.in_ok-word.ensures.reads (λ y is. none_some (c.in-None.ensures.all y is)))
    (with_first any_spots refl _ c.in_ok-word.ensures.reads c.any_spot_behind.ensures.reads)
