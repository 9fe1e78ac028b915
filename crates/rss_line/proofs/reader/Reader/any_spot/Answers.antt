use Rattle.std.proofs.Common.{refl}
use Rattle.rss_line.specs.Owners.{any_spots}
use Rattle.rss_line.proofs.Choosing.{no_first, with_first}
use Rattle.rss_line.proofs.reader.Reader.any_spot.Goals as goal

pub returns-in_err-word-clause-reads : goal.returns-in_err-word-clause-reads
returns-in_err-word-clause-reads c = no_first any_spots refl _ c.in_err-word.ensures.reads c.from_residual.ensures.1

pub returns-clause-reads : goal.returns-clause-reads
returns-clause-reads c = with_first any_spots refl _ c.in_ok-word.ensures.reads c.any_spot_behind.ensures.reads
