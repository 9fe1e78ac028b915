use Rattle.std.proofs.Common.{refl}
use Rattle.rss_model.specs.Forms.{spots}
use Rattle.rss_line.proofs.Choosing.{no_first, with_first}
use Rattle.rss_line.proofs.reader.Reader.spot.Goals as goal

pub returns-in_err-word-clause-reads : goal.returns-in_err-word-clause-reads
returns-in_err-word-clause-reads c = no_first (spots c.args.names.now.variables) refl _ c.in_err-word.ensures.reads c.from_residual.ensures.1

pub returns-clause-reads : goal.returns-clause-reads
returns-clause-reads c = with_first (spots c.args.names.now.variables) refl _ c.in_ok-word.ensures.reads c.spot_behind.ensures.reads
