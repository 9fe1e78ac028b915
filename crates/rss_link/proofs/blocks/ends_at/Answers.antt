use Rattle.rss_link.proofs.BlockBytes.{ends_read}
use Rattle.rss_link.proofs.blocks.ends_at.Goals as goal

pub returns : goal.returns
returns c = ends_read c.args.body.now c.args.at c.pointer_at.result c.pointer_at-2.result c.pointer_at.ensures.spelled c.pointer_at-2.ensures.spelled c.pointer_at.ensures.fits c.pointer_at-2.ensures.fits
