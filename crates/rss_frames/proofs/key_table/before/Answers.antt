use Rattle.rss_frames.proofs.Chain.{search_begins, search_goes, search_ends}
use Rattle.rss_frames.proofs.key_table.before.Goals as goal

pub loop-at-init : goal.loop-at-init
loop-at-init c = search_begins _ _ _ _ c.requires

pub loop-at-preserved : goal.loop-at-preserved
loop-at-preserved c = (search_goes _ _ _ _ _ c.loop-at.invariant c.loop-at-test.true).0

pub loop-at-smaller : goal.loop-at-smaller
loop-at-smaller c = (search_goes _ _ _ _ _ c.loop-at.invariant c.loop-at-test.true).1

pub returns : goal.returns
returns c = search_ends _ _ _ _ _ c.loop-at.invariant c.loop-at-test.false
