use Rattle.std.proofs.Common.{◌∙◌}
use Rattle.rss_members.proofs.Sums.{all_links}
use Rattle.rss_members.proofs.places.prefix_len.Goals as goal

pub returns : goal.returns
returns c = record { is = c.blocks_len.ensures.is ∙ all_links c.args.catalog.now.listing.links c.args.relation c.last_link.result c.last_link.ensures.none }
