use Rattle.std.proofs.Common.{◌∙◌}
use Rattle.rss_node.specs.Nodes.{entry_at}
use Rattle.rss_image.proofs.Tested.{tid_is}
use Rattle.rss_image.proofs.fitting.keyed_at.Goals as goal

pub returns-clause-tid : goal.returns-clause-tid
returns-clause-tid c = c.spelled.ensures.same ∙ tid_is c.args.node.now.width (entry_at c.args.node.now.entries c.args.at).pair c.split_pair-key.result.0 c.split_pair-key.result.1 (c.split_pair-key.ensures.bytes ∙ c.pair.ensures.pair) (c.split_pair-key.ensures.long ∙ c.width.ensures) c.spelled.ensures.spelled
