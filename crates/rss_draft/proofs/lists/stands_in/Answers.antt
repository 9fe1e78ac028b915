use Rattle.std.proofs.Common.{◌∙◌}
use Rattle.rss_draft.proofs.InLists.{contains_is}
use Rattle.rss_draft.proofs.lists.stands_in.Goals as goal

pub returns : goal.returns
returns c = c.contains.ensures.value ∙ contains_is c.args.tid c.args.tids.now
