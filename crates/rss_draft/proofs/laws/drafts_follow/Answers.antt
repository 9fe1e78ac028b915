use Rattle.rss_draft.proofs.Following.{drafts_begin, tuples_follow, chains_follow, drafts_tell_tables}
use Rattle.rss_draft.proofs.laws.drafts_follow.Goals as goal

pub returns-clause-begin : goal.returns-clause-begin
returns-clause-begin g = drafts_begin

pub returns-clause-tuples : goal.returns-clause-tuples
returns-clause-tuples g = tuples_follow

pub returns-clause-chains : goal.returns-clause-chains
returns-clause-chains g = chains_follow

pub returns-clause-tell : goal.returns-clause-tell
returns-clause-tell g = drafts_tell_tables
