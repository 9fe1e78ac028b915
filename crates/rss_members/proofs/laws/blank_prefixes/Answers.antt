use Rattle.rss_members.proofs.Prefixed.{long_prefix, long_blank}
use Rattle.rss_members.proofs.laws.blank_prefixes.Goals as goal

pub returns-clause-long : goal.returns-clause-long
returns-clause-long c = λ listing contents number tid. long_prefix contents number tid listing.links

pub returns-clause-blank_long : goal.returns-clause-blank_long
returns-clause-blank_long c = λ listing number. long_blank number listing.links
