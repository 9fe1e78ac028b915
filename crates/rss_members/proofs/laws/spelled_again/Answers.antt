use Rattle.rss_members.proofs.Again.{members_again}
use Rattle.rss_members.proofs.laws.spelled_again.Goals as goal

pub returns : goal.returns
returns c = λ listing old new tables number link child ends parent list spells is kind spelled keeps stay fits.
    members_again spells number link is.at child is.within ends parent list new spelled keeps stay kind fits
