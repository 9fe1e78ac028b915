use Rattle.rss_link.proofs.Meaning.{still_spells}
use Rattle.rss_link.proofs.Others.{same_blocks}
use Rattle.rss_link.proofs.laws.other_links_stay.Goals as goal

pub returns : goal.returns
returns c = λ link other ends old new linkage others disjoint keeps spells.
    still_spells other ends old new others (same_blocks link other old new linkage others disjoint keeps) spells
