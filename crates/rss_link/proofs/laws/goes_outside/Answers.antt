use Rattle.rss_link.proofs.Coming.{child_goes, parent_goes}
use Rattle.rss_link.proofs.laws.goes_outside.Goals as goal

pub returns-clause-child : goal.returns-clause-child
returns-clause-child c = λ link ends bodies linkage tid is_child outside spells. child_goes link ends bodies linkage spells tid is_child outside

pub returns-clause-parent : goal.returns-clause-parent
returns-clause-parent c = λ link ends bodies linkage tid kind is_parent empty spells. parent_goes link ends bodies linkage spells tid kind is_parent empty
