use Rattle.rss_link.proofs.Coming.{child_comes, parent_comes}
use Rattle.rss_link.proofs.laws.comes_outside.Goals as goal

pub returns-clause-child : goal.returns-clause-child
returns-clause-child c = λ link ends bodies linkage tid body absent named block spells. child_comes link ends bodies linkage spells tid body named absent block

pub returns-clause-parent : goal.returns-clause-parent
returns-clause-parent c = λ link ends bodies linkage tid body kind absent named block spells. parent_comes link ends bodies linkage spells tid body named kind absent block
