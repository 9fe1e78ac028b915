use Rattle.std.proofs.Common.{List, ℕ, subst}
use Rattle.rss_line.specs.Reads.{ReadsWords}
use Rattle.rss_line.specs.Owners.{HasOwner}
use Rattle.rss_line.proofs.Owned.{owner_owned, owner_only}
use Rattle.rss_line.proofs.owning.owner.Goals as goal

pub returns-clause-owned : goal.returns-clause-owned
returns-clause-owned c = owner_owned c.owner.result c.ok.ensures.value c.if-line-gt-LINE_LIMIT.false
    (subst (λ (l : List ℕ). ReadsWords HasOwner l c.owner.result) c.new.ensures c.owner.ensures.reads)

pub returns-clause-only : goal.returns-clause-only
returns-clause-only c = owner_only c.owner.result c.ok.ensures.value c.owner.ensures.memory
    (subst (λ (l : List ℕ). ReadsWords HasOwner l c.owner.result) c.new.ensures c.owner.ensures.reads)
