use Rattle.std.proofs.Common.{inl, inr, refl}
use Rattle.rss_model.proofs.LogLists.{false_true}
use Rattle.rss_members.proofs.finding.lesser_of.Goals as goal

pub returns-then-is_less : goal.returns-then-is_less
returns-then-is_less c = rw c.in-Some.is (inl (c.is_less.ensures.0 c.if-is_less.true, refl))

pub returns-else-is_less : goal.returns-else-is_less
returns-else-is_less c = rw c.in-Some.is (inr ((λ less. false_true (c.is_less.ensures.1 less) c.if-is_less.false), refl))
