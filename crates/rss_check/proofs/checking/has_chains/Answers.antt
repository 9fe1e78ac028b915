use Rattle.std.proofs.Common.{false, refl, ◌∙◌}
use Rattle.std.proofs.lemmas.Result.{IfOk-weaker}
use Rattle.rss_base.proofs.Steps.{rests}
use Rattle.rss_link.proofs.TupleSteps.{done}
use Rattle.rss_check.proofs.LookedLinks.{has_link, has_none, has_others, parent_read}
use Rattle.rss_check.proofs.checking.has_chains.Goals as goal

pub returns-then-not-has_own_ends-clause-did : goal.returns-then-not-has_own_ends-clause-did
returns-then-not-has_own_ends-clause-did g c = (0, done false (record { below = rests (g.P.Pages.view c.args.tuples.now.pages); heaps = c.requires.heaps; others = λ told segment tid off. refl }))

pub returns-clause-yes : goal.returns-clause-yes
returns-clause-yes g c = IfOk-weaker c.check.result _ _ (λ spelled yes is told link at.
    has_link c.link-link.ensures.is c.chains_of.result c.chains_of.ensures.is c.unwrap_or.result (c.unwrap_or.ensures ∙ parent_read c.link-link.result.now.parent) (c.has_own_ends.ensures.0 c.if-not-has_own_ends.false) (yes is told) link at) c.check.ensures.yes

pub returns-clause-no : goal.returns-clause-no
returns-clause-no g c = IfOk-weaker c.check.result _ _ (λ spelled no is told link at.
    has_none c.link-link.ensures.is c.chains_of.result c.chains_of.ensures.is c.unwrap_or.result (c.unwrap_or.ensures ∙ parent_read c.link-link.result.now.parent) (no is told) link at) c.check.ensures.no

pub returns-then-not-has_own_ends-clause-no : goal.returns-then-not-has_own_ends-clause-no
returns-then-not-has_own_ends-clause-no g c = λ is told link at. has_others c.link-link.ensures.is (λ own. absurd (let yes = c.has_own_ends.ensures.1 own in cc)) link at
