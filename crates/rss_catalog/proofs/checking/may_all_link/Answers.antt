-- What is said of the link at a place is said of all of them.
use Rattle.std.proofs.Common.{◌∙◌, ◌+◌, sym, refl, arith, None}
use Rattle.std.proofs.lemmas.List.{get_or_default}
use Rattle.rss_catalog.specs.Checking.{IsLinkIn}
use Rattle.rss_catalog.proofs.Numbered.{has_number}
use Rattle.rss_catalog.proofs.Tested.{each_more, each_all}
use Rattle.rss_catalog.proofs.checking.may_all_link.Goals as goal

pub loop-link-preserved : goal.loop-link-preserved
loop-link-preserved c = each_more (IsLinkIn c.args.relations.now) c.args.links.now c.loop-link.link-index _ (get_or_default c.args.links.now c.loop-link.link-index _ None c.loop-link-test.true) (c.may_link.ensures.0 c.if-not-may_link.false) c.loop-link.invariant

pub returns-then-not-may_link : goal.returns-then-not-may_link
returns-then-not-may_link c = (
  λ it. absurd (cc),
  λ all. sym c.if-not-may_link.true ∙ c.may_link.ensures.1 (λ link is. all (c.loop-link.link-index + 1) link (has_number c.args.links.now c.loop-link.link-index _ link c.loop-link-test.true is)),
)

pub returns : goal.returns
returns c = (λ it. each_all (IsLinkIn c.args.relations.now) c.args.links.now c.loop-link.link-index (omega arith) c.loop-link.invariant, λ all. refl)
