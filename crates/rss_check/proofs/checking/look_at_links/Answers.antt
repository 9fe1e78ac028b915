use Rattle.std.proofs.Common.{inl, ◌+◌, sym, ◌∙◌, subst, arith}
use Rattle.rss_base.proofs.Looking.{checks_as, passed_on}
use Rattle.rss_members.proofs.Sums.{link_used}
use Rattle.rss_check.proofs.LookedLinks.{LinksLooked, links_none, links_past, links_more, did_links, link_wrong, bad_link, checks_links, none_named}
use Rattle.rss_check.proofs.checking.look_at_links.Goals as goal
use Rattle.rss_check.proofs.checking.look_at_links.Goals.{else-used-via-then-used+in_ok-has_chains+else-not-branch, else-used-via-else-used}

pub loop-place-init : goal.loop-place-init
loop-place-init g c = links_none c.args.catalog.now c.args.wrong (g.P.Pages.view c.args.tuples.now.pages) c.requires.heaps

pub has_chains-requires-clause-listed : goal.has_chains-requires-clause-listed
has_chains-requires-clause-listed g c = sym (link_used c.args.catalog.now.listing (c.loop-place.place + 1)) ∙ sym c.used.ensures ∙ c.if-used.true

-- ---- a link that isn't right

pub returns-then-is_named-clause-first : goal.returns-then-is_named-clause-first
returns-then-is_named-clause-first g c = λ place is.
    link_wrong c.loop-place.invariant (g.met.P.Pages.holds c.args.tuples.now.pages) (g.met.P.Pages.allowed c.args.tuples.now.pages) (cc (is)) (λ told. inl (c.is_named.ensures.yes c.if-is_named.true))

pub returns-then-is_named-clause-did : goal.returns-then-is_named-clause-did
returns-then-is_named-clause-did g c = (_, checks_as _ (λ is. absurd (cc)) c.loop-place.invariant.did)

pub returns-in_err-has_chains-clause-first : goal.returns-in_err-has_chains-clause-first
returns-in_err-has_chains-clause-first g c = λ place is told.
    absurd (c.in_err-has_chains.ensures.did.1.below.sound place (passed_on _ c.from_residual.ensures.1 is) (c.loop-place.invariant.did.looks.step.passes.leaves.told.0 told))

pub returns-in_err-has_chains-clause-did : goal.returns-in_err-has_chains-clause-did
returns-in_err-has_chains-clause-did g c = did_links c.loop-place.invariant c.in_err-has_chains.ensures.did.1 _ (passed_on _ c.from_residual.ensures.1)

pub returns-then-not-branch-clause-first : goal.returns-then-not-branch-clause-first
returns-then-not-branch-clause-first g c = λ place is.
    link_wrong c.loop-place.invariant (g.met.P.Pages.holds c.args.tuples.now.pages) (g.met.P.Pages.allowed c.args.tuples.now.pages) (cc (is)) (λ told.
    bad_link c.loop-place.invariant (sym (link_used c.args.catalog.now.listing (c.loop-place.place + 1)) ∙ sym c.used.ensures ∙ c.if-used.true) (c.in_ok-has_chains.ensures.no c.if-not-branch.true told))

pub returns-then-not-branch-clause-did : goal.returns-then-not-branch-clause-did
returns-then-not-branch-clause-did g c = did_links c.loop-place.invariant c.in_ok-has_chains.ensures.did.1 _ (λ is. absurd (cc))

-- ---- one link more

pub loop-place-preserved : goal.loop-place-preserved
loop-place-preserved g c = elim c.else-used.branch [
  | else-used-via-then-used+in_ok-has_chains+else-not-branch w ↦
      subst (λ (t : _). LinksLooked c.args.catalog.now c.args.wrong (c.loop-place.place + 1) (g.P.Pages.view c.args.tuples.now.pages) (g.P.Pages.view t.pages)) (sym w.tuples-is)
      (links_more c.loop-place.invariant w.in_ok-has_chains.ensures.did.1 (c.is_named.ensures.no c.if-is_named.false) (w.in_ok-has_chains.ensures.yes w.if-not-branch.false))
  | else-used-via-else-used w ↦
      subst (λ (t : _). LinksLooked c.args.catalog.now c.args.wrong (c.loop-place.place + 1) (g.P.Pages.view c.args.tuples.now.pages) (g.P.Pages.view t.pages)) (sym w.tuples-is)
      (links_past c.loop-place.invariant (c.is_named.ensures.no c.if-is_named.false) (sym c.used.ensures ∙ w.if-used.false))
]

-- ---- they were all looked at

pub returns-clause-checks : goal.returns-clause-checks
returns-clause-checks g c = checks_links c.loop-place.invariant (λ number past. c.last_link-place-end.ensures.none number (omega (arith, past, c.loop-place-test.false)))

pub returns-clause-right : goal.returns-clause-right
returns-clause-right g c = none_named c.loop-place.invariant (λ number past. c.last_link-place-end.ensures.none number (omega (arith, past, c.loop-place-test.false)))
