use Rattle.std.proofs.Common.{sym, ◌∙◌}
use Rattle.std.proofs.lemmas.Result.{on_ok_weaker}
use Rattle.rss_base.specs.Listings.{link_at}
use Rattle.rss_base.specs.declared.place.Place.TheVariants.{Link as LinkPlace}
use Rattle.rss_catalog.proofs.Numbered.{used_has}
use Rattle.rss_link.specs.Blocks.{kept_ends}
use Rattle.rss_link.proofs.TupleSteps.{stepped, told_then, heaps_then}
use Rattle.rss_members.specs.Calls.{both, Relinks}
use Rattle.rss_members.proofs.Finished.{test_fails, refuses, link_fails, finishes, never_by, passed_on, not_told}
use Rattle.rss_members.proofs.Joined.{may_connect, connected_members, connected_ends}
use Rattle.rss_members.proofs.Later.{spells_then, knows_then}
use Rattle.rss_members.proofs.Sums.{link_used}
use Rattle.rss_members.proofs.changing.connect.Goals as goal

pub returns-in_err-can_connect-clause-relinks : goal.returns-in_err-can_connect-clause-relinks
returns-in_err-can_connect-clause-relinks g c = passed_on (Relinks c.args.membership.link _ _) _ c.from_residual.ensures.1
    (test_fails c.args.membership.link (g.T.Tuples.view c.args.tuples.now) (g.T.Tuples.view c.can_connect.new.tuples) c.args.catalog.now _ c.in_err-can_connect.ensures.did)

pub misplaced-requires : goal.misplaced-requires
misplaced-requires g c = sym (link_used c.args.catalog.now.listing c.args.membership.link) ∙ sym c.used.ensures ∙ c.if-not-used.false

pub link-requires : goal.link-requires
link-requires g c = sym (link_used c.args.catalog.now.listing c.args.membership.link) ∙ sym c.used.ensures ∙ c.if-not-used.false

pub returns-then-not-branch-clause-relinks : goal.returns-then-not-branch-clause-relinks
returns-then-not-branch-clause-relinks g c =
    let there = used_has (link_at c.args.catalog.now.listing c.args.membership.link) (sym (link_used c.args.catalog.now.listing c.args.membership.link) ∙ sym c.used.ensures ∙ c.if-not-used.false) in
    refuses c.args.membership.link (g.T.Tuples.view c.args.tuples.now) (g.T.Tuples.view c.can_connect.new.tuples) c.args.catalog.now _ _ (c.misplaced.ensures there.0 there.1) (stepped c.in_ok-can_connect.ensures.did)

pub connect-requires : goal.connect-requires
connect-requires g c =
    let step = stepped c.in_ok-can_connect.ensures.did in
    may_connect (both (g.T.Tuples.view c.can_connect.new.tuples) c.args.catalog.now) c.args.membership c.chains_of.result c.chains_of.ensures.is c.ends_of-ends.result c.link.result.now c.link.ensures.is c.ends_of-ends.ensures
    c.chains_of.ensures.segments (c.in_ok-can_connect.ensures.form c.if-not-branch.false) (heaps_then step)
    (knows_then step c.args.catalog.now c.requires.knows (λ told tables spells. (c.in_ok-can_connect.ensures.can told tables spells).0 c.if-not-branch.false))

pub returns-in_err-connect-clause-relinks : goal.returns-in_err-connect-clause-relinks
returns-in_err-connect-clause-relinks g c = passed_on (Relinks c.args.membership.link _ _) _ c.from_residual-in_err-connect.ensures.1
    (link_fails c.args.membership.link (g.T.Tuples.view c.args.tuples.now) (g.T.Tuples.view c.can_connect.new.tuples) c.args.catalog.now (g.T.Tuples.view c.connect.new.tuples) c.chains_of.result c.link.result.now c.link.ensures.is (c.chains_of.ensures.is c.link.result.now c.link.ensures.is)
    (stepped c.in_ok-can_connect.ensures.did) _ c.in_err-connect.ensures.did)

pub returns-clause-connects : goal.returns-clause-connects
returns-clause-connects g c =
    let step = stepped c.in_ok-can_connect.ensures.did in
    on_ok_weaker c.set_ends.result (λ sets told tables spells.
    let can = (c.in_ok-can_connect.ensures.can told tables spells).0 c.if-not-branch.false in
    record {
      can = can;
      spells = connected_members (both (g.T.Tuples.view c.can_connect.new.tuples) c.args.catalog.now) c.args.membership c.chains_of.result c.chains_of.ensures.is c.ends_of-ends.result c.link.result.now c.link.ensures.is c.ends_of-ends.ensures
          c.connect.new.ends (g.T.Tuples.view c.connect.new.tuples) c.in_ok-connect.ensures.room c.in_ok-connect.ensures.connects (told_then step told) (spells_then step c.args.catalog.now told spells) can _ sets;
    }) c.set_ends.ensures.sets

pub returns-clause-none : goal.returns-clause-none
returns-clause-none g c = λ place is told tables spells can. not_told is
    (never_by c.set_ends.result c.set_ends.ensures.unspelled (λ told. c.requires.knows told) (λ told k.
    let step = stepped c.in_ok-can_connect.ensures.did in
    connected_ends (both (g.T.Tuples.view c.can_connect.new.tuples) c.args.catalog.now) c.args.membership c.chains_of.result c.chains_of.ensures.is c.ends_of-ends.result c.link.result.now c.link.ensures.is c.ends_of-ends.ensures
    c.connect.new.ends (g.T.Tuples.view c.connect.new.tuples) c.in_ok-connect.ensures.room c.in_ok-connect.ensures.connects (told_then step told) (spells_then step c.args.catalog.now told k.1)
    ((c.in_ok-can_connect.ensures.can told k.0 k.1).0 c.if-not-branch.false))) told

pub returns-clause-relinks : goal.returns-clause-relinks
returns-clause-relinks g c =
    let step = stepped c.in_ok-can_connect.ensures.did in
    finishes c.args.membership.link (g.T.Tuples.view c.args.tuples.now) (g.T.Tuples.view c.can_connect.new.tuples) c.args.catalog.now (g.T.Tuples.view c.connect.new.tuples) c.chains_of.result c.link.result.now c.link.ensures.is (c.chains_of.ensures.is c.link.result.now c.link.ensures.is)
    step _ (kept_ends c.connect.new.ends) (LinkPlace c.args.membership.link) c.set_ends.result (stepped c.in_ok-connect.ensures.did) c.in_ok-connect.ensures.room.takes c.set_ends.ensures.sets c.set_ends.ensures.kept c.set_ends.ensures.fault
    (never_by c.set_ends.result c.set_ends.ensures.unspelled (λ told. c.requires.knows told) (λ told k.
    connected_ends (both (g.T.Tuples.view c.can_connect.new.tuples) c.args.catalog.now) c.args.membership c.chains_of.result c.chains_of.ensures.is c.ends_of-ends.result c.link.result.now c.link.ensures.is c.ends_of-ends.ensures
    c.connect.new.ends (g.T.Tuples.view c.connect.new.tuples) c.in_ok-connect.ensures.room c.in_ok-connect.ensures.connects (told_then step told) (spells_then step c.args.catalog.now told k.1)
    ((c.in_ok-can_connect.ensures.can told k.0 k.1).0 c.if-not-branch.false)))
