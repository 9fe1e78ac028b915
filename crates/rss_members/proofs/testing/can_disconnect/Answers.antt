use Rattle.std.proofs.Common.{sym, ◌∙◌, arith}
use Rattle.rss_base.specs.Listings.{link_at}
use Rattle.rss_base.specs.declared.relation.RelationEntry.{RelationEntry}
use Rattle.rss_base.specs.declared.link.LinkEntry.{LinkEntry}
use Rattle.rss_stored.specs.Store.{IsListedLink}
use Rattle.rss_model.proofs.LogLists.{false_true, some_of}
use Rattle.rss_members.specs.Calls.{both}
use Rattle.rss_link.proofs.TupleSteps.{stepped, then, then_call, done, fails, told_then, told_before, within}
use Rattle.rss_members.proofs.Defined.{child_listed}
use Rattle.rss_members.proofs.Found.{below_of, there_in, within_of, place_is}
use Rattle.rss_members.proofs.Later.{relink_then, spells_then, spells_before}
use Rattle.rss_members.proofs.testing.can_disconnect.Goals as goal

pub returns-then-not-branch-clause-can : goal.returns-then-not-branch-clause-can
returns-then-not-branch-clause-can g c = λ told tables spells. (
  (λ yes. absurd (cc (yes))),
  (λ can. false_true (there_in spells c.args.membership.link can.link can.child can.listed c.args.membership.parent c.args.membership.child can.place.stands)
      (sym (c.in_ok-is_there.ensures.finds told tables can.child spells (within_of c.args.catalog.now.listing c.args.membership.link c.link.result.now can.link can.child c.link.ensures.is can.listed)) ∙ c.if-not-branch.true)),
)

pub place_of-requires : goal.place_of-requires
place_of-requires g c =
    let step = stepped c.in_ok-is_there.ensures.did in
    let may = relink_then step c.args.catalog.now c.requires.may in
    below_of (both (g.T.Tuples.view c.is_there.new.tuples) c.args.catalog.now) c.args.membership.link c.requires.listed may.heaps may.knows c.args.membership.child
    (λ told tables link child spells listed.
    sym (c.in_ok-is_there.ensures.finds (told_before step told) tables child (spells_before step c.args.catalog.now (told_before step told) spells) (within_of c.args.catalog.now.listing c.args.membership.link c.link.result.now link child c.link.ensures.is listed)) ∙ c.if-not-branch.false)

pub returns-in_err-place-clause-did : goal.returns-in_err-place-clause-did
returns-in_err-place-clause-did g c = fails _ c.from_residual-in_err-place.ensures.1 (λ key none. absurd none) (omega arith) (then_call _ (stepped c.in_ok-is_there.ensures.did) c.in_err-place.ensures.did)

pub returns-clause-can : goal.returns-clause-can
returns-clause-can g c = λ told tables spells.
    let step = stepped c.in_ok-is_there.ensures.did in
    let here = λ (link : LinkEntry) (child : RelationEntry) (listed : IsListedLink c.args.catalog.now.listing c.args.membership.link link child). place_is spells c.args.membership.link link child listed c.args.membership c.in_ok-place.place c.is_right_there.result
    (c.in_ok-place.ensures.finds (told_then step told) tables link child (spells_then step c.args.catalog.now told spells) listed
    (sym (c.in_ok-is_there.ensures.finds told tables child spells (within_of c.args.catalog.now.listing c.args.membership.link c.link.result.now link child c.link.ensures.is listed)) ∙ c.if-not-branch.false)) c.is_right_there.ensures in (
      (λ yes.
          let link = some_of (link_at c.args.catalog.now.listing c.args.membership.link) c.requires.listed in
          let child = child_listed spells c.args.membership.link link.0 link.1 in
          record { link = link.0; child = child.0; listed = child.1; place = (here link.0 child.0 child.1).0 yes }),
      (λ can. (here can.link can.child can.listed).1 can.place),
    )

pub returns-clause-did : goal.returns-clause-did
returns-clause-did g c = done _ (within (λ key none. absurd none) (λ segment tid none. absurd none) (omega arith) (then (stepped c.in_ok-is_there.ensures.did) (stepped c.in_ok-place.ensures.did)))
