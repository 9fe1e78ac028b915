use Rattle.std.proofs.Common.{arith}
use Rattle.std.proofs.lemmas.Result.{IfOk-weaker}
use Rattle.rss_base.specs.Listings.{link_at}
use Rattle.rss_model.proofs.LogLists.{false_true, some_of}
use Rattle.rss_link.proofs.TupleSteps.{stepped, then, then_call, done, fails, told_then, within, widens}
use Rattle.rss_members.proofs.Defined.{child_listed}
use Rattle.rss_members.proofs.Later.{relink_then, spells_then}
use Rattle.rss_members.proofs.testing.can_connect.Goals as goal

pub returns-then-not-branch-clause-can : goal.returns-then-not-branch-clause-can
returns-then-not-branch-clause-can g c = λ told tables spells. (
  (λ yes. absurd (cc (yes))),
  (λ can. false_true ((c.in_ok-has_parent.ensures.has told tables can.link can.child spells can.listed).1 can.under) c.if-not-branch.true),
)

pub returns-then-not-branch-2-clause-can : goal.returns-then-not-branch-2-clause-can
returns-then-not-branch-2-clause-can g c = λ told tables spells.
    let step = stepped c.in_ok-has_parent.ensures.did in (
      (λ yes. absurd (cc (yes))),
      (λ can. false_true ((c.in_ok-is_free.ensures.is (told_then step told) tables can.link can.child (spells_then step c.args.catalog.now told spells) can.listed).1 (record { there = can.there; outside = can.outside })) c.if-not-branch-2.true),
    )

pub is_free-requires-clause-may : goal.is_free-requires-clause-may
is_free-requires-clause-may g c = relink_then (stepped c.in_ok-has_parent.ensures.did) c.args.catalog.now c.requires.may

pub has_left-requires : goal.has_left-requires
has_left-requires g c =
    let may = relink_then (then (stepped c.in_ok-has_parent.ensures.did) (stepped c.in_ok-is_free.ensures.did)) c.args.catalog.now c.requires.may in
    record { listed = c.requires.listed; form = c.in_ok-has_parent.ensures.form c.if-not-branch.false; heaps = may.heaps; knows = may.knows }

pub returns-in_err-is_free-clause-did : goal.returns-in_err-is_free-clause-did
returns-in_err-is_free-clause-did g c = fails _ c.from_residual-in_err-is_free.ensures.1 (λ key none. absurd none) (omega arith) (then_call _ (stepped c.in_ok-has_parent.ensures.did) c.in_err-is_free.ensures.did)

pub returns-clause-can : goal.returns-clause-can
returns-clause-can g c =
    let step0 = stepped c.in_ok-has_parent.ensures.did in
    let step1 = then step0 (stepped c.in_ok-is_free.ensures.did) in
    IfOk-weaker c.has_left.result _ _ (λ found has told tables spells. (
      (λ yes.
          let link = some_of (link_at c.args.catalog.now.listing c.args.membership.link) c.requires.listed in
          let child = child_listed spells c.args.membership.link link.0 link.1 in
          let free = (c.in_ok-is_free.ensures.is (told_then step0 told) tables link.0 child.0 (spells_then step0 c.args.catalog.now told spells) child.1).0 c.if-not-branch-2.false in
          record {
            link = link.0;
            child = child.0;
            listed = child.1;
            there = free.there;
            under = (c.in_ok-has_parent.ensures.has told tables link.0 child.0 spells child.1).0 c.if-not-branch.false;
            outside = free.outside;
            behind = (has (told_then step1 told) tables link.0 (spells_then step1 c.args.catalog.now told spells) link.1).0 yes;
          }),
      (λ can. (has (told_then step1 told) tables can.link (spells_then step1 c.args.catalog.now told spells) can.listed.at).1 can.behind),
    )) c.has_left.ensures.has

pub returns-clause-form : goal.returns-clause-form
returns-clause-form g c = IfOk-weaker c.has_left.result _ _ (λ found has yes. c.in_ok-has_parent.ensures.form c.if-not-branch.false) c.has_left.ensures.has

pub returns-clause-did : goal.returns-clause-did
returns-clause-did g c = widens _ (λ key none. absurd none) (λ segment tid none. absurd none) (omega arith)
    (then_call _ (then (stepped c.in_ok-has_parent.ensures.did) (stepped c.in_ok-is_free.ensures.did)) c.has_left.ensures.did)

pub returns-then-not-branch-2-clause-did : goal.returns-then-not-branch-2-clause-did
returns-then-not-branch-2-clause-did g c = done _ (within (λ key none. absurd none) (λ segment tid none. absurd none) (omega arith) (then (stepped c.in_ok-has_parent.ensures.did) (stepped c.in_ok-is_free.ensures.did)))
