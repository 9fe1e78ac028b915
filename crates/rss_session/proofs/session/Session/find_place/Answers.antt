use Rattle.std.proofs.Common.{Bool, refl, subst}
use Rattle.std.specs.Prelude.{None}
use Rattle.std.proofs.lemmas.Result.{IfOk-weaker}
use Rattle.rss_link.proofs.TupleSteps.{stepped, then_call}
use Rattle.rss_members.specs.Calls.{FindsTuple, FindsPlace}
use Rattle.rss_session.specs.Parts.{view}
use Rattle.rss_session.proofs.Behind.{looks_as, looks_failed}
use Rattle.rss_session.proofs.LinksLooked.{looks_at, idle_at, members_of, may_ask_below, says_below, says_absent}
use Rattle.rss_session.proofs.session.Session.find_place.Goals as goal

pub returns-in_err-is_there-clause-looks : goal.returns-in_err-is_there-clause-looks
returns-in_err-is_there-clause-looks g c =
    looks_failed c.from_residual.result c.from_residual.ensures.1
    (looks_at (view g.S.Pages.view c.args.self.now) c.requires.ready (g.met.S.Pages.are_counted c.args.self.now.store.tuples.pages) (g.met.S.Pages.are_counted c.is_there.new.tuples.pages) c.in_err-is_there.ensures.did)

pub returns-in_err-is_there-clause-idle : goal.returns-in_err-is_there-clause-idle
returns-in_err-is_there-clause-idle g c = idle_at (view g.S.Pages.view c.args.self.now) c.is_there.ensures.did

pub returns-then-not-branch-clause-looks : goal.returns-then-not-branch-clause-looks
returns-then-not-branch-clause-looks g c =
    looks_as None (looks_at (view g.S.Pages.view c.args.self.now) c.requires.ready (g.met.S.Pages.are_counted c.args.self.now.store.tuples.pages) (g.met.S.Pages.are_counted c.is_there.new.tuples.pages) c.in_ok-is_there.ensures.did)

pub returns-then-not-branch-clause-idle : goal.returns-then-not-branch-clause-idle
returns-then-not-branch-clause-idle g c = idle_at (view g.S.Pages.view c.args.self.now) c.is_there.ensures.did

pub returns-then-not-branch-clause-finds : goal.returns-then-not-branch-clause-finds
returns-then-not-branch-clause-finds g c =
    let old = view g.S.Pages.view c.args.self.now in
    let found = subst (λ (b : Bool). FindsTuple (members_of old) c.link.result.now.child c.args.child b) c.if-not-branch.true c.in_ok-is_there.ensures.finds in
    says_absent c.requires.ready (stepped c.in_ok-is_there.ensures.did) c.link.result.now.child c.args.child c.args.link c.link.result.now c.link.ensures.is refl found

pub place_of-requires : goal.place_of-requires
place_of-requires g c =
    let old = view g.S.Pages.view c.args.self.now in
    let found = subst (λ (b : Bool). FindsTuple (members_of old) c.link.result.now.child c.args.child b) c.if-not-branch.false c.in_ok-is_there.ensures.finds in
    may_ask_below c.requires.ready (stepped c.in_ok-is_there.ensures.did) c.link.result.now.child c.args.child c.args.link c.link.result.now c.link.ensures.is refl found

pub returns-clause-looks : goal.returns-clause-looks
returns-clause-looks g c =
    looks_at (view g.S.Pages.view c.args.self.now) c.requires.ready (g.met.S.Pages.are_counted c.args.self.now.store.tuples.pages) (g.met.S.Pages.are_counted c.place_of.new.tuples.pages)
    (then_call c.place_of.result (stepped c.in_ok-is_there.ensures.did) c.place_of.ensures.did)

pub returns-clause-idle : goal.returns-clause-idle
returns-clause-idle g c = idle_at (view g.S.Pages.view c.args.self.now) (then_call c.place_of.result (stepped c.in_ok-is_there.ensures.did) c.place_of.ensures.did)

pub returns-clause-finds : goal.returns-clause-finds
returns-clause-finds g c =
    let old = view g.S.Pages.view c.args.self.now in
    let there = subst (λ (b : Bool). FindsTuple (members_of old) c.link.result.now.child c.args.child b) c.if-not-branch.false c.in_ok-is_there.ensures.finds in
    IfOk-weaker c.place_of.result _ _ (λ found answers.
    says_below c.requires.ready (stepped c.in_ok-is_there.ensures.did) c.link.result.now.child c.args.child c.args.link c.link.result.now c.link.ensures.is refl (λ contents name. FindsPlace c.args.link c.args.child contents name found) there answers) c.place_of.ensures.finds
