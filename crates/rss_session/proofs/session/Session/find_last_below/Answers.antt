use Rattle.std.proofs.Common.{◌≡◌, Bool, ap, refl, sym, ◌∙◌, subst}
use Rattle.std.specs.Prelude.{None, is_some}
use Rattle.std.proofs.lemmas.Bool.{true≢false}
use Rattle.std.proofs.lemmas.Result.{IfOk-weaker}
use Rattle.rss_base.specs.Prefixes.{last_of}
use Rattle.rss_link.proofs.TupleSteps.{stepped, then_call}
use Rattle.rss_members.specs.Calls.{FindsTuple}
use Rattle.rss_session.specs.Parts.{view}
use Rattle.rss_session.proofs.Behind.{looks_as, looks_failed}
use Rattle.rss_session.proofs.LinksLooked.{upper_there, looks_at, idle_at, members_of, may_ask_above, says_above, says_bare}
use Rattle.rss_session.proofs.session.Session.find_last_below.Goals as goal

pub returns-in_err-is_there-clause-looks : goal.returns-in_err-is_there-clause-looks
returns-in_err-is_there-clause-looks g c =
    looks_failed c.from_residual.result c.from_residual.ensures.1
    (looks_at (view g.S.Pages.view c.args.self.now) c.requires.ready (g.met.S.Pages.are_counted c.args.self.now.store.tuples.pages) (g.met.S.Pages.are_counted c.is_there.new.tuples.pages) c.in_err-is_there.ensures.did)

pub returns-in_err-is_there-clause-idle : goal.returns-in_err-is_there-clause-idle
returns-in_err-is_there-clause-idle g c = idle_at (view g.S.Pages.view c.args.self.now) c.is_there.ensures.did

pub unreachable-requires : goal.unreachable-requires
unreachable-requires g c = absurd (true≢false (sym (c.requires.form c.link.result.now c.link.ensures.is) ∙ ap is_some c.in_default.is))

pub is_there-requires-clause-listed : goal.is_there-requires-clause-listed
is_there-requires-clause-listed g c = upper_there c.args.self.now.store.catalog.listing c.link.result.now.child c.link.result.now.parent c.in-Some.is c.link.ensures.safe.parent

pub returns-then-not-branch-clause-looks : goal.returns-then-not-branch-clause-looks
returns-then-not-branch-clause-looks g c =
    looks_as None (looks_at (view g.S.Pages.view c.args.self.now) c.requires.ready (g.met.S.Pages.are_counted c.args.self.now.store.tuples.pages) (g.met.S.Pages.are_counted c.is_there.new.tuples.pages) c.in_ok-is_there.ensures.did)

pub returns-then-not-branch-clause-idle : goal.returns-then-not-branch-clause-idle
returns-then-not-branch-clause-idle g c = idle_at (view g.S.Pages.view c.args.self.now) c.is_there.ensures.did

pub returns-then-not-branch-clause-finds : goal.returns-then-not-branch-clause-finds
returns-then-not-branch-clause-finds g c =
    let old = view g.S.Pages.view c.args.self.now in
    let found = subst (λ (b : Bool). FindsTuple (members_of old) c.in-Some.relation c.args.parent b) c.if-not-branch.true c.in_ok-is_there.ensures.finds in
    says_bare c.requires.ready (stepped c.in_ok-is_there.ensures.did) c.in-Some.relation c.args.parent c.args.link c.link.result.now c.link.ensures.is c.in-Some.is (λ tids. None ≡ last_of tids) refl found

pub last_of-requires : goal.last_of-requires
last_of-requires g c =
    let old = view g.S.Pages.view c.args.self.now in
    let found = subst (λ (b : Bool). FindsTuple (members_of old) c.in-Some.relation c.args.parent b) c.if-not-branch.false c.in_ok-is_there.ensures.finds in
    may_ask_above c.requires.ready (stepped c.in_ok-is_there.ensures.did) c.in-Some.relation c.args.parent c.args.link c.link.result.now c.link.ensures.is c.in-Some.is found

pub returns-clause-looks : goal.returns-clause-looks
returns-clause-looks g c =
    looks_at (view g.S.Pages.view c.args.self.now) c.requires.ready (g.met.S.Pages.are_counted c.args.self.now.store.tuples.pages) (g.met.S.Pages.are_counted c.last_of.new.tuples.pages)
    (then_call c.last_of.result (stepped c.in_ok-is_there.ensures.did) c.last_of.ensures.did)

pub returns-clause-idle : goal.returns-clause-idle
returns-clause-idle g c = idle_at (view g.S.Pages.view c.args.self.now) (then_call c.last_of.result (stepped c.in_ok-is_there.ensures.did) c.last_of.ensures.did)

pub returns-clause-finds : goal.returns-clause-finds
returns-clause-finds g c =
    let old = view g.S.Pages.view c.args.self.now in
    let there = subst (λ (b : Bool). FindsTuple (members_of old) c.in-Some.relation c.args.parent b) c.if-not-branch.false c.in_ok-is_there.ensures.finds in
    IfOk-weaker c.last_of.result _ _ (λ last answers.
    says_above c.requires.ready (stepped c.in_ok-is_there.ensures.did) c.in-Some.relation c.args.parent c.args.link c.link.result.now c.link.ensures.is c.in-Some.is (λ tids. last ≡ last_of tids) there answers) c.last_of.ensures.last
