use Rattle.std.proofs.Common.{◌≡◌, subst, sym}
use Rattle.std.specs.Prelude.{Option, IfOk}
use Rattle.std.proofs.lemmas.Result.{IfOk-weaker}
use Rattle.rss_base.specs.Listings.{link_at}
use Rattle.rss_base.specs.Prefixes.{last_of}
use Rattle.rss_base.specs.declared.tid.Tid.{Tid}
use Rattle.rss_members.specs.Calls.{HasForm}
use Rattle.rss_model.proofs.LogLists.{some_of}
use Rattle.rss_session.specs.Linking.{SaysOfChain}
use Rattle.rss_session.specs.Parts.{view}
use Rattle.rss_session.proofs.LinksLooked.{looks_at, idle_at, without_parent, may_ask_unary, says_unary}
use Rattle.rss_session.proofs.session.Session.find_last.Goals as goal

pub find_last_below-requires-clause-form : goal.find_last_below-requires-clause-form
find_last_below-requires-clause-form g c = subst (HasForm c.args.self.now.store.catalog.listing c.args.link) c.in-Some.is c.requires.form

pub returns-in-Some-clause-finds : goal.returns-in-Some-clause-finds
returns-in-Some-clause-finds g c =
    subst (λ (p : Option Tid). IfOk c.find_last_below.result (λ last. SaysOfChain (view g.S.Pages.view c.args.self.now) c.args.link p (λ tids. last ≡ last_of tids))) (sym c.in-Some.is) c.find_last_below.ensures.finds

pub last_of-requires : goal.last_of-requires
last_of-requires g c =
    let its = some_of (link_at c.args.self.now.store.catalog.listing c.args.link) c.requires.listed in
    may_ask_unary c.requires.ready c.args.link its.0 its.1 (without_parent its.0.parent c.args.parent (c.requires.form its.0 its.1) c.in-None.is)

pub returns-in-None-clause-looks : goal.returns-in-None-clause-looks
returns-in-None-clause-looks g c = looks_at (view g.S.Pages.view c.args.self.now) c.requires.ready (g.met.S.Pages.are_counted c.args.self.now.store.tuples.pages) (g.met.S.Pages.are_counted c.last_of.new.tuples.pages) c.last_of.ensures.did

pub returns-in-None-clause-idle : goal.returns-in-None-clause-idle
returns-in-None-clause-idle g c = idle_at (view g.S.Pages.view c.args.self.now) c.last_of.ensures.did

pub returns-in-None-clause-finds : goal.returns-in-None-clause-finds
returns-in-None-clause-finds g c =
    let its = some_of (link_at c.args.self.now.store.catalog.listing c.args.link) c.requires.listed in
    subst (λ (p : Option Tid). IfOk c.last_of.result (λ last. SaysOfChain (view g.S.Pages.view c.args.self.now) c.args.link p (λ tids. last ≡ last_of tids))) (sym c.in-None.is)
    (IfOk-weaker c.last_of.result _ _ (λ last answers.
    says_unary c.requires.ready c.args.link its.0 its.1 (without_parent its.0.parent c.args.parent (c.requires.form its.0 its.1) c.in-None.is) (λ tids. last ≡ last_of tids) answers) c.last_of.ensures.last)
