use Rattle.std.proofs.Common.{refl, ap, subst}
use Rattle.std.specs.Prelude.{Option}
use Rattle.rss_base.specs.declared.call.Call.TheVariants.{MakeLink}
use Rattle.rss_base.specs.declared.name.Name.{Name}
use Rattle.rss_lock.specs.Table.{told}
use Rattle.rss_scan.specs.Scans.{told as scans_told}
use Rattle.rss_session.specs.Definitions.{Defining}
use Rattle.rss_rsi.proofs.Defining.{asks_for, is_defining, as_up}
use Rattle.rss_rsi.proofs.engine.Rss.make_link.Goals as goal

pub redefine-requires-clause-some : goal.redefine-requires-clause-some
redefine-requires-clause-some g c =
    let store = c.args.self.now in
    let ask = c.in_ok-ask.ensures in
    let to = asks_for g.S.Pages.view (MakeLink c.args.name.now c.args.parent.now c.args.child.now) store.session (told store.locks) (scans_told store.scans) store.calls in
    let made = subst (λ (parent : Option Name). Defining g.S.Pages.view c.ask.new.self.session c.make_link-made.new.self (MakeLink c.args.name.now parent c.args.child.now) c.make_link-made.result) c.as_ref.ensures.value c.make_link-made.ensures in
    (to, is_defining g.S.Pages.view to ask.session made c.requires.name (λ tables. refl) (store.ready ask.was_up) (ap told ask.locks) (ap scans_told ask.scans) c.requires.few ask.counted)

pub returns-clause-did : goal.returns-clause-did
unfolding redefine-requires-clause-some
returns-clause-did g c =
    let store = c.args.self.now in
    let ask = c.in_ok-ask.ensures in
    let asked = redefine-requires-clause-some g c.before in
    as_up g.S.Pages.view asked.0 store.down ask.was_up (c.redefine.ensures.did asked.0 asked.1)
