use Rattle.std.proofs.Common.{refl, ap}
use Rattle.rss_base.specs.declared.call.Call.TheVariants.{DropLink}
use Rattle.rss_lock.specs.Table.{told}
use Rattle.rss_scan.specs.Scans.{told as scans_told}
use Rattle.rss_rsi.proofs.Defining.{asks_for, is_defining, as_up}
use Rattle.rss_rsi.proofs.engine.Rss.drop_link.Goals as goal

pub redefine-requires-clause-some : goal.redefine-requires-clause-some
redefine-requires-clause-some g c =
    let store = c.args.self.now in
    let ask = c.in_ok-ask.ensures in
    let to = asks_for g.S.Pages.view (DropLink c.args.name.now) store.session (told store.locks) (scans_told store.scans) store.calls in
    (to, is_defining g.S.Pages.view to ask.session c.drop_link-made.ensures tt (λ tables. refl) (store.ready ask.was_up) (ap told ask.locks) (ap scans_told ask.scans) c.requires.few ask.counted)

pub returns-clause-did : goal.returns-clause-did
unfolding redefine-requires-clause-some
returns-clause-did g c =
    let store = c.args.self.now in
    let ask = c.in_ok-ask.ensures in
    let asked = redefine-requires-clause-some g c.before in
    as_up g.S.Pages.view asked.0 store.down ask.was_up (c.redefine.ensures.did asked.0 asked.1)
