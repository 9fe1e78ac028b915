use Rattle.std.proofs.lemmas.Result.{IfOk-weaker}
use Rattle.rss_session.specs.Parts.{view}
use Rattle.rss_session.proofs.Looked.{place_found, has_no_place}
use Rattle.rss_session.proofs.Passing.{looks_on}
use Rattle.rss_session.proofs.session.Session.choose.Goals as goal

pub returns-clause-looks : goal.returns-clause-looks
returns-clause-looks g c =
    let chooses = c.choose.ensures in
    looks_on (view g.S.Pages.view c.args.self.now) c.requires.ready (g.met.S.Pages.are_counted c.args.self.now.store.tuples.pages) (g.met.S.Pages.are_counted c.choose.new.self.pages) chooses.did.below chooses.mapped chooses.held chooses.did.heaps

pub returns-clause-pages : goal.returns-clause-pages
returns-clause-pages g c = record { mapped = c.choose.ensures.mapped; held = c.choose.ensures.held }

pub returns-clause-finds : goal.returns-clause-finds
returns-clause-finds g c = place_found (view g.S.Pages.view c.args.self.now) c.args.segment c.args.length c.args.barred.now c.requires.ready c.choose.result c.choose.ensures.named c.choose.ensures.free c.choose.ensures.chosen

pub returns-clause-none : goal.returns-clause-none
returns-clause-none g c = IfOk-weaker c.choose.result _ _ (λ found none is. has_no_place c.requires.ready (none is)) c.choose.ensures.none
