use Rattle.std.proofs.lemmas.Result.{IfOk-weaker}
use Rattle.rss_base.specs.Listings.{image_at}
use Rattle.rss_base.proofs.Steps.{all_mapped, all_held}
use Rattle.rss_model.specs.Machine.{now}
use Rattle.rss_model.proofs.LogLists.{some_of}
use Rattle.rss_session.specs.Parts.{view}
use Rattle.rss_session.proofs.Looked.{fits_shown}
use Rattle.rss_session.proofs.Behind.{costs_nothing}
use Rattle.rss_session.proofs.Passing.{looks_on}
use Rattle.rss_session.proofs.session.Session.next_entry.Goals as goal

pub next_entry-requires-clause-may : goal.next_entry-requires-clause-may
next_entry-requires-clause-may g c = record { heaps = c.requires.ready.store.heaps; tables = c.requires.ready.store.tables }

pub returns-clause-looks : goal.returns-clause-looks
returns-clause-looks g c =
    let some = some_of (image_at c.args.self.now.store.catalog.listing c.args.number) c.requires.there in
    let did = c.next_entry.ensures.did some.0 some.1 in
    looks_on (view g.S.Pages.view c.args.self.now) c.requires.ready (g.met.S.Pages.are_counted c.args.self.now.store.tuples.pages) (g.met.S.Pages.are_counted c.next_entry.new.tuples.pages) did (all_mapped did.step) (all_held did.step) c.next_entry.ensures.heaps

pub returns-clause-pages : goal.returns-clause-pages
returns-clause-pages g c =
    let some = some_of (image_at c.args.self.now.store.catalog.listing c.args.number) c.requires.there in
    let did = c.next_entry.ensures.did some.0 some.1 in
    record { mapped = all_mapped did.step; held = all_held did.step }

pub returns-clause-idle : goal.returns-clause-idle
returns-clause-idle g c =
    let some = some_of (image_at c.args.self.now.store.catalog.listing c.args.number) c.requires.there in
    costs_nothing (c.next_entry.ensures.did some.0 some.1).step

pub returns-clause-costs : goal.returns-clause-costs
returns-clause-costs g c = λ image at.
    let passes = (c.next_entry.ensures.did image at).step.passes in
    (passes.asks_high, passes.writes_high)

pub returns-clause-next : goal.returns-clause-next
returns-clause-next g c = IfOk-weaker c.next_entry.result _ _ (λ found next told state kept shows.
    next told (now state) shows.store.spells (fits_shown c.requires.ready kept shows)) c.next_entry.ensures.next
