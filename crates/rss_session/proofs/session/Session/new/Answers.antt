use Rattle.rss_trans.specs.Tables.{told}
use Rattle.rss_store.specs.Parts.{view as store_view}
use Rattle.rss_session.proofs.Fresh.{fresh_ready, fresh_shows}
use Rattle.rss_session.proofs.session.Session.new.Goals as goal

pub returns-clause-ready : goal.returns-clause-ready
returns-clause-ready g c =
    fresh_ready (store_view g.S.Pages.view c.args.store) (told c.new.result) c.heap-heap.result _ _ c.new.ensures.none c.new.ensures.since c.new.ensures.since_of c.heap-heap.ensures c.entries_of-entries.ensures c.none_survived.ensures
    c.requires.ready c.requires.saved (g.met.S.Pages.are_counted c.args.store.tuples.pages) c.requires.room

pub returns-clause-shows : goal.returns-clause-shows
returns-clause-shows g c =
    fresh_shows (store_view g.S.Pages.view c.args.store) (told c.new.result) c.heap-heap.result _ _ c.new.ensures.none c.new.ensures.since c.new.ensures.since_of c.heap-heap.ensures c.entries_of-entries.ensures c.none_survived.ensures
    c.requires.ready c.requires.saved
